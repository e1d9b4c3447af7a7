-- The entries with one tie less mean the ledger without it, which has the moves that there were. The second move stands only under a λ of the promise, so the lemma is applied by hand.
use Rattle.std.proofs.Common.{◌∙◌, sym, ap}
use Rattle.moves.specs.Number.{number}
use Rattle.sheet.specs.Ledger.{Ledger, on}
use Rattle.sheet.proofs.Changes.{without_tie_parts}
use Rattle.sheet.proofs.sheet.Sheet.without_tie.Goals as goal

pub with_parts-requires-clause-listed : goal.with_parts-requires-clause-listed
with_parts-requires-clause-listed c k =
    let parts = without_tie_parts c.args.self.now (number c.args.tie.before) c.index.result c.index.ensures.place c.args.tie.before.below c.without_follower.result c.entry.result (number c.args.tie.after) c.entry.ensures.figures c.entry.ensures.waits c.without_follower.ensures.figures c.without_follower.ensures.waits in
    c.args.self.now.listed k ∙ sym (ap (λ (L : Ledger). on L k) parts.0)

pub with_parts-requires-clause-sound : goal.with_parts-requires-clause-sound
with_parts-requires-clause-sound c =
    (without_tie_parts c.args.self.now (number c.args.tie.before) c.index.result c.index.ensures.place c.args.tie.before.below c.without_follower.result c.entry.result (number c.args.tie.after) c.entry.ensures.figures c.entry.ensures.waits c.without_follower.ensures.figures c.without_follower.ensures.waits).1

pub returns : goal.returns
returns c =
    c.with_parts.ensures
    ∙ (without_tie_parts c.args.self.now (number c.args.tie.before) c.index.result c.index.ensures.place c.args.tie.before.below c.without_follower.result c.entry.result (number c.args.tie.after) c.entry.ensures.figures c.entry.ensures.waits c.without_follower.ensures.figures c.without_follower.ensures.waits).0
