-- At the end nothing that was found is unseen, so what was found is closed under ties. Each fact of the loop stands under a step of its own, which `grind` does not match.
use Rattle.moves.specs.Number.{number}
use Rattle.sheet.specs.Meaning.{meaning}
use Rattle.sheet.proofs.Keeps.{tie_within}
use Rattle.sheet.proofs.Reach.{found_both, search_goes_on, search_ends}
use Rattle.sheet.proofs.Sheets.{sheet_sound}
use Rattle.sheet.proofs.sheet.Sheet.led_to.Goals as goal

pub loop-m-preserved : goal.loop-m-preserved
loop-m-preserved c =
    search_goes_on c.loop-m.invariant (number c.in-Some.m) (found_both c.loop-m.invariant c.intersection.ensures.held (number c.in-Some.m) c.in-Some.ensures.held) c.waiting_for.ensures c.union-found.ensures.held c.without-unseen.ensures.held

pub returns : goal.returns
returns c =
    search_ends c.loop-m.invariant c.intersection.ensures.held (number c.args.from) (tie_within (meaning c.args.self.now) (sheet_sound c.args.self.now)) c.waiting_for-found.ensures c.in_default.ensures.held
