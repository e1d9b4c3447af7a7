-- Each turn takes one more move into the greatest finish.
use Rattle.std.proofs.Common.{arith}
use Rattle.moves.specs.Number.{number}
use Rattle.sheet.specs.Ledger.{release_of}
use Rattle.sheet.specs.Meaning.{meaning}
use Rattle.finite.proofs.Walks.{greatest_passes}
use Rattle.rule.proofs.Steps.{finishes}
use Rattle.rule.proofs.sweep.Turn.earliest.Goals as goal

pub loop-i-preserved : goal.loop-i-preserved
loop-i-preserved c =
    let L = meaning c.args.self.now.sweep.now.sheet.now in
    let taken = c.in-Some.ensures.steps in
    omega (arith, greatest_passes _ c.in-Some.i.below taken.held taken.rest (finishes L (number c.args.self.now.m)) (release_of L (number c.args.self.now.m)))
