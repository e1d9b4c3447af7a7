-- Each turn takes one more move into the greatest tick; with all of them it is the tick by which the drive is through.
use Rattle.std.proofs.Common.{arith}
use Rattle.std.proofs.lemmas.Bool.Decides.{nat_tests}
use Rattle.moves.specs.Number.{number}
use Rattle.sheet.specs.Meaning.{meaning}
use Rattle.finite.proofs.Walks.{greatest_passes}
use Rattle.rule.proofs.Ends.{through_at}
use Rattle.rule.proofs.timed.Timed.through.Goals as goal

pub loop-j-preserved : goal.loop-j-preserved
loop-j-preserved c =
    let taken = c.in-Some.ensures.steps in
    let here = c.loop-j.invariant.1 (number c.in-Some.j) taken.held in
    let more = greatest_passes _ c.in-Some.j.below taken.held taken.rest (through_at (meaning c.args.self.now.sheet.now)) 0 in
    (grind arith, λ k. grind (arith, nat_tests, taken.rest k, c.loop-j.invariant.1 k))
