-- Each turn adds the length of one more move; all of them together are within the span of the sheet.
use Rattle.std.proofs.Common.{ap, arith}
use Rattle.finite.proofs.Walks.{sum_passes, sum_passed_most}
use Rattle.moves.specs.Members.{holds}
use Rattle.moves.specs.Room.{room}
use Rattle.moves.specs.Walk.{left_of}
use Rattle.sheet.specs.declared.figures.Move.{Move}
use Rattle.sheet.specs.Ledger.{length_of}
use Rattle.sheet.specs.Meaning.{meaning}
use Rattle.sheet.proofs.sheet.Sheet.total_length.Goals as goal

pub loop-m-preserved : goal.loop-m-preserved
loop-m-preserved c =
    let taken = c.in-Some.ensures.steps in
    omega (arith, sum_passes _ c.in-Some.m.below taken.held taken.rest (length_of (meaning c.args.self.now)), ap (λ (f : Move). f.length) c.figures_of-total.ensures)

pub overflow_add-total : goal.overflow_add-total
overflow_add-total c =
    let taken = c.in-Some.ensures.steps in
    omega (
      arith,
      sum_passes _ c.in-Some.m.below taken.held taken.rest (length_of (meaning c.args.self.now)),
      sum_passed_most room (holds (left_of c.next.new.self)) (length_of (meaning c.args.self.now)),
      ap (λ (f : Move). f.length) c.figures_of-total.ensures,
      c.args.self.now.short,
    )
