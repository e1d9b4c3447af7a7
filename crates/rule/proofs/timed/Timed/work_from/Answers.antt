-- Each turn adds the work of one more move; all of it is within the span of the sheet.
use Rattle.std.proofs.Common.{arith}
use Rattle.finite.proofs.Walks.{sum_passes}
use Rattle.moves.specs.Members.{holds}
use Rattle.moves.specs.Walk.{left_of}
use Rattle.sheet.specs.Meaning.{meaning}
use Rattle.sheet.proofs.Sheets.{sheet_sound}
use Rattle.rule.proofs.Ends.{adds, work_short}
use Rattle.rule.proofs.timed.Timed.work_from.Goals as goal

pub loop-k-preserved : goal.loop-k-preserved
loop-k-preserved c = let taken = c.in-Some.ensures.steps in omega (arith, sum_passes _ c.in-Some.k.below taken.held taken.rest (adds (meaning c.args.self.now.sheet.now) c.args.start))

pub overflow_add-work : goal.overflow_add-work
overflow_add-work c =
    let L = meaning c.args.self.now.sheet.now in
    let taken = c.in-Some.ensures.steps in
    omega (
      arith,
      sum_passes _ c.in-Some.k.below taken.held taken.rest (adds L c.args.start),
      work_short L (sheet_sound c.args.self.now.sheet.now) c.args.start (holds (left_of c.next.new.self)),
    )
