-- So far it is the work of the moves that were looked at.
use Rattle.std.proofs.Common.{◌≡◌}
use Rattle.moves.specs.Walk.{left_of}
use Rattle.sheet.specs.Meaning.{meaning}
use Rattle.finite.proofs.Walks.{sum_passed}
use Rattle.moves.specs.Members.{holds}
use Rattle.moves.specs.Room.{room}
use Rattle.rule.proofs.Ends.{adds}
use Rattle.rule.proofs.timed.Timed.work_from.Given as goal

abbrev pub invariant-loop-k : goal.invariant-loop-k
invariant-loop-k l = l.work ≡ sum_passed room (holds (left_of l.k-iterator)) (adds (meaning l.self.sheet.now) l.start)
