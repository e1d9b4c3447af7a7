-- So far it is the sum of the lengths of the moves that were looked at.
use Rattle.std.proofs.Common.{◌≡◌}
use Rattle.finite.proofs.Walks.{sum_passed}
use Rattle.moves.specs.Members.{holds}
use Rattle.moves.specs.Room.{room}
use Rattle.moves.specs.Walk.{left_of}
use Rattle.sheet.specs.Ledger.{length_of}
use Rattle.sheet.specs.Meaning.{meaning}
use Rattle.sheet.proofs.sheet.Sheet.total_length.Given as goal

abbrev pub invariant-loop-m : goal.invariant-loop-m
invariant-loop-m l = l.total ≡ sum_passed room (holds (left_of l.m-iterator)) (length_of (meaning l.self))
