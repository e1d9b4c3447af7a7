-- So far it is the greatest release of the moves that were looked at.
use Rattle.std.proofs.Common.{◌≡◌}
use Rattle.finite.proofs.Walks.{greatest_passed}
use Rattle.moves.specs.Members.{holds}
use Rattle.moves.specs.Room.{room}
use Rattle.moves.specs.Walk.{left_of}
use Rattle.sheet.specs.Ledger.{release_of}
use Rattle.sheet.specs.Meaning.{meaning}
use Rattle.sheet.proofs.sheet.Sheet.latest_release.Given as goal

abbrev pub invariant-loop-m : goal.invariant-loop-m
invariant-loop-m l = l.latest ≡ greatest_passed room (holds (left_of l.m-iterator)) 0 (release_of (meaning l.self))
