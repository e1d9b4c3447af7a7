-- So far it is the latest tick over the moves that were looked at, and the others to be looked at are on the sheet.
use Rattle.std.proofs.Common.{◌≡◌, ℕ, true}
use Rattle.moves.specs.Members.{holds}
use Rattle.moves.specs.Walk.{left_of}
use Rattle.sheet.specs.Ledger.{on}
use Rattle.sheet.specs.Meaning.{meaning}
use Rattle.finite.proofs.Walks.{greatest_passed}
use Rattle.moves.specs.Room.{room}
use Rattle.rule.proofs.Ends.{through_at}
use Rattle.rule.proofs.timed.Timed.through.Given as goal

abbrev pub invariant-loop-j : goal.invariant-loop-j
invariant-loop-j l =
    (l.latest ≡ greatest_passed room (holds (left_of l.j-iterator)) 0 (through_at (meaning l.self.sheet.now)))
    × ((k : ℕ) → holds (left_of l.j-iterator) k ≡ true → on (meaning l.self.sheet.now) k ≡ true)
