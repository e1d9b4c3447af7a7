-- The time is the greater of the release and the finishes of the moves that were looked at.
use Rattle.std.proofs.Common.{◌≡◌}
use Rattle.moves.specs.Number.{number}
use Rattle.moves.specs.Walk.{left_of}
use Rattle.sheet.specs.Ledger.{release_of}
use Rattle.sheet.specs.Meaning.{meaning}
use Rattle.finite.proofs.Walks.{greatest_passed}
use Rattle.moves.specs.Members.{holds}
use Rattle.moves.specs.Room.{room}
use Rattle.rule.proofs.Steps.{finishes}
use Rattle.rule.proofs.sweep.Turn.earliest.Given as goal

abbrev pub invariant-loop-i : goal.invariant-loop-i
invariant-loop-i l = l.time ≡ greatest_passed room (holds (left_of l.i-iterator)) (release_of (meaning l.self.sweep.now.sheet.now) (number l.self.m)) (finishes (meaning l.self.sweep.now.sheet.now) (number l.self.m))
