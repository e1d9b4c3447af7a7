-- What was found so far is tied to a move of the set, and what waits for the moves that were looked at was found.
use Rattle.moves.specs.Members.{holds}
use Rattle.moves.specs.Walk.{left_of}
use Rattle.sheet.specs.Meaning.{meaning}
use Rattle.rule.proofs.Steps.{Held}
use Rattle.rule.proofs.sweep.Sweep.held_up.Given as goal

abbrev pub invariant-loop-m : goal.invariant-loop-m
invariant-loop-m l = Held (meaning l.self.sheet.now).tie (holds l.self.left) (holds (left_of l.m-iterator)) (holds l.held)
