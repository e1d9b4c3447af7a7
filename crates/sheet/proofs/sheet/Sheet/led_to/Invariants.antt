-- What is found can be reached from what was found first; that is found; and what a move that was seen is tied to is found.
use Rattle.std.proofs.Common.{length}
use Rattle.moves.specs.Members.{holds, members}
use Rattle.sheet.specs.Meaning.{meaning}
use Rattle.sheet.proofs.Reach.{Searched}
use Rattle.sheet.proofs.sheet.Sheet.led_to.Given as goal

abbrev pub invariant-loop-m : goal.invariant-loop-m
invariant-loop-m l = Searched (meaning l.self).tie (holds l.initial.found) (holds l.found) (holds l.unseen)

-- each turn sees one move more
abbrev pub decreases-loop-m : goal.decreases-loop-m
decreases-loop-m l = length (members l.unseen)
