-- So many calls were made, and the rest of the answers is as it was.
use Rattle.sheet.specs.Meaning.{meaning}
use Rattle.sheet.proofs.Replays.{Ran}
use Rattle.sheet.proofs.runs.make_all.Given as goal

abbrev pub invariant-loop-i : goal.invariant-loop-i
invariant-loop-i l = Ran l.calls (meaning l.initial.sheet) l.initial.answers (meaning l.sheet) l.answers l.i
