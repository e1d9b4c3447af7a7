-- The sweep is over the sheet, and each turn leaves one move less.
use Rattle.std.proofs.Common.{◌≡◌, length}
use Rattle.moves.specs.Members.{members}
use Rattle.rule.proofs.sweep.ready_times.Given as goal

abbrev pub invariant-loop : goal.invariant-loop
invariant-loop l = l.sweep.sheet.now ≡ l.sheet

abbrev pub decreases-loop : goal.decreases-loop
decreases-loop l = length (members l.sweep.left)
