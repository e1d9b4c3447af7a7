-- Each turn makes one call, which answers and feeds as the definitions say; at the end no call is left.
use Rattle.std.proofs.Common.{arith}
use Rattle.sheet.specs.declared.call.Call.TheVariants.{Enter}
use Rattle.sheet.proofs.Replays.{ledger_sound, ran_begins, ran_goes_on, ran_answers}
use Rattle.sheet.proofs.runs.make_all.Goals as goal

pub loop-i-init : goal.loop-i-init
loop-i-init c = ran_begins

pub loop-i-preserved : goal.loop-i-preserved
loop-i-preserved c = ran_goes_on c.loop-i.invariant c.apply-answer.result (Enter 0 0 0 0) (omega arith) c.apply-answer.ensures.fed c.apply-answer.ensures.answer c.put.ensures

pub returns-clause-answers : goal.returns-clause-answers
returns-clause-answers c = ran_answers c.loop-i.invariant (omega arith)

pub returns-clause-facts : goal.returns-clause-facts
returns-clause-facts c = ledger_sound
