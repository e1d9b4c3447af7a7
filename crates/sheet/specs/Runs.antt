-- Runs: what a list of calls makes of the ledger, and what each call of it answers.
use Rattle.std.specs.Prelude.{ℕ, List, [], ◌∷◌, Option}
use Rattle.sheet.specs.Ledger.{Ledger, blank}
use Rattle.sheet.specs.Refusals.{refusal, feed}
use Rattle.sheet.specs.declared.call.Call.{Call}

-- the ledger after the calls, each fed in its turn
unfoldable pub fed : List Call → Ledger → Ledger
fed [] L = L
fed (c ∷ cs) L = fed cs (feed c L)

-- the number of the refusal that each of the calls answers, None for one that is accepted
unfoldable pub answered : List Call → Ledger → List (Option ℕ)
answered [] L = []
answered (c ∷ cs) L = refusal c L ∷ answered cs (feed c L)

-- the ledger of a list of calls, made on a sheet that was opened for them
abbrev pub ledger : List Call → Ledger
ledger cs = fed cs blank
