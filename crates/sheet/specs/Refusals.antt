-- Which calls are refused, for which reason, and what a call makes of the ledger.
use Rattle.std.specs.Prelude.{ℕ, Bool, cond, not, ◌||◌, Some, None, Option, nat_le, nat_lt}
use Rattle.moves.specs.Room.{room}
use Rattle.time.specs.Ticks.{last_tick}
use Rattle.sheet.specs.Ledger.{Ledger, on, span, entered, tied, untied, struck}
use Rattle.sheet.specs.Chains.{closes}
use Rattle.sheet.specs.Facts.{in_range}
use Rattle.sheet.specs.declared.refusal.Refusal.{Refusal}
use Rattle.sheet.specs.declared.refusal.Refusal.TheVariants.{NumberTooHigh, NumberTaken, MoveAbsent, OutOfRange, SpanTooLong, ChainReturns, TieAbsent}
use Rattle.sheet.specs.declared.call.Call.{Call}
use Rattle.sheet.specs.declared.call.Call.TheVariants.{Enter, Tie, Cut, Strike, Plan, Floor, Check}

-- the number by which each refusal is known
abbrev pub number_of : Refusal → ℕ
number_of NumberTooHigh = 1
number_of NumberTaken = 2
number_of MoveAbsent = 3
number_of OutOfRange = 4
number_of SpanTooLong = 5
number_of ChainReturns = 6
number_of TieAbsent = 7

-- the number of the refusal e where the test passes, and else what the tests after it say
abbrev pub refuse : Bool → Refusal → Option ℕ → Option ℕ
refuse test e later = cond test (Some (number_of e)) later

-- the two refusals of a call that names one move, ahead of the later ones
abbrev pub named : ℕ → Ledger → Option ℕ → Option ℕ
named n L later = refuse (nat_le room n) NumberTooHigh (refuse (not (on L n)) MoveAbsent later)

-- the same of a call that names two: both numbers are looked at before either move is looked for
abbrev pub both_named : ℕ → ℕ → Ledger → Option ℕ → Option ℕ
both_named i j L later = refuse (nat_le room i || nat_le room j) NumberTooHigh (refuse (not (on L i) || not (on L j)) MoveAbsent later)

-- the number of the first refusal that applies to a call on a ledger, or None where none does
abbrev pub refusal : Call → Ledger → Option ℕ
refusal (Enter n r l c) L =
    refuse (nat_le room n) NumberTooHigh
    (refuse (on L n) NumberTaken
    (refuse (not (in_range r l c)) OutOfRange
    (refuse (nat_lt last_tick (span (entered n (record { release = r; length = l; curve = c }) L))) SpanTooLong
    None)))
refusal (Tie i j) L = both_named i j L (refuse (closes L.tie i j) ChainReturns None)
refusal (Cut i j) L = both_named i j L (refuse (not (L.tie i j)) TieAbsent None)
refusal (Strike n) L = named n L None
-- the questions to the planner: the sheet has nothing to refuse in them
refusal Plan L = None
refusal Floor L = None
refusal Check L = None

-- what a call makes of the ledger where nothing refuses it
abbrev pub changed : Call → Ledger → Ledger
changed (Enter n r l c) L = entered n (record { release = r; length = l; curve = c }) L
changed (Tie i j) L = tied i j L
changed (Cut i j) L = untied i j L
changed (Strike n) L = struck n L
changed Plan L = L
changed Floor L = L
changed Check L = L

-- a call is fed to the ledger: refused, it leaves the ledger as it is
abbrev pub feed : Call → Ledger → Ledger
feed c L = elim (refusal c L) [ Some _ ↦ L | None ↦ changed c L ]
