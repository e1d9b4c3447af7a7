-- What a sheet means: its ledger. No contract speaks of anything else of it.
use Rattle.std.specs.Prelude.{◌≡◌, ℕ, ◌<◌, List, length, drop, Some, None, Ok, Err, Option, Result, slice_index_or}
use Rattle.sheet.specs.Ledger.{Ledger}
use Rattle.sheet.specs.Parts.{ledger_of}
use Rattle.sheet.specs.Refusals.{number_of}
use Rattle.sheet.specs.declared.refusal.Refusal.{Refusal}
use Rattle.sheet.specs.declared.sheet.Sheet.{Sheet}

-- the ledger of a sheet
abbrev pub meaning : Sheet → Ledger
meaning s = ledger_of s.entries

-- the number of the refusal that a call answered, or None where it was accepted
abbrev pub refused : {A : Type 0} → Result A Refusal → Option ℕ
refused (Ok _) = None
refused (Err e) = Some (number_of e)

-- the places of a list of answers have the numbers that are listed, as far as there are places
abbrev pub Answers : List (Result (Unit {0}) Refusal) → List (Option ℕ) → Type 0
Answers rs ns = (k : ℕ) → k < length rs → k < length ns → refused (slice_index_or rs k (Ok tt)) ≡ slice_index_or ns k None

-- the places from n on are as they were
abbrev pub Later : ℕ → List (Result (Unit {0}) Refusal) → List (Result (Unit {0}) Refusal) → Type 0
Later n old new = drop n new ≡ drop n old
