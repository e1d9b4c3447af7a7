-- What the cue tariff means.
use Rattle.std.specs.Prelude.{◌≡◌, ℕ, ◌<◌, ◌≤◌, List, length, Some, None, Option, slice_get, slice_index_or}
use Rattle.costs.specs.Points.{amount, points_of, Points}
use Rattle.tables.specs.Filled.{items_of, next_place}
use Rattle.tariffs.specs.Meaning.{most_curves}
use Rattle.tariffs.specs.Cue.{cue_at}
use Rattle.tariffs.specs.declared.cue_curve.CueCurve.{CueCurve}
use Rattle.tariffs.specs.declared.cue_tariff.CueTariff.{CueTariff}

-- the records that it has
abbrev pub records_of : CueTariff → List CueCurve
records_of s = items_of s.records

-- what a record means, and 0 points at every tick where there is none
abbrev pub entry_at : Option CueCurve → ℕ → Points
entry_at (Some c) t = cue_at c t
entry_at None t = points_of 0

-- what the record of number k means
abbrev pub record_at : List CueCurve → ℕ → ℕ → Points
record_at cs k t = entry_at (slice_get cs k) t

-- c is the cost at tick t of the record of number k
pub record RecordLaw (cs : List CueCurve) (k t : ℕ) (c : Points) : Type 0 where
  -- below the count it is the cost of the record that stands at place k
  pub within : k < length cs → (any : CueCurve) → c ≡ cue_at (slice_index_or cs k any) t
  -- from the count on there are no points
  pub past : length cs ≤ k → amount c ≡ 0

-- the number of one record more: the lowest that no record has, or None where all are taken
abbrev pub next_number : List CueCurve → Option ℕ
next_number cs = next_place most_curves cs
