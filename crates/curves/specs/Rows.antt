-- Rows of steps: a tick each, and the points from that tick on.
use Rattle.std.specs.List.{list_all}
use Rattle.std.specs.Prelude.{◌≡◌, ℕ, ◌<◌, ◌≤◌, Bool, cond, ◌&&◌, List, length, drop, zip, fold, None, Decides, Option, nat_le, nat_lt, slice_index_or}
use Rattle.time.specs.Ticks.{last_tick}
use Rattle.costs.specs.Limits.{highest}
use Rattle.costs.specs.Refusals.{unless}
use Rattle.costs.specs.declared.refusal.PricingRefusal.TheVariants.{OutOfRange, RowsUnfit}
use Rattle.curves.specs.Limits.{most_rows}
use Rattle.curves.specs.declared.row.Row.{Row}

-- the row of 0 points from tick 0 on; it is read where there is no row
abbrev pub free_row : Row
free_row = record { tick = 0; points = 0 }

-- the tick of the row at place i
abbrev pub tick_of : List Row → ℕ → ℕ
tick_of rows i = (slice_index_or rows i free_row).tick

-- the points of the row at place i
abbrev pub points_in : List Row → ℕ → ℕ
points_in rows i = (slice_index_or rows i free_row).points

-- the tick and the points of a row are within their ranges
abbrev pub row_in_range : Row → Bool
row_in_range r = nat_le r.tick last_tick && nat_le r.points highest

-- those of each row are
abbrev pub in_range : List Row → Bool
in_range rows = list_all row_in_range rows

-- the same as a statement about each row
abbrev pub InRange : List Row → Type 0
InRange rows = (i : ℕ) → i < length rows → (tick_of rows i ≤ last_tick) × (points_in rows i ≤ highest)

-- from one row to the next the tick strictly rises and the points do not fall
abbrev pub climbs_to : Row × Row → Bool
climbs_to p = nat_lt p.0.tick p.1.tick && nat_le p.0.points p.1.points

-- ticks strictly rise and points never fall from row to row
abbrev pub climbs : List Row → Bool
climbs rows = list_all climbs_to (zip rows (drop 1 rows))

-- the same as a statement about any two rows
abbrev pub Climbs : List Row → Type 0
Climbs rows = (i j : ℕ) → i < j → j < length rows → (tick_of rows i < tick_of rows j) × (points_in rows i ≤ points_in rows j)

-- each of the two tests passes exactly where its statement is true
pub record RowsLaw (rows : List Row) : Type 0 where
  pub ranges : Decides (in_range rows) (InRange rows)
  pub order : Decides (climbs rows) (Climbs rows)

-- the rows make steps: there is at least one, there are at most eight, and they climb
abbrev pub fit : List Row → Bool
fit rows = (nat_le 1 (length rows) && nat_le (length rows) most_rows) && climbs rows

-- the number of the first refusal that applies to rows, or None where they make steps
abbrev pub rows_refusal : List Row → Option ℕ
rows_refusal rows = unless (in_range rows) OutOfRange (unless (fit rows) RowsUnfit None)

-- the points at tick t where they were p before the row r: its own where its tick is at or before t
abbrev pub points_after : ℕ → ℕ → Row → ℕ
points_after t p r = cond (nat_le r.tick t) r.points p

-- the points at tick t: those of the last row at or before it, 0 before the first row
abbrev pub points_at : List Row → ℕ → ℕ
points_at rows t = fold (points_after t) 0 rows

-- p is the points at tick t
pub record PointsLaw (rows : List Row) (t p : ℕ) : Type 0 where
  -- before every row it is 0
  pub before : ((i : ℕ) → i < length rows → t < tick_of rows i) → p ≡ 0
  -- else it is the points of the row at or before t after which every row is later than t
  pub from : (i : ℕ) → i < length rows → tick_of rows i ≤ t → ((j : ℕ) → i < j → j < length rows → t < tick_of rows j) → p ≡ points_in rows i
