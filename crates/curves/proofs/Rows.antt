-- Rows of steps: what the tests on them mean, which points they give, and that these never fall.
use Rattle.std.proofs.Common.{◌≡◌, ℕ, zero, suc, ◌<◌, ◌≤◌, true, List, [], ◌∷◌, length, fold, refl, arith}
use Rattle.std.proofs.lemmas.Bool.Decides.{nat_tests}
use Rattle.std.proofs.lemmas.Grind.{common_steps}
use Rattle.costs.specs.Limits.{highest}
use Rattle.curves.specs.Limits.{most_rows}
use Rattle.curves.specs.Rows.{tick_of, points_in, in_range, InRange, climbs, Climbs, RowsLaw, fit, points_after, points_at, PointsLaw}
use Rattle.curves.specs.declared.row.Row.{Row}

-- rows that climb are all above the first
above : (r : Row) (rows : List Row) → climbs (r ∷ rows) ≡ true → (j : ℕ) → j < length rows → (r.tick < tick_of rows j) × (r.points ≤ points_in rows j)
above r [] e j h = absurd (omega arith)
above r (s ∷ rows) e zero h = grind (arith, common_steps)
above r (s ∷ rows) e (suc j) h = let later = above s rows (grind (arith, common_steps)) j (omega arith) in grind (arith, common_steps, later.0, later.1)

climbs_rest : (r : Row) (rows : List Row) → climbs (r ∷ rows) ≡ true → climbs rows ≡ true
climbs_rest r [] e = refl
climbs_rest r (s ∷ rows) e = grind (arith, common_steps)

climbs_any : (rows : List Row) → climbs rows ≡ true → Climbs rows
climbs_any [] e i j h l = absurd (omega arith)
climbs_any (r ∷ rows) e i zero h l = absurd (omega arith)
climbs_any (r ∷ rows) e zero (suc j) h l = above r rows e j (omega arith)
climbs_any (r ∷ rows) e (suc i) (suc j) h l = climbs_any rows (climbs_rest r rows e) i j (omega arith) (omega arith)

any_climbs : (rows : List Row) → Climbs rows → climbs rows ≡ true
any_climbs [] h = refl
any_climbs (r ∷ []) h = refl
any_climbs (r ∷ (s ∷ rows)) h =
    let first = h 0 1 (omega arith) (omega arith) in
    let later = any_climbs (s ∷ rows) (λ i j l m. h (suc i) (suc j) (omega arith) (omega arith)) in grind (arith, nat_tests, first.0, first.1, later)

in_range_each : (rows : List Row) → in_range rows ≡ true → InRange rows
in_range_each [] e i h = absurd (omega arith)
in_range_each (r ∷ rows) e zero h = grind (arith, common_steps)
in_range_each (r ∷ rows) e (suc i) h = in_range_each rows (grind (arith, common_steps)) i (omega arith)

each_in_range : (rows : List Row) → InRange rows → in_range rows ≡ true
each_in_range [] h = refl
each_in_range (r ∷ rows) h =
    let here = h 0 (omega arith) in let later = each_in_range rows (λ i l. h (suc i) (omega arith)) in grind (arith, nat_tests, here.0, here.1, later)

-- each of the two tests says exactly what its statement says
pub rows_law : (rows : List Row) → RowsLaw rows
rows_law rows = record { ranges = (in_range_each rows, each_in_range rows); order = (climbs_any rows, any_climbs rows) }

-- rows that make steps are not too many, and they climb
pub fit_few : (rows : List Row) → fit rows ≡ true → length rows ≤ most_rows
fit_few rows e = grind (arith, nat_tests)

pub fit_climbs : (rows : List Row) → fit rows ≡ true → climbs rows ≡ true
fit_climbs rows e = grind (arith, common_steps)

-- rows that are all later than t leave the points as they were
points_before : (p : ℕ) (rows : List Row) (t : ℕ) → ((i : ℕ) → i < length rows → t < tick_of rows i) → fold (points_after t) p rows ≡ p
points_before p [] t h = refl
points_before p (r ∷ rows) t h =
    let here = h 0 (omega arith) in let later = points_before (points_after t p r) rows t (λ i l. h (suc i) (omega arith)) in grind (arith, nat_tests, here, later)

-- the last row at or before t gives the points
points_last : (p : ℕ) (rows : List Row) (t i : ℕ) → i < length rows → tick_of rows i ≤ t → ((j : ℕ) → i < j → j < length rows → t < tick_of rows j)
    → fold (points_after t) p rows ≡ points_in rows i
points_last p [] t i l h later = absurd (omega arith)
points_last p (r ∷ rows) t zero l h later =
    let same = points_before (points_after t p r) rows t (λ j m. later (suc j) (omega arith) (omega arith)) in grind (arith, nat_tests, same)
points_last p (r ∷ rows) t (suc i) l h later = points_last (points_after t p r) rows t i (omega arith) h (λ j k m. later (suc j) (omega arith) (omega arith))

pub points_law : (rows : List Row) (t : ℕ) → PointsLaw rows t (points_at rows t)
points_law rows t = record { before = points_before 0 rows t; from = points_last 0 rows t }

-- points of rows within their ranges are within theirs
points_low : (p : ℕ) (rows : List Row) (t : ℕ) → p ≤ highest → in_range rows ≡ true → fold (points_after t) p rows ≤ highest
points_low p [] t h e = h
points_low p (r ∷ rows) t h e =
    points_low (points_after t p r) rows t (grind (arith, common_steps)) (grind (arith, common_steps))

pub points_within : (rows : List Row) (t : ℕ) → in_range rows ≡ true → points_at rows t ≤ highest
points_within rows t e = points_low 0 rows t (omega arith) e

-- from rows that climb, a later tick has no fewer points
from_rises : (r : Row) (rows : List Row) (p q s t : ℕ) → climbs (r ∷ rows) ≡ true → p ≤ q → q ≤ r.points → s ≤ t
    → fold (points_after s) p rows ≤ fold (points_after t) q rows
from_rises r [] p q s t e h l m = h
from_rises r (x ∷ rows) p q s t e h l m =
    from_rises x rows (points_after s p x) (points_after t q x) s t (grind (arith, common_steps)) (grind (arith, common_steps)) (grind (arith, common_steps)) m

pub points_rise : (rows : List Row) (s t : ℕ) → climbs rows ≡ true → s ≤ t → points_at rows s ≤ points_at rows t
points_rise [] s t e h = omega arith
points_rise (r ∷ rows) s t e h = from_rises r rows (points_after s 0 r) (points_after t 0 r) s t e (grind (arith, nat_tests)) (grind (arith, nat_tests)) h
