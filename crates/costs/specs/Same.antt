-- Graded costs with the same numbers are the same cost: that a number is within its bound can be known in one way only.
use mathlib.Core.HLevel.{is_prop→PathP}
use Rattle.std.specs.Prelude.{◌≡◌, ◌≤◌}
use Rattle.std.proofs.Math.Bridge.{le_prop}
use Rattle.time.specs.Ticks.{last_tick}
use Rattle.costs.specs.Graded.{grade_of, ticks_in}
use Rattle.costs.specs.Limits.{last_grade}
use Rattle.costs.specs.declared.graded.Graded.{Graded}

-- a grade and ticks make one cost; of checked numbers themselves it is `same` in Bounded
pub same_graded : (a b : Graded) → grade_of a ≡ grade_of b → ticks_in a ≡ ticks_in b → a ≡ b
same_graded a b e h =
    λ i. record {
      grade = e i;
      ticks = h i;
      grade_high = is_prop→PathP (λ j. e j ≤ last_grade) (λ j. le_prop) a.grade_high b.grade_high i;
      ticks_high = is_prop→PathP (λ j. h j ≤ last_tick) (λ j. le_prop) a.ticks_high b.ticks_high i;
    }
