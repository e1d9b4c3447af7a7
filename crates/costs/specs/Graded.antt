-- Graded costs as mathematics has them.
use Rattle.std.specs.Prelude.{ℕ, Bool, ◌&&◌, ◌||◌, ◌==◌, nat_le, nat_lt}
use Rattle.costs.specs.Bounded.{value_of, capped_at}
use Rattle.costs.specs.Limits.{last_grade}
use Rattle.costs.specs.Ticks.{tick_count, ticks_of}
use Rattle.costs.specs.declared.graded.Graded.{Graded}

-- the grade of a graded cost
abbrev pub grade_of : Graded → ℕ
grade_of c = c.grade

-- its ticks
abbrev pub ticks_in : Graded → ℕ
ticks_in c = c.ticks

-- the cost of grade g with n ticks, the highest grade where g is more, and as many as the last tick where n is more
abbrev pub graded_of : ℕ → ℕ → Graded
graded_of g n = record {
  grade = value_of (capped_at last_grade g);
  ticks = tick_count (ticks_of n);
  grade_high = (capped_at last_grade g).high;
  ticks_high = (ticks_of n).high;
}

-- whether one graded cost is not above another: the grade decides, and the ticks where the grades are the same
abbrev pub graded_not_above : Graded → Graded → Bool
graded_not_above a b = nat_lt (grade_of a) (grade_of b) || (grade_of a == grade_of b && nat_le (ticks_in a) (ticks_in b))
