-- The curves that rise from a due tick on.
use Rattle.std.specs.Prelude.{ℕ, ◌-◌, ◌*◌, Bool, cond, nat_le}
use Rattle.costs.specs.Bounded.{value_of, is_within}
use Rattle.costs.specs.Graded.{graded_of}
use Rattle.costs.specs.Limits.{last_grade}
use Rattle.costs.specs.Points.{points_of, Points}
use Rattle.costs.specs.Ticks.{tick_count}
use Rattle.costs.specs.declared.graded.Graded.{Graded}
use Rattle.costs.specs.Factor.{times}
use Rattle.curves.specs.declared.graded_late.GradedLate.{GradedLate}
use Rattle.curves.specs.declared.late.Late.{Late}

-- by how many ticks an end at t is late: none up to the due tick, where the difference stops at 0
abbrev pub late_by : ℕ → ℕ → ℕ
late_by due t = t - due

-- the points of an end at t: 0 up to the due tick, then the rate for each tick
abbrev pub late_points : ℕ → ℕ → ℕ → ℕ
late_points due rate t = rate * late_by due t

-- the due tick of a Late curve
abbrev pub due_of : Late → ℕ
due_of f = tick_count f.due

-- its rate
abbrev pub rate_of : Late → ℕ
rate_of f = times f.rate

-- what a Late curve means
abbrev pub late_at : Late → ℕ → Points
late_at f t = points_of (late_points (due_of f) (rate_of f) t)

-- the grade of an end at t: 0 up to the due tick, then the grade of the curve
abbrev pub late_grade : ℕ → ℕ → ℕ → ℕ
late_grade due grade t = cond (nat_le t due) 0 grade

-- the due tick of a Graded Late curve
abbrev pub graded_due_of : GradedLate → ℕ
graded_due_of f = tick_count f.due

-- the grade of a later end
abbrev pub grade_after : GradedLate → ℕ
grade_after f = value_of f.grade

-- what a Graded Late curve means
abbrev pub graded_late_at : GradedLate → ℕ → Graded
graded_late_at f t = graded_of (late_grade (graded_due_of f) (grade_after f) t) (late_by (graded_due_of f) t)

-- whether a number may be the grade of a Graded Late curve: 1 to 9
abbrev pub is_late_grade : ℕ → Bool
is_late_grade g = is_within 1 last_grade g
