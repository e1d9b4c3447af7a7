-- The ranges of costs.
use Rattle.std.specs.Prelude.{ℕ}

-- the highest points
abbrev pub highest : ℕ
highest = 1_000_000_000_000_000

-- the highest grade of a graded cost
abbrev pub last_grade : ℕ
last_grade = 9

-- a rate and a weight are at least 1 and at most this
abbrev pub greatest_factor : ℕ
greatest_factor = 1_000
