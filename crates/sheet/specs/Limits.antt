-- The ranges of a move's figures.
use Rattle.std.specs.Prelude.{ℕ}

-- a release is at most this
abbrev pub last_release : ℕ
last_release = 999_999

-- a length is at least 1 and at most this
abbrev pub longest : ℕ
longest = 65_535

-- a curve number is at most this
abbrev pub last_curve : ℕ
last_curve = 15
