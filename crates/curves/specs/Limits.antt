-- The ranges of the numbers of curves.
use Rattle.std.specs.Prelude.{ℕ}

-- how many rows of steps there may be
abbrev pub most_rows : ℕ
most_rows = 8
