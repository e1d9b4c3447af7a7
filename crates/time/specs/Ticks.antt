-- Time is counted in ticks, ten to a second.
use Rattle.std.specs.Prelude.{ℕ}

-- the last tick: no move of a sheet need run past it, and no curve tells later ticks apart
abbrev pub last_tick : ℕ
last_tick = 1_000_000
