-- A checked number of ticks as mathematics has it.
use Rattle.std.specs.Prelude.{ℕ}
use Rattle.time.specs.Ticks.{last_tick}
use Rattle.costs.specs.Bounded.{value_of, capped_at}
use Rattle.costs.specs.declared.bounded.Bounded.{Bounded}

-- numbers of ticks up to the last one
abbrev pub Ticks : Type 0
Ticks = Bounded 0 last_tick

-- how many ticks
abbrev pub tick_count : Ticks → ℕ
tick_count t = value_of t

-- n ticks, or as many as the last tick where n is more
abbrev pub ticks_of : ℕ → Ticks
ticks_of n = capped_at last_tick n
