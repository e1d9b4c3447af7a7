-- A checked factor as mathematics has it.
use Rattle.std.specs.Prelude.{ℕ, Bool}
use Rattle.costs.specs.Bounded.{value_of, is_within}
use Rattle.costs.specs.Limits.{greatest_factor}
use Rattle.costs.specs.declared.bounded.Bounded.{Bounded}

-- factors from 1 to the greatest
abbrev pub Factor : Type 0
Factor = Bounded 1 greatest_factor

-- the number that a factor stands for
abbrev pub times : Factor → ℕ
times w = value_of w

-- whether a number may be a factor: 1 to 1,000
abbrev pub is_factor : ℕ → Bool
is_factor n = is_within 1 greatest_factor n
