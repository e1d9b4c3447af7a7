-- A move's number as mathematics has it.
use Rattle.std.specs.Prelude.{ℕ}
use Rattle.moves.specs.declared.number.MoveNumber.{MoveNumber}

-- the number that a MoveNumber stands for
abbrev pub number : MoveNumber → ℕ
number m = m.value
