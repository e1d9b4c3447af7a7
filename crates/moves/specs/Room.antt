-- How many numbers there are for moves: they run from 0 to room - 1. Nothing else says it.
use Rattle.std.specs.Prelude.{ℕ}

abbrev pub room : ℕ
room = 64
