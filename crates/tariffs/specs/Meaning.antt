-- What a tariff means: how many curves it has, and for every number a curve's meaning.
use Rattle.std.specs.Prelude.{ℕ, ◌<◌, Bool}
use Rattle.curves.specs.Meaning.{NeverFalls}

-- a tariff has at most so many curves
abbrev pub most_curves : ℕ
most_curves = 16

-- how many numbers a tariff can be asked for: 0 to 255, whether it has so many curves or not
abbrev pub numbers : ℕ
numbers = 256

-- for each of these numbers, up to the last tick, the costs never fall; le is the test of their kind
abbrev pub NoneFalls : {C : Type 0} → (C → C → Bool) → (ℕ → ℕ → C) → Type 0
NoneFalls le f = (k : ℕ) → k < numbers → NeverFalls le (f k)
