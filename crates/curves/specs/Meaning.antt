-- What a curve means: what it costs to end at each tick from 0 to the last one. A later end never costs less.
-- Scheduling texts call it a non-decreasing cost function of the completion time.
use Rattle.std.specs.Prelude.{◌≡◌, ℕ, ◌≤◌, min, Bool, true}
use Rattle.time.specs.Ticks.{last_tick}

-- up to the last tick, the cost of an earlier tick is not above that of a later one; le is the test of their kind
abbrev pub NeverFalls : {C : Type 0} → (C → C → Bool) → (ℕ → C) → Type 0
NeverFalls le f = (s t : ℕ) → s ≤ t → t ≤ last_tick → le (f s) (f t) ≡ true

-- the cost at a tick, where any tick after the last one is read as the last one
abbrev pub reading : {C : Type 0} → (ℕ → C) → ℕ → C
reading f t = f (min t last_tick)
