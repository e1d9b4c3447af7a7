-- What a layer makes of the meaning of the curve below it.
use Rattle.std.specs.Prelude.{ℕ, ◌+◌, ◌*◌, min, Bool}
use Rattle.time.specs.Ticks.{last_tick}
use Rattle.costs.specs.Order.{lesser, greater}
use Rattle.costs.specs.Points.{amount, points_of, Points}

-- Delay: the cost d ticks later, and at the last tick where that is later still
abbrev pub delayed : {C : Type 0} → ℕ → (ℕ → C) → ℕ → C
delayed d f t = f (min last_tick (t + d))

-- Ceiling: the lesser of the cost and a given one
abbrev pub under_ceiling : {C : Type 0} → (C → C → Bool) → C → (ℕ → C) → ℕ → C
under_ceiling le most f t = lesser le (f t) most

-- Larger: the greater of the costs of two curves
abbrev pub larger : {C : Type 0} → (C → C → Bool) → (ℕ → C) → (ℕ → C) → ℕ → C
larger le f g t = greater le (f t) (g t)

-- Weight: w times the points, and no more than the highest points
abbrev pub weighted : ℕ → (ℕ → Points) → ℕ → Points
weighted w f t = points_of (w * amount (f t))
