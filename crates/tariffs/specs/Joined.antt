-- Two tariffs joined into one.
use Rattle.std.specs.Prelude.{ℕ, ◌+◌, ◌-◌, min, cond, nat_lt}
use Rattle.tariffs.specs.Meaning.{most_curves}

-- how many curves they have together: both counts added, or 16 where that is more
abbrev pub joined_count : ℕ → ℕ → ℕ
joined_count m n = min most_curves (m + n)

-- curve k of the first where k is below its count m, and otherwise curve k - m of the second
abbrev pub joined_at : {C : Type 0} → ℕ → (ℕ → ℕ → C) → (ℕ → ℕ → C) → ℕ → ℕ → C
joined_at m f g k = cond (nat_lt k m) (f k) (g (k - m))
