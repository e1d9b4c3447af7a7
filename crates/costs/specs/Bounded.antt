-- Checked whole numbers as mathematics has them.
use mathlib.Core.HLevel.{is_prop→PathP}
use Rattle.std.proofs.Common.{arith}
use Rattle.std.specs.Prelude.{◌≡◌, ℕ, ◌≤◌, min, Bool, ◌&&◌, nat_le}
use Rattle.std.proofs.Math.Bridge.{le_prop}
use Rattle.std.proofs.Math.Nat.{min-le_right}
use Rattle.costs.specs.declared.bounded.Bounded.{Bounded}

-- the number that a checked one stands for
abbrev pub value_of : {low high : ℕ} → Bounded low high → ℕ
value_of b = b.value

-- whether a number is from low to high
abbrev pub is_within : ℕ → ℕ → ℕ → Bool
is_within low high n = nat_le low n && nat_le n high

-- the checked number n, or the high bound where n is more
abbrev pub capped_at : (high : ℕ) → ℕ → Bounded 0 high
capped_at high n = record { value = min n high; low = omega arith; high = min-le_right n high }

-- checked numbers of one value are the same: that a number is within its bounds can be known in one way only
pub same : {low high : ℕ} (a b : Bounded low high) → value_of a ≡ value_of b → a ≡ b
same {low} {high} a b e =
    λ i. record { value = e i; low = is_prop→PathP (λ j. low ≤ e j) (λ j. le_prop) a.low b.low i; high = is_prop→PathP (λ j. e j ≤ high) (λ j. le_prop) a.high b.high i }
