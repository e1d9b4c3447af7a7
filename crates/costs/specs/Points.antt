-- Points as mathematics has them.
use Rattle.std.specs.Prelude.{ℕ, Bool, nat_le}
use Rattle.costs.specs.Bounded.{value_of, capped_at}
use Rattle.costs.specs.Limits.{highest}
use Rattle.costs.specs.declared.bounded.Bounded.{Bounded}

-- points up to the highest
abbrev pub Points : Type 0
Points = Bounded 0 highest

-- how many points
abbrev pub amount : Points → ℕ
amount p = value_of p

-- n points, or the highest points where n is more
abbrev pub points_of : ℕ → Points
points_of n = capped_at highest n

-- whether one cost in points is not above another: the numbers compare
abbrev pub points_not_above : Points → Points → Bool
points_not_above a b = nat_le (amount a) (amount b)
