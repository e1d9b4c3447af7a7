-- Numbers below a bound: what is summed, looked for, compared and listed over 0, 1, …, n - 1.
use Rattle.std.specs.Prelude.{ℕ, zero, suc, ◌+◌, max, Bool, false, cond, ◌||◌, List}
use Rattle.std.specs.List.{filter, range_with_len}

-- f 0 + f 1 + … + f (n - 1)
unfoldable pub sum : ℕ → (ℕ → ℕ) → ℕ
sum zero f = 0
sum (suc n) f = sum n f + f n

-- the greatest of f 0, …, f (n - 1), and 0 where n is 0
unfoldable pub greatest : ℕ → (ℕ → ℕ) → ℕ
greatest zero f = 0
greatest (suc n) f = max (greatest n f) (f n)

-- whether p holds of some number below n
unfoldable pub any : ℕ → (ℕ → Bool) → Bool
any zero p = false
any (suc n) p = p n || any n p

-- how many numbers below n have p
unfoldable pub count : ℕ → (ℕ → Bool) → ℕ
count n p = sum n (λ k. cond (p k) 1 0)

-- the numbers below n that have p, in rising order
unfoldable pub rising : ℕ → (ℕ → Bool) → List ℕ
rising n p = filter p (range_with_len 0 n)
