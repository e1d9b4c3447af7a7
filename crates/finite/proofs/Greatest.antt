-- The greatest of the values below a bound, and the number at which a value is least: inductions that split off the last number.
use Rattle.std.proofs.Common.{◌≡◌, ℕ, zero, suc, ◌+◌, ◌<◌, ◌≤◌, max, Bool, true, false, ◌&&◌, ltb, ◌⊎◌, refl, ap, inl, inr, le_antisymm, add-one, arith}
use Rattle.finite.specs.Below.{any, greatest}
use Rattle.finite.proofs.Some.{any_some, any_from}
use Rattle.finite.proofs.Sums.{last_or_below}
use Rattle.std.proofs.lemmas.Bool.{and_from, and_parts, both_ways, cases_Bool, cases_eq, cases_lt, lt-ltb, ltb-true}

pub greatest_zero : (f : ℕ → ℕ) → greatest 0 f ≡ 0
unfolding greatest
greatest_zero f = refl

pub greatest_next : (n : ℕ) (f : ℕ → ℕ) → greatest (n + 1) f ≡ max (greatest n f) (f n)
unfolding greatest
greatest_next n f = rw add-one

-- no value is above the greatest
pub greatest_above : (n : ℕ) (f : ℕ → ℕ) (k : ℕ) → k < n → f k ≤ greatest n f
unfolding greatest
greatest_above zero f k h = absurd (omega arith)
greatest_above (suc n) f k h =
    elim (last_or_below k n h) [
      | inl same ↦ omega (arith, ap f same)
      | inr below ↦ omega (arith, greatest_above n f k below)
    ]

-- the greatest is at most what no value is above
pub greatest_least : (n : ℕ) (f : ℕ → ℕ) (b : ℕ) → ((k : ℕ) → k < n → f k ≤ b) → greatest n f ≤ b
unfolding greatest
greatest_least zero f b h = omega arith
greatest_least (suc n) f b h = omega (arith, greatest_least n f b (λ k l. h k (omega arith)), h n (omega arith))

-- equal values have the same greatest
pub greatest_ext : (n : ℕ) (f g : ℕ → ℕ) → ((k : ℕ) → k < n → f k ≡ g k) → greatest n f ≡ greatest n g
greatest_ext n f g h =
    le_antisymm
    (greatest_least n f (greatest n g) (λ k l. omega (arith, h k l, greatest_above n g k l)))
    (greatest_least n g (greatest n f) (λ k l. omega (arith, h k l, greatest_above n f k l)))

-- one value set to v where it was 0 makes the greatest the greater of the old one and v
pub greatest_put : (n : ℕ) (f g : ℕ → ℕ) (m v : ℕ) → m < n → f m ≡ 0 → g m ≡ v → ((k : ℕ) → (k ≡ m → ⊥) → g k ≡ f k) → greatest n g ≡ max (greatest n f) v
greatest_put n f g m v h none e same =
    le_antisymm
    (greatest_least n g (max (greatest n f) v) (λ k l. elim (cases_eq k m) [
      | inl at ↦ omega (arith, ap g at)
      | inr ne ↦ omega (arith, same k ne, greatest_above n f k l)
    ]))
    (omega (
      arith,
      greatest_above n g m h,
      greatest_least n f (greatest n g) (λ k l. elim (cases_eq k m) [
        | inl at ↦ omega (arith, ap f at)
        | inr ne ↦ omega (arith, same k ne, greatest_above n g k l)
      ]),
    ))

-- the greatest of n + 1 values, from what the greatest of the first n is
greatest_is_step : (n : ℕ) (f : ℕ → ℕ) → (greatest n f ≡ 0) ⊎ ((k : ℕ) × (k < n) × (greatest n f ≡ f k)) → (greatest (suc n) f ≡ 0) ⊎ ((k : ℕ) × (k < suc n) × (greatest (suc n) f ≡ f k))
unfolding greatest
greatest_is_step n f ih =
    elim (cases_lt (greatest n f) (f n)) [
      | inl less ↦ inr (n, omega arith, omega arith)
      | inr more ↦ elim ih [ inl none ↦ inl (omega arith) | inr t ↦ inr (t.0, omega arith, omega (arith, t.2)) ]
    ]

-- the greatest is one of the values, or 0
pub greatest_is : (n : ℕ) (f : ℕ → ℕ) → (greatest n f ≡ 0) ⊎ ((k : ℕ) × (k < n) × (greatest n f ≡ f k))
unfolding greatest
greatest_is zero f = inl refl
greatest_is (suc n) f = greatest_is_step n f (greatest_is n f)

-- m is a number below n that passes, and f is nowhere less at one that does
abbrev LeastAt : ℕ → (ℕ → Bool) → (ℕ → ℕ) → ℕ → Type 0
LeastAt n p f m = (m < n) × (p m ≡ true) × ((k : ℕ) → k < n → p k ≡ true → f m ≤ f k)

-- from k, on to a number with a lower value as long as there is one: v such steps are enough
least_from : (v n : ℕ) (p : ℕ → Bool) (f : ℕ → ℕ) (k : ℕ) → f k ≤ v → k < n → p k ≡ true → (m : ℕ) × LeastAt n p f m
least_from zero n p f k most l e = (k, (l, e, λ i _ _. omega arith))
least_from (suc v) n p f k most l e = by (least_from v n p f) (cases_Bool (any n lower))
  where
    lower : ℕ → Bool
    lower i = p i && ltb (f i) (f k)

    nowhere : any n lower ≡ false → (i : ℕ) → i < n → p i ≡ true → f k ≤ f i
    nowhere none i b q =
        elim (cases_lt (f i) (f k)) [
          | inl less ↦ absurd (both_ways (any n lower) none (any_from n lower i b (and_from (p i) (ltb (f i) (f k)) q (lt-ltb (f i) (f k) less))))
          | inr more ↦ more
        ]

    by : ((i : ℕ) → f i ≤ v → i < n → p i ≡ true → (m : ℕ) × LeastAt n p f m) → (any n lower ≡ true) ⊎ (any n lower ≡ false) → (m : ℕ) × LeastAt n p f m
    by on (inl found) =
        let t = any_some n lower found in
        let parts = and_parts (p t.0) (ltb (f t.0) (f k)) t.2 in
        on t.0 (omega (arith, ltb-true (f t.0) (f k) parts.1)) t.1 parts.0
    by on (inr none) = (k, (l, e, nowhere none))

-- where some number below n passes, f is least at one that does
pub least_at : (n : ℕ) (p : ℕ → Bool) (f : ℕ → ℕ) (k : ℕ) → k < n → p k ≡ true → (m : ℕ) × (m < n) × (p m ≡ true) × ((i : ℕ) → i < n → p i ≡ true → f m ≤ f i)
least_at n p f k l e = let t = least_from (f k) n p f k (omega arith) l e in (t.0, t.1.0, t.1.1, t.1.2)

-- how a greatest value grows with its bound
pub ruleset growing_greatest = (greatest_zero, greatest_next)
