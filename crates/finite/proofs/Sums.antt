-- Sums and counts over the numbers below a bound: each fact is an induction that splits off the last number.
use Rattle.std.proofs.Common.{◌≡◌, ℕ, zero, suc, ◌+◌, ◌<◌, ◌≤◌, Bool, true, false, cond, not, ◌&&◌, eqb, ◌⊎◌, refl, ap, subst, inl, inr, le_antisymm, add-one, arith}
use Rattle.finite.specs.Below.{sum, count, any}
use Rattle.finite.proofs.Some.{any_some, any_from}
use Rattle.std.proofs.lemmas.Bool.Decides.{nat_tests}
use Rattle.std.proofs.lemmas.Bool.{and_from, and_parts, both_ways, cases_Bool, cases_lt, cond-true, cond-false, ne_eqb, not_from_false, not-true}

-- a number up to n is n or below n
pub last_or_below : (k n : ℕ) → k < suc n → (k ≡ n) ⊎ (k < n)
last_or_below k n h = grind arith

-- one number more
pub sum_empty : (f : ℕ → ℕ) → sum 0 f ≡ 0
unfolding sum
sum_empty f = refl

pub sum_next : (n : ℕ) (f : ℕ → ℕ) → sum (n + 1) f ≡ sum n f + f n
unfolding sum
sum_next n f = rw add-one

-- where no term is less, the sum is not
pub sum_mono : (n : ℕ) (f g : ℕ → ℕ) → ((k : ℕ) → k < n → f k ≤ g k) → sum n f ≤ sum n g
unfolding sum
sum_mono zero f g h = omega arith
sum_mono (suc n) f g h = omega (arith, sum_mono n f g (λ k l. h k (omega arith)), h n (omega arith))

-- equal terms have the same sum
pub sum_ext : (n : ℕ) (f g : ℕ → ℕ) → ((k : ℕ) → k < n → f k ≡ g k) → sum n f ≡ sum n g
sum_ext n f g h = le_antisymm (sum_mono n f g (λ k l. omega (arith, h k l))) (sum_mono n g f (λ k l. omega (arith, h k l)))

-- where no term is less and that of m is greater by d, the sum is greater by d
pub sum_gains : (n : ℕ) (f g : ℕ → ℕ) (m d : ℕ) → ((k : ℕ) → k < n → f k ≤ g k) → m < n → f m + d ≤ g m → sum n f + d ≤ sum n g
unfolding sum
sum_gains zero f g m d h l e = absurd (omega arith)
sum_gains (suc n) f g m d h l e =
    elim (last_or_below m n l) [
      | inl same ↦ omega (arith, sum_mono n f g (λ k b. h k (omega arith)), subst (λ x. f x + d ≤ g x) same e)
      | inr below ↦ omega (arith, sum_gains n f g m d (λ k b. h k (omega arith)) below e, h n (omega arith))
    ]

-- one term raised by d raises the sum by d
pub sum_raised : (n : ℕ) (f g : ℕ → ℕ) (m d : ℕ) → m < n → g m ≡ f m + d → ((k : ℕ) → (k ≡ m → ⊥) → g k ≡ f k) → sum n g ≡ sum n f + d
unfolding sum
sum_raised zero f g m d h e same = absurd (omega arith)
sum_raised (suc n) f g m d h e same =
    elim (last_or_below m n h) [
      | inl at ↦ omega (arith, sum_ext n g f (λ k l. same k (omega arith)), subst (λ x. g x ≡ f x + d) at e)
      | inr below ↦ omega (arith, sum_raised n f g m d below e same, same n (omega arith))
    ]

-- the sum over fewer of the first numbers is no more
pub sum_upto : (m n : ℕ) (f : ℕ → ℕ) → m ≤ n → sum m f ≤ sum n f
unfolding sum
sum_upto m zero f h = let e : m ≡ 0 = omega arith in rw e (omega arith)
sum_upto m (suc n) f h =
    elim (cases_lt m (suc n)) [
      | inl less ↦ omega (arith, sum_upto m n f (omega arith))
      | inr more ↦ let e : m ≡ suc n = omega arith in rw e (omega arith)
    ]

-- the first number apart
pub sum_first : (n : ℕ) (f : ℕ → ℕ) → sum (suc n) f ≡ f 0 + sum n (λ k. f (suc k))
unfolding sum
sum_first zero f = omega arith
sum_first (suc n) f = omega (arith, sum_first n f)

-- a term that counts only where a test passes is no less under a test that passes more often
cond_within : (b c : Bool) (x : ℕ) → (b ≡ true → c ≡ true) → cond b x 0 ≤ cond c x 0
cond_within b c x h = grind arith

-- the sum over fewer numbers is no more
pub sum_within : (n : ℕ) (f : ℕ → ℕ) (p q : ℕ → Bool) → ((k : ℕ) → k < n → p k ≡ true → q k ≡ true) → sum n (λ k. cond (p k) (f k) 0) ≤ sum n (λ k. cond (q k) (f k) 0)
sum_within n f p q h = sum_mono n (λ k. cond (p k) (f k) 0) (λ k. cond (q k) (f k) 0) (λ k l. cond_within (p k) (q k) (f k) (h k l))

-- and where m is left out it is less by the term of m at least
pub sum_without : (n : ℕ) (f : ℕ → ℕ) (p q : ℕ → Bool) (m : ℕ) → ((k : ℕ) → k < n → p k ≡ true → q k ≡ true) → m < n → p m ≡ false → q m ≡ true → sum n (λ k. cond (p k) (f k) 0) + f m ≤ sum n (λ k. cond (q k) (f k) 0)
sum_without n f p q m h l without has =
    sum_gains n (λ k. cond (p k) (f k) 0) (λ k. cond (q k) (f k) 0) m (f m) (λ k b. cond_within (p k) (q k) (f k) (h k b)) l (omega (arith, cond-false (p m) (f m) 0 without, cond-true (q m) (f m) 0 has))

-- the sum over some of the numbers is at most that over all
pub sum_part : (n : ℕ) (f : ℕ → ℕ) (p : ℕ → Bool) → sum n (λ k. cond (p k) (f k) 0) ≤ sum n f
sum_part n f p = sum_within n f p (λ _. true) (λ _ _ _. refl)

pub count_ext : (n : ℕ) (p q : ℕ → Bool) → ((k : ℕ) → k < n → p k ≡ q k) → count n p ≡ count n q
unfolding count
count_ext n p q e = sum_ext n (λ k. cond (p k) 1 0) (λ k. cond (q k) 1 0) (λ k h. ap (λ b. cond b 1 0) (e k h))

-- and where one is left out they are less
pub count_less : (n : ℕ) (p q : ℕ → Bool) (m : ℕ) → ((k : ℕ) → k < n → p k ≡ true → q k ≡ true) → m < n → p m ≡ false → q m ≡ true → count n p < count n q
unfolding count
count_less n p q m h l without has = omega (arith, sum_without n (λ _. 1) p q m h l without has)

-- and a set without one of its numbers has exactly one less
pub count_one_less : (n j : ℕ) (p : ℕ → Bool) → j < n → p j ≡ true → count n p ≡ suc (count n (λ k. not (eqb k j) && p k))
unfolding count
count_one_less n j p h has =
    omega (arith, sum_raised n (λ k. cond (not (eqb k j) && p k) 1 0) (λ k. cond (p k) 1 0) j 1 h (grind (arith, nat_tests)) (λ k ne. rw (ne_eqb k j ne)))

-- where p passes only what q does, q passes no more, or more in count
pub count_same_or_less : (n : ℕ) (p q : ℕ → Bool) → ((k : ℕ) → k < n → p k ≡ true → q k ≡ true) → ((k : ℕ) → k < n → q k ≡ true → p k ≡ true) ⊎ (count n p < count n q)
count_same_or_less n p q h =
    elim (cases_Bool (any n only)) [
      | inl found ↦ inr (less (any_some n only found))
      | inr none ↦ inl (λ k l e. elim (cases_Bool (p k)) [
        | inl passes ↦ passes
        | inr fails ↦ absurd (both_ways (any n only) none (any_from n only k l (and_from (q k) (not (p k)) e (not_from_false (p k) fails))))
      ])
    ]
  where
    only : ℕ → Bool
    only k = q k && not (p k)

    less : (k : ℕ) × (k < n) × (only k ≡ true) → count n p < count n q
    less t = let parts = and_parts (q t.0) (not (p t.0)) t.2 in count_less n p q t.0 h t.1 (not-true (p t.0) parts.1) parts.0

-- nothing adds up to nothing
pub sum_zero : (n : ℕ) → sum n (λ _. 0) ≡ 0
unfolding sum
sum_zero zero = refl
sum_zero (suc n) = omega (arith, sum_zero n)

-- terms that together are at most others have sums that together are at most theirs
pub sum_both : (n : ℕ) (f g h : ℕ → ℕ) → ((k : ℕ) → k < n → f k + g k ≤ h k) → sum n f + sum n g ≤ sum n h
unfolding sum
sum_both zero f g h e = omega arith
sum_both (suc n) f g h e = omega (arith, sum_both n f g h (λ k l. e k (omega arith)), e n (omega arith))

-- ones add up to how many they are
sum_ones : (n : ℕ) → sum n (λ _. 1) ≡ n
unfolding sum
sum_ones zero = refl
sum_ones (suc n) = omega (arith, sum_ones n)

-- there are at most n numbers below n
pub count_le : (n : ℕ) (p : ℕ → Bool) → count n p ≤ n
unfolding count
count_le n p = omega (arith, sum_part n (λ _. 1) p, sum_ones n)

-- how a sum grows with its bound
pub ruleset growing_sum = (sum_empty, sum_next, sum_upto)
