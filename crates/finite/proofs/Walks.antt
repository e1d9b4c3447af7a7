-- A walk over some of the numbers below a bound, one after another: what was added up or compared so far is that of the numbers that are not in the rest.
use Rattle.std.proofs.Common.{◌≡◌, ℕ, ◌+◌, ◌<◌, ◌≤◌, max, Bool, true, false, cond, not, ◌&&◌, eqb, ◌⊎◌, ◌∙◌, arith}
use Rattle.finite.specs.Below.{sum, greatest}
use Rattle.finite.proofs.Greatest.{greatest_ext, greatest_least, greatest_put}
use Rattle.finite.proofs.Sums.{sum_ext, sum_mono, sum_raised, sum_zero}
use Rattle.std.proofs.lemmas.Bool.Decides.{nat_tests}
use Rattle.std.proofs.lemmas.Bool.{cond-true}

-- where the rest lacks a number after one was passed, it lacked it already or the number is that one
pub lacks : (rest rest' : ℕ → Bool) (m k : ℕ) → ((k : ℕ) → rest' k ≡ (not (eqb k m) && rest k)) → rest' k ≡ false → (k ≡ m) ⊎ (rest k ≡ false)
lacks rest rest' m k less h =
    grind (arith, nat_tests, less k)

-- the value of f at a number that the walk has passed, and 0 at one that is still in the rest
abbrev pub passed : (ℕ → Bool) → (ℕ → ℕ) → ℕ → ℕ
passed rest f k = cond (rest k) 0 (f k)

-- the sum of f at the numbers below n that were passed
unfoldable pub sum_passed : ℕ → (ℕ → Bool) → (ℕ → ℕ) → ℕ
sum_passed n rest f = sum n (passed rest f)

-- the greatest of f at those numbers and of the value with which the walk began
unfoldable pub greatest_passed : ℕ → (ℕ → Bool) → ℕ → (ℕ → ℕ) → ℕ
greatest_passed n rest first f = max first (greatest n (passed rest f))

module _ (n : ℕ) (rest : ℕ → Bool) (f : ℕ → ℕ) where
  -- where f is 0 outside the rest, nothing was passed yet
  begins : ((k : ℕ) → rest k ≡ false → f k ≡ 0) → (k : ℕ) → passed rest f k ≡ 0
  begins h k = grind (arith, h k)

  pub sum_begins : ((k : ℕ) → rest k ≡ false → f k ≡ 0) → sum_passed n rest f ≡ 0
  unfolding sum_passed
  sum_begins h = sum_ext n (passed rest f) (λ _. 0) (λ k _. begins h k) ∙ sum_zero n

  pub greatest_begins : (first : ℕ) → ((k : ℕ) → rest k ≡ false → f k ≡ 0) → greatest_passed n rest first f ≡ first
  unfolding greatest_passed
  greatest_begins first h = omega (arith, greatest_least n (passed rest f) 0 (λ k _. omega (arith, begins h k)))

  -- where nothing is in the rest, everything was passed
  ends : ((k : ℕ) → rest k ≡ false) → (k : ℕ) → passed rest f k ≡ f k
  ends h k = grind (arith, h k)

  pub sum_ends : ((k : ℕ) → rest k ≡ false) → sum_passed n rest f ≡ sum n f
  unfolding sum_passed
  sum_ends h = sum_ext n (passed rest f) f (λ k _. ends h k)

  pub greatest_ends : (first : ℕ) → ((k : ℕ) → rest k ≡ false) → greatest_passed n rest first f ≡ max first (greatest n f)
  unfolding greatest_passed
  greatest_ends first h = omega (arith, greatest_ext n (passed rest f) f (λ k _. ends h k))

  -- what was passed is no more than all
  pub sum_passed_most : sum_passed n rest f ≤ sum n f
  unfolding sum_passed
  sum_passed_most = sum_mono n (passed rest f) f (λ k _. grind arith)

-- one number more is passed
module _ {n i : ℕ} {rest' : ℕ → Bool} (rest : ℕ → Bool) (low : i < n) (has : rest i ≡ true) (less : (k : ℕ) → rest' k ≡ (not (eqb k i) && rest k)) (f : ℕ → ℕ) where
  here : passed rest' f i ≡ f i
  here = grind (arith, nat_tests, less i)

  elsewhere : (k : ℕ) → (k ≡ i → ⊥) → passed rest' f k ≡ passed rest f k
  elsewhere k ne = grind (arith, nat_tests, less k)

  pub sum_passes : sum_passed n rest' f ≡ sum_passed n rest f + f i
  unfolding sum_passed
  sum_passes = sum_raised n (passed rest f) (passed rest' f) i (f i) low (omega (arith, here, cond-true (rest i) 0 (f i) has)) elsewhere

  pub greatest_passes : (first : ℕ) → greatest_passed n rest' first f ≡ max (greatest_passed n rest first f) (f i)
  unfolding greatest_passed
  greatest_passes first = omega (arith, greatest_put n (passed rest f) (passed rest' f) i (f i) low (cond-true (rest i) 0 (f i) has) here elsewhere)

-- the first and the last step of a walk that adds up, and of one that compares
pub ruleset summing = (sum_begins, sum_ends)

pub ruleset comparing = (greatest_begins, greatest_ends)
