-- Whether some number below a bound passes a test.
use Rattle.std.proofs.Common.{◌≡◌, ℕ, ◌<◌, Bool, true, Decides, refl}
use Rattle.finite.specs.Below.{any}
use Rattle.std.proofs.lemmas.Bool.Decides.{Decides-below_or}

-- any says whether some number below n passes
any_decides : (n : ℕ) (p : ℕ → Bool) → Decides (any n p) ((k : ℕ) × (k < n) × (p k ≡ true))
unfolding any
any_decides n p = Decides-below_or p (λ k. p k ≡ true) (λ m. any m p) (λ k. (λ e. e, λ e. e)) refl (λ _. refl) n

-- where any passes, there is a number that does
pub any_some : (n : ℕ) (p : ℕ → Bool) → any n p ≡ true → (k : ℕ) × (k < n) × (p k ≡ true)
any_some n p e = (any_decides n p).0 e

-- a number that passes makes any pass
pub any_from : (n : ℕ) (p : ℕ → Bool) (k : ℕ) → k < n → p k ≡ true → any n p ≡ true
any_from n p k h e = (any_decides n p).1 (k, h, e)
