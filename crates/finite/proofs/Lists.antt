-- The rising list of the numbers that have p is std's filter of the numbers below n, so std's lemmas on filters serve.
use Rattle.std.proofs.Common.{◌≡◌, ℕ, zero, suc, ◌+◌, ◌<◌, ◌≤◌, Bool, true, false, cond, not, ◌&&◌, eqb, ◌⊎◌, List, [], ◌∷◌, length, refl, ap, ◌∙◌, inl, inr, add-one, arith}
use Rattle.std.specs.List.{All, AllPairs, Contains, filter, range_with_len, sum_by}
use Rattle.std.proofs.lemmas.Bool.{both_ways, cases_Bool, cases_eq, eq-eqb, ne_eqb}
use Rattle.std.proofs.lemmas.List.{map-id}
use Rattle.std.proofs.lemmas.List.Elements.{All-contains, All-filter, filter_passes}
use Rattle.std.proofs.lemmas.List.FromFn.{get_or-range_with_len, length-range_with_len, sum_by-map-range_with_len_more}
use Rattle.std.proofs.lemmas.List.Kept.{AllPairs-from_increasing, IsStrictlyIncreasing-filter}
use Rattle.std.proofs.lemmas.List.Sums.{length-filter}
use Rattle.finite.specs.Below.{sum, count, rising}

-- ---- what is on the list

-- each number from i on that is among the first n of them
ranged : (i n : ℕ) → All (λ k. (i ≤ k) × (k < i + n)) (range_with_len i n)
ranged i n = λ k d l. let h : k < n = omega (arith, length-range_with_len i n) in (omega (arith, get_or-range_with_len i n k d h), omega (arith, get_or-range_with_len i n k d h))

pub has_rising : (n : ℕ) (p : ℕ → Bool) (k : ℕ) → Contains (rising n p) k → (k < n) × (p k ≡ true)
unfolding rising
has_rising n p k h =
    let low = All-contains (λ x. (0 ≤ x) × (x < 0 + n)) (rising n p) k (All-filter p (λ x. (0 ≤ x) × (x < 0 + n)) (range_with_len 0 n) (ranged 0 n)) h in
    (omega (arith, low.1), All-contains (λ x. p x ≡ true) (rising n p) k (filter_passes p (range_with_len 0 n)) h)

-- a filter keeps what passes
Contains-filter : (p : ℕ → Bool) (xs : List ℕ) (k : ℕ) → Contains xs k → p k ≡ true → Contains (filter p xs) k
Contains-filter p [] k (i, l, e) t = absurd (omega arith)
Contains-filter p (x ∷ xs) k (zero, l, e) t = rw (ap p e ∙ t) (0, omega arith, e)
Contains-filter p (x ∷ xs) k (suc i, l, e) t = by (cases_Bool (p x)) (Contains-filter p xs k (i, omega arith, e) t)
  where
    by : (p x ≡ true) ⊎ (p x ≡ false) → Contains (filter p xs) k → Contains (cond (p x) (x ∷ filter p xs) (filter p xs)) k
    by (inl y) h = rw y (suc h.0, omega (arith, h.1), h.2)
    by (inr y) h = rw y h

pub rising_has : (n : ℕ) (p : ℕ → Bool) (k : ℕ) → k < n → p k ≡ true → Contains (rising n p) k
unfolding rising
rising_has n p k h t =
    Contains-filter p (range_with_len 0 n) k (k, omega (arith, length-range_with_len 0 n), omega (arith, get_or-range_with_len 0 n k k h)) t

-- the list rises, so nothing is on it twice
pub rising_rises : (n : ℕ) (p : ℕ → Bool) → AllPairs (λ a b. a < b) (rising n p)
unfolding rising
rising_rises n p =
    AllPairs-from_increasing (rising n p)
    (IsStrictlyIncreasing-filter p (range_with_len 0 n)
    (λ k l. omega (arith, length-range_with_len 0 n, get_or-range_with_len 0 n k 0, get_or-range_with_len 0 n (k + 1) 0)))

-- ---- its length

sum_ranged : (n : ℕ) (f : ℕ → ℕ) → sum_by f (range_with_len 0 n) ≡ sum n f
unfolding sum
sum_ranged zero f = refl
sum_ranged (suc n) f =
    let more : sum_by f (range_with_len 0 (n + 1)) ≡ sum_by f (range_with_len 0 n) + f n = simp map-id at (sum_by-map-range_with_len_more f (λ x. x) 0 n n (omega arith)) in
    omega (arith, rw add-one at more, sum_ranged n f)

pub length_rising : (n : ℕ) (p : ℕ → Bool) → length (rising n p) ≡ count n p
unfolding rising count
length_rising n p = length-filter p (range_with_len 0 n) ∙ sum_ranged n (λ k. cond (p k) 1 0)

-- ---- nothing on it, or its first number

none_on : (xs : List ℕ) → ((k : ℕ) → Contains xs k → ⊥) → xs ≡ []
none_on [] h = refl
none_on (x ∷ xs) h = absurd (h x (0, omega arith, refl))

pub rising_none : (n : ℕ) (p : ℕ → Bool) → ((k : ℕ) → k < n → p k ≡ false) → rising n p ≡ []
rising_none n p e = none_on (rising n p) (λ k h. let on = has_rising n p k h in both_ways (p k) (e k on.0) on.1)

pub none_rising : (n : ℕ) (p : ℕ → Bool) → rising n p ≡ [] → (k : ℕ) → k < n → p k ≡ false
none_rising n p e k h =
    elim (cases_Bool (p k)) [
      | inl t ↦ let on = rising_has n p k h t in absurd (let z : ⊥ = omega (arith, on.1, ap length e) in z)
      | inr f ↦ f
    ]

-- tests that agree on a list keep the same of it
filter_same : (p q : ℕ → Bool) (xs : List ℕ) → ((k : ℕ) → Contains xs k → p k ≡ q k) → filter p xs ≡ filter q xs
filter_same p q [] e = refl
filter_same p q (x ∷ xs) e = rw (e x (0, omega arith, refl), filter_same p q xs (λ k h. e k (suc h.0, omega (arith, h.1), h.2)))

-- tests that agree below n list the same
pub rising_ext : (n : ℕ) (p q : ℕ → Bool) → ((k : ℕ) → k < n → p k ≡ q k) → rising n p ≡ rising n q
unfolding rising
rising_ext n p q e =
    filter_same p q (range_with_len 0 n) (λ k h. let low = All-contains (λ x. (0 ≤ x) × (x < 0 + n)) (range_with_len 0 n) k (ranged 0 n) h in e k (omega (arith, low.1)))

first_on : (i n : ℕ) (p : ℕ → Bool) (m : ℕ) → i ≤ m → m < i + n → p m ≡ true → ((k : ℕ) → i ≤ k → k < m → p k ≡ false)
    → filter p (range_with_len i n) ≡ m ∷ filter (λ k. not (eqb k m) && p k) (range_with_len i n)
first_on i zero p m l h t e = absurd (omega arith)
first_on i (suc n) p m l h t e = by (first_on (i + 1) n p m) (cases_eq i m)
  where
    others : ℕ → Bool
    others k = not (eqb k m) && p k

    same : i ≡ m → filter p (range_with_len (i + 1) n) ≡ filter others (range_with_len (i + 1) n)
    same s =
        filter_same p others (range_with_len (i + 1) n)
        (λ k h. let low = All-contains (λ x. (i + 1 ≤ x) × (x < i + 1 + n)) (range_with_len (i + 1) n) k (ranged (i + 1) n) h in rw (ne_eqb k m (λ x. omega (arith, low.0))))

    by : (i + 1 ≤ m → m < i + 1 + n → p m ≡ true → ((k : ℕ) → i + 1 ≤ k → k < m → p k ≡ false)
        → filter p (range_with_len (i + 1) n) ≡ m ∷ filter others (range_with_len (i + 1) n)) → (i ≡ m) ⊎ (i ≡ m → ⊥)
        → cond (p i) (i ∷ filter p (range_with_len (i + 1) n)) (filter p (range_with_len (i + 1) n))
        ≡ m ∷ cond (others i) (i ∷ filter others (range_with_len (i + 1) n)) (filter others (range_with_len (i + 1) n))
    by rest (inl s) = rw (ap p s ∙ t, eq-eqb i m s, same s, s)
    by rest (inr d) = rw (e i (omega arith) (omega arith), ne_eqb i m d) (rest (omega arith) (omega arith) t (λ k a b. e k (omega arith) b))

-- the least number that has p comes first, and the others follow
pub rising_first : (n : ℕ) (p : ℕ → Bool) (m : ℕ) → m < n → p m ≡ true → ((k : ℕ) → k < m → p k ≡ false)
    → rising n p ≡ m ∷ rising n (λ k. not (eqb k m) && p k)
unfolding rising
rising_first n p m h t e = first_on 0 n p m (omega arith) (omega arith) t (λ k a b. e k b)
