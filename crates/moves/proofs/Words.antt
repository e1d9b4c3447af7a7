-- How the code's operations on words change what a set holds: below the room each bit speaks for itself, and beyond it nothing is held.
use Rattle.std.proofs.Common.{◌≡◌, ℕ, zero, suc, ◌-◌, ◌*◌, ◌/◌, ◌%◌, ◌^◌, ◌<◌, ◌≤◌, Bool, true, false, cond, not, ◌&&◌, ◌||◌, eqb, ltb, length, sym, refl, ap, ◌∙◌, inl, inr, arith}
use lib.Bits.{bit_and, bit_or}
use lib.Count.{ones, ones_step, count_trailing_zeros, trailing_of_zero}
use Rattle.std.specs.Int.{bit_at, bit_not, w64}
use Rattle.std.proofs.lemmas.Bool.{lt-ltb, le-ltb, ne_eqb, eq-eqb, cases_lt, cases_eq}
use Rattle.std.proofs.lemmas.Bool.Decides.{nat_tests}
use Rattle.std.proofs.Math.Nat.{pow-suc}
use Rattle.std.proofs.lemmas.Nat.Bits.{shr_and_one, bit_at_lowest, bit_at-suc, bit_at-lt, bit_at_and, bit_at_or, bit_at_not, bit_at_ones, bit_at_set_same, bit_at_set_other, bit_at_clear_same, bit_at_clear_other, bit_at-trailing_zeros}
use Rattle.finite.specs.Below.{count, sum}
use Rattle.finite.proofs.Sums.{count_ext, sum_first, sum_ext}
use Rattle.finite.proofs.Lists.{rising_first}
use Rattle.moves.specs.Room.{room}
use Rattle.moves.specs.Members.{holds, members, Holds, HoldsNone, Lowest, nobody}
use Rattle.moves.specs.declared.set.MoveSet.{MoveSet}
use Rattle.moves.proofs.Sets.{members_are, none_members, count_members, nobody_holds, holds_beyond}

-- a place below the room
holds_at : (s : MoveSet) (k : ℕ) → k < room → holds s k ≡ eqb (bit_at s.word k) 1
unfolding holds
holds_at s k below = rw (lt-ltb k room below)

-- what a set holds below the room says what it holds and lists
from_bits : (w : ℕ) (p : ℕ → Bool) → ((k : ℕ) → k < room → eqb (bit_at w k) 1 ≡ p k) → ((k : ℕ) → room ≤ k → p k ≡ false) → Holds (record { word = w }) p
from_bits w p at beyond = record { held = held; listed = members_are (record { word = w }) p held }
  where
    held : (k : ℕ) → holds (record { word = w }) k ≡ p k
    held k = elim (cases_lt k room) [ inl h ↦ holds_at _ k h ∙ at k h | inr h ↦ holds_beyond _ k h ∙ sym (beyond k h) ]

-- ---- each operation on words, and what the set of its answer holds: the first part says nothing, it shows `grind` the call to match

-- the set that has that word
abbrev set_of : ℕ → MoveSet
set_of w = record { word = w }

pub or_holds : (a b : ℕ) → (bit_or a b ≡ bit_or a b) × Holds (set_of (bit_or a b)) (λ k. holds (set_of a) k || holds (set_of b) k)
or_holds a b = (
  refl,
  from_bits _ _
      (λ k h. grind (arith, nat_tests, holds_at, bit_at_or a b k, bit_at-lt))
      (λ k h. rw (holds_beyond (set_of a) k h, holds_beyond (set_of b) k h)),
)

pub and_holds : (a b : ℕ) → (bit_and a b ≡ bit_and a b) × Holds (set_of (bit_and a b)) (λ k. holds (set_of a) k && holds (set_of b) k)
and_holds a b = (
  refl,
  from_bits _ _
      (λ k h. grind (arith, nat_tests, holds_at, bit_at_and a b k, bit_at-lt))
      (λ k h. rw (holds_beyond (set_of a) k h)),
)

-- what b has is masked out of a
pub minus_holds : (a b : ℕ) → b < 2 ^ room
    → (bit_and a (bit_not w64 b) ≡ bit_and a (bit_not w64 b)) × Holds (set_of (bit_and a (bit_not w64 b))) (λ k. holds (set_of a) k && not (holds (set_of b) k))
minus_holds a b fits = (
  refl,
  from_bits _ _
      (λ k h. grind (arith, nat_tests, holds_at, bit_at_and a (bit_not w64 b) k, bit_at_not w64 b k fits h, bit_at-lt))
      (λ k h. rw (holds_beyond (set_of a) k h)),
)

-- the bit of move i is made 1
pub with_holds : (a i : ℕ) → i < room
    → (bit_or a (1 * 2 ^ i % 2 ^ room) ≡ bit_or a (1 * 2 ^ i % 2 ^ room)) × Holds (set_of (bit_or a (1 * 2 ^ i % 2 ^ room))) (λ k. eqb k i || holds (set_of a) k)
with_holds a i below = (
  refl,
  from_bits _ _
      (λ k h. elim (cases_eq k i) [
        | inl same ↦ rw (eq-eqb k i same, same, bit_at_set_same w64 a i below)
        | inr other ↦ rw (ne_eqb k i other, holds_at (set_of a) k h, bit_at_set_other w64 a i below k other)
      ])
      (λ k h. grind (arith, nat_tests, holds_beyond (set_of a) k h)),
)

-- the bit of move i is made 0
pub without_holds : (a i : ℕ) → i < room
    → (bit_and a (bit_not w64 (1 * 2 ^ i % 2 ^ room)) ≡ bit_and a (bit_not w64 (1 * 2 ^ i % 2 ^ room)))
    × Holds (set_of (bit_and a (bit_not w64 (1 * 2 ^ i % 2 ^ room)))) (λ k. not (eqb k i) && holds (set_of a) k)
without_holds a i below = (
  refl,
  from_bits _ _
      (λ k h. elim (cases_eq k i) [
        | inl same ↦ rw (eq-eqb k i same, same, bit_at_clear_same w64 a i below)
        | inr other ↦ rw (ne_eqb k i other, holds_at (set_of a) k h, bit_at_clear_other w64 a i below k h other)
      ])
      (λ k h. grind (arith, nat_tests, holds_beyond (set_of a) k h)),
)

pub none_holds : HoldsNone (set_of 0)
none_holds = record { held = nobody_holds; listed = none_members nobody nobody_holds }

pub all_holds : Holds (set_of (2 ^ room - 1)) (λ k. ltb k room)
all_holds = from_bits _ _ (λ k h. rw (lt-ltb k room h, bit_at_ones room k h)) (λ k h. le-ltb k room h)

-- a shift brings the bit to the lowest place, and the mask keeps it alone
pub bit_tested : (w i : ℕ) → i < room → eqb (bit_and (w / 2 ^ i) 1) 1 ≡ holds (set_of w) i
bit_tested w i below = rw (shr_and_one w i, holds_at (set_of w) i below)

-- ---- counts

-- each bit that is 1 counts once
pub ones_count : (k n : ℕ) → n < 2 ^ k → ones n ≡ count k (λ i. eqb (bit_at n i) 1)
unfolding count sum ones
ones_count zero n h = ap ones (let e : n ≡ 0 = omega arith in e)
ones_count (suc k) n h =
    let below : n / 2 < 2 ^ k = omega (arith, pow-suc 2 k) in
    let low : n % 2 ≡ cond (eqb (bit_at n 0) 1) 1 0 = grind (arith, nat_tests, bit_at_lowest) in
    let high = sum_ext k (λ i. cond (eqb (bit_at n (suc i)) 1) 1 0) (λ i. cond (eqb (bit_at (n / 2) i) 1) 1 0) (λ i _. ap (λ x. cond (eqb x 1) 1 0) (bit_at-suc n i)) in
    omega (arith, ones_step n, ones_count k (n / 2) below, sum_first k (λ i. cond (eqb (bit_at n i) 1) 1 0), low, high)

pub length_ones : (w : ℕ) → w < 2 ^ room → ones w ≡ length (members (set_of w))
length_ones w fits =
    ones_count room w fits
    ∙ count_ext room (λ k. eqb (bit_at w k) 1) (holds (set_of w)) (λ k h. sym (holds_at (set_of w) k h))
    ∙ sym (count_members (set_of w))

-- ---- the lowest move: the zeros at the low end of a word end at its lowest 1, and the word 0 has one for each number

pub none_lowest : (s : MoveSet) → s.word < 2 ^ room → room ≤ count_trailing_zeros room s.word
    → (count_trailing_zeros room s.word ≡ count_trailing_zeros room s.word) × HoldsNone s
none_lowest s fits none = (refl, record { held = held; listed = none_members s held })
  where
    zero_word : s.word ≡ 0
    zero_word = elim (cases_lt 0 s.word) [
      | inl some ↦ absurd (let h = bit_at-trailing_zeros w64 s.word some fits in let z : ⊥ = omega (arith, h.0) in z)
      | inr none ↦ omega arith
    ]

    held : (k : ℕ) → holds s k ≡ false
    held k = ap (λ w. holds (set_of w) k) zero_word ∙ nobody_holds k

pub some_lowest : (s : MoveSet) → s.word < 2 ^ room → count_trailing_zeros room s.word < room
    → (count_trailing_zeros room s.word ≡ count_trailing_zeros room s.word) × Lowest s (count_trailing_zeros room s.word)
unfolding members
some_lowest s fits low = (refl, record { held = held; below = below; listed = rising_first room (holds s) (count_trailing_zeros room s.word) low held below })
  where
    some : 0 < s.word
    some = elim (cases_lt 0 s.word) [
      | inl h ↦ h
      | inr none ↦ let e : s.word ≡ 0 = omega arith in absurd (let z : ⊥ = omega (arith, ap (count_trailing_zeros room) e, trailing_of_zero room) in z)
    ]

    held : holds s (count_trailing_zeros room s.word) ≡ true
    held = rw (holds_at s _ low, (bit_at-trailing_zeros w64 s.word some fits).1)

    below : (k : ℕ) → k < count_trailing_zeros room s.word → holds s k ≡ false
    below k h = rw (holds_at s k (omega arith), (bit_at-trailing_zeros w64 s.word some fits).2 k h)
