-- What a set of moves holds and lists: the list is that of what the set holds below the room, so the laws of rising lists serve.
use Rattle.std.proofs.Common.{◌≡◌, ℕ, suc, ◌<◌, ◌≤◌, Bool, true, false, not, ◌&&◌, eqb, ◌⊎◌, List, [], ◌∷◌, length, sym, refl, ap, ◌∙◌, inl, inr, arith}
use Rattle.std.proofs.lemmas.Nat.Bits.{bit_at-zero}
use Rattle.std.proofs.lemmas.Bool.Decides.{nat_tests}
use Rattle.std.proofs.lemmas.Bool.{cases_lt}
use Rattle.std.proofs.Math.Path.{fun_ext}
use Rattle.finite.specs.Below.{count, rising}
use Rattle.finite.proofs.Sums.{count_one_less}
use Rattle.finite.proofs.Lists.{has_rising, rising_has, rising_rises, length_rising, rising_none, none_rising}
use Rattle.moves.specs.Room.{room}
use Rattle.moves.specs.Members.{Listed, holds, members, nobody}
use Rattle.moves.specs.declared.set.MoveSet.{MoveSet}

-- ---- what a set holds

pub holds_below : (s : MoveSet) (k : ℕ) → holds s k ≡ true → k < room
unfolding holds
holds_below s k e = grind (arith, nat_tests)

pub holds_beyond : (s : MoveSet) (k : ℕ) → room ≤ k → holds s k ≡ false
unfolding holds
holds_beyond s k h = grind (arith, nat_tests)

pub nobody_holds : (k : ℕ) → holds nobody k ≡ false
unfolding holds
nobody_holds k = grind (arith, nat_tests, bit_at-zero k)

-- ---- what is on its list

-- the list of a set that holds what p says
pub members_are : (s : MoveSet) (p : ℕ → Bool) → ((k : ℕ) → holds s k ≡ p k) → members s ≡ rising room p
unfolding members
members_are s p e = ap (rising room) (fun_ext e)

-- the list has what the set holds, and it rises
pub members_law : (s : MoveSet) → Listed s
unfolding members
members_law s = record {
  held = λ k h. (has_rising room (holds s) k h).1;
  all = λ k e. rising_has room (holds s) k (holds_below s k e) e;
  rises = rising_rises room (holds s);
}

-- ---- how long it is

pub count_members : (s : MoveSet) → length (members s) ≡ count room (holds s)
unfolding members
count_members s = length_rising room (holds s)

pub members_none : (s : MoveSet) → members s ≡ [] → (k : ℕ) → holds s k ≡ false
unfolding members
members_none s e k = elim (cases_lt k room) [ inl h ↦ none_rising room (holds s) e k h | inr h ↦ holds_beyond s k h ]

pub none_members : (s : MoveSet) → ((k : ℕ) → holds s k ≡ false) → members s ≡ []
unfolding members
none_members s e = rising_none room (holds s) (λ k h. e k)

-- no number is on the list and none is in the set, or some number is. The first part shows `grind` the call to match
pub none_or_some : (s : MoveSet) → (members s ≡ members s) × (((length (members s) ≡ 0) × ((k : ℕ) → holds s k ≡ false)) ⊎ ((0 < length (members s)) × ((k : ℕ) × (holds s k ≡ true))))
none_or_some s = (refl, by (members s) refl)
  where
    by : (xs : List ℕ) → members s ≡ xs → ((length (members s) ≡ 0) × ((k : ℕ) → holds s k ≡ false)) ⊎ ((0 < length (members s)) × ((k : ℕ) × (holds s k ≡ true)))
    by [] e = inl (ap length e, members_none s e)
    by (x ∷ xs) e = inr (omega (arith, ap length e), (x, (members_law s).held x (rw e (0, omega arith, refl))))

-- t is s without m, which s holds
module _ (s t : MoveSet) (m : ℕ) (has : holds s m ≡ true) (less : (k : ℕ) → holds t k ≡ (not (eqb k m) && holds s k)) where
  pub length_without : length (members s) ≡ suc (length (members t))
  unfolding members
  length_without =
      count_members s ∙ count_one_less room m (holds s) (holds_below s m has) has
      ∙ ap suc (sym (ap length (members_are t (λ k. not (eqb k m) && holds s k) less) ∙ length_rising room (λ k. not (eqb k m) && holds s k)))

-- a set that holds what p says has as many moves as there are numbers with p
pub count_as : (s : MoveSet) (p : ℕ → Bool) → ((k : ℕ) → holds s k ≡ p k) → length (members s) ≡ count room p
count_as s p e = ap length (members_are s p e) ∙ length_rising room p
