-- What the entries of a sheet mean, and what they mean after a change at one place.
use Rattle.std.proofs.Common.{◌≡◌, ℕ, ◌<◌, false, cond, not, ◌&&◌, ◌||◌, eqb, List, length, get_or, arith, set, replicate, Some, None, sym, refl, ap, ◌∙◌, subst, inl, inr, get_or-set_other, get_or-set_same}
use Rattle.std.proofs.lemmas.Bool.{cases_eq, cases_lt, eq-eqb, ne_eqb}
use Rattle.std.proofs.lemmas.List.{get_or-replicate, get_or_past, length-replicate}
use Rattle.moves.specs.Members.{holds}
use Rattle.moves.proofs.Sets.{nobody_holds}
use Rattle.sheet.specs.declared.entry.Entry.{Entry}
use Rattle.sheet.specs.declared.figures.Move.{Move}
use Rattle.sheet.specs.Facts.{Sound}
use Rattle.sheet.specs.Ledger.{Ledger, blank, entered, tied, untied, struck}
use Rattle.sheet.specs.Parts.{vacant, entry_at, ledger_of}

-- two ledgers are one where they have the same moves and the same ties
pub same_ledger : (L M : Ledger) → ((n : ℕ) → L.move n ≡ M.move n) → ((i j : ℕ) → L.tie i j ≡ M.tie i j) → L ≡ M
same_ledger L M p q = λ i. record { move = λ n. p n i; tie = λ a b. q a b i }

module _ (entries : List Entry) where
  -- the figures and the ties of a number are those of its entry
  pub move_of : (n : ℕ) → (ledger_of entries).move n ≡ (entry_at entries n).figures
  unfolding ledger_of
  move_of n = refl

  pub tie_of : (i j : ℕ) → (ledger_of entries).tie i j ≡ holds (entry_at entries i).followers j
  unfolding ledger_of
  tie_of i j = refl

-- whatever is so of a value, and of what is read past the end, is so of every place of a list of that value
replicate_each : {A B : Type 0} (f : A → B) (n k : ℕ) (a d : A) (b : B) → f a ≡ b → f d ≡ b → f (get_or (replicate n a) k d) ≡ b
replicate_each f n k a d b is past =
    elim (cases_lt k n) [
      | inl l ↦ ap f (get_or-replicate n k a d l) ∙ is
      | inr g ↦ ap f (get_or_past (replicate n a) k d (omega (arith, length-replicate n a))) ∙ past
    ]

-- a list of one value reads so everywhere, where what is read past its end is that value too
pub replicate_reads : {A : Type 0} (n k : ℕ) (a : A) → get_or (replicate n a) k a ≡ a
replicate_reads n k a = replicate_each (λ x. x) n k a a a refl refl

-- vacant entries at all numbers are the blank ledger
pub blank_parts : (n : ℕ) (e : Entry) → e.figures ≡ None → ((k : ℕ) → holds e.followers k ≡ false) → ledger_of (replicate n e) ≡ blank
unfolding ledger_of
blank_parts n e none free =
    same_ledger _ _ (λ k. replicate_each (λ (x : Entry). x.figures) n k e vacant None none refl)
    (λ i j. replicate_each (λ (x : Entry). holds x.followers j) n i e vacant false (free j) (nobody_holds j))

-- an entry is put into its place
module _ (entries : List Entry) (n place : ℕ) (at : place ≡ n) (fits : n < length entries) (new : Entry) where
  -- whatever is so of the new entry there and of the others elsewhere is so of the entries
  place_set : {B : Type 0} (f : Entry → B) (g : ℕ → B) → f new ≡ g n → ((k : ℕ) → (k ≡ n → ⊥) → f (entry_at entries k) ≡ g k)
      → (k : ℕ) → f (entry_at (set entries place new) k) ≡ g k
  place_set f g here there k =
      elim (cases_eq k n) [
        | inl e ↦ rw (at, e, get_or-set_same entries n new vacant fits) here
        | inr ne ↦ rw (at, get_or-set_other entries n k new vacant ne) (there k ne)
      ]

  -- what is so of the entry that was there and of the new one alike stays so of all
  place_same : {B : Type 0} (f : Entry → B) → f new ≡ f (entry_at entries n) → (k : ℕ) → f (entry_at (set entries place new) k) ≡ f (entry_at entries k)
  place_same f same = place_set f (λ k. f (entry_at entries k)) same (λ k ne. refl)

  -- a move with those figures, and whoever waited still does
  pub entered_parts : (m : Move) → new.figures ≡ Some m → ((b : ℕ) → holds new.followers b ≡ (ledger_of entries).tie n b)
      → ledger_of (set entries place new) ≡ entered n m (ledger_of entries)
  unfolding ledger_of
  entered_parts m is same =
      same_ledger _ _ (place_set (λ (x : Entry). x.figures) (λ k. cond (eqb k n) (Some m) (entry_at entries k).figures) (rw (eq-eqb n n refl) is) (λ k ne. rw (ne_eqb k n ne) refl))
      (λ a b. place_same (λ (x : Entry). holds x.followers b) (same b) a)

  module _ (j : ℕ) (same : new.figures ≡ (ledger_of entries).move n) where
    -- the same move, and j waits for it too
    pub tied_parts : ((b : ℕ) → holds new.followers b ≡ (eqb b j || (ledger_of entries).tie n b)) → ledger_of (set entries place new) ≡ tied n j (ledger_of entries)
    unfolding ledger_of
    tied_parts more =
        same_ledger _ _ (place_same (λ (x : Entry). x.figures) same)
        (λ a b. place_set (λ (x : Entry). holds x.followers b) (λ k. (eqb k n && eqb b j) || holds (entry_at entries k).followers b)
        (more b ∙ rw (eq-eqb n n refl) refl) (λ k ne. rw (ne_eqb k n ne) refl) a)

    -- the same move, and j does not wait for it
    pub untied_parts : ((b : ℕ) → holds new.followers b ≡ (not (eqb b j) && (ledger_of entries).tie n b)) → ledger_of (set entries place new) ≡ untied n j (ledger_of entries)
    unfolding ledger_of
    untied_parts less =
        same_ledger _ _ (place_same (λ (x : Entry). x.figures) same)
        (λ a b. place_set (λ (x : Entry). holds x.followers b) (λ k. not (eqb k n && eqb b j) && holds (entry_at entries k).followers b)
        (less b ∙ rw (eq-eqb n n refl) refl) (λ k ne. rw (ne_eqb k n ne) refl) a)

-- no move of the others waits for n, and the entry of n is vacant
pub struck_parts : (old rest : List Entry) (n place : ℕ) → place ≡ n → n < length rest → (new : Entry) → new.figures ≡ None → ((b : ℕ) → holds new.followers b ≡ false)
    → ((k : ℕ) → (entry_at rest k).figures ≡ (entry_at old k).figures) → ((a b : ℕ) → holds (entry_at rest a).followers b ≡ (not (eqb b n) && holds (entry_at old a).followers b))
    → ledger_of (set rest place new) ≡ struck n (ledger_of old)
unfolding ledger_of
struck_parts old rest n place at fits new none free same less =
    same_ledger _ _
    (place_set rest n place at fits new (λ (x : Entry). x.figures) (λ k. cond (eqb k n) None ((entry_at old k).figures)) (rw (eq-eqb n n refl) none) (λ k ne. rw (ne_eqb k n ne) (same k)))
    (λ a b. place_set rest n place at fits new (λ (x : Entry). holds x.followers b) (λ k. not (eqb k n || eqb b n) && holds (entry_at old k).followers b) (rw (eq-eqb n n refl) (free b)) (λ k ne. rw (ne_eqb k n ne) (less k b)) a)

-- what is so of a ledger is so of one that is the same
pub sound_as : {L M : Ledger} → L ≡ M → Sound M → Sound L
sound_as same s = subst (λ (K : Ledger). Sound K) (sym same) s
