-- The steps of the sweep: some move left waits for no other that is left, and its ready time follows from those that are done.
use Rattle.std.proofs.Common.{◌≡◌, ℕ, ◌+◌, ◌<◌, ◌≤◌, Bool, true, false, cond, not, ◌&&◌, ◌||◌, eqb, replicate, Some, None, Option, sym, refl, ap, ◌∙◌, subst, inl, inr, MatchOption}
use Rattle.finite.proofs.Walks.{lacks}
use Rattle.moves.specs.Room.{room}
use Rattle.sheet.specs.Facts.{Sound}
use Rattle.sheet.specs.Ledger.{Ledger, on, length_of}
use Rattle.time.specs.Ticks.{last_tick}
use Rattle.sheet.specs.declared.figures.Move.{Move}
use Rattle.sheet.proofs.Equations.{replicate_reads}
use Rattle.sheet.proofs.Keeps.{tie_on}
use Rattle.sheet.proofs.Spans.{absent}
use Rattle.rule.specs.Ready.{ready, ReadyLaw}
use Rattle.rule.specs.Sweep.{Swept, Free}
use Rattle.moves.specs.Members.{holds, Holds, HoldsNone, Lowest}
use Rattle.moves.specs.Number.{number}
use Rattle.moves.specs.declared.number.MoveNumber.{MoveNumber}
use Rattle.moves.specs.declared.set.MoveSet.{MoveSet}
use Rattle.moves.proofs.Sets.{holds_below}
use Rattle.sheet.specs.declared.sheet.Sheet.{Sheet}
use Rattle.sheet.specs.Meaning.{meaning}
use Rattle.sheet.proofs.Sheets.{sheet_sound}
use Rattle.rule.proofs.Rank.{source}
use Rattle.rule.proofs.Times.{next_free, ready_equation, ready_times_lem, ready_unique, ready_within}
use Rattle.std.proofs.lemmas.Bool.{and_cases, and_parts, both_ways, cases_Bool, cond-false, not-false, or_cases, or_left, or_right}

-- an answer by cases says what follows from it in each case
pub cases_map : {A : Type 0} {P R : Type 0} {Q S : A → Type 0} (o : Option A) → (P → R) → ((x : A) → Q x → S x) → MatchOption o P Q → MatchOption o R S
cases_map (Some x) f g h = g x h
cases_map None f g h = f h

-- ---- who is held up

-- how far it is known who waits for a move of a set: the moves still to be looked at are the rest
pub record Held (tie : ℕ → ℕ → Bool) (left rest held : ℕ → Bool) : Type 0 where
  pub some : (k : ℕ) → held k ≡ true → (i : ℕ) × (left i ≡ true) × (tie i k ≡ true)
  pub all : (i k : ℕ) → left i ≡ true → rest i ≡ false → tie i k ≡ true → held k ≡ true
  pub part : (i : ℕ) → rest i ≡ true → left i ≡ true

pub held_begins : (tie : ℕ → ℕ → Bool) (left held : ℕ → Bool) → ((k : ℕ) → held k ≡ false) → Held tie left left held
held_begins tie left held none = record {
  some = λ k h. absurd (both_ways (held k) (none k) h);
  all = λ i k h f t. absurd (both_ways (left i) f h);
  part = λ i h. h;
}

pub held_goes_on : (tie : ℕ → ℕ → Bool) (left rest held row held' rest' : ℕ → Bool) (m : ℕ) → Held tie left rest held → rest m ≡ true → ((k : ℕ) → row k ≡ tie m k)
    → ((k : ℕ) → held' k ≡ (held k || row k)) → ((k : ℕ) → rest' k ≡ (not (eqb k m) && rest k)) → Held tie left rest' held'
held_goes_on tie left rest held row held' rest' m s has ties more less = record {
  some = λ k h. elim (or_cases (held k) (row k) (sym (more k) ∙ h)) [
    | inl o ↦ s.some k o
    | inr r ↦ (m, s.part m has, sym (ties k) ∙ r)
  ];
  all = λ i k h f t. elim (lacks rest rest' m i less f) [
    | inl e ↦ more k ∙ or_right (held k) (row k) (ties k ∙ subst (λ x. tie x k ≡ true) e t)
    | inr g ↦ more k ∙ or_left (held k) (row k) (s.all i k h g t)
  ];
  part = λ i h. s.part i (and_parts (not (eqb i m)) (rest i) (sym (less i) ∙ h)).1;
}

module _ (L : Ledger) (s : Sound L) (left held free : ℕ → Bool)
    (some : (k : ℕ) → held k ≡ true → (i : ℕ) × (left i ≡ true) × (L.tie i k ≡ true))
    (apart : (k : ℕ) → free k ≡ (left k && not (held k))) where
  -- where every move left is held up, none is left
  pub none_free : ((k : ℕ) → left k ≡ true → k < room) → ((k : ℕ) → free k ≡ false) → (k : ℕ) → left k ≡ false
  none_free low none k = elim (cases_Bool (left k)) [ inl h ↦ absurd (found (source L s left k (low k h) h)) | inr h ↦ h ]
    where
      found : (m : ℕ) × (m < room) × (left m ≡ true) × ((i : ℕ) → i < room → left i ≡ true → L.tie i m ≡ false) → ⊥
      found w =
          elim (and_cases (left w.0) (not (held w.0)) (sym (apart w.0) ∙ none w.0)) [
            | inl f ↦ both_ways (left w.0) f w.2
            | inr f ↦ let e = some w.0 (not-false (held w.0) f) in both_ways (L.tie e.0 w.0) (w.3 e.0 (low e.0 e.1) e.1) e.2
          ]

  -- a free move is left, and no other that is left is tied to it
  pub free_waits : ((i k : ℕ) → left i ≡ true → L.tie i k ≡ true → held k ≡ true) → (m : ℕ) → free m ≡ true
      → (left m ≡ true) × ((i : ℕ) → left i ≡ true → L.tie i m ≡ false)
  free_waits all m h =
      let p = and_parts (left m) (not (held m)) (sym (apart m) ∙ h) in (
        p.0,
        λ i l. elim (cases_Bool (L.tie i m)) [ inl t ↦ absurd (both_ways (not (held m)) (ap not (all i m l t)) p.1) | inr f ↦ f ],
      )

-- ---- one ready time from others

-- when i could be finished where m waits for it
abbrev pub finishes : Ledger → ℕ → ℕ → ℕ
finishes L m i = cond (L.tie i m) (ready L i + length_of L i) 0

module _ (L : Ledger) (s : Sound L) where
  -- a move that is tied to another is finished by the last tick
  pub tied_in_time : (i j : ℕ) → L.tie i j ≡ true → ready L i + length_of L i ≤ last_tick
  tied_in_time i j t = ready_within L s (ready L) (ready_times_lem L s) i (tie_on L s i j t).0

  -- only moves of the sheet are waited for
  pub finishes_off : (m i : ℕ) → on L i ≡ false → finishes L m i ≡ 0
  finishes_off m i off =
      cond-false (L.tie i m) (ready L i + length_of L i) 0
      (elim (cases_Bool (L.tie i m)) [ inl t ↦ absurd (both_ways (on L i) off (tie_on L s i m t).0) | inr f ↦ f ])

  -- a move that is not on the sheet has the ready time 0
  pub ready_absent : (j : ℕ) → on L j ≡ false → ready L j ≡ 0
  ready_absent j off =
      ready_equation L s j ∙ next_free L (ready L) j (λ i t. both_ways (on L j) off (tie_on L s i j t).1) ∙ ap (λ (f : Move). f.release) (absent (L.move j) off)

  -- the law of ready times
  pub ready_law : ReadyLaw L
  ready_law = record {
    exist = ready_times_lem L s;
    equation = ready_equation L s;
    only = λ f g. ready_unique L s f (ready L) g (ready_times_lem L s);
    in_time = ready_within L s (ready L) (ready_times_lem L s);
  }

-- ---- the table

pub swept_begins : (L : Ledger) (s : Sound L) (left : ℕ → Bool) → ((k : ℕ) → left k ≡ on L k) → Swept L left (replicate room 0)
swept_begins L s left all = record { places = refl; known = λ j h. replicate_reads room j 0 ∙ sym (ready_absent L s j (sym (all j) ∙ h)) }

-- ---- the same of a sheet, as its sweep has them

module _ (s : Sheet) where
  pub sheet_begins : (left : MoveSet) → ((k : ℕ) → holds left k ≡ on (meaning s) k) → Swept (meaning s) (holds left) (replicate room 0)
  sheet_begins left all = swept_begins (meaning s) (sheet_sound s) (holds left) all

  -- the first part shows `grind` the call to match
  pub sheet_law : (meaning s ≡ meaning s) × ReadyLaw (meaning s)
  sheet_law = (refl, ready_law (meaning s) (sheet_sound s))

  -- the lowest of the moves that are left and not held up, where there is one
  pub sheet_free : (left held free : MoveSet) (r : Option MoveNumber) → ((k : ℕ) → holds held k ≡ true → (i : ℕ) × (holds left i ≡ true) × ((meaning s).tie i k ≡ true))
      → ((i k : ℕ) → holds left i ≡ true → (meaning s).tie i k ≡ true → holds held k ≡ true) → Holds free (λ k. holds left k && not (holds held k)) → MatchOption r (HoldsNone free) (λ m. Lowest free (number m))
      → MatchOption r ((k : ℕ) → holds left k ≡ false) (λ m. (holds left (number m) ≡ true) × Free (meaning s) (holds left) (number m))
  sheet_free left held free r some all each first =
      cases_map r
      (λ none. none_free (meaning s) (sheet_sound s) (holds left) (holds held) (holds free) some each.held (holds_below left) none.held)
      (λ m low. free_waits (meaning s) (sheet_sound s) (holds left) (holds held) (holds free) some each.held all (number m) low.held)
      first
