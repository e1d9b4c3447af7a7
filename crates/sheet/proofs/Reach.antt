-- A search that starts with what a move is tied to and goes on from each move that it found, until each was seen, finds all to which ties lead.
use Rattle.std.proofs.Common.{◌≡◌, ℕ, Bool, true, false, not, ◌&&◌, ◌||◌, eqb, ◌⊎◌, sym, ◌∙◌, subst, inl, inr}
use Rattle.std.proofs.lemmas.Bool.{and_cases, and_parts, or_cases, or_left, or_right, both_ways}
use Rattle.std.proofs.lemmas.Bool.Decides.{same_from_decides}
use Rattle.finite.proofs.Walks.{lacks}
use Rattle.sheet.specs.Chains.{Chain, leads, link, more}
use Rattle.sheet.specs.Facts.{Sound}
use Rattle.sheet.specs.Ledger.{Ledger, on}
use Rattle.sheet.proofs.Chains.{Within, decides, chain_trans}

-- k is one of the first moves, or ties lead to it from one of them
abbrev Led : (ℕ → ℕ → Bool) → (ℕ → Bool) → ℕ → Type 0
Led tie first k = (first k ≡ true) ⊎ ((x : ℕ) × (first x ≡ true) × Chain tie x k)

-- how far a search has come that began with the first moves
pub record Searched (tie : ℕ → ℕ → Bool) (first found unseen : ℕ → Bool) : Type 0 where
  pub led : (k : ℕ) → found k ≡ true → Led tie first k
  pub begun : (k : ℕ) → first k ≡ true → found k ≡ true
  pub seen : (x k : ℕ) → unseen x ≡ false → tie x k ≡ true → found k ≡ true

-- at first no move of the sheet was seen
pub search_begins : (L : Ledger) → Sound L → (first unseen : ℕ → Bool) → ((k : ℕ) → unseen k ≡ on L k) → Searched L.tie first first unseen
search_begins L s first unseen all = record {
  led = λ k h. inl h;
  begun = λ k h. h;
  seen = λ x k u t. absurd (both_ways (unseen x) u (all x ∙ (and_parts (on L x) (on L k) (s.ends x k t)).0));
}

-- one tie more
led_on : (tie : ℕ → ℕ → Bool) (first : ℕ → Bool) (m k : ℕ) → Led tie first m → tie m k ≡ true → Led tie first k
led_on tie first m k (inl h) t = inr (m, h, link t)
led_on tie first m k (inr w) t = inr (w.0, w.1, chain_trans w.2 (link t))

-- a closed set has what a chain from one of its members leads to
closed_chain : {tie : ℕ → ℕ → Bool} {found : ℕ → Bool} → ((x k : ℕ) → found x ≡ true → tie x k ≡ true → found k ≡ true) → {x k : ℕ} → found x ≡ true → Chain tie x k → found k ≡ true
closed_chain closed h (link t) = closed _ _ h t
closed_chain closed h (more t c) = closed_chain closed (closed _ _ h t) c

module _ {tie : ℕ → ℕ → Bool} {first found unseen : ℕ → Bool} (s : Searched tie first found unseen) where
  -- one move of those found is seen, and what it is tied to is found
  pub search_goes_on : {row found' unseen' : ℕ → Bool} (m : ℕ) → found m ≡ true → ((k : ℕ) → row k ≡ tie m k) → ((k : ℕ) → found' k ≡ (found k || row k))
      → ((k : ℕ) → unseen' k ≡ (not (eqb k m) && unseen k)) → Searched tie first found' unseen'
  search_goes_on {row = row} {found' = found'} {unseen' = unseen'} m has ties more' less = record {
    led = λ k h. elim (or_cases (found k) (row k) (sym (more' k) ∙ h)) [
      | inl f ↦ s.led k f
      | inr r ↦ led_on tie first m k (s.led m has) (sym (ties k) ∙ r)
    ];
    begun = λ k h. old k (s.begun k h);
    seen = λ x k u t. elim (lacks unseen unseen' m x less u) [
      | inl e ↦ more' k ∙ or_right (found k) (row k) (ties k ∙ subst (λ y. tie y k ≡ true) e t)
      | inr v ↦ old k (s.seen x k v t)
    ];
  }
    where
      old : (k : ℕ) → found k ≡ true → found' k ≡ true
      old k h = more' k ∙ or_left (found k) (row k) h

-- the moves that were found and not seen are the ones to go on from
module _ {tie : ℕ → ℕ → Bool} {first found unseen both : ℕ → Bool} (s : Searched tie first found unseen) (each : (k : ℕ) → both k ≡ (found k && unseen k)) where
  -- one of them was found
  pub found_both : (m : ℕ) → both m ≡ true → found m ≡ true
  found_both m next = (and_parts (found m) (unseen m) (sym (each m) ∙ next)).0

  -- where there are none, what was found is all to which ties lead
  pub search_ends : (i : ℕ) → Within tie → ((k : ℕ) → first k ≡ tie i k) → ((k : ℕ) → both k ≡ false) → (k : ℕ) → found k ≡ leads tie i k
  search_ends i within starts none k = same_from_decides (found k) (leads tie i k) (sure, all) (decides tie i k within)
    where
      sure : found k ≡ true → Chain tie i k
      sure h = elim (s.led k h) [ inl f ↦ link (sym (starts k) ∙ f) | inr w ↦ more (sym (starts w.0) ∙ w.1) w.2 ]

      closed : (x y : ℕ) → found x ≡ true → tie x y ≡ true → found y ≡ true
      closed x y h t = elim (and_cases (found x) (unseen x) (sym (each x) ∙ none x)) [ inl f ↦ absurd (both_ways (found x) f h) | inr u ↦ s.seen x y u t ]

      all : Chain tie i k → found k ≡ true
      all (link t) = s.begun k (starts k ∙ t)
      all (more {k = j} t c) = closed_chain closed (s.begun j (starts j ∙ t)) c
