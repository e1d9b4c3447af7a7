-- A run goes on from what its calls so far made: one call more is one step of the definitions.
use Rattle.std.proofs.Common.{◌≡◌, ℕ, zero, suc, ◌+◌, ◌<◌, List, [], ◌∷◌, length, get_or, take, drop, set, None, Ok, Result, sym, refl, ap, ◌∙◌, inl, inr, add-one, arith, length-set, take_all, get_or-set_other, get_or-set_same, drop-drop, drop-set-lt}
use Rattle.std.proofs.lemmas.Bool.{cases_eq}
use Rattle.sheet.specs.declared.refusal.Refusal.{Refusal}
use Rattle.sheet.specs.Meaning.{refused, Answers, Later}
use Rattle.sheet.specs.declared.call.Call.{Call}
use Rattle.sheet.specs.Facts.{Sound}
use Rattle.sheet.specs.Ledger.{Ledger, blank}
use Rattle.sheet.specs.Refusals.{refusal, feed}
use Rattle.sheet.specs.Runs.{fed, answered, ledger}
use Rattle.sheet.proofs.Keeps.{fed_sound, blank_sound}

-- every ledger that calls can make keeps what every sheet keeps
pub ledger_sound : (cs : List Call) → Sound (ledger cs)
ledger_sound cs = fed_sound cs blank blank_sound

-- as many answers as calls
pub answered_length : (cs : List Call) (L : Ledger) → length (answered cs L) ≡ length cs
unfolding answered
answered_length [] L = refl
answered_length (c ∷ cs) L = omega (arith, answered_length cs (feed c L))

-- the ledger after one call more
pub fed_next : (cs : List Call) (i : ℕ) (d : Call) (L : Ledger) → i < length cs → fed (take (suc i) cs) L ≡ feed (get_or cs i d) (fed (take i cs) L)
unfolding fed
fed_next [] i d L h = absurd (omega arith)
fed_next (c ∷ cs) zero d L h = refl
fed_next (c ∷ cs) (suc i) d L h = fed_next cs i d (feed c L) (omega arith)

-- a call answers on the ledger that the calls before it made
pub answered_at : (cs : List Call) (i : ℕ) (d : Call) (L : Ledger) → i < length cs → get_or (answered cs L) i None ≡ refusal (get_or cs i d) (fed (take i cs) L)
unfolding fed answered
answered_at [] i d L h = absurd (omega arith)
answered_at (c ∷ cs) zero d L h = refl
answered_at (c ∷ cs) (suc i) d L h = answered_at cs i d (feed c L) (omega arith)

-- how far a run is: i calls were made on the ledger L, which is now M, and the list of answers was old and is now new
pub record Ran (cs : List Call) (L : Ledger) (old : List (Result (Unit {0}) Refusal)) (M : Ledger) (new : List (Result (Unit {0}) Refusal)) (i : ℕ) : Type 0 where
  pub ledger : M ≡ fed (take i cs) L
  pub answers : (k : ℕ) → k < i → k < length new → refused (get_or new k (Ok tt)) ≡ get_or (answered cs L) k None
  pub later : drop i new ≡ drop i old

pub ran_begins : {cs : List Call} {L : Ledger} {old : List (Result (Unit {0}) Refusal)} → Ran cs L old L old 0
unfolding fed
ran_begins = record { ledger = refl; answers = λ k h. absurd (omega arith); later = refl }

module _ {cs : List Call} {L M : Ledger} {old new : List (Result (Unit {0}) Refusal)} {i : ℕ} (s : Ran cs L old M new i) where
  -- one call more is made, and its answer is written where there is a place for it
  pub ran_goes_on : {N : Ledger} {now : List (Result (Unit {0}) Refusal)} (r : Result (Unit {0}) Refusal) (d : Call) → i < length cs → N ≡ feed (get_or cs i d) M → refused r ≡ refusal (get_or cs i d) M
      → now ≡ set new i r → Ran cs L old N now (i + 1)
  ran_goes_on r d more next answer put = rw put (record {
    ledger = rw add-one (next ∙ ap (feed (get_or cs i d)) s.ledger ∙ sym (fed_next cs i d L more));
    answers = λ k h l. let low : k < length new = rw length-set at l in elim (cases_eq k i) [
      | inl e ↦ rw e (ap refused (get_or-set_same new i r (Ok tt) (omega arith)) ∙ answer ∙ ap (refusal (get_or cs i d)) s.ledger ∙ sym (answered_at cs i d L more))
      | inr ne ↦ ap refused (get_or-set_other new i k r (Ok tt) ne) ∙ s.answers k (omega arith) low
    ];
    later = drop-set-lt (i + 1) new i r (omega arith) ∙ sym (drop-drop 1 i new) ∙ ap (drop 1) s.later ∙ drop-drop 1 i old;
  })

  -- all calls were made
  module _ (end : i ≡ length cs) where
    pub ran_ledger : M ≡ fed cs L
    ran_ledger = s.ledger ∙ ap (λ xs. fed xs L) (take_all i cs (omega arith))

    pub ran_answers : Answers new (answered cs L)
    ran_answers k l h = s.answers k (omega (arith, answered_length cs L)) l

    pub ran_later : Later (length cs) old new
    ran_later = ap (λ n. drop n new) (sym end) ∙ s.later ∙ ap (λ n. drop n old) end

-- the end of a run
pub ruleset running = (ran_ledger, ran_later)
