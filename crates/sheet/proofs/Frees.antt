-- Taking one and the same move out of one entry after another: the entries that were visited are without it, the others as before.
use Rattle.std.proofs.Common.{◌≡◌, ℕ, ◌+◌, ◌<◌, ◌≤◌, false, not, ◌&&◌, eqb, List, length, set, None, sym, refl, ap, ◌∙◌, inl, inr, arith, get_or-set_other, get_or-set_same}
use Rattle.std.proofs.lemmas.Bool.{cases_eq, cases_lt}
use Rattle.std.proofs.lemmas.List.{get_or_past}
use Rattle.std.proofs.Math.Bool.{and-false}
use Rattle.sheet.specs.declared.entry.Entry.{Entry}
use Rattle.sheet.specs.Ledger.{struck}
use Rattle.moves.specs.Members.{holds}
use Rattle.moves.proofs.Sets.{nobody_holds}
use Rattle.sheet.specs.Parts.{vacant, entry_at, ledger_of}
use Rattle.sheet.proofs.Equations.{struck_parts}

-- the entries below i are without m, and those from i on are the old ones
pub record Freed (m : ℕ) (old : List Entry) (i : ℕ) (now : List Entry) : Type 0 where
  pub figures : (k : ℕ) → (entry_at now k).figures ≡ (entry_at old k).figures
  pub done : (k b : ℕ) → k < i → holds (entry_at now k).followers b ≡ (not (eqb b m) && holds (entry_at old k).followers b)
  pub rest : (k : ℕ) → i ≤ k → entry_at now k ≡ entry_at old k

pub free_begins : (m : ℕ) (old : List Entry) → Freed m old 0 old
free_begins m old = record { figures = λ k. refl; done = λ k b l. absurd (omega arith); rest = λ k l. refl }

-- one entry more
pub free_goes_on : (m : ℕ) (old now : List Entry) (i : ℕ) (new : Entry) → Freed m old i now → i < length now
    → new.figures ≡ (entry_at now i).figures → ((b : ℕ) → holds new.followers b ≡ (not (eqb b m) && holds (entry_at now i).followers b))
    → Freed m old (i + 1) (set now i new)
free_goes_on m old now i new f fits same less = record {
  figures = λ k. elim (cases_eq k i) [
    | inl e ↦ rw (e, get_or-set_same now i new vacant fits) (same ∙ f.figures i)
    | inr ne ↦ rw (get_or-set_other now i k new vacant ne) (f.figures k)
  ];
  done = λ k b l. elim (cases_eq k i) [
    | inl e ↦ rw (e, get_or-set_same now i new vacant fits) (less b ∙ ap (λ (x : Entry). not (eqb b m) && holds x.followers b) (f.rest i (omega arith)))
    | inr ne ↦ rw (get_or-set_other now i k new vacant ne) (f.done k b (omega arith))
  ];
  rest = λ k l. get_or-set_other now i k new vacant (λ e. omega arith) ∙ f.rest k (omega arith);
}

-- past the last entry there is none, with the move or without
free_all : (m : ℕ) (old now : List Entry) (i : ℕ) → Freed m old i now → length old ≤ i → (k b : ℕ)
    → holds (entry_at now k).followers b ≡ (not (eqb b m) && holds (entry_at old k).followers b)
free_all m old now i f fits k b =
    elim (cases_lt k i) [
      | inl l ↦ f.done k b l
      | inr g ↦ rw (f.rest k g, get_or_past old k vacant (omega arith), nobody_holds b) (sym (and-false (not (eqb b m))))
    ]

-- at the end the entry of the move is vacant too
pub free_ends : (m : ℕ) (old now : List Entry) (i place : ℕ) (new : Entry) → Freed m old i now → length old ≤ i → place ≡ m → m < length now
    → new.figures ≡ None → ((b : ℕ) → holds new.followers b ≡ false) → ledger_of (set now place new) ≡ struck m (ledger_of old)
free_ends m old now i place new f all at fits none free = struck_parts old now m place at fits new none free f.figures (free_all m old now i f all)

-- the three steps of the loop
pub ruleset freeing = (free_begins, free_goes_on, free_ends)
