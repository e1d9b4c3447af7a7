-- What is true of every sheet, read off what its type carries.
use Rattle.std.proofs.Common.{◌≡◌, ℕ, ◌≤◌, false, ◌⊎◌, None, is_some, ap, ◌∙◌, inl, inr, arith}
use Rattle.std.proofs.lemmas.Bool.{cases_Bool, cases_lt, both_ways}
use Rattle.std.proofs.lemmas.List.{get_or_past}
use Rattle.moves.specs.Room.{room}
use Rattle.sheet.specs.declared.entry.Entry.{Entry}
use Rattle.sheet.specs.declared.sheet.Sheet.{Sheet}
use Rattle.sheet.specs.Chains.{TellsChains}
use Rattle.sheet.specs.Facts.{Sound}
use Rattle.sheet.specs.Ledger.{on}
use Rattle.sheet.specs.Meaning.{meaning}
use Rattle.sheet.specs.Parts.{vacant}
use Rattle.sheet.proofs.Chains.{decides}
use Rattle.sheet.proofs.Equations.{move_of}
use Rattle.sheet.proofs.Keeps.{tie_within}

-- no move past the room is on a sheet
pub move_beyond : (s : Sheet) (n : ℕ) → room ≤ n → (meaning s).move n ≡ None
move_beyond s n far = move_of s.entries n ∙ ap (λ (x : Entry). x.figures) (get_or_past s.entries n vacant (omega (arith, s.places)))

pub on_beyond : (s : Sheet) (n : ℕ) → room ≤ n → on (meaning s) n ≡ false
on_beyond s n far = ap is_some (move_beyond s n far)

-- the ledger of a sheet keeps everything that a sheet keeps
pub sheet_sound : (s : Sheet) → Sound (meaning s)
sheet_sound s = record {
  numbered = λ n h. elim (cases_lt n room) [ inl l ↦ l | inr far ↦ absurd (both_ways (on (meaning s) n) (on_beyond s n far) h) ];
  ranges = s.ranges;
  ends = s.ends;
  acyclic = s.acyclic;
  short = s.short;
}

-- no tie has an end past the room
pub tie_beyond : (s : Sheet) (i j : ℕ) → (room ≤ i) ⊎ (room ≤ j) → (meaning s).tie i j ≡ false
tie_beyond s i j far =
    elim (cases_Bool ((meaning s).tie i j)) [
      | inl h ↦ let w = tie_within (meaning s) (sheet_sound s) i j h in absurd (elim far [ inl a ↦ omega arith | inr b ↦ omega arith ])
      | inr h ↦ h
    ]

-- of every sheet the test for chains tells where ties lead
pub sheet_chains : (s : Sheet) → TellsChains (meaning s).tie
sheet_chains s i j = decides (meaning s).tie i j (tie_within (meaning s) (sheet_sound s))
