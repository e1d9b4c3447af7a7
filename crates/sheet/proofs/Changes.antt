-- What the entries of a changed sheet mean, and that they keep what every sheet keeps: the first part of each conclusion shows `grind` the call to match.
use Rattle.std.proofs.Common.{◌≡◌, ℕ, ◌<◌, ◌≤◌, Bool, true, false, cond, not, ◌&&◌, ◌||◌, eqb, length, set, replicate, is_some, Some, None, Option, sym, ap, ◌∙◌, arith}
use Rattle.moves.specs.Members.{holds}
use Rattle.moves.specs.Room.{room}
use Rattle.moves.specs.declared.set.MoveSet.{MoveSet}
use Rattle.sheet.specs.declared.sheet.Sheet.{Sheet}
use Rattle.sheet.specs.Meaning.{meaning}
use Rattle.sheet.proofs.Sheets.{sheet_sound}
use Rattle.time.specs.Ticks.{last_tick}
use Rattle.sheet.specs.declared.entry.Entry.{Entry}
use Rattle.sheet.specs.declared.figures.Move.{Move}
use Rattle.sheet.specs.Chains.{closes}
use Rattle.sheet.specs.Facts.{Sound, ranged}
use Rattle.sheet.specs.Ledger.{Ledger, blank, on, span_with, entered, tied, untied}
use Rattle.sheet.specs.Parts.{ledger_of, HoldsMoves}
use Rattle.sheet.proofs.Equations.{blank_parts, entered_parts, tied_parts, untied_parts, sound_as}
use Rattle.sheet.proofs.Keeps.{blank_sound, entered_sound, open_sound, untied_sound}
use Rattle.sheet.proofs.Spans.{span_entered}

-- the sheet with no move
pub unused_parts : (e : Entry) → e.figures ≡ None → ((k : ℕ) → holds e.followers k ≡ false) → (ledger_of (replicate room e) ≡ blank) × Sound (ledger_of (replicate room e))
unused_parts e none free = let same = blank_parts room e none free in (same, sound_as same blank_sound)

-- a set holds the moves of the blank ledger, and of one with a move more
pub holds_none : {L : Ledger} (present : MoveSet) → L ≡ blank → ((k : ℕ) → holds present k ≡ false) → HoldsMoves present L
holds_none present same none k = none k ∙ ap (λ (K : Ledger). on K k) (sym same)

module _ (L M : Ledger) (present now : MoveSet) (n : ℕ) (old : HoldsMoves present L) where
  pub holds_more : (m : Move) → M ≡ entered n m L → ((k : ℕ) → holds now k ≡ (eqb k n || holds present k)) → HoldsMoves now M
  holds_more m same more k = rw (same, more k, old k) (either (eqb k n) (L.move k))
    where
      either : (b : Bool) (o : Option Move) → (b || is_some o) ≡ is_some (cond b (Some m) o)
      either b o = grind arith

-- an entry is put into its place
module _ (s : Sheet) (n place : ℕ) (at : place ≡ n) (low : n < room) (new : Entry) where
  fits : n < length s.entries
  fits = omega (arith, s.places, low)

  -- that of one move more
  pub with_move_parts : (figures : Move) → new.figures ≡ Some figures → ((b : ℕ) → holds new.followers b ≡ (meaning s).tie n b)
      → on (meaning s) n ≡ false → ranged figures ≡ true → span_with (meaning s) figures ≤ last_tick
      → (ledger_of (set s.entries place new) ≡ entered n figures (meaning s)) × Sound (ledger_of (set s.entries place new))
  with_move_parts figures is same free good short =
      let e = entered_parts s.entries n place at fits new figures is same in
      (e, sound_as e (entered_sound n figures (meaning s) (sheet_sound s) low good (omega (arith, span_entered n figures (meaning s) low free))))

  module _ (j : ℕ) (same : new.figures ≡ (meaning s).move n) where
    -- that of the same move, with one tie more
    pub with_tie_parts : ((b : ℕ) → holds new.followers b ≡ (eqb b j || (meaning s).tie n b)) → on (meaning s) n ≡ true → on (meaning s) j ≡ true → closes (meaning s).tie n j ≡ false
        → (ledger_of (set s.entries place new) ≡ tied n j (meaning s)) × Sound (ledger_of (set s.entries place new))
    with_tie_parts more here there open' =
        let e = tied_parts s.entries n place at fits new j same more in
        (e, sound_as e (open_sound n j (meaning s) (sheet_sound s) here there open'))

  -- that of the same move, with one tie less; the entry that was there is named, so that a caller can cite what it knows of it
  pub without_tie_parts : (old : Entry) (j : ℕ) → old.figures ≡ (meaning s).move n → ((b : ℕ) → holds old.followers b ≡ (meaning s).tie n b)
      → new.figures ≡ old.figures → ((b : ℕ) → holds new.followers b ≡ (not (eqb b j) && holds old.followers b))
      → (ledger_of (set s.entries place new) ≡ untied n j (meaning s)) × Sound (ledger_of (set s.entries place new))
  without_tie_parts old j stood waited same less =
      let e = untied_parts s.entries n place at fits new j (same ∙ stood) (λ b. less b ∙ ap (λ x. not (eqb b j) && x) (waited b)) in
      (e, sound_as e (untied_sound n j (meaning s) (sheet_sound s)))
