-- How far a sweep over the moves of a sheet is that gives one move after another its ready time.
use Rattle.std.specs.Prelude.{◌≡◌, ℕ, Bool, true, false, List, length, slice_index}
use Rattle.moves.specs.Room.{room}
use Rattle.sheet.specs.Ledger.{Ledger}
use Rattle.rule.specs.Ready.{ready}

-- a list of times has a place for each number, and the ready time of each move that is not left
pub record Swept (L : Ledger) (left : ℕ → Bool) (times : List ℕ) : Type 0 where
  pub places : length times ≡ room
  pub known : (j : ℕ) → left j ≡ false → slice_index times j ≡ ready L j

-- m waits for no move that is left
abbrev pub Free : Ledger → (ℕ → Bool) → ℕ → Type 0
Free L left m = (i : ℕ) → left i ≡ true → L.tie i m ≡ false
