-- What the parts of a sheet mean: the entries, and the set of moves beside them.
use Rattle.std.specs.Prelude.{◌≡◌, ℕ, List, None, slice_index_or}
use Rattle.moves.specs.Members.{holds, nobody}
use Rattle.moves.specs.declared.set.MoveSet.{MoveSet}
use Rattle.sheet.specs.Ledger.{Ledger, on}
use Rattle.sheet.specs.declared.entry.Entry.{Entry}

-- the entry of a number that no move has
abbrev pub vacant : Entry
vacant = record { figures = None; followers = nobody }

-- the entry of a number
abbrev pub entry_at : List Entry → ℕ → Entry
entry_at entries n = slice_index_or entries n vacant

-- the ledger that the entries stand for
unfoldable pub ledger_of : List Entry → Ledger
ledger_of entries = record {
  move = λ n. (entry_at entries n).figures;
  tie = λ i j. holds (entry_at entries i).followers j;
}

-- a set holds the moves of a ledger and no others
abbrev pub HoldsMoves : MoveSet → Ledger → Type 0
HoldsMoves present L = (k : ℕ) → holds present k ≡ on L k
