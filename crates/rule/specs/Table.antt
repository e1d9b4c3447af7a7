-- What tables of ready times say.
use Rattle.std.specs.Prelude.{◌≡◌, ℕ, slice_index}
use Rattle.sheet.specs.Ledger.{Ledger}
use Rattle.rule.specs.Ready.{ready}
use Rattle.rule.specs.declared.table.ReadyTable.{ReadyTable}

-- the time that the table has for the move of number j
abbrev pub time_of : ReadyTable → ℕ → ℕ
time_of t j = slice_index t.times j

-- the table has the ready time of every number
abbrev pub Tabled : Ledger → ReadyTable → Type 0
Tabled L t = (j : ℕ) → time_of t j ≡ ready L j
