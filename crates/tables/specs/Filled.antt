-- What a table that is filled from the front means.
use Rattle.std.specs.Prelude.{ℕ, cond, List, length, take, Some, None, Option, nat_lt}
use Rattle.tables.specs.declared.filled.Filled.{Filled}

-- the items that it has
abbrev pub items_of : {T : Type 0} {n : ℕ} → Filled T n → List T
items_of t = take t.count t.items

-- the place of one item more in a table of n places, or None where all are taken
abbrev pub next_place : {T : Type 0} → ℕ → List T → Option ℕ
next_place n items = cond (nat_lt (length items) n) (Some (length items)) None
