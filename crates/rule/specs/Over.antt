-- When one drive can be through with every move of a sheet. Scheduling texts call it the makespan.
use Rattle.std.specs.Prelude.{◌≡◌, ℕ, ◌+◌, ◌≤◌, true, cond, ◌⊎◌, nat_le}
use Rattle.finite.specs.Below.{sum, greatest}
use Rattle.moves.specs.Room.{room}
use Rattle.sheet.specs.Ledger.{Ledger, on, length_of}
use Rattle.time.specs.Ticks.{last_tick}
use Rattle.rule.specs.Ready.{ready}

-- the work that no drive can begin before tick t: the lengths of all moves that are not ready earlier
abbrev pub work_from : Ledger → ℕ → ℕ
work_from L t = sum room (λ k. cond (nat_le t (ready L k)) (length_of L k) 0)

-- the tick by which the drive is through if it is never idle from the ready time of j on
abbrev pub through_from : Ledger → ℕ → ℕ
through_from L j = ready L j + work_from L (ready L j)

-- the earliest tick at which one drive can be through with all moves: the greatest of these; 0 for a sheet with no move
unfoldable pub over : Ledger → ℕ
over L = greatest room (λ j. cond (on L j) (through_from L j) 0)

-- what is true of that tick
pub record OverLaw (L : Ledger) : Type 0 where
  -- from the ready time of any move on, there is time for all the work that cannot begin before it
  pub enough : (j : ℕ) → on L j ≡ true → through_from L j ≤ over L
  -- for some move there is not a tick more than that, unless the sheet has no move
  pub tight : (over L ≡ 0) ⊎ ((j : ℕ) × (on L j ≡ true) × (over L ≡ through_from L j))
  -- it is no later than the last tick
  pub in_time : over L ≤ last_tick
