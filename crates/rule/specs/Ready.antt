-- Ready times: the earliest tick at which each move can run when nothing else holds it up but its release and its ties.
-- Scheduling texts call them modified release dates, or heads. They always come from the whole sheet.
use Rattle.std.specs.Prelude.{◌≡◌, ℕ, zero, suc, ◌+◌, ◌≤◌, max, true, false, cond, ◌⊎◌}
use Rattle.finite.specs.Below.{greatest}
use Rattle.moves.specs.Room.{room}
use Rattle.sheet.specs.Ledger.{Ledger, on, release_of, length_of}
use Rattle.time.specs.Ticks.{last_tick}

-- f gives every move its ready time: the greatest of its release and, for each tie from i to it, the ready time and the length of i together
pub record ReadyTimes (L : Ledger) (f : ℕ → ℕ) : Type 0 where
  -- no move is ready before its release
  pub released : (j : ℕ) → on L j ≡ true → release_of L j ≤ f j
  -- no move is ready before one that is tied to it could be finished
  pub waits : (i j : ℕ) → L.tie i j ≡ true → f i + length_of L i ≤ f j
  -- and each is ready as early as that: at its release, or when some move that is tied to it could be finished
  pub earliest : (j : ℕ) → on L j ≡ true → (f j ≡ release_of L j) ⊎ ((i : ℕ) × (L.tie i j ≡ true) × (f j ≡ f i + length_of L i))

-- the ready time of j where chains of more than n ties are not looked at
unfoldable pub ready_in : Ledger → ℕ → ℕ → ℕ
ready_in L zero j = release_of L j
ready_in L (suc n) j = max (release_of L j) (greatest room (λ i. elim (L.tie i j) [ true ↦ ready_in L n i + length_of L i | false ↦ 0 ]))

-- the ready time of j: no chain of ties has more ties than there are numbers
unfoldable pub ready : Ledger → ℕ → ℕ
ready L j = ready_in L room j

-- what is true of a sheet's ready times
pub record ReadyLaw (L : Ledger) : Type 0 where
  -- they are ready times
  pub exist : ReadyTimes L (ready L)
  -- as one equation for each number
  pub equation : (j : ℕ) → ready L j ≡ max (release_of L j) (greatest room (λ i. cond (L.tie i j) (ready L i + length_of L i) 0))
  -- no others are
  pub only : (f : ℕ → ℕ) → ReadyTimes L f → (j : ℕ) → on L j ≡ true → f j ≡ ready L j
  -- and a move that runs on from its ready time is finished by the last tick
  pub in_time : (j : ℕ) → on L j ≡ true → ready L j + length_of L j ≤ last_tick
