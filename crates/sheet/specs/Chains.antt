-- Chains of ties: which move has to wait for which in the end. Scheduling texts call this precedence.
use Rattle.std.specs.Prelude.{◌≡◌, ℕ, zero, suc, Bool, true, false, ◌||◌, Decides, ◌==◌}
use Rattle.finite.specs.Below.{any}
use Rattle.moves.specs.Room.{room}

-- ties lead from i to j: there is a tie from i to j, or one from i to a move from which ties lead to j
pub data Chain (tie : ℕ → ℕ → Bool) : ℕ → ℕ → Type 0 where
  link : {i j : ℕ} → tie i j ≡ true → Chain tie i j
  more : {i k j : ℕ} → tie i k ≡ true → Chain tie k j → Chain tie i j

-- the same as a test: whether a chain of at most n ties leads from i to j
unfoldable pub leads_in : (ℕ → ℕ → Bool) → ℕ → ℕ → ℕ → Bool
leads_in tie zero i j = false
leads_in tie (suc n) i j = tie i j || any room (λ k. elim (tie i k) [ true ↦ leads_in tie n k j | false ↦ false ])

-- whether ties lead from i to j: a shortest chain passes no move twice
unfoldable pub leads : (ℕ → ℕ → Bool) → ℕ → ℕ → Bool
leads tie i j = leads_in tie room i j

-- whether a tie from i to j would let a chain return to its start: both are one move, or ties already lead from j to i
abbrev pub closes : (ℕ → ℕ → Bool) → ℕ → ℕ → Bool
closes tie i j = i == j || leads tie j i

-- that test is about chains: it passes exactly where ties lead from i to j
abbrev pub TellsChains : (ℕ → ℕ → Bool) → Type 0
TellsChains tie = (i j : ℕ) → Decides (leads tie i j) (Chain tie i j)
