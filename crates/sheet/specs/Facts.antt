-- What every sheet keeps.
use Rattle.std.specs.Prelude.{◌≡◌, ℕ, ◌<◌, ◌≤◌, Bool, true, ◌&&◌, nat_le}
use Rattle.moves.specs.Room.{room}
use Rattle.time.specs.Ticks.{last_tick}
use Rattle.sheet.specs.Limits.{last_release, longest, last_curve}
use Rattle.sheet.specs.Ledger.{Ledger, on, figures, span}
use Rattle.sheet.specs.Chains.{Chain}
use Rattle.sheet.specs.declared.figures.Move.{Move}

-- a release, a length and a curve number are each within its range
abbrev pub in_range : ℕ → ℕ → ℕ → Bool
in_range release length curve = nat_le release last_release && nat_le 1 length && nat_le length longest && nat_le curve last_curve

-- the same of a move's figures
abbrev pub ranged : Move → Bool
ranged m = in_range m.release m.length m.curve

-- a move's number is below the room
abbrev pub Numbered : Ledger → Type 0
Numbered L = (n : ℕ) → on L n ≡ true → n < room

-- the figures of each move are within their ranges
abbrev pub Ranged : Ledger → Type 0
Ranged L = (n : ℕ) → on L n ≡ true → ranged (figures L n) ≡ true

-- both moves of each tie are on the sheet
abbrev pub BothOn : Ledger → Type 0
BothOn L = (i j : ℕ) → L.tie i j ≡ true → (on L i && on L j) ≡ true

-- no chain of ties returns to its start
abbrev pub NoReturn : Ledger → Type 0
NoReturn L = (i : ℕ) → Chain L.tie i i → ⊥

-- the greatest release and all lengths together are at most the last tick
abbrev pub InSpan : Ledger → Type 0
InSpan L = span L ≤ last_tick

-- all of these
pub record Sound (L : Ledger) : Type 0 where
  pub numbered : Numbered L
  pub ranges : Ranged L
  pub ends : BothOn L
  pub acyclic : NoReturn L
  pub short : InSpan L
