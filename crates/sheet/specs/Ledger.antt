-- The ledger of a sheet: what its moves and ties are, as plain mathematics. The numbers in it are natural numbers without a bound.
use Rattle.std.specs.Prelude.{ℕ, ◌+◌, max, Bool, false, cond, not, ◌&&◌, ◌||◌, is_some, Some, None, Option, ◌==◌}
use Rattle.std.specs.Option.{unwrap_or}
use Rattle.finite.specs.Below.{sum, greatest}
use Rattle.moves.specs.Room.{room}
use Rattle.sheet.specs.declared.figures.Move.{Move}

pub record Ledger : Type 0 where
  -- the figures of the move with that number, or None where it is not on the sheet
  pub move : ℕ → Option Move
  -- whether there is a tie from the first number to the second: the second may not run before the first is finished
  pub tie : ℕ → ℕ → Bool

-- no move and no tie
abbrev pub blank : Ledger
blank = record { move = λ _. None; tie = λ _ _. false }

-- whether the move with that number is on the sheet
abbrev pub on : Ledger → ℕ → Bool
on L n = is_some (L.move n)

-- the figures where there are none
abbrev pub nothing : Move
nothing = record { release = 0; length = 0; curve = 0 }

-- the figures of a move; all 0 of a move that is not on the sheet
abbrev pub figures : Ledger → ℕ → Move
figures L n = unwrap_or (L.move n) nothing

-- the tick before which a move may not run
abbrev pub release_of : Ledger → ℕ → ℕ
release_of L n = (figures L n).release

-- for how many ticks a move runs
abbrev pub length_of : Ledger → ℕ → ℕ
length_of L n = (figures L n).length

-- the span of a sheet: the greatest release and all lengths together
abbrev pub span : Ledger → ℕ
span L = greatest room (release_of L) + sum room (length_of L)

-- the span that it would have with one move more
abbrev pub span_with : Ledger → Move → ℕ
span_with L m = max (greatest room (release_of L)) m.release + (sum room (length_of L) + m.length)

-- the four changes that an accepted call makes

-- a move is put on the sheet
abbrev pub entered : ℕ → Move → Ledger → Ledger
entered n m L = record { move = λ k. cond (k == n) (Some m) (L.move k); tie = L.tie }

-- a tie from i to j is added
abbrev pub tied : ℕ → ℕ → Ledger → Ledger
tied i j L = record { move = L.move; tie = λ a b. (a == i && b == j) || L.tie a b }

-- the tie from i to j is taken away
abbrev pub untied : ℕ → ℕ → Ledger → Ledger
untied i j L = record { move = L.move; tie = λ a b. not (a == i && b == j) && L.tie a b }

-- a move is taken away, with every tie at it
abbrev pub struck : ℕ → Ledger → Ledger
struck n L = record { move = λ k. cond (k == n) None (L.move k); tie = λ a b. not (a == n || b == n) && L.tie a b }
