-- What a set of moves means: which numbers it holds, and the rising list of them.
-- Nothing outside this crate looks at the word of a set.
use Rattle.std.specs.Prelude.{◌≡◌, ℕ, ◌<◌, Bool, true, false, not, ◌&&◌, List, [], ◌∷◌, ◌==◌, nat_lt}
use Rattle.std.specs.Int.{bit_at}
use Rattle.std.specs.List.{AllPairs, Contains}
use Rattle.finite.specs.Below.{rising}
use Rattle.moves.specs.Room.{room}
use Rattle.moves.specs.declared.set.MoveSet.{MoveSet}

-- whether the move with number k is in the set
unfoldable pub holds : MoveSet → ℕ → Bool
holds s k = nat_lt k room && bit_at s.word k == 1

-- the numbers of the moves in the set, in rising order
unfoldable pub members : MoveSet → List ℕ
members s = rising room (holds s)

-- the set has just the numbers that have p, and lists just them
pub record Holds (s : MoveSet) (p : ℕ → Bool) : Type 0 where
  pub held : (k : ℕ) → holds s k ≡ p k
  pub listed : members s ≡ rising room p

-- no number is in the set, and none on its list
pub record HoldsNone (s : MoveSet) : Type 0 where
  pub held : (k : ℕ) → holds s k ≡ false
  pub listed : members s ≡ []

-- n is the lowest number in the set, and the first on its list; the list goes on with the others
pub record Lowest (s : MoveSet) (n : ℕ) : Type 0 where
  pub held : holds s n ≡ true
  pub below : (k : ℕ) → k < n → holds s k ≡ false
  pub listed : members s ≡ n ∷ rising room (λ k. not (k == n) && holds s k)

-- the list is what it should be
pub record Listed (s : MoveSet) : Type 0 where
  -- each number on it is in the set
  pub held : (k : ℕ) → Contains (members s) k → holds s k ≡ true
  -- each number of the set is on it
  pub all : (k : ℕ) → holds s k ≡ true → Contains (members s) k
  -- and of two places the later has the higher number
  pub rises : AllPairs (λ a b. a < b) (members s)

-- the set of no moves
abbrev pub nobody : MoveSet
nobody = record { word = 0 }
