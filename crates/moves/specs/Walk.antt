-- What it means to take the moves of a set one by one, from the lowest number to the highest.
use Rattle.std.specs.Prelude.{◌≡◌, ℕ, ◌<◌, true, false, not, ◌&&◌, [], ◌∷◌, Option, MatchOption, ◌==◌}
use Rattle.moves.specs.Members.{holds, members}
use Rattle.moves.specs.Number.{number}
use Rattle.moves.specs.declared.number.MoveNumber.{MoveNumber}
use Rattle.moves.specs.declared.set.MoveSet.{MoveSet}
use Rattle.moves.specs.declared.walk.Members.{Members}

-- n is the lowest number that s holds, and t is the rest of s
pub record Taken (s : MoveSet) (n : ℕ) (t : MoveSet) : Type 0 where
  pub listed : members s ≡ n ∷ members t
  pub held : holds s n ≡ true
  pub lowest : (k : ℕ) → k < n → holds s k ≡ false
  pub rest : (k : ℕ) → holds t k ≡ (not (k == n) && holds s k)

-- s holds nothing, and t is s
pub record Done (s t : MoveSet) : Type 0 where
  pub listed : members s ≡ []
  pub held : (k : ℕ) → holds s k ≡ false
  pub same : t ≡ s

-- one step from s to t: the lowest move is taken where there is one
abbrev pub Step : MoveSet → Option MoveNumber → MoveSet → Type 0
Step s r t = MatchOption r (Done s t) (λ m. Taken s (number m) t)

-- the moves that are still to come
abbrev pub left_of : Members → MoveSet
left_of i = i.rest
