-- One move more makes the span the greater of the releases and one length more.
use Rattle.std.proofs.Common.{◌≡◌, ℕ, ◌<◌, false, cond, is_some, Some, Option, unwrap_or, refl, ap, arith}
use Rattle.std.proofs.lemmas.Bool.{eq-eqb, ne_eqb}
use Rattle.finite.proofs.Greatest.{greatest_put}
use Rattle.finite.proofs.Sums.{sum_raised}
use Rattle.moves.specs.Room.{room}
use Rattle.sheet.specs.declared.figures.Move.{Move}
use Rattle.sheet.specs.Ledger.{Ledger, on, nothing, figures, release_of, length_of, span, span_with, entered}

-- a move that is absent has no figures
pub absent : (o : Option Move) → is_some o ≡ false → unwrap_or o nothing ≡ nothing
absent o h = grind arith

module _ (n : ℕ) (m : Move) (L : Ledger) where
  -- the figures of the new move
  here : figures (entered n m L) n ≡ m
  here = ap (λ b. unwrap_or (cond b (Some m) (L.move n)) nothing) (eq-eqb n n refl)

  -- and of the others
  elsewhere : (k : ℕ) → (k ≡ n → ⊥) → figures (entered n m L) k ≡ figures L k
  elsewhere k ne = ap (λ b. unwrap_or (cond b (Some m) (L.move k)) nothing) (ne_eqb k n ne)

  pub span_entered : n < room → on L n ≡ false → span (entered n m L) ≡ span_with L m
  span_entered low free =
      let none : figures L n ≡ nothing = absent (L.move n) free in
      omega (
        arith,
        greatest_put room (release_of L) (release_of (entered n m L)) n m.release low
            (ap (λ (f : Move). f.release) none) (ap (λ (f : Move). f.release) here) (λ k ne. ap (λ (f : Move). f.release) (elsewhere k ne)),
        sum_raised room (length_of L) (length_of (entered n m L)) n m.length low
            (omega (arith, ap (λ (f : Move). f.length) here, ap (λ (f : Move). f.length) none)) (λ k ne. ap (λ (f : Move). f.length) (elsewhere k ne)),
      )

-- three figures are those of a move
pub same_figures : (m : Move) (r l c : ℕ) → m.release ≡ r → m.length ≡ l → m.curve ≡ c → m ≡ record { release = r; length = l; curve = c }
same_figures m r l c p q s = λ i. record { release = p i; length = q i; curve = s i }

-- a move that is not on the sheet adds nothing to the span
pub release_off : (L : Ledger) (k : ℕ) → on L k ≡ false → release_of L k ≡ 0
release_off L k off = ap (λ (f : Move). f.release) (absent (L.move k) off)

pub length_off : (L : Ledger) (k : ℕ) → on L k ≡ false → length_of L k ≡ 0
length_off L k off = ap (λ (f : Move). f.length) (absent (L.move k) off)
