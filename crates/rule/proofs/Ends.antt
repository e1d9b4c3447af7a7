-- One drive is through by the last tick: what a move waits for was ready earlier, so it is no part of the work that cannot begin before the move is ready.
use Rattle.std.proofs.Common.{◌≡◌, ℕ, ◌+◌, ◌<◌, ◌≤◌, Bool, true, false, cond, leb, ◌⊎◌, ap, ◌∙◌, inl, inr, arith}
use Rattle.finite.specs.Below.{greatest}
use Rattle.finite.proofs.Greatest.{greatest_above, greatest_least, greatest_is}
use Rattle.finite.proofs.Sums.{sum_both, sum_mono}
use Rattle.finite.proofs.Walks.{sum_passed}
use Rattle.moves.specs.Room.{room}
use Rattle.sheet.specs.Chains.{Chain, leads, link, more}
use Rattle.sheet.specs.Facts.{Sound}
use Rattle.sheet.specs.Ledger.{Ledger, on, length_of}
use Rattle.time.specs.Ticks.{last_tick}
use Rattle.sheet.proofs.Chains.{leads_chain}
use Rattle.sheet.proofs.Keeps.{tie_on}
use Rattle.sheet.proofs.Spans.{absent}
use Rattle.sheet.specs.declared.figures.Move.{Move}
use Rattle.rule.specs.Over.{through_from, over, OverLaw}
use Rattle.rule.specs.Ready.{ready}
use Rattle.rule.proofs.Steps.{ready_absent}
use Rattle.rule.proofs.Times.{ready_times_lem, ready_ahead}
use Rattle.std.proofs.lemmas.Bool.{cases_Bool, cond-true, cond-false, lt-leb}
use Rattle.std.proofs.lemmas.Bool.Decides.{nat_tests}

-- the tick that a number counts with: that of its move, and 0 where there is none
abbrev pub through_at : Ledger → ℕ → ℕ
through_at L j = cond (on L j) (through_from L j) 0

-- what each move adds to the work from a tick on
abbrev pub adds : Ledger → ℕ → ℕ → ℕ
adds L t k = cond (leb t (ready L k)) (length_of L k) 0

module _ (L : Ledger) (s : Sound L) where
  -- a move of the sheet runs for a tick at least
  pub length_pos : (j : ℕ) → on L j ≡ true → 1 ≤ length_of L j
  length_pos j here = let h = s.ranges j here in grind (arith, nat_tests)

  -- only moves of the sheet count in the work from a tick on
  pub work_off : (t k : ℕ) → on L k ≡ false → adds L t k ≡ 0
  work_off t k off = let e : length_of L k ≡ 0 = ap (λ (f : Move). f.length) (absent (L.move k) off) in rw e (grind (arith, nat_tests))

  -- the work that was added up so far is within the span
  pub work_short : (t : ℕ) (rest : ℕ → Bool) → sum_passed room rest (adds L t) ≤ last_tick
  unfolding sum_passed
  work_short t rest = omega (arith, s.short, sum_mono room (λ k. cond (rest k) 0 (adds L t k)) (length_of L) (λ k _. grind (arith, nat_tests)))

  -- what a move waits for is ready before it
  chain_earlier : {i j : ℕ} → Chain L.tie i j → ready L i < ready L j
  chain_earlier (link {i = i} {j = j} t) = omega (arith, (ready_times_lem L s).waits i j t, length_pos i (tie_on L s i j t).0)
  chain_earlier (more {i = i} {k = k} t c) = omega (arith, chain_earlier c, (ready_times_lem L s).waits i k t)

  -- so it is not counted in the work that cannot begin before
  apart : (j k : ℕ) → cond (leads L.tie k j) (length_of L k) 0 + adds L (ready L j) k ≤ length_of L k
  apart j k =
      elim (cases_Bool (leads L.tie k j)) [
        | inl ahead ↦ omega (
          arith,
          cond-true (leads L.tie k j) (length_of L k) 0 ahead,
          cond-false (leb (ready L j) (ready L k)) (length_of L k) 0 (lt-leb (ready L j) (ready L k) (chain_earlier (leads_chain L.tie k j ahead))),
        )
        | inr free ↦ let h : adds L (ready L j) k ≤ length_of L k = grind (arith, nat_tests) in
            omega (arith, cond-false (leads L.tie k j) (length_of L k) 0 free)
      ]

  -- the drive is through by the last tick, from any ready time on
  pub through_in_time : (j : ℕ) → through_from L j ≤ last_tick
  through_in_time j =
      let both = sum_both room (λ k. cond (leads L.tie k j) (length_of L k) 0) (adds L (ready L j)) (length_of L) (λ k _. apart j k) in
      elim (cases_Bool (on L j)) [
        | inl here ↦ omega (arith, s.short, ready_ahead L s (ready L) (ready_times_lem L s) j here, both)
        | inr off ↦ omega (arith, s.short, ready_absent L s j off, both)
      ]

  pub over_law : OverLaw L
  unfolding over
  over_law = record {
    enough = λ j here. omega (arith, greatest_above room (through_at L) j (s.numbered j here), cond-true (on L j) (through_from L j) 0 here);
    tight = elim (greatest_is room (through_at L)) [ inl none ↦ inl none | inr w ↦ at w.0 w.2 (cases_Bool (on L w.0)) ];
    in_time = greatest_least room (through_at L) last_tick (λ j _. let h = through_in_time j in grind (arith, nat_tests));
  }
    where
      at : (j : ℕ) → greatest room (through_at L) ≡ through_at L j → (on L j ≡ true) ⊎ (on L j ≡ false) → (greatest room (through_at L) ≡ 0) ⊎ ((i : ℕ) × (on L i ≡ true) × (greatest room (through_at L) ≡ through_from L i))
      at j e (inl here) = inr (j, here, e ∙ cond-true (on L j) (through_from L j) 0 here)
      at j e (inr off) = inl (e ∙ cond-false (on L j) (through_from L j) 0 off)
