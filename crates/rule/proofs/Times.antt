-- Ready times exist, are unique and leave each move time to run: along the ties every move waits only for moves of lower rank, so each fact is an induction.
use Rattle.std.proofs.Common.{◌≡◌, ℕ, zero, suc, ◌+◌, ◌<◌, ◌≤◌, max, Bool, true, false, cond, ◌⊎◌, sym, refl, ap, ◌∙◌, inl, inr, le_antisymm, arith}
use mathlib.Core.Path.{fun_ext}
use Rattle.finite.proofs.Greatest.{greatest_above, greatest_least, greatest_ext, greatest_is}
use Rattle.finite.proofs.Sums.{sum_without}
use Rattle.finite.specs.Below.{greatest, sum}
use Rattle.moves.specs.Room.{room}
use Rattle.rule.proofs.Rank.{rank, rank_rises, rank_small, leads_tie, leads_on, leads_self, along_ties}
use Rattle.rule.specs.Ready.{ReadyTimes, ready_in, ready}
use Rattle.sheet.proofs.Keeps.{tie_on, tie_within}
use Rattle.sheet.specs.Chains.{leads}
use Rattle.sheet.specs.Facts.{Sound}
use Rattle.sheet.specs.Ledger.{Ledger, on, release_of, length_of}
use Rattle.time.specs.Ticks.{last_tick}
use Rattle.std.proofs.lemmas.Bool.{cases_Bool, cases_lt, cond-true, cond-false}

-- when a move i that is tied to j could be finished, where f has the ready times; 0 of a move that is not
abbrev finish : Ledger → (ℕ → ℕ) → ℕ → ℕ → ℕ
finish L f j i = cond (L.tie i j) (f i + length_of L i) 0

-- the ready time of j, where f has those of the moves that are tied to it
abbrev pub next : Ledger → (ℕ → ℕ) → ℕ → ℕ
next L f j = max (release_of L j) (greatest room (finish L f j))

-- the finish of a tied move
finish_tied : (L : Ledger) (f : ℕ → ℕ) (j i : ℕ) → L.tie i j ≡ true → finish L f j i ≡ f i + length_of L i
finish_tied L f j i tied = cond-true (L.tie i j) (f i + length_of L i) 0 tied

-- the finish of any other
finish_free : (L : Ledger) (f : ℕ → ℕ) (j i : ℕ) → L.tie i j ≡ false → finish L f j i ≡ 0
finish_free L f j i free = cond-false (L.tie i j) (f i + length_of L i) 0 free

-- where no move is tied to j, it is ready at its release
pub next_free : (L : Ledger) (f : ℕ → ℕ) (j : ℕ) → ((i : ℕ) → L.tie i j ≡ true → ⊥) → next L f j ≡ release_of L j
next_free L f j none =
    omega (
      arith,
      greatest_least room (finish L f j) 0 (λ i _. elim (cases_Bool (L.tie i j)) [
        | inl tied ↦ absurd (none i tied)
        | inr free ↦ omega (arith, finish_free L f j i free)
      ]),
    )

-- where f and g agree on the moves that are tied to j, they give it the same ready time
next_same : (L : Ledger) (f g : ℕ → ℕ) (j : ℕ) → ((i : ℕ) → L.tie i j ≡ true → f i ≡ g i) → next L f j ≡ next L g j
next_same L f g j h =
    ap (max (release_of L j)) (greatest_ext room (finish L f j) (finish L g j) (λ i _. elim (cases_Bool (L.tie i j)) [
      | inl tied ↦ omega (arith, h i tied, finish_tied L f j i tied, finish_tied L g j i tied)
      | inr free ↦ omega (arith, finish_free L f j i free, finish_free L g j i free)
    ]))

-- j is not ready before a move that is tied to it could be finished
next_waits : (L : Ledger) (f : ℕ → ℕ) (i j : ℕ) → i < room → L.tie i j ≡ true → f i + length_of L i ≤ next L f j
next_waits L f i j l tied = omega (arith, greatest_above room (finish L f j) i l, finish_tied L f j i tied)

-- j is ready at its release, or when some move that is tied to it could be finished
next_earliest : (L : Ledger) (f : ℕ → ℕ) (j : ℕ) → (next L f j ≡ release_of L j) ⊎ ((i : ℕ) × (L.tie i j ≡ true) × (next L f j ≡ f i + length_of L i))
next_earliest L f j =
    elim (cases_lt (release_of L j) (greatest room (finish L f j))) [
      | inl later ↦ elim (greatest_is room (finish L f j)) [
        | inl none ↦ inl (omega arith)
        | inr t ↦ elim (cases_Bool (L.tie t.0 j)) [
          | inl tied ↦ inr (t.0, tied, omega (arith, finish_tied L f j t.0 tied))
          | inr free ↦ inl (omega (arith, finish_free L f j t.0 free))
        ]
      ]
      | inr released ↦ inl (omega arith)
    ]

-- a number that is made only where a test passes
cond_from_elim : (b : Bool) (x : ℕ) → elim b [ true ↦ x | false ↦ 0 ] ≡ cond b x 0
cond_from_elim b x = grind arith

-- with one more tie looked at, a ready time comes from those before
ready_in_suc : (L : Ledger) (n j : ℕ) → ready_in L (suc n) j ≡ next L (ready_in L n) j
unfolding ready_in
ready_in_suc L n j = ap (λ g. max (release_of L j) (greatest room g)) (fun_ext (λ i. cond_from_elim (L.tie i j) (ready_in L n i + length_of L i)))

-- the lengths of all moves that j has to wait for in the end
abbrev pub ahead : Ledger → ℕ → ℕ
ahead L j = sum room (λ k. cond (leads L.tie k j) (length_of L k) 0)

module _ (L : Ledger) (s : Sound L) where
  -- from the rank of j on, to look at more ties does not change the ready time of j
  ready_in_stays : (n j : ℕ) → rank L j ≤ n → ready_in L (suc n) j ≡ ready_in L n j
  unfolding ready_in
  ready_in_stays zero j h = ready_in_suc L zero j ∙ next_free L (ready_in L zero) j (λ i tied. omega (arith, rank_rises L s i j tied))
  ready_in_stays (suc n) j h =
      ready_in_suc L (suc n) j
      ∙ next_same L (ready_in L (suc n)) (ready_in L n) j (λ i tied. ready_in_stays n i (omega (arith, rank_rises L s i j tied)))
      ∙ sym (ready_in_suc L n j)

  -- the ready time of a move is the greatest of its release and of when the moves that are tied to it could be finished
  pub ready_equation : (j : ℕ) → ready L j ≡ max (release_of L j) (greatest room (λ i. cond (L.tie i j) (ready L i + length_of L i) 0))
  unfolding ready
  ready_equation j = sym (ready_in_stays room j (rank_small L j)) ∙ ready_in_suc L room j

  -- whatever keeps that equation has the ready times
  pub times_from_equation : (f : ℕ → ℕ) → ((j : ℕ) → f j ≡ next L f j) → ReadyTimes L f
  times_from_equation f h =
      record {
        released = λ j _. omega (arith, h j);
        waits = λ i j tied. omega (arith, h j, next_waits L f i j (tie_within L s i j tied).0 tied);
        earliest = λ j _. elim (next_earliest L f j) [
          | inl released ↦ inl (h j ∙ released)
          | inr t ↦ inr (t.0, t.1, h j ∙ t.2)
        ];
      }

  -- every sound ledger has ready times
  pub ready_times_lem : ReadyTimes L (ready L)
  ready_times_lem = times_from_equation (ready L) ready_equation

  -- of two functions that have ready times neither is later
  ready_least : (f g : ℕ → ℕ) → ReadyTimes L f → ReadyTimes L g → (j : ℕ) → on L j ≡ true → f j ≤ g j
  ready_least f g F G =
      along_ties L s (λ j. on L j ≡ true → f j ≤ g j) λ j ih here. elim (F.earliest j here) [
        | inl released ↦ omega (arith, G.released j here)
        | inr t ↦ omega (arith, t.2, ih t.0 t.1 (tie_on L s t.0 j t.1).0, G.waits t.0 j t.1)
      ]

  -- ready times are unique
  pub ready_unique : (f g : ℕ → ℕ) → ReadyTimes L f → ReadyTimes L g → (j : ℕ) → on L j ≡ true → f j ≡ g j
  ready_unique f g F G j here = le_antisymm (ready_least f g F G j here) (ready_least g f G F j here)

  -- the second move of a tie has to wait for the first and for what that waits for
  ahead_rises : (i j : ℕ) → L.tie i j ≡ true → ahead L i + length_of L i ≤ ahead L j
  ahead_rises i j tied =
      sum_without room (length_of L) (λ k. leads L.tie k i) (λ k. leads L.tie k j) i (λ k _ h. leads_on L s k i j tied h) (tie_within L s i j tied).0
      (leads_self L s i) (leads_tie L s i j tied)

  -- a move is ready by the greatest release and the lengths of what it waits for
  pub ready_ahead : (f : ℕ → ℕ) → ReadyTimes L f → (j : ℕ) → on L j ≡ true → f j ≤ greatest room (release_of L) + ahead L j
  ready_ahead f F =
      along_ties L s (λ j. on L j ≡ true → f j ≤ greatest room (release_of L) + ahead L j) λ j ih here. elim (F.earliest j here) [
        | inl released ↦ omega (arith, greatest_above room (release_of L) j (s.numbered j here))
        | inr t ↦ omega (arith, t.2, ih t.0 t.1 (tie_on L s t.0 j t.1).0, ahead_rises t.0 j t.1)
      ]

  -- a move that runs on from its ready time is finished by the last tick, since it does not wait for itself
  pub ready_within : (f : ℕ → ℕ) → ReadyTimes L f → (j : ℕ) → on L j ≡ true → f j + length_of L j ≤ last_tick
  ready_within f F j here =
      omega (
        arith,
        ready_ahead f F j here,
        s.short,
        sum_without room (length_of L) (λ k. leads L.tie k j) (λ _. true) j (λ _ _ _. refl) (s.numbered j here) (leads_self L s j) refl,
      )
