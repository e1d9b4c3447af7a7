-- The rank of a move is how many moves it has to wait for in the end. It rises along every tie, since what a move waits for its followers wait for too.
use Rattle.std.proofs.Common.{◌≡◌, ℕ, zero, suc, ◌<◌, ◌≤◌, Bool, true, false, inl, inr, arith}
use Rattle.finite.proofs.Greatest.{least_at}
use Rattle.finite.proofs.Sums.{count_le, count_less}
use Rattle.finite.specs.Below.{count}
use Rattle.moves.specs.Room.{room}
use Rattle.sheet.proofs.Chains.{leads_chain, chain_leads, chain_trans}
use Rattle.sheet.proofs.Keeps.{tie_within}
use Rattle.sheet.specs.Chains.{link, leads}
use Rattle.sheet.specs.Facts.{Sound}
use Rattle.sheet.specs.Ledger.{Ledger}
use Rattle.std.proofs.lemmas.Bool.{cases_Bool}

-- from how many moves ties lead to j
unfoldable pub rank : Ledger → ℕ → ℕ
rank L j = count room (λ i. leads L.tie i j)

-- no rank is above room
pub rank_small : (L : Ledger) (j : ℕ) → rank L j ≤ room
unfolding rank
rank_small L j = count_le room (λ i. leads L.tie i j)

module _ (L : Ledger) (s : Sound L) where
  -- a tie leads from its first move to its second
  pub leads_tie : (i j : ℕ) → L.tie i j ≡ true → leads L.tie i j ≡ true
  leads_tie i j e = chain_leads L.tie i j (tie_within L s) (link e)

  -- what leads to the first move of a tie leads to the second
  pub leads_on : (k i j : ℕ) → L.tie i j ≡ true → leads L.tie k i ≡ true → leads L.tie k j ≡ true
  leads_on k i j e h = chain_leads L.tie k j (tie_within L s) (chain_trans (leads_chain L.tie k i h) (link e))

  -- no ties lead from a move to itself
  pub leads_self : (i : ℕ) → leads L.tie i i ≡ false
  leads_self i = elim (cases_Bool (leads L.tie i i)) [ inl h ↦ absurd (s.acyclic i (leads_chain L.tie i i h)) | inr h ↦ h ]

  -- rank rises along each tie
  pub rank_rises : (i j : ℕ) → L.tie i j ≡ true → rank L i < rank L j
  unfolding rank
  rank_rises i j e =
      count_less room (λ k. leads L.tie k i) (λ k. leads L.tie k j) i (λ k _ h. leads_on k i j e h) (tie_within L s i j e).0 (leads_self i) (leads_tie i j e)

  -- where some moves pass, one of them is tied from none of them: one of the least rank
  pub source : (p : ℕ → Bool) (k : ℕ) → k < room → p k ≡ true → (m : ℕ) × (m < room) × (p m ≡ true) × ((i : ℕ) → i < room → p i ≡ true → L.tie i m ≡ false)
  source p k l e =
      let t = least_at room p (rank L) k l e in (
        t.0,
        t.1,
        t.2,
        λ i below passes. elim (cases_Bool (L.tie i t.0)) [
          | inl tied ↦ absurd (omega (arith, rank_rises i t.0 tied, t.3 i below passes))
          | inr free ↦ free
        ],
      )

  -- the induction along ties, for moves below a rank
  along_below : (P : ℕ → Type 0) → ((j : ℕ) → ((i : ℕ) → L.tie i j ≡ true → P i) → P j) → (n j : ℕ) → rank L j < n → P j
  along_below P step zero j h = absurd (omega arith)
  along_below P step (suc n) j h = step j (λ i e. along_below P step n i (omega (arith, rank_rises i j e)))

  -- what holds of a move whenever it holds of those that are tied to it holds of every move
  pub along_ties : (P : ℕ → Type 0) → ((j : ℕ) → ((i : ℕ) → L.tie i j ≡ true → P i) → P j) → (j : ℕ) → P j
  along_ties P step j = along_below P step (suc (rank L j)) j (omega arith)
