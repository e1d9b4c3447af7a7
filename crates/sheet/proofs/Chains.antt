-- The test for chains is right: a round of it that finds no new start is the last, and each round before finds one more of the numbers below room.
use Rattle.std.proofs.Common.{◌≡◌, ℕ, zero, suc, ◌<◌, Bool, true, false, ◌&&◌, ◌||◌, eqb, ◌⊎◌, Decides, sym, refl, ap, ◌∙◌, subst, inl, inr, arith}
use mathlib.Core.Path.{fun_ext}
use Rattle.finite.proofs.Some.{any_some, any_from}
use Rattle.finite.proofs.Sums.{count_le, count_same_or_less}
use Rattle.finite.specs.Below.{any, count}
use Rattle.moves.specs.Room.{room}
use Rattle.sheet.specs.Chains.{Chain, link, more, leads_in, leads}
use Rattle.std.proofs.lemmas.Bool.Decides.{nat_tests}
use Rattle.std.proofs.lemmas.Bool.{and_from, and_parts, both_ways, or_cases, or_left, or_right}

-- both numbers of every tie are below room
abbrev pub Within : (ℕ → ℕ → Bool) → Type 0
Within tie = (i j : ℕ) → tie i j ≡ true → (i < room) × (j < room)

-- no chain has no ties
leads_in_zero : (tie : ℕ → ℕ → Bool) (i j : ℕ) → leads_in tie zero i j ≡ false
unfolding leads_in
leads_in_zero tie i j = refl

-- a test that is made only where another passes is the two together
both_from_elim : (b c : Bool) → elim b [ true ↦ c | false ↦ false ] ≡ (b && c)
both_from_elim b c = grind arith

-- a chain of at most n + 1 ties is a tie, or a tie and a chain of at most n
leads_in_suc : (tie : ℕ → ℕ → Bool) (n i j : ℕ) → leads_in tie (suc n) i j ≡ (tie i j || any room (λ k. tie i k && leads_in tie n k j))
unfolding leads_in
leads_in_suc tie n i j = ap (λ p. tie i j || any room p) (fun_ext (λ k. both_from_elim (tie i k) (leads_in tie n k j)))

-- what a round of the test finds
leads_in_cases : (tie : ℕ → ℕ → Bool) (n i j : ℕ) → leads_in tie (suc n) i j ≡ true → (tie i j ≡ true) ⊎ ((k : ℕ) × (k < room) × (tie i k ≡ true) × (leads_in tie n k j ≡ true))
leads_in_cases tie n i j e =
    elim (or_cases (tie i j) (any room (λ k. tie i k && leads_in tie n k j)) (sym (leads_in_suc tie n i j) ∙ e)) [
      | inl direct ↦ inl direct
      | inr longer ↦
          let t = any_some room (λ k. tie i k && leads_in tie n k j) longer in
          let parts = and_parts (tie i t.0) (leads_in tie n t.0 j) t.2 in
          inr (t.0, t.1, parts.0, parts.1)
    ]

-- a tie is found by every round
leads_in_link : (tie : ℕ → ℕ → Bool) (n i j : ℕ) → tie i j ≡ true → leads_in tie (suc n) i j ≡ true
leads_in_link tie n i j e = leads_in_suc tie n i j ∙ or_left (tie i j) _ e

-- a tie to what a round found is found by the next
leads_in_more : (tie : ℕ → ℕ → Bool) (n i k j : ℕ) → k < room → tie i k ≡ true → leads_in tie n k j ≡ true → leads_in tie (suc n) i j ≡ true
leads_in_more tie n i k j h e f =
    leads_in_suc tie n i j
    ∙ or_right (tie i j) (any room (λ m. tie i m && leads_in tie n m j)) (any_from room (λ m. tie i m && leads_in tie n m j) k h (and_from (tie i k) (leads_in tie n k j) e f))

-- what the test finds is a chain
leads_in_chain : (tie : ℕ → ℕ → Bool) (n i j : ℕ) → leads_in tie n i j ≡ true → Chain tie i j
leads_in_chain tie zero i j e = absurd (both_ways (leads_in tie zero i j) (leads_in_zero tie i j) e)
leads_in_chain tie (suc n) i j e =
    elim (leads_in_cases tie n i j e) [
      | inl direct ↦ link direct
      | inr t ↦ more t.2 (leads_in_chain tie n t.0 j t.3)
    ]

-- where ties lead from i to j by the test, there is a chain
pub leads_chain : (tie : ℕ → ℕ → Bool) (i j : ℕ) → leads tie i j ≡ true → Chain tie i j
unfolding leads
leads_chain tie i j e = leads_in_chain tie room i j e

-- a round finds again what was found before it
leads_in_again : (tie : ℕ → ℕ → Bool) (n i j : ℕ) → leads_in tie n i j ≡ true → leads_in tie (suc n) i j ≡ true
leads_in_again tie zero i j e = absurd (both_ways (leads_in tie zero i j) (leads_in_zero tie i j) e)
leads_in_again tie (suc n) i j e =
    elim (leads_in_cases tie n i j e) [
      | inl direct ↦ leads_in_link tie (suc n) i j direct
      | inr t ↦ leads_in_more tie (suc n) i t.0 j t.1 t.2 (leads_in_again tie n t.0 j t.3)
    ]

-- the round after n finds no new start
abbrev Last : (ℕ → ℕ → Bool) → ℕ → ℕ → Type 0
Last tie j n = (i : ℕ) → i < room → leads_in tie (suc n) i j ≡ true → leads_in tie n i j ≡ true

-- nor do the rounds after that one
last_stays : (tie : ℕ → ℕ → Bool) (j n : ℕ) → Last tie j n → Last tie j (suc n)
last_stays tie j n last i l e =
    elim (leads_in_cases tie (suc n) i j e) [
      | inl direct ↦ leads_in_link tie n i j direct
      | inr t ↦ leads_in_more tie n i t.0 j t.1 t.2 (last t.0 t.1 t.3)
    ]

-- how many starts are found after n rounds
abbrev found : (ℕ → ℕ → Bool) → ℕ → ℕ → ℕ
found tie j n = count room (λ i. leads_in tie n i j)

-- a round is the last, or finds more
last_or_found : (tie : ℕ → ℕ → Bool) (j n : ℕ) → Last tie j n ⊎ (found tie j n < found tie j (suc n))
last_or_found tie j n = count_same_or_less room (λ i. leads_in tie n i j) (λ i. leads_in tie (suc n) i j) (λ i _ e. leads_in_again tie n i j e)

-- the round after n is the last, or more than n starts are found then
last_or_many : (tie : ℕ → ℕ → Bool) (j n : ℕ) → Last tie j n ⊎ (n < found tie j (suc n))
last_or_many tie j zero = elim (last_or_found tie j zero) [ inl last ↦ inl last | inr grows ↦ inr (omega arith) ]
last_or_many tie j (suc n) =
    elim (last_or_many tie j n) [
      | inl last ↦ inl (last_stays tie j n last)
      | inr many ↦ elim (last_or_found tie j (suc n)) [ inl last ↦ inl last | inr grows ↦ inr (omega arith) ]
    ]

-- after as many rounds as there are numbers no start is new
last_room : (tie : ℕ → ℕ → Bool) (j : ℕ) → Last tie j room
last_room tie j =
    elim (last_or_many tie j room) [
      | inl last ↦ last
      | inr many ↦ absurd (omega (arith, count_le room (λ i. leads_in tie (suc room) i j)))
    ]

-- where there is a chain from i to j, ties lead from i to j by the test
pub chain_leads : (tie : ℕ → ℕ → Bool) (i j : ℕ) → Within tie → Chain tie i j → leads tie i j ≡ true
unfolding leads
chain_leads tie i j within (link e) = last_room tie j i (within i j e).0 (leads_in_link tie room i j e)
chain_leads tie i j within (more {k = k} e c) =
    last_room tie j i (within i k e).0 (leads_in_more tie room i k j (within i k e).1 e (chain_leads tie k j within c))

-- the test says whether there is a chain
pub decides : (tie : ℕ → ℕ → Bool) (i j : ℕ) → Within tie → Decides (leads tie i j) (Chain tie i j)
decides tie i j within = (leads_chain tie i j, chain_leads tie i j within)

-- a chain and one from its end make a chain
pub chain_trans : {tie : ℕ → ℕ → Bool} {i j k : ℕ} → Chain tie i j → Chain tie j k → Chain tie i k
chain_trans (link e) d = more e d
chain_trans (more e c) d = more e (chain_trans c d)

-- a chain begins with a tie
pub chain_start : {tie : ℕ → ℕ → Bool} {i j : ℕ} → Chain tie i j → (k : ℕ) × (tie i k ≡ true)
chain_start (link {j = j} e) = (j, e)
chain_start (more {k = k} e c) = (k, e)

-- a chain ends with a tie
pub chain_end : {tie : ℕ → ℕ → Bool} {i j : ℕ} → Chain tie i j → (k : ℕ) × (tie k j ≡ true)
chain_end (link {i = i} e) = (i, e)
chain_end (more e c) = chain_end c

-- with more ties a chain stays one
pub chain_mono : {t u : ℕ → ℕ → Bool} {i j : ℕ} → ((a b : ℕ) → t a b ≡ true → u a b ≡ true) → Chain t i j → Chain u i j
chain_mono h (link {i = i} {j = j} e) = link (h i j e)
chain_mono h (more {i = i} {k = k} e c) = more (h i k e) (chain_mono h c)

-- the ties with one from i to j added
abbrev pub added : (ℕ → ℕ → Bool) → ℕ → ℕ → ℕ → ℕ → Bool
added t i j a b = (eqb a i && eqb b j) || t a b

-- a and b are one, or a chain leads from a to b
abbrev pub Reaches : (ℕ → ℕ → Bool) → ℕ → ℕ → Type 0
Reaches t a b = (a ≡ b) ⊎ Chain t a b

-- a chain over the ties with one from i to j added is an old one, or old ones lead to i and on from j
abbrev pub Parted : (ℕ → ℕ → Bool) → ℕ → ℕ → ℕ → ℕ → Type 0
Parted t i j a b = Chain t a b ⊎ (Reaches t a i × Reaches t j b)

-- a tie, with one from i to j added, is the new one or an old one
added_cases : (t : ℕ → ℕ → Bool) (i j a b : ℕ) → added t i j a b ≡ true → ((a ≡ i) × (b ≡ j)) ⊎ (t a b ≡ true)
added_cases t i j a b e = grind (arith, nat_tests)

-- the parts of a chain of one tie
parted_link : (t : ℕ → ℕ → Bool) (i j a b : ℕ) → added t i j a b ≡ true → Parted t i j a b
parted_link t i j a b e =
    elim (added_cases t i j a b e) [
      | inl new ↦ inr (inl new.0, inl (sym new.1))
      | inr old ↦ inl (link old)
    ]

-- what reaches b from k, reaches it from a where a is tied to k
reaches_more : (t : ℕ → ℕ → Bool) (a k b : ℕ) → t a k ≡ true → Reaches t k b → Chain t a b
reaches_more t a k b e (inl same) = subst (λ x. Chain t a x) same (link e)
reaches_more t a k b e (inr c) = more e c

-- the parts of a longer chain
parted_more : (t : ℕ → ℕ → Bool) (i j a k b : ℕ) → added t i j a k ≡ true → Parted t i j k b → Parted t i j a b
parted_more t i j a k b e rest =
    elim (added_cases t i j a k e) [
      | inl new ↦ elim rest [
        | inl c ↦ inr (inl new.0, inr (subst (λ x. Chain t x b) new.1 c))
        | inr r ↦ inr (inl new.0, r.1)
      ]
      | inr old ↦ elim rest [
        | inl c ↦ inl (more old c)
        | inr r ↦ inr (inr (reaches_more t a k i old r.0), r.1)
      ]
    ]

-- every chain over the ties with one added has such parts
pub chain_added : (t : ℕ → ℕ → Bool) (i j : ℕ) {a b : ℕ} → Chain (added t i j) a b → Parted t i j a b
chain_added t i j (link {i = a} {j = b} e) = parted_link t i j a b e
chain_added t i j (more {i = a} {k = k} {j = b} e c) = parted_more t i j a k b e (chain_added t i j c)

-- where old chains lead to i and on from j, and their ends meet, j is i or an old chain leads from j to i
reaches_round : (t : ℕ → ℕ → Bool) (i j k : ℕ) → Reaches t k i → Reaches t j k → Reaches t j i
reaches_round t i j k (inl same) r = subst (Reaches t j) same r
reaches_round t i j k (inr c) (inl same) = inr (subst (λ x. Chain t x i) (sym same) c)
reaches_round t i j k (inr c) (inr d) = inr (chain_trans d c)

-- a tie from i to another number j, from which no chain leads to i, closes no chain
pub added_acyclic : (t : ℕ → ℕ → Bool) (i j : ℕ) → (i ≡ j → ⊥) → (Chain t j i → ⊥) → ((k : ℕ) → Chain t k k → ⊥) → (k : ℕ) → Chain (added t i j) k k → ⊥
added_acyclic t i j apart back acyclic k c =
    elim (chain_added t i j c) [
      | inl old ↦ acyclic k old
      | inr r ↦ elim (reaches_round t i j k r.0 r.1) [ inl same ↦ apart (sym same) | inr b ↦ back b ]
    ]
