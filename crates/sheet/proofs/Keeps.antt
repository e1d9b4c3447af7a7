-- What every sheet keeps is kept by each accepted call, since a call touches one move or one tie and the rest reads as before.
use Rattle.std.proofs.Common.{◌≡◌, ℕ, ◌<◌, ◌≤◌, Bool, true, false, cond, not, ◌&&◌, ◌||◌, eqb, ltb, leb, List, [], ◌∷◌, is_some, Some, None, Option, unwrap_or, refl, inl, inr, arith}
use Rattle.std.proofs.lemmas.Bool.{cases_eq, ne_eqb, false≢true, and_parts, and_from, or_cases, or_parts, eqb-true, eqb-false, not-false, ltb-false, leb-false, both_ways}
use Rattle.finite.specs.Below.{sum, greatest}
use Rattle.finite.proofs.Greatest.{greatest_least, greatest_above}
use Rattle.finite.proofs.Sums.{sum_mono}
use Rattle.moves.specs.Room.{room}
use Rattle.sheet.specs.declared.call.Call.{Call}
use Rattle.sheet.specs.declared.call.Call.TheVariants.{Enter, Tie, Cut, Strike, Plan, Floor, Check}
use Rattle.sheet.specs.declared.figures.Move.{Move}
use Rattle.time.specs.Ticks.{last_tick}
use Rattle.sheet.specs.Ledger.{Ledger, blank, on, nothing, release_of, length_of, span, entered, tied, untied, struck}
use Rattle.sheet.specs.Facts.{Sound, InSpan, ranged, in_range}
use Rattle.sheet.specs.Refusals.{refusal, changed, feed}
use Rattle.sheet.specs.Runs.{fed}
use Rattle.sheet.specs.Chains.{Chain, leads, closes}
use Rattle.sheet.proofs.Chains.{Within, chain_leads, chain_mono, chain_start, added_acyclic}

-- a ledger with no move keeps everything
pub blank_sound : Sound blank
unfolding sum greatest
blank_sound = record {
  numbered = λ n h. absurd (false≢true h);
  ranges = λ n h. absurd (false≢true h);
  ends = λ i j h. absurd (false≢true h);
  acyclic = λ i h. absurd (false≢true (chain_start h).1);
  short = omega arith;
}

-- both moves of a tie are on the sheet
pub tie_on : (L : Ledger) → Sound L → (i j : ℕ) → L.tie i j ≡ true → (on L i ≡ true) × (on L j ≡ true)
tie_on L s i j e = and_parts (on L i) (on L j) (s.ends i j e)

-- and their numbers are below the room
pub tie_within : (L : Ledger) → Sound L → Within L.tie
tie_within L s i j e = let both = tie_on L s i j e in (s.numbered i both.0, s.numbered j both.1)

-- a new move with figures in their ranges, within the span
pub entered_sound : (n : ℕ) (m : Move) (L : Ledger) → Sound L → n < room → ranged m ≡ true → InSpan (entered n m L) → Sound (entered n m L)
entered_sound n m L s low good short = record {
  numbered = λ k h. elim (cases_eq k n) [ inl e ↦ omega arith | inr ne ↦ s.numbered k (rw (ne_eqb k n ne) at h) ];
  ranges = λ k h. ranges (eqb k n) (L.move k) (s.ranges k) h;
  ends = λ i j h. let p = and_parts (on L i) (on L j) (s.ends i j h) in and_from _ _ (still (eqb i n) (L.move i) p.0) (still (eqb j n) (L.move j) p.1);
  acyclic = s.acyclic;
  short = short;
}
  where
    still : (b : Bool) (o : Option Move) → is_some o ≡ true → is_some (cond b (Some m) o) ≡ true
    still b o h = grind arith

    ranges : (b : Bool) (o : Option Move) → (is_some o ≡ true → ranged (unwrap_or o nothing) ≡ true) → is_some (cond b (Some m) o) ≡ true → ranged (unwrap_or (cond b (Some m) o) nothing) ≡ true
    ranges b o g h = grind (arith, good)

-- a tie between two moves of the sheet that closes no chain
pub tied_sound : (i j : ℕ) (L : Ledger) → Sound L → on L i ≡ true → on L j ≡ true → (i ≡ j → ⊥) → (Chain L.tie j i → ⊥) → Sound (tied i j L)
tied_sound i j L s oi oj apart back = record {
  numbered = s.numbered;
  ranges = s.ranges;
  ends = λ a b h. elim (or_cases (eqb a i && eqb b j) (L.tie a b) h) [
    | inl e ↦ let p = and_parts (eqb a i) (eqb b j) e in and_from (on L a) (on L b) (rw (eqb-true a i p.0) oi) (rw (eqb-true b j p.1) oj)
    | inr t ↦ s.ends a b t
  ];
  acyclic = added_acyclic L.tie i j apart back s.acyclic;
  short = s.short;
}

-- the same by the test: it passes where the tie closes no chain
pub open_sound : (i j : ℕ) (L : Ledger) → Sound L → on L i ≡ true → on L j ≡ true → closes L.tie i j ≡ false → Sound (tied i j L)
open_sound i j L s oi oj open' =
    let neither = or_parts (eqb i j) (leads L.tie j i) open' in
    tied_sound i j L s oi oj (eqb-false i j neither.0) (λ t. both_ways (leads L.tie j i) neither.1 (chain_leads L.tie j i (tie_within L s) t))

-- a tie less
pub untied_sound : (i j : ℕ) (L : Ledger) → Sound L → Sound (untied i j L)
untied_sound i j L s = record {
  numbered = s.numbered;
  ranges = s.ranges;
  ends = λ a b h. s.ends a b (and_parts _ _ h).1;
  acyclic = λ k h. s.acyclic k (chain_mono (λ a b t. (and_parts (not (eqb a i && eqb b j)) (L.tie a b) t).1) h);
  short = s.short;
}

-- a move less, with every tie at it
pub struck_sound : (n : ℕ) (L : Ledger) → Sound L → Sound (struck n L)
struck_sound n L s = record {
  numbered = λ k h. s.numbered k (was (eqb k n) (L.move k) h);
  ranges = λ k. ranges (eqb k n) (L.move k) (s.ranges k);
  ends = λ a b h.
      let p = and_parts (not (eqb a n || eqb b n)) (L.tie a b) h in let q = and_parts (on L a) (on L b) (s.ends a b p.1) in
      and_from _ _ (still (eqb a n) (eqb b n) (L.move a) p.0 q.0) (still' (eqb a n) (eqb b n) (L.move b) p.0 q.1);
  acyclic = λ k h. s.acyclic k (chain_mono (λ a b t. (and_parts (not (eqb a n || eqb b n)) (L.tie a b) t).1) h);
  short = omega (arith, s.short, sum_mono room (length_of (struck n L)) (length_of L) (λ k _. shorter (eqb k n) (L.move k)), greatest_least room (release_of (struck n L)) (greatest room (release_of L)) (λ k h. omega (arith, greatest_above room (release_of L) k h, earlier (eqb k n) (L.move k))));
}
  where
    was : (b : Bool) (o : Option Move) → is_some (cond b None o) ≡ true → is_some o ≡ true
    was b o h = grind arith

    still : (b c : Bool) (o : Option Move) → not (b || c) ≡ true → is_some o ≡ true → is_some (cond b None o) ≡ true
    still b c o e h = grind arith

    still' : (c b : Bool) (o : Option Move) → not (c || b) ≡ true → is_some o ≡ true → is_some (cond b None o) ≡ true
    still' c b o e h = grind arith

    ranges : (b : Bool) (o : Option Move) → (is_some o ≡ true → ranged (unwrap_or o nothing) ≡ true) → is_some (cond b None o) ≡ true → ranged (unwrap_or (cond b None o) nothing) ≡ true
    ranges b o g h = grind arith

    shorter : (b : Bool) (o : Option Move) → (unwrap_or (cond b None o) nothing).length ≤ (unwrap_or o nothing).length
    shorter b o = grind arith

    earlier : (b : Bool) (o : Option Move) → (unwrap_or (cond b None o) nothing).release ≤ (unwrap_or o nothing).release
    earlier b o = grind arith

-- where no refusal of a list of tests is given, the first test failed and none of the later ones gives one
pub passes : (test : Bool) (n : ℕ) (later : Option ℕ) → cond test (Some n) later ≡ None → (test ≡ false) × (later ≡ None)
passes true n later h = let z : ◌≡◌ {A = ℕ} 0 1 = cc in absurd (omega arith)
passes false n later h = (refl, h)

-- what a call that nothing refuses makes of a ledger
pub changed_sound : (c : Call) (L : Ledger) → Sound L → refusal c L ≡ None → Sound (changed c L)
changed_sound (Enter n r l c) L s h =
    let low = passes (leb room n) _ _ h in let free = passes (on L n) _ _ low.1 in let good = passes (not (in_range r l c)) _ _ free.1 in let short = passes (ltb last_tick (span (changed (Enter n r l c) L))) _ _ good.1 in
    entered_sound n (record { release = r; length = l; curve = c }) L s (leb-false room n low.0) (not-false (in_range r l c) good.0) (ltb-false last_tick (span (changed (Enter n r l c) L)) short.0)
changed_sound (Tie i j) L s h =
    let low = passes (leb room i || leb room j) _ _ h in let here = passes (not (on L i) || not (on L j)) _ _ low.1 in let open' = passes (closes L.tie i j) _ _ here.1 in
    let both = or_parts (not (on L i)) (not (on L j)) here.0 in
    open_sound i j L s (not-false _ both.0) (not-false _ both.1) open'.0
changed_sound (Cut i j) L s h = untied_sound i j L s
changed_sound (Strike n) L s h = struck_sound n L s
changed_sound Plan L s h = s
changed_sound Floor L s h = s
changed_sound Check L s h = s

-- what a call makes of a ledger, refused or not
pub feed_sound : (c : Call) (L : Ledger) → Sound L → Sound (feed c L)
feed_sound c L s = by (refusal c L) refl
  where
    by : (o : Option ℕ) → refusal c L ≡ o → Sound (elim o [ Some _ ↦ L | None ↦ changed c L ])
    by (Some e) h = s
    by None h = changed_sound c L s h

-- what a list of calls makes of a ledger
pub fed_sound : (cs : List Call) (L : Ledger) → Sound L → Sound (fed cs L)
unfolding fed
fed_sound [] L s = s
fed_sound (c ∷ cs) L s = fed_sound cs (feed c L) (feed_sound c L s)
