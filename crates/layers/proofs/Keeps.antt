-- A layer over a curve that never falls never falls: it reads the curve in the same order of ticks and keeps the order of the costs.
use Rattle.std.proofs.Common.{◌≡◌, ℕ, ◌+◌, min, Bool, true, arith}
use Rattle.std.proofs.lemmas.Grind.{common_steps}
use Rattle.costs.specs.Order.{Total, Transitive, lesser}
use Rattle.costs.specs.Points.{points_not_above, Points}
use Rattle.curves.specs.Meaning.{NeverFalls}
use Rattle.time.specs.Ticks.{last_tick}
use Rattle.layers.specs.Layers.{delayed, under_ceiling, weighted}

pub delayed_rises : {C : Type 0} (le : C → C → Bool) (d : ℕ) (f : ℕ → C) → NeverFalls le f → NeverFalls le (delayed d f)
delayed_rises le d f rises s t h l = rises (min last_tick (s + d)) (min last_tick (t + d)) (omega arith) (omega arith)

pub weighted_rises : (w : ℕ) (f : ℕ → Points) → NeverFalls points_not_above f → NeverFalls points_not_above (weighted w f)
weighted_rises w f rises s t h l = let up = rises s t h l in grind (arith, common_steps, up)

-- of two costs, one of which is not above the other, the lesser with a third is not above the lesser of the other with it
lesser_rises : {C : Type 0} (le : C → C → Bool) → Total le → Transitive le → (a b most : C) → le a b ≡ true → le (lesser le a most) (lesser le b most) ≡ true
lesser_rises le total chain a b most h = let self = total most most in grind (arith, common_steps, self, chain a b most h)

pub under_ceiling_rises : {C : Type 0} (le : C → C → Bool) → Total le → Transitive le → (most : C) (f : ℕ → C) → NeverFalls le f → NeverFalls le (under_ceiling le most f)
under_ceiling_rises le total chain most f rises s t h l = lesser_rises le total chain (f s) (f t) most (rises s t h l)
