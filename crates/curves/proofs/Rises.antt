-- Curves never fall: an end that is later is late by at least as much.
use Rattle.std.proofs.Common.{◌≡◌, ℕ, ◌*◌, ◌≤◌, mul-le-mul, arith}
use native.Mathlib.Nat.{min-eq_left}
use Rattle.std.proofs.lemmas.Bool.Decides.{nat_tests}
use Rattle.std.proofs.lemmas.Grind.{common_steps}
use Rattle.costs.specs.Limits.{highest, greatest_factor}
use Rattle.costs.specs.Points.{amount, points_of, points_not_above}
use Rattle.time.specs.Ticks.{last_tick}
use Rattle.curves.specs.Late.{rate_of, late_at}
use Rattle.curves.specs.Meaning.{NeverFalls}
use Rattle.curves.specs.Rows.{points_at}
use Rattle.curves.specs.Steps.{rows_of, steps_at}
use Rattle.curves.specs.declared.late.Late.{Late}
use Rattle.curves.specs.declared.steps.Steps.{Steps}
use Rattle.curves.proofs.Rows.{fit_climbs, points_rise, points_within}

-- more points are not below fewer
pub more_points : (m n : ℕ) → m ≤ n → amount (points_of m) ≤ amount (points_of n)
more_points m n h = omega arith

-- a factor and ticks make no more than the highest points
pub late_low : (f : Late) (n : ℕ) → n ≤ last_tick → rate_of f * n ≤ highest
late_low f n h = let p : rate_of f * n ≤ greatest_factor * last_tick = mul-le-mul f.rate.high h in omega arith

pub late_rises : (f : Late) → NeverFalls points_not_above (late_at f)
late_rises f s t h l = grind (arith, common_steps)

pub steps_rises : (f : Steps) → NeverFalls points_not_above (steps_at f)
steps_rises f s t h l = let up = points_rise (rows_of f) s t (fit_climbs (rows_of f) f.climbing) h in grind (arith, nat_tests, up)

-- the points of steps are not cut
pub steps_low : (f : Steps) (t : ℕ) → amount (steps_at f t) ≡ points_at (rows_of f) t
steps_low f t = min-eq_left (points_within (rows_of f) t f.ranged)
