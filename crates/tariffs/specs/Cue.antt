-- What a record of the cue tariff means: Ceiling over Weight over Delay over its base.
use Rattle.std.specs.Prelude.{ℕ}
use Rattle.costs.specs.Points.{points_not_above, Points}
use Rattle.costs.specs.Ticks.{tick_count}
use Rattle.costs.specs.Factor.{times}
use Rattle.curves.specs.Late.{late_at}
use Rattle.curves.specs.Steps.{steps_at}
use Rattle.layers.specs.Layers.{delayed, under_ceiling, weighted}
use Rattle.tariffs.specs.declared.cue_curve.CueBase.{CueBase}
use Rattle.tariffs.specs.declared.cue_curve.CueBase.TheVariants.{Late, Steps}
use Rattle.tariffs.specs.declared.cue_curve.CueCurve.{CueCurve}

-- what the base means
abbrev pub base_at : CueBase → ℕ → Points
base_at (Late f) = late_at f
base_at (Steps f) = steps_at f

-- what the record means
abbrev pub cue_at : CueCurve → ℕ → Points
cue_at c = under_ceiling points_not_above c.ceiling (weighted (times c.weight) (delayed (tick_count c.delay) (base_at c.base)))
