-- The records of a cue tariff: each means a curve that never falls, and the one at a place is the one that is read there.
use Rattle.std.proofs.Common.{◌≡◌, ℕ, List, Some, None, Option, refl, ap, ◌∙◌, rules}
use Rattle.std.specs.Prelude.{slice_get}
use Rattle.std.proofs.lemmas.Option.{slice_get-get_or, slice_get_past}
use Rattle.costs.specs.Points.{amount, points_not_above, Points}
use Rattle.costs.specs.Ticks.{tick_count}
use Rattle.costs.specs.Factor.{times}
use Rattle.curves.specs.Meaning.{NeverFalls}
use Rattle.curves.proofs.Rises.{late_rises, steps_rises}
use Rattle.layers.specs.Layers.{delayed, weighted}
use Rattle.layers.proofs.Keeps.{delayed_rises, under_ceiling_rises, weighted_rises}
use Rattle.tariffs.specs.Cue.{base_at, cue_at}
use Rattle.tariffs.specs.Meaning.{NoneFalls}
use Rattle.tariffs.specs.Table.{entry_at, record_at, RecordLaw}
use Rattle.tariffs.specs.declared.cue_curve.CueBase.{CueBase}
use Rattle.tariffs.specs.declared.cue_curve.CueBase.TheVariants.{Late, Steps}
use Rattle.tariffs.specs.declared.cue_curve.CueCurve.{CueCurve}

base_rises : (b : CueBase) → NeverFalls points_not_above (base_at b)
base_rises (Late f) = late_rises f
base_rises (Steps f) = steps_rises f

cue_rises : (c : CueCurve) → NeverFalls points_not_above (cue_at c)
cue_rises c =
    let late = delayed (tick_count c.delay) (base_at c.base) in
    under_ceiling_rises points_not_above (search rules) (search rules) c.ceiling (weighted (times c.weight) late)
    (weighted_rises (times c.weight) late (delayed_rises points_not_above (tick_count c.delay) (base_at c.base) (base_rises c.base)))

entry_rises : (o : Option CueCurve) → NeverFalls points_not_above (entry_at o)
entry_rises (Some c) = cue_rises c
entry_rises None = λ s t h l. refl

pub records_rise : (cs : List CueCurve) → NoneFalls points_not_above (record_at cs)
records_rise cs k l = entry_rises (slice_get cs k)

-- what the records give is what the law says
pub record_law : (cs : List CueCurve) (k t : ℕ) (c : Points) → c ≡ record_at cs k t → RecordLaw cs k t c
record_law cs k t c e = record {
  within = λ h any. e ∙ ap (λ o. entry_at o t) (slice_get-get_or cs k any h);
  past = λ h. ap amount (e ∙ ap (λ o. entry_at o t) (slice_get_past cs k h));
}
