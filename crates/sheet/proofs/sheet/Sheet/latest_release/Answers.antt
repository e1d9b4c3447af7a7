-- Each turn takes the release of one more move into the greatest.
use Rattle.std.proofs.Common.{ap, arith}
use Rattle.finite.proofs.Walks.{greatest_passes}
use Rattle.sheet.specs.declared.figures.Move.{Move}
use Rattle.sheet.specs.Ledger.{release_of}
use Rattle.sheet.specs.Meaning.{meaning}
use Rattle.sheet.proofs.sheet.Sheet.latest_release.Goals as goal

pub loop-m-preserved : goal.loop-m-preserved
loop-m-preserved c =
    let taken = c.in-Some.ensures.steps in
    omega (arith, greatest_passes _ c.in-Some.m.below taken.held taken.rest (release_of (meaning c.args.self.now)) 0, ap (λ (f : Move). f.release) c.figures_of.ensures)
