-- What steps mean.
use Rattle.std.specs.Prelude.{ℕ, List}
use Rattle.costs.specs.Points.{points_of, Points}
use Rattle.curves.specs.Rows.{points_at}
use Rattle.curves.specs.declared.row.Row.{Row}
use Rattle.tables.specs.Filled.{items_of}
use Rattle.curves.specs.declared.steps.Steps.{Steps}

-- the rows that steps have
abbrev pub rows_of : Steps → List Row
rows_of f = items_of f.rows

-- what steps mean as a curve
abbrev pub steps_at : Steps → ℕ → Points
steps_at f t = points_of (points_at (rows_of f) t)
