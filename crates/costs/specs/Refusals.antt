-- Why a cost, a curve or the number of a layer is refused, and the number of each reason.
use Rattle.std.specs.Prelude.{ℕ, Bool, cond, Some, None, Ok, Err, Option, Result}
use Rattle.costs.specs.declared.refusal.PricingRefusal.{PricingRefusal}
use Rattle.costs.specs.declared.refusal.PricingRefusal.TheVariants.{OutOfRange, RowsUnfit}

-- the number by which each refusal is known
abbrev pub number_of : PricingRefusal → ℕ
number_of OutOfRange = 12
number_of RowsUnfit = 13

-- the number of the refusal that a call answered, or None where it was accepted
abbrev pub refused : {A : Type 0} → Result A PricingRefusal → Option ℕ
refused (Ok _) = None
refused (Err e) = Some (number_of e)

-- the number of the refusal e where the test fails, and else what the tests after it say
abbrev pub unless : Bool → PricingRefusal → Option ℕ → Option ℕ
unless test e later = cond test later (Some (number_of e))
