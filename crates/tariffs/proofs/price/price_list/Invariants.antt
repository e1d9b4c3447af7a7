-- The places so far have their prices, and the others are as they were.
use Rattle.std.proofs.Common.{◌≡◌, ℕ, ◌<◌, get_or, drop}
use Rattle.curves.specs.Meaning.{reading}
use Rattle.tariffs.proofs.price.price_list.Given as goal

abbrev pub invariant-loop-i : goal.invariant-loop-i
invariant-loop-i g l = record {
  done : (j : ℕ) (d : _) → j < l.i → get_or l.prices j d ≡ reading (g.T.Tariff.curve_at l.tariff l.k) (get_or l.ticks j 0);
  rest : drop l.i l.prices ≡ drop l.i l.initial.prices;
}
