use Rattle.std.proofs.Common.{◌≡◌, map}
use Rattle.std.specs.List.{range_with_len, AllByRecursion}
use Rattle.sc_text.specs.PriceLines.{IsPriceInRange}
use Rattle.sc_solve.specs.PriceLevels.{lifted_price}
use Rattle.sc_solve.proofs.lifting.lifted_rows.Given as goal

abbrev pub invariant-loop-n : goal.invariant-loop-n
invariant-loop-n l = record {
  items : l.list.items ≡ map (lifted_price l.prices l.factor) (range_with_len l.first l.n);
  small : AllByRecursion IsPriceInRange l.list.items;
}
