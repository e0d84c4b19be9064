use Rattle.sc_solve.proofs.PolygonPrices.{lifted_total, lifted_bound}
use Rattle.sc_solve.proofs.laws.lifted_prices_are_sums.Goals as goal

pub returns : goal.returns
returns c = record {
  walks = λ ch p factor walk chain closed. lifted_total ch chain p factor walk closed;
  bound = lifted_bound;
}
