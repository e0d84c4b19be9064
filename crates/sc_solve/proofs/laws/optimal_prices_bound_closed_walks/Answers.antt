use Rattle.sc_solve.proofs.PolygonPrices.{closed_walks_cost, none_improves}
use Rattle.sc_solve.proofs.laws.optimal_prices_bound_closed_walks.Goals as goal

pub returns : goal.returns
returns c = record {
  closed = λ ch p chain prices optimal. closed_walks_cost ch chain p optimal prices.fine_scale;
  columns = λ ch p chain all. none_improves ch chain p all;
}
