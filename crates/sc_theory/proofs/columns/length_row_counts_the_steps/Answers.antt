use Rattle.sc_theory.proofs.ColumnLaws.{length_product}
use Rattle.sc_theory.proofs.columns.length_row_counts_the_steps.Goals as goal

pub returns : goal.returns
returns c = record {
  polygons = λ c walk polygon. length_product c walk polygon.closed;
  walks = length_product;
}
