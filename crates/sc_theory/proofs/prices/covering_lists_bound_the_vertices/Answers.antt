use Rattle.sc_theory.proofs.Duality.{duality_by_counts, duality}
use Rattle.sc_theory.proofs.prices.covering_lists_bound_the_vertices.Goals as goal

pub returns : goal.returns
returns c = record {
  counts = λ c list n g chain covers is. duality_by_counts c list n g is chain covers;
  copies = λ c list n g chain covers is. duality c list n g is chain covers;
}
