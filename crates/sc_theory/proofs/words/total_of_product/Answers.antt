use Rattle.sc_theory.proofs.WordLaws.{total-append}
use Rattle.sc_theory.proofs.words.total_of_product.Goals as goal

pub returns : goal.returns
returns c = total-append
