use Rattle.sc_theory.proofs.WordLaws.{inverse_word-append}
use Rattle.sc_theory.proofs.words.inverse_of_product.Goals as goal

pub returns : goal.returns
returns c = inverse_word-append
