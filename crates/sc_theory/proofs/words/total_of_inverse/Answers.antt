use Rattle.sc_theory.proofs.WordLaws.{total-inverse_word}
use Rattle.sc_theory.proofs.words.total_of_inverse.Goals as goal

pub returns : goal.returns
returns c = total-inverse_word
