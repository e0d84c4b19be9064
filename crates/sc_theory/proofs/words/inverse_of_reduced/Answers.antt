use Rattle.sc_theory.proofs.Cyclic.{IsReduced-inverse_word}
use Rattle.sc_theory.proofs.words.inverse_of_reduced.Goals as goal

pub returns : goal.returns
returns c = IsReduced-inverse_word
