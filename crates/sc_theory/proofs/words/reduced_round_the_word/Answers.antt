use Rattle.sc_theory.proofs.Rounds.{reduced_places}
use Rattle.sc_theory.proofs.words.reduced_round_the_word.Goals as goal

pub returns : goal.returns
returns c = reduced_places
