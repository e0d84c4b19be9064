use Rattle.sc_whole.proofs.SpellingLaws.{spelling-injective}
use Rattle.sc_whole.proofs.laws.spelling_has_one_reading.Goals as goal

pub returns : goal.returns
returns c = spelling-injective
