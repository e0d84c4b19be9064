use Rattle.sc_assembly.proofs.OneMultiple.{values_from_one}
use Rattle.sc_assembly.proofs.laws.one_multiple_shows_the_values.Goals as goal

pub returns : goal.returns
returns c = values_from_one
