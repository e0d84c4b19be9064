use Rattle.sc_basis.proofs.ValueLaws.{value_not_negative}
use Rattle.sc_basis.proofs.values.values_are_not_negative.Goals as goal

pub returns : goal.returns
returns c = record { values = value_not_negative }
