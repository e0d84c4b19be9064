use Rattle.sc_basis.proofs.ValueLaws.{bulk_of_right_side, unit_value}
use Rattle.sc_basis.proofs.values.units_have_no_value.Goals as goal

pub returns : goal.returns
returns c = record { bulk = bulk_of_right_side; units = unit_value }
