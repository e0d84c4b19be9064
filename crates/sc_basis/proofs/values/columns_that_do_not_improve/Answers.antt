use Rattle.sc_basis.proofs.ValueLaws.{bulk_at_least, fine_at_least}
use Rattle.sc_basis.proofs.values.columns_that_do_not_improve.Goals as goal

pub returns : goal.returns
returns c = record { bulk = bulk_at_least; fine = fine_at_least }
