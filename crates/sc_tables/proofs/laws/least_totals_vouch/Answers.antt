use Rattle.sc_tables.proofs.LeastTotals.{vouches}
use Rattle.sc_tables.proofs.AllTables
use Rattle.sc_tables.proofs.laws.least_totals_vouch.Goals as goal

pub returns : goal.returns
returns c = let z = Rattle.sc_tables.proofs.AllTables.vouch in vouches
