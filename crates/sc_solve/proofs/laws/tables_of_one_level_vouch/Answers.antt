use Rattle.sc_solve.proofs.ListTotals.{vouch_is}
use Rattle.sc_solve.proofs.laws.tables_of_one_level_vouch.Goals as goal

pub returns : goal.returns
returns c = vouch_is
