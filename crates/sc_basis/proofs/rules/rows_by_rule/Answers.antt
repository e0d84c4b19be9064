use Rattle.sc_basis.proofs.RuleLaws.{row_by_rule, ratio_of_lowest}
use Rattle.sc_basis.proofs.rules.rows_by_rule.Goals as goal

pub returns : goal.returns
returns c = record { reduced = row_by_rule; ratio = ratio_of_lowest }
