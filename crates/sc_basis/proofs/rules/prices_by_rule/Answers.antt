use Rattle.sc_basis.proofs.RuleLaws.{price_by_rule}
use Rattle.sc_basis.proofs.rules.prices_by_rule.Goals as goal

pub returns : goal.returns
returns c = record { reduced = price_by_rule }
