use Rattle.sc_cone.proofs.Betweens.{tight_sums, tight_between, within}
use Rattle.sc_cone.proofs.unions.tight_on_the_cone.Goals as goal

pub returns : goal.returns
returns c = record { sums = tight_sums; between = tight_between; inside = within }
