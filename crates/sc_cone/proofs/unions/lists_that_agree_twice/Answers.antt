use Rattle.sc_cone.proofs.Agreement.{agree_beyond, tight_beyond}
use Rattle.sc_cone.proofs.unions.lists_that_agree_twice.Goals as goal

pub returns : goal.returns
returns c = record { values = agree_beyond; tight = tight_beyond }
