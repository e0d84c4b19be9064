use Rattle.sc_basis.proofs.Ratios.{reduced_unique, ratio_unique}
use Rattle.sc_basis.proofs.evidence.lowest_terms_are_unique.Goals as goal

pub returns : goal.returns
returns c = record { lists = reduced_unique; ratios = ratio_unique }
