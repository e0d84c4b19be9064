use Rattle.sc_basis.proofs.SmallBases.{two_starts_lawful, two_starts_stand, too_early_refused}
use Rattle.sc_basis.proofs.examples.polygon_of_two_words.Goals as goal

pub returns-clause-lawful : goal.returns-clause-lawful
returns-clause-lawful c = two_starts_lawful

pub returns-clause-stands : goal.returns-clause-stands
returns-clause-stands c = two_starts_stand

pub returns-clause-refused : goal.returns-clause-refused
returns-clause-refused c = too_early_refused
