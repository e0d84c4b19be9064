use Rattle.sc_basis.proofs.SmallBases.{square_lawful, square_stands}
use Rattle.sc_basis.proofs.examples.polygon_of_one_word.Goals as goal

pub returns-clause-lawful : goal.returns-clause-lawful
returns-clause-lawful c = square_lawful

pub returns-clause-stands : goal.returns-clause-stands
returns-clause-stands c = square_stands
