use Rattle.sc_basis.proofs.SmallBases.{difference_told, no_row_refused, other_order_refused}
use Rattle.sc_basis.proofs.examples.difference_in_the_row_of_the_first_word.Goals as goal

pub returns-clause-told : goal.returns-clause-told
returns-clause-told c = difference_told

pub returns-clause-no_row : goal.returns-clause-no_row
returns-clause-no_row c = no_row_refused

pub returns-clause-other_order : goal.returns-clause-other_order
returns-clause-other_order c = other_order_refused
