use Rattle.sc_theory.proofs.Normal.{same_products, same_inverses, same_with_inverse, same_reduced}
use Rattle.sc_theory.proofs.words.same_element_in_products.Goals as goal

pub returns-clause-product : goal.returns-clause-product
returns-clause-product c = same_products

pub returns-clause-inverse : goal.returns-clause-inverse
returns-clause-inverse c = same_inverses

pub returns-clause-cancels : goal.returns-clause-cancels
returns-clause-cancels c = same_with_inverse

pub returns-clause-reduced : goal.returns-clause-reduced
returns-clause-reduced c = same_reduced
