use Rattle.sc_basis.proofs.ValueLaws.{columns_sum, fine_price}
use Rattle.sc_basis.proofs.values.multiples_of_values.Goals as goal

pub returns : goal.returns
returns c = record { columns = columns_sum; price = fine_price }
