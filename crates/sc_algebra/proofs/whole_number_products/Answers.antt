use Rattle.sc_algebra.proofs.Ints.{mul_comm, mul_assoc, mul_add, mul_sub, mul_neg}
use Rattle.sc_algebra.proofs.whole_number_products.Goals as goal

pub returns : goal.returns
returns c = record { commute = mul_comm; associate = mul_assoc; distribute = mul_add; subtract = mul_sub; negate = mul_neg }
