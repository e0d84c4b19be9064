use Rattle.sc_algebra.proofs.Ints.{mul-le_left, cancel_le, cancel}
use Rattle.sc_algebra.proofs.whole_number_order.Goals as goal

pub returns : goal.returns
returns c = record { multiplied = mul-le_left; divided = cancel_le; cancelled = cancel }
