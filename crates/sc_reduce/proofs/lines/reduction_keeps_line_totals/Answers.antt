use Rattle.sc_reduce.proofs.LineLaws.{chain_total-chain_of}
use Rattle.sc_reduce.proofs.lines.reduction_keeps_line_totals.Goals as goal

pub returns : goal.returns
returns c = chain_total-chain_of
