use Rattle.sc_basis.proofs.JournalLaws.{reached_after}
use Rattle.sc_basis.proofs.RisingJournals.{pivot_rises}
use Rattle.sc_basis.proofs.rises.pivots_rise.Goals as goal

pub returns : goal.returns
returns c = record { rises = λ r b basis p t t' reached lawful stands after. pivot_rises r b (reached_after r b) basis p t t' reached lawful stands after }
