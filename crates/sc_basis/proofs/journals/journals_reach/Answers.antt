use Rattle.sc_basis.proofs.JournalLaws.{reached_start, reached_after, reached_from, journal_reached}
use Rattle.sc_basis.proofs.journals.journals_reach.Goals as goal

pub returns : goal.returns
returns c = record { start = reached_start; pivot = reached_after; onward = reached_from; journal = journal_reached }
