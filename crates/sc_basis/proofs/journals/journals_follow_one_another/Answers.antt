use Rattle.sc_basis.proofs.JournalLaws.{lawful_joined, lawful_first, lawful_second, after_joined}
use Rattle.sc_basis.proofs.journals.journals_follow_one_another.Goals as goal

pub returns : goal.returns
returns c = record { joined = lawful_joined; first = lawful_first; second = lawful_second; reached = after_joined }
