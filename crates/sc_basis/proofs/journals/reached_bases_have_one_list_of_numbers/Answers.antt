use Rattle.sc_basis.proofs.JournalLaws.{standing_above, standing_unique}
use Rattle.sc_basis.proofs.SameNumbers.{improves_by_all, leaves_by_all}
use Rattle.sc_basis.proofs.journals.reached_bases_have_one_list_of_numbers.Goals as goal

pub returns : goal.returns
returns c = record { above = standing_above; unique = standing_unique; improves = improves_by_all; leaves = leaves_by_all }
