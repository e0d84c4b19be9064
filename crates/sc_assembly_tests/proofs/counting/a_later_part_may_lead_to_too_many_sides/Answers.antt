use Rattle.std.proofs.Common.{refl}
use Rattle.sc_assembly_tests.proofs.SmallParts.{balanced_from}
use Rattle.sc_assembly_tests.proofs.counting.a_later_part_may_lead_to_too_many_sides.Goals as goal

pub found-later-requires-clause-balanced : goal.found-later-requires-clause-balanced
found-later-requires-clause-balanced g c = balanced_from _ 1001000 _ refl
