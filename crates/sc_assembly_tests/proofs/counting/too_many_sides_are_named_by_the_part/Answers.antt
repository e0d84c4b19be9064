use Rattle.std.proofs.Common.{refl}
use Rattle.sc_assembly_tests.proofs.SmallParts.{balanced_from}
use Rattle.sc_assembly_tests.proofs.counting.too_many_sides_are_named_by_the_part.Goals as goal

pub found-first-requires-clause-balanced : goal.found-first-requires-clause-balanced
found-first-requires-clause-balanced g c = balanced_from _ 262145 _ refl
