use Rattle.std.proofs.Common.{refl}
use Rattle.sc_assembly_tests.proofs.SmallParts.{balanced_from}
use Rattle.sc_assembly_tests.proofs.counting.values_are_made_whole.Goals as goal

pub found-requires-clause-balanced : goal.found-requires-clause-balanced
found-requires-clause-balanced g c = balanced_from _ 6 _ refl

pub found-requires-2-clause-balanced : goal.found-requires-2-clause-balanced
found-requires-2-clause-balanced g c = balanced_from _ 5 _ refl

pub found-requires-3-clause-balanced : goal.found-requires-3-clause-balanced
found-requires-3-clause-balanced g c = balanced_from _ 262144 _ refl

pub found-requires-4-clause-balanced : goal.found-requires-4-clause-balanced
found-requires-4-clause-balanced g c = balanced_from _ 7 _ refl
