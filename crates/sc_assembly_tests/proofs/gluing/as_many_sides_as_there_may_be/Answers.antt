use Rattle.std.proofs.Common.{refl}
use Rattle.sc_assembly_tests.proofs.SmallParts.{balanced_from}
use Rattle.sc_assembly_tests.proofs.gluing.as_many_sides_as_there_may_be.Goals as goal

pub glued-requires-clause-balanced : goal.glued-requires-clause-balanced
glued-requires-clause-balanced g c = balanced_from _ 262144 _ refl
