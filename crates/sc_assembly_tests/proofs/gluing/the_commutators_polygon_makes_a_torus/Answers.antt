use Rattle.std.proofs.Common.{refl}
use Rattle.sc_assembly_tests.proofs.SmallParts.{balanced_from}
use Rattle.sc_assembly_tests.proofs.gluing.the_commutators_polygon_makes_a_torus.Goals as goal

pub glued-requires-clause-balanced : goal.glued-requires-clause-balanced
glued-requires-clause-balanced g c = balanced_from _ 1 _ refl
