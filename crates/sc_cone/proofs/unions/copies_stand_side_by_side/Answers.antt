use Rattle.sc_cone.specs.Cones.{second_words, quadrant_chain}
use Rattle.sc_cone.proofs.Sizes.{combined}
use Rattle.sc_cone.proofs.SideBySide.{length_together, vertices_together, cost_together}
use Rattle.sc_cone.proofs.Together.{fatgraph_together, ribbon_at}
use Rattle.sc_cone.proofs.unions.copies_stand_side_by_side.Goals as goal

pub returns : goal.returns
returns c = record {
  fatgraph = λ q first second k i j d e x n m g h above in_d in_e in_x is here there.
      let by = combined q k i j d e x in_d in_e in_x is in
      fatgraph_together first (second_words q second) k i j _ _ _ _ _ _ above by.first by.second n m g h here there;
  sides = λ q first second i j d e n m g h here there. length_together (quadrant_chain q first second) g h (ribbon_at q first second d n g here) (ribbon_at q first second e m h there) i j;
  vertices = λ q first second i j d e n m g h here there. vertices_together (quadrant_chain q first second) g h (ribbon_at q first second d n g here) (ribbon_at q first second e m h there) i j;
  cost = λ q first second i j d e n m g h here there. cost_together (quadrant_chain q first second) g h (ribbon_at q first second d n g here) (ribbon_at q first second e m h there) i j;
}
