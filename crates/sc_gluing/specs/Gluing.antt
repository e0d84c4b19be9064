-- The surface that is glued of copies of polygons.
use Rattle.std.specs.Prelude.{◌≡◌, ℕ, ◌<◌, List, [], ◌∷◌, map, length, ℤ, pos, ◌+ℤ◌, ◌*ℤ◌}
use Rattle.std.specs.List.{AllByRecursion}
use Rattle.sc_theory.specs.Chains.{Chain, succ}
use Rattle.sc_theory.specs.Fatgraphs.{Sides, mate, next}
use Rattle.sc_theory.specs.Walks.{IsPolygon}
use Rattle.sc_theory.specs.Columns.{rows, column, right_side}
use Rattle.sc_gluing.specs.Cycles.{Parts, labels_of, at, after, rank}

-- the steps that begin at the sides s and t are matched: each ends at the position after the one where the other
-- begins, so that one goes from the position before p to q and the other from the one before q to p, and among the
-- steps between their positions, in the order of the sides, both stand at the same place
pub record AreMatched (c : Chain) (cycles : List (List ℕ)) (s t : ℕ) : Type 0 where
  pub forth : at cycles (after cycles t) ≡ succ c (at cycles s)
  pub back : at cycles (after cycles s) ≡ succ c (at cycles t)
  pub ranks : rank cycles s ≡ rank cycles t

-- the sides run along the cycles, the sides where two matched steps end are mates, and the next of a side is the mate
-- of the one that follows it round its cycle
pub record IsGlued (c : Chain) (cycles : List (List ℕ)) (g : Sides) : Type 0 where
  pub labels : map (λ s. s.label) g ≡ labels_of cycles
  pub mates : (s t : ℕ) → s < length g → t < length g → AreMatched c cycles s t → mate g (after cycles s) ≡ after cycles t
  pub nexts : (s : ℕ) → s < length g → next g s ≡ mate g (after cycles s)

-- the sum of count times column
abbrev pub parts_column : Chain → Parts → ℕ → ℤ
parts_column c [] k = pos 0
parts_column c (p ∷ parts) k = pos p.1 *ℤ column c p.0 k +ℤ parts_column c parts k

-- polygons with counts whose columns come to n times the right side: in the row of a pair to 0, in that of a word to n
-- times its weight
pub record AreBalanced (c : Chain) (n : ℕ) (parts : Parts) : Type 0 where
  pub polygons : AllByRecursion (λ p. IsPolygon c p.0) parts
  pub sums : (k : ℕ) → k < rows c → parts_column c parts k ≡ pos n *ℤ right_side c k
