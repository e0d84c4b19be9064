-- Said by private functions alone: what leads from the answer of the simplex to a solution.
use Rattle.std.specs.Prelude.{◌≡◌, ℕ, List, [], ◌∷◌, sum, slice_get, Option, Some, None, ℤ}
use Rattle.sc_theory.specs.Chains.{Chain}
use Rattle.sc_theory.specs.Fatgraphs.{IsFatgraph, vertices}
use Rattle.sc_chain.specs.declared.polygon.Pivot.{Pivot}
use Rattle.sc_fraction.specs.declared.frac.Frac.{Frac}
use Rattle.sc_fatgraph.specs.Surfaces.{Surface}
use Rattle.sc_gluing.specs.Cycles.{copies_of}
use Rattle.sc_gluing.specs.Gluing.{IsGlued}
use Rattle.sc_simplex.specs.declared.column.KeyPivot.{KeyPivot}
use Rattle.sc_assembly.specs.declared.parts.Part.{Part}
use Rattle.sc_assembly.specs.declared.counting.PartsFault.{PartsFault}
use Rattle.sc_assembly.specs.declared.counting.PartsFault.TheVariants as parts_faults
use Rattle.sc_assembly.specs.Multiples.{IsLeastWhole, AreCounts, counted, HasManySides}
use Rattle.sc_solve.specs.declared.assembling.PartStop.{PartStop}
use Rattle.sc_solve.specs.declared.assembling.PartStop.TheVariants.{Sides, Memory}

-- the pivot of the polygon that is the key
abbrev pub named_pivot : KeyPivot → Pivot
named_pivot k = record { row = k.row; polygon = k.key.items }

-- the part of an item with a value
abbrev pub part_of : Option (List ℕ) → Frac → List Part
part_of None v = []
part_of (Some walk) v = record { polygon = walk; value = v } ∷ []

-- the parts of the items with their values
abbrev pub valued : List (Option (List ℕ)) → List Frac → List Part
valued [] values = []
valued (x ∷ items) [] = []
valued (None ∷ items) (v ∷ values) = valued items values
valued (Some walk ∷ items) (v ∷ values) = record { polygon = walk; value = v } ∷ valued items values

-- the surface is glued of the parts, and its vertices are as many as the copies of polygons
pub record IsMadeOf (c : Chain) (parts : List Part) (f : Surface) : Type 0 where
  pub over : f.chain ≡ c
  pub least : IsLeastWhole parts f.copies
  pub counts : List ℕ
  pub are_counts : AreCounts f.copies parts counts
  pub glued : IsGlued c (copies_of (counted parts counts)) f.sides
  pub fatgraph : IsFatgraph c f.copies f.sides
  pub vertices_are : vertices f.sides ≡ sum counts

-- the part is the one at some place that leads to too many sides
pub record IsPartOfMany (c : Chain) (parts : List Part) (part : Part) (so_far : ℕ) (next : ℤ) : Type 0 where
  pub place : ℕ
  pub part_is : slice_get parts place ≡ Some part
  pub many : HasManySides c parts place so_far next

abbrev pub IsPartStop : Chain → List Part → PartStop → Type 0
IsPartStop c parts (Sides part so_far next) = IsPartOfMany c parts part so_far next
IsPartStop c parts Memory = Unit {0}

-- the same fault, with the part at the place that is told
abbrev pub IsTold : List Part → PartsFault → PartStop → Type 0
IsTold parts (parts_faults.Sides place so_far next) (Sides part so_far' next') = (slice_get parts place ≡ Some part) × (so_far' ≡ so_far) × (next' ≡ next)
IsTold parts (parts_faults.Sides place so_far next) Memory = ⊥
IsTold parts parts_faults.Memory (Sides part so_far next) = ⊥
IsTold parts parts_faults.Memory Memory = Unit {0}
