-- Multiples of the values of parts that are whole numbers.
use Rattle.std.specs.Prelude.{◌≡◌, ℕ, ◌*◌, ◌<◌, ◌≤◌, List, [], ◌∷◌, take, slice_get, Some, ℤ, pos, ◌*ℤ◌, ◌≤ℤ◌, unsigned_abs}
use Rattle.std.specs.Int.{◌∣◌}
use Rattle.std.specs.List.{AllByRecursion}
use Rattle.sc_theory.specs.Chains.{Chain, weighted_length}
use Rattle.sc_theory.specs.Walks.{IsPolygon}
use Rattle.sc_theory.specs.Columns.{rows, right_side}
use Rattle.sc_whole.specs.Divisor.{IsLcm}
use Rattle.sc_fraction.specs.declared.frac.Frac.{Frac}
use Rattle.sc_fraction.specs.Frac.{numerator, denominator}
use Rattle.sc_fatgraph.specs.declared.limits.TheConstants.{MAX_SIDES}
use Rattle.sc_gluing.specs.Cycles.{Parts}
use Rattle.sc_gluing.specs.Gluing.{parts_column}
use Rattle.sc_assembly.specs.declared.parts.Part.{Part}
use Rattle.sc_assembly.specs.declared.counting.PartsFault.{PartsFault}
use Rattle.sc_assembly.specs.declared.counting.PartsFault.TheVariants.{Sides, Memory}

-- n times the fraction is the whole number m
abbrev pub IsTimes : ℕ → Frac → ℤ → Type 0
IsTimes n v m = pos n *ℤ numerator v ≡ m *ℤ denominator v

-- n times each value is whole
abbrev pub MakesWhole : List Part → ℕ → Type 0
MakesWhole parts n = AllByRecursion (λ p. (m : ℤ) × IsTimes n p.value m) parts

-- the least number of at least 1 that makes each value whole
pub record IsLeastWhole (parts : List Part) (n : ℕ) : Type 0 where
  pub positive : 0 < n
  pub whole : MakesWhole parts n
  pub least : (m : ℕ) → 0 < m → MakesWhole parts m → n ≤ m

-- the counts are n times the values, part by part
abbrev pub AreCounts : ℕ → List Part → List ℕ → Type 0
AreCounts n [] [] = Unit {0}
AreCounts n [] (k ∷ counts) = ⊥
AreCounts n (p ∷ parts) [] = ⊥
AreCounts n (p ∷ parts) (k ∷ counts) = IsTimes n p.value (pos k) × AreCounts n parts counts

-- the polygons of the parts with their counts
abbrev pub counted : List Part → List ℕ → Parts
counted [] counts = []
counted (p ∷ parts) [] = []
counted (p ∷ parts) (k ∷ counts) = (p.polygon, k) ∷ counted parts counts

-- the parts are polygons, no value is negative, and the sum of value times column is the right side: whatever number
-- makes the values whole, that many of the columns come to as many right sides
pub record AreValues (c : Chain) (parts : List Part) : Type 0 where
  pub polygons : AllByRecursion (λ p. IsPolygon c p.polygon) parts
  pub not_negative : AllByRecursion (λ p. pos 0 ≤ℤ numerator p.value) parts
  pub sums : (n : ℕ) (counts : List ℕ) → AreCounts n parts counts →
      (k : ℕ) → k < rows c → parts_column c (counted parts counts) k ≡ pos n *ℤ right_side c k

-- the least common multiple of the denominators: a multiple of each that divides each other one
pub record IsLeastCommon (parts : List Part) (m : ℕ) : Type 0 where
  pub positive : 0 < m
  pub multiple : AllByRecursion (λ p. unsigned_abs (denominator p.value) ∣ m) parts
  pub least : (k : ℕ) → AllByRecursion (λ p. unsigned_abs (denominator p.value) ∣ k) parts → m ∣ k

-- the least number of copies has too many sides, and the part is the first whose denominator leads there: the least
-- common multiple of those before it hasn't too many, and with its own has
pub record HasManySides (c : Chain) (parts : List Part) (part so_far : ℕ) (next : ℤ) : Type 0 where
  pub over : (n : ℕ) → IsLeastWhole parts n → MAX_SIDES < n * weighted_length c
  pub here : Part
  pub here_is : slice_get parts part ≡ Some here
  pub next_is : next ≡ denominator here.value
  pub so_far_is : IsLeastCommon (take part parts) so_far
  pub within : so_far * weighted_length c ≤ MAX_SIDES
  pub passed : (m : ℕ) → IsLcm so_far (unsigned_abs next) m → MAX_SIDES < m * weighted_length c

-- want of memory says nothing of the parts
abbrev pub IsFaultOf : Chain → List Part → PartsFault → Type 0
IsFaultOf c parts (Sides part so_far next) = HasManySides c parts part so_far next
IsFaultOf c parts Memory = Unit {0}
