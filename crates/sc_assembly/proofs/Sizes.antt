-- The copies of parts with values have as many sides as the copies of the chain, so that no count is greater.
use Rattle.std.proofs.Common.{◌≡◌, ℕ, ◌+◌, ◌*◌, ◌^◌, ◌<◌, ◌≤◌, List, [], ◌∷◌, length, replicate, ℤ, pos, negsuc, ◌*ℤ◌, ◌≤ℤ◌, ◌<ℤ◌, arith, ap, subst, ◌∙◌}
use Rattle.std.specs.List.{AllByRecursion}
use Rattle.std.proofs.lemmas.Int.{ints}
use Rattle.std.proofs.Math.Nat.{mul-le-mul_left}
use Rattle.sc_theory.specs.Chains.{Chain, weighted_length}
use Rattle.sc_theory.specs.Walks.{IsClosedWalk, IsPolygon}
use Rattle.sc_fraction.specs.declared.frac.Frac.{Frac}
use Rattle.sc_fraction.specs.Frac.{numerator, denominator}
use Rattle.sc_gluing.specs.Cycles.{Parts, copies_of}
use Rattle.sc_gluing.specs.Gluing.{AreBalanced}
use Rattle.sc_gluing.proofs.CycleLaws.{size}
use Rattle.sc_gluing.proofs.StepCounts.{cycles_of_parts}
use Rattle.sc_gluing.proofs.Sizes.{cycles_size}
use Rattle.sc_gluing.proofs.PartSizes.{size-append, size-replicate}
use Rattle.sc_assembly.specs.declared.parts.Part.{Part}
use Rattle.sc_assembly.specs.Multiples.{IsTimes, MakesWhole, IsLeastCommon, AreCounts, counted, AreValues}
use Rattle.sc_assembly.specs.inside.Multiples.{IsCountable}
use Rattle.sc_assembly.proofs.Wholes.{denominator_of_zero, whole_from_divide, common}

-- the sides of the copies of one part more
size-copies : (w : List ℕ) (k : ℕ) (parts : Parts) → size (copies_of ((w, k) ∷ parts)) ≡ k * length w + size (copies_of parts)
size-copies w k parts = size-append (replicate k w) (copies_of parts) ∙ ap (λ (m : ℕ). m + size (copies_of parts)) (size-replicate k w)

-- ---- counts of parts with values
all_counted : (c : Chain) (parts : List Part) (counts : List ℕ) → AllByRecursion (λ p. IsPolygon c p.polygon) parts → AllByRecursion (λ p. IsPolygon c p.0) (counted parts counts)
all_counted c [] counts all = tt
all_counted c (p ∷ parts) [] all = tt
all_counted c (p ∷ parts) (k ∷ counts) all = (all.0, all_counted c parts counts all.1)

-- counts that are n times the values balance over n copies
pub balanced : (c : Chain) (parts : List Part) (n : ℕ) (counts : List ℕ) → AreValues c parts → AreCounts n parts counts → AreBalanced c n (counted parts counts)
balanced c parts n counts values are = record { polygons = all_counted c parts counts values.polygons; sums = values.sums n counts are }

-- a multiple that isn't negative is a count
natural : (n : ℕ) (v : Frac) (m : ℤ) → pos 0 ≤ℤ numerator v → IsTimes n v m → (k : ℕ) × IsTimes n v (pos k)
natural n v (pos k) low is = (k, is)
natural n v (negsuc k) low is = absurd (negative n k (numerator v) (denominator v) low (size_of_positive v) is)
  where
    size_of_positive : (v : Frac) → pos 0 <ℤ denominator v
    size_of_positive v = v.positive

    negative : (n k : ℕ) (num den : ℤ) → pos 0 ≤ℤ num → pos 0 <ℤ den → pos n *ℤ num ≡ negsuc k *ℤ den → ⊥
    negative n k (pos a) (pos d) low some e = grind (arith, ints)
    negative n k (negsuc a) den low some e = absurd (omega (arith, ints))
    negative n k (pos a) (negsuc d) low some e = absurd (omega (arith, ints))

-- a number that makes all values whole has counts, where no value is negative
pub counts_exist : (n : ℕ) (parts : List Part) → AllByRecursion (λ p. pos 0 ≤ℤ numerator p.value) parts → MakesWhole parts n → (counts : List ℕ) × AreCounts n parts counts
counts_exist n [] low whole = ([], tt)
counts_exist n (p ∷ parts) low whole =
    let one = natural n p.value whole.0.0 low.0 whole.0.1 in
    let rest = counts_exist n parts low.1 whole.1 in
    (one.0 ∷ rest.0, (one.1, rest.1))

some_step : (c : Chain) (walk : List ℕ) → IsClosedWalk c walk → 0 < length walk
some_step c [] closed = absurd closed
some_step c (i ∷ js) closed = omega arith

count_within : (k l : ℕ) → 0 < l → k ≤ k * l
count_within k l some = omega (arith, mul-le-mul_left k some)

-- the counts come to no more than the sides
pub countable : (c : Chain) (n : ℕ) (parts : List Part) (counts : List ℕ) → AllByRecursion (λ p. IsPolygon c p.polygon) parts → AreCounts n parts counts → size (copies_of (counted parts counts)) < 2 ^ 32 → AllByRecursion (λ p. IsCountable n p.value) parts
countable c n [] counts all are few = tt
countable c n (p ∷ parts) [] all are few = absurd are
countable c n (p ∷ parts) (k ∷ counts) all are few =
    let own : k ≤ k * length p.polygon = count_within k (length p.polygon) (some_step c p.polygon all.0.closed) in
    let whole = size-copies p.polygon k (counted parts counts) in
    ((k, omega (arith, own, whole), are.0), countable c n parts counts all.1 are.1 (omega (arith, whole)))

all_ones : (c : Chain) (n : ℕ) (parts : List Part) (counts : List ℕ) → 0 < n → AllByRecursion (λ p. IsPolygon c p.polygon) parts → AreCounts n parts counts → size (copies_of (counted parts counts)) ≡ 0 → AllByRecursion (λ p. denominator p.value ≡ pos 1) parts
all_ones c n [] counts some all are none = tt
all_ones c n (p ∷ parts) [] some all are none = absurd are
all_ones c n (p ∷ parts) (k ∷ counts) some all are none =
    let own : k ≤ k * length p.polygon = count_within k (length p.polygon) (some_step c p.polygon all.0.closed) in
    let whole = size-copies p.polygon k (counted parts counts) in
    let nothing : k ≡ 0 = omega (arith, own, whole) in
    (denominator_of_zero p.value n some (subst (λ (m : ℕ). IsTimes n p.value (pos m)) nothing are.0), all_ones c n parts counts some all.1 are.1 (omega (arith, whole)))

module _ (c : Chain) (parts : List Part) (values : AreValues c parts) where
  -- over a chain without letters that count, each value is 0
  pub whole_over_nothing : weighted_length c ≡ 0 → AllByRecursion (λ p. denominator p.value ≡ pos 1) parts
  whole_over_nothing none =
      let some = common parts in
      let found = counts_exist some.0 parts values.not_negative (whole_from_divide some.0 parts some.2) in
      let sides : size (copies_of (counted parts found.0)) ≡ some.0 * weighted_length c = cycles_size c some.0 (copies_of (counted parts found.0)) (cycles_of_parts c some.0 (counted parts found.0) (balanced c parts some.0 found.0 values found.1)) in
      all_ones c some.0 parts found.0 some.1 values.polygons found.1 (sides ∙ ap (λ (l : ℕ). some.0 * l) none ∙ omega arith)

  -- where n copies have fewer than 2^32 sides, n times each value fits 32 bits
  pub counts_fit : (n : ℕ) → IsLeastCommon parts n → n * weighted_length c < 2 ^ 32 → AllByRecursion (λ p. IsCountable n p.value) parts
  counts_fit n is few =
      let found = counts_exist n parts values.not_negative (whole_from_divide n parts is.multiple) in
      let sides : size (copies_of (counted parts found.0)) ≡ n * weighted_length c = cycles_size c n (copies_of (counted parts found.0)) (cycles_of_parts c n (counted parts found.0) (balanced c parts n found.0 values found.1)) in
      countable c n parts found.0 values.polygons found.1 (omega arith)
