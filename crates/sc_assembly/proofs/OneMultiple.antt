-- Where some number of copies makes all values whole and the counts balance, the values do.
use Rattle.std.proofs.Common.{◌≡◌, ℕ, ◌<◌, List, [], ◌∷◌, ℤ, pos, negsuc, ◌+ℤ◌, ◌*ℤ◌, ◌≤ℤ◌, ◌<ℤ◌, arith, sym, ap, ap₂, ◌∙◌}
use Rattle.std.specs.List.{AllByRecursion}
use Rattle.std.proofs.lemmas.Int.{ints}
use Rattle.sc_algebra.proofs.Ints.{mul_comm, mul_add, mul_assoc, mul_left_comm, mul-zero, cancel}
use Rattle.sc_theory.specs.Chains.{Chain}
use Rattle.sc_theory.specs.Walks.{IsPolygon}
use Rattle.sc_theory.specs.Columns.{column, right_side}
use Rattle.sc_fraction.specs.declared.frac.Frac.{Frac}
use Rattle.sc_fraction.specs.Frac.{numerator, denominator, IsQuotient}
use Rattle.sc_gluing.specs.Gluing.{parts_column, AreBalanced}
use Rattle.sc_assembly.specs.declared.parts.Part.{Part}
use Rattle.sc_assembly.specs.Multiples.{IsTimes, AreCounts, counted, AreValues}
use Rattle.sc_assembly.proofs.Wholes.{size, size_positive, denominator_is}

-- ---- one fraction
-- a factor that is a denominator can be taken away
cancel_denominator : (v : Frac) (a b : ℤ) → a *ℤ denominator v ≡ b *ℤ denominator v → a ≡ b
cancel_denominator v a b e =
    cancel (size v) a b (size_positive v)
    (mul_comm (pos (size v)) a ∙ ap (λ (d : ℤ). a *ℤ d) (sym (denominator_is v)) ∙ e ∙ ap (λ (d : ℤ). b *ℤ d) (denominator_is v) ∙ mul_comm b (pos (size v)))

-- the multiples of one fraction are in proportion
in_proportion : (v : Frac) (m n : ℕ) (a b : ℤ) → IsTimes m v a → IsTimes n v b → pos n *ℤ a ≡ pos m *ℤ b
in_proportion v m n a b h k =
    cancel_denominator v (pos n *ℤ a) (pos m *ℤ b)
    (mul_assoc (pos n) a (denominator v)
    ∙ ap (λ (x : ℤ). pos n *ℤ x) (sym h)
    ∙ mul_left_comm (pos n) (pos m) (numerator v)
    ∙ ap (λ (x : ℤ). pos m *ℤ x) k
    ∙ sym (mul_assoc (pos m) b (denominator v)))

-- a fraction of which some multiple isn't negative isn't negative
not_below : (n k : ℕ) (num den : ℤ) → 0 < n → pos 0 <ℤ den → pos n *ℤ num ≡ pos k *ℤ den → pos 0 ≤ℤ num
not_below n k (pos a) den some above e = omega (arith, ints)
not_below n k (negsuc a) (pos d) some above e = grind (arith, ints)
not_below n k (negsuc a) (negsuc d) some above e = absurd (omega (arith, ints))

-- ---- all parts
all_polygons : (c : Chain) (n : ℕ) (parts : List Part) (counts : List ℕ) → AreCounts n parts counts → AllByRecursion (λ p. IsPolygon c p.0) (counted parts counts) → AllByRecursion (λ p. IsPolygon c p.polygon) parts
all_polygons c n [] counts are all = tt
all_polygons c n (p ∷ parts) [] are all = absurd are
all_polygons c n (p ∷ parts) (k ∷ counts) are all = (all.0, all_polygons c n parts counts are.1 all.1)

positive : (v : Frac) → pos 0 <ℤ denominator v
positive v = v.positive

none_negative : (n : ℕ) (parts : List Part) (counts : List ℕ) → 0 < n → AreCounts n parts counts → AllByRecursion (λ p. pos 0 ≤ℤ numerator p.value) parts
none_negative n [] counts some are = tt
none_negative n (p ∷ parts) [] some are = absurd are
none_negative n (p ∷ parts) (k ∷ counts) some are = (not_below n k (numerator p.value) (denominator p.value) some (positive p.value) are.0, none_negative n parts counts some are.1)

spread : (n a x y : ℤ) → n *ℤ (a *ℤ x +ℤ y) ≡ (n *ℤ a) *ℤ x +ℤ n *ℤ y
spread n a x y = mul_add n (a *ℤ x) y ∙ ap (λ (t : ℤ). t +ℤ n *ℤ y) (sym (mul_assoc n a x))

columns_in_proportion : (c : Chain) (m n k : ℕ) (parts : List Part) (counts others : List ℕ) → AreCounts m parts counts → AreCounts n parts others → pos n *ℤ parts_column c (counted parts counts) k ≡ pos m *ℤ parts_column c (counted parts others) k
columns_in_proportion c m n k [] counts others are those = mul-zero (pos n) ∙ sym (mul-zero (pos m))
columns_in_proportion c m n k (p ∷ parts) [] others are those = absurd are
columns_in_proportion c m n k (p ∷ parts) (a ∷ counts) [] are those = absurd those
columns_in_proportion c m n k (p ∷ parts) (a ∷ counts) (b ∷ others) are those =
    spread (pos n) (pos a) (column c p.polygon k) (parts_column c (counted parts counts) k)
    ∙ ap₂ (λ (x y : ℤ). x *ℤ column c p.polygon k +ℤ y) (in_proportion p.value m n (pos a) (pos b) are.0 those.0) (columns_in_proportion c m n k parts counts others are.1 those.1)
    ∙ sym (spread (pos m) (pos b) (column c p.polygon k) (parts_column c (counted parts others) k))

-- where the counts over some number of copies balance, so do the values
pub values_from_one : (c : Chain) (parts : List Part) (n : ℕ) (counts : List ℕ) → 0 < n → AreCounts n parts counts → AreBalanced c n (counted parts counts) → AreValues c parts
values_from_one c parts n counts some are balanced = record {
  polygons = all_polygons c n parts counts are balanced.polygons;
  not_negative = none_negative n parts counts some are;
  sums = λ m others those k inside.
      cancel n (parts_column c (counted parts others) k) (pos m *ℤ right_side c k) some
      (columns_in_proportion c m n k parts others counts those are
      ∙ ap (λ (x : ℤ). pos m *ℤ x) (balanced.sums k inside)
      ∙ mul_left_comm (pos m) (pos n) (right_side c k));
}

-- ---- a count over n is a value of which n makes the count
pub times_of_quotient : (n k : ℕ) (v : Frac) → IsQuotient (pos k) (pos n) v → IsTimes n v (pos k)
times_of_quotient n k v is = mul_comm (pos n) (numerator v) ∙ is
