-- The counts of parts, as numbers of the rows of the basis that the parts are from.
use Rattle.std.proofs.Common.{◌≡◌, ℕ, zero, suc, ◌+◌, ◌<◌, List, [], ◌∷◌, length, get_or, Option, Some, None, ℤ, pos, ◌+ℤ◌, ◌*ℤ◌, ◌<ℤ◌, arith, refl, sym, ap, ap₂, subst, ◌∙◌}
use Rattle.std.specs.Prelude.{sum}
use Rattle.std.proofs.lemmas.Int.{ints}
use Rattle.std.proofs.lemmas.List.Sums.{sum_by-cons}
use Rattle.sc_algebra.specs.Sums.{sum_below}
use Rattle.sc_algebra.proofs.Ints.{mul_comm, mul_left_comm, mul-zero, zero-mul, mul-one, pos-add, cancel_factor}
use Rattle.sc_algebra.proofs.Sums.{sum_first}
use Rattle.sc_theory.specs.Chains.{Chain}
use Rattle.sc_theory.specs.Columns.{rows, column, right_side}
use Rattle.sc_basis.specs.Standing.{BasisNumbers}
use Rattle.sc_basis.specs.Values.{value}
use Rattle.sc_fraction.specs.declared.frac.Frac.{Frac}
use Rattle.sc_fraction.specs.Frac.{numerator, denominator, IsQuotient}
use Rattle.sc_gluing.specs.Cycles.{Parts}
use Rattle.sc_gluing.specs.Gluing.{parts_column}
use Rattle.sc_assembly.specs.declared.parts.Part.{Part}
use Rattle.sc_assembly.specs.Multiples.{IsTimes, AreCounts, counted}
use Rattle.sc_solve.specs.Solutions.{ArePartsFrom}

-- for each item the count of its part, and 0 where it has none
abbrev pub spread : List (Option (List ℕ)) → List ℕ → List ℕ
spread [] counts = []
spread (None ∷ items) counts = 0 ∷ spread items counts
spread (Some walk ∷ items) [] = 0 ∷ spread items []
spread (Some walk ∷ items) (n ∷ counts) = n ∷ spread items counts

abbrev pub times : List (Option (List ℕ)) → List ℕ → ℕ → ℤ
times items counts k = pos (get_or (spread items counts) k 0)

-- ---- the counts are multiples of the values
not_zero : (d : ℤ) → pos 0 <ℤ d → d ≡ pos 0 → ⊥
not_zero d above e = absurd (omega (arith, ints))

some_denominator : (v : Frac) → denominator v ≡ pos 0 → ⊥
some_denominator v e = not_zero v.den v.positive e

times_of_value : (v : Frac) (n k : ℕ) (a d : ℤ) → IsTimes n v (pos k) → IsQuotient a d v → d *ℤ pos k ≡ pos n *ℤ a
times_of_value v n k a d whole is =
    cancel_factor (denominator v) (d *ℤ pos k) (pos n *ℤ a) (some_denominator v)
    (mul_left_comm (denominator v) d (pos k)
    ∙ ap (λ (x : ℤ). d *ℤ x) (mul_comm (denominator v) (pos k) ∙ sym whole)
    ∙ mul_left_comm d (pos n) (numerator v)
    ∙ ap (λ (x : ℤ). pos n *ℤ x) (mul_comm d (numerator v) ∙ is ∙ mul_comm a (denominator v))
    ∙ mul_left_comm (pos n) (denominator v) a)

no_times : (d n x : ℤ) → x ≡ pos 0 → d *ℤ pos 0 ≡ n *ℤ x
no_times d n x e = mul-zero d ∙ sym (ap (λ (y : ℤ). n *ℤ y) e ∙ mul-zero n)

-- each unit from the row i on has the value 0
abbrev pub HaveUnitsNone : Chain → BasisNumbers → ℕ → List (Option (List ℕ)) → Type 0
HaveUnitsNone c t i items = (k j : ℕ) → j ≡ i + k → k < length items → get_or items k None ≡ None → value (rows c) (right_side c) t j ≡ pos 0

-- the count in each row, times the row's denominator, is n times the value of the row
pub multiples_from : (c : Chain) (t : BasisNumbers) (n i : ℕ) (items : List (Option (List ℕ))) (parts : List Part) (counts : List ℕ) → ArePartsFrom c t i items parts → AreCounts n parts counts → HaveUnitsNone c t i items
    → (k j : ℕ) → j ≡ i + k → k < length items → t.denominator j *ℤ times items counts k ≡ pos n *ℤ value (rows c) (right_side c) t j
multiples_from c t n i [] parts counts are those units k j e inside = absurd (omega arith)
multiples_from c t n i (None ∷ items) parts counts are those units zero j e inside = no_times (t.denominator j) (pos n) (value (rows c) (right_side c) t j) (units zero j e inside refl)
multiples_from c t n i (None ∷ items) parts counts are those units (suc k) j e inside =
    multiples_from c t n (suc i) items parts counts are those (λ k' j' e' inside' none. units (suc k') j' (omega arith) (omega arith) none) k j (omega arith) (omega arith)
multiples_from c t n i (Some walk ∷ items) [] counts are those units k j e inside = absurd are
multiples_from c t n i (Some walk ∷ items) (p ∷ parts) [] are those units k j e inside = absurd those
multiples_from c t n i (Some walk ∷ items) (p ∷ parts) (m ∷ counts) are those units zero j e inside =
    let here : i ≡ j = omega arith in
    subst (λ (h : ℕ). t.denominator h *ℤ pos m ≡ pos n *ℤ value (rows c) (right_side c) t h) here
    (times_of_value p.value n m (value (rows c) (right_side c) t i) (t.denominator i) those.0 are.1)
multiples_from c t n i (Some walk ∷ items) (p ∷ parts) (m ∷ counts) are those units (suc k) j e inside =
    multiples_from c t n (suc i) items parts counts are.2 those.1 (λ k' j' e' inside' none. units (suc k') j' (omega arith) (omega arith) none) k j (omega arith) (omega arith)

-- ---- sums over the parts are sums over the rows
-- the sum of count times H of the polygon
abbrev pub weighed : (List ℕ → ℤ) → Parts → ℤ
weighed H [] = pos 0
weighed H (p ∷ parts) = pos p.1 *ℤ H p.0 +ℤ weighed H parts

nothing_first : (f s : ℤ) → s ≡ pos 0 *ℤ f +ℤ s
nothing_first f s = nothing s ∙ ap (λ (x : ℤ). x +ℤ s) (sym (zero-mul f))
  where
    nothing : (x : ℤ) → x ≡ pos 0 +ℤ x
    nothing x = omega (arith, ints)

-- a sum over the parts, each as often as its count says, is the same sum over the rows
pub weighed_by_rows : (c : Chain) (t : BasisNumbers) (H : List ℕ → ℤ) (F : ℕ → ℤ) (n i : ℕ) (items : List (Option (List ℕ))) (parts : List Part) (counts : List ℕ) → ArePartsFrom c t i items parts → AreCounts n parts counts
    → ((k : ℕ) (walk : List ℕ) → k < length items → get_or items k None ≡ Some walk → F k ≡ H walk)
    → weighed H (counted parts counts) ≡ sum_below (λ k. times items counts k *ℤ F k) (length items)
weighed_by_rows c t H F n i [] [] counts are those same = refl
weighed_by_rows c t H F n i [] (p ∷ parts) counts are those same = absurd are
weighed_by_rows c t H F n i (None ∷ items) parts counts are those same =
    weighed_by_rows c t H (λ k. F (suc k)) n (suc i) items parts counts are those (λ k walk inside at. same (suc k) walk (omega arith) at)
    ∙ nothing_first (F 0) _
    ∙ sym (sum_first (λ k. times (None ∷ items) counts k *ℤ F k) (length items))
weighed_by_rows c t H F n i (Some walk ∷ items) [] counts are those same = absurd are
weighed_by_rows c t H F n i (Some walk ∷ items) (p ∷ parts) [] are those same = absurd those
weighed_by_rows c t H F n i (Some walk ∷ items) (p ∷ parts) (m ∷ counts) are those same =
    ap₂ (λ (x y : ℤ). pos m *ℤ x +ℤ y) (ap H are.0 ∙ sym (same 0 walk (omega arith) refl))
    (weighed_by_rows c t H (λ k. F (suc k)) n (suc i) items parts counts are.2 those.1 (λ k w inside at. same (suc k) w (omega arith) at))
    ∙ sym (sum_first (λ k. times (Some walk ∷ items) (m ∷ counts) k *ℤ F k) (length items))

-- the column of parts is such a sum
pub column_weighed : (c : Chain) (parts : Parts) (k : ℕ) → parts_column c parts k ≡ weighed (λ walk. column c walk k) parts
column_weighed c [] k = refl
column_weighed c (p ∷ parts) k = ap (λ (x : ℤ). pos p.1 *ℤ column c p.0 k +ℤ x) (column_weighed c parts k)

-- and so is how many polygons there are
pub sum_weighed : (n : ℕ) (parts : List Part) (counts : List ℕ) → AreCounts n parts counts → weighed (λ walk. pos 1) (counted parts counts) ≡ pos (sum counts)
sum_weighed n [] [] those = refl
sum_weighed n [] (m ∷ counts) those = absurd those
sum_weighed n (p ∷ parts) [] those = absurd those
sum_weighed n (p ∷ parts) (m ∷ counts) those =
    ap₂ (λ (x y : ℤ). x +ℤ y) (mul-one (pos m)) (sum_weighed n parts counts those.1)
    ∙ sym (ap pos (sum_by-cons (λ (k : ℕ). k) m counts) ∙ pos-add m (sum counts))
