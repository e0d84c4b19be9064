-- The polygons of a balanced chain whose columns sum to the right side.
use Rattle.std.proofs.Common.{◌≡◌, ℕ, zero, suc, ◌<◌, List, [], ◌∷◌, ◌++◌, slice_get, Some, replicate, ℤ, pos, ◌+ℤ◌, ◌*ℤ◌, refl, sym, ap, ap₂, subst, ◌∙◌, arith}
use Rattle.std.specs.List.{AllByRecursion}
use Rattle.std.proofs.lemmas.Int.{ints}
use Rattle.sc_algebra.proofs.Ints.{zero-mul, one-mul, suc-mul}
use Rattle.sc_theory.specs.Chains.{Chain}
use Rattle.sc_theory.specs.Walks.{IsPolygon}
use Rattle.sc_theory.specs.Columns.{rows, column, right_side}
use Rattle.sc_gluing.specs.Cycles.{Parts}
use Rattle.sc_gluing.specs.Gluing.{parts_column, AreBalanced}
use Rattle.sc_basis.specs.Bases.{Column as Entries, entry_of}
use Rattle.sc_basis.specs.Values.{sum_of}
use Rattle.sc_simplex.specs.Optima.{IsSumOfColumns}
use Rattle.sc_solve.specs.PolygonColumns.{column_entries, IsPolygonColumn}
use Rattle.sc_solve.specs.EntryLaws.{entry_is}

-- as many copies of the column of each polygon as the polygon has
columns_of : Chain → Parts → List Entries
columns_of c [] = []
columns_of c (p ∷ parts) = replicate p.1 (column_entries c p.0) ++ columns_of c parts

nothing_before : (a : ℤ) → a ≡ pos 0 +ℤ a
nothing_before a = omega (arith, ints)

grouped : (a b c : ℤ) → a +ℤ (b +ℤ c) ≡ (a +ℤ b) +ℤ c
grouped a b c = omega (arith, ints)

sum_of-append : (xs ys : List Entries) (k : ℕ) → sum_of (xs ++ ys) k ≡ sum_of xs k +ℤ sum_of ys k
sum_of-append [] ys k = nothing_before (sum_of ys k)
sum_of-append (x ∷ xs) ys k = ap (λ (z : ℤ). entry_of x k +ℤ z) (sum_of-append xs ys k) ∙ grouped (entry_of x k) (sum_of xs k) (sum_of ys k)

turned : (a b : ℤ) → a +ℤ b ≡ b +ℤ a
turned a b = omega (arith, ints)

sum_of-replicate : (n : ℕ) (x : Entries) (k : ℕ) → sum_of (replicate n x) k ≡ pos n *ℤ entry_of x k
sum_of-replicate zero x k = sym (zero-mul (entry_of x k))
sum_of-replicate (suc n) x k = ap (λ (z : ℤ). entry_of x k +ℤ z) (sum_of-replicate n x k) ∙ turned (entry_of x k) (pos n *ℤ entry_of x k) ∙ sym (suc-mul n (entry_of x k))

columns_sum : (c : Chain) (parts : Parts) (k : ℕ) → k < rows c → sum_of (columns_of c parts) k ≡ parts_column c parts k
unfolding columns_of
columns_sum c [] k inside = refl
columns_sum c (p ∷ parts) k inside =
    sum_of-append (replicate p.1 (column_entries c p.0)) (columns_of c parts) k
    ∙ ap₂ (λ (x y : ℤ). x +ℤ y)
    (sum_of-replicate p.1 (column_entries c p.0) k ∙ ap (λ (z : ℤ). pos p.1 *ℤ z) (entry_is (column c p.0) (rows c) k inside))
    (columns_sum c parts k inside)

abbrev HasKey : Chain → Entries → Type 0
HasKey c entries = (key : List ℕ) × IsPolygonColumn c key entries

all-append : (P : Entries → Type 0) (xs ys : List Entries) → AllByRecursion P xs → AllByRecursion P ys → AllByRecursion P (xs ++ ys)
all-append P [] ys all also = also
all-append P (x ∷ xs) ys all also = (all.0, all-append P xs ys all.1 also)

all-replicate : (P : Entries → Type 0) (n : ℕ) (x : Entries) → P x → AllByRecursion P (replicate n x)
all-replicate P zero x is = tt
all-replicate P (suc n) x is = (is, all-replicate P n x is)

all_columns : (c : Chain) (parts : Parts) → AllByRecursion (λ p. IsPolygon c p.0) parts → AllByRecursion (HasKey c) (columns_of c parts)
unfolding columns_of
all_columns c [] all = tt
all_columns c (p ∷ parts) all =
    all-append (HasKey c) (replicate p.1 (column_entries c p.0)) (columns_of c parts)
    (all-replicate (HasKey c) p.1 (column_entries c p.0) (p.0, record { polygon = all.0; entries_are = refl }))
    (all_columns c parts all.1)

some_is : (x y : Entries) → Some x ≡ Some y → x ≡ y
some_is x y e = cc

each : (P : Entries → Type 0) (xs : List Entries) (j : ℕ) (x : Entries) → AllByRecursion P xs → slice_get xs j ≡ Some x → P x
each P [] j x all e = absurd (cc)
each P (y ∷ xs) zero x all e = subst P (some_is y x e) all.0
each P (y ∷ xs) (suc j) x all e = each P xs j x all.1 e

-- parts that balance over one copy have polygons whose columns sum to the right side
pub feasible : (c : Chain) (parts : Parts) (b : ℕ → ℤ) → AreBalanced c 1 parts → ((k : ℕ) → k < rows c → b k ≡ right_side c k) → IsSumOfColumns (IsPolygonColumn c) (rows c) b
feasible c parts b balanced same = record {
  columns = columns_of c parts;
  are_columns = λ j x e. each (HasKey c) (columns_of c parts) j x (all_columns c parts balanced.polygons) e;
  sum = λ k inside. columns_sum c parts k inside ∙ balanced.sums k inside ∙ one-mul (right_side c k) ∙ sym (same k inside);
}
