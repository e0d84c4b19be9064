-- Optimal bases, the values of their items, and the rise value.
use Rattle.std.specs.Prelude.{◌≡◌, ◌⊎◌, ℕ, suc, ◌<◌, List, [], ◌∷◌, ℤ, pos, ◌+ℤ◌, ◌*ℤ◌}
use Rattle.sc_basis.specs.Products.{dot}
use Rattle.sc_basis.specs.Bases.{Column, entry_of}
use Rattle.sc_basis.specs.Standing.{BasisNumbers}
use Rattle.sc_basis.specs.Lines.{LexLess, line}

-- the value of the item i is this number over the row's denominator
abbrev pub value : ℕ → (ℕ → ℤ) → BasisNumbers → ℕ → ℤ
value r b t i = dot r (t.row i) b

-- y i is n times the value of the item i
abbrev pub AreMultiples : ℕ → (ℕ → ℤ) → BasisNumbers → ℤ → (ℕ → ℤ) → Type 0
AreMultiples r b t n y = (i : ℕ) → i < r → t.denominator i *ℤ y i ≡ n *ℤ value r b t i

-- the sum of the entries k of some columns
abbrev pub sum_of : List Column → ℕ → ℤ
sum_of [] k = pos 0
sum_of (c ∷ cs) k = entry_of c k +ℤ sum_of cs k

-- the columns sum to b
abbrev pub SumTo : ℕ → List Column → (ℕ → ℤ) → Type 0
SumTo r cs b = (k : ℕ) → k < r → sum_of cs k ≡ b k

-- v over d against w over e, entry by entry: the product with b, then the entries
abbrev pub SameLine : ℕ → (ℕ → ℤ) → (ℕ → ℤ) → ℤ → (ℕ → ℤ) → ℤ → Type 0
SameLine r b v d w e = (k : ℕ) → k < suc r → e *ℤ line r b v k ≡ d *ℤ line r b w k

abbrev pub LesserLine : ℕ → (ℕ → ℤ) → (ℕ → ℤ) → ℤ → (ℕ → ℤ) → ℤ → Type 0
LesserLine r b v d w e = LexLess (suc r) (λ k. e *ℤ line r b v k) (λ k. d *ℤ line r b w k)

-- the rise value of t' is above that of t. The rise value is the bulk prices' product with b and then the
-- prices, over their scale, followed by the same of the fine prices, and is compared entry by entry
abbrev pub Rises : ℕ → (ℕ → ℤ) → BasisNumbers → BasisNumbers → Type 0
Rises r b t t' =
    LesserLine r b t.bulk t.bulk_scale t'.bulk t'.bulk_scale
    ⊎ (SameLine r b t.bulk t.bulk_scale t'.bulk t'.bulk_scale × LesserLine r b t.fine t.fine_scale t'.fine t'.fine_scale)
