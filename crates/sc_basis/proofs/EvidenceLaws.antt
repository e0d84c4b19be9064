-- The operands at a place are fixed by the journal, the column and the row.
use Rattle.std.specs.Prelude.{◌≡◌, ℕ, ◌<◌, Option, ℤ, pos, ◌-ℤ◌, ◌*ℤ◌, ◌<ℤ◌}
use Rattle.std.proofs.Common.{arith, refl, sym, ap, ap₂, subst, ◌∙◌}
use Rattle.std.proofs.Math.Path.{subst₂}
use Rattle.sc_basis.specs.Products.{dot, IsNonNegative}
use Rattle.sc_basis.specs.Bases.{Column, entry_of, unit_basis}
use Rattle.sc_basis.specs.Standing.{BasisNumbers, AreSameNumbers}
use Rattle.sc_basis.specs.Pivots.{along, gap, IsRatio}
use Rattle.sc_basis.specs.Journals.{Journal, basis_after}
use Rattle.sc_basis.specs.Evidence.{PriceLevel, bulk_level, fine_level, prices_at, scale_at, column_cost, Place, along_product, along_sum, value_product, value_sum, row_left, row_right, row_difference, row_scale, gap_product, gap_sum, gap_difference, price_left, price_right, price_sum, price_scale, NewLeft, RowStep, PriceStep, Operands, column_or_none, row_or_first, IsEvidence}
use Rattle.sc_basis.proofs.Numbers.{pos_of_mul}
use Rattle.sc_basis.proofs.ProductLaws.{dot-congr}
use Rattle.sc_basis.proofs.Pivoting.{reduced_same}
use Rattle.sc_basis.proofs.JournalLaws.{journal_reached, standing_unique}
use Rattle.sc_basis.proofs.SameNumbers.{along_same}
use Rattle.sc_basis.proofs.Ratios.{reduced_unique, ratio_unique}

prices_same : (r : ℕ) (t t' : BasisNumbers) (level : PriceLevel) (k : ℕ) → AreSameNumbers r t t' → k < r → prices_at t level k ≡ prices_at t' level k
prices_same r t t' bulk_level k same inside = same.bulk k inside
prices_same r t t' fine_level k same inside = same.fine k inside

scale_same : (r : ℕ) (t t' : BasisNumbers) (level : PriceLevel) → AreSameNumbers r t t' → scale_at t level ≡ scale_at t' level
scale_same r t t' bulk_level same = same.bulk_scale
scale_same r t t' fine_level same = same.fine_scale

price_same : (r : ℕ) (t t' : BasisNumbers) (level : PriceLevel) (c : Column) → AreSameNumbers r t t' → dot r (prices_at t level) (entry_of c) ≡ dot r (prices_at t' level) (entry_of c)
price_same r t t' level c same = dot-congr r (prices_at t level) (prices_at t' level) (entry_of c) (entry_of c) (λ k l. prices_same r t t' level k same l) (λ k l. refl)

gap_same : (r : ℕ) (t t' : BasisNumbers) (level : PriceLevel) (c : Column) → AreSameNumbers r t t' → gap r (prices_at t level) (scale_at t level) (column_cost level) c ≡ gap r (prices_at t' level) (scale_at t' level) (column_cost level) c
gap_same r t t' level c same = ap₂ (λ (x y : ℤ). x *ℤ column_cost level -ℤ y) (scale_same r t t' level same) (price_same r t t' level c same)

-- the sum before an index
row_before : (r : ℕ) (t t' : BasisNumbers) (y : ℕ → ℤ) (i k : ℕ) → AreSameNumbers r t t' → i < r → k < r → dot k (t.row i) y ≡ dot k (t'.row i) y
row_before r t t' y i k same inside l = dot-congr k (t.row i) (t'.row i) y y (λ j m. same.rows i j inside (omega arith)) (λ j m. refl)

price_before : (r : ℕ) (t t' : BasisNumbers) (level : PriceLevel) (y : ℕ → ℤ) (k : ℕ) → AreSameNumbers r t t' → k < r → dot k (prices_at t level) y ≡ dot k (prices_at t' level) y
price_before r t t' level y k same l = dot-congr k (prices_at t level) (prices_at t' level) y y (λ j m. prices_same r t t' level j same (omega arith)) (λ j m. refl)

-- the new leaving row
left_same : (r : ℕ) (t t' : BasisNumbers) (c : Column) (l : ℕ) (left : NewLeft r t c l) (left' : NewLeft r t' c l) → AreSameNumbers r t t' → l < r → pos 0 <ℤ along r t c l → (left.scale ≡ left'.scale) × ((k : ℕ) → k < r → left.entries k ≡ left'.entries k)
left_same r t t' c l left left' same inside positive =
    reduced_unique r left.entries left.scale left'.entries left'.scale (t'.row l) (along r t' c l) (subst (λ (z : ℤ). pos 0 <ℤ z) (along_same r t t' c l same inside) positive)
    (reduced_same r left.entries left.scale (t.row l) (t'.row l) (along r t c l) (along r t' c l) (λ k m. same.rows l k inside m) (along_same r t t' c l same inside) left.reduced)
    left'.reduced

left_positive : (r : ℕ) (t : BasisNumbers) (c : Column) (l : ℕ) (left : NewLeft r t c l) → pos 0 <ℤ along r t c l → pos 0 <ℤ left.scale
left_positive r t c l left positive =
    pos_of_mul left.reduced.factor left.scale left.reduced.positive (subst (λ (z : ℤ). pos 0 <ℤ z) (sym left.reduced.scale) positive)

row_ratio : (r : ℕ) (b : ℕ → ℤ) (t t' : BasisNumbers) (c : Column) (l i : ℕ) (s : RowStep r b t c l i) (s' : RowStep r b t' c l i) → AreSameNumbers r t t' → (s.p ≡ s'.p) × (s.q ≡ s'.q)
row_ratio r b t t' c l i s s' same =
    ratio_unique s'.left.scale (along r t' c i) s.p s.q s'.p s'.q (left_positive r t' c l s'.left s'.leaves.positive)
    (subst₂ (λ (m a : ℤ). IsRatio m a s.p s.q) (left_same r t t' c l s.left s'.left same s.leaves.inside s.leaves.positive).0 (along_same r t t' c i same s.inside) s.ratio)
    s'.ratio

price_ratio : (r : ℕ) (b : ℕ → ℤ) (t t' : BasisNumbers) (c : Column) (l : ℕ) (level : PriceLevel) (s : PriceStep r b t c l level) (s' : PriceStep r b t' c l level) → AreSameNumbers r t t' → (s.p ≡ s'.p) × (s.q ≡ s'.q)
price_ratio r b t t' c l level s s' same =
    ratio_unique s'.left.scale (gap r (prices_at t' level) (scale_at t' level) (column_cost level) c) s.p s.q s'.p s'.q (left_positive r t' c l s'.left s'.leaves.positive)
    (subst₂ (λ (m a : ℤ). IsRatio m a s.p s.q) (left_same r t t' c l s.left s'.left same s.leaves.inside s.leaves.positive).0 (gap_same r t t' level c same) s.ratio)
    s'.ratio

operands_same : (r : ℕ) (b : ℕ → ℤ) (t t' : BasisNumbers) (c : Column) (l : ℕ) (place : Place) (x y x' y' : ℤ) → AreSameNumbers r t t' → Operands r b t c l place x y → Operands r b t' c l place x' y' → (x ≡ x') × (y ≡ y')
operands_same r b t t' c l (along_product i k) x y x' y' same (improves, i_inside, k_inside, x_is, y_is) (improves', i_inside', k_inside', x_is', y_is') =
    (x_is ∙ same.rows i k i_inside k_inside ∙ sym x_is', y_is ∙ sym y_is')
operands_same r b t t' c l (along_sum i k) x y x' y' same (improves, i_inside, k_inside, x_is, y_is) (improves', i_inside', k_inside', x_is', y_is') =
    (x_is ∙ row_before r t t' (entry_of c) i k same i_inside k_inside ∙ sym x_is', y_is ∙ ap (λ (z : ℤ). z *ℤ entry_of c k) (same.rows i k i_inside k_inside) ∙ sym y_is')
operands_same r b t t' c l (value_product i k) x y x' y' same (i_inside, k_inside, x_is, y_is) (i_inside', k_inside', x_is', y_is') =
    (x_is ∙ same.rows i k i_inside k_inside ∙ sym x_is', y_is ∙ sym y_is')
operands_same r b t t' c l (value_sum i k) x y x' y' same (i_inside, k_inside, x_is, y_is) (i_inside', k_inside', x_is', y_is') =
    (x_is ∙ row_before r t t' b i k same i_inside k_inside ∙ sym x_is', y_is ∙ ap (λ (z : ℤ). z *ℤ b k) (same.rows i k i_inside k_inside) ∙ sym y_is')
operands_same r b t t' c l (row_left i k) x y x' y' same (s, k_inside, x_is, y_is) (s', k_inside', x_is', y_is') =
    (x_is ∙ same.rows i k s.inside k_inside ∙ sym x_is', y_is ∙ (row_ratio r b t t' c l i s s' same).0 ∙ sym y_is')
operands_same r b t t' c l (row_right i k) x y x' y' same (s, k_inside, x_is, y_is) (s', k_inside', x_is', y_is') =
    (x_is ∙ (row_ratio r b t t' c l i s s' same).1 ∙ sym x_is', y_is ∙ (left_same r t t' c l s.left s'.left same s.leaves.inside s.leaves.positive).1 k k_inside ∙ sym y_is')
operands_same r b t t' c l (row_difference i k) x y x' y' same (s, k_inside, x_is, y_is) (s', k_inside', x_is', y_is') = (
  x_is ∙ ap₂ (λ (u v : ℤ). u *ℤ v) (same.rows i k s.inside k_inside) (row_ratio r b t t' c l i s s' same).0 ∙ sym x_is',
  y_is ∙ ap₂ (λ (u v : ℤ). u *ℤ v) (row_ratio r b t t' c l i s s' same).1 ((left_same r t t' c l s.left s'.left same s.leaves.inside s.leaves.positive).1 k k_inside) ∙ sym y_is',
)
operands_same r b t t' c l (row_scale i) x y x' y' same (s, x_is, y_is) (s', x_is', y_is') =
    (x_is ∙ same.denominators i s.inside ∙ sym x_is', y_is ∙ (row_ratio r b t t' c l i s s' same).0 ∙ sym y_is')
operands_same r b t t' c l (gap_product level k) x y x' y' same (improves, k_inside, x_is, y_is) (improves', k_inside', x_is', y_is') =
    (x_is ∙ prices_same r t t' level k same k_inside ∙ sym x_is', y_is ∙ sym y_is')
operands_same r b t t' c l (gap_sum level k) x y x' y' same (improves, k_inside, x_is, y_is) (improves', k_inside', x_is', y_is') =
    (x_is ∙ price_before r t t' level (entry_of c) k same k_inside ∙ sym x_is', y_is ∙ ap (λ (z : ℤ). z *ℤ entry_of c k) (prices_same r t t' level k same k_inside) ∙ sym y_is')
operands_same r b t t' c l (gap_difference level) x y x' y' same (improves, x_is, y_is) (improves', x_is', y_is') =
    (x_is ∙ ap (λ (z : ℤ). z *ℤ column_cost level) (scale_same r t t' level same) ∙ sym x_is', y_is ∙ price_same r t t' level c same ∙ sym y_is')
operands_same r b t t' c l (price_left level k) x y x' y' same (s, k_inside, x_is, y_is) (s', k_inside', x_is', y_is') =
    (x_is ∙ prices_same r t t' level k same k_inside ∙ sym x_is', y_is ∙ (price_ratio r b t t' c l level s s' same).0 ∙ sym y_is')
operands_same r b t t' c l (price_right level k) x y x' y' same (s, k_inside, x_is, y_is) (s', k_inside', x_is', y_is') =
    (x_is ∙ (price_ratio r b t t' c l level s s' same).1 ∙ sym x_is', y_is ∙ (left_same r t t' c l s.left s'.left same s.leaves.inside s.leaves.positive).1 k k_inside ∙ sym y_is')
operands_same r b t t' c l (price_sum level k) x y x' y' same (s, k_inside, x_is, y_is) (s', k_inside', x_is', y_is') = (
  x_is ∙ ap₂ (λ (u v : ℤ). u *ℤ v) (prices_same r t t' level k same k_inside) (price_ratio r b t t' c l level s s' same).0 ∙ sym x_is',
  y_is ∙ ap₂ (λ (u v : ℤ). u *ℤ v) (price_ratio r b t t' c l level s s' same).1 ((left_same r t t' c l s.left s'.left same s.leaves.inside s.leaves.positive).1 k k_inside) ∙ sym y_is',
)
operands_same r b t t' c l (price_scale level) x y x' y' same (s, x_is, y_is) (s', x_is', y_is') =
    (x_is ∙ scale_same r t t' level same ∙ sym x_is', y_is ∙ (price_ratio r b t t' c l level s s' same).0 ∙ sym y_is')

-- all evidence of a place after a journal, by the same column and row, tells the same two operands
pub evidence_unique : (r : ℕ) (b : ℕ → ℤ) (ps : Journal) (place : Place) (entering : Option Column) (leaving : Option ℕ) (x y x' y' : ℤ) → IsNonNegative r b → IsEvidence r b ps place entering leaving x y → IsEvidence r b ps place entering leaving x' y' → (x ≡ x') × (y ≡ y')
evidence_unique r b ps place entering leaving x y x' y' not_negative first second =
    operands_same r b first.numbers second.numbers (column_or_none entering) (row_or_first leaving) place x y x' y'
    (standing_unique r b (basis_after (unit_basis r) ps) first.numbers second.numbers (journal_reached r b ps not_negative first.lawful) first.stands second.stands)
    first.operands
    second.operands
