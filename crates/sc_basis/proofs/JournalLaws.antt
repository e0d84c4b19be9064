-- Lawful journals keep the inverse, and keep the list of each row of the inverse above 0.
use Rattle.std.specs.Prelude.{◌≡◌, ◌≢◌, ℕ, zero, suc, ◌<◌, [], ◌∷◌, ◌++◌, None, ℤ, pos, ◌+ℤ◌, ◌-ℤ◌, ◌*ℤ◌, ◌≤ℤ◌, ◌<ℤ◌}
use Rattle.std.proofs.Common.{arith, refl, sym, ap, ap₂, subst, ◌∙◌, inl, inr}
use Rattle.std.proofs.lemmas.Int.{ints}
use Rattle.std.proofs.lemmas.Bool.{cases_eq, cases_order}
use Rattle.std.proofs.lemmas.List.{length-replicate}
use Rattle.sc_algebra.proofs.Ints.{products, mul-one, mul-zero, mul_comm}
use Rattle.sc_basis.specs.Products.{dot, unit, IsNonNegative}
use Rattle.sc_basis.specs.Bases.{Column, entry_of, Basis, unit_basis, columns, bulk_costs, fine_costs}
use Rattle.sc_basis.specs.Standing.{Gives, BasisNumbers, Stands, AreSameNumbers}
use Rattle.sc_basis.specs.Lines.{LexLess, line, IsAbove}
use Rattle.sc_basis.specs.Pivots.{along, IsLeaving, Pivot, IsLawful, after_pivot}
use Rattle.sc_basis.specs.Journals.{Journal, LawfulFrom, IsJournal, basis_after, Inverse, IsReached}
use Rattle.sc_basis.proofs.Numbers.{mul_pos, pos_of_mul}
use Rattle.sc_basis.proofs.ProductLaws.{unit_same, unit_other, dot-turned, dot-unit, dot-combine}
use Rattle.sc_basis.proofs.Replacing.{IsReplaced, replaced, length-after}
use Rattle.sc_basis.proofs.LexOrder.{cases_positive, lex_map, lex_scale, lex_unscale}
use Rattle.sc_basis.proofs.InverseLaws.{inverse_start, inverse_start_row, row_after, inverse_after, inverse_after_row, row_determined, line_determined, unique}

-- ---- lists above 0
vanishes : (p q x y : ℤ) → pos 0 ≡ x → pos 0 ≡ y → pos 0 ≡ p *ℤ x +ℤ q *ℤ y
vanishes p q x y first second =
    (let e : pos 0 ≡ p *ℤ pos 0 +ℤ q *ℤ pos 0 = omega (arith, ints) in e) ∙ ap₂ (λ (s t : ℤ). p *ℤ s +ℤ q *ℤ t) first second

first_alone : (p q x y : ℤ) → pos 0 <ℤ p → pos 0 <ℤ x → q *ℤ y ≡ pos 0 → pos 0 <ℤ (p *ℤ x +ℤ q *ℤ y)
first_alone p q x y a b e = let h : pos 0 <ℤ (p *ℤ x) = mul_pos p x a b in omega (arith, ints)

both_positive : (p q x y : ℤ) → pos 0 <ℤ p → pos 0 <ℤ q → pos 0 <ℤ x → pos 0 <ℤ y → pos 0 <ℤ (p *ℤ x +ℤ q *ℤ y)
both_positive p q x y a b c d =
    let h : pos 0 <ℤ (p *ℤ x) = mul_pos p x a c in
    let k : pos 0 <ℤ (q *ℤ y) = mul_pos q y b d in
    omega (arith, ints)

no_product : (q y : ℤ) → pos 0 ≡ y → q *ℤ y ≡ pos 0
no_product q y e = ap (λ (t : ℤ). q *ℤ t) (sym e) ∙ mul-zero q

second_alone : (p q x y : ℤ) → pos 0 <ℤ q → pos 0 <ℤ y → pos 0 ≡ x → pos 0 <ℤ (p *ℤ x +ℤ q *ℤ y)
second_alone p q x y a b e =
    let h : pos 0 <ℤ (q *ℤ y) = mul_pos q y a b in
    let k : p *ℤ x ≡ pos 0 = no_product p x e in
    omega (arith, ints)

above_both : (r : ℕ) (p q : ℤ) (f g : ℕ → ℤ) → pos 0 <ℤ p → pos 0 <ℤ q → IsAbove r f → IsAbove r g → IsAbove r (λ k. p *ℤ f k +ℤ q *ℤ g k)
above_both r p q f g p_positive q_positive (k, k_inside, k_same, k_less) (m, m_inside, m_same, m_less) =
    elim (cases_order k m) [
      | inl e ↦ (k, k_inside, (λ j l. vanishes p q (f j) (g j) (k_same j l) (m_same j (omega arith))), both_positive p q (f k) (g k) p_positive q_positive k_less (subst (λ (i : ℕ). pos 0 <ℤ g i) (sym e) m_less))
      | inr (inl l) ↦ (k, k_inside, (λ j h. vanishes p q (f j) (g j) (k_same j h) (m_same j (omega arith))), first_alone p q (f k) (g k) p_positive k_less (no_product q (g k) (m_same k l)))
      | inr (inr l) ↦ (m, m_inside, (λ j h. vanishes p q (f j) (g j) (k_same j (omega arith)) (m_same j h)), second_alone p q (f m) (g m) q_positive m_less (k_same m l))
    ]

above_first : (r : ℕ) (p q : ℤ) (f g : ℕ → ℤ) → pos 0 <ℤ p → q ≡ pos 0 → IsAbove r f → IsAbove r (λ k. p *ℤ f k +ℤ q *ℤ g k)
above_first r p q f g p_positive none (k, inside, same, less) =
    (k, inside, (λ j l. zero_at j (same j l)), first_alone p q (f k) (g k) p_positive less (no_second k))
  where
    no_second : (j : ℕ) → q *ℤ g j ≡ pos 0
    no_second j = ap (λ (t : ℤ). t *ℤ g j) none ∙ (let e : pos 0 *ℤ g j ≡ pos 0 = omega (arith, ints) in e)

    zero_at : (j : ℕ) → pos 0 ≡ f j → pos 0 ≡ p *ℤ f j +ℤ q *ℤ g j
    zero_at j e = let h : p *ℤ f j ≡ pos 0 = no_product p (f j) e in let k : q *ℤ g j ≡ pos 0 = no_second j in omega (arith, ints)

above_combined : (r : ℕ) (p q : ℤ) (f g : ℕ → ℤ) → pos 0 <ℤ p → pos 0 ≤ℤ q → IsAbove r f → IsAbove r g → IsAbove r (λ k. p *ℤ f k +ℤ q *ℤ g k)
above_combined r p q f g p_positive not_negative first second =
    elim (cases_positive q) [
      | inl q_positive ↦ above_both r p q f g p_positive q_positive first second
      | inr q_none ↦ above_first r p q f g p_positive (let e : q ≡ pos 0 = omega (arith, ints) in e) first
    ]

-- a list is above 0 exactly where a positive multiple of it is
pub above_scaled : (r : ℕ) (z : ℤ) (f g : ℕ → ℤ) → pos 0 <ℤ z → ((k : ℕ) → k < suc r → z *ℤ f k ≡ g k) → IsAbove r f → IsAbove r g
above_scaled r z f g p e above =
    lex_map (suc r) (λ k. z *ℤ pos 0) (λ k. z *ℤ f k) (λ k. pos 0) g (λ k l. mul-zero z) e (lex_scale (suc r) z (λ k. pos 0) f p above)

pub above_unscaled : (r : ℕ) (z : ℤ) (f g : ℕ → ℤ) → pos 0 <ℤ z → ((k : ℕ) → k < suc r → z *ℤ f k ≡ g k) → IsAbove r g → IsAbove r f
above_unscaled r z f g p e above =
    lex_unscale (suc r) z (λ k. pos 0) f p (lex_map (suc r) (λ k. pos 0) g (λ k. z *ℤ pos 0) (λ k. z *ℤ f k) (λ k l. sym (mul-zero z)) (λ k l. sym (e k l)) above)

above_difference : (r : ℕ) (f g h : ℕ → ℤ) → ((k : ℕ) → h k ≡ g k -ℤ f k) → LexLess (suc r) f g → IsAbove r h
above_difference r f g h e (k, inside, same, less) =
    (k, inside, (λ j l. let d : h j ≡ g j -ℤ f j = e j in let s : f j ≡ g j = same j l in omega (arith, ints)), (let d : h k ≡ g k -ℤ f k = e k in omega (arith, ints)))

line-combined : (r : ℕ) (b : ℕ → ℤ) (p q : ℤ) (x y : ℕ → ℤ) (k : ℕ) → line r b (λ j. p *ℤ x j +ℤ q *ℤ y j) k ≡ p *ℤ line r b x k +ℤ q *ℤ line r b y k
line-combined r b p q x y zero = dot-combine r p q x y b
line-combined r b p q x y (suc k) = refl

-- ---- one pivot
-- crosswise products of what is in proportion
crossed : (q s t d a e m : ℤ) → q *ℤ s ≡ d *ℤ a → q *ℤ t ≡ e *ℤ m → q *ℤ (q *ℤ (s *ℤ t)) ≡ (d *ℤ e) *ℤ (a *ℤ m)
crossed q s t d a e m first second =
    (let h : q *ℤ (q *ℤ (s *ℤ t)) ≡ (q *ℤ s) *ℤ (q *ℤ t) = simp products (omega (arith, ints)) in h)
    ∙ ap₂ (λ (x y : ℤ). x *ℤ y) first second
    ∙ (let h : (d *ℤ a) *ℤ (e *ℤ m) ≡ (d *ℤ e) *ℤ (a *ℤ m) = simp products (omega (arith, ints)) in h)

-- the leaving row is the least of the inverse's rows too
least_of_inverse : (r : ℕ) (b : ℕ → ℤ) (column : ℕ → ℕ → ℤ) (inv : Inverse r column) (t : BasisNumbers) (c : Column) (l i : ℕ) → ((j : ℕ) → j < r → Gives r column (unit j) (t.row j) (t.denominator j)) → IsLeaving r b t c l → i < r → i ≢ l → pos 0 <ℤ dot r (inv.row i) (entry_of c) → LexLess (suc r) (λ k. dot r (inv.row i) (entry_of c) *ℤ line r b (inv.row l) k) (λ k. dot r (inv.row l) (entry_of c) *ℤ line r b (inv.row i) k)
least_of_inverse r b column inv t c l i rows leaves inside apart positive =
    lex_unscale (suc r) (t.denominator i *ℤ t.denominator l) (λ k. dot r (inv.row i) (entry_of c) *ℤ line r b (inv.row l) k) (λ k. dot r (inv.row l) (entry_of c) *ℤ line r b (inv.row i) k)
    (mul_pos (t.denominator i) (t.denominator l) (rows i inside).positive (rows l leaves.inside).positive)
    (lex_map (suc r)
    (λ k. inv.scale *ℤ (inv.scale *ℤ (along r t c i *ℤ line r b (t.row l) k)))
    (λ k. inv.scale *ℤ (inv.scale *ℤ (along r t c l *ℤ line r b (t.row i) k)))
    (λ k. (t.denominator i *ℤ t.denominator l) *ℤ (dot r (inv.row i) (entry_of c) *ℤ line r b (inv.row l) k))
    (λ k. (t.denominator i *ℤ t.denominator l) *ℤ (dot r (inv.row l) (entry_of c) *ℤ line r b (inv.row i) k))
    (λ k m. crossed inv.scale (along r t c i) (line r b (t.row l) k) (t.denominator i) (dot r (inv.row i) (entry_of c)) (t.denominator l) (line r b (inv.row l) k) (product_is i inside) (line_is l leaves.inside k m))
    (λ k m. crossed inv.scale (along r t c l) (line r b (t.row i) k) (t.denominator l) (dot r (inv.row l) (entry_of c)) (t.denominator i) (line r b (inv.row i) k) (product_is l leaves.inside) (line_is i inside k m)
    ∙ ap (λ (z : ℤ). z *ℤ (dot r (inv.row l) (entry_of c) *ℤ line r b (inv.row i) k)) (mul_comm (t.denominator l) (t.denominator i)))
    (lex_scale (suc r) inv.scale (λ k. inv.scale *ℤ (along r t c i *ℤ line r b (t.row l) k)) (λ k. inv.scale *ℤ (along r t c l *ℤ line r b (t.row i) k)) inv.positive
    (lex_scale (suc r) inv.scale (λ k. along r t c i *ℤ line r b (t.row l) k) (λ k. along r t c l *ℤ line r b (t.row i) k) inv.positive
    (leaves.least i inside apart along_positive))))
  where
    product_is : (j : ℕ) → j < r → inv.scale *ℤ along r t c j ≡ t.denominator j *ℤ dot r (inv.row j) (entry_of c)
    product_is j m = row_determined r column inv j (t.row j) (t.denominator j) m (rows j m) (entry_of c)

    line_is : (j : ℕ) → j < r → (k : ℕ) → k < suc r → inv.scale *ℤ line r b (t.row j) k ≡ t.denominator j *ℤ line r b (inv.row j) k
    line_is j m = line_determined r b column inv j (t.row j) (t.denominator j) m (rows j m)

    along_positive : pos 0 <ℤ along r t c i
    along_positive =
        pos_of_mul inv.scale (along r t c i) inv.positive
        (subst (λ (z : ℤ). pos 0 <ℤ z) (sym (row_determined r column inv i (t.row i) (t.denominator i) inside (rows i inside) (entry_of c)))
        (mul_pos (t.denominator i) (dot r (inv.row i) (entry_of c)) (rows i inside).positive positive))

-- the product of the inverse's leaving row with the column is positive
product_positive : (r : ℕ) (column : ℕ → ℕ → ℤ) (inv : Inverse r column) (l : ℕ) (w : ℕ → ℤ) (d : ℤ) (c : ℕ → ℤ) → l < r → Gives r column (unit l) w d → pos 0 <ℤ dot r w c → pos 0 <ℤ dot r (inv.row l) c
product_positive r column inv l w d c inside g p =
    pos_of_mul d (dot r (inv.row l) c) g.positive
    (subst (λ (z : ℤ). pos 0 <ℤ z) (row_determined r column inv l w d inside g c) (mul_pos inv.scale (dot r w c) inv.positive p))

-- the new rows: the leaving one, and another
own_line : (a q u x : ℤ) → u ≡ pos 1 → q *ℤ x ≡ a *ℤ x +ℤ (q *ℤ u -ℤ a) *ℤ x
own_line a q u x is_one =
    (let h : q *ℤ x ≡ a *ℤ x +ℤ (q -ℤ a) *ℤ x = simp products (omega (arith, ints)) in h)
    ∙ ap (λ (t : ℤ). a *ℤ x +ℤ (t -ℤ a) *ℤ x) (sym (ap (λ (t : ℤ). q *ℤ t) is_one ∙ mul-one q))

other_line : (a q u s x y : ℤ) → u ≡ pos 0 → a *ℤ x +ℤ (q *ℤ u -ℤ s) *ℤ y ≡ a *ℤ x -ℤ s *ℤ y
other_line a q u s x y is_zero =
    ap (λ (t : ℤ). a *ℤ x +ℤ (t -ℤ s) *ℤ y) (ap (λ (t : ℤ). q *ℤ t) is_zero ∙ mul-zero q)
    ∙ (let h : a *ℤ x +ℤ (pos 0 -ℤ s) *ℤ y ≡ a *ℤ x -ℤ s *ℤ y = simp products (omega (arith, ints)) in h)

not_less : (x y : ℤ) → x ≡ pos 0 → y ≤ℤ pos 0 → pos 0 ≤ℤ (x -ℤ y)
not_less x y e h = omega (arith, ints)

line_after : (r : ℕ) (b : ℕ → ℤ) (column : ℕ → ℕ → ℤ) (inv : Inverse r column) (t : BasisNumbers) (c : Column) (l i : ℕ) → ((j : ℕ) → j < r → Gives r column (unit j) (t.row j) (t.denominator j)) → IsLeaving r b t c l → ((j : ℕ) → j < r → IsAbove r (line r b (inv.row j))) → i < r → IsAbove r (line r b (row_after r inv.scale inv.row (entry_of c) l i))
line_after r b column inv t c l i rows leaves above inside =
    lex_map (suc r) (λ k. pos 0) (λ k. dot r (inv.row l) (entry_of c) *ℤ line r b (inv.row i) k +ℤ (inv.scale *ℤ unit i l -ℤ dot r (inv.row i) (entry_of c)) *ℤ line r b (inv.row l) k) (λ k. pos 0) (line r b (row_after r inv.scale inv.row (entry_of c) l i))
    (λ k m. refl)
    (λ k m. sym (line-combined r b (dot r (inv.row l) (entry_of c)) (inv.scale *ℤ unit i l -ℤ dot r (inv.row i) (entry_of c)) (inv.row i) (inv.row l) k))
    (elim (cases_eq i l) [
      | inl e ↦ subst (λ (j : ℕ). IsAbove r (λ k. dot r (inv.row l) (entry_of c) *ℤ line r b (inv.row j) k +ℤ (inv.scale *ℤ unit j l -ℤ dot r (inv.row j) (entry_of c)) *ℤ line r b (inv.row l) k)) (sym e) at_left
      | inr apart ↦ elim (cases_positive (dot r (inv.row i) (entry_of c))) [
        | inl positive ↦ at_positive apart positive
        | inr not_positive ↦ at_other apart not_positive
      ]
    ])
  where
    at_left : IsAbove r (λ k. dot r (inv.row l) (entry_of c) *ℤ line r b (inv.row l) k +ℤ (inv.scale *ℤ unit l l -ℤ dot r (inv.row l) (entry_of c)) *ℤ line r b (inv.row l) k)
    at_left =
        above_scaled r inv.scale (line r b (inv.row l)) (λ k. dot r (inv.row l) (entry_of c) *ℤ line r b (inv.row l) k +ℤ (inv.scale *ℤ unit l l -ℤ dot r (inv.row l) (entry_of c)) *ℤ line r b (inv.row l) k) inv.positive
        (λ k m. own_line (dot r (inv.row l) (entry_of c)) inv.scale (unit l l) (line r b (inv.row l) k) (unit_same l))
        (above l leaves.inside)

    apart_unit : i ≢ l → unit i l ≡ pos 0
    apart_unit apart = unit_other i l (λ (e : l ≡ i). apart (sym e))

    at_positive : i ≢ l → pos 0 <ℤ dot r (inv.row i) (entry_of c) → IsAbove r (λ k. dot r (inv.row l) (entry_of c) *ℤ line r b (inv.row i) k +ℤ (inv.scale *ℤ unit i l -ℤ dot r (inv.row i) (entry_of c)) *ℤ line r b (inv.row l) k)
    at_positive apart positive =
        above_difference r (λ k. dot r (inv.row i) (entry_of c) *ℤ line r b (inv.row l) k) (λ k. dot r (inv.row l) (entry_of c) *ℤ line r b (inv.row i) k) (λ k. dot r (inv.row l) (entry_of c) *ℤ line r b (inv.row i) k +ℤ (inv.scale *ℤ unit i l -ℤ dot r (inv.row i) (entry_of c)) *ℤ line r b (inv.row l) k)
        (λ k. other_line (dot r (inv.row l) (entry_of c)) inv.scale (unit i l) (dot r (inv.row i) (entry_of c)) (line r b (inv.row i) k) (line r b (inv.row l) k) (apart_unit apart))
        (least_of_inverse r b column inv t c l i rows leaves inside apart positive)

    at_other : i ≢ l → dot r (inv.row i) (entry_of c) ≤ℤ pos 0 → IsAbove r (λ k. dot r (inv.row l) (entry_of c) *ℤ line r b (inv.row i) k +ℤ (inv.scale *ℤ unit i l -ℤ dot r (inv.row i) (entry_of c)) *ℤ line r b (inv.row l) k)
    at_other apart not_positive =
        above_combined r (dot r (inv.row l) (entry_of c)) (inv.scale *ℤ unit i l -ℤ dot r (inv.row i) (entry_of c)) (line r b (inv.row i)) (line r b (inv.row l))
        (product_positive r column inv l (t.row l) (t.denominator l) (entry_of c) leaves.inside (rows l leaves.inside) leaves.positive)
        (let e : inv.scale *ℤ unit i l ≡ pos 0 = ap (λ (z : ℤ). inv.scale *ℤ z) (apart_unit apart) ∙ mul-zero inv.scale in not_less (inv.scale *ℤ unit i l) (dot r (inv.row i) (entry_of c)) e not_positive)
        (above i inside)
        (above l leaves.inside)

-- a lawful pivot leads from a basis that is reached to one that is
pub reached_after : (r : ℕ) (b : ℕ → ℤ) (basis : Basis) (p : Pivot) → IsReached r b basis → IsLawful r b basis p → IsReached r b (after_pivot basis p)
reached_after r b basis p reached lawful =
    record {
      size = length-after basis p.0 p.1 ∙ reached.size;
      inverse = inverse_after r (columns basis) (columns (after_pivot basis p)) (entry_of p.1) p.0 reached.inverse lawful.leaves.inside put positive;
      above = λ i m.
          subst (λ (v : ℕ → ℤ). IsAbove r (line r b v)) (sym (inverse_after_row r (columns basis) (columns (after_pivot basis p)) (entry_of p.1) p.0 reached.inverse lawful.leaves.inside put positive i))
          (line_after r b (columns basis) reached.inverse lawful.numbers p.1 p.0 i lawful.stands.rows lawful.leaves reached.above m);
    }
  where
    put : IsReplaced (columns basis) (columns (after_pivot basis p)) (entry_of p.1) p.0
    put = replaced basis p.0 p.1 (subst (λ (n : ℕ). p.0 < n) (sym reached.size) lawful.leaves.inside)

    positive : pos 0 <ℤ dot r (reached.inverse.row p.0) (entry_of p.1)
    positive =
        product_positive r (columns basis) reached.inverse p.0 (lawful.numbers.row p.0) (lawful.numbers.denominator p.0) (entry_of p.1) lawful.leaves.inside
        (lawful.stands.rows p.0 lawful.leaves.inside) lawful.leaves.positive

-- ---- the start
above_unit : (r : ℕ) (b : ℕ → ℤ) (i : ℕ) → i < r → pos 0 ≤ℤ b i → IsAbove r (line r b (unit i))
above_unit r b i inside not_negative =
    elim (cases_positive (b i)) [
      | inl positive ↦ (0, omega arith, (λ j l. absurd (omega arith)), subst (λ (z : ℤ). pos 0 <ℤ z) (sym first) positive)
      | inr none ↦ (suc i, omega arith, zeros (let e : pos 0 ≡ b i = omega (arith, ints) in e ∙ sym first), subst (λ (z : ℤ). pos 0 <ℤ z) (sym (unit_same i)) (let one : pos 0 <ℤ pos 1 = omega (arith, ints) in one))
    ]
  where
    first : dot r (unit i) b ≡ b i
    first = dot-turned r (unit i) b ∙ dot-unit r i b inside

    zeros : pos 0 ≡ dot r (unit i) b → (j : ℕ) → j < suc i → pos 0 ≡ line r b (unit i) j
    zeros e zero l = e
    zeros e (suc j) l = sym (unit_other i j (λ (h : j ≡ i). omega arith))

-- the basis of the unit columns is reached where no entry of the right side is negative
pub reached_start : (r : ℕ) (b : ℕ → ℤ) → IsNonNegative r b → IsReached r b (unit_basis r)
reached_start r b not_negative =
    record {
      size = length-replicate r None;
      inverse = inverse_start r;
      above = λ i l. subst (λ (v : ℕ → ℤ). IsAbove r (line r b v)) (sym (inverse_start_row r i)) (above_unit r b i l (not_negative i l));
    }

-- ---- journals
-- lawful pivots one after another lead from a basis that is reached to one that is
pub reached_from : (r : ℕ) (b : ℕ → ℤ) (basis : Basis) (ps : Journal) → IsReached r b basis → LawfulFrom r b basis ps → IsReached r b (basis_after basis ps)
reached_from r b basis [] reached lawful = reached
reached_from r b basis (p ∷ ps) reached (first, rest) = reached_from r b (after_pivot basis p) ps (reached_after r b basis p reached first) rest

-- the basis that a lawful journal leads to is reached
pub journal_reached : (r : ℕ) (b : ℕ → ℤ) (ps : Journal) → IsNonNegative r b → IsJournal r b ps → IsReached r b (basis_after (unit_basis r) ps)
journal_reached r b ps not_negative lawful = reached_from r b (unit_basis r) ps (reached_start r b not_negative) lawful

-- pivots that are lawful from a basis, and more that are from where they lead, are lawful all together
pub lawful_joined : (r : ℕ) (b : ℕ → ℤ) (basis : Basis) (ps qs : Journal) → LawfulFrom r b basis ps → LawfulFrom r b (basis_after basis ps) qs → LawfulFrom r b basis (ps ++ qs)
lawful_joined r b basis [] qs first second = second
lawful_joined r b basis (p ∷ ps) qs (here, rest) second = (here, lawful_joined r b (after_pivot basis p) ps qs rest second)

-- both parts of a lawful journal are lawful, each from the basis at which it begins
pub lawful_first : (r : ℕ) (b : ℕ → ℤ) (basis : Basis) (ps qs : Journal) → LawfulFrom r b basis (ps ++ qs) → LawfulFrom r b basis ps
lawful_first r b basis [] qs lawful = tt
lawful_first r b basis (p ∷ ps) qs (here, rest) = (here, lawful_first r b (after_pivot basis p) ps qs rest)

pub lawful_second : (r : ℕ) (b : ℕ → ℤ) (basis : Basis) (ps qs : Journal) → LawfulFrom r b basis (ps ++ qs) → LawfulFrom r b (basis_after basis ps) qs
lawful_second r b basis [] qs lawful = lawful
lawful_second r b basis (p ∷ ps) qs (here, rest) = lawful_second r b (after_pivot basis p) ps qs rest

-- two journals one after the other lead where the second leads from where the first does
pub after_joined : (basis : Basis) (ps qs : Journal) → basis_after basis (ps ++ qs) ≡ basis_after (basis_after basis ps) qs
after_joined basis [] qs = refl
after_joined basis (p ∷ ps) qs = after_joined (after_pivot basis p) ps qs

-- ---- the numbers of a basis that is reached
-- at a basis that is reached the line of each row is above 0
pub standing_above : (r : ℕ) (b : ℕ → ℤ) (basis : Basis) (t : BasisNumbers) → IsReached r b basis → Stands r basis t → (i : ℕ) → i < r → IsAbove r (line r b (t.row i))
standing_above r b basis t reached stands i inside =
    above_unscaled r reached.inverse.scale (line r b (t.row i)) (λ k. t.denominator i *ℤ line r b (reached.inverse.row i) k) reached.inverse.positive
    (line_determined r b (columns basis) reached.inverse i (t.row i) (t.denominator i) inside (stands.rows i inside))
    (above_scaled r (t.denominator i) (line r b (reached.inverse.row i)) (λ k. t.denominator i *ℤ line r b (reached.inverse.row i) k) (stands.rows i inside).positive (λ k l. refl) (reached.above i inside))

-- any two lists of numbers that stand for a basis that is reached are the same
pub standing_unique : (r : ℕ) (b : ℕ → ℤ) (basis : Basis) (t t' : BasisNumbers) → IsReached r b basis → Stands r basis t → Stands r basis t' → AreSameNumbers r t t'
standing_unique r b basis t t' reached first second =
    record {
      rows = λ i k l m. (same_row i l).1 k m;
      denominators = λ i l. (same_row i l).0;
      bulk = same_bulk.1;
      bulk_scale = same_bulk.0;
      fine = same_fine.1;
      fine_scale = same_fine.0;
    }
  where
    same_row : (i : ℕ) → i < r → (t.denominator i ≡ t'.denominator i) × ((k : ℕ) → k < r → t.row i k ≡ t'.row i k)
    same_row i l = unique r (columns basis) reached.inverse (unit i) (t.row i) (t'.row i) (t.denominator i) (t'.denominator i) (first.rows i l) (second.rows i l) (first.rows_coprime i l) (second.rows_coprime i l)

    same_bulk : (t.bulk_scale ≡ t'.bulk_scale) × ((k : ℕ) → k < r → t.bulk k ≡ t'.bulk k)
    same_bulk = unique r (columns basis) reached.inverse (bulk_costs basis) t.bulk t'.bulk t.bulk_scale t'.bulk_scale first.bulk second.bulk first.bulk_coprime second.bulk_coprime

    same_fine : (t.fine_scale ≡ t'.fine_scale) × ((k : ℕ) → k < r → t.fine k ≡ t'.fine k)
    same_fine = unique r (columns basis) reached.inverse (fine_costs basis) t.fine t'.fine t.fine_scale t'.fine_scale first.fine second.fine first.fine_coprime second.fine_coprime
