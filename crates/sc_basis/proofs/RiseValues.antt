-- A lawful pivot raises the rise value, and so does each longer prefix of a journal.
use Rattle.std.specs.Prelude.{◌≡◌, ◌≢◌, ℕ, zero, suc, ◌<◌, length, ℤ, pos, ◌+ℤ◌, ◌-ℤ◌, ◌*ℤ◌, ◌<ℤ◌}
use Rattle.std.proofs.Common.{arith, sym, ap, ap₂, subst, ◌∙◌, inl, inr}
use Rattle.std.proofs.Math.Path.{subst₂}
use Rattle.std.proofs.lemmas.Int.{ints}
use Rattle.sc_algebra.proofs.Ints.{products, mul_assoc, mul-zero, zero-mul}
use Rattle.sc_basis.specs.Products.{dot, unit}
use Rattle.sc_basis.specs.Bases.{Column, entry_of, Basis, columns, bulk_cost, fine_cost, bulk_costs, fine_costs}
use Rattle.sc_basis.specs.Standing.{Gives, BasisNumbers, Stands}
use Rattle.sc_basis.specs.Lines.{line, IsAbove}
use Rattle.sc_basis.specs.Pivots.{Improves, along, after_pivot}
use Rattle.sc_basis.specs.Journals.{Inverse, IsReached}
use Rattle.sc_basis.specs.Values.{SameLine, LesserLine, Rises}
use Rattle.sc_basis.proofs.Numbers.{cancel_pos, mul_pos, lt_of_mul}
use Rattle.sc_basis.proofs.ProductLaws.{dot-unit, dot-combine}
use Rattle.sc_basis.proofs.Replacing.{IsReplaced, replaced, item-here, item-other}
use Rattle.sc_basis.proofs.Pivoting.{gives_combined}
use Rattle.sc_basis.proofs.InverseLaws.{line_determined, same_proportion}
use Rattle.sc_basis.proofs.LexOrder.{lex_map, lex_scale, lex_unscale}

-- ---- one list of prices
-- a relation of all products is one of the lines
lines_by_products : (r : ℕ) (b u v w : ℕ → ℤ) (p q s : ℤ) → ((y : ℕ → ℤ) → p *ℤ dot r u y ≡ q *ℤ dot r v y +ℤ s *ℤ dot r w y)
    → (k : ℕ) → k < suc r → p *ℤ line r b u k ≡ q *ℤ line r b v k +ℤ s *ℤ line r b w k
lines_by_products r b u v w p q s all zero inside = all b
lines_by_products r b u v w p q s all (suc k) inside =
    let l : k < r = omega arith in
    ap (λ (z : ℤ). p *ℤ z) (sym (dot-unit r k u l)) ∙ all (unit k) ∙ ap₂ (λ (y z : ℤ). q *ℤ y +ℤ s *ℤ z) (dot-unit r k v l) (dot-unit r k w l)

-- the new prices, by the old ones and the leaving row
raised : (r : ℕ) (b : ℕ → ℤ) (column column' : ℕ → ℕ → ℤ) (c : ℕ → ℤ) (l : ℕ) (x x' v v' w : ℕ → ℤ) (d d' e : ℤ) → Inverse r column' → IsReplaced column column' c l → ((j : ℕ) → j ≢ l → x' j ≡ x j)
    → Gives r column x v d → Gives r column (unit l) w e → Gives r column' x' v' d' → pos 0 <ℤ dot r w c
    → (k : ℕ) → k < suc r → (dot r w c *ℤ d) *ℤ line r b v' k ≡ (d' *ℤ dot r w c) *ℤ line r b v k +ℤ (d' *ℤ (d *ℤ x' l -ℤ dot r v c)) *ℤ line r b w k
raised r b column column' c l x x' v v' w d d' e inv new same old row prices positive =
    lines_by_products r b v' v w (a *ℤ d) (d' *ℤ a) (d' *ℤ g)
    (λ y. sym (same_proportion r column' inv x' (λ k. a *ℤ v k +ℤ g *ℤ w k) v' (a *ℤ d) d' (gives_combined r column column' c l x x' v d w e new same old row positive) prices y)
    ∙ ap (λ (z : ℤ). d' *ℤ z) (dot-combine r a g v w y) ∙ spread_out d' a g (dot r v y) (dot r w y))
  where
    a : ℤ
    a = dot r w c

    g : ℤ
    g = d *ℤ x' l -ℤ dot r v c

    spread_out : (p q s y z : ℤ) → p *ℤ (q *ℤ y +ℤ s *ℤ z) ≡ (p *ℤ q) *ℤ y +ℤ (p *ℤ s) *ℤ z
    spread_out p q s y z = simp products (omega (arith, ints))

module _ (r : ℕ) (b v v' w : ℕ → ℤ) (a d d' g : ℤ) (positive : pos 0 <ℤ a) (scale : pos 0 <ℤ d')
    (rule : (k : ℕ) → k < suc r → (a *ℤ d) *ℤ line r b v' k ≡ (d' *ℤ a) *ℤ line r b v k +ℤ (d' *ℤ g) *ℤ line r b w k) where
  swapped : (x y z : ℤ) → (x *ℤ y) *ℤ z ≡ y *ℤ (x *ℤ z)
  swapped x y z = simp products (omega (arith, ints))

  -- where the added part is 0
  same_at : (k : ℕ) → k < suc r → (d' *ℤ g) *ℤ line r b w k ≡ pos 0 → d' *ℤ line r b v k ≡ d *ℤ line r b v' k
  same_at k inside none =
      cancel_pos a (d' *ℤ line r b v k) (d *ℤ line r b v' k) positive
      (sym (swapped d' a (line r b v k)) ∙ no_more ((d' *ℤ a) *ℤ line r b v k) ((d' *ℤ g) *ℤ line r b w k) none ∙ sym (rule k inside) ∙ mul_assoc a d (line r b v' k))
    where
      no_more : (x y : ℤ) → y ≡ pos 0 → x ≡ x +ℤ y
      no_more x y e = omega (arith, ints)

  -- where the gap g is 0 the line of the prices stays the same
  pub equal_raise : g ≡ pos 0 → SameLine r b v d v' d'
  equal_raise e k inside =
      same_at k inside (ap (λ (z : ℤ). (d' *ℤ z) *ℤ line r b w k) e ∙ ap (λ (z : ℤ). z *ℤ line r b w k) (mul-zero d') ∙ zero-mul (line r b w k))

  -- where it is positive, and the leaving row's line above 0, the line of the new prices is greater
  pub greater_raise : pos 0 <ℤ g → IsAbove r (line r b w) → LesserLine r b v d v' d'
  greater_raise above (k, inside, same, less) = (
    k,
    inside,
    (λ j l. same_at j (omega arith) (ap (λ (z : ℤ). (d' *ℤ g) *ℤ z) (sym (same j l)) ∙ mul-zero (d' *ℤ g))),
    lt_of_mul a (d' *ℤ line r b v k) (d *ℤ line r b v' k) positive
        (subst₂ (λ (x y : ℤ). x <ℤ y) (swapped d' a (line r b v k)) (sym (rule k inside) ∙ mul_assoc a d (line r b v' k))
        (more ((d' *ℤ a) *ℤ line r b v k) ((d' *ℤ g) *ℤ line r b w k) (mul_pos (d' *ℤ g) (line r b w k) (mul_pos d' g scale above) less))),
  )
    where
      more : (x y : ℤ) → pos 0 <ℤ y → x <ℤ (x +ℤ y)
      more x y p = omega (arith, ints)

-- ---- one pivot
-- a row's line is above 0 as the inverse's is
row_above : (r : ℕ) (b : ℕ → ℤ) (basis : Basis) (t : BasisNumbers) (l : ℕ) → (reached : IsReached r b basis) → Stands r basis t → l < r → IsAbove r (line r b (t.row l))
row_above r b basis t l reached stands inside =
    let inv = reached.inverse in
    let row = stands.rows l inside in
    lex_unscale (suc r) inv.scale (λ k. pos 0) (line r b (t.row l)) inv.positive
    (lex_map (suc r) (λ k. t.denominator l *ℤ pos 0) (λ k. t.denominator l *ℤ line r b (inv.row l) k) _ _
    (λ k m. mul-zero (t.denominator l) ∙ sym (mul-zero inv.scale))
    (λ k m. sym (line_determined r b (columns basis) inv l (t.row l) (t.denominator l) inside row k m))
    (lex_scale (suc r) (t.denominator l) (λ k. pos 0) (line r b (inv.row l)) row.positive (reached.above l inside)))

-- a pivot raises the rise value, where the column improves and has a positive product with the leaving row
pub one_pivot_rises : (r : ℕ) (b : ℕ → ℤ) (basis : Basis) (l : ℕ) (c : Column) (t t' : BasisNumbers) → IsReached r b basis → IsReached r b (after_pivot basis (l, c))
    → Stands r basis t → Stands r (after_pivot basis (l, c)) t' → l < r → pos 0 <ℤ along r t c l → Improves r t c → Rises r b t t'
one_pivot_rises r b basis l c t t' reached next stands after inside positive improves =
    elim improves [
      | inl cheaper ↦ inl (greater_raise r b t.bulk t'.bulk (t.row l) a t.bulk_scale t'.bulk_scale bulk_gap positive after.bulk.positive bulk_rule (bulk_more cheaper) above)
      | inr level ↦ inr (
        equal_raise r b t.bulk t'.bulk (t.row l) a t.bulk_scale t'.bulk_scale bulk_gap positive after.bulk.positive bulk_rule (bulk_equal level.0),
        greater_raise r b t.fine t'.fine (t.row l) a t.fine_scale t'.fine_scale fine_gap positive after.fine.positive fine_rule (fine_more level.1) above,
      )
    ]
  where
    within : l < length basis
    within = subst (λ (n : ℕ). l < n) (sym reached.size) inside

    above : IsAbove r (line r b (t.row l))
    above = row_above r b basis t l reached stands inside

    a : ℤ
    a = along r t c l

    new : IsReplaced (columns basis) (columns (after_pivot basis (l, c))) (entry_of c) l
    new = replaced basis l c within

    bulk_gap : ℤ
    bulk_gap = t.bulk_scale *ℤ bulk_costs (after_pivot basis (l, c)) l -ℤ dot r t.bulk (entry_of c)

    fine_gap : ℤ
    fine_gap = t.fine_scale *ℤ fine_costs (after_pivot basis (l, c)) l -ℤ dot r t.fine (entry_of c)

    bulk_rule : (k : ℕ) → k < suc r → (a *ℤ t.bulk_scale) *ℤ line r b t'.bulk k ≡ (t'.bulk_scale *ℤ a) *ℤ line r b t.bulk k +ℤ (t'.bulk_scale *ℤ bulk_gap) *ℤ line r b (t.row l) k
    bulk_rule =
        raised r b (columns basis) (columns (after_pivot basis (l, c))) (entry_of c) l (bulk_costs basis) (bulk_costs (after_pivot basis (l, c))) t.bulk t'.bulk (t.row l) t.bulk_scale t'.bulk_scale (t.denominator l)
        next.inverse new (λ j apart. ap bulk_cost (item-other basis l j c apart)) stands.bulk (stands.rows l inside) after.bulk positive

    fine_rule : (k : ℕ) → k < suc r → (a *ℤ t.fine_scale) *ℤ line r b t'.fine k ≡ (t'.fine_scale *ℤ a) *ℤ line r b t.fine k +ℤ (t'.fine_scale *ℤ fine_gap) *ℤ line r b (t.row l) k
    fine_rule =
        raised r b (columns basis) (columns (after_pivot basis (l, c))) (entry_of c) l (fine_costs basis) (fine_costs (after_pivot basis (l, c))) t.fine t'.fine (t.row l) t.fine_scale t'.fine_scale (t.denominator l)
        next.inverse new (λ j apart. ap fine_cost (item-other basis l j c apart)) stands.fine (stands.rows l inside) after.fine positive

    bulk_is : bulk_gap ≡ t.bulk_scale *ℤ pos 0 -ℤ dot r t.bulk (entry_of c)
    bulk_is = ap (λ o. t.bulk_scale *ℤ bulk_cost o -ℤ dot r t.bulk (entry_of c)) (item-here basis l c within)

    fine_is : fine_gap ≡ t.fine_scale *ℤ pos 1 -ℤ dot r t.fine (entry_of c)
    fine_is = ap (λ o. t.fine_scale *ℤ fine_cost o -ℤ dot r t.fine (entry_of c)) (item-here basis l c within)

    bulk_more : dot r t.bulk (entry_of c) <ℤ pos 0 → pos 0 <ℤ bulk_gap
    bulk_more less = subst (λ (z : ℤ). pos 0 <ℤ z) (sym bulk_is) (omega (arith, ints))

    bulk_equal : dot r t.bulk (entry_of c) ≡ pos 0 → bulk_gap ≡ pos 0
    bulk_equal e = bulk_is ∙ omega (arith, ints)

    fine_more : dot r t.fine (entry_of c) <ℤ t.fine_scale → pos 0 <ℤ fine_gap
    fine_more less = subst (λ (z : ℤ). pos 0 <ℤ z) (sym fine_is) (omega (arith, ints))
