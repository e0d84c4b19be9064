-- A pivot keeps rows and prices standing.
use Rattle.std.specs.Prelude.{◌≡◌, ◌≢◌, ℕ, ◌<◌, length, Option, Some, ℤ, pos, ◌+ℤ◌, ◌-ℤ◌, ◌*ℤ◌, ◌<ℤ◌}
use Rattle.std.proofs.Common.{arith, refl, sym, ap, ap₂, subst, ◌∙◌, inl, inr}
use Rattle.std.proofs.lemmas.Int.{ints}
use Rattle.std.proofs.lemmas.Bool.{cases_eq}
use Rattle.sc_algebra.proofs.Ints.{products, mul_assoc, mul-one, mul-zero}
use Rattle.sc_basis.specs.Products.{dot, unit, IsCoprime, IsReduced}
use Rattle.sc_basis.specs.Bases.{Column, entry_of, Basis, item, columns, bulk_cost, fine_cost}
use Rattle.sc_basis.specs.Standing.{Gives, BasisNumbers, Stands}
use Rattle.sc_basis.specs.Pivots.{along, after_pivot, RowsPivoted, gap, PricesPivoted, NumbersPivoted}
use Rattle.sc_basis.proofs.Numbers.{cancel_pos, mul_pos, pos_of_mul}
use Rattle.sc_basis.proofs.ProductLaws.{unit_same, unit_other, dot-congr, dot-mul, dot-combine}
use Rattle.sc_basis.proofs.Replacing.{IsReplaced, replaced, item-here, item-other}

-- the product with a reduced list, times the factor that was taken out, is that with the list before
pub dot-reduced : (r : ℕ) (v : ℕ → ℤ) (d : ℤ) (w : ℕ → ℤ) (e : ℤ) (y : ℕ → ℤ) (h : IsReduced r v d w e) → h.factor *ℤ dot r v y ≡ dot r w y
dot-reduced r v d w e y h = sym (dot-mul r h.factor v y) ∙ dot-congr r (λ k. h.factor *ℤ v k) w y y h.entries (λ k l. refl)

scaled : (z d x e : ℤ) → z *ℤ d ≡ e → e *ℤ x ≡ z *ℤ (d *ℤ x)
scaled z d x e h = ap (λ (t : ℤ). t *ℤ x) (sym h) ∙ mul_assoc z d x

-- a list without its common divisor gives what the list gives
pub gives_reduced : (r : ℕ) (column : ℕ → ℕ → ℤ) (x v : ℕ → ℤ) (d : ℤ) (w : ℕ → ℤ) (e : ℤ) → IsReduced r v d w e → Gives r column x w e → Gives r column x v d
gives_reduced r column x v d w e h g =
    record {
      positive = pos_of_mul h.factor d h.positive (subst (λ (t : ℤ). pos 0 <ℤ t) (sym h.scale) g.positive);
      product = λ j l.
          cancel_pos h.factor (dot r v (column j)) (d *ℤ x j) h.positive
          (dot-reduced r v d w e (column j) h ∙ g.product j l ∙ scaled h.factor d (x j) e h.scale);
    }

closed : (a d x p : ℤ) → a *ℤ p +ℤ (d *ℤ x -ℤ p) *ℤ a ≡ (a *ℤ d) *ℤ x
closed a d x p = simp products (omega (arith, ints))

kept : (a d x g e : ℤ) → a *ℤ (d *ℤ x) +ℤ g *ℤ (e *ℤ pos 0) ≡ (a *ℤ d) *ℤ x
kept a d x g e = ap (λ (t : ℤ). a *ℤ (d *ℤ x) +ℤ t) (ap (λ (t : ℤ). g *ℤ t) (mul-zero e) ∙ mul-zero g) ∙ simp products (omega (arith, ints))

-- a list that gives x, with so much of the row l added that its product with c becomes what is wanted at l
pub gives_combined : (r : ℕ) (column column' : ℕ → ℕ → ℤ) (c : ℕ → ℤ) (l : ℕ) (x x' v : ℕ → ℤ) (d : ℤ) (w : ℕ → ℤ) (e : ℤ) → IsReplaced column column' c l → ((j : ℕ) → j ≢ l → x' j ≡ x j) → Gives r column x v d → Gives r column (unit l) w e → pos 0 <ℤ dot r w c → Gives r column' x' (λ k. dot r w c *ℤ v k +ℤ (d *ℤ x' l -ℤ dot r v c) *ℤ w k) (dot r w c *ℤ d)
gives_combined r column column' c l x x' v d w e new same g row p =
    record {
      positive = mul_pos (dot r w c) d p g.positive;
      product = λ j inside. dot-combine r (dot r w c) (d *ℤ x' l -ℤ dot r v c) v w (column' j) ∙ at j inside;
    }
  where
    at_here : dot r w c *ℤ dot r v (column' l) +ℤ (d *ℤ x' l -ℤ dot r v c) *ℤ dot r w (column' l) ≡ (dot r w c *ℤ d) *ℤ x' l
    at_here =
        ap (λ (y : ℕ → ℤ). dot r w c *ℤ dot r v y +ℤ (d *ℤ x' l -ℤ dot r v c) *ℤ dot r w y) new.here
        ∙ closed (dot r w c) d (x' l) (dot r v c)

    at_other : (j : ℕ) → j < r → j ≢ l → dot r w c *ℤ dot r v (column' j) +ℤ (d *ℤ x' l -ℤ dot r v c) *ℤ dot r w (column' j) ≡ (dot r w c *ℤ d) *ℤ x' j
    at_other j inside apart =
        ap (λ (y : ℕ → ℤ). dot r w c *ℤ dot r v y +ℤ (d *ℤ x' l -ℤ dot r v c) *ℤ dot r w y) (new.others j apart)
        ∙ ap₂ (λ (s t : ℤ). dot r w c *ℤ s +ℤ (d *ℤ x' l -ℤ dot r v c) *ℤ t) (g.product j inside) (row.product j inside ∙ ap (λ (t : ℤ). e *ℤ t) (unit_other l j apart))
        ∙ kept (dot r w c) d (x j) (d *ℤ x' l -ℤ dot r v c) e
        ∙ ap (λ (t : ℤ). (dot r w c *ℤ d) *ℤ t) (sym (same j apart))

    at : (j : ℕ) → j < r → dot r w c *ℤ dot r v (column' j) +ℤ (d *ℤ x' l -ℤ dot r v c) *ℤ dot r w (column' j) ≡ (dot r w c *ℤ d) *ℤ x' j
    at j inside =
        elim (cases_eq j l) [
          | inl e ↦ subst (λ (i : ℕ). dot r w c *ℤ dot r v (column' i) +ℤ (d *ℤ x' l -ℤ dot r v c) *ℤ dot r w (column' i) ≡ (dot r w c *ℤ d) *ℤ x' i) (sym e) at_here
          | inr apart ↦ at_other j inside apart
        ]

-- the row l over its product with c gives the unit l
pub gives_left : (r : ℕ) (column column' : ℕ → ℕ → ℤ) (c : ℕ → ℤ) (l : ℕ) (w : ℕ → ℤ) (e : ℤ) → IsReplaced column column' c l → Gives r column (unit l) w e → pos 0 <ℤ dot r w c → Gives r column' (unit l) w (dot r w c)
gives_left r column column' c l w e new row p = record { positive = p; product = at }
  where
    at_here : dot r w (column' l) ≡ dot r w c *ℤ unit l l
    at_here = ap (λ (y : ℕ → ℤ). dot r w y) new.here ∙ sym (mul-one (dot r w c)) ∙ ap (λ (t : ℤ). dot r w c *ℤ t) (sym (unit_same l))

    at_other : (j : ℕ) → j < r → j ≢ l → dot r w (column' j) ≡ dot r w c *ℤ unit l j
    at_other j inside apart =
        ap (λ (y : ℕ → ℤ). dot r w y) (new.others j apart)
        ∙ row.product j inside
        ∙ ap (λ (t : ℤ). e *ℤ t) (unit_other l j apart)
        ∙ mul-zero e
        ∙ sym (mul-zero (dot r w c))
        ∙ ap (λ (t : ℤ). dot r w c *ℤ t) (sym (unit_other l j apart))

    at : (j : ℕ) → j < r → dot r w (column' j) ≡ dot r w c *ℤ unit l j
    at j inside =
        elim (cases_eq j l) [
          | inl e ↦ subst (λ (i : ℕ). dot r w (column' i) ≡ dot r w c *ℤ unit l i) (sym e) at_here
          | inr apart ↦ at_other j inside apart
        ]

gives_same : (r : ℕ) (column : ℕ → ℕ → ℤ) (x v w : ℕ → ℤ) (d e : ℤ) → ((k : ℕ) → k < r → v k ≡ w k) → d ≡ e → Gives r column x v d → Gives r column x w e
gives_same r column x v w d e entries scale g =
    record {
      positive = subst (λ (t : ℤ). pos 0 <ℤ t) scale g.positive;
      product = λ j l. dot-congr r w v (column j) (column j) (λ k m. sym (entries k m)) (λ k m. refl) ∙ g.product j l ∙ ap (λ (t : ℤ). t *ℤ x j) scale;
    }

taken_away : (a v d s w : ℤ) → a *ℤ v +ℤ (d *ℤ pos 0 -ℤ s) *ℤ w ≡ a *ℤ v -ℤ s *ℤ w
taken_away a v d s w = ap (λ (t : ℤ). a *ℤ v +ℤ (t -ℤ s) *ℤ w) (mul-zero d) ∙ simp products (omega (arith, ints))

-- another row
gives_other : (r : ℕ) (column column' : ℕ → ℕ → ℤ) (c : ℕ → ℤ) (l i : ℕ) (v : ℕ → ℤ) (d : ℤ) (w : ℕ → ℤ) (e : ℤ) → i ≢ l → IsReplaced column column' c l → Gives r column (unit i) v d → Gives r column (unit l) w e → pos 0 <ℤ dot r w c → Gives r column' (unit i) (λ k. dot r w c *ℤ v k -ℤ dot r v c *ℤ w k) (dot r w c *ℤ d)
gives_other r column column' c l i v d w e apart new row left p =
    gives_same r column' (unit i) (λ k. dot r w c *ℤ v k +ℤ (d *ℤ unit i l -ℤ dot r v c) *ℤ w k) (λ k. dot r w c *ℤ v k -ℤ dot r v c *ℤ w k) (dot r w c *ℤ d) (dot r w c *ℤ d)
    (λ k m. ap (λ (t : ℤ). dot r w c *ℤ v k +ℤ (d *ℤ t -ℤ dot r v c) *ℤ w k) (unit_other i l (λ (h : l ≡ i). apart (sym h))) ∙ taken_away (dot r w c) (v k) d (dot r v c) (w k))
    refl
    (gives_combined r column column' c l (unit i) (unit i) v d w e new (λ j h. refl) row left p)

-- ---- over a basis
-- what a list over a scale reduces to, one with the same entries and scale does too
pub reduced_same : (r : ℕ) (v : ℕ → ℤ) (d : ℤ) (w w' : ℕ → ℤ) (e e' : ℤ) → ((k : ℕ) → k < r → w k ≡ w' k) → e ≡ e' → IsReduced r v d w e → IsReduced r v d w' e'
reduced_same r v d w w' e e' entries scale h =
    record { factor = h.factor; positive = h.positive; entries = λ k l. h.entries k l ∙ entries k l; scale = h.scale ∙ scale; coprime = h.coprime }

-- rows pivoted by the rule give the units at the items of the new basis
pub rows_after : (r : ℕ) (basis : Basis) (row : ℕ → ℕ → ℤ) (den : ℕ → ℤ) (row' : ℕ → ℕ → ℤ) (den' a : ℕ → ℤ) (c : Column) (l : ℕ) → length basis ≡ r → l < r → ((i : ℕ) → i < r → Gives r (columns basis) (unit i) (row i) (den i)) → ((i : ℕ) → i < r → a i ≡ dot r (row i) (entry_of c)) → pos 0 <ℤ a l → RowsPivoted r row den row' den' a l → (i : ℕ) → i < r → Gives r (columns (after_pivot basis (l, c))) (unit i) (row' i) (den' i)
rows_after r basis row den row' den' a c l size inside rows products_are positive new i i_inside =
    elim (cases_eq i l) [
      | inl e ↦ subst (λ (j : ℕ). Gives r (columns (after_pivot basis (l, c))) (unit j) (row' j) (den' j)) (sym e) at_left
      | inr apart ↦ at_other apart
    ]
  where
    put : IsReplaced (columns basis) (columns (after_pivot basis (l, c))) (entry_of c) l
    put = replaced basis l c (subst (λ (n : ℕ). l < n) (sym size) inside)

    above : pos 0 <ℤ dot r (row l) (entry_of c)
    above = subst (λ (t : ℤ). pos 0 <ℤ t) (products_are l inside) positive

    at_left : Gives r (columns (after_pivot basis (l, c))) (unit l) (row' l) (den' l)
    at_left =
        gives_reduced r (columns (after_pivot basis (l, c))) (unit l) (row' l) (den' l) (row l) (dot r (row l) (entry_of c))
        (reduced_same r (row' l) (den' l) (row l) (row l) (a l) (dot r (row l) (entry_of c)) (λ k m. refl) (products_are l inside) new.left)
        (gives_left r (columns basis) (columns (after_pivot basis (l, c))) (entry_of c) l (row l) (den l) put (rows l inside) above)

    at_other : i ≢ l → Gives r (columns (after_pivot basis (l, c))) (unit i) (row' i) (den' i)
    at_other apart =
        gives_reduced r (columns (after_pivot basis (l, c))) (unit i) (row' i) (den' i) (λ k. dot r (row l) (entry_of c) *ℤ row i k -ℤ dot r (row i) (entry_of c) *ℤ row l k) (dot r (row l) (entry_of c) *ℤ den i)
        (reduced_same r (row' i) (den' i) (λ k. a l *ℤ row i k -ℤ a i *ℤ row l k) (λ k. dot r (row l) (entry_of c) *ℤ row i k -ℤ dot r (row i) (entry_of c) *ℤ row l k) (a l *ℤ den i) (dot r (row l) (entry_of c) *ℤ den i)
        (λ k m. ap₂ (λ (s t : ℤ). s *ℤ row i k -ℤ t *ℤ row l k) (products_are l inside) (products_are i i_inside))
        (ap (λ (t : ℤ). t *ℤ den i) (products_are l inside))
        (new.others i i_inside apart))
        (gives_other r (columns basis) (columns (after_pivot basis (l, c))) (entry_of c) l i (row i) (den i) (row l) (den l) apart put (rows i i_inside) (rows l inside) above)

-- prices pivoted by the rule give the costs of the items of the new basis
pub prices_after : (r : ℕ) (basis : Basis) (cost : Option Column → ℤ) (v v' w : ℕ → ℤ) (d d' e : ℤ) (c : Column) (l : ℕ) → length basis ≡ r → l < r → Gives r (columns basis) (λ j. cost (item basis j)) v d → Gives r (columns basis) (unit l) w e → pos 0 <ℤ dot r w (entry_of c) → PricesPivoted r v d v' d' (gap r v d (cost (Some c)) c) w (dot r w (entry_of c)) → Gives r (columns (after_pivot basis (l, c))) (λ j. cost (item (after_pivot basis (l, c)) j)) v' d'
prices_after r basis cost v v' w d d' e c l size inside prices row positive new =
    gives_reduced r (columns (after_pivot basis (l, c))) (λ j. cost (item (after_pivot basis (l, c)) j)) v' d'
    (λ k. dot r w (entry_of c) *ℤ v k +ℤ (d *ℤ cost (item (after_pivot basis (l, c)) l) -ℤ dot r v (entry_of c)) *ℤ w k) (dot r w (entry_of c) *ℤ d)
    (reduced_same r v' d' (λ k. dot r w (entry_of c) *ℤ v k +ℤ gap r v d (cost (Some c)) c *ℤ w k) (λ k. dot r w (entry_of c) *ℤ v k +ℤ (d *ℤ cost (item (after_pivot basis (l, c)) l) -ℤ dot r v (entry_of c)) *ℤ w k) (dot r w (entry_of c) *ℤ d) (dot r w (entry_of c) *ℤ d)
    (λ k m. ap (λ (o : Option Column). dot r w (entry_of c) *ℤ v k +ℤ (d *ℤ cost o -ℤ dot r v (entry_of c)) *ℤ w k) (sym (item-here basis l c l_inside)))
    refl
    new)
    (gives_combined r (columns basis) (columns (after_pivot basis (l, c))) (entry_of c) l (λ j. cost (item basis j)) (λ j. cost (item (after_pivot basis (l, c)) j)) v d w e
    (replaced basis l c l_inside) (λ j apart. ap cost (item-other basis l j c apart)) prices row positive)
  where
    l_inside : l < length basis
    l_inside = subst (λ (n : ℕ). l < n) (sym size) inside

-- numbers pivoted by the rule stand for the new basis, where those before stood for the old one
pub stands_after : (r : ℕ) (basis : Basis) (t t' : BasisNumbers) (c : Column) (l : ℕ) → length basis ≡ r → l < r → Stands r basis t → pos 0 <ℤ along r t c l → NumbersPivoted r t t' c l → Stands r (after_pivot basis (l, c)) t'
stands_after r basis t t' c l size inside old positive new =
    record {
      rows = rows_after r basis t.row t.denominator t'.row t'.denominator (along r t c) c l size inside old.rows (λ i m. refl) positive new.rows;
      rows_coprime = λ i i_inside.
          elim (cases_eq i l) [
            | inl e ↦ subst (λ (j : ℕ). IsCoprime r (t'.row j) (t'.denominator j)) (sym e) new.rows.left.coprime
            | inr apart ↦ (new.rows.others i i_inside apart).coprime
          ];
      bulk = prices_after r basis bulk_cost t.bulk t'.bulk (t.row l) t.bulk_scale t'.bulk_scale (t.denominator l) c l size inside old.bulk (old.rows l inside) positive new.bulk;
      bulk_coprime = new.bulk.coprime;
      fine = prices_after r basis fine_cost t.fine t'.fine (t.row l) t.fine_scale t'.fine_scale (t.denominator l) c l size inside old.fine (old.rows l inside) positive new.fine;
      fine_coprime = new.fine.coprime;
    }
