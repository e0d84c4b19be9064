-- The inverse of a basis over one scale: at the start, after a pivot, and what it determines.
use Rattle.std.specs.Prelude.{◌≡◌, ◌≢◌, ℕ, zero, suc, ◌<◌, ℤ, pos, ◌+ℤ◌, ◌-ℤ◌, ◌*ℤ◌, ◌<ℤ◌}
use Rattle.std.proofs.Common.{arith, refl, sym, ap, ap₂, subst, ◌∙◌, inl, inr}
use Rattle.std.proofs.lemmas.Int.{ints}
use Rattle.std.proofs.lemmas.Bool.{cases_eq}
use Rattle.sc_algebra.specs.Sums.{sum_below}
use Rattle.sc_algebra.proofs.Sums.{sum-congr, sum-add, sum-sub, sum-mul_left, sum-single}
use Rattle.sc_algebra.proofs.Ints.{products, mul-one, one-mul, mul-zero, zero-mul, mul_comm, mul_left_comm}
use Rattle.sc_basis.specs.Products.{dot, unit, IsCoprime}
use Rattle.sc_basis.specs.Bases.{unit_basis, columns}
use Rattle.sc_basis.specs.Standing.{Gives}
use Rattle.sc_basis.specs.Lines.{line}
use Rattle.sc_basis.specs.Journals.{Inverse}
use Rattle.sc_basis.proofs.Numbers.{cancel_pos, mul_pos}
use Rattle.sc_basis.proofs.ProductLaws.{unit_same, unit_other, dot-turned, dot-unit, dot-combine}
use Rattle.sc_basis.proofs.Replacing.{IsReplaced}
use Rattle.sc_basis.proofs.Pivoting.{gives_combined}
use Rattle.sc_basis.proofs.Units.{dot-columns-units}
use Rattle.sc_basis.proofs.Uniqueness.{same_numbers}

-- ---- the start
-- the basis of the unit columns has an inverse, and its rows are the units
pub inverse_start : (r : ℕ) → Inverse r (columns (unit_basis r))
inverse_start r =
    record {
      scale = pos 1;
      row = λ i. unit i;
      positive = omega (arith, ints);
      rows = λ i l. record { positive = omega (arith, ints); product = λ j m. dot-columns-units r j (unit i) m ∙ sym (one-mul (unit i j)) };
      spread = λ x v. one-mul (dot r x v) ∙ sum-congr (λ k. x k *ℤ v k) (λ i. dot r (unit i) v *ℤ dot r x (columns (unit_basis r) i)) r (λ k l. term x v k l);
    }
  where
    term : (x v : ℕ → ℤ) (k : ℕ) → k < r → x k *ℤ v k ≡ dot r (unit k) v *ℤ dot r x (columns (unit_basis r) k)
    term x v k l = mul_comm (x k) (v k) ∙ sym (ap₂ (λ (s t : ℤ). s *ℤ t) (dot-turned r (unit k) v ∙ dot-unit r k v l) (dot-columns-units r k x l))

pub inverse_start_row : (r i : ℕ) → (inverse_start r).row i ≡ unit i
unfolding inverse_start
inverse_start_row r i = refl

-- ---- after a pivot
-- row i of the new inverse: row l gets the old scale, from each other row i its product a i with the entering
-- column is taken away, in row l
abbrev pub row_after : ℕ → ℤ → (ℕ → ℕ → ℤ) → (ℕ → ℤ) → ℕ → ℕ → ℕ → ℤ
row_after r scale row c l i k = dot r (row l) c *ℤ row i k +ℤ (scale *ℤ unit i l -ℤ dot r (row i) c) *ℤ row l k

gives_row : (r : ℕ) (column column' : ℕ → ℕ → ℤ) (c : ℕ → ℤ) (l i : ℕ) (inv : Inverse r column) → l < r → i < r → IsReplaced column column' c l → pos 0 <ℤ dot r (inv.row l) c → Gives r column' (unit i) (row_after r inv.scale inv.row c l i) (dot r (inv.row l) c *ℤ inv.scale)
gives_row r column column' c l i inv inside i_inside new p =
    gives_combined r column column' c l (unit i) (unit i) (inv.row i) inv.scale (inv.row l) inv.scale new (λ j h. refl) (inv.rows i i_inside) (inv.rows l inside) p

-- the term of the leaving row, and that of another
term_here : (a q m u x y : ℤ) → u ≡ pos 1 → (a *ℤ m +ℤ (q *ℤ u -ℤ a) *ℤ m) *ℤ y ≡ (a *ℤ (m *ℤ x) -ℤ m *ℤ (a *ℤ x)) +ℤ u *ℤ (m *ℤ (q *ℤ y))
term_here a q m u x y is_one =
    ap (λ (t : ℤ). (a *ℤ m +ℤ (t -ℤ a) *ℤ m) *ℤ y) (ap (λ (t : ℤ). q *ℤ t) is_one ∙ mul-one q)
    ∙ expanded
    ∙ ap (λ (t : ℤ). (a *ℤ (m *ℤ x) -ℤ m *ℤ (a *ℤ x)) +ℤ t) (sym (ap (λ (t : ℤ). t *ℤ (m *ℤ (q *ℤ y))) is_one ∙ one-mul (m *ℤ (q *ℤ y))))
  where
    expanded : (a *ℤ m +ℤ (q -ℤ a) *ℤ m) *ℤ y ≡ (a *ℤ (m *ℤ x) -ℤ m *ℤ (a *ℤ x)) +ℤ m *ℤ (q *ℤ y)
    expanded = simp products (omega (arith, ints))

term_other : (a q s m f u x z : ℤ) → u ≡ pos 0 → (a *ℤ f +ℤ (q *ℤ u -ℤ s) *ℤ m) *ℤ x ≡ (a *ℤ (f *ℤ x) -ℤ m *ℤ (s *ℤ x)) +ℤ u *ℤ z
term_other a q s m f u x z is_zero =
    ap (λ (t : ℤ). (a *ℤ f +ℤ (t -ℤ s) *ℤ m) *ℤ x) (ap (λ (t : ℤ). q *ℤ t) is_zero ∙ mul-zero q)
    ∙ ap (λ (t : ℤ). (a *ℤ f +ℤ t) *ℤ x) shorter
    ∙ expanded
    ∙ ap (λ (t : ℤ). (a *ℤ (f *ℤ x) -ℤ m *ℤ (s *ℤ x)) +ℤ t) (sym (ap (λ (t : ℤ). t *ℤ z) is_zero ∙ zero-mul z))
  where
    shorter : (pos 0 -ℤ s) *ℤ m ≡ pos 0 -ℤ s *ℤ m
    shorter = simp products (omega (arith, ints))

    expanded : (a *ℤ f +ℤ (pos 0 -ℤ s *ℤ m)) *ℤ x ≡ (a *ℤ (f *ℤ x) -ℤ m *ℤ (s *ℤ x)) +ℤ pos 0
    expanded = ap (λ (t : ℤ). t *ℤ x) (let e : a *ℤ f +ℤ (pos 0 -ℤ s *ℤ m) ≡ a *ℤ f -ℤ s *ℤ m = omega (arith, ints) in e) ∙ simp products (omega (arith, ints))

-- the sum of such terms
sum_of_terms : (r l : ℕ) (a m z : ℤ) (f s x : ℕ → ℤ) → l < r → sum_below (λ i. (a *ℤ (f i *ℤ x i) -ℤ m *ℤ (s i *ℤ x i)) +ℤ unit i l *ℤ z) r ≡ (a *ℤ sum_below (λ i. f i *ℤ x i) r -ℤ m *ℤ sum_below (λ i. s i *ℤ x i) r) +ℤ z
sum_of_terms r l a m z f s x inside =
    sum-add (λ i. a *ℤ (f i *ℤ x i) -ℤ m *ℤ (s i *ℤ x i)) (λ i. unit i l *ℤ z) r
    ∙ ap₂ (λ (p q : ℤ). p +ℤ q)
    (sum-sub (λ i. a *ℤ (f i *ℤ x i)) (λ i. m *ℤ (s i *ℤ x i)) r
    ∙ ap₂ (λ (p q : ℤ). p -ℤ q) (sum-mul_left a (λ i. f i *ℤ x i) r) (sum-mul_left m (λ i. s i *ℤ x i) r))
    (sum-single (λ i. unit i l *ℤ z) r l inside (λ i h apart. ap (λ (t : ℤ). t *ℤ z) (unit_other i l (λ (e : l ≡ i). apart (sym e))) ∙ zero-mul z)
    ∙ ap (λ (t : ℤ). t *ℤ z) (unit_same l)
    ∙ one-mul z)

-- what is left of the sum
left_over : (a m q n z : ℤ) → (a *ℤ (q *ℤ n) -ℤ m *ℤ (q *ℤ z)) +ℤ m *ℤ (q *ℤ z) ≡ (a *ℤ q) *ℤ n
left_over a m q n z = simp products (omega (arith, ints))

spread_term : (r : ℕ) (column column' : ℕ → ℕ → ℤ) (c : ℕ → ℤ) (l : ℕ) (inv : Inverse r column) (x v : ℕ → ℤ) → l < r → IsReplaced column column' c l → (i : ℕ) → dot r (row_after r inv.scale inv.row c l i) v *ℤ dot r x (column' i) ≡ (dot r (inv.row l) c *ℤ (dot r (inv.row i) v *ℤ dot r x (column i)) -ℤ dot r (inv.row l) v *ℤ (dot r (inv.row i) c *ℤ dot r x (column i))) +ℤ unit i l *ℤ (dot r (inv.row l) v *ℤ (inv.scale *ℤ dot r x c))
spread_term r column column' c l inv x v inside new i =
    ap (λ (t : ℤ). t *ℤ dot r x (column' i)) (dot-combine r (dot r (inv.row l) c) (inv.scale *ℤ unit i l -ℤ dot r (inv.row i) c) (inv.row i) (inv.row l) v)
    ∙ elim (cases_eq i l) [
      | inl e ↦ subst (λ (h : ℕ). (dot r (inv.row l) c *ℤ dot r (inv.row h) v +ℤ (inv.scale *ℤ unit h l -ℤ dot r (inv.row h) c) *ℤ dot r (inv.row l) v) *ℤ dot r x (column' h) ≡ (dot r (inv.row l) c *ℤ (dot r (inv.row h) v *ℤ dot r x (column h)) -ℤ dot r (inv.row l) v *ℤ (dot r (inv.row h) c *ℤ dot r x (column h))) +ℤ unit h l *ℤ (dot r (inv.row l) v *ℤ (inv.scale *ℤ dot r x c))) (sym e) at_here
      | inr apart ↦ at_other apart
    ]
  where
    at_here : (dot r (inv.row l) c *ℤ dot r (inv.row l) v +ℤ (inv.scale *ℤ unit l l -ℤ dot r (inv.row l) c) *ℤ dot r (inv.row l) v) *ℤ dot r x (column' l) ≡ (dot r (inv.row l) c *ℤ (dot r (inv.row l) v *ℤ dot r x (column l)) -ℤ dot r (inv.row l) v *ℤ (dot r (inv.row l) c *ℤ dot r x (column l))) +ℤ unit l l *ℤ (dot r (inv.row l) v *ℤ (inv.scale *ℤ dot r x c))
    at_here =
        term_here (dot r (inv.row l) c) inv.scale (dot r (inv.row l) v) (unit l l) (dot r x (column l)) (dot r x (column' l)) (unit_same l)
        ∙ ap (λ (y : ℕ → ℤ). (dot r (inv.row l) c *ℤ (dot r (inv.row l) v *ℤ dot r x (column l)) -ℤ dot r (inv.row l) v *ℤ (dot r (inv.row l) c *ℤ dot r x (column l))) +ℤ unit l l *ℤ (dot r (inv.row l) v *ℤ (inv.scale *ℤ dot r x y))) new.here

    at_other : i ≢ l → (dot r (inv.row l) c *ℤ dot r (inv.row i) v +ℤ (inv.scale *ℤ unit i l -ℤ dot r (inv.row i) c) *ℤ dot r (inv.row l) v) *ℤ dot r x (column' i) ≡ (dot r (inv.row l) c *ℤ (dot r (inv.row i) v *ℤ dot r x (column i)) -ℤ dot r (inv.row l) v *ℤ (dot r (inv.row i) c *ℤ dot r x (column i))) +ℤ unit i l *ℤ (dot r (inv.row l) v *ℤ (inv.scale *ℤ dot r x c))
    at_other apart =
        ap (λ (y : ℕ → ℤ). (dot r (inv.row l) c *ℤ dot r (inv.row i) v +ℤ (inv.scale *ℤ unit i l -ℤ dot r (inv.row i) c) *ℤ dot r (inv.row l) v) *ℤ dot r x y) (new.others i apart)
        ∙ term_other (dot r (inv.row l) c) inv.scale (dot r (inv.row i) c) (dot r (inv.row l) v) (dot r (inv.row i) v) (unit i l) (dot r x (column i)) (dot r (inv.row l) v *ℤ (inv.scale *ℤ dot r x c)) (unit_other i l (λ (e : l ≡ i). apart (sym e)))

spread_after : (r : ℕ) (column column' : ℕ → ℕ → ℤ) (c : ℕ → ℤ) (l : ℕ) (inv : Inverse r column) → l < r → IsReplaced column column' c l → (x v : ℕ → ℤ) → (dot r (inv.row l) c *ℤ inv.scale) *ℤ dot r x v ≡ sum_below (λ i. dot r (row_after r inv.scale inv.row c l i) v *ℤ dot r x (column' i)) r
spread_after r column column' c l inv inside new x v =
    sym
    (sum-congr (λ i. dot r (row_after r inv.scale inv.row c l i) v *ℤ dot r x (column' i)) (λ i. (dot r (inv.row l) c *ℤ (dot r (inv.row i) v *ℤ dot r x (column i)) -ℤ dot r (inv.row l) v *ℤ (dot r (inv.row i) c *ℤ dot r x (column i))) +ℤ unit i l *ℤ (dot r (inv.row l) v *ℤ (inv.scale *ℤ dot r x c))) r (λ i h. spread_term r column column' c l inv x v inside new i)
    ∙ sum_of_terms r l (dot r (inv.row l) c) (dot r (inv.row l) v) (dot r (inv.row l) v *ℤ (inv.scale *ℤ dot r x c)) (λ i. dot r (inv.row i) v) (λ i. dot r (inv.row i) c) (λ i. dot r x (column i)) inside
    ∙ ap₂ (λ (p q : ℤ). (dot r (inv.row l) c *ℤ p -ℤ dot r (inv.row l) v *ℤ q) +ℤ dot r (inv.row l) v *ℤ (inv.scale *ℤ dot r x c)) (sym (inv.spread x v)) (sym (inv.spread x c))
    ∙ left_over (dot r (inv.row l) c) (dot r (inv.row l) v) inv.scale (dot r x v) (dot r x c))

-- a basis has an inverse after a column took the place l, where row l of the inverse has a positive product with it
pub inverse_after : (r : ℕ) (column column' : ℕ → ℕ → ℤ) (c : ℕ → ℤ) (l : ℕ) (inv : Inverse r column) → l < r → IsReplaced column column' c l → pos 0 <ℤ dot r (inv.row l) c → Inverse r column'
inverse_after r column column' c l inv inside new p =
    record {
      scale = dot r (inv.row l) c *ℤ inv.scale;
      row = row_after r inv.scale inv.row c l;
      positive = mul_pos (dot r (inv.row l) c) inv.scale p inv.positive;
      rows = λ i h. gives_row r column column' c l i inv inside h new p;
      spread = spread_after r column column' c l inv inside new;
    }

-- the rows of that inverse are those of `row_after`
pub inverse_after_row : (r : ℕ) (column column' : ℕ → ℕ → ℤ) (c : ℕ → ℤ) (l : ℕ) (inv : Inverse r column) (inside : l < r) (new : IsReplaced column column' c l) (p : pos 0 <ℤ dot r (inv.row l) c) (i : ℕ) → (inverse_after r column column' c l inv inside new p).row i ≡ row_after r inv.scale inv.row c l i
unfolding inverse_after
inverse_after_row r column column' c l inv inside new p i = refl

-- ---- what the inverse determines
drawn_out : (r : ℕ) (d : ℤ) (f x : ℕ → ℤ) → sum_below (λ i. f i *ℤ (d *ℤ x i)) r ≡ d *ℤ sum_below (λ i. f i *ℤ x i) r
drawn_out r d f x =
    sum-congr (λ i. f i *ℤ (d *ℤ x i)) (λ i. d *ℤ (f i *ℤ x i)) r (λ i h. mul_left_comm (f i) d (x i)) ∙ sum-mul_left d (λ i. f i *ℤ x i) r

-- a list that gives x over d has with each v the product d times the sum of x i times that of row i of the
-- inverse, over the inverse's scale
pub determined : (r : ℕ) (column : ℕ → ℕ → ℤ) (inv : Inverse r column) (x w : ℕ → ℤ) (d : ℤ) → Gives r column x w d → (v : ℕ → ℤ) → inv.scale *ℤ dot r w v ≡ d *ℤ sum_below (λ i. dot r (inv.row i) v *ℤ x i) r
determined r column inv x w d g v =
    inv.spread w v
    ∙ sum-congr (λ i. dot r (inv.row i) v *ℤ dot r w (column i)) (λ i. dot r (inv.row i) v *ℤ (d *ℤ x i)) r (λ i h. ap (λ (t : ℤ). dot r (inv.row i) v *ℤ t) (g.product i h))
    ∙ drawn_out r d (λ i. dot r (inv.row i) v) x

-- row i over its denominator is row i of the inverse over its scale
pub row_determined : (r : ℕ) (column : ℕ → ℕ → ℤ) (inv : Inverse r column) (i : ℕ) (w : ℕ → ℤ) (d : ℤ) → i < r → Gives r column (unit i) w d → (v : ℕ → ℤ) → inv.scale *ℤ dot r w v ≡ d *ℤ dot r (inv.row i) v
row_determined r column inv i w d inside g v =
    determined r column inv (unit i) w d g v ∙ ap (λ (t : ℤ). d *ℤ t) (dot-unit r i (λ j. dot r (inv.row j) v) inside)

-- the same entry by entry, and then for lines
pub entry_determined : (r : ℕ) (column : ℕ → ℕ → ℤ) (inv : Inverse r column) (i : ℕ) (w : ℕ → ℤ) (d : ℤ) → i < r → Gives r column (unit i) w d → (k : ℕ) → k < r → inv.scale *ℤ w k ≡ d *ℤ inv.row i k
entry_determined r column inv i w d inside g k l =
    ap (λ (t : ℤ). inv.scale *ℤ t) (sym (dot-unit r k w l)) ∙ row_determined r column inv i w d inside g (unit k) ∙ ap (λ (t : ℤ). d *ℤ t) (dot-unit r k (inv.row i) l)

pub line_determined : (r : ℕ) (b : ℕ → ℤ) (column : ℕ → ℕ → ℤ) (inv : Inverse r column) (i : ℕ) (w : ℕ → ℤ) (d : ℤ) → i < r → Gives r column (unit i) w d → (k : ℕ) → k < suc r → inv.scale *ℤ line r b w k ≡ d *ℤ line r b (inv.row i) k
line_determined r b column inv i w d inside g zero l = row_determined r column inv i w d inside g b
line_determined r b column inv i w d inside g (suc k) l = entry_determined r column inv i w d inside g k (omega arith)

-- lists that give the same are in proportion, and so are their products with any other
pub same_proportion : (r : ℕ) (column : ℕ → ℕ → ℤ) → Inverse r column → (x v w : ℕ → ℤ) (d e : ℤ) → Gives r column x v d → Gives r column x w e → (y : ℕ → ℤ) → e *ℤ dot r v y ≡ d *ℤ dot r w y
same_proportion r column inv x v w d e first second y =
    cancel_pos inv.scale (e *ℤ dot r v y) (d *ℤ dot r w y) inv.positive
    (mul_left_comm inv.scale e (dot r v y)
    ∙ ap (λ (z : ℤ). e *ℤ z) (determined r column inv x v d first y)
    ∙ mul_left_comm e d (sum_below (λ i. dot r (inv.row i) y *ℤ x i) r)
    ∙ sym (mul_left_comm inv.scale d (dot r w y) ∙ ap (λ (z : ℤ). d *ℤ z) (determined r column inv x w e second y)))

-- and the same, without a common divisor
pub unique : (r : ℕ) (column : ℕ → ℕ → ℤ) (inv : Inverse r column) (x v w : ℕ → ℤ) (d e : ℤ) → Gives r column x v d → Gives r column x w e → IsCoprime r v d → IsCoprime r w e → (d ≡ e) × ((k : ℕ) → k < r → v k ≡ w k)
unique r column inv x v w d e first second v_coprime w_coprime =
    same_numbers r v w d e first.positive second.positive
    (λ k l. ap (λ (z : ℤ). e *ℤ z) (sym (dot-unit r k v l)) ∙ same_proportion r column inv x v w d e first second (unit k) ∙ ap (λ (z : ℤ). d *ℤ z) (dot-unit r k w l))
    v_coprime w_coprime
