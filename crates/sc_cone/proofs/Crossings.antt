-- Where the values of two lists cross, by their forms.
use Rattle.std.proofs.Common.{◌≡◌, ℕ, zero, suc, ℤ, pos, negsuc, ◌+ℤ◌, ◌-ℤ◌, ◌*ℤ◌, ◌<ℤ◌, ◌≤ℤ◌, neg_ℤ, ◌↔◌, unsigned_abs, arith, ap₂, subst, ◌∙◌}
use Rattle.std.proofs.lemmas.Int.{ints}
use Rattle.sc_algebra.proofs.Ints.{products, mul-zero, mul-le_left}
use Rattle.sc_theory.specs.Chains.{Chain, IsChain}
use Rattle.sc_theory.specs.Prices.{Prices}
use Rattle.sc_cone.specs.declared.Direction.{Direction}
use Rattle.sc_cone.specs.declared.Quadrant.{Quadrant}
use Rattle.sc_cone.specs.Directions.{IsIn, TurnsLeft}
use Rattle.sc_cone.specs.Cones.{chain_of}
use Rattle.sc_cone.specs.Values.{SameValueAt, list_num, list_den, first_form, second_form, first_gap, second_gap}
use Rattle.sc_cone.specs.Searches.{Reached, IsReached, IsOpen}
use Rattle.sc_cone.proofs.Forms.{value_by_form}
use Rattle.sc_cone.proofs.Turning.{product_above}
use Rattle.sc_cone.proofs.NextDirections.{more_at_first, less_at_second}

difference : (a b f g h k u v : ℤ) → (a *ℤ f +ℤ b *ℤ g) *ℤ u -ℤ (a *ℤ h +ℤ b *ℤ k) *ℤ v ≡ a *ℤ (f *ℤ u -ℤ h *ℤ v) -ℤ b *ℤ (k *ℤ v -ℤ g *ℤ u)
difference a b f g h k u v = simp products (omega (arith, ints))

-- how much more one list gives than another at a direction, by `first_gap` and `second_gap`
pub gaps : (q : Quadrant) (first second : Chain) (l m : Prices) (d : Direction) → list_num (chain_of q first second d) l *ℤ list_den m -ℤ list_num (chain_of q first second d) m *ℤ list_den l ≡ pos (unsigned_abs d.s) *ℤ first_gap first l m -ℤ pos (unsigned_abs d.t) *ℤ second_gap first second l m
gaps q first second l m d =
    ap₂ (λ (x y : ℤ). x *ℤ list_den m -ℤ y *ℤ list_den l) (value_by_form q first second l d) (value_by_form q first second m d)
    ∙ difference (pos (unsigned_abs d.s)) (pos (unsigned_abs d.t)) (first_form first l) (second_form first second l) (first_form first m) (second_form first second m) (list_den m) (list_den l)

same_from : (x y z w : ℤ) → x -ℤ y ≡ z -ℤ w → x ≡ y → z ≡ w
same_from x y z w e h = omega (arith, ints)

same_to : (x y z w : ℤ) → x -ℤ y ≡ z -ℤ w → z ≡ w → x ≡ y
same_to x y z w e h = omega (arith, ints)

-- two lists have one value at a direction exactly where these two balance there
pub crossing : (q : Quadrant) (first second : Chain) (l m : Prices) (d : Direction) → SameValueAt q first second l m d ↔ (pos (unsigned_abs d.s) *ℤ first_gap first l m ≡ pos (unsigned_abs d.t) *ℤ second_gap first second l m)
crossing q first second l m d = (same_from _ _ _ _ (gaps q first second l m d), same_to _ _ _ _ (gaps q first second l m d))

-- two numbers, one sum of multiples above 0 and one below: the numbers have one sign
not_above : (a b : ℕ) (p t : ℤ) → p ≤ℤ pos 0 → pos 0 ≤ℤ t → pos 0 <ℤ (pos a *ℤ p -ℤ pos b *ℤ t) → ⊥
not_above a b p t low high h = omega (arith, ints, h, mul-le_left a p (pos 0) low, mul-le_left b (pos 0) t high, mul-zero (pos a), mul-zero (pos b))

not_under : (a b : ℕ) (p t : ℤ) → pos 0 ≤ℤ p → t ≤ℤ pos 0 → (pos a *ℤ p -ℤ pos b *ℤ t) <ℤ pos 0 → ⊥
not_under a b p t high low h = omega (arith, ints, h, mul-le_left a (pos 0) p high, mul-le_left b t (pos 0) low, mul-zero (pos a), mul-zero (pos b))

one_sign : (a b c d : ℕ) (p t : ℤ) → pos 0 <ℤ (pos a *ℤ p -ℤ pos b *ℤ t) → (pos c *ℤ p -ℤ pos d *ℤ t) <ℤ pos 0 → pos 0 <ℤ (p *ℤ t)
one_sign a b c d (pos zero) (pos t) h k = absurd (not_above a b (pos 0) (pos t) (omega (arith, ints)) (omega (arith, ints)) h)
one_sign a b c d (pos zero) (negsuc t) h k = absurd (not_under c d (pos 0) (negsuc t) (omega (arith, ints)) (omega (arith, ints)) k)
one_sign a b c d (pos (suc p)) (pos zero) h k = absurd (not_under c d (pos (suc p)) (pos 0) (omega (arith, ints)) (omega (arith, ints)) k)
one_sign a b c d (pos (suc p)) (pos (suc t)) h k = product_above (pos (suc p)) (pos (suc t)) (omega (arith, ints)) (omega (arith, ints))
one_sign a b c d (pos (suc p)) (negsuc t) h k = absurd (not_under c d (pos (suc p)) (negsuc t) (omega (arith, ints)) (omega (arith, ints)) k)
one_sign a b c d (negsuc p) (pos t) h k = absurd (not_above a b (negsuc p) (pos t) (omega (arith, ints)) (omega (arith, ints)) h)
one_sign a b c d (negsuc p) (negsuc t) h k =
    subst (λ (x : ℤ). pos 0 <ℤ x) (negatives (pos (suc p)) (pos (suc t))) (product_above (pos (suc p)) (pos (suc t)) (omega (arith, ints)) (omega (arith, ints)))
  where
    negatives : (x y : ℤ) → x *ℤ y ≡ neg_ℤ x *ℤ neg_ℤ y
    negatives x y = simp products (omega (arith, ints))

-- between open neighbours the two have one sign, and neither is 0
pub gaps_have_one_sign : (q : Quadrant) (first second : Chain) (r u : Reached) → IsChain first → IsChain second → IsReached q first second r → IsReached q first second u → IsIn q r.direction → IsIn q u.direction → TurnsLeft r.direction u.direction → IsOpen q first second r u → pos 0 <ℤ (first_gap first r.list u.list *ℤ second_gap first second r.list u.list)
gaps_have_one_sign q first second r u is_first is_second got_r got_u in_r in_u left both_open =
    one_sign (unsigned_abs r.direction.s) (unsigned_abs r.direction.t) (unsigned_abs u.direction.s) (unsigned_abs u.direction.t) (first_gap first r.list u.list) (second_gap first second r.list u.list)
    (subst (λ (x : ℤ). pos 0 <ℤ x) (gaps q first second r.list u.list r.direction) (more_at_first q first second is_first is_second r u got_r got_u in_r in_u left both_open))
    (subst (λ (x : ℤ). x <ℤ pos 0) (gaps q first second r.list u.list u.direction) (less_at_second q first second is_first is_second r u got_r got_u in_r in_u left both_open))
