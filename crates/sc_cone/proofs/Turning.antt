-- Signs of areas, and turning left within a quadrant.
use Rattle.std.proofs.Common.{◌≡◌, ◌⊎◌, zero, suc, ℤ, pos, negsuc, ◌+ℤ◌, ◌-ℤ◌, ◌*ℤ◌, ◌<ℤ◌, ◌≤ℤ◌, neg_ℤ, inl, inr, arith, refl}
use Rattle.std.proofs.lemmas.Int.{ints}
use Rattle.sc_algebra.proofs.Ints.{products, mul_comm, sub_mul, mul-le_factor, mul-zero, zero-mul}
use Rattle.sc_cone.specs.declared.Direction.{Direction}
use Rattle.sc_cone.specs.declared.Quadrant.{Quadrant}
use Rattle.sc_cone.specs.declared.Quadrant.TheVariants.{Lower, Upper}
use Rattle.sc_cone.specs.Directions.{IsIn, cross, TurnsLeft}

pub not_negative : (a : ℤ) → pos 0 <ℤ a → pos 0 ≤ℤ a
not_negative a h = omega (arith, ints)

pub cases_sign : (a : ℤ) → (a ≡ pos 0) ⊎ ((pos 0 <ℤ a) ⊎ (a <ℤ pos 0))
cases_sign (pos zero) = inl refl
cases_sign (pos (suc n)) = inr (inl (omega (arith, ints)))
cases_sign (negsuc n) = inr (inr (omega (arith, ints)))

turned_plain : (a b c d : ℤ) → a *ℤ d -ℤ b *ℤ c ≡ pos 0 -ℤ (c *ℤ b -ℤ d *ℤ a)
turned_plain a b c d = omega (arith, ints, mul_comm a d, mul_comm b c)

pub turned : (d e : Direction) → cross d e <ℤ pos 0 → TurnsLeft e d
turned d e h = omega (arith, ints, turned_plain d.s d.t e.s e.t)

pub not_both_ways : (d e : Direction) → TurnsLeft d e → TurnsLeft e d → ⊥
not_both_ways d e left back = omega (arith, ints, turned_plain d.s d.t e.s e.t)

-- what the area says of the signs: s t' - t s' above 0, with s and s' not below 0
pub product_positive : (a b : ℤ) → pos 0 ≤ℤ b → pos 0 <ℤ (a *ℤ b) → pos 0 <ℤ a
product_positive (pos zero) b low h = absurd (omega (arith, ints, zero-mul b))
product_positive (pos (suc a)) b low h = omega (arith, ints)
product_positive (negsuc a) b low h = absurd (omega (arith, ints, mul_comm (negsuc a) b, mul-le_factor b (negsuc a) (pos 0) low (omega (arith, ints)), mul-zero b))

-- what is to the right of a direction on or below the first axis is below it
pub below_before : (s t s' t' : ℤ) → pos 0 ≤ℤ s → pos 0 ≤ℤ s' → t' ≤ℤ pos 0 → pos 0 <ℤ (s *ℤ t' -ℤ t *ℤ s') → t <ℤ pos 0
below_before s t s' t' low low' below h =
    let first : (s *ℤ t') ≤ℤ (s *ℤ pos 0) = mul-le_factor s t' (pos 0) low below in
    let above : pos 0 <ℤ ((pos 0 -ℤ t) *ℤ s') = omega (arith, ints, h, first, mul-zero s, negated t s') in
    turn_sign t (product_positive (pos 0 -ℤ t) s' low' above)
  where
    negated : (t s' : ℤ) → (pos 0 -ℤ t) *ℤ s' ≡ pos 0 -ℤ t *ℤ s'
    negated t s' = omega (arith, ints, sub_mul (pos 0) t s', zero-mul s')

    turn_sign : (t : ℤ) → pos 0 <ℤ (pos 0 -ℤ t) → t <ℤ pos 0
    turn_sign t h = omega (arith, ints)

-- and what is to the left of one on or above it is above it
pub above_after : (s t s' t' : ℤ) → pos 0 ≤ℤ s → pos 0 ≤ℤ s' → pos 0 ≤ℤ t → pos 0 <ℤ (s *ℤ t' -ℤ t *ℤ s') → pos 0 <ℤ t'
above_after s t s' t' low low' above h =
    let second : (t *ℤ pos 0) ≤ℤ (t *ℤ s') = mul-le_factor t (pos 0) s' above low' in
    let first : pos 0 <ℤ (t' *ℤ s) = omega (arith, ints, h, second, mul-zero t, mul_comm s t') in
    product_positive t' s low first

-- ---- turning left twice
through_s : (ds dt es et xs xt : ℤ) → (ds *ℤ xt -ℤ dt *ℤ xs) *ℤ es ≡ (ds *ℤ et -ℤ dt *ℤ es) *ℤ xs +ℤ (es *ℤ xt -ℤ et *ℤ xs) *ℤ ds
through_s ds dt es et xs xt = simp products (omega (arith, ints))

through_t : (ds dt es et xs xt : ℤ) → (ds *ℤ xt -ℤ dt *ℤ xs) *ℤ neg_ℤ et ≡ (ds *ℤ et -ℤ dt *ℤ es) *ℤ neg_ℤ xt +ℤ (es *ℤ xt -ℤ et *ℤ xs) *ℤ neg_ℤ dt
through_t ds dt es et xs xt = simp products (omega (arith, ints))

pub product_above : (a b : ℤ) → pos 0 <ℤ a → pos 0 <ℤ b → pos 0 <ℤ (a *ℤ b)
product_above a (pos zero) p q = absurd (omega (arith, ints))
product_above a (pos (suc n)) p q = omega (arith, ints, mul-le_factor a (pos 1) (pos (suc n)) (not_negative a p) (omega (arith, ints)))
product_above a (negsuc n) p q = absurd (omega (arith, ints))

product_low : (a b : ℤ) → pos 0 ≤ℤ a → pos 0 ≤ℤ b → pos 0 ≤ℤ (a *ℤ b)
product_low a b p q = omega (arith, ints, mul-le_factor a (pos 0) b p q, mul-zero a)

-- one area by the two others, each times a number that isn't negative, the last above 0
by_parts : (a b c x y z : ℤ) → a *ℤ x ≡ b *ℤ y +ℤ c *ℤ z → pos 0 <ℤ b → pos 0 <ℤ c → pos 0 ≤ℤ x → pos 0 ≤ℤ y → pos 0 <ℤ z → pos 0 <ℤ a
by_parts a b c x y z e p q px py pz =
    product_positive a x px (omega (arith, ints, e, product_low b y (not_negative b p) py, product_above c z q pz))

size_low : (t : ℤ) → t ≤ℤ pos 0 → pos 0 ≤ℤ neg_ℤ t
size_low t h = omega (arith, ints)

size_above : (t : ℤ) → t <ℤ pos 0 → pos 0 <ℤ neg_ℤ t
size_above t h = omega (arith, ints)

-- what is to the right of another direction of the upper quadrant has s above 0
pub right_part : (s t s' t' : ℤ) → pos 0 ≤ℤ t → pos 0 ≤ℤ s' → pos 0 ≤ℤ t' → pos 0 <ℤ (s *ℤ t' -ℤ t *ℤ s') → pos 0 <ℤ s
right_part s t s' t' low low' up' h =
    product_positive s t' up' (omega (arith, ints, h, product_low t s' low low'))

-- and so has what is to the left of another direction of the lower one
pub left_part : (s t s' t' : ℤ) → pos 0 ≤ℤ s → t ≤ℤ pos 0 → t' ≤ℤ pos 0 → pos 0 <ℤ (s *ℤ t' -ℤ t *ℤ s') → pos 0 <ℤ s'
left_part s t s' t' low down' down h =
    product_positive s' (neg_ℤ t) (size_low t down') (omega (arith, ints, h, turned_back s' t, mul-le_factor s t' (pos 0) low down, mul-zero s))
  where
    turned_back : (a b : ℤ) → a *ℤ neg_ℤ b ≡ neg_ℤ (b *ℤ a)
    turned_back a b = simp products (omega (arith, ints))

-- within a quadrant, to the left of what is to the left is to the left
pub turns_on : (q : Quadrant) (d e x : Direction) → IsIn q d → IsIn q e → IsIn q x → TurnsLeft d e → TurnsLeft e x → TurnsLeft d x
turns_on Upper d e x in_d in_e in_x left next =
    by_parts (cross d x) (cross d e) (cross e x) e.s x.s d.s (through_s d.s d.t e.s e.t x.s x.t) left next in_e.0 in_x.0 (right_part d.s d.t e.s e.t in_d.1 in_e.0 in_e.1 left)
turns_on Lower d e x in_d in_e in_x left next =
    by_parts (cross d x) (cross d e) (cross e x) (neg_ℤ e.t) (neg_ℤ x.t) (neg_ℤ d.t) (through_t d.s d.t e.s e.t x.s x.t) left next (size_low e.t in_e.1) (size_low x.t in_x.1)
    (size_above d.t (below_before d.s d.t e.s e.t in_d.0 in_e.0 in_e.1 left))
