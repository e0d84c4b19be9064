-- The numbers of a list's form, and its value at a direction.
use Rattle.std.proofs.Common.{◌≡◌, ℕ, ◌+◌, ◌*◌, ◌≤◌, length, ℤ, pos, ◌+ℤ◌, ◌-ℤ◌, ◌*ℤ◌, ◌<ℤ◌, ◌↔◌, ◌==◌, Bool, IsTrue, Ordering, unsigned_abs, FitsSigned, arith, sym, ap, ap₂, subst, subst₂, ◌∙◌}
use Rattle.std.specs.Int.{w128}
use Rattle.std.specs.Cmp.{Equal-is}
use Rattle.std.specs.Ordering.{int_cmp, ordering_index}
use Rattle.std.proofs.lemmas.Cmp.{is_eq_index}
use Rattle.sc_fraction.specs.Ints.{same_from_int_cmp, int_cmp_same}
use Rattle.std.proofs.lemmas.Int.{ints}
use Rattle.sc_theory.specs.Chains.{Chain, weighted_length}
use Rattle.sc_theory.specs.Prices.{Prices}
use Rattle.sc_chain.specs.Faults.{IsSmallChain}
use Rattle.sc_text.specs.PriceLines.{IsScaleInRange}
use Rattle.sc_cone.specs.declared.Direction.{Direction}
use Rattle.sc_cone.specs.declared.Quadrant.{Quadrant}
use Rattle.sc_cone.specs.Cones.{chain_of}
use Rattle.sc_cone.specs.Values.{IsValueOf, list_num, list_den, first_form}
use Rattle.sc_cone.proofs.Forms.{value_by_form}
use Rattle.sc_cone.proofs.NextDirections.{tight_by_value}
use Rattle.sc_chain.specs.declared.limits.TheConstants.{MAX_LENGTH}
use Rattle.sc_certificate.specs.Bounds.{bound_from, IsWithinPrices}
use Rattle.sc_certificate.proofs.BoundSums.{sum_size, fits, bound_from_first}
use Rattle.sc_crossing.specs.inside.Sizes.{form_from}
use Rattle.sc_crossing.proofs.Sizes.{difference_size, scaled_size, times_size}

pub scale_size : (z : ℤ) → IsScaleInRange z → IsWithinPrices 1 z
scale_size z h = omega (arith, ints, h.low, h.high)

-- ---- the form

pub two : (x : ℤ) → pos 2 *ℤ x ≡ x +ℤ x
two x = omega (arith, ints)

module _ (c : Chain) (d x : ℤ) (small : IsSmallChain c) (scale : IsScaleInRange d) (total : IsWithinPrices (weighted_length c) x) where
  scaled : IsWithinPrices (weighted_length c) (d *ℤ pos (weighted_length c))
  scaled = scaled_size d (weighted_length c) (omega (arith, scale_size d scale))

  scaled_fits : FitsSigned w128 (d *ℤ pos (weighted_length c))
  scaled_fits = fits (weighted_length c) (d *ℤ pos (weighted_length c)) (omega (arith, small.light)) scaled

  doubled_fits : FitsSigned w128 (pos 2 *ℤ x)
  doubled_fits = subst (FitsSigned w128) (sym (two x)) (fits (weighted_length c + weighted_length c) (x +ℤ x) (omega (arith, small.light)) (sum_size (weighted_length c) (weighted_length c) x x total total))

  form_size : IsWithinPrices (3 * weighted_length c) (d *ℤ pos (weighted_length c) -ℤ pos 2 *ℤ x)
  form_size =
      subst (λ (z : ℤ). IsWithinPrices (3 * weighted_length c) (d *ℤ pos (weighted_length c) -ℤ z)) (sym (two x))
      (difference_size (weighted_length c) (d *ℤ pos (weighted_length c)) x scaled total)

  form_fits : FitsSigned w128 (d *ℤ pos (weighted_length c) -ℤ pos 2 *ℤ x)
  form_fits = fits (3 * weighted_length c) (d *ℤ pos (weighted_length c) -ℤ pos 2 *ℤ x) (omega (arith, small.light)) form_size

-- the same of numbers that are known to be these
module _ (c : Chain) (list : Prices) (k : ℕ) (d f b : ℤ) (small : IsSmallChain c) (scale : IsScaleInRange list.scale)
    (d_is : d ≡ list.scale) (f_is : f ≡ pos (weighted_length c)) (b_is : b ≡ bound_from c list k) (total : IsWithinPrices (weighted_length c) b) where
  pub form_is : d *ℤ f -ℤ pos 2 *ℤ b ≡ form_from c list k
  form_is =
      ap₂ (λ (x y : ℤ). x *ℤ y -ℤ pos 2 *ℤ b) d_is f_is
      ∙ ap (λ (z : ℤ). list.scale *ℤ pos (weighted_length c) -ℤ pos 2 *ℤ z) b_is

  pub length_fits : FitsSigned w128 (d *ℤ f)
  length_fits = subst₂ (λ (x y : ℤ). FitsSigned w128 (x *ℤ y)) (sym d_is) (sym f_is) (scaled_fits c list.scale b small scale total)

  pub bound_fits : FitsSigned w128 (pos 2 *ℤ b)
  bound_fits = doubled_fits c list.scale b small scale total

  pub number_fits : FitsSigned w128 (d *ℤ f -ℤ pos 2 *ℤ b)
  number_fits = subst₂ (λ (x y : ℤ). FitsSigned w128 (x *ℤ y -ℤ pos 2 *ℤ b)) (sym d_is) (sym f_is) (form_fits c list.scale b small scale total)

  pub number_small : IsWithinPrices (3 * weighted_length c) (d *ℤ f -ℤ pos 2 *ℤ b)
  number_small =
      subst₂ (λ (x y : ℤ). IsWithinPrices (3 * weighted_length c) (x *ℤ y -ℤ pos 2 *ℤ b)) (sym d_is) (sym f_is) (form_size c list.scale b small scale total)

-- the form of the words from the first on is the first chain's
pub first_form_is : (first : Chain) (list : Prices) → form_from first list 0 ≡ first_form first list
first_form_is first list = ap (λ (z : ℤ). list.scale *ℤ pos (weighted_length first) -ℤ pos 2 *ℤ z) (bound_from_first first list)

-- ---- the value at a direction

module _ (first second : Chain) (list : Prices) (d : Direction) (k : ℕ) (a f b g : ℤ)
    (a_is : a ≡ pos (unsigned_abs d.s)) (b_is : b ≡ pos (unsigned_abs d.t)) (k_is : k ≡ length first)
    (f_is : f ≡ form_from first list 0) (g_is : g ≡ form_from second list k) where
  -- a direction's numbers times those of the list's form are the numerator of the list's value there
  pub value_is : (q : Quadrant) → a *ℤ f +ℤ b *ℤ g ≡ list_num (chain_of q first second d) list
  value_is q =
      ap₂ (λ (x y : ℤ). x *ℤ f +ℤ y *ℤ g) a_is b_is
      ∙ ap₂ (λ (x y : ℤ). pos (unsigned_abs d.s) *ℤ x +ℤ pos (unsigned_abs d.t) *ℤ y) (f_is ∙ first_form_is first list)
      (g_is ∙ ap (λ (n : ℕ). form_from second list n) k_is)
      ∙ sym (value_by_form q first second list d)

part_size : (k l : ℕ) (a f : ℤ) → a ≡ pos k → IsWithinPrices (3 * l) f → IsWithinPrices (k * (3 * l)) (a *ℤ f)
part_size k l a f a_is small = subst (λ (x : ℤ). IsWithinPrices (k * (3 * l)) (x *ℤ f)) (sym a_is) (times_size k (3 * l) f small)

-- each part of the value at a light direction fits, and so does their sum
pub part_fits : (k l : ℕ) (a f : ℤ) → a ≡ pos k → k * l ≤ MAX_LENGTH → IsWithinPrices (3 * l) f → FitsSigned w128 (a *ℤ f)
part_fits k l a f a_is light small = fits (k * (3 * l)) (a *ℤ f) (omega (arith, light)) (part_size k l a f a_is small)

pub parts_fit : (k l m n : ℕ) (a f b g : ℤ) → a ≡ pos k → b ≡ pos m → k * l + m * n ≤ MAX_LENGTH → IsWithinPrices (3 * l) f → IsWithinPrices (3 * n) g → FitsSigned w128 (a *ℤ f +ℤ b *ℤ g)
parts_fit k l m n a f b g a_is b_is light small_f small_g =
    fits (k * (3 * l) + m * (3 * n)) (a *ℤ f +ℤ b *ℤ g) (omega (arith, light))
    (sum_size (k * (3 * l)) (m * (3 * n)) (a *ℤ f) (b *ℤ g) (part_size k l a f a_is small_f) (part_size m n b g b_is small_g))

-- either part of the length of a light direction's chain is within the limit
pub first_light : (k l m n : ℕ) → k * l + m * n ≤ MAX_LENGTH → k * l ≤ MAX_LENGTH
first_light k l m n light = omega (arith, light)

pub second_light : (k l m n : ℕ) → k * l + m * n ≤ MAX_LENGTH → m * n ≤ MAX_LENGTH
second_light k l m n light = omega (arith, light)

-- ---- tightness

-- by the order of two quotients, where the value is known
pub tight_test : (c : Chain) (list : Prices) (x d n e : ℤ) (o : Ordering) (t : Bool) (num den : ℤ) → t ≡ (ordering_index o == 1)
    → o ≡ int_cmp (x *ℤ e) (n *ℤ (pos 4 *ℤ d)) → x ≡ list_num c list → d ≡ list.scale → n ≡ num → e ≡ den → pos 0 <ℤ list.scale
    → IsValueOf c num den → IsTrue t ↔ IsValueOf c (list_num c list) (list_den list)
tight_test c list x d n e o t num den test compared x_is d_is n_is e_is some value =
    let law = tight_by_value c list num den some value in
    let left : x *ℤ e ≡ list_num c list *ℤ den = ap₂ (λ (u v : ℤ). u *ℤ v) x_is e_is in
    let right : n *ℤ (pos 4 *ℤ d) ≡ num *ℤ list_den list = ap₂ (λ (u v : ℤ). u *ℤ (pos 4 *ℤ v)) n_is d_is in (
      λ h. law.1 (sym left ∙ same_from_int_cmp (x *ℤ e) (n *ℤ (pos 4 *ℤ d)) (sym compared ∙ (Equal-is o).0 (is_eq_index o ∙ sym test ∙ h)) ∙ right),
      λ tight. test ∙ sym (is_eq_index o) ∙ (Equal-is o).1 (compared ∙ int_cmp_same (x *ℤ e) (n *ℤ (pos 4 *ℤ d)) (left ∙ law.0 tight ∙ sym right)),
    )
