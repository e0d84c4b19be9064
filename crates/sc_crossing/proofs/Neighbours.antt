-- The crossing of two lists' forms is the direction at which they have one value.
use Rattle.std.proofs.Common.{◌≡◌, ◌≢◌, ℕ, ◌<◌, ℤ, pos, ◌-ℤ◌, ◌*ℤ◌, ◌<ℤ◌, ◌≤ℤ◌, unsigned_abs, arith, sym, ap, subst, subst₂, ◌∙◌}
use Rattle.std.proofs.lemmas.Int.{ints}
use Rattle.std.specs.Int.{IsGcd}
use Rattle.sc_algebra.proofs.Ints.{mul_comm, zero-mul}
use Rattle.sc_fraction.specs.declared.frac.Frac.{Frac}
use Rattle.sc_fraction.specs.Frac.{numerator, denominator, IsDifference}
use Rattle.sc_fraction.specs.Ints.{mul_cancel_z}
use Rattle.sc_fraction.proofs.Arithmetic.{mul_positive}
use Rattle.sc_theory.specs.Chains.{Chain, IsChain}
use Rattle.sc_cone.specs.declared.Direction.{Direction}
use Rattle.sc_cone.specs.declared.Quadrant.{Quadrant}
use Rattle.sc_cone.specs.Directions.{IsIn, IsPrimitive, IsCombination}
use Rattle.sc_cone.specs.Values.{SameValueAt, first_form, second_form, first_gap, second_gap}
use Rattle.sc_cone.specs.Searches.{Reached, IsGap, IsInside, IsNext}
use Rattle.sc_cone.proofs.Sizes.{from_zero}
use Rattle.sc_cone.proofs.Crossings.{crossing, gaps_have_one_sign}
use Rattle.sc_crossing.specs.declared.form.Form.{Form}
use Rattle.sc_crossing.specs.declared.fault.NextFault.{NextFault}
use Rattle.sc_crossing.specs.declared.fault.NextFault.TheVariants.{Cross, Length}
use Rattle.sc_crossing.specs.Forms.{IsFormOf, IsNextFault}
use Rattle.sc_crossing.specs.inside.Forms.{IsCrossing, IsCrossFault}
use Rattle.sc_crossing.proofs.PrimitiveSums.{sum_within}
use Rattle.sc_crossing.proofs.Balances.{difference_by_lists, ratio_balances, gap_in_fours, four_across, balance_is_above, not_zero_by}

module _ (q : Quadrant) (first second : Chain) (r u : Reached) (f g : Form) (is_first : IsChain first) (is_second : IsChain second)
    (gap : IsGap q first second r u) (form_r : IsFormOf first second r.list f) (form_u : IsFormOf first second u.list g)
    (some_r : pos 0 <ℤ r.list.scale) (some_u : pos 0 <ℤ u.list.scale) where
  abbrev own_scale : ℤ
  own_scale = r.list.scale

  abbrev other_scale : ℤ
  other_scale = u.list.scale

  abbrev more_first : ℤ
  more_first = first_form first r.list *ℤ other_scale -ℤ first_form first u.list *ℤ own_scale

  abbrev more_second : ℤ
  more_second = second_form first second u.list *ℤ own_scale -ℤ second_form first second r.list *ℤ other_scale

  first_gap_is : first_gap first r.list u.list ≡ pos 4 *ℤ more_first
  first_gap_is = gap_in_fours (first_form first r.list) other_scale (first_form first u.list) own_scale

  second_gap_is : second_gap first second r.list u.list ≡ pos 4 *ℤ more_second
  second_gap_is = gap_in_fours (second_form first second u.list) own_scale (second_form first second r.list) other_scale

  one_sign : pos 0 <ℤ (first_gap first r.list u.list *ℤ second_gap first second r.list u.list)
  one_sign = gaps_have_one_sign q first second r u is_first is_second gap.here gap.there gap.here_within gap.there_within gap.left gap.opened

  first_difference : (x : Frac) → IsDifference f.first g.first x → numerator x *ℤ (own_scale *ℤ other_scale) ≡ more_first *ℤ denominator x
  first_difference x difference =
      difference_by_lists (numerator f.first) (denominator f.first) (numerator g.first) (denominator g.first)
      (first_form first r.list) own_scale (first_form first u.list) other_scale (numerator x) (denominator x)
      f.first.positive g.first.positive form_r.0 form_u.0 difference

  second_difference : (x : Frac) → IsDifference g.second f.second x → numerator x *ℤ (own_scale *ℤ other_scale) ≡ more_second *ℤ denominator x
  second_difference x difference =
      ap (λ (z : ℤ). numerator x *ℤ z) (mul_comm own_scale other_scale)
      ∙ difference_by_lists (numerator g.second) (denominator g.second) (numerator f.second) (denominator f.second)
      (second_form first second u.list) other_scale (second_form first second r.list) own_scale (numerator x) (denominator x)
      g.second.positive f.second.positive form_u.1 form_r.1 difference

  -- the forms differ for the first chain
  pub first_forms_differ : (x : Frac) → IsDifference f.first g.first x → numerator x ≢ pos 0
  first_forms_differ x difference none =
      not_zero_by (first_gap first r.list u.list) (second_gap first second r.list u.list) one_sign
      (first_gap_is ∙ ap (λ (z : ℤ). pos 4 *ℤ z) no_more)
    where
      no_more : more_first ≡ pos 0
      no_more =
          mul_cancel_z (denominator x) more_first (pos 0) x.positive
          (mul_comm (denominator x) more_first ∙ sym (first_difference x difference) ∙ ap (λ (z : ℤ). z *ℤ (own_scale *ℤ other_scale)) none
          ∙ zero-mul (own_scale *ℤ other_scale) ∙ sym (zero-mul (denominator x)) ∙ mul_comm (pos 0) (denominator x))

  module _ (c : Frac) (crosses : IsCrossing f g c) where
    balances : numerator c *ℤ more_first ≡ denominator c *ℤ more_second
    balances =
        ratio_balances (numerator crosses.0) (denominator crosses.0) (numerator crosses.1) (denominator crosses.1)
        (numerator c) (denominator c) more_second more_first (own_scale *ℤ other_scale)
        crosses.0.positive crosses.1.positive (mul_positive own_scale other_scale some_r some_u)
        (second_difference crosses.0 crosses.2) (first_difference crosses.1 crosses.3) crosses.4

    gaps_balance : numerator c *ℤ first_gap first r.list u.list ≡ denominator c *ℤ second_gap first second r.list u.list
    gaps_balance =
        ap (λ (z : ℤ). numerator c *ℤ z) first_gap_is
        ∙ four_across (numerator c) (denominator c) more_second more_first balances
        ∙ ap (λ (z : ℤ). denominator c *ℤ z) (sym second_gap_is)

    pub crossing_above : pos 0 <ℤ numerator c
    crossing_above =
        balance_is_above (numerator c) (denominator c) (first_gap first r.list u.list) (second_gap first second r.list u.list)
        c.positive one_sign gaps_balance

    module _ (x : Direction) (within : IsIn q x) (s_is : x.s ≡ numerator c) (t_is : unsigned_abs x.t ≡ unsigned_abs (denominator c)) where
      s_size : pos (unsigned_abs x.s) ≡ numerator c
      s_size = sym (from_zero x.s (subst (λ (z : ℤ). pos 0 ≤ℤ z) (sym s_is) (omega (arith, ints, crossing_above)))) ∙ s_is

      t_size : pos (unsigned_abs x.t) ≡ denominator c
      t_size = ap pos t_is ∙ sym (from_zero (denominator c) (omega (arith, ints, c.positive)))

      same_value : SameValueAt q first second r.list u.list x
      same_value =
          (crossing q first second r.list u.list x).1
          (ap (λ (z : ℤ). z *ℤ first_gap first r.list u.list) s_size ∙ gaps_balance
          ∙ ap (λ (z : ℤ). z *ℤ second_gap first second r.list u.list) (sym t_size))

      primitive : IsPrimitive x
      primitive = subst₂ (λ (m n : ℕ). IsGcd m n 1) (sym (ap unsigned_abs s_is)) (sym t_is) c.reduced

      -- the crossing is the next direction between two neighbours that are no ends of the quadrant
      pub crossing_next : IsInside r.direction → IsInside u.direction → IsNext q first second r u x
      crossing_next in_r in_u = record {
        within = within;
        primitive = primitive;
        crossing = λ _ _. same_value;
        sum = λ not_both. absurd (not_both (in_r, in_u));
      }

-- the primitive direction of the sum is the next one where either neighbour is an end of the quadrant
pub sum_next : (q : Quadrant) (first second : Chain) (r u : Reached) (x : Direction) → IsGap q first second r u
    → (IsInside r.direction × IsInside u.direction → ⊥) → IsPrimitive x
    → (k : ℕ) × (0 < k) × IsCombination k 1 1 r.direction u.direction x → IsNext q first second r u x
sum_next q first second r u x gap not_both primitive (k, some, sum) = record {
  within = sum_within q r.direction u.direction x k some gap.here_within gap.there_within sum;
  primitive = primitive;
  crossing = λ in_r in_u. absurd (not_both (in_r, in_u));
  sum = λ _. (k, sum);
}

-- a refusal of the crossing of their lists' forms
pub refused_from : (q : Quadrant) (first second : Chain) (r u : Reached) (f g : Form) (fault : NextFault) → IsInside r.direction → IsInside u.direction
    → IsFormOf first second r.list f → IsFormOf first second u.list g → IsCrossFault f g fault → IsNextFault q first second r u fault
refused_from q first second r u f g (Cross place x y) in_r in_u form_r form_u refused = (in_r, in_u, (f, g, form_r, form_u, refused))
refused_from q first second r u f g (Length s t) in_r in_u form_r form_u refused = absurd refused
