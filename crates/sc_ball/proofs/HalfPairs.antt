-- Two halves that meet in one corner.
use Rattle.std.proofs.Common.{◌≡◌, suc, List, [], ◌∷◌, ◌++◌, length, get_or, ◌*ℤ◌, arith, refl, sym, ap, subst, ◌∙◌}
use Rattle.std.proofs.lemmas.List.{length-append}
use Rattle.sc_theory.specs.Chains.{Chain}
use Rattle.sc_cone.specs.declared.Direction.{Direction}
use Rattle.sc_cone.specs.declared.Quadrant.TheVariants.{Lower, Upper}
use Rattle.sc_cone.specs.Directions.{right}
use Rattle.sc_cone.specs.Cones.{chain_of}
use Rattle.sc_cone.specs.Values.{IsValueOf}
use Rattle.sc_cone.specs.Fans.{Corner, Edge, no_corner, IsHalf, IsFan}
use Rattle.sc_cone.proofs.Arcs.{at_here}
use Rattle.sc_cone.proofs.Halves.{fan_of_halves}
use Rattle.sc_cone.proofs.UnusedWords.{axis_quadrants}
use Rattle.sc_cone.proofs.ValueLaws.{unique}

module _ (first second : Chain) where
  -- the last corner of the lower half and the first of the upper one have one direction and one value
  module _ (before : List Corner) (c : Corner) (es : List Edge) (low : IsHalf Lower first second (before ++ c ∷ []) es) where
    last_place : suc (length before) ≡ length (before ++ c ∷ [])
    last_place = omega (arith, length-append before (c ∷ []))

    last_here : get_or (before ++ c ∷ []) (length before) no_corner ≡ c
    last_here = at_here no_corner before c [] (length before) refl

    pub last_is_right : c.direction ≡ right
    last_is_right = ap (λ (x : Corner). x.direction) (sym last_here) ∙ low.ends (length before) last_place

    pub last_value : IsValueOf (chain_of Lower first second c.direction) c.value.0 c.value.1
    last_value = subst (λ (x : Corner). IsValueOf (chain_of Lower first second x.direction) x.value.0 x.value.1) last_here (low.arc.values (length before) (omega (arith, last_place)))

  module _ (d : Corner) (after : List Corner) (fs : List Edge) (high : IsHalf Upper first second (d ∷ after) fs) where
    pub first_is_right : d.direction ≡ right
    first_is_right = high.begins

    pub first_value : IsValueOf (chain_of Upper first second d.direction) d.value.0 d.value.1
    first_value = high.arc.values 0 (omega arith)

  -- two halves that meet have one value there
  pub one_value : (before : List Corner) (c : Corner) (es : List Edge) (d : Corner) (after : List Corner) (fs : List Edge) → IsHalf Lower first second (before ++ c ∷ []) es → IsHalf Upper first second (d ∷ after) fs → c.value.0 *ℤ d.value.1 ≡ d.value.0 *ℤ c.value.1
  one_value before c es d after fs low high =
      let here : IsValueOf (chain_of Lower first second right) c.value.0 c.value.1 = subst (λ (x : Direction). IsValueOf (chain_of Lower first second x) c.value.0 c.value.1) (last_is_right before c es low) (last_value before c es low) in
      let there : IsValueOf (chain_of Upper first second right) d.value.0 d.value.1 = subst (λ (x : Direction). IsValueOf (chain_of Upper first second x) d.value.0 d.value.1) (first_is_right d after fs high) (first_value d after fs high) in
      unique (chain_of Lower first second right) c.value.0 c.value.1 d.value.0 d.value.1 here (axis_quadrants Upper Lower first second d.value.0 d.value.1 there)

  -- where they meet in one corner they are a fan
  pub fan_of_two : (before : List Corner) (c : Corner) (es : List Edge) (d : Corner) (after : List Corner) (fs : List Edge) → c ≡ d → IsHalf Lower first second (before ++ c ∷ []) es → IsHalf Upper first second (d ∷ after) fs → IsFan (record { first = first; second = second; corners = before ++ d ∷ after; edges = es ++ fs })
  fan_of_two before c es d after fs same low high =
      fan_of_halves first second before d after es fs (subst (λ (x : Corner). IsHalf Lower first second (before ++ x ∷ []) es) same low) high
