-- The fan of two halves, with its ranges.
use Rattle.std.proofs.Common.{◌≡◌, ℕ, suc, ◌+◌, ◌<◌, ◌≤◌, List, [], ◌∷◌, ◌++◌, map, length, get_or, Option, Some, None, arith, refl, sym, ap, subst, subst₂, ◌∙◌}
use Rattle.std.specs.Prelude.{All, IsSome}
use Rattle.std.specs.List.{AllByRecursion}
use Rattle.std.specs.Option.{option_to_list}
use Rattle.std.proofs.lemmas.List.{length-append, length-map, map-append}
use Rattle.std.proofs.lemmas.List.Elements.{All-append, All-pop, recursion_from_All}
use Rattle.sc_theory.specs.Chains.{Chain, positions}
use Rattle.sc_theory.specs.Prices.{Prices}
use Rattle.sc_chain.specs.declared.limits.TheConstants.{MAX_WORDS, MAX_POSITIONS}
use Rattle.sc_fraction.proofs.SameValues.{same_frac}
use Rattle.sc_text.specs.Surfaces.{IsChainInRange}
use Rattle.sc_text.specs.Words.{IsWordInRange}
use Rattle.sc_text.specs.ValueLines.{quotient_of}
use Rattle.sc_cone.specs.declared.Quadrant.TheVariants.{Lower, Upper}
use Rattle.sc_cone.specs.Fans.{Corner, Fan, no_edge, IsFan, IsHalf}
use Rattle.sc_fan.specs.declared.corner.Corner.{Corner as CornerParts}
use Rattle.sc_fan.specs.declared.fan.Edge.{Edge as EdgeParts}
use Rattle.sc_fan.specs.declared.fan.Fan.{Fan as FanParts}
use Rattle.sc_fan.specs.Corners.{corner_said, IsCornerInRange}
use Rattle.sc_fan.specs.Fans.{IsListFor, edge_chain, IsFanInRange}
use Rattle.sc_fan.specs.FanRead.{edge_said, fan_said, plane_fan}
use Rattle.sc_ball.specs.declared.arcs.Half.{Half}
use Rattle.sc_ball.specs.inside.Halves.{HaveRanges, IsHalfFan}
use Rattle.sc_ball.proofs.HalfPairs.{last_is_right, first_is_right, one_value, fan_of_two}
use Rattle.sc_ball.proofs.FanRanges.{half_has_two, lists_of_two, lists_by_number}

-- a fan of these parts
pub record IsOfParts (first second : Chain) (corners : List CornerParts) (edges : List EdgeParts) (f : FanParts) : Type 0 where
  pub first_is : f.first ≡ first
  pub second_is : f.second ≡ second
  pub corners_are : f.corners.items ≡ corners
  pub edges_are : f.edges.items ≡ edges

-- two corners of one direction and one value are one
one_corner : (c d : CornerParts) → c.direction ≡ d.direction → quotient_of c.value ≡ quotient_of d.value → corner_said c ≡ corner_said d
one_corner c d p e = λ i. record { direction = p i; value = e i }

module _ (first second : Chain) (xs : List CornerParts) (c d : CornerParts) (ys : List CornerParts) (es fs : List EdgeParts) (low : IsHalf Lower first second (map corner_said (xs ++ c ∷ [])) (map edge_said es)) (high : IsHalf Upper first second (map corner_said (d ∷ ys)) (map edge_said fs)) where
  low' : IsHalf Lower first second (map corner_said xs ++ corner_said c ∷ []) (map edge_said es)
  low' = subst (λ (cs : List Corner). IsHalf Lower first second cs (map edge_said es)) (map-append corner_said xs (c ∷ [])) low

  same : corner_said c ≡ corner_said d
  same =
      one_corner c d (last_is_right first second (map corner_said xs) (corner_said c) (map edge_said es) low' ∙ sym (first_is_right first second (corner_said d) (map corner_said ys) (map edge_said fs) high))
      (ap quotient_of (same_frac c.value d.value (one_value first second (map corner_said xs) (corner_said c) (map edge_said es) (corner_said d) (map corner_said ys) (map edge_said fs) low' high)))

  abbrev pub made : Fan
  made = record { first = first; second = second; corners = map corner_said xs ++ corner_said d ∷ map corner_said ys; edges = map edge_said es ++ map edge_said fs }

  made_is : IsFan made
  made_is = fan_of_two first second (map corner_said xs) (corner_said c) (map edge_said es) (corner_said d) (map corner_said ys) (map edge_said fs) same low' high

  module _ (f : FanParts) (of_parts : IsOfParts first second (xs ++ d ∷ ys) (es ++ fs) f) where
    corners_split : map corner_said f.corners.items ≡ map corner_said xs ++ corner_said d ∷ map corner_said ys
    corners_split = ap (map corner_said) of_parts.corners_are ∙ map-append corner_said xs (d ∷ ys)

    edges_split : map edge_said f.edges.items ≡ map edge_said es ++ map edge_said fs
    edges_split = ap (map edge_said) of_parts.edges_are ∙ map-append edge_said es fs

    plane_made : plane_fan f ≡ made
    plane_made = λ i. record { first = of_parts.first_is i; second = of_parts.second_is i; corners = corners_split i; edges = edges_split i }

    fan_here : IsFan (plane_fan f)
    fan_here = subst IsFan (sym plane_made) made_is

    corner_count : length f.corners.items ≡ length xs + suc (length ys)
    corner_count = ap length of_parts.corners_are ∙ length-append xs (d ∷ ys)

    edge_count : suc (length f.edges.items) ≡ length f.corners.items
    edge_count = ap suc (sym (length-map f.edges.items edge_said)) ∙ fan_here.count ∙ length-map f.corners.items corner_said

    low_count : length (map corner_said (xs ++ c ∷ [])) ≡ length xs + 1
    low_count = length-map (xs ++ c ∷ []) corner_said ∙ length-append xs (c ∷ [])

    module _ (few_words : length first + length second ≤ MAX_WORDS) (few_positions : positions first + positions second ≤ MAX_POSITIONS) (low_ranges : HaveRanges Lower first second (map corner_said (xs ++ c ∷ [])) (map edge_said es)) (high_ranges : HaveRanges Upper first second (map corner_said (d ∷ ys)) (map edge_said fs)) (few : length xs + suc (length ys) ≤ 9223372036854775807) (first_range : IsChainInRange first) (second_range : IsChainInRange second) where
      corners_in_range : All IsCornerInRange (map corner_said f.corners.items)
      corners_in_range =
          subst (All IsCornerInRange) (sym corners_split)
          (All-append IsCornerInRange (map corner_said xs) (corner_said d ∷ map corner_said ys)
          (All-pop IsCornerInRange (map corner_said (xs ++ c ∷ [])) (map corner_said xs) (Some (corner_said c)) (map-append corner_said xs (c ∷ [])) low_ranges.corners_in_range).0 high_ranges.corners_in_range)

      list_at : (i : ℕ) → i < length f.edges.items → IsListFor (edge_chain f.first f.second (map corner_said f.corners.items) (0 + i)) (get_or (map edge_said f.edges.items) i no_edge).list
      list_at i inside =
          let room : i < length (map edge_said es ++ map edge_said fs) = subst (λ (n : ℕ). i < n) (sym (length-map f.edges.items edge_said) ∙ ap length edges_split) inside in
          let there : IsListFor (edge_chain first second (map corner_said xs ++ corner_said d ∷ map corner_said ys) i) (get_or (map edge_said es ++ map edge_said fs) i no_edge).list =
          lists_of_two first second (map corner_said xs) (corner_said c) (corner_said d) (map corner_said ys) (map edge_said es) (map edge_said fs) same low' high made_is low_ranges.lists high_ranges.lists i room in
          let from_zero : i ≡ 0 + i = omega arith in
          subst (λ (n : ℕ). IsListFor (edge_chain f.first f.second (map corner_said f.corners.items) n) (get_or (map edge_said f.edges.items) i no_edge).list) from_zero
          (subst (λ (g : Fan). IsListFor (edge_chain g.first g.second g.corners i) (get_or g.edges i no_edge).list) (sym plane_made) there)

      fan_in_range : IsFanInRange (fan_said f)
      fan_in_range = record {
        first = subst (λ (w : Chain). AllByRecursion IsWordInRange w) (sym of_parts.first_is) first_range.words;
        second = subst (λ (w : Chain). AllByRecursion IsWordInRange w) (sym of_parts.second_is) second_range.words;
        few_words = subst₂ (λ (a b : Chain). length a + length b ≤ MAX_WORDS) (sym of_parts.first_is) (sym of_parts.second_is) few_words;
        few_letters = subst₂ (λ (a b : Chain). positions a + positions b ≤ MAX_POSITIONS) (sym of_parts.first_is) (sym of_parts.second_is) few_positions;
        some_corners = omega (arith, length-map f.corners.items corner_said, corner_count, low_count, half_has_two Lower first second (map corner_said (xs ++ c ∷ [])) (map edge_said es) low, half_has_two Upper first second (map corner_said (d ∷ ys)) (map edge_said fs) high, length-map ys corner_said);
        few_corners = omega (arith, length-map f.corners.items corner_said, corner_count, few);
        corners = recursion_from_All IsCornerInRange (map corner_said f.corners.items) corners_in_range;
        one_fewer = omega (arith, length-map f.edges.items (λ (e : EdgeParts). e.list), length-map f.corners.items corner_said, edge_count);
        lists = lists_by_number (λ (n : ℕ) (list : Prices). IsListFor (edge_chain f.first f.second (map corner_said f.corners.items) n) list) 0 f.edges.items list_at;
      }

-- ---- by the parts of the code
-- the last corner is taken off the first half
pub record IsJoined (first second : Chain) (low high : Half) (left : List CornerParts) (f : FanParts) : Type 0 where
  pub first_is : f.first ≡ first
  pub second_is : f.second ≡ second
  pub corners_are : f.corners.items ≡ left ++ high.corners.items
  pub edges_are : f.edges.items ≡ low.edges.items ++ high.edges.items

module _ (first second : Chain) (low high : Half) (is_low : IsHalfFan Lower first second low) (is_high : IsHalfFan Upper first second high) (f : FanParts) where
  -- what is to be shown of the fan
  abbrev pub IsGood : Type 0
  IsGood = IsFan (plane_fan f) × (length first + length second ≤ MAX_WORDS → positions first + positions second ≤ MAX_POSITIONS → IsChainInRange first → IsChainInRange second → IsFanInRange (fan_said f))

  joined_by : (left : List CornerParts) (last : Option CornerParts) (ds : List CornerParts) → low.corners.items ≡ left ++ option_to_list last → (0 < length low.corners.items → IsSome last) → high.corners.items ≡ ds → IsJoined first second low high left f → IsGood
  joined_by left None ds low_is some high_is joined = absurd (nothing (some (omega (arith, is_low.half.arc.count, length-map low.corners.items corner_said))))
    where
      nothing : IsSome {T = CornerParts} None → ⊥
      nothing e = cc
  joined_by left (Some c) [] low_is some high_is joined = absurd (omega (arith, is_high.half.arc.count, ap (λ (ls : List CornerParts). length (map corner_said ls)) high_is))
  joined_by left (Some c) (d ∷ ys) low_is some high_is joined =
      let low_half : IsHalf Lower first second (map corner_said (left ++ c ∷ [])) (map edge_said low.edges.items) = subst (λ (ls : List CornerParts). IsHalf Lower first second (map corner_said ls) (map edge_said low.edges.items)) low_is is_low.half in
      let high_half : IsHalf Upper first second (map corner_said (d ∷ ys)) (map edge_said high.edges.items) = subst (λ (ls : List CornerParts). IsHalf Upper first second (map corner_said ls) (map edge_said high.edges.items)) high_is is_high.half in
      let parts : IsOfParts first second (left ++ d ∷ ys) (low.edges.items ++ high.edges.items) f = record {
        first_is = joined.first_is;
        second_is = joined.second_is;
        corners_are = joined.corners_are ∙ ap (λ (ls : List CornerParts). left ++ ls) high_is;
        edges_are = joined.edges_are;
      } in (
        fan_here first second left c d ys low.edges.items high.edges.items low_half high_half f parts,
        λ few_words few_positions first_range second_range.
            fan_in_range first second left c d ys low.edges.items high.edges.items low_half high_half f parts few_words few_positions
            (subst (λ (ls : List CornerParts). HaveRanges Lower first second (map corner_said ls) (map edge_said low.edges.items)) low_is is_low.ranges)
            (subst (λ (ls : List CornerParts). HaveRanges Upper first second (map corner_said ls) (map edge_said high.edges.items)) high_is is_high.ranges)
            (omega (arith, is_low.few, is_high.few, ap length low_is, ap length high_is, length-append left (c ∷ [])))
            first_range second_range,
      )

  -- the halves of both quadrants, joined at the corner in which they meet, are a fan, in its range where the chains are
  pub joined_is : (left : List CornerParts) (last : Option CornerParts) → low.corners.items ≡ left ++ option_to_list last → (0 < length low.corners.items → IsSome last) → IsJoined first second low high left f → IsGood
  joined_is left last low_is some joined = joined_by left last high.corners.items low_is some refl joined
