-- The spots of corners, and that corners have one drawing.
use Rattle.std.proofs.Common.{◌≡◌, ℕ, zero, suc, ◌+◌, ◌*◌, ◌/◌, ◌<◌, ◌≤◌, Bool, true, false, inl, inr, List, [], ◌∷◌, ◌++◌, map, length, take, get_or, All, Contains, ℤ, pos, negsuc, neg_ℤ, ◌≤ℤ◌, unsigned_abs, refl, ap, ap₂, ◌∙◌, subst, sym, add-one, arith}
use Rattle.std.specs.List.{AllByRecursion}
use Rattle.std.proofs.Math.Nat.{mul_comm, mul_assoc, mul-pos, mul-div-mul_right}
use Rattle.std.proofs.Props.{props}
use Rattle.std.proofs.lemmas.Bool.{cases_Bool, cases_lt, ltb-true, false≢true}
use Rattle.std.proofs.lemmas.Int.{ints}
use Rattle.std.proofs.lemmas.List.{take_all, take_more, map-append}
use Rattle.std.proofs.lemmas.List.Elements.{All-contains, All-contains_itself, All-weaker, All-head, All-tail}
use mathlib.Core.HLevel.{is_prop→PathP}
use Rattle.sc_cone.specs.Fans.{Corner}
use Rattle.sc_fan.specs.Corners.{IsCornerInRange, corner_said}
use Rattle.sc_fan.specs.declared.corner.Corner.{Corner as ReadCorner}
use Rattle.sc_svg.specs.declared.spot.Spot.{Spot}
use Rattle.sc_svg.specs.declared.limits.TheConstants.{MAX_DIRECTION, MAX_VALUE}
use Rattle.sc_svg.specs.Points.{cut, moved}
use Rattle.sc_svg.specs.Drawings.{last_line}
use Rattle.sc_svg.specs.Fans.{has_point, size_of, IsAtMost, drawn, point_of, arrow_of, both_lines, edge_by, edges_from, edges_of, frame, IsFanDrawing}
use Rattle.sc_svg.proofs.Greatest.{greatest_of_none, greatest_stays, greatest_next, some_sizes}
use Rattle.sc_app.specs.Svg.{corner_of, IsFanPicture}

-- ---- the spots of corners

-- spots of one corner are one: what is known of their numbers are propositions
same_spot : (x y : Spot) → corner_of x ≡ corner_of y → x ≡ y
same_spot x y e =
    let s : x.s ≡ y.s = ap (λ (c : Corner). c.direction.s) e in
    let t : x.t ≡ y.t = ap (λ (c : Corner). c.direction.t) e in
    let num : x.num ≡ y.num = ap (λ (c : Corner). c.value.0) e in
    let den : x.den ≡ y.den = ap (λ (c : Corner). c.value.1) e in
    λ i. record {
      s = s i;
      t = t i;
      num = num i;
      den = den i;
      to_the_right = is_prop→PathP (λ j. pos 0 ≤ℤ s j) (λ j. hlevel props) x.to_the_right y.to_the_right i;
      small_s = is_prop→PathP (λ j. unsigned_abs (s j) ≤ MAX_DIRECTION) (λ j. hlevel props) x.small_s y.small_s i;
      small_t = is_prop→PathP (λ j. unsigned_abs (t j) ≤ MAX_DIRECTION) (λ j. hlevel props) x.small_t y.small_t i;
      somewhere = is_prop→PathP (λ j. 0 < unsigned_abs (s j) + unsigned_abs (t j)) (λ j. hlevel props) x.somewhere y.somewhere i;
      not_negative = is_prop→PathP (λ j. pos 0 ≤ℤ num j) (λ j. hlevel props) x.not_negative y.not_negative i;
      small_num = is_prop→PathP (λ j. unsigned_abs (num j) ≤ MAX_VALUE) (λ j. hlevel props) x.small_num y.small_num i;
      above_zero = is_prop→PathP (λ j. pos 1 ≤ℤ den j) (λ j. hlevel props) x.above_zero y.above_zero i;
      small_den = is_prop→PathP (λ j. unsigned_abs (den j) ≤ MAX_VALUE) (λ j. hlevel props) x.small_den y.small_den i;
    }

same_spots : (xs ys : List Spot) → map corner_of xs ≡ map corner_of ys → xs ≡ ys
same_spots [] [] e = refl
same_spots [] (y ∷ ys) e = absurd (cc)
same_spots (x ∷ xs) [] e = absurd (cc)
same_spots (x ∷ xs) (y ∷ ys) e =
    let first : corner_of x ≡ corner_of y = cc in
    let rest : map corner_of xs ≡ map corner_of ys = cc in
    ap₂ (λ (z : Spot) (zs : List Spot). z ∷ zs) (same_spot x y first) (same_spots xs ys rest)

-- corners in their ranges are those of spots
spot_for : (c : Corner) → IsCornerInRange c → (x : Spot) × (corner_of x ≡ c)
spot_for c r = (
  record {
    s = c.direction.s;
    t = c.direction.t;
    num = c.value.0;
    den = c.value.1;
    to_the_right = r.s_low;
    small_s = omega (arith, ints, r.s_low, r.s_high);
    small_t = omega (arith, ints, r.t_low, r.t_high);
    somewhere = r.somewhere;
    not_negative = r.value.num_low;
    small_num = omega (arith, ints, r.value.num_low, r.value.num_high);
    above_zero = r.value.den_low;
    small_den = omega (arith, ints, r.value.den_low, r.value.den_high);
  },
  refl,
)

spots_for : (corners : List Corner) → AllByRecursion IsCornerInRange corners → (spots : List Spot) × (map corner_of spots ≡ corners)
spots_for [] in_range = ([], refl)
spots_for (c ∷ cs) in_range =
    let first = spot_for c in_range.0 in
    let rest = spots_for cs in_range.1 in
    (first.0 ∷ rest.0, ap₂ (λ (d : Corner) (ds : List Corner). d ∷ ds) first.1 rest.1)

-- a corner that was read is in its range, and becomes one more spot
module _ (corners : List ReadCorner) (i : ℕ) (c : ReadCorner) (inside : i < length corners) (here : c ≡ get_or corners i c) where
  pub read_in_range : AllByRecursion IsCornerInRange (map corner_said corners) → IsCornerInRange (corner_said c)
  read_in_range all = subst (λ (d : ReadCorner). IsCornerInRange (corner_said d)) (sym here) (at corners i inside all)
    where
      at : (ds : List ReadCorner) (k : ℕ) → k < length ds → AllByRecursion IsCornerInRange (map corner_said ds) → IsCornerInRange (corner_said (get_or ds k c))
      at [] k within ones = absurd (omega (arith, within))
      at (d ∷ ds) zero within ones = ones.0
      at (d ∷ ds) (suc k) within ones = at ds k (omega (arith, within)) ones.1

  pub one_more_spot : (spots spots' : List Spot) (x : Spot) → map corner_of spots ≡ map corner_said (take i corners) → corner_of x ≡ corner_said c → spots' ≡ spots ++ x ∷ [] → map corner_of spots' ≡ map corner_said (take (i + 1) corners)
  one_more_spot spots spots' x before of more =
      let all : take (i + 1) corners ≡ take i corners ++ c ∷ [] = take_more corners i c inside ∙ ap (λ (d : ReadCorner). take i corners ++ d ∷ []) (sym here) in
      ap (map corner_of) more ∙ map-append corner_of spots (x ∷ []) ∙ ap₂ (λ (ds : List Corner) (d : Corner). ds ++ d ∷ []) before of
      ∙ sym (map-append corner_said (take i corners) (c ∷ [])) ∙ ap (map corner_said) (sym all)

-- ---- no two drawings

-- a number cut by equal quotients is one number
same_quotient : (m f d f' d' : ℕ) → 0 < d → 0 < d' → f * d' ≡ f' * d → m * f / d ≡ m * f' / d'
same_quotient m f d f' d' some some' e =
    let over : m * f * d' ≡ m * f' * d = mul_assoc m f d' ∙ ap (λ (n : ℕ). m * n) e ∙ sym (mul_assoc m f' d) in
    sym (mul-div-mul_right (m * f) d some') ∙ ap₂ (λ (n w : ℕ). n / w) over (mul_comm d d') ∙ mul-div-mul_right (m * f') d' some

cut_same : (z : ℤ) (f d f' d' : ℕ) → 0 < d → 0 < d' → f * d' ≡ f' * d → cut z f d ≡ cut z f' d'
cut_same (pos n) f d f' d' some some' e = ap pos (same_quotient n f d f' d' some some' e)
cut_same (negsuc n) f d f' d' some some' e = ap (λ (m : ℕ). neg_ℤ (pos m)) (same_quotient (suc n) f d f' d' some some' e)

-- a greatest size above 0 is at most any other
greatest_at_most : (corners : List Spot) (text text' : List ℕ) (a : IsFanDrawing corners text) (b : IsFanDrawing corners text') → 0 < a.size.over → a.size.over * b.size.under ≤ b.size.over * a.size.under
greatest_at_most corners text text' a b some = elim a.size_is.taken [
  | inl none ↦ absurd (omega (arith, some, none))
  | inr found ↦
      let most = All-contains (λ c. has_point c ≡ true → IsAtMost (size_of c) b.size) corners found.0 b.size_is.greatest found.1 found.2 in
      let over : (size_of found.0).over ≡ a.size.over = λ i. (found.3 i).over in
      let under : (size_of found.0).under ≡ a.size.under = λ i. (found.3 i).under in
      omega (arith, most, ap (λ (n : ℕ). n * b.size.under) over, ap (λ (n : ℕ). b.size.over * n) under)
]

module _ (corners : List Spot) (text text' : List ℕ) (a : IsFanDrawing corners text) (b : IsFanDrawing corners text') where
  -- a corner with a point is drawn at one point
  abbrev HasOnePoint : Spot → Type 0
  HasOnePoint c = has_point c ≡ true → point_of a.size c ≡ point_of b.size c

  drawn_same : (c : Spot) → has_point c ≡ true → 0 < a.size.over → 0 < b.size.over → (z : ℤ) → drawn a.size c z ≡ drawn b.size c z
  drawn_same c pointed some some' z =
      let num : 0 < unsigned_abs c.num = ltb-true 0 (unsigned_abs c.num) pointed in
      let sizes : a.size.over * b.size.under ≡ b.size.over * a.size.under =
      omega (arith, greatest_at_most corners text text' a b some, greatest_at_most corners text' text b a some') in
      let across : (900 * unsigned_abs c.den * a.size.under) * (unsigned_abs c.num * b.size.over) ≡ (900 * unsigned_abs c.den * b.size.under) * (unsigned_abs c.num * a.size.over) =
      omega (arith, ap (λ (n : ℕ). 900 * unsigned_abs c.den * unsigned_abs c.num * n) sizes) in
      cut_same z (900 * unsigned_abs c.den * a.size.under) (unsigned_abs c.num * a.size.over) (900 * unsigned_abs c.den * b.size.under) (unsigned_abs c.num * b.size.over) (mul-pos num some) (mul-pos num some') across

  one_point : (c : Spot) → (has_point c ≡ true → 0 < a.size.over) → (has_point c ≡ true → 0 < b.size.over) → HasOnePoint c
  one_point c some some' pointed =
      let same = drawn_same c pointed (some pointed) (some' pointed) in
      let x = same c.s in
      let y = same c.t in
      λ i. record { x = x i; y = neg_ℤ (y i) }

  one_points : All HasOnePoint corners
  one_points =
      All-weaker (Contains corners) HasOnePoint
      (λ c inside. one_point c (All-contains (λ d. has_point d ≡ true → 0 < a.size.over) corners c (some_sizes corners a.size a.size_is) inside) (All-contains (λ d. has_point d ≡ true → 0 < b.size.over) corners c (some_sizes corners b.size b.size_is) inside))
      corners (All-contains_itself corners)

  -- so the edges are drawn in one way
  same_edge : (p q : Bool) (c d : Spot) → (p ≡ true → point_of a.size c ≡ point_of b.size c) → (q ≡ true → point_of a.size d ≡ point_of b.size d) → edge_by p q a.size c d ≡ edge_by p q b.size c d
  same_edge true true c d one one' = λ i. both_lines (one refl i) (one' refl i)
  same_edge true false c d one one' = λ i. both_lines (one refl i) (moved (one refl i) (arrow_of d))
  same_edge false true c d one one' = λ i. both_lines (one' refl i) (moved (one' refl i) (arrow_of c))
  same_edge false false c d one one' = refl

  same_edges_from : (c : Spot) (ds : List Spot) → HasOnePoint c → All HasOnePoint ds → edges_from a.size c ds ≡ edges_from b.size c ds
  same_edges_from c [] one ones = refl
  same_edges_from c (d ∷ ds) one ones =
      let next : HasOnePoint d = All-head HasOnePoint d ds ones in
      ap₂ (λ (xs ys : List ℕ). xs ++ ys) (same_edge (has_point c) (has_point d) c d one next) (same_edges_from d ds next (All-tail HasOnePoint d ds ones))

  same_edges : (ds : List Spot) → All HasOnePoint ds → edges_of a.size ds ≡ edges_of b.size ds
  same_edges [] ones = refl
  same_edges (d ∷ ds) ones = same_edges_from d ds (All-head HasOnePoint d ds ones) (All-tail HasOnePoint d ds ones)

  one_drawing : text ≡ text'
  one_drawing = a.text ∙ ap (λ (lines : List ℕ). frame ++ lines ++ last_line) (same_edges corners one_points) ∙ sym b.text

-- corners have no two drawings
pub one_fan_drawing : (corners : List Corner) (text text' : List ℕ) → IsFanPicture corners text → IsFanPicture corners text' → text ≡ text'
one_fan_drawing corners text text' a b =
    let same : a.spots ≡ b.spots = same_spots a.spots b.spots (a.drawn ∙ sym b.drawn) in
    one_drawing b.spots text text' (subst (λ (spots : List Spot). IsFanDrawing spots text) same a.drawing) b.drawing

-- ---- a drawing

abbrev IsDrawn : List Spot → Type 0
IsDrawn corners = (text : List ℕ) × IsFanDrawing corners text

corner_at : (corners : List Spot) (i : ℕ) → i < length corners → (c : Spot) × (c ≡ get_or corners i c)
corner_at [] i inside = absurd (omega (arith, inside))
corner_at (c ∷ cs) zero inside = (c, refl)
corner_at (c ∷ cs) (suc i) inside = corner_at cs i (omega (arith, inside))

-- with one more corner the greatest size stays, or it is that of the corner
drawn_next : (corners : List Spot) (i : ℕ) → i < length corners → IsDrawn (take i corners) → IsDrawn (take (i + 1) corners)
drawn_next corners i inside before =
    let here = corner_at corners i inside in
    let c : Spot = here.0 in
    let k = before.1.size in
    let greatest = before.1.size_is in
    elim (cases_Bool (has_point c)) [
      | inl pointed ↦ elim (cases_lt (k.over * (size_of c).under) ((size_of c).over * k.under)) [
        | inl greater ↦ (_, record { size = size_of c; size_is = greatest_next corners i c k (size_of c) inside here.1 refl greatest pointed greater; text = refl })
        | inr most ↦ (_, record { size = k; size_is = greatest_stays corners i c k (size_of c) inside here.1 refl greatest (λ p. most); text = refl })
      ]
      | inr none ↦ (
        _,
        record {
          size = k;
          size_is = greatest_stays corners i c k (size_of c) inside here.1 refl greatest (λ pointed. absurd (false≢true (sym none ∙ pointed)));
          text = refl;
        },
      )
    ]

drawn_up_to : (corners : List Spot) (i : ℕ) → i ≤ length corners → IsDrawn (take i corners)
drawn_up_to corners zero within = (_, record { size = _; size_is = greatest_of_none; text = refl })
drawn_up_to corners (suc i) within =
    subst (λ (n : ℕ). IsDrawn (take n corners)) (add-one i) (drawn_next corners i (omega (arith, within)) (drawn_up_to corners i (omega (arith, within))))

some_drawing : (corners : List Spot) → IsDrawn corners
some_drawing corners = subst IsDrawn (take_all (length corners) corners (omega arith)) (drawn_up_to corners (length corners) (omega arith))

-- corners in their ranges aren't without a drawing
pub some_fan_drawing : (corners : List Corner) → AllByRecursion IsCornerInRange corners → ((text : List ℕ) → ¬ IsFanPicture corners text) → ⊥
some_fan_drawing corners in_range never =
    let found = spots_for corners in_range in
    let text = some_drawing found.0 in
    never text.0 (record { spots = found.0; drawn = found.1; drawing = text.1 })
