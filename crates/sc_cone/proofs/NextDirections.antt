-- The next direction between two neighbours of a search: strictly between them, and one.
use Rattle.std.proofs.Common.{◌≡◌, ◌≢◌, ◌⊎◌, ℕ, zero, suc, ◌+◌, ◌<◌, ℤ, pos, negsuc, ◌+ℤ◌, ◌-ℤ◌, ◌*ℤ◌, ◌<ℤ◌, ◌≤ℤ◌, neg_ℤ, ◌↔◌, unsigned_abs, inl, inr, arith, refl, sym, ap, ap₂, subst, ◌∙◌}
use Rattle.std.proofs.lemmas.Int.{ints}
use Rattle.sc_algebra.proofs.Ints.{products, mul_comm, mul-zero, zero-mul, cancel_factor}
use Rattle.sc_theory.specs.Chains.{Chain, IsChain}
use Rattle.sc_theory.specs.Prices.{Prices, Covers}
use Rattle.sc_cone.specs.declared.Direction.{Direction}
use Rattle.sc_cone.specs.declared.Quadrant.{Quadrant}
use Rattle.sc_cone.specs.Directions.{IsIn, IsPrimitive, cross, TurnsLeft, IsCombination}
use Rattle.sc_cone.specs.Cones.{chain_of, quadrant_chain}
use Rattle.sc_cone.specs.Values.{IsValueOf, IsTightAt, SameValueAt, list_num, list_den, first_form, second_form}
use Rattle.sc_cone.specs.Searches.{Reached, IsReached, IsOpen, IsInside, IsNext}
use Rattle.sc_cone.proofs.ConeChains.{covers_all}
use Rattle.sc_cone.proofs.ConeWords.{is_chain}
use Rattle.sc_cone.proofs.ValueLaws.{unique, value_moved, at_most}
use Rattle.sc_cone.proofs.Forms.{signed, value_signed}
use Rattle.sc_cone.proofs.Betweens.{plane_s, plane_t, tight_between}
use Rattle.sc_cone.proofs.Agreement.{between_from_left}
use Rattle.sc_cone.proofs.Turning.{not_negative, cases_sign, turned, not_both_ways, product_positive, product_above, turns_on}
use Rattle.sc_cone.proofs.PrimitiveDirections.{same_direction, not_both}

four_above : (d : ℤ) → pos 0 <ℤ d → pos 0 <ℤ (pos 4 *ℤ d)
four_above d h = omega (arith, ints)

-- a list is tight exactly where its value is the value that is known
pub tight_by_value : (c : Chain) (list : Prices) (num den : ℤ) → pos 0 <ℤ list.scale → IsValueOf c num den → IsValueOf c (list_num c list) (list_den list) ↔ (list_num c list *ℤ den ≡ num *ℤ list_den list)
tight_by_value c list num den above v = (λ tight. unique c _ _ _ _ tight v, λ same. value_moved c num den _ _ v (four_above list.scale above) same)

-- what isn't tight at a direction isn't tight further on from where it is
pub not_tight_beyond : (q : Quadrant) (first second : Chain) (list : Prices) (d e x : Direction) → IsChain first → IsChain second → Covers (quadrant_chain q first second) list → IsIn q d → IsIn q e → IsIn q x → TurnsLeft d e → TurnsLeft e x → IsTightAt q first second list d → (IsTightAt q first second list e → ⊥) → IsTightAt q first second list x → ⊥
not_tight_beyond q first second list d e x is_first is_second covers in_d in_e in_x left next at_d not_e at_x =
    not_e (tight_between q first second list d x e is_first is_second covers in_d in_x (turns_on q d e x in_d in_e in_x left next) (between_from_left d e x left next) at_d at_x)

-- ---- how much more one list gives than another
-- three directions of the plane, and a function of the form p s + q t
three_plain : (p q ds dt es et xs xt : ℤ) → (ds *ℤ et -ℤ dt *ℤ es) *ℤ (xs *ℤ p +ℤ xt *ℤ q) ≡ (xs *ℤ et -ℤ xt *ℤ es) *ℤ (ds *ℤ p +ℤ dt *ℤ q) +ℤ (ds *ℤ xt -ℤ dt *ℤ xs) *ℤ (es *ℤ p +ℤ et *ℤ q)
three_plain p q ds dt es et xs xt = simp products (omega (arith, ints))

collected : (s t f g h k u v : ℤ) → (s *ℤ f +ℤ t *ℤ g) *ℤ u -ℤ (s *ℤ h +ℤ t *ℤ k) *ℤ v ≡ s *ℤ (f *ℤ u -ℤ h *ℤ v) +ℤ t *ℤ (g *ℤ u -ℤ k *ℤ v)
collected s t f g h k u v = simp products (omega (arith, ints))

less : (x y : ℤ) → x ≤ℤ y → (x ≡ y → ⊥) → pos 0 <ℤ (y -ℤ x)
less x y h other = by_sign (cases_sign (y -ℤ x))
  where
    by_sign : (y -ℤ x ≡ pos 0) ⊎ ((pos 0 <ℤ (y -ℤ x)) ⊎ ((y -ℤ x) <ℤ pos 0)) → pos 0 <ℤ (y -ℤ x)
    by_sign (inl e) = absurd (other (omega (arith, ints)))
    by_sign (inr (inl above)) = above
    by_sign (inr (inr under)) = absurd (omega (arith, ints))

level : (x y : ℤ) → x ≡ y → x -ℤ y ≡ pos 0
level x y e = omega (arith, ints)

negative : (x y : ℤ) → pos 0 <ℤ (y -ℤ x) → (x -ℤ y) <ℤ pos 0
negative x y h = omega (arith, ints)

module _ (q : Quadrant) (first second : Chain) (l m : Prices) where
  -- how much more the list l gives than the list m, by their common unit
  s_part : ℤ
  s_part = first_form first l *ℤ list_den m -ℤ first_form first m *ℤ list_den l

  t_part : ℤ
  t_part = signed q (second_form first second l) *ℤ list_den m -ℤ signed q (second_form first second m) *ℤ list_den l

  -- how much more l gives than m, as a linear function of the direction
  pub surplus : Direction → ℤ
  surplus d = d.s *ℤ s_part +ℤ d.t *ℤ t_part

  pub surplus_is : (d : Direction) → IsIn q d → list_num (chain_of q first second d) l *ℤ list_den m -ℤ list_num (chain_of q first second d) m *ℤ list_den l ≡ surplus d
  unfolding surplus s_part t_part
  surplus_is d within =
      ap₂ (λ (x y : ℤ). x *ℤ list_den m -ℤ y *ℤ list_den l) (value_signed q first second l d within) (value_signed q first second m d within)
      ∙ collected d.s d.t (first_form first l) (signed q (second_form first second l)) (first_form first m) (signed q (second_form first second m)) (list_den m) (list_den l)

  -- of three directions: the surplus of x from those of d and e, by the areas that they span
  pub surplus_of_three : (d e x : Direction) → cross d e *ℤ surplus x ≡ cross x e *ℤ surplus d +ℤ cross d x *ℤ surplus e
  unfolding surplus
  surplus_of_three d e x = three_plain s_part t_part d.s d.t e.s e.t x.s x.t

-- ---- where a sum of two products is 0, the second factor of one above 0 and of the other below
zero_factor : (i j a b : ℤ) → pos 0 ≡ i *ℤ a +ℤ j *ℤ b → pos 0 <ℤ a → j ≡ pos 0 → i ≡ pos 0
zero_factor i j a b e above none =
    let rest : a *ℤ i ≡ a *ℤ pos 0 = omega (arith, ints, e, ap (λ (t : ℤ). t *ℤ b) none, zero-mul b, mul_comm a i, mul-zero a) in
    cancel_factor a i (pos 0) (λ z. omega (arith, ints)) rest

turned_product : (j b : ℤ) → j *ℤ neg_ℤ b ≡ neg_ℤ (j *ℤ b)
turned_product j b = simp products (omega (arith, ints))

turned_first : (i a : ℤ) → neg_ℤ i *ℤ a ≡ neg_ℤ (i *ℤ a)
turned_first i a = simp products (omega (arith, ints))

above_negative : (b : ℤ) → b <ℤ pos 0 → pos 0 <ℤ neg_ℤ b
above_negative b h = omega (arith, ints)

below_positive : (i : ℤ) → pos 0 <ℤ neg_ℤ i → i <ℤ pos 0
below_positive i h = omega (arith, ints)

above_factor : (i j a b : ℤ) → pos 0 ≡ i *ℤ a +ℤ j *ℤ b → pos 0 <ℤ a → b <ℤ pos 0 → pos 0 <ℤ j → pos 0 <ℤ i
above_factor i j a b e above below some =
    product_positive i a (not_negative a above) (omega (arith, ints, e, turned_product j b, product_above j (neg_ℤ b) some (above_negative b below)))

below_factor : (i j a b : ℤ) → pos 0 ≡ i *ℤ a +ℤ j *ℤ b → pos 0 <ℤ a → b <ℤ pos 0 → j <ℤ pos 0 → i <ℤ pos 0
below_factor i j a b e above below none =
    let both : pos 0 <ℤ (neg_ℤ j *ℤ neg_ℤ b) = product_above (neg_ℤ j) (neg_ℤ b) (above_negative j none) (above_negative b below) in
    below_positive i
    (product_positive (neg_ℤ i) a (not_negative a above) (omega (arith, ints, e, turned_first i a, turned_first j (neg_ℤ b), turned_product j b, both)))

-- a direction that spans no area with two that do is 0
no_direction : (d e x : Direction) → TurnsLeft d e → cross x e ≡ pos 0 → cross d x ≡ pos 0 → IsPrimitive x → ⊥
no_direction d e x left here there primitive =
    let s : x.s ≡ pos 0 = none (cross d e) x.s (cross x e) d.s (cross d x) e.s left (plane_s d.s d.t e.s e.t x.s x.t) here there in
    let t : x.t ≡ pos 0 = none (cross d e) x.t (cross x e) d.t (cross d x) e.t left (plane_t d.s d.t e.s e.t x.s x.t) here there in
    empty (unsigned_abs x.s) (unsigned_abs x.t) (ap unsigned_abs s) (ap unsigned_abs t) (not_both (unsigned_abs x.s) (unsigned_abs x.t) primitive)
  where
    none : (k x i y j z : ℤ) → pos 0 <ℤ k → k *ℤ x ≡ i *ℤ y +ℤ j *ℤ z → i ≡ pos 0 → j ≡ pos 0 → x ≡ pos 0
    none k x i y j z some e p r =
        cancel_factor k x (pos 0) (λ c. omega (arith, ints)) (e ∙ ap₂ (λ (s t : ℤ). s *ℤ y +ℤ t *ℤ z) p r ∙ omega (arith, ints, zero-mul y, zero-mul z, mul-zero k))

    empty : (a b : ℕ) → a ≡ 0 → b ≡ 0 → 0 < a + b → ⊥
    empty a b p r h = omega arith

-- of a sum of two directions
sum_before : (rs rt us ut xs xt k : ℤ) → k *ℤ xs ≡ pos 1 *ℤ rs +ℤ pos 1 *ℤ us → k *ℤ xt ≡ pos 1 *ℤ rt +ℤ pos 1 *ℤ ut → (rs *ℤ xt -ℤ rt *ℤ xs) *ℤ k ≡ rs *ℤ ut -ℤ rt *ℤ us
sum_before rs rt us ut xs xt k e h =
    let f : k *ℤ xs ≡ rs +ℤ us = omega (arith, ints) in
    let g : k *ℤ xt ≡ rt +ℤ ut = omega (arith, ints) in
    let p = simp products at (ap (λ (t : ℤ). rt *ℤ t) f) in
    let r = simp products at (ap (λ (t : ℤ). rs *ℤ t) g) in
    simp products (omega (arith, ints, p, r))

sum_after : (rs rt us ut xs xt k : ℤ) → k *ℤ xs ≡ pos 1 *ℤ rs +ℤ pos 1 *ℤ us → k *ℤ xt ≡ pos 1 *ℤ rt +ℤ pos 1 *ℤ ut → (xs *ℤ ut -ℤ xt *ℤ us) *ℤ k ≡ rs *ℤ ut -ℤ rt *ℤ us
sum_after rs rt us ut xs xt k e h =
    let f : k *ℤ xs ≡ rs +ℤ us = omega (arith, ints) in
    let g : k *ℤ xt ≡ rt +ℤ ut = omega (arith, ints) in
    let p = simp products at (ap (λ (t : ℤ). t *ℤ ut) f) in
    let r = simp products at (ap (λ (t : ℤ). t *ℤ us) g) in
    simp products (omega (arith, ints, p, r))

sums_span_nothing : (ws wt xs xt ys yt k j : ℤ) → k *ℤ xs ≡ ws → k *ℤ xt ≡ wt → j *ℤ ys ≡ ws → j *ℤ yt ≡ wt → k *ℤ (j *ℤ (xs *ℤ yt -ℤ xt *ℤ ys)) ≡ pos 0
sums_span_nothing ws wt xs xt ys yt k j ks kt js jt =
    regrouped ∙ ap₂ (λ (a b : ℤ). a -ℤ b) (ap₂ (λ (a b : ℤ). a *ℤ b) ks jt) (ap₂ (λ (a b : ℤ). a *ℤ b) kt js) ∙ nothing ws wt
  where
    regrouped : k *ℤ (j *ℤ (xs *ℤ yt -ℤ xt *ℤ ys)) ≡ (k *ℤ xs) *ℤ (j *ℤ yt) -ℤ (k *ℤ xt) *ℤ (j *ℤ ys)
    regrouped = simp products (omega (arith, ints))

    nothing : (a b : ℤ) → a *ℤ b -ℤ b *ℤ a ≡ pos 0
    nothing a b = omega (arith, ints, mul_comm a b)

-- whether a direction is no end
not_zero_or : (a : ℤ) → (a ≢ pos 0) ⊎ (a ≡ pos 0)
not_zero_or (pos zero) = inr refl
not_zero_or (pos (suc n)) = inl (λ e. omega (arith, ints))
not_zero_or (negsuc n) = inl (λ e. omega (arith, ints))

inside_or : (d : Direction) → IsInside d ⊎ (IsInside d → ⊥)
inside_or d =
    elim (not_zero_or d.s) [
      | inl s ↦ elim (not_zero_or d.t) [
        | inl t ↦ inl (record { first = s; second = t })
        | inr t ↦ inr (λ is. is.second t)
      ]
      | inr s ↦ inr (λ is. is.first s)
    ]

both_or : (d e : Direction) → (IsInside d × IsInside e) ⊎ (IsInside d × IsInside e → ⊥)
both_or d e =
    elim (inside_or d) [
      | inl is ↦ elim (inside_or e) [
        | inl also ↦ inl (is, also)
        | inr not_e ↦ inr (λ both. not_e both.1)
      ]
      | inr not_d ↦ inr (λ both. not_d both.0)
    ]

module _ (q : Quadrant) (first second : Chain) (is_first : IsChain first) (is_second : IsChain second) (r u : Reached) (got_r : IsReached q first second r) (got_u : IsReached q first second u) (in_r : IsIn q r.direction) (in_u : IsIn q u.direction) (left : TurnsLeft r.direction u.direction) (both_open : IsOpen q first second r u) where
  -- between open neighbours each list gives more at its own direction than the other's list does
  pub more_at_first : pos 0 <ℤ (list_num (chain_of q first second r.direction) r.list *ℤ list_den u.list -ℤ list_num (chain_of q first second r.direction) u.list *ℤ list_den r.list)
  more_at_first =
      let c : Chain = chain_of q first second r.direction in
      less (list_num c u.list *ℤ list_den r.list) (list_num c r.list *ℤ list_den u.list)
      (at_most c u.list (list_num c r.list) (list_den r.list) (is_chain q first second r.direction is_first is_second) ((covers_all q first second u.list r.direction).0 got_u.covers) got_r.tight)
      (λ same. both_open.back (value_moved c (list_num c r.list) (list_den r.list) (list_num c u.list) (list_den u.list) got_r.tight got_u.tight.above same))

  pub less_at_second : (list_num (chain_of q first second u.direction) r.list *ℤ list_den u.list -ℤ list_num (chain_of q first second u.direction) u.list *ℤ list_den r.list) <ℤ pos 0
  less_at_second =
      let c : Chain = chain_of q first second u.direction in
      negative (list_num c r.list *ℤ list_den u.list) (list_num c u.list *ℤ list_den r.list)
      (less (list_num c r.list *ℤ list_den u.list) (list_num c u.list *ℤ list_den r.list)
      (at_most c r.list (list_num c u.list) (list_den u.list) (is_chain q first second u.direction is_first is_second) ((covers_all q first second r.list u.direction).0 got_r.covers) got_u.tight)
      (λ same. both_open.beyond (value_moved c (list_num c u.list) (list_den u.list) (list_num c r.list) (list_den r.list) got_u.tight got_r.tight.above same)))

  more_at_r : pos 0 <ℤ surplus q first second r.list u.list r.direction
  more_at_r = subst (λ (x : ℤ). pos 0 <ℤ x) (surplus_is q first second r.list u.list r.direction in_r) more_at_first

  less_at_u : surplus q first second r.list u.list u.direction <ℤ pos 0
  less_at_u = subst (λ (x : ℤ). x <ℤ pos 0) (surplus_is q first second r.list u.list u.direction in_u) less_at_second

  no_surplus : (x : Direction) → IsIn q x → SameValueAt q first second r.list u.list x → surplus q first second r.list u.list x ≡ pos 0
  no_surplus x in_x same = sym (surplus_is q first second r.list u.list x in_x) ∙ level _ _ same

  crossing_between : (x : Direction) → IsIn q x → IsPrimitive x → SameValueAt q first second r.list u.list x → TurnsLeft r.direction x × TurnsLeft x u.direction
  crossing_between x in_x primitive same = by_sign (cases_sign (cross r.direction x))
    where
      balance : pos 0 ≡ cross x u.direction *ℤ surplus q first second r.list u.list r.direction +ℤ cross r.direction x *ℤ surplus q first second r.list u.list u.direction
      balance =
          sym (ap (λ (t : ℤ). cross r.direction u.direction *ℤ t) (no_surplus x in_x same) ∙ mul-zero (cross r.direction u.direction))
          ∙ surplus_of_three q first second r.list u.list r.direction u.direction x

      by_sign : (cross r.direction x ≡ pos 0) ⊎ ((pos 0 <ℤ cross r.direction x) ⊎ (cross r.direction x <ℤ pos 0)) → TurnsLeft r.direction x × TurnsLeft x u.direction
      by_sign (inl flat) =
          absurd (no_direction r.direction u.direction x left (zero_factor (cross x u.direction) (cross r.direction x) _ _ balance more_at_r flat) flat primitive)
      by_sign (inr (inl beyond)) = (beyond, above_factor (cross x u.direction) (cross r.direction x) _ _ balance more_at_r less_at_u beyond)
      by_sign (inr (inr over)) =
          let further : TurnsLeft u.direction x = turned x u.direction (below_factor (cross x u.direction) (cross r.direction x) _ _ balance more_at_r less_at_u over) in
          let back : TurnsLeft u.direction r.direction = turns_on q u.direction x r.direction in_u in_x in_r further (turned r.direction x over) in
          absurd (not_both_ways r.direction u.direction left back)

  sum_between : (k : ℕ) (x : Direction) → IsCombination k 1 1 r.direction u.direction x → TurnsLeft r.direction x × TurnsLeft x u.direction
  sum_between k x is =
      let d = r.direction in
      let e = u.direction in (
        product_positive (cross d x) (pos k) (natural k) (subst (λ (t : ℤ). pos 0 <ℤ t) (sym (sum_before d.s d.t e.s e.t x.s x.t (pos k) is.first is.second)) left),
        product_positive (cross x e) (pos k) (natural k) (subst (λ (t : ℤ). pos 0 <ℤ t) (sym (sum_after d.s d.t e.s e.t x.s x.t (pos k) is.first is.second)) left),
      )
    where
      natural : (k : ℕ) → pos 0 ≤ℤ pos k
      natural k = omega (arith, ints)

  -- the next direction is to the left of the one neighbour and to the right of the other
  pub next_between : (x : Direction) → IsNext q first second r u x → TurnsLeft r.direction x × TurnsLeft x u.direction
  next_between x is =
      elim (both_or r.direction u.direction) [
        | inl both ↦ crossing_between x is.within is.primitive (is.crossing both.0 both.1)
        | inr not_inside ↦ let sum = is.sum not_inside in sum_between sum.0 x sum.1
      ]

  crossings_flat : (x y : Direction) → IsIn q x → IsIn q y → SameValueAt q first second r.list u.list x → SameValueAt q first second r.list u.list y → cross x y ≡ pos 0
  crossings_flat x y in_x in_y at_x at_y =
      let more : ℤ = surplus q first second r.list u.list r.direction in
      let three : cross x y *ℤ more ≡ pos 0 =
      surplus_of_three q first second r.list u.list x y r.direction
      ∙ ap₂ (λ (s t : ℤ). cross r.direction y *ℤ s +ℤ cross x r.direction *ℤ t) (no_surplus x in_x at_x) (no_surplus y in_y at_y)
      ∙ nothing (cross r.direction y) (cross x r.direction) in
      cancel_factor more (cross x y) (pos 0) (apart more more_at_r) (mul_comm more (cross x y) ∙ three ∙ sym (mul-zero more))
    where
      nothing : (a b : ℤ) → a *ℤ pos 0 +ℤ b *ℤ pos 0 ≡ pos 0
      nothing a b = omega (arith, ints, mul-zero a, mul-zero b)

      apart : (a : ℤ) → pos 0 <ℤ a → a ≡ pos 0 → ⊥
      apart a h e = omega (arith, ints)

  sums_flat : (k j : ℕ) (x y : Direction) → IsCombination k 1 1 r.direction u.direction x → IsCombination j 1 1 r.direction u.direction y → cross x y ≡ pos 0
  sums_flat k j x y of_x of_y =
      let d = r.direction in
      let e = u.direction in
      let all : pos k *ℤ (pos j *ℤ cross x y) ≡ pos 0 = sums_span_nothing (pos 1 *ℤ d.s +ℤ pos 1 *ℤ e.s) (pos 1 *ℤ d.t +ℤ pos 1 *ℤ e.t) x.s x.t y.s y.t (pos k) (pos j) of_x.first of_x.second of_y.first of_y.second in
      let one : pos j *ℤ cross x y ≡ pos 0 = cancel_factor (pos k) _ (pos 0) (some k x of_x) (all ∙ sym (mul-zero (pos k))) in
      cancel_factor (pos j) (cross x y) (pos 0) (some j y of_y) (one ∙ sym (mul-zero (pos j)))
    where
      zero_area : (a k b : ℤ) → a *ℤ k ≡ b → k ≡ pos 0 → pos 0 <ℤ b → ⊥
      zero_area a k b e none h = omega (arith, ints, e, ap (λ (t : ℤ). a *ℤ t) none, mul-zero a)

      some : (k : ℕ) (x : Direction) → IsCombination k 1 1 r.direction u.direction x → pos k ≡ pos 0 → ⊥
      some k x is none =
          let d = r.direction in
          let e = u.direction in
          let area : (cross d x) *ℤ pos k ≡ cross d e = sum_before d.s d.t e.s e.t x.s x.t (pos k) is.first is.second in
          zero_area (cross d x) (pos k) (cross d e) area none left

  -- two neighbours have no more than one next direction
  pub next_is_one : (x y : Direction) → IsNext q first second r u x → IsNext q first second r u y → x ≡ y
  next_is_one x y is also =
      same_direction q x y is.within also.within is.primitive also.primitive
      (elim (both_or r.direction u.direction) [
        | inl both ↦ crossings_flat x y is.within also.within (is.crossing both.0 both.1) (also.crossing both.0 both.1)
        | inr not_inside ↦ let a = is.sum not_inside in let b = also.sum not_inside in sums_flat a.0 b.0 x y a.1 b.1
      ])
