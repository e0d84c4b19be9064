-- The values of a list by its form.
use Rattle.std.proofs.Common.{◌≡◌, ℕ, suc, ◌+◌, ◌*◌, [], ◌∷◌, reverse, length, get_or, ℤ, pos, neg_ℤ, ◌+ℤ◌, ◌-ℤ◌, ◌*ℤ◌, unsigned_abs, arith, refl, sym, ap, ap₂, ◌∙◌}
use Rattle.std.proofs.lemmas.Int.{ints}
use Rattle.std.proofs.lemmas.List.{length-map, length-reverse}
use Rattle.std.proofs.lemmas.List.Sums.{sum_by-append, sum_by-cons}
use Rattle.sc_algebra.specs.Sums.{sum_below}
use Rattle.sc_algebra.proofs.Ints.{products, mul-zero}
use Rattle.sc_algebra.proofs.Sums.{sum-congr, sum_first}
use Rattle.sc_theory.specs.Words.{Word, inverse_letter, inverse_word}
use Rattle.sc_theory.specs.Chains.{Chain, weight, weighted_length}
use Rattle.sc_theory.specs.Prices.{Prices}
use Rattle.sc_cone.specs.declared.Direction.{Direction}
use Rattle.sc_cone.specs.declared.Quadrant.{Quadrant}
use Rattle.sc_cone.specs.declared.Quadrant.TheVariants.{Lower, Upper}
use Rattle.sc_cone.specs.Directions.{IsIn}
use Rattle.sc_cone.specs.Cones.{times, inverses, cone, second_words, chain_of}
use Rattle.sc_cone.specs.Values.{list_num, first_form, second_form}
use Rattle.sc_cone.proofs.Sizes.{from_zero, to_zero}

-- weights times anything, summed
abbrev weighed : Chain → (ℕ → ℤ) → ℤ
weighed c f = sum_below (λ w. pos (weight c w) *ℤ f w) (length c)

weighed_first : (u : ℕ × Word) (c : Chain) (f : ℕ → ℤ) → weighed (u ∷ c) f ≡ pos u.0 *ℤ f 0 +ℤ weighed c (λ w. f (suc w))
weighed_first u c f = sum_first (λ w. pos (weight (u ∷ c) w) *ℤ f w) (length c)

one_more : (a x f r : ℤ) → (a *ℤ x) *ℤ f +ℤ a *ℤ r ≡ a *ℤ (x *ℤ f +ℤ r)
one_more a x f r = simp products (omega (arith, ints))

weighed_times : (a : ℕ) (c : Chain) (f : ℕ → ℤ) → weighed (times a c) f ≡ pos a *ℤ weighed c f
weighed_times a [] f = sym (mul-zero (pos a))
weighed_times a (u ∷ c) f =
    weighed_first (a * u.0, u.1) (times a c) f
    ∙ ap (λ (t : ℤ). pos (a * u.0) *ℤ f 0 +ℤ t) (weighed_times a c (λ w. f (suc w)))
    ∙ one_more (pos a) (pos u.0) (f 0) (weighed c (λ w. f (suc w)))
    ∙ ap (λ (t : ℤ). pos a *ℤ t) (sym (weighed_first u c f))

weighed_cone : (a b : ℕ) (c d : Chain) (f : ℕ → ℤ) → weighed (cone c d a b) f ≡ pos a *ℤ weighed c f +ℤ pos b *ℤ weighed d (λ w. f (length c + w))
weighed_cone a b [] d f =
    weighed_times b d f
    ∙ ap (λ (t : ℤ). pos b *ℤ t) (sum-congr (λ w. pos (weight d w) *ℤ f w) (λ w. pos (weight d w) *ℤ f (0 + w)) (length d) (λ w inside. ap (λ (v : ℕ). pos (weight d w) *ℤ f v) (omega arith)))
    ∙ nothing (pos a) (pos b *ℤ weighed d (λ w. f (0 + w)))
  where
    nothing : (p x : ℤ) → x ≡ p *ℤ pos 0 +ℤ x
    nothing p x = omega (arith, ints, mul-zero p)
weighed_cone a b (u ∷ c) d f =
    let rest : ℤ = weighed d (λ w. f (suc (length c + w))) in
    let same : rest ≡ weighed d (λ w. f (suc (length c) + w)) = sum-congr (λ w. pos (weight d w) *ℤ f (suc (length c + w))) (λ w. pos (weight d w) *ℤ f (suc (length c) + w)) (length d) (λ w inside. ap (λ (v : ℕ). pos (weight d w) *ℤ f v) (omega arith)) in
    weighed_first (a * u.0, u.1) (cone c d a b) f
    ∙ ap (λ (t : ℤ). pos (a * u.0) *ℤ f 0 +ℤ t) (weighed_cone a b c d (λ w. f (suc w)))
    ∙ sums (pos a) (pos u.0) (f 0) (weighed c (λ w. f (suc w))) (pos b *ℤ rest)
    ∙ ap₂ (λ (s t : ℤ). pos a *ℤ s +ℤ pos b *ℤ t) (sym (weighed_first u c f)) same
  where
    sums : (p x g s y : ℤ) → (p *ℤ x) *ℤ g +ℤ (p *ℤ s +ℤ y) ≡ p *ℤ (x *ℤ g +ℤ s) +ℤ y
    sums p x g s y = simp products (omega (arith, ints))

-- weighted lengths
length_times : (a : ℕ) (c : Chain) → weighted_length (times a c) ≡ a * weighted_length c
length_times a [] = omega arith
length_times a (u ∷ c) =
    sum_by-cons (λ (w : ℕ × Word). w.0 * length w.1) (a * u.0, u.1) (times a c)
    ∙ ap (λ (t : ℕ). (a * u.0) * length u.1 + t) (length_times a c)
    ∙ regrouped a u.0 (length u.1) (weighted_length c)
    ∙ ap (λ (t : ℕ). a * t) (sym (sum_by-cons (λ (w : ℕ × Word). w.0 * length w.1) u c))
  where
    regrouped : (a x l r : ℕ) → (a * x) * l + a * r ≡ a * (x * l + r)
    regrouped a x l r = omega arith

length_inverse_word : (w : Word) → length (inverse_word w) ≡ length w
length_inverse_word w = length-map (reverse w) inverse_letter ∙ length-reverse w

length_inverses : (c : Chain) → weighted_length (inverses c) ≡ weighted_length c
length_inverses [] = refl
length_inverses (u ∷ c) =
    sum_by-cons (λ (w : ℕ × Word). w.0 * length w.1) (u.0, inverse_word u.1) (inverses c)
    ∙ ap₂ (λ (s t : ℕ). u.0 * s + t) (length_inverse_word u.1) (length_inverses c)
    ∙ sym (sum_by-cons (λ (w : ℕ × Word). w.0 * length w.1) u c)

length_second : (q : Quadrant) (second : Chain) → weighted_length (second_words q second) ≡ weighted_length second
length_second Lower second = length_inverses second
length_second Upper second = refl

-- the weighted length of a direction's chain is linear in the sizes of the coordinates
pub length_by_form : (q : Quadrant) (first second : Chain) (d : Direction) → weighted_length (chain_of q first second d) ≡ unsigned_abs d.s * weighted_length first + unsigned_abs d.t * weighted_length second
length_by_form q first second d =
    let a : ℕ = unsigned_abs d.s in
    let b : ℕ = unsigned_abs d.t in
    let other : Chain = second_words q second in
    sum_by-append (λ (w : ℕ × Word). w.0 * length w.1) (times a first) (times b other)
    ∙ ap₂ (λ (s t : ℕ). s + t) (length_times a first) (length_times b other ∙ ap (λ (t : ℕ). b * t) (length_second q second))

-- bounds
weighed_inverses : (c : Chain) (f : ℕ → ℤ) → weighed (inverses c) f ≡ weighed c f
weighed_inverses [] f = refl
weighed_inverses (u ∷ c) f =
    weighed_first (u.0, inverse_word u.1) (inverses c) f ∙ ap (λ (t : ℤ). pos u.0 *ℤ f 0 +ℤ t) (weighed_inverses c (λ w. f (suc w))) ∙ sym (weighed_first u c f)

weighed_second : (q : Quadrant) (second : Chain) (f : ℕ → ℤ) → weighed (second_words q second) f ≡ weighed second f
weighed_second Lower second f = weighed_inverses second f
weighed_second Upper second f = refl

two : (a : ℤ) → pos 2 *ℤ a ≡ a +ℤ a
two a = omega (arith, ints)

form_doubled : (d a b l m x y : ℤ) → d *ℤ (a *ℤ l +ℤ b *ℤ m) -ℤ ((a *ℤ x +ℤ b *ℤ y) +ℤ (a *ℤ x +ℤ b *ℤ y)) ≡ a *ℤ (d *ℤ l -ℤ (x +ℤ x)) +ℤ b *ℤ (d *ℤ m -ℤ (y +ℤ y))
form_doubled d a b l m x y = simp products (omega (arith, ints))

form_plain : (d a b l m x y : ℤ) → d *ℤ (a *ℤ l +ℤ b *ℤ m) -ℤ pos 2 *ℤ (a *ℤ x +ℤ b *ℤ y) ≡ a *ℤ (d *ℤ l -ℤ pos 2 *ℤ x) +ℤ b *ℤ (d *ℤ m -ℤ pos 2 *ℤ y)
form_plain d a b l m x y = rw (two (a *ℤ x +ℤ b *ℤ y), two x, two y) (form_doubled d a b l m x y)

-- a list's value at a direction, by its form and the sizes of the coordinates
pub value_by_form : (q : Quadrant) (first second : Chain) (list : Prices) (d : Direction) → list_num (chain_of q first second d) list ≡ pos (unsigned_abs d.s) *ℤ first_form first list +ℤ pos (unsigned_abs d.t) *ℤ second_form first second list
value_by_form q first second list d =
    let a : ℕ = unsigned_abs d.s in
    let b : ℕ = unsigned_abs d.t in
    let f : ℕ → ℤ = λ w. get_or list.base w (pos 0) in
    let beyond : ℕ → ℤ = λ w. f (length first + w) in
    ap₂ (λ (s : ℕ) (t : ℤ). list.scale *ℤ pos s -ℤ pos 2 *ℤ t) (length_by_form q first second d)
    (weighed_cone a b first (second_words q second) f ∙ ap (λ (t : ℤ). pos a *ℤ weighed first f +ℤ pos b *ℤ t) (weighed_second q second beyond))
    ∙ form_plain list.scale (pos a) (pos b) (pos (weighted_length first)) (pos (weighted_length second)) (weighed first f) (weighed second beyond)

-- the same with the signs of the quadrant
abbrev pub signed : Quadrant → ℤ → ℤ
signed Lower z = neg_ℤ z
signed Upper z = z

-- a list's value at a direction of a quadrant, as a linear function of the coordinates themselves
pub value_signed : (q : Quadrant) (first second : Chain) (list : Prices) (d : Direction) → IsIn q d → list_num (chain_of q first second d) list ≡ d.s *ℤ first_form first list +ℤ d.t *ℤ signed q (second_form first second list)
value_signed Upper first second list d within =
    value_by_form Upper first second list d ∙ ap₂ (λ (s t : ℤ). s *ℤ first_form first list +ℤ t *ℤ second_form first second list) (sym (from_zero d.s within.0)) (sym (from_zero d.t within.1))
value_signed Lower first second list d within =
    value_by_form Lower first second list d
    ∙ ap₂ (λ (s t : ℤ). s *ℤ first_form first list +ℤ t *ℤ second_form first second list) (sym (from_zero d.s within.0)) (sym (to_zero d.t within.1))
    ∙ ap (λ (t : ℤ). d.s *ℤ first_form first list +ℤ t) (both d.t (second_form first second list))
  where
    both : (x y : ℤ) → neg_ℤ x *ℤ y ≡ x *ℤ neg_ℤ y
    both x y = simp products (omega (arith, ints))
