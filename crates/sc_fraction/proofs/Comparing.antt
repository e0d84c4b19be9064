-- Continued division of two quotients, step by step.
use Rattle.std.proofs.Common.{◌≡◌, ◌≢◌, ℕ, ◌+◌, ◌*◌, ◌/◌, ◌%◌, ◌<◌, ◌≤◌, ◌⊎◌, inl, inr, nat_cmp, Less, Equal, Greater, sym, ap, ap₂, ◌∙◌, arith, mod-lt, div-add-mod', mul-le-mul_right, mul-lt-mul_of_pos_right, div-mul-le_self, mul-pos, mul-zero, mul_right_comm, lt_of_lt_of_le, le_trans, le_of_eq, eq-zero-or-pos}
use Rattle.std.proofs.lemmas.Bool.Decides.{nat_tests}
use Rattle.std.proofs.lemmas.Bool.{cases_order}

pub nat_cmp_less : (x y : ℕ) → x < y → nat_cmp x y ≡ Less
nat_cmp_less x y h = grind (arith, nat_tests)

pub nat_cmp_greater : (x y : ℕ) → y < x → nat_cmp x y ≡ Greater
nat_cmp_greater x y h = grind (arith, nat_tests)

pub nat_cmp_same : (x y : ℕ) → x ≡ y → nat_cmp x y ≡ Equal
nat_cmp_same x y h = grind (arith, nat_tests)

nat_cmp_after : (k x y : ℕ) → nat_cmp (k + x) (k + y) ≡ nat_cmp x y
nat_cmp_after k x y = grind (arith, nat_tests)

-- a quotient with the smaller whole part is smaller
below_by_whole_part : (a b c e : ℕ) → 0 < b → 0 < e → a / b < c / e → a * e < c * b
below_by_whole_part a b c e b_pos e_pos h =
    let next : a < (a / b + 1) * b = omega (arith, div-add-mod' a b, mod-lt a b_pos) in
    let left : a * e < (a / b + 1) * b * e = mul-lt-mul_of_pos_right next e_pos in
    let middle : (a / b + 1) * b * e ≤ c / e * b * e = mul-le-mul_right e (mul-le-mul_right b (whole_below (a / b) (c / e) h)) in
    let right : c / e * e * b ≤ c * b = mul-le-mul_right b (div-mul-le_self c e) in
    let turned : c / e * b * e ≡ c / e * e * b = mul_right_comm (c / e) b e in
    lt_of_lt_of_le left (le_trans middle (le_trans (le_of_eq turned) right))
  where
    whole_below : (m n : ℕ) → m < n → m + 1 ≤ n
    whole_below m n k = omega arith

-- quotients whose whole parts differ are in the order of these
pub by_whole_parts : (a b c e : ℕ) → 0 < b → 0 < e → a / b ≢ c / e → nat_cmp (a / b) (c / e) ≡ nat_cmp (a * e) (c * b)
by_whole_parts a b c e b_pos e_pos apart =
    elim (cases_order (a / b) (c / e)) [
      | inl h ↦ absurd (apart h)
      | inr h ↦ elim h [
        | inl k ↦ nat_cmp_less _ _ k ∙ sym (nat_cmp_less _ _ (below_by_whole_part a b c e b_pos e_pos k))
        | inr k ↦ nat_cmp_greater _ _ k ∙ sym (nat_cmp_greater _ _ (below_by_whole_part c e a b e_pos b_pos k))
      ]
    ]

-- with one whole part, what is left over decides
pub by_rests : (a b c e : ℕ) → a / b ≡ c / e → nat_cmp (e * (a % b)) (b * (c % e)) ≡ nat_cmp (a * e) (c * b)
by_rests a b c e same =
    let own : a * e ≡ a / b * b * e + e * (a % b) = ap (λ n. n * e) (sym (div-add-mod' a b)) ∙ omega arith in
    let other : c * b ≡ a / b * b * e + b * (c % e) = ap (λ n. n * b) (sym (div-add-mod' c e)) ∙ ap (λ n. (n * e + c % e) * b) (sym same) ∙ omega arith in
    sym (ap₂ nat_cmp own other ∙ nat_cmp_after (a / b * b * e) (e * (a % b)) (b * (c % e)))

-- where nothing is left over on one side, the other side decides
pub by_no_rest : (b e r s : ℕ) → 0 < b → 0 < e → (r ≡ 0) ⊎ (s ≡ 0) → nat_cmp r s ≡ nat_cmp (e * r) (b * s)
by_no_rest b e r s b_pos e_pos none =
    elim (eq-zero-or-pos r) [
      | inl r_none ↦ elim (eq-zero-or-pos s) [
        | inl s_none ↦ nat_cmp_same r s (r_none ∙ sym s_none) ∙ sym (nat_cmp_same _ _ (no_product e r r_none ∙ sym (no_product b s s_none)))
        | inr s_some ↦ nat_cmp_less r s (omega arith) ∙ sym (nat_cmp_less _ _ (below_product (e * r) (b * s) (no_product e r r_none) (mul-pos b_pos s_some)))
      ]
      | inr r_some ↦
          let s_none : s ≡ 0 = only_other none r_some in
          nat_cmp_greater r s (omega arith) ∙ sym (nat_cmp_greater _ _ (below_product (b * s) (e * r) (no_product b s s_none) (mul-pos e_pos r_some)))
    ]
  where
    no_product : (k n : ℕ) → n ≡ 0 → k * n ≡ 0
    no_product k n z = ap (λ m. k * m) z ∙ mul-zero k

    below_product : (m n : ℕ) → m ≡ 0 → 0 < n → m < n
    below_product m n z some = omega arith

    only_other : (r ≡ 0) ⊎ (s ≡ 0) → 0 < r → s ≡ 0
    only_other (inl z) some = absurd (omega arith)
    only_other (inr z) some = z
