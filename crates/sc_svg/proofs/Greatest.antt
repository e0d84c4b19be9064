-- The greatest size of the corners' points.
use Rattle.std.proofs.Common.{◌≡◌, ◌↔◌, IsTrue, inl, inr, ℕ, ◌+◌, ◌*◌, ◌<◌, ◌≤◌, Bool, true, false, List, [], ◌∷◌, ◌++◌, length, take, get_or, All, unsigned_abs, refl, sym, ap, subst, ◌∙◌, arith}
use Rattle.std.proofs.Math.Nat.{mul-le-mul, mul-le-mul_right, le_of_mul-le-mul_right}
use Rattle.std.proofs.lemmas.Bool.{ltb-true, cases_lt, false≢true}
use Rattle.std.proofs.lemmas.Int.{ints}
use Rattle.std.proofs.lemmas.List.{take_more}
use Rattle.std.proofs.lemmas.List.Elements.{All-nil, All-push, All-weaker, Contains-append_left, Contains-push}
use Rattle.sc_svg.specs.declared.extent.Extent.{Extent}
use Rattle.sc_svg.specs.declared.spot.Spot.{Spot}
use Rattle.sc_svg.specs.Fans.{breadth, has_point, size_of, IsAtMost, IsGreatest}

abbrev none : Extent
none = record { over = 0; under = 1 }

pub greatest_of_none : IsGreatest [] none
greatest_of_none = record { fraction = omega arith; greatest = All-nil _; taken = inl refl }

-- sizes are ordered
at_most_through : (a b c d e f : ℕ) → 0 < d → a * d ≤ c * b → c * f ≤ e * d → a * f ≤ e * b
at_most_through a b c d e f some h k =
    let p = mul-le-mul_right f h in
    let q = mul-le-mul_right b k in
    let r : (a * f) * d ≤ (e * b) * d = omega (arith, p, q) in
    le_of_mul-le-mul_right {m = a * f} {n = e * b} {k = d} r some

-- a test that one number is below another fails
pub not_greater : (test : Bool) (m n : ℕ) → (IsTrue test ↔ (m < n)) → test ≡ false → n ≤ m
not_greater test m n decides fails = elim (cases_lt m n) [
  | inl below ↦ absurd (false≢true (sym fails ∙ decides.1 below))
  | inr most ↦ most
]

module _ (corners : List Spot) (i : ℕ) (c : Spot) (k size : Extent) (inside : i < length corners) (here : c ≡ get_or corners i c) (of : size ≡ size_of c) where
  more : take (i + 1) corners ≡ take i corners ++ c ∷ []
  more = take_more corners i c inside ∙ ap (λ (d : Spot). take i corners ++ d ∷ []) (sym here)

  -- a corner without a point, or no larger than the greatest before, leaves it as it is
  pub greatest_stays : IsGreatest (take i corners) k → (has_point c ≡ true → size.over * k.under ≤ k.over * size.under) → IsGreatest (take (i + 1) corners) k
  greatest_stays h most = subst (λ (ds : List Spot). IsGreatest ds k) (sym more) (record {
    fraction = h.fraction;
    greatest = All-push (λ d. has_point d ≡ true → IsAtMost (size_of d) k) (take i corners) c h.greatest (λ pointed. subst (λ (x : Extent). IsAtMost x k) of (most pointed));
    taken = elim h.taken [
      | inl none ↦ inl none
      | inr found ↦ inr (found.0, Contains-append_left (take i corners) (c ∷ []) found.0 found.1, found.2, found.3)
    ];
  })

  abbrev grown : IsGreatest (take i corners) k → k.over * (size_of c).under < (size_of c).over * k.under → (d : Spot) → (has_point d ≡ true → IsAtMost (size_of d) k) → has_point d ≡ true → IsAtMost (size_of d) (size_of c)
  grown h greater d most pointed =
      at_most_through (size_of d).over (size_of d).under k.over k.under (size_of c).over (size_of c).under h.fraction (most pointed) (omega (arith, greater))

  -- a corner that is larger has the greatest size
  pub greatest_next : IsGreatest (take i corners) k → has_point c ≡ true → k.over * size.under < size.over * k.under → IsGreatest (take (i + 1) corners) size
  greatest_next h pointed greater =
      let more_than : k.over * (size_of c).under < (size_of c).over * k.under = subst (λ (x : Extent). k.over * x.under < x.over * k.under) of greater in
      subst (λ (x : Extent). IsGreatest (take (i + 1) corners) x) (sym of) (subst (λ (ds : List Spot). IsGreatest ds (size_of c)) (sym more) (record {
        fraction = ltb-true 0 (unsigned_abs c.num) pointed;
        greatest =
            All-push (λ d. has_point d ≡ true → IsAtMost (size_of d) (size_of c)) (take i corners) c
            (All-weaker (λ d. has_point d ≡ true → IsAtMost (size_of d) k) (λ d. has_point d ≡ true → IsAtMost (size_of d) (size_of c)) (grown h more_than) (take i corners) h.greatest)
            (λ p. omega arith);
        taken = inr (c, Contains-push (take i corners) c, pointed, refl);
      }))

-- where a corner has a point the greatest size isn't 0
some_product : (a b : ℕ) → 0 < a → 0 < b → 0 < a * b
some_product a b h k = omega (arith, mul-le-mul {n₁ = 1} {m₁ = 1} {n₂ = a} {m₂ = b} h k)

-- where a corner with a point is at most the greatest size, this isn't 0
pub some_size : (k : Extent) (c : Spot) → 0 < k.under → (has_point c ≡ true → IsAtMost (size_of c) k) → has_point c ≡ true → 0 < k.over
some_size k c under most pointed =
    let wide : 0 < breadth c = omega (arith, c.somewhere) in
    let den : 0 < unsigned_abs c.den = omega (arith, ints, c.above_zero) in
    let left = some_product (breadth c * unsigned_abs c.den) k.under (some_product (breadth c) (unsigned_abs c.den) wide den) under in
    elim (cases_lt 0 k.over) [
      | inl some ↦ some
      | inr none ↦ let over : k.over ≡ 0 = omega (arith, none) in absurd (omega (arith, left, most pointed, ap (λ (n : ℕ). n * unsigned_abs c.num) over))
    ]

-- so at each corner with a point the greatest size isn't 0
pub some_sizes : (corners : List Spot) (k : Extent) → IsGreatest corners k → All (λ c. has_point c ≡ true → 0 < k.over) corners
some_sizes corners k h = All-weaker (λ c. has_point c ≡ true → IsAtMost (size_of c) k) (λ c. has_point c ≡ true → 0 < k.over) (λ c. some_size k c h.fraction) corners h.greatest
