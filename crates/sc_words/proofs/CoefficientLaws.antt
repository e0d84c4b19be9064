-- Digits and coefficients.
use Rattle.std.proofs.Common.{◌≡◌, ℕ, ◌+◌, ◌*◌, ◌-◌, ◌^◌, ◌<◌, ◌≤◌, Bool, true, false, ◌&&◌, ◌||◌, eqb, leb, [], ◌∷◌, length, get_or, take, map, Option, Some, None, ℤ, pos, neg_ℤ, ◌≤ℤ◌, refl, sym, subst, ◌∙◌, arith, add-one, inl, inr}
use Rattle.std.specs.List.{list_all}
use Rattle.std.specs.Option.{option_map}
use Rattle.std.specs.Int.Digits.{number_from_digits}
use Rattle.std.proofs.lemmas.Bool.{cases_Bool, leb-true, and_parts, and_left, and_right, or_parts, cond-true, cond-false, false≢true, true≢false}
use Rattle.std.proofs.Math.Nat.{pow-suc}
use Rattle.std.proofs.lemmas.Bool.Decides.{nat_tests}
use Rattle.std.proofs.lemmas.Int.{ints}
use Rattle.std.proofs.lemmas.Option.{same_Some, none-some}
use Rattle.std.proofs.lemmas.List.{take-map, get_or-map, length-map}
use Rattle.std.proofs.lemmas.List.Folds.{list_all_at}
use Rattle.std.proofs.lemmas.Int.Digits.{number_more}
use Rattle.sc_words.specs.ChainText.{Field, is_digit, digits_number, size_of, coefficient_of, begins_number}
use Rattle.sc_words.specs.Spelling.{letter_of, word_of}
use Rattle.sc_words.specs.declared.limits.TheConstants.{MAX_COEFFICIENT, COEFFICIENT_DIGITS}

-- each byte of a field of digits is a digit
pub digit_at : (ds : Field) (i : ℕ) → i < length ds → list_all is_digit ds ≡ true → is_digit (get_or ds i 0) ≡ true
digit_at ds i h all = elim (cases_Bool (is_digit (get_or ds i 0))) [
  | inl digit ↦ digit
  | inr other ↦ absurd (let none : list_all is_digit ds ≡ false = list_all_at is_digit ds i 0 h other in let clash : true ≡ false = sym all ∙ none in true≢false clash)
]

-- a digit is at least 48 and at most 57
pub record IsDigitByte (b : ℕ) : Type 0 where
  pub low : 48 ≤ b
  pub high : b ≤ 57

pub digit_byte : (b : ℕ) → is_digit b ≡ true → IsDigitByte b
digit_byte b h = let both = and_parts _ _ h in record { low = leb-true _ _ both.0; high = leb-true _ _ both.1 }

-- the number that a digit writes
abbrev value : ℕ → ℕ
value b = b - 48

-- ten times the number that the digits so far write, plus the next digit, is what one digit more writes
pub next_number : (ds : Field) (i n d : ℕ) → i < length ds → n ≡ digits_number (take i ds) → d ≡ get_or ds i 0 - 48 → n * 10 + d ≡ digits_number (take (i + 1) ds)
next_number ds i n d h e f =
    let inside : i < length (map value ds) = simp length-map h in
    let more : number_from_digits 10 (take (i + 1) (map value ds)) ≡ number_from_digits 10 (take i (map value ds)) * 10 + get_or (map value ds) i 0 = number_more 10 (map value ds) i inside in
    let at : get_or (map value ds) i 0 ≡ get_or ds i 0 - 48 = get_or-map value ds i 0 0 h in
    let here : take i (map value ds) ≡ map value (take i ds) = take-map value i ds in
    let next : take (i + 1) (map value ds) ≡ map value (take (i + 1) ds) = take-map value (i + 1) ds in
    let number : digits_number (take (i + 1) ds) ≡ digits_number (take i ds) * 10 + (get_or ds i 0 - 48) = rw (next, here, at) at more in
    rw (e, f) (sym number)

pub next_bound : (i n d : ℕ) → n < 10 ^ i → d ≤ 9 → n * 10 + d < 10 ^ (i + 1)
next_bound i n d h l = rw (add-one, pow-suc) (omega arith)

-- a field that begins as a number is no word, and one that doesn't is no coefficient

number_no_letter : (b : ℕ) → (is_digit b || eqb b 43 || eqb b 45) ≡ true → letter_of b ≡ None
number_no_letter b h = grind (arith, nat_tests)

pub number_no_word : (f : Field) → begins_number f ≡ true → word_of f ≡ None
number_no_word [] h = absurd (false≢true h)
number_no_word (b ∷ bs) h = rw (number_no_letter b h) refl

-- a field with a byte that is no digit writes no size
pub size_of_others : (f : Field) → list_all is_digit f ≡ false → size_of f ≡ None
size_of_others f h = rw (and_left _ (leb (digits_number f) MAX_COEFFICIENT) (and_right (leb 1 (length f) && leb (length f) COEFFICIENT_DIGITS) _ h)) refl

three_false : (x y z : Bool) → (x || y || z) ≡ false → (x ≡ false) × (y ≡ false) × (z ≡ false)
three_false x y z h = let both = or_parts (x || y) z h in let two = or_parts x y both.0 in (two.0, two.1, both.1)

pub other_no_coefficient : (f : Field) → begins_number f ≡ false → coefficient_of f ≡ None
other_no_coefficient [] h = refl
other_no_coefficient (b ∷ bs) h =
    let none = three_false (is_digit b) (eqb b 43) (eqb b 45) h in
    let plus : eqb b 43 ≡ false = none.1 in
    let minus : eqb b 45 ≡ false = none.2 in
    let size : size_of (b ∷ bs) ≡ None = size_of_others (b ∷ bs) (and_left (is_digit b) (list_all is_digit bs) none.0) in
    rw (plus, minus, size) refl

-- a coefficient is small
pub record IsSmall (z : ℤ) : Type 0 where
  pub low : neg_ℤ (pos MAX_COEFFICIENT) ≤ℤ z
  pub high : z ≤ℤ pos MAX_COEFFICIENT

size_small : (f : Field) (n : ℕ) → size_of f ≡ Some n → n ≤ MAX_COEFFICIENT
size_small f n h =
    let fits : Bool = leb 1 (length f) && leb (length f) COEFFICIENT_DIGITS && list_all is_digit f && leb (digits_number f) MAX_COEFFICIENT in
    elim (cases_Bool fits) [
      | inl fit ↦
          (let is : size_of f ≡ Some (digits_number f) = cond-true fits (Some (digits_number f)) None fit in
          let same : digits_number f ≡ n = same_Some _ _ (sym is ∙ h) in
          let small : digits_number f ≤ MAX_COEFFICIENT = leb-true _ _ (and_parts _ _ fit).1 in
          omega arith)
      | inr other ↦ (let is : size_of f ≡ None = cond-false fits (Some (digits_number f)) None other in absurd (none-some n (sym is ∙ h)))
    ]

small_pos : (o : Option ℕ) (z : ℤ) → ((n : ℕ) → o ≡ Some n → n ≤ MAX_COEFFICIENT) → option_map pos o ≡ Some z → IsSmall z
small_pos None z h e = absurd (none-some z e)
small_pos (Some n) z h e =
    let small : n ≤ MAX_COEFFICIENT = h n refl in
    subst IsSmall (same_Some (pos n) z e) (record { low = omega (arith, ints); high = omega (arith, ints) })

small_neg : (o : Option ℕ) (z : ℤ) → ((n : ℕ) → o ≡ Some n → n ≤ MAX_COEFFICIENT) → option_map (λ n. neg_ℤ (pos n)) o ≡ Some z → IsSmall z
small_neg None z h e = absurd (none-some z e)
small_neg (Some n) z h e =
    let small : n ≤ MAX_COEFFICIENT = h n refl in
    subst IsSmall (same_Some (neg_ℤ (pos n)) z e) (record { low = omega (arith, ints); high = omega (arith, ints) })

-- the coefficient that a field writes is small
pub coefficient_small : (f : Field) (z : ℤ) → coefficient_of f ≡ Some z → IsSmall z
coefficient_small [] z h = absurd (none-some z h)
coefficient_small (b ∷ f) z h =
    elim (cases_Bool (eqb b 43)) [
      | inl plus ↦ small_pos (size_of f) z (size_small f) (rw plus at h)
      | inr other ↦ elim (cases_Bool (eqb b 45)) [
        | inl minus ↦ small_neg (size_of f) z (size_small f) (rw (other, minus) at h)
        | inr neither ↦ small_pos (size_of (b ∷ f)) z (size_small (b ∷ f)) (rw (other, neither) at h)
      ]
    ]
