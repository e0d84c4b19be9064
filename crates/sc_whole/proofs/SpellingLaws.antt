-- Laws of the one spelling of a whole number.
use Rattle.std.proofs.Common.{◌≡◌, ◌≢◌, ℕ, zero, suc, ◌+◌, ◌-◌, ◌*◌, ◌/◌, ◌%◌, ◌^◌, ◌<◌, ◌≤◌, List, [], ◌∷◌, ◌++◌, map, length, get_or, drop, ℤ, pos, negsuc, neg_ℤ, FitsSigned, Result, Ok, refl, sym, ap, ◌∙◌, subst, arith, to_z, of_z, to_z-of_z, ◌↔◌, append_assoc, append-nil, ◌⊎◌, inl, inr, All}
use Rattle.std.specs.Int.{w128, IsInRange}
use Rattle.std.specs.List.{AllByRecursion}
use Rattle.std.specs.Str.{IsAscii, IsUtf8}
use Rattle.std.proofs.lemmas.Str.{IsUtf8-from_ascii}
use Rattle.std.specs.Int.Digits.{digits_of, number_from_digits, number_from_digits_after, AllBelowBase}
use Rattle.std.specs.Fmt.{decimal, signed_decimal}
use Rattle.std.specs.Str.Parse.{ParsesSigned}
use Rattle.std.proofs.lemmas.Fmt.{decimal_digit, decimal_by_steps_wide, decimal_is_IsNumeral_wide}
use Rattle.std.proofs.lemmas.Int.Digits.{digits_of_step, number_digits_of, number_after_ge, first_digits_of, all_below_base_digits_of}
use Rattle.std.proofs.lemmas.List.{map_push}
use Rattle.std.proofs.lemmas.Result.{Ok-from_Ok_iff}
use Rattle.std.proofs.lemmas.Str.Parse.{numerals_by_value, tells_digits, parse_signed_minus, parse_signed_digits}
use Rattle.sc_whole.specs.Spelling.{natural_spelling, spelling}

-- the number that digits write, whatever else the bytes are
natural_of : List ℕ → ℕ
natural_of bs = number_from_digits 10 (map (λ c. c - 48) bs)

map_back : (ds : List ℕ) → map (λ c. c - 48) (map (λ d. 48 + d) ds) ≡ ds
map_back [] = refl
map_back (d ∷ ds) = let e : 48 + d - 48 ≡ d = omega arith in λ i. e i ∷ map_back ds i

-- the digits of n write n
natural_of-spelling : (n : ℕ) → natural_of (natural_spelling n) ≡ n
unfolding natural_of natural_spelling
natural_of-spelling zero = refl
natural_of-spelling (suc n) = ap (number_from_digits 10) (map_back (digits_of 10 (suc n))) ∙ number_digits_of 10 (suc n) (omega arith)

-- no two natural numbers have one spelling
pub natural_spelling-injective : (m n : ℕ) → natural_spelling m ≡ natural_spelling n → m ≡ n
natural_spelling-injective m n e = sym (natural_of-spelling m) ∙ ap natural_of e ∙ natural_of-spelling n

first_of_map : (ds : List ℕ) → 0 < get_or ds 0 0 → 48 < get_or (map (λ d. 48 + d) ds) 0 0
first_of_map [] h = absurd (omega arith)
first_of_map (d ∷ ds) h = omega arith

-- the first byte is a digit, and it is `0` for 0 alone
pub first-natural_spelling : (n : ℕ) → 48 ≤ get_or (natural_spelling n) 0 0
unfolding natural_spelling
first-natural_spelling zero = omega arith
first-natural_spelling (suc n) = omega (arith, first_of_map (digits_of 10 (suc n)) (first_digits_of 10 (suc n) (omega arith) (omega arith)))

natural_spelling-ne_minus : (n : ℕ) (ds : List ℕ) → natural_spelling n ≢ 45 ∷ ds
natural_spelling-ne_minus n ds e = omega (arith, first-natural_spelling n, ap (λ xs. get_or xs 0 0) e)

-- each byte of n's spelling is a digit
digits_of_map : (ds : List ℕ) → AllBelowBase 10 ds → AllByRecursion (IsInRange 48 57) (map (λ d. 48 + d) ds)
digits_of_map [] h = tt
digits_of_map (d ∷ ds) h = let small = h.0 in ((omega arith, omega arith), digits_of_map ds h.1)

-- the spelling of a natural number is of digits alone
pub digits-natural_spelling : (n : ℕ) → AllByRecursion (IsInRange 48 57) (natural_spelling n)
unfolding natural_spelling
digits-natural_spelling zero = ((omega arith, omega arith), tt)
digits-natural_spelling (suc n) = digits_of_map (digits_of 10 (suc n)) (all_below_base_digits_of 10 (suc n) (omega arith))

ascii_from_digits : (cs : List ℕ) → AllByRecursion (IsInRange 48 57) cs → IsAscii cs
ascii_from_digits [] h i = omega arith
ascii_from_digits (c ∷ cs) h zero = let digit = h.0 in omega arith
ascii_from_digits (c ∷ cs) h (suc i) = ascii_from_digits cs h.1 i

-- a spelling is ASCII, and so UTF-8
pub IsAscii-spelling : (z : ℤ) → IsAscii (spelling z)
unfolding spelling
IsAscii-spelling (pos n) i = ascii_from_digits (natural_spelling n) (digits-natural_spelling n) i
IsAscii-spelling (negsuc n) zero = omega arith
IsAscii-spelling (negsuc n) (suc i) = ascii_from_digits (natural_spelling (suc n)) (digits-natural_spelling (suc n)) i

pub IsUtf8-spelling : (bs : List ℕ) (z : ℤ) → bs ≡ spelling z → IsUtf8 bs
IsUtf8-spelling bs z e = subst IsUtf8 (sym e) (IsUtf8-from_ascii (spelling z) (IsAscii-spelling z))

-- no two numbers have one spelling
pub spelling-injective : (x y : ℤ) → spelling x ≡ spelling y → x ≡ y
unfolding spelling
spelling-injective (pos m) (pos n) e = ap pos (natural_spelling-injective m n e)
spelling-injective (pos m) (negsuc n) e = absurd (natural_spelling-ne_minus m _ e)
spelling-injective (negsuc m) (pos n) e = absurd (natural_spelling-ne_minus n _ (sym e))
spelling-injective (negsuc m) (negsuc n) e = ap negsuc (omega (arith, natural_spelling-injective (suc m) (suc n) (ap (drop 1) e)))

-- what std prints is the one spelling
digits_are_spelling : (n : ℕ) → 0 < n → map (λ d. 48 + d) (digits_of 10 n) ≡ natural_spelling n
unfolding natural_spelling
digits_are_spelling zero h = absurd (omega arith)
digits_are_spelling (suc n) h = refl

zero_is_spelling : 48 ∷ [] ≡ natural_spelling 0
unfolding natural_spelling
zero_is_spelling = refl

decimal_digits_of : (n : ℕ) → 0 < n → n < 10 ^ 64 → decimal n ≡ map (λ d. 48 + d) (digits_of 10 n)
decimal_digits_of n some small = decimal_by_steps_wide (λ m ds. 0 < m → ds ≡ map (λ d. 48 + d) (digits_of 10 m))
    (λ m l a. let z : m / 10 ≡ 0 = omega arith in let e : m % 10 ≡ m = omega arith in sym (ap (map (λ d. 48 + d)) (digits_of_step 10 m (omega arith) a ∙ (λ i. digits_of 10 (z i) ++ (e i ∷ [])))))
    (λ m ds l h a. ap (λ x. x ++ ((48 + m % 10) ∷ [])) (h (omega arith)) ∙ sym (map_push (λ d. 48 + d) (digits_of 10 (m / 10)) (m % 10)) ∙ ap (map (λ d. 48 + d)) (sym (digits_of_step 10 m (omega arith) a)))
    n small some

-- what std prints of a natural number, and of one with a sign, is the one spelling
pub decimal_is_spelling : (n : ℕ) → n < 10 ^ 64 → decimal n ≡ natural_spelling n
decimal_is_spelling zero h = decimal_digit 0 (omega arith) ∙ zero_is_spelling
decimal_is_spelling (suc n) h = decimal_digits_of (suc n) (omega arith) h ∙ digits_are_spelling (suc n) (omega arith)

pub signed_decimal_is_spelling : (z : ℤ) → FitsSigned w128 z → signed_decimal z ≡ spelling z
unfolding spelling
signed_decimal_is_spelling (pos n) h = let fits = h.sfits in decimal_is_spelling n (omega arith)
signed_decimal_is_spelling (negsuc n) h = let fits = h.sfits in ap (λ ds. 45 ∷ ds) (decimal_is_spelling (suc n) (omega arith))

-- std's `parse` reads it as that number
parse_signed_decimal : {E : Type 0} (z : ℤ) (r : Result ℤ E) → FitsSigned w128 z → ParsesSigned w128 10 (signed_decimal z) r → r ≡ Ok z
parse_signed_decimal (pos n) r fits h =
    let small = fits.sfits in
    let k = decimal_is_IsNumeral_wide n (omega arith) in
    let read = parse_signed_digits (numerals_by_value _ tells_digits) w128 (decimal n) r h k.0.1 in
    Ok-from_Ok_iff r _ _ read (k.0.0, omega (arith, k.1, fits.sfits)) ∙ ap (λ m. Ok (pos m)) k.1
parse_signed_decimal (negsuc n) r fits h =
    let small = fits.sfits in
    let k = decimal_is_IsNumeral_wide (suc n) (omega arith) in
    let read = parse_signed_minus (numerals_by_value _ tells_digits) w128 (45 ∷ decimal (suc n)) r h refl in
    Ok-from_Ok_iff r _ _ read (k.0.1, k.0.0, omega (arith, k.1, fits.sfits)) ∙ ap (λ m. Ok (neg_ℤ (pos m))) k.1

-- std's `parse` reads a spelling as the number that it spells
pub parse_spelling : {E : Type 0} (bs : List ℕ) (z : ℤ) (r : Result ℤ E) → FitsSigned w128 z → bs ≡ spelling z → ParsesSigned w128 10 bs r → r ≡ Ok z
parse_spelling bs z r fits e h = parse_signed_decimal z r fits (subst (λ l. ParsesSigned w128 10 l r) (e ∙ sym (signed_decimal_is_spelling z fits)) h)

-- what std prints of an `i128`
pub printed_is_spelling : (bs : List ℕ) (z : ℤ) → FitsSigned w128 z → bs ≡ signed_decimal (to_z w128 (of_z w128 z)) → bs ≡ spelling z
printed_is_spelling bs z fits e = e ∙ ap signed_decimal (to_z-of_z fits) ∙ signed_decimal_is_spelling z fits

-- digits that begin with none of value 0 are the spelling of a number
digits_of_number_after : (n : ℕ) (ds : List ℕ) → 0 < n → AllBelowBase 10 ds → digits_of 10 (number_from_digits_after 10 n ds) ≡ digits_of 10 n ++ ds
digits_of_number_after n [] some h = sym (append-nil (digits_of 10 n))
digits_of_number_after n (d ∷ ds) some h =
    let small = h.0 in
    let m : ℕ = n * 10 + d in
    let front : m / 10 ≡ n = omega arith in
    let end : m % 10 ≡ d = omega arith in
    digits_of_number_after m ds (omega arith) h.1
    ∙ ap (λ x. x ++ ds) (digits_of_step 10 m (omega arith) (omega arith) ∙ (λ i. digits_of 10 (front i) ++ (end i ∷ [])))
    ∙ append_assoc (digits_of 10 n) (d ∷ []) ds

digits_of_digit : (d : ℕ) → 0 < d → d < 10 → digits_of 10 d ≡ d ∷ []
digits_of_digit d some small =
    let front : d / 10 ≡ 0 = omega arith in
    let end : d % 10 ≡ d = omega arith in
    digits_of_step 10 d (omega arith) some ∙ (λ i. digits_of 10 (front i) ++ (end i ∷ []))

values_below : (cs : List ℕ) → AllByRecursion (IsInRange 48 57) cs → AllBelowBase 10 (map (λ c. c - 48) cs)
values_below [] h = tt
values_below (c ∷ cs) h = let digit = h.0 in (omega arith, values_below cs h.1)

map_onward : (cs : List ℕ) → AllByRecursion (IsInRange 48 57) cs → map (λ d. 48 + d) (map (λ c. c - 48) cs) ≡ cs
map_onward [] h = refl
map_onward (c ∷ cs) h = let digit = h.0 in let e : 48 + (c - 48) ≡ c = omega arith in λ i. e i ∷ map_onward cs h.1 i

le_number_after : (n : ℕ) (ds : List ℕ) → n ≤ number_from_digits_after 10 n ds
le_number_after n ds = number_after_ge 10 n ds (omega arith)

positive_from_digits : (cs : List ℕ) → 48 < get_or cs 0 0 → AllByRecursion (IsInRange 48 57) cs → (n : ℕ) × (0 < n) × (cs ≡ natural_spelling n)
positive_from_digits [] some h = absurd (omega arith)
positive_from_digits (c ∷ cs) some h =
    let digit = h.0 in
    let ds : List ℕ = map (λ x. x - 48) cs in
    let n : ℕ = number_from_digits_after 10 (c - 48) ds in
    let large : 0 < n = omega (arith, le_number_after (c - 48) ds) in
    let digits : digits_of 10 n ≡ (c - 48) ∷ ds =
    digits_of_number_after (c - 48) ds (omega arith) (values_below cs h.1) ∙ ap (λ x. x ++ ds) (digits_of_digit (c - 48) (omega arith) (omega arith)) in
    (n, large, sym (map_onward (c ∷ cs) h) ∙ ap (map (λ d. 48 + d)) (sym digits) ∙ digits_are_spelling n large)

first_of_positive : (n : ℕ) → 0 < n → 48 < get_or (natural_spelling n) 0 0
first_of_positive n some = subst (λ ds. 48 < get_or ds 0 0) (digits_are_spelling n some) (first_of_map (digits_of 10 n) (first_digits_of 10 n (omega arith) some))

each_from_All : (cs : List ℕ) → All (IsInRange 48 57) cs → AllByRecursion (IsInRange 48 57) cs
each_from_All [] h = tt
each_from_All (c ∷ cs) h = (h 0 c (omega arith), each_from_All cs (λ k d l. h (suc k) d (omega arith)))

All-from_each : (cs : List ℕ) → AllByRecursion (IsInRange 48 57) cs → All (IsInRange 48 57) cs
All-from_each [] h k d l = absurd (omega arith)
All-from_each (c ∷ cs) h zero d l = h.0
All-from_each (c ∷ cs) h (suc k) d l = All-from_each cs h.1 k d (omega arith)

above_zero : (cs : List ℕ) → 0 < length cs → get_or cs 0 0 ≢ 48 → All (IsInRange 48 57) cs → 48 < get_or cs 0 0
above_zero cs some plain h = let digit = h 0 0 some in omega (arith, plain, digit.0)

-- a text that doesn't begin with `0` is the spelling of a number above 0 where it has digits alone
pub positive_spellings : (cs : List ℕ) → 0 < length cs → get_or cs 0 0 ≢ 48 → All (IsInRange 48 57) cs ↔ ((n : ℕ) × (0 < n) × (cs ≡ natural_spelling n))
positive_spellings cs some plain = (
  λ h. positive_from_digits cs (above_zero cs some plain h) (each_from_All cs h),
  λ h. All-from_each cs (subst (AllByRecursion (IsInRange 48 57)) (sym h.2) (digits-natural_spelling h.0)),
)

-- the spelling of a number above 0 doesn't begin with `0`, and it isn't empty
pub first_of_positive_spelling : (cs : List ℕ) → ((n : ℕ) × (0 < n) × (cs ≡ natural_spelling n)) → 48 < get_or cs 0 0
first_of_positive_spelling cs h = subst (λ ds. 48 < get_or ds 0 0) (sym h.2) (first_of_positive h.0 h.1)

-- after a minus sign stands the spelling of a number above 0
pub negative_spellings : (bs : List ℕ) → get_or bs 0 0 ≡ 45 → ((n : ℕ) × (0 < n) × (drop 1 bs ≡ natural_spelling n)) ↔ ((z : ℤ) × (bs ≡ spelling z))
unfolding spelling
negative_spellings [] minus = absurd (omega arith)
negative_spellings (c ∷ cs) minus = (
  λ h. let size : ℕ = h.0 in let some : 0 < size = h.1 in let suc_is : suc (size - 1) ≡ size = omega arith in
      (negsuc (size - 1), λ i. minus i ∷ (h.2 ∙ ap natural_spelling (sym suc_is)) i),
  λ h. negative_size h.0 h.1,
)
  where
    negative_size : (z : ℤ) → c ∷ cs ≡ spelling z → (n : ℕ) × (0 < n) × (drop 1 (c ∷ cs) ≡ natural_spelling n)
    negative_size (pos n) e = absurd (omega (arith, first-natural_spelling n, ap (λ xs. get_or xs 0 0) e))
    negative_size (negsuc n) e = (suc n, omega arith, ap (drop 1) e)

-- without one stands `0` or the spelling of a number above 0
pub natural_spellings : (bs : List ℕ) → get_or bs 0 0 ≢ 45 → ((bs ≡ 48 ∷ []) ⊎ ((n : ℕ) × (0 < n) × (bs ≡ natural_spelling n))) ↔ ((z : ℤ) × (bs ≡ spelling z))
unfolding spelling
natural_spellings bs plain = (
  λ h. elim h [ inl e ↦ (pos 0, e ∙ zero_is_spelling) | inr p ↦ (pos p.0, p.2) ],
  λ h. natural_size h.0 h.1,
)
  where
    natural_size : (z : ℤ) → bs ≡ spelling z → (bs ≡ 48 ∷ []) ⊎ ((n : ℕ) × (0 < n) × (bs ≡ natural_spelling n))
    natural_size (pos zero) e = inl (e ∙ sym zero_is_spelling)
    natural_size (pos (suc n)) e = inr (suc n, omega arith, e)
    natural_size (negsuc n) e = absurd (plain (ap (λ xs. get_or xs 0 0) e))
