-- The numbers that make fractions whole are the common multiples of their denominators.
use Rattle.std.proofs.Common.{◌≡◌, ℕ, ◌*◌, ◌/◌, ◌<◌, ◌≤◌, List, [], ◌∷◌, ◌++◌, ℤ, pos, negsuc, ◌*ℤ◌, ◌<ℤ◌, unsigned_abs, arith, refl, sym, ap, subst, ◌∙◌}
use Rattle.std.specs.Int.{◌∣◌}
use Rattle.std.specs.List.{AllByRecursion}
use Rattle.std.proofs.lemmas.Int.{ints, unsigned_abs-mul}
use Rattle.std.proofs.lemmas.Nat.Gcd.{dvd_refl, dvd-zero, dvd_trans, le_of_dvd, IsGcd-swap}
use Rattle.std.proofs.Math.Nat.{dvd-mul_left, dvd-mul_right, mul-div_cancel', pos_of_dvd_of_pos, eq-one_of_dvd-one, mul-le-mul_right}
use Rattle.sc_algebra.proofs.Ints.{mul_comm, mul_assoc, pos-mul, mul-zero, cancel}
use Rattle.sc_whole.specs.Divisor.{IsLcm}
use Rattle.sc_whole.proofs.DivisorLaws.{gcd_exists, IsLcm-from_gcd, dvd_of_dvd-mul}
use Rattle.sc_fraction.specs.declared.frac.Frac.{Frac}
use Rattle.sc_fraction.specs.Frac.{numerator, denominator}
use Rattle.sc_assembly.specs.declared.parts.Part.{Part}
use Rattle.sc_assembly.specs.Multiples.{IsTimes, MakesWhole, IsLeastWhole, IsLeastCommon}

-- ---- one fraction
abbrev pub size : Frac → ℕ
size v = unsigned_abs (denominator v)

size_of : (z : ℤ) → pos 0 <ℤ z → z ≡ pos (unsigned_abs z)
size_of (pos n) h = refl
size_of (negsuc n) h = absurd (omega (arith, ints))

-- a denominator is positive, so that it is its size
pub denominator_is : (v : Frac) → denominator v ≡ pos (size v)
denominator_is v = size_of v.den v.positive

some_size : (z : ℤ) → pos 0 <ℤ z → 0 < unsigned_abs z
some_size (pos n) h = omega (arith, ints)
some_size (negsuc n) h = omega arith

pub size_positive : (v : Frac) → 0 < size v
size_positive v = some_size v.den v.positive

-- a number makes a fraction whole exactly where the denominator divides it
pub divides_from_times : (v : Frac) (n : ℕ) (m : ℤ) → IsTimes n v m → size v ∣ n
divides_from_times v n m h =
    let sizes : n * unsigned_abs (numerator v) ≡ unsigned_abs m * size v =
    sym (unsigned_abs-mul (pos n) (numerator v)) ∙ ap unsigned_abs h ∙ unsigned_abs-mul m (denominator v) in
    dvd_of_dvd-mul (size v) (unsigned_abs (numerator v)) n (IsGcd-swap (unsigned_abs (numerator v)) (size v) 1 v.reduced)
    (subst (λ (k : ℕ). size v ∣ k) (sym sizes) (dvd-mul_left (size v) (unsigned_abs m)))

regrouped : (d q num : ℤ) → (d *ℤ q) *ℤ num ≡ (q *ℤ num) *ℤ d
regrouped d q num = mul_assoc d q num ∙ mul_comm d (q *ℤ num)

pub times_from_divides : (v : Frac) (n : ℕ) → size v ∣ n → IsTimes n v (pos (n / size v) *ℤ numerator v)
times_from_divides v n h =
    let d : ℕ = size v in
    let q : ℕ = n / d in
    let whole : d * q ≡ n = mul-div_cancel' d h in
    ap (λ (k : ℕ). pos k *ℤ numerator v) (sym whole)
    ∙ ap (λ (x : ℤ). x *ℤ numerator v) (pos-mul d q)
    ∙ regrouped (pos d) (pos q) (numerator v)
    ∙ ap (λ (x : ℤ). (pos q *ℤ numerator v) *ℤ x) (sym (denominator_is v))

-- a fraction has one multiple
pub one_multiple : (v : Frac) (n : ℕ) (a b : ℤ) → IsTimes n v a → IsTimes n v b → a ≡ b
one_multiple v n a b h k =
    cancel (size v) a b (size_positive v)
    (mul_comm (pos (size v)) a ∙ ap (λ (x : ℤ). a *ℤ x) (sym (denominator_is v)) ∙ sym h ∙ k ∙ ap (λ (x : ℤ). b *ℤ x) (denominator_is v) ∙ mul_comm b (pos (size v)))

-- the quotient by the denominator, times the size of the numerator
pub count_is : (n : ℕ) (v : Frac) (m : ℕ) → IsTimes n v (pos m) → n / size v * unsigned_abs (numerator v) ≡ m
count_is n v m h =
    let q : ℕ = n / size v in
    sym (unsigned_abs-mul (pos q) (numerator v))
    ∙ ap unsigned_abs (one_multiple v n (pos q *ℤ numerator v) (pos m) (times_from_divides v n (divides_from_times v n (pos m) h)) h)

-- ---- all parts of a list
abbrev pub Divide : List Part → ℕ → Type 0
Divide parts k = AllByRecursion (λ p. size p.value ∣ k) parts

-- the same for all values of a list
pub divide_from_whole : (n : ℕ) (parts : List Part) → MakesWhole parts n → Divide parts n
divide_from_whole n [] whole = tt
divide_from_whole n (p ∷ parts) whole = (divides_from_times p.value n whole.0.0 whole.0.1, divide_from_whole n parts whole.1)

pub whole_from_divide : (n : ℕ) (parts : List Part) → Divide parts n → MakesWhole parts n
whole_from_divide n [] divide = tt
whole_from_divide n (p ∷ parts) divide = ((pos (n / size p.value) *ℤ numerator p.value, times_from_divides p.value n divide.0), whole_from_divide n parts divide.1)

-- the least common multiple of the denominators is the least number that makes all values whole
pub least_whole : (parts : List Part) (n : ℕ) → IsLeastCommon parts n → IsLeastWhole parts n
least_whole parts n is = record {
  positive = is.positive;
  whole = whole_from_divide n parts is.multiple;
  least = λ m some whole. le_of_dvd some (is.least m (divide_from_whole m parts whole));
}

divide_more : (m n : ℕ) (parts : List Part) → m ∣ n → Divide parts m → Divide parts n
divide_more m n [] h divide = tt
divide_more m n (p ∷ parts) h divide = (dvd_trans (size p.value) divide.0 h, divide_more m n parts h divide.1)

divide_last : (n : ℕ) (parts : List Part) (p : Part) → Divide parts n → size p.value ∣ n → Divide (parts ++ p ∷ []) n
divide_last n [] p divide h = (h, tt)
divide_last n (q ∷ parts) p divide h = (divide.0, divide_last n parts p divide.1 h)

-- what the denominators of two lists divide, those of each of them divide
pub divide_front : (n : ℕ) (parts rest : List Part) → Divide (parts ++ rest) n → Divide parts n
divide_front n [] rest divide = tt
divide_front n (q ∷ parts) rest divide = (divide.0, divide_front n parts rest divide.1)

pub divide_rest : (n : ℕ) (parts rest : List Part) → Divide (parts ++ rest) n → Divide rest n
divide_rest n [] rest divide = divide
divide_rest n (q ∷ parts) rest divide = divide_rest n parts rest divide.1

-- a number that all denominators divide
pub common : (parts : List Part) → (n : ℕ) × (0 < n) × Divide parts n
common [] = (1, omega arith, tt)
common (p ∷ parts) =
    let rest = common parts in
    let n : ℕ = size p.value * rest.0 in
    (n, product_positive (size p.value) rest.0 (size_positive p.value) rest.1, (dvd-mul_right (size p.value) rest.0, divide_more rest.0 n parts (dvd-mul_left rest.0 (size p.value)) rest.2))
  where
    product_positive : (a b : ℕ) → 0 < a → 0 < b → 0 < a * b
    product_positive a b h k = omega (arith, mul-le-mul_right b h)

-- ---- one part more
IsLcm-positive : (x y m : ℕ) → 0 < x → 0 < y → IsLcm x y m → 0 < m
IsLcm-positive x y m h k is = pos_of_dvd_of_pos (is.least (x * y) (dvd-mul_right x y) (dvd-mul_left y x)) (omega (arith, mul-le-mul_right y h))

-- of no denominators the least common multiple is 1
pub first_common : IsLeastCommon [] 1
first_common = record { positive = omega arith; multiple = tt; least = λ k divide. dvd-mul_right_one k }
  where
    dvd-mul_right_one : (k : ℕ) → 1 ∣ k
    dvd-mul_right_one k = subst (λ (j : ℕ). 1 ∣ j) (omega arith) (dvd-mul_right 1 k)

-- with one part more the least common multiple is that of the one before and of the part's denominator
pub next_common : (parts : List Part) (p : Part) (a m : ℕ) → IsLeastCommon parts a → IsLcm a (size p.value) m → IsLeastCommon (parts ++ p ∷ []) m
next_common parts p a m so_far is = record {
  positive = IsLcm-positive a (size p.value) m so_far.positive (size_positive p.value) is;
  multiple = divide_last m parts p (divide_more a m parts is.of_first so_far.multiple) is.of_second;
  least = λ k divide. is.least k (so_far.least k (divide_front k parts (p ∷ []) divide)) (divide_rest k parts (p ∷ []) divide).0;
}

-- where the parts up to one have no common multiple within a limit, no number within it makes all values whole
pub beyond : (parts rest : List Part) (p : Part) (a limit : ℕ) → IsLeastCommon parts a → ((m : ℕ) → IsLcm a (size p.value) m → limit < m) → (n : ℕ) → IsLeastWhole (parts ++ p ∷ rest) n → limit < n
beyond parts rest p a limit so_far over n is =
    let divide : Divide (parts ++ p ∷ rest) n = divide_from_whole n (parts ++ p ∷ rest) is.whole in
    let g = gcd_exists a (size p.value) in
    let lcm : IsLcm a (size p.value) (a / g.0 * size p.value) = IsLcm-from_gcd a (size p.value) g.0 so_far.positive g.1 in
    let within : a / g.0 * size p.value ≤ n = le_of_dvd is.positive (lcm.least n (so_far.least n (divide_front n parts (p ∷ rest) divide)) (divide_rest n parts (p ∷ rest) divide).0) in
    omega (arith, over (a / g.0 * size p.value) lcm)

-- a fraction whose multiple is 0 is 0, and so has the denominator 1
pub denominator_of_zero : (v : Frac) (n : ℕ) → 0 < n → IsTimes n v (pos 0) → denominator v ≡ pos 1
denominator_of_zero v n some h =
    let nothing : numerator v ≡ pos 0 = cancel n (numerator v) (pos 0) some (h ∙ zero_times (denominator v) ∙ sym (mul-zero (pos n))) in
    let one : size v ≡ 1 = eq-one_of_dvd-one (v.reduced.2 (size v) (subst (λ (k : ℕ). size v ∣ k) (sym (ap unsigned_abs nothing)) (dvd-zero (size v))) (dvd_refl (size v))) in
    denominator_is v ∙ ap pos one
  where
    zero_times : (x : ℤ) → pos 0 *ℤ x ≡ pos 0
    zero_times x = mul_comm (pos 0) x ∙ mul-zero x
