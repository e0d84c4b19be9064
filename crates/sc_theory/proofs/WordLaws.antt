-- Letters, their inverses, and the totals of words.
use Rattle.std.proofs.Common.{◌≡◌, ℕ, Bool, true, false, not, ◌&&◌, cond, eqb, ◌==◌, [], ◌∷◌, ◌++◌, map, reverse, refl, sym, ap, ◌∙◌, arith, ℤ, pos, neg_ℤ, ◌+ℤ◌}
use Rattle.std.proofs.lemmas.Bool.{eqb-true, eq-eqb, and_parts, and_from}
use Rattle.std.proofs.lemmas.Int.{ints}
use Rattle.std.proofs.lemmas.List.{map-append, reverse-append}
use Rattle.std.proofs.lemmas.List.Sums.{sum_by-append, sum_by-cons}
use Rattle.std.specs.List.{count_by}
use mathlib.Core.List.{reverse-cons}
use Rattle.sc_theory.specs.declared.Letter.{Letter}
use Rattle.sc_theory.specs.Words.{Word, inverse_letter, same_sign, is_inverse, inverse_word, is_positive, is_negative, total}

-- the letter with a number and a sign
abbrev pub letter_of : ℕ → Bool → Letter
letter_of n b = record { number = n; inverse = b }

-- two letters with the same number and the same sign are one
pub same_letters : (x y : Letter) → x.number ≡ y.number → x.inverse ≡ y.inverse → x ≡ y
same_letters x y n s = ap (λ (m : ℕ). letter_of m x.inverse) n ∙ ap (λ (b : Bool). letter_of y.number b) s

pub not-not : (b : Bool) → not (not b) ≡ b
not-not true = refl
not-not false = refl

pub inverse_letter-inverse_letter : (x : Letter) → inverse_letter (inverse_letter x) ≡ x
inverse_letter-inverse_letter x = ap (λ (b : Bool). letter_of x.number b) (not-not x.inverse)

other_sign : (a b : Bool) → not (same_sign a b) ≡ true → b ≡ not a
other_sign true true h = cc
other_sign true false h = refl
other_sign false true h = refl
other_sign false false h = cc

is_other_sign : (a : Bool) → not (same_sign a (not a)) ≡ true
is_other_sign true = refl
is_other_sign false = refl

-- the inverse of x is the letter that passes the test
pub letter_from_is_inverse : (x y : Letter) → is_inverse x y ≡ true → y ≡ inverse_letter x
letter_from_is_inverse x y h =
    let both = and_parts (eqb x.number y.number) (not (same_sign x.inverse y.inverse)) h in
    same_letters y (inverse_letter x) (sym (eqb-true x.number y.number both.0)) (other_sign x.inverse y.inverse both.1)

pub is_inverse-inverse_letter : (x : Letter) → is_inverse x (inverse_letter x) ≡ true
is_inverse-inverse_letter x =
    and_from (eqb x.number x.number) (not (same_sign x.inverse (not x.inverse))) (eq-eqb x.number x.number refl) (is_other_sign x.inverse)

pub is_inverse_comm : (x y : Letter) → is_inverse x y ≡ is_inverse y x
is_inverse_comm x y = grind (arith, letter_from_is_inverse, is_inverse-inverse_letter, inverse_letter-inverse_letter)

-- a letter is positive where its inverse is negative
pub is_positive-inverse_letter : (g : ℕ) (x : Letter) → is_positive g (inverse_letter x) ≡ is_negative g x
is_positive-inverse_letter g x = ap (λ (b : Bool). (x.number == g) && b) (not-not x.inverse)

pub is_negative-inverse_letter : (g : ℕ) (x : Letter) → is_negative g (inverse_letter x) ≡ is_positive g x
is_negative-inverse_letter g x = refl

-- the words in reverse order: the first letter comes last
pub inverse_word-cons : (x : Letter) (w : Word) → inverse_word (x ∷ w) ≡ inverse_word w ++ inverse_letter x ∷ []
inverse_word-cons x w = ap (map inverse_letter) (reverse-cons x w) ∙ map-append inverse_letter (reverse w) (x ∷ [])

-- the inverse of a product is the product of the inverses in reverse order
pub inverse_word-append : (u v : Word) → inverse_word (u ++ v) ≡ inverse_word v ++ inverse_word u
inverse_word-append u v = ap (map inverse_letter) (reverse-append u v) ∙ map-append inverse_letter (reverse v) (reverse u)

pub inverse_word-inverse_word : (w : Word) → inverse_word (inverse_word w) ≡ w
inverse_word-inverse_word [] = refl
inverse_word-inverse_word (x ∷ w) =
    ap inverse_word (inverse_word-cons x w)
    ∙ inverse_word-append (inverse_word w) (inverse_letter x ∷ [])
    ∙ ap (λ (y : Letter). y ∷ inverse_word (inverse_word w)) (inverse_letter-inverse_letter x)
    ∙ ap (λ (v : Word). x ∷ v) (inverse_word-inverse_word w)

-- what a test adds to a count
abbrev pub counted : Bool → ℕ
counted b = cond b 1 0

-- how often a test passes in an inverse word, where it passes an inverse letter as another test passes the letter
pub count_by-inverse_word : (p q : Letter → Bool) → ((x : Letter) → p (inverse_letter x) ≡ q x) → (w : Word) → count_by p (inverse_word w) ≡ count_by q w
count_by-inverse_word p q agree [] = refl
count_by-inverse_word p q agree (x ∷ w) =
    ap (count_by p) (inverse_word-cons x w)
    ∙ sum_by-append (λ y. cond (p y) 1 0) (inverse_word w) (inverse_letter x ∷ [])
    ∙ omega (arith, count_by-inverse_word p q agree w, ap counted (agree x), sum_by-cons (λ y. cond (q y) 1 0) x w)

pub total-inverse_word : (g : ℕ) (w : Word) → total g (inverse_word w) ≡ neg_ℤ (total g w)
total-inverse_word g w =
    let p : count_by (is_positive g) (inverse_word w) ≡ count_by (is_negative g) w = count_by-inverse_word (is_positive g) (is_negative g) (is_positive-inverse_letter g) w in
    let n : count_by (is_negative g) (inverse_word w) ≡ count_by (is_positive g) w = count_by-inverse_word (is_negative g) (is_positive g) (is_negative-inverse_letter g) w in
    omega (arith, ints)

pub total-append : (g : ℕ) (u v : Word) → total g (u ++ v) ≡ total g u +ℤ total g v
total-append g u v =
    omega (arith, ints, sum_by-append (λ x. cond (is_positive g x) 1 0) u v, sum_by-append (λ x. cond (is_negative g x) 1 0) u v)

opposites : (z : ℤ) → z +ℤ neg_ℤ z ≡ pos 0
opposites z = omega (arith, ints)

-- a letter and its inverse add nothing to a total
pub total-pair : (g : ℕ) (x y : Letter) → is_inverse x y ≡ true → total g (x ∷ y ∷ []) ≡ pos 0
total-pair g x y h =
    total-append g (x ∷ []) (y ∷ [])
    ∙ ap (λ (z : Letter). total g (x ∷ []) +ℤ total g (z ∷ [])) (letter_from_is_inverse x y h)
    ∙ ap (λ (t : ℤ). total g (x ∷ []) +ℤ t) (total-inverse_word g (x ∷ []))
    ∙ opposites (total g (x ∷ []))
