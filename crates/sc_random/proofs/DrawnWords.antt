-- Words of draws: their letters and their length.
use Rattle.std.proofs.Common.{◌≡◌, ℕ, zero, suc, ◌+◌, ◌-◌, ◌*◌, ◌%◌, ◌<◌, ◌≤◌, Bool, not, List, [], ◌∷◌, ◌++◌, length, reverse, take, drop, get_or, All, Option, None, Some, refl, ap, ap₂, sym, ◌∙◌, subst, arith, inl, inr}
use Rattle.std.specs.List.{filter}
use Rattle.std.proofs.lemmas.Bool.{cases_Bool, cond-true, cond-false}
use Rattle.std.proofs.lemmas.List.{length-append, length-reverse, length-map, length-take-le, length-drop}
use Rattle.std.proofs.lemmas.List.Elements.{All-nil, All-cons, All-append, All-head, All-tail}
use Rattle.rand_core.specs.Steps.{first_words}
use Rattle.rand_pcg.specs.Lcg.{Lcg}
use Rattle.rand_pcg.specs.Pcg.{pcg32}
use Rattle.sc_theory.specs.declared.Letter.{Letter}
use Rattle.sc_theory.specs.Words.{Word, inverse_letter, inverse_word, is_inverse}
use Rattle.sc_theory.specs.Chains.{no_letter}
use Rattle.sc_theory.proofs.WordLaws.{inverse_word-cons}
use Rattle.sc_random.specs.Drawn.{drawn_letters, letters_behind, taken, word_behind, drawn_word, commutator, drawn_commutator}

append_assoc : {A : Type 0} (xs ys zs : List A) → (xs ++ ys) ++ zs ≡ xs ++ (ys ++ zs)
append_assoc [] ys zs = refl
append_assoc (x ∷ xs) ys zs = ap (λ ws. x ∷ ws) (append_assoc xs ys zs)

-- ---- draws

-- one more draw
pub drawn_next : (g g' : Lcg) (draws : List ℕ) (word count n : ℕ) (all : List ℕ) → n < count → draws ++ first_words pcg32 (count - n) g ≡ all → (word, g') ≡ pcg32 g
    → (draws ++ word ∷ []) ++ first_words pcg32 (count - (n + 1)) g' ≡ all
unfolding first_words
drawn_next g g' draws word count n all l before step =
    let split : count - n ≡ suc (count - (n + 1)) = omega (arith, l) in
    append_assoc draws (word ∷ []) (first_words pcg32 (count - (n + 1)) g')
    ∙ ap₂ (λ (w : ℕ) (h : Lcg). draws ++ w ∷ first_words pcg32 (count - (n + 1)) h) (ap (λ p. p.0) step) (ap (λ p. p.1) step)
    ∙ ap (λ (k : ℕ). draws ++ first_words pcg32 k g) (sym split)
    ∙ before

-- where no draw is left to make, all are made
pub drawn_last : (g : Lcg) (draws : List ℕ) (count n : ℕ) (all : List ℕ) → count ≤ n → draws ++ first_words pcg32 (count - n) g ≡ all → draws ≡ all
unfolding first_words
drawn_last g draws count n all l before =
    let none : count - n ≡ 0 = omega (arith, l) in
    sym (append_nil draws) ∙ ap (λ (k : ℕ). draws ++ first_words pcg32 k g) (sym none) ∙ before
  where
    append_nil : (xs : List ℕ) → xs ++ [] ≡ xs
    append_nil [] = refl
    append_nil (x ∷ xs) = ap (λ (ys : List ℕ). x ∷ ys) (append_nil xs)

pub length-first_words : (n : ℕ) (g : Lcg) → length (first_words pcg32 n g) ≡ n
unfolding first_words
length-first_words zero g = refl
length-first_words (suc n) g = ap suc (length-first_words n (pcg32 g).1)

-- ---- letters

-- a letter of the generators a and b
abbrev pub IsDrawn : Letter → Type 0
IsDrawn x = x.number < 2

kept : (p : Letter → Bool) (xs : List Letter) → All IsDrawn xs → All IsDrawn (filter p xs)
kept p [] h = All-nil IsDrawn
kept p (x ∷ xs) h =
    elim (cases_Bool (p x)) [
      | inl e ↦ subst (All IsDrawn) (sym (cond-true (p x) (x ∷ filter p xs) (filter p xs) e)) (All-cons IsDrawn x (filter p xs) (All-head IsDrawn x xs h) (kept p xs (All-tail IsDrawn x xs h)))
      | inr e ↦ subst (All IsDrawn) (sym (cond-false (p x) (x ∷ filter p xs) (filter p xs) e)) (kept p xs (All-tail IsDrawn x xs h))
    ]

all_drawn : All IsDrawn drawn_letters
all_drawn zero d l = omega arith
all_drawn (suc zero) d l = omega arith
all_drawn (suc (suc zero)) d l = omega arith
all_drawn (suc (suc (suc zero))) d l = omega arith
all_drawn (suc (suc (suc (suc k)))) d l = absurd (omega (arith, l))

behind_drawn : (before : Option Letter) → All IsDrawn (letters_behind before)
behind_drawn None = all_drawn
behind_drawn (Some x) = kept (λ y. not (is_inverse x y)) drawn_letters all_drawn

-- an element of a list, or what stands past its end
got : (xs : List Letter) (k : ℕ) → All IsDrawn xs → IsDrawn (get_or xs k no_letter)
got [] k h = omega arith
got (x ∷ xs) zero h = All-head IsDrawn x xs h
got (x ∷ xs) (suc k) h = got xs k (All-tail IsDrawn x xs h)

-- the letters of a drawn word are a, b and their inverses
pub word_drawn : (before : Option Letter) (draws : List ℕ) → All IsDrawn (word_behind before draws)
word_drawn before [] = All-nil IsDrawn
word_drawn before (draw ∷ draws) =
    let x : Letter = taken (letters_behind before) draw in
    All-cons IsDrawn x (word_behind (Some x) draws) (got (letters_behind before) (draw % length (letters_behind before)) (behind_drawn before)) (word_drawn (Some x) draws)

-- a drawn word has a letter for each draw
pub length-word_behind : (before : Option Letter) (draws : List ℕ) → length (word_behind before draws) ≡ length draws
length-word_behind before [] = refl
length-word_behind before (draw ∷ draws) = ap suc (length-word_behind (Some (taken (letters_behind before) draw)) draws)

-- ---- commutators

inverse_drawn : (w : Word) → All IsDrawn w → All IsDrawn (inverse_word w)
inverse_drawn [] h = All-nil IsDrawn
inverse_drawn (x ∷ w) h =
    subst (All IsDrawn) (sym (inverse_word-cons x w))
    (All-append IsDrawn (inverse_word w) (inverse_letter x ∷ []) (inverse_drawn w (All-tail IsDrawn x w h))
    (All-cons IsDrawn (inverse_letter x) [] (All-head IsDrawn x w h) (All-nil IsDrawn)))

pub length-inverse_word : (w : Word) → length (inverse_word w) ≡ length w
length-inverse_word w = length-map (reverse w) inverse_letter ∙ length-reverse w

-- a commutator has no letters but those of its words and their inverses
pub commutator_drawn : (u v : Word) → All IsDrawn u → All IsDrawn v → All IsDrawn (commutator u v)
commutator_drawn u v hu hv =
    All-append IsDrawn u (v ++ (inverse_word u ++ inverse_word v)) hu
    (All-append IsDrawn v (inverse_word u ++ inverse_word v) hv (All-append IsDrawn (inverse_word u) (inverse_word v) (inverse_drawn u hu) (inverse_drawn v hv)))

-- it has the letters of each of its words twice
pub length-commutator : (u v : Word) → length (commutator u v) ≡ 2 * (length u + length v)
length-commutator u v =
    omega (arith, length-append u (v ++ (inverse_word u ++ inverse_word v)), length-append v (inverse_word u ++ inverse_word v), length-append (inverse_word u) (inverse_word v), length-inverse_word u, length-inverse_word v)

-- so a drawn commutator has two letters for each draw
pub length-drawn_commutator : (k : ℕ) (draws : List ℕ) → k ≤ length draws → length (drawn_commutator k draws) ≡ 2 * length draws
length-drawn_commutator k draws l =
    omega (arith, length-commutator (drawn_word (take k draws)) (drawn_word (drop k draws)), length-word_behind None (take k draws), length-word_behind None (drop k draws), length-take-le k draws l, length-drop k draws)
