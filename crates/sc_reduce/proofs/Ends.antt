-- A word between its two ends, as the code takes them off.
use Rattle.std.proofs.Common.{◌≡◌, ℕ, suc, ◌+◌, ◌-◌, ◌≤◌, true, false, [], ◌∷◌, ◌++◌, length, get_or, take, drop, refl, sym, ap, ◌∙◌, arith}
use Rattle.std.proofs.lemmas.List.{take_more, take_all, length-take, length-drop}
use Rattle.sc_theory.specs.declared.Letter.{Letter}
use Rattle.sc_theory.specs.Words.{Word, is_inverse, delete_leftmost, cyclic_reduction}
use Rattle.sc_theory.specs.Chains.{no_letter}
use Rattle.sc_theory.proofs.Reduction.{delete_cyclically_none, cyclic_reduction-itself}
use Rattle.sc_theory.proofs.Rounds.{delete_leftmost_tail, last_letter-at, none_from_ends}
use Rattle.sc_theory.proofs.Normal.{IsFree}
use Rattle.sc_theory.proofs.Cyclic.{cyclic_reduction-around}
use Rattle.sc_reduce.proofs.Stack.{IsFree-front}

-- a word without its first and last letter
abbrev pub middle : Word → Word
middle s = take (length s - 1 - 1) (drop 1 s)

-- its first letter, and its last
abbrev pub first_of : Word → Letter
first_of s = get_or s 0 no_letter

abbrev pub last_of : Word → Letter
last_of s = get_or s (length s - 1) no_letter

-- a word of two or more letters is its first letter, its middle and its last letter
pub split_ends : (s : Word) → 2 ≤ length s → s ≡ first_of s ∷ (middle s ++ last_of s ∷ [])
split_ends [] l = absurd (omega arith)
split_ends (x ∷ []) l = absurd (omega arith)
split_ends (x ∷ y ∷ w) l =
    let m : length (x ∷ y ∷ w) - 1 - 1 ≡ length w = omega arith in
    let n : length (x ∷ y ∷ w) - 1 ≡ suc (length w) = omega arith in
    let all : take (length w + 1) (y ∷ w) ≡ y ∷ w = take_all (length w + 1) (y ∷ w) (omega arith) in
    ap (λ (u : Word). x ∷ u) (sym all ∙ take_more (y ∷ w) (length w) no_letter (omega arith))
    ∙ ap (λ (k : ℕ). x ∷ (take k (y ∷ w) ++ get_or (y ∷ w) (length w) no_letter ∷ [])) (sym m)
    ∙ ap (λ (k : ℕ). x ∷ (middle (x ∷ y ∷ w) ++ get_or (x ∷ y ∷ w) k no_letter ∷ [])) (sym n)

-- where a word allows no free deletion, neither does its middle
pub IsFree-middle : (s : Word) → 2 ≤ length s → IsFree s → IsFree (middle s)
IsFree-middle s l f =
    let split = split_ends s l in
    IsFree-front (middle s) (last_of s ∷ [])
    (delete_leftmost_tail (first_of s) (middle s ++ last_of s ∷ []) (ap delete_leftmost (sym split) ∙ f))

-- where the ends are inverse, the middle has the same cyclic reduction
pub cyclic_reduction-middle : (s : Word) → 2 ≤ length s → IsFree s → is_inverse (first_of s) (last_of s) ≡ true → cyclic_reduction (middle s) ≡ cyclic_reduction s
cyclic_reduction-middle s l f h =
    let split = split_ends s l in
    sym (cyclic_reduction-around (first_of s) (last_of s) (middle s) (ap delete_leftmost (sym split) ∙ f) h) ∙ ap cyclic_reduction (sym split)

pub length-middle : (s : Word) → length (middle s) ≤ length s
length-middle s = simp (length-take, length-drop) (omega arith)

-- where the ends aren't inverse, the word is reduced
pub cyclic_reduction-stops : (s : Word) → 2 ≤ length s → IsFree s → is_inverse (first_of s) (last_of s) ≡ false → cyclic_reduction s ≡ s
cyclic_reduction-stops [] l f h = refl
cyclic_reduction-stops (x ∷ []) l f h = refl
cyclic_reduction-stops (x ∷ y ∷ w) l f h =
    let n : length (x ∷ y ∷ w) - 1 ≡ suc (length w) = omega arith in
    cyclic_reduction-itself (x ∷ y ∷ w)
    (delete_cyclically_none (x ∷ y ∷ w) f
    (none_from_ends x y w
    (ap (is_inverse x) (last_letter-at y w) ∙ ap (λ (k : ℕ). is_inverse x (get_or (x ∷ y ∷ w) k no_letter)) (sym n) ∙ h)))
