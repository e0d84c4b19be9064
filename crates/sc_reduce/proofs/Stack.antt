-- A stack that grows at its end keeps the free reduction of what came so far.
use Rattle.std.proofs.Common.{◌≡◌, ℕ, suc, ◌+◌, ◌<◌, true, false, [], ◌∷◌, ◌++◌, length, Some, None, refl, sym, ap, ◌∙◌, arith, append_assoc}
use Rattle.std.specs.Prelude.{slice_get, get_or, take, ◌-◌}
use Rattle.std.proofs.lemmas.List.{append-nil, take_more}
use Rattle.std.proofs.lemmas.Option.{same_Some, none-some}
use Rattle.sc_theory.specs.declared.Letter.{Letter}
use Rattle.sc_theory.specs.Words.{Word, is_inverse, delete_leftmost, free_reduction}
use Rattle.sc_theory.proofs.WordLaws.{letter_from_is_inverse}
use Rattle.sc_theory.proofs.Reduction.{free_reduction-itself, delete_leftmost-free_reduction}
use Rattle.sc_theory.proofs.Rounds.{is_inverse-from_none, delete_leftmost_tail, delete_leftmost-cons}
use Rattle.sc_theory.proofs.Normal.{IsFree, normal, onto, normal-itself, normal-append, normal-FreelyDeletes, free_reduction-normal}

-- a front of a word that allows no free deletion allows none
pub IsFree-front : (t u : Word) → IsFree (t ++ u) → IsFree t
IsFree-front [] u f = refl
IsFree-front (x ∷ []) u f = refl
IsFree-front (x ∷ y ∷ t) u f =
    delete_leftmost-cons x y t (is_inverse-from_none x y (t ++ u) f) (IsFree-front (y ∷ t) u (delete_leftmost_tail x (y ∷ t ++ u) f))

-- a letter that isn't the inverse of the last one
pub IsFree-more : (t : Word) (y x : Letter) → IsFree (t ++ y ∷ []) → is_inverse y x ≡ false → IsFree (t ++ y ∷ x ∷ [])
IsFree-more [] y x f h = delete_leftmost-cons y x [] h refl
IsFree-more (z ∷ []) y x f h = delete_leftmost-cons z y (x ∷ []) (is_inverse-from_none z y [] f) (delete_leftmost-cons y x [] h refl)
IsFree-more (z ∷ q ∷ t) y x f h =
    delete_leftmost-cons z q (t ++ y ∷ x ∷ []) (is_inverse-from_none z q (t ++ y ∷ []) f)
    (IsFree-more (q ∷ t) y x (delete_leftmost_tail z (q ∷ t ++ y ∷ []) f) h)

-- the letter stays
pub free_reduction_stays : (t : Word) (y x : Letter) → IsFree (t ++ y ∷ []) → is_inverse y x ≡ false → free_reduction ((t ++ y ∷ []) ++ x ∷ []) ≡ (t ++ y ∷ []) ++ x ∷ []
free_reduction_stays t y x f h =
    let same : (t ++ y ∷ []) ++ x ∷ [] ≡ t ++ y ∷ x ∷ [] = append_assoc t (y ∷ []) (x ∷ []) in
    free_reduction-itself ((t ++ y ∷ []) ++ x ∷ []) (ap delete_leftmost same ∙ IsFree-more t y x f h)

-- the letter and the last one go away
pub free_reduction_goes : (t : Word) (y x : Letter) → IsFree (t ++ y ∷ []) → is_inverse y x ≡ true → free_reduction ((t ++ y ∷ []) ++ x ∷ []) ≡ t
free_reduction_goes t y x f h =
    ap free_reduction (append_assoc t (y ∷ []) (x ∷ []))
    ∙ free_reduction-normal (t ++ y ∷ x ∷ [])
    ∙ normal-FreelyDeletes (t ++ y ∷ x ∷ []) (t ++ [])
    (record { before = t; letter = y; after = []; from = ap (λ (z : Letter). t ++ y ∷ z ∷ []) (letter_from_is_inverse y x h); to = refl })
    ∙ ap normal (append-nil t)
    ∙ normal-itself t (IsFree-front t (y ∷ []) f)

-- what comes later acts on the reduction alone
pub free_reduction-append : (u v : Word) → free_reduction (free_reduction u ++ v) ≡ free_reduction (u ++ v)
free_reduction-append u v =
    let n = free_reduction u in
    free_reduction-normal (n ++ v)
    ∙ normal-append n v
    ∙ ap (λ (w : Word). onto w (normal v)) (normal-itself n (delete_leftmost-free_reduction u) ∙ free_reduction-normal u)
    ∙ sym (normal-append u v)
    ∙ sym (free_reduction-normal (u ++ v))

-- ---- the last letter as the code reads it

-- a word with a last letter is what stands before it, and that letter
pub last_split : (s : Word) (y : Letter) → slice_get s (length s - 1) ≡ Some y → s ≡ take (length s - 1) s ++ y ∷ []
last_split [] y h = absurd (none-some y h)
last_split (x ∷ []) y h = ap (λ (z : Letter). z ∷ []) (same_Some x y h)
last_split (x ∷ z ∷ s) y h =
    let e : length (x ∷ z ∷ s) - 1 ≡ suc (length (z ∷ s) - 1) = omega arith in
    rw e (ap (λ (u : Word). x ∷ u) (last_split (z ∷ s) y (rw e at h)))

-- a word without a last letter is empty
pub empty_from_no_last : (s : Word) → slice_get s (length s - 1) ≡ None → s ≡ []
empty_from_no_last [] h = refl
empty_from_no_last (x ∷ []) h = absurd (none-some x (sym h))
empty_from_no_last (x ∷ z ∷ s) h =
    let e : length (x ∷ z ∷ s) - 1 ≡ suc (length (z ∷ s) - 1) = omega arith in
    let none_left : z ∷ s ≡ [] = empty_from_no_last (z ∷ s) (rw e at h) in
    cc

-- a letter more: where it is the inverse of the topmost one, that goes
pub stack_goes : (s s' : Word) (y x : Letter) → IsFree s → slice_get s (length s - 1) ≡ Some y → is_inverse y x ≡ true → s' ≡ take (length s - 1) s → s' ≡ free_reduction (s ++ x ∷ [])
stack_goes s s' y x f top h e =
    let t = take (length s - 1) s in
    let split : s ≡ t ++ y ∷ [] = last_split s y top in
    e ∙ sym (free_reduction_goes t y x (ap delete_leftmost (sym split) ∙ f) h) ∙ ap (λ (u : Word). free_reduction (u ++ x ∷ [])) (sym split)

-- where it is not, or where there is no topmost one, it stays
pub stack_stays : (s : Word) (y x : Letter) → IsFree s → slice_get s (length s - 1) ≡ Some y → is_inverse y x ≡ false → s ++ x ∷ [] ≡ free_reduction (s ++ x ∷ [])
stack_stays s y x f top h =
    let t = take (length s - 1) s in
    let split : s ≡ t ++ y ∷ [] = last_split s y top in
    ap (λ (u : Word). u ++ x ∷ []) split
    ∙ sym (free_reduction_stays t y x (ap delete_leftmost (sym split) ∙ f) h)
    ∙ ap (λ (u : Word). free_reduction (u ++ x ∷ [])) (sym split)

pub stack_begins : (s : Word) (x : Letter) → slice_get s (length s - 1) ≡ None → s ++ x ∷ [] ≡ free_reduction (s ++ x ∷ [])
stack_begins s x top = let e : s ≡ [] = empty_from_no_last s top in rw e refl

-- one letter more of what is read
pub free_reduction_more : (w : Word) (i : ℕ) (d : Letter) (s s' : Word) → i < length w → s ≡ free_reduction (take i w) → s' ≡ free_reduction (s ++ get_or w i d ∷ []) → s' ≡ free_reduction (take (i + 1) w)
free_reduction_more w i d s s' l e e' =
    let x = get_or w i d in
    e'
    ∙ ap (λ (u : Word). free_reduction (u ++ x ∷ [])) e
    ∙ free_reduction-append (take i w) (x ∷ [])
    ∙ ap free_reduction (sym (take_more w i d l))
