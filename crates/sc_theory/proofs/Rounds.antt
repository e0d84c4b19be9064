-- A word is reduced exactly where no letter is the inverse of the next one round the word.
use Rattle.std.proofs.Common.{◌≡◌, ℕ, zero, suc, ◌<◌, ◌≤◌, Bool, true, false, not, ◌==◌, [], ◌∷◌, length, Some, None, refl, sym, ap, ◌∙◌, arith, ◌⊎◌, ◌↔◌, inl, inr}
use Rattle.std.specs.Option.{option_map}
use Rattle.std.proofs.lemmas.Bool.{cases_Bool, cases_eq, cond-true, cond-false, eq-eqb, ne_eqb, true≢false, false_from_ne_true}
use Rattle.std.proofs.lemmas.Option.{none-some}
use Rattle.sc_theory.specs.declared.Letter.{Letter}
use Rattle.sc_theory.specs.Words.{Word, is_inverse, delete_leftmost, last_letter, all_but_last, delete_ends, IsReduced}
use Rattle.sc_theory.specs.Places.{letter_at, next_round, cancels_next, IsLeastCancelling}
use Rattle.sc_theory.proofs.WordLaws.{letter_from_is_inverse, is_inverse_comm}
use Rattle.sc_theory.proofs.Reduction.{delete_leftmost_here, delete_leftmost_later, option_map_none, delete_cyclically_none, IsReduced-parts}

-- ---- neighbours

-- where no two neighbours are inverse, the first two aren't, nor any behind the first; and the other way round
pub is_inverse-from_none : (x y : Letter) (w : Word) → delete_leftmost (x ∷ y ∷ w) ≡ None → is_inverse x y ≡ false
is_inverse-from_none x y w h = false_from_ne_true (is_inverse x y) (λ t. none-some w (sym h ∙ delete_leftmost_here x y w t))

pub delete_leftmost_tail : (x : Letter) (w : Word) → delete_leftmost (x ∷ w) ≡ None → delete_leftmost w ≡ None
delete_leftmost_tail x [] h = refl
delete_leftmost_tail x (y ∷ w) h =
    option_map_none (λ (rest : Word). x ∷ rest) (delete_leftmost (y ∷ w)) (sym (delete_leftmost_later x y w (is_inverse-from_none x y w h)) ∙ h)

pub delete_leftmost-cons : (x y : Letter) (w : Word) → is_inverse x y ≡ false → delete_leftmost (y ∷ w) ≡ None → delete_leftmost (x ∷ y ∷ w) ≡ None
delete_leftmost-cons x y w f h = delete_leftmost_later x y w f ∙ ap (option_map (λ (rest : Word). x ∷ rest)) h

-- a word allows no free deletion exactly where no letter is the inverse of the one behind it
pub neighbours_from_none : (w : Word) → delete_leftmost w ≡ None → (k : ℕ) → suc k < length w → is_inverse (letter_at w k) (letter_at w (suc k)) ≡ false
neighbours_from_none [] h k l = absurd (omega arith)
neighbours_from_none (x ∷ []) h k l = absurd (omega arith)
neighbours_from_none (x ∷ y ∷ w) h zero l = is_inverse-from_none x y w h
neighbours_from_none (x ∷ y ∷ w) h (suc k) l = neighbours_from_none (y ∷ w) (delete_leftmost_tail x (y ∷ w) h) k (omega arith)

pub none_from_neighbours : (w : Word) → ((k : ℕ) → suc k < length w → is_inverse (letter_at w k) (letter_at w (suc k)) ≡ false) → delete_leftmost w ≡ None
none_from_neighbours [] f = refl
none_from_neighbours (x ∷ []) f = refl
none_from_neighbours (x ∷ y ∷ w) f =
    delete_leftmost-cons x y w (f 0 (omega arith)) (none_from_neighbours (y ∷ w) (λ k l. f (suc k) (omega arith)))

-- ---- the ends

-- the last letter is the one at the last place
pub last_letter-at : (x : Letter) (w : Word) → last_letter x w ≡ letter_at (x ∷ w) (length w)
last_letter-at x [] = refl
last_letter-at x (y ∷ w) = last_letter-at y w

pub is_inverse-itself : (x : Letter) → is_inverse x x ≡ false
is_inverse-itself x = false_from_ne_true (is_inverse x x) (λ t. apart x.inverse (ap (λ (y : Letter). y.inverse) (letter_from_is_inverse x x t)))
  where
    apart : (b : Bool) → b ≡ not b → ⊥
    apart true h = true≢false h
    apart false h = true≢false (sym h)

ends_from_none : (x y : Letter) (w : Word) → delete_ends (x ∷ y ∷ w) ≡ None → is_inverse x (last_letter y w) ≡ false
ends_from_none x y w h = false_from_ne_true (is_inverse x (last_letter y w)) (λ t. none-some (all_but_last y w) (sym h ∙ cond-true (is_inverse x (last_letter y w)) (Some (all_but_last y w)) None t))

-- ends that aren't inverse are not deleted
pub none_from_ends : (x y : Letter) (w : Word) → is_inverse x (last_letter y w) ≡ false → delete_ends (x ∷ y ∷ w) ≡ None
none_from_ends x y w f = cond-false (is_inverse x (last_letter y w)) (Some (all_but_last y w)) None f

-- ---- round the word

-- round the word the next place is one more, and behind the last it is the first
pub next_round-inside : (w : Word) (k : ℕ) → suc k < length w → next_round w k ≡ suc k
next_round-inside w k l = cond-false (suc k == length w) 0 (suc k) (ne_eqb (suc k) (length w) (λ e. omega arith))

pub next_round-last : (w : Word) (k : ℕ) → suc k ≡ length w → next_round w k ≡ 0
next_round-last w k e = cond-true (suc k == length w) 0 (suc k) (eq-eqb (suc k) (length w) e)

cancels_inside : (w : Word) (k : ℕ) → suc k < length w → cancels_next w k ≡ is_inverse (letter_at w k) (letter_at w (suc k))
cancels_inside w k l = ap (λ (j : ℕ). is_inverse (letter_at w k) (letter_at w j)) (next_round-inside w k l)

cancels_last : (w : Word) (k : ℕ) → suc k ≡ length w → cancels_next w k ≡ is_inverse (letter_at w k) (letter_at w 0)
cancels_last w k e = ap (λ (j : ℕ). is_inverse (letter_at w k) (letter_at w j)) (next_round-last w k e)

-- the last letter against the first
last_from_none : (w : Word) → delete_ends w ≡ None → (k : ℕ) → suc k ≡ length w → is_inverse (letter_at w k) (letter_at w 0) ≡ false
last_from_none [] h k e = absurd (omega arith)
last_from_none (x ∷ []) h k e =
    let k0 : k ≡ 0 = omega arith in
    ap (λ (j : ℕ). is_inverse (letter_at (x ∷ []) j) x) k0 ∙ is_inverse-itself x
last_from_none (x ∷ y ∷ w) h k e =
    let k1 : k ≡ suc (length w) = omega arith in
    ap (λ (j : ℕ). is_inverse (letter_at (x ∷ y ∷ w) j) x) k1
    ∙ ap (λ (z : Letter). is_inverse z x) (sym (last_letter-at y w))
    ∙ is_inverse_comm (last_letter y w) x
    ∙ ends_from_none x y w h

none_from_last : (w : Word) → ((k : ℕ) → suc k ≡ length w → is_inverse (letter_at w k) (letter_at w 0) ≡ false) → delete_ends w ≡ None
none_from_last [] f = refl
none_from_last (x ∷ []) f = refl
none_from_last (x ∷ y ∷ w) f =
    none_from_ends x y w
    (is_inverse_comm x (last_letter y w) ∙ ap (λ (z : Letter). is_inverse z x) (last_letter-at y w) ∙ f (suc (length w)) refl)

-- ---- the law

-- a word is reduced exactly where no letter is the inverse of the next one round the word
pub places_from_reduced : (w : Word) → IsReduced w → (k : ℕ) → k < length w → cancels_next w k ≡ false
places_from_reduced w r k l = elim (cases_eq (suc k) (length w)) [
  | inl e ↦ cancels_last w k e ∙ last_from_none w (IsReduced-parts w r).1 k e
  | inr ne ↦ let l' : suc k < length w = omega arith in cancels_inside w k l' ∙ neighbours_from_none w (IsReduced-parts w r).0 k l'
]

pub reduced_from_places : (w : Word) → ((k : ℕ) → k < length w → cancels_next w k ≡ false) → IsReduced w
reduced_from_places w f =
    delete_cyclically_none w
    (none_from_neighbours w (λ k l. sym (cancels_inside w k l) ∙ f k (omega arith)))
    (none_from_last w (λ k e. sym (cancels_last w k e) ∙ f k (omega arith)))

pub reduced_places : (w : Word) → IsReduced w ↔ ((k : ℕ) → k < length w → cancels_next w k ≡ false)
reduced_places w = (places_from_reduced w, reduced_from_places w)

-- none below n, or a least one
search_below : (w : Word) (n : ℕ) → n ≤ length w → ((k : ℕ) → k < n → cancels_next w k ≡ false) ⊎ ((k : ℕ) × IsLeastCancelling w k)
search_below w zero l = inl (λ k b. absurd (omega arith))
search_below w (suc n) l = elim (search_below w n (omega arith)) [
  | inr found ↦ inr found
  | inl below ↦ elim (cases_Bool (cancels_next w n)) [
    | inl here ↦ inr (n, record { inside = omega arith; cancels = here; least = below })
    | inr clear ↦ inl (λ k b. up_to n below clear k b)
  ]
]
  where
    up_to : (n : ℕ) → ((k : ℕ) → k < n → cancels_next w k ≡ false) → cancels_next w n ≡ false → (k : ℕ) → k < suc n → cancels_next w k ≡ false
    up_to n below clear k b = elim (cases_eq k n) [
      | inl e ↦ ap (cancels_next w) e ∙ clear
      | inr ne ↦ below k (omega arith)
    ]

-- a word that isn't reduced has a least place whose letter is the inverse of the next one round the word
pub least_cancelling : (w : Word) → (IsReduced w → ⊥) → (k : ℕ) × IsLeastCancelling w k
least_cancelling w h = elim (search_below w (length w) (omega arith)) [
  | inl clear ↦ absurd (h (reduced_from_places w clear))
  | inr found ↦ found
]

-- a word that has such a place isn't reduced
pub unreduced_from_cancelling : (w : Word) (k : ℕ) → IsLeastCancelling w k → IsReduced w → ⊥
unreduced_from_cancelling w k found r = true≢false (sym found.cancels ∙ places_from_reduced w r k found.inside)
