-- What deletions take out of a word, and what they leave.
use Rattle.std.proofs.Common.{◌≡◌, ℕ, zero, suc, ◌+◌, ◌≤◌, true, false, [], ◌∷◌, ◌++◌, length, Option, Some, None, refl, sym, ap, ◌∙◌, arith, length-append, ◌⊎◌, inl, inr, ℤ, pos, ◌+ℤ◌}
use Rattle.std.specs.Option.{option_map, option_or, unwrap_or}
use Rattle.std.proofs.lemmas.Bool.{cases_Bool, cond-true, cond-false}
use Rattle.std.proofs.lemmas.Int.{ints}
use Rattle.std.proofs.lemmas.Option.{same_Some, none-some}
use Rattle.sc_theory.specs.declared.Letter.{Letter}
use Rattle.sc_theory.specs.Words.{Word, inverse_letter, is_inverse, total, delete_leftmost, last_letter, all_but_last, delete_ends, delete_cyclically, deleted, free_reduction, cyclic_reduction, IsReduced, FreelyDeletes}
use Rattle.sc_theory.proofs.WordLaws.{letter_from_is_inverse, is_inverse-inverse_letter, total-append, total-pair}

-- ---- options

pub cases_option : {A : Type 0} (o : Option A) → (o ≡ None) ⊎ ((x : A) × (o ≡ Some x))
cases_option None = inl refl
cases_option (Some x) = inr (x, refl)

-- what was mapped to something was there, and what was mapped to nothing was not
pub option_map_some : {A B : Type 0} (f : A → B) (o : Option A) (v : B) → option_map f o ≡ Some v → (a : A) × (o ≡ Some a) × (f a ≡ v)
option_map_some f None v h = absurd (none-some v h)
option_map_some f (Some a) v h = (a, refl, same_Some (f a) v h)

pub option_map_none : {A B : Type 0} (f : A → B) (o : Option A) → option_map f o ≡ None → o ≡ None
option_map_none f None h = refl
option_map_none f (Some a) h = cc

-- ---- a deletion of the leftmost pair

-- the first two letters are the leftmost pair where they are inverse, and else it is in the word behind the first
pub delete_leftmost_here : (x y : Letter) (w : Word) → is_inverse x y ≡ true → delete_leftmost (x ∷ y ∷ w) ≡ Some w
delete_leftmost_here x y w h = cond-true (is_inverse x y) _ _ h

pub delete_leftmost_later : (x y : Letter) (w : Word) → is_inverse x y ≡ false → delete_leftmost (x ∷ y ∷ w) ≡ option_map (λ rest. x ∷ rest) (delete_leftmost (y ∷ w))
delete_leftmost_later x y w h = cond-false (is_inverse x y) _ _ h

-- what it takes out is a letter with its inverse after it
pub FreelyDeletes-leftmost : (w v : Word) → delete_leftmost w ≡ Some v → FreelyDeletes w v
FreelyDeletes-leftmost [] v h = absurd (none-some v h)
FreelyDeletes-leftmost (x ∷ []) v h = absurd (none-some v h)
FreelyDeletes-leftmost (x ∷ y ∷ w) v h = elim (cases_Bool (is_inverse x y)) [
  | inl there ↦ record {
    before = [];
    letter = x;
    after = w;
    from = ap (λ (z : Letter). x ∷ z ∷ w) (letter_from_is_inverse x y there);
    to = same_Some v w (sym h ∙ delete_leftmost_here x y w there);
  }
  | inr absent ↦
      let part = option_map_some (λ (rest : Word). x ∷ rest) (delete_leftmost (y ∷ w)) v (sym (delete_leftmost_later x y w absent) ∙ h) in
      let inner = FreelyDeletes-leftmost (y ∷ w) part.0 part.1 in
      record {
        before = x ∷ inner.before;
        letter = inner.letter;
        after = inner.after;
        from = ap (λ (u : Word). x ∷ u) inner.from;
        to = sym part.2 ∙ ap (λ (u : Word). x ∷ u) inner.to;
      }
]

-- ---- what every deletion keeps, and that it shortens

-- a free deletion keeps the totals, and takes out two letters
pub total-FreelyDeletes : (g : ℕ) (w v : Word) → FreelyDeletes w v → total g w ≡ total g v
total-FreelyDeletes g w v d =
    let pair = d.letter ∷ inverse_letter d.letter ∷ [] in
    ap (total g) d.from
    ∙ total-append g d.before (pair ++ d.after)
    ∙ ap (λ (t : ℤ). total g d.before +ℤ t) (total-append g pair d.after)
    ∙ ap (λ (t : ℤ). total g d.before +ℤ (t +ℤ total g d.after)) (total-pair g d.letter (inverse_letter d.letter) (is_inverse-inverse_letter d.letter))
    ∙ zero_between (total g d.before) (total g d.after)
    ∙ sym (total-append g d.before d.after)
    ∙ ap (total g) (sym d.to)
  where
    zero_between : (a b : ℤ) → a +ℤ (pos 0 +ℤ b) ≡ a +ℤ b
    zero_between a b = omega (arith, ints)

pub length-FreelyDeletes : (w v : Word) → FreelyDeletes w v → length w ≡ length v + 2
length-FreelyDeletes w v d =
    omega (arith, ap length d.from, ap length d.to, length-append d.before (d.letter ∷ inverse_letter d.letter ∷ d.after), length-append d.before d.after)

-- ---- a deletion of the ends

-- a word is its letters before the last, and the last
pub all_but_last-last_letter : (x : Letter) (w : Word) → x ∷ w ≡ all_but_last x w ++ last_letter x w ∷ []
all_but_last-last_letter x [] = refl
all_but_last-last_letter x (y ∷ w) = ap (λ (u : Word). x ∷ u) (all_but_last-last_letter y w)

-- a letter at the front and its inverse at the end are taken out
pub record DeletesEnds (w v : Word) : Type 0 where
  pub letter : Letter
  pub from : w ≡ letter ∷ (v ++ inverse_letter letter ∷ [])

-- what `delete_ends` takes out is a letter at the front and its inverse at the end
pub DeletesEnds-delete_ends : (w v : Word) → delete_ends w ≡ Some v → DeletesEnds w v
DeletesEnds-delete_ends [] v h = absurd (none-some v h)
DeletesEnds-delete_ends (x ∷ []) v h = absurd (none-some v h)
DeletesEnds-delete_ends (x ∷ y ∷ w) v h = elim (cases_Bool (is_inverse x (last_letter y w))) [
  | inl there ↦ record {
    letter = x;
    from =
        ap (λ (u : Word). x ∷ u) (all_but_last-last_letter y w)
        ∙ ap (λ (z : Letter). x ∷ (all_but_last y w ++ z ∷ [])) (letter_from_is_inverse x (last_letter y w) there)
        ∙ ap (λ (u : Word). x ∷ (u ++ inverse_letter x ∷ [])) (same_Some (all_but_last y w) v (sym (cond-true (is_inverse x (last_letter y w)) (Some (all_but_last y w)) None there) ∙ h));
  }
  | inr absent ↦ absurd (none-some v (sym (cond-false (is_inverse x (last_letter y w)) (Some (all_but_last y w)) None absent) ∙ h))
]

-- a deletion of the ends keeps the totals, and takes out two letters
pub total-DeletesEnds : (g : ℕ) (w v : Word) → DeletesEnds w v → total g w ≡ total g v
total-DeletesEnds g w v d =
    let x = d.letter in
    let y = inverse_letter d.letter in
    ap (total g) d.from
    ∙ total-append g (x ∷ []) (v ++ y ∷ [])
    ∙ ap (λ (t : ℤ). total g (x ∷ []) +ℤ t) (total-append g v (y ∷ []))
    ∙ around (total g (x ∷ [])) (total g v) (total g (y ∷ [])) (sym (total-append g (x ∷ []) (y ∷ [])) ∙ total-pair g x y (is_inverse-inverse_letter x))
  where
    around : (a b c : ℤ) → a +ℤ c ≡ pos 0 → a +ℤ (b +ℤ c) ≡ b
    around a b c e = omega (arith, ints)

pub length-DeletesEnds : (w v : Word) → DeletesEnds w v → length w ≡ length v + 2
length-DeletesEnds w v d = omega (arith, ap length d.from, length-append v (inverse_letter d.letter ∷ []))

-- ---- a deletion in cyclic reduction

-- a deletion in cyclic reduction is one of the leftmost pair, or where there is none one of the ends
pub cases_delete_cyclically : (w v : Word) → delete_cyclically w ≡ Some v → (delete_leftmost w ≡ Some v) ⊎ ((delete_leftmost w ≡ None) × (delete_ends w ≡ Some v))
cases_delete_cyclically w v h = elim (cases_option (delete_leftmost w)) [
  | inl absent ↦ inr (absent, ap (λ (o : Option Word). option_or o (delete_ends w)) (sym absent) ∙ h)
  | inr there ↦ inl (there.1 ∙ ap (λ (o : Option Word). option_or o (delete_ends w)) (sym there.1) ∙ h)
]

-- a word without either allows no deletion
pub delete_cyclically_none : (w : Word) → delete_leftmost w ≡ None → delete_ends w ≡ None → delete_cyclically w ≡ None
delete_cyclically_none w f e = ap (λ (o : Option Word). option_or o (delete_ends w)) f ∙ e

-- a word that allows no deletion allows neither kind
pub IsReduced-parts : (w : Word) → IsReduced w → (delete_leftmost w ≡ None) × (delete_ends w ≡ None)
IsReduced-parts w r = elim (cases_option (delete_leftmost w)) [
  | inl absent ↦ (absent, ap (λ (o : Option Word). option_or o (delete_ends w)) (sym absent) ∙ r)
  | inr there ↦ absurd (none-some there.0 (sym r ∙ ap (λ (o : Option Word). option_or o (delete_ends w)) there.1))
]

-- so each deletion keeps the totals
pub total-delete_leftmost : (g : ℕ) (w v : Word) → delete_leftmost w ≡ Some v → total g w ≡ total g v
total-delete_leftmost g w v h = total-FreelyDeletes g w v (FreelyDeletes-leftmost w v h)

pub total-delete_cyclically : (g : ℕ) (w v : Word) → delete_cyclically w ≡ Some v → total g w ≡ total g v
total-delete_cyclically g w v h = elim (cases_delete_cyclically w v h) [
  | inl free ↦ total-delete_leftmost g w v free
  | inr ends ↦ total-DeletesEnds g w v (DeletesEnds-delete_ends w v ends.1)
]

-- and each takes out two letters
pub length-delete_leftmost : (w v : Word) → delete_leftmost w ≡ Some v → length w ≡ length v + 2
length-delete_leftmost w v h = length-FreelyDeletes w v (FreelyDeletes-leftmost w v h)

pub length-delete_cyclically : (w v : Word) → delete_cyclically w ≡ Some v → length w ≡ length v + 2
length-delete_cyclically w v h = elim (cases_delete_cyclically w v h) [
  | inl free ↦ length-delete_leftmost w v free
  | inr ends ↦ length-DeletesEnds w v (DeletesEnds-delete_ends w v ends.1)
]

-- ---- many deletions

-- where no deletion is possible the word stays, and else the others follow the first
pub deleted_none : (delete : Word → Option Word) (n : ℕ) (w : Word) → delete w ≡ None → deleted delete n w ≡ w
deleted_none delete zero w h = refl
deleted_none delete (suc n) w h = ap (λ (o : Option Word). unwrap_or (option_map (deleted delete n) o) w) h

pub deleted_some : (delete : Word → Option Word) (n : ℕ) (w v : Word) → delete w ≡ Some v → deleted delete (suc n) w ≡ deleted delete n v
deleted_some delete n w v h = ap (λ (o : Option Word). unwrap_or (option_map (deleted delete n) o) w) h

-- what one deletion keeps, many keep
pub deleted_keeps : {A : Type 0} (delete : Word → Option Word) (f : Word → A) → ((w v : Word) → delete w ≡ Some v → f w ≡ f v) → (n : ℕ) (w : Word) → f (deleted delete n w) ≡ f w
deleted_keeps delete f keeps zero w = refl
deleted_keeps delete f keeps (suc n) w = elim (cases_option (delete w)) [
  | inl absent ↦ ap f (deleted_none delete (suc n) w absent)
  | inr there ↦ ap f (deleted_some delete n w there.0 there.1) ∙ deleted_keeps delete f keeps n there.0 ∙ sym (keeps w there.0 there.1)
]

-- where each deletion shortens, as many as there are letters leave a word that allows none
pub deleted_allows_none : (delete : Word → Option Word) → ((w v : Word) → delete w ≡ Some v → length w ≡ length v + 2) → (n : ℕ) (w : Word) → length w ≤ n → delete (deleted delete n w) ≡ None
deleted_allows_none delete shorter zero w short = elim (cases_option (delete w)) [
  | inl absent ↦ absent
  | inr there ↦ absurd (omega (arith, shorter w there.0 there.1))
]
deleted_allows_none delete shorter (suc n) w short = elim (cases_option (delete w)) [
  | inl absent ↦ ap delete (deleted_none delete (suc n) w absent) ∙ absent
  | inr there ↦ ap delete (deleted_some delete n w there.0 there.1) ∙ deleted_allows_none delete shorter n there.0 (omega (arith, shorter w there.0 there.1))
]

-- ---- reduction

-- what reduction leaves allows no deletion
pub delete_leftmost-free_reduction : (w : Word) → delete_leftmost (free_reduction w) ≡ None
delete_leftmost-free_reduction w = deleted_allows_none delete_leftmost length-delete_leftmost (length w) w (omega arith)

pub IsReduced-cyclic_reduction : (w : Word) → IsReduced (cyclic_reduction w)
IsReduced-cyclic_reduction w = deleted_allows_none delete_cyclically length-delete_cyclically (length w) w (omega arith)

-- what allows no deletion is its own reduction
pub free_reduction-itself : (w : Word) → delete_leftmost w ≡ None → free_reduction w ≡ w
free_reduction-itself w h = deleted_none delete_leftmost (length w) w h

pub cyclic_reduction-itself : (w : Word) → IsReduced w → cyclic_reduction w ≡ w
cyclic_reduction-itself w h = deleted_none delete_cyclically (length w) w h

-- reduction keeps the totals
pub total-free_reduction : (g : ℕ) (w : Word) → total g (free_reduction w) ≡ total g w
total-free_reduction g w = deleted_keeps delete_leftmost (total g) (total-delete_leftmost g) (length w) w

pub total-cyclic_reduction : (g : ℕ) (w : Word) → total g (cyclic_reduction w) ≡ total g w
total-cyclic_reduction g w = deleted_keeps delete_cyclically (total g) (total-delete_cyclically g) (length w) w
