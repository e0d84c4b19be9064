-- Cyclic reduction as free reduction and then deletions of the ends, and inverses of reduced words.
use Rattle.std.proofs.Common.{◌≡◌, ℕ, zero, suc, ◌+◌, ◌≤◌, true, [], ◌∷◌, ◌++◌, reverse, length, Option, Some, None, refl, sym, ap, ◌∙◌, subst, arith, append_assoc, inl, inr}
use Rattle.std.specs.Option.{option_or}
use Rattle.std.proofs.lemmas.Bool.{cond-true}
use Rattle.std.proofs.lemmas.List.{length-map, length-reverse}
use Rattle.std.proofs.lemmas.Option.{none-some}
use Rattle.sc_theory.specs.declared.Letter.{Letter}
use Rattle.sc_theory.specs.Words.{Word, inverse_letter, inverse_word, is_inverse, delete_leftmost, last_letter, all_but_last, delete_ends, delete_cyclically, deleted, free_reduction, cyclic_reduction, IsReduced, FreelyDeletes}
use Rattle.sc_theory.proofs.WordLaws.{is_inverse-inverse_letter, inverse_letter-inverse_letter, inverse_word-cons, inverse_word-append, inverse_word-inverse_word}
use Rattle.sc_theory.proofs.Reduction.{cases_option, FreelyDeletes-leftmost, DeletesEnds, DeletesEnds-delete_ends, length-delete_cyclically, deleted_none, deleted_some, deleted_keeps, delete_cyclically_none, IsReduced-parts}
use Rattle.sc_theory.proofs.Normal.{IsFree, IsFree-refuses}

-- ---- how many deletions are enough

-- where each deletion shortens, any two numbers of deletions that are enough leave the same
pub deleted_enough : (delete : Word → Option Word) → ((w v : Word) → delete w ≡ Some v → length w ≡ length v + 2) → (n m : ℕ) (w : Word) → length w ≤ n → length w ≤ m → deleted delete n w ≡ deleted delete m w
deleted_enough delete shorter zero m w a b = elim (cases_option (delete w)) [
  | inl absent ↦ sym (deleted_none delete m w absent)
  | inr there ↦ absurd (omega (arith, shorter w there.0 there.1))
]
deleted_enough delete shorter (suc n) zero w a b = elim (cases_option (delete w)) [
  | inl absent ↦ deleted_none delete (suc n) w absent
  | inr there ↦ absurd (omega (arith, shorter w there.0 there.1))
]
deleted_enough delete shorter (suc n) (suc m) w a b = elim (cases_option (delete w)) [
  | inl absent ↦ deleted_none delete (suc n) w absent ∙ sym (deleted_none delete (suc m) w absent)
  | inr there ↦
      deleted_some delete n w there.0 there.1
      ∙ deleted_enough delete shorter n m there.0 (omega (arith, shorter w there.0 there.1)) (omega (arith, shorter w there.0 there.1))
      ∙ sym (deleted_some delete m w there.0 there.1)
]

-- a deletion leaves the cyclic reduction as it is
pub cyclic_reduction-delete_cyclically : (w v : Word) → delete_cyclically w ≡ Some v → cyclic_reduction w ≡ cyclic_reduction v
cyclic_reduction-delete_cyclically w v e =
    deleted_enough delete_cyclically length-delete_cyclically (length w) (suc (length w)) w (omega arith) (omega arith)
    ∙ deleted_some delete_cyclically (length w) w v e
    ∙ deleted_enough delete_cyclically length-delete_cyclically (length w) (length v) v (omega (arith, length-delete_cyclically w v e)) (omega arith)

delete_cyclically_leftmost : (w v : Word) → delete_leftmost w ≡ Some v → delete_cyclically w ≡ Some v
delete_cyclically_leftmost w v h = ap (λ (o : Option Word). option_or o (delete_ends w)) h

delete_cyclically_ends : (w v : Word) → delete_leftmost w ≡ None → delete_ends w ≡ Some v → delete_cyclically w ≡ Some v
delete_cyclically_ends w v f h = ap (λ (o : Option Word). option_or o (delete_ends w)) f ∙ h

-- the cyclic reduction may begin with the free reduction
pub cyclic_reduction-free_reduction : (w : Word) → cyclic_reduction (free_reduction w) ≡ cyclic_reduction w
cyclic_reduction-free_reduction w =
    deleted_keeps delete_leftmost cyclic_reduction (λ a b h. cyclic_reduction-delete_cyclically a b (delete_cyclically_leftmost a b h)) (length w) w

-- ---- the ends

last_letter-push : (x : Letter) (v : Word) (y : Letter) → last_letter x (v ++ y ∷ []) ≡ y
last_letter-push x [] y = refl
last_letter-push x (z ∷ v) y = last_letter-push z v y

all_but_last-push : (x : Letter) (v : Word) (y : Letter) → all_but_last x (v ++ y ∷ []) ≡ x ∷ v
all_but_last-push x [] y = refl
all_but_last-push x (z ∷ v) y = ap (λ (u : Word). x ∷ u) (all_but_last-push z v y)

-- a letter at the front and its inverse at the end are deleted
pub delete_ends-around : (x y : Letter) (v : Word) → is_inverse x y ≡ true → delete_ends (x ∷ (v ++ y ∷ [])) ≡ Some v
delete_ends-around x y [] h = cond-true (is_inverse x y) (Some []) None h
delete_ends-around x y (z ∷ v) h =
    cond-true (is_inverse x (last_letter z (v ++ y ∷ []))) (Some (all_but_last z (v ++ y ∷ []))) None (ap (is_inverse x) (last_letter-push z v y) ∙ h)
    ∙ ap (λ (u : Word). Some u) (all_but_last-push z v y)

-- in a word that allows no free deletion, inverse letters at the ends may go before the cyclic reduction
pub cyclic_reduction-around : (x y : Letter) (v : Word) → IsFree (x ∷ (v ++ y ∷ [])) → is_inverse x y ≡ true → cyclic_reduction (x ∷ (v ++ y ∷ [])) ≡ cyclic_reduction v
cyclic_reduction-around x y v f h =
    cyclic_reduction-delete_cyclically (x ∷ (v ++ y ∷ [])) v (delete_cyclically_ends (x ∷ (v ++ y ∷ [])) v f (delete_ends-around x y v h))

-- ---- the inverse of a reduced word

-- a free deletion in a word is one in the inverse word
pub FreelyDeletes-inverse_word : (w v : Word) → FreelyDeletes w v → FreelyDeletes (inverse_word w) (inverse_word v)
FreelyDeletes-inverse_word w v d =
    let x = d.letter in
    let y = inverse_letter d.letter in
    record {
      before = inverse_word d.after;
      letter = x;
      after = inverse_word d.before;
      from =
          ap inverse_word d.from
          ∙ inverse_word-append d.before (x ∷ y ∷ d.after)
          ∙ ap (λ (u : Word). u ++ inverse_word d.before) (inverse_word-append (x ∷ y ∷ []) d.after)
          ∙ append_assoc (inverse_word d.after) (inverse_letter y ∷ y ∷ []) (inverse_word d.before)
          ∙ ap (λ (z : Letter). inverse_word d.after ++ z ∷ y ∷ inverse_word d.before) (inverse_letter-inverse_letter x);
      to = ap inverse_word d.to ∙ inverse_word-append d.before d.after;
    }

DeletesEnds-inverse_word : (w v : Word) → DeletesEnds w v → DeletesEnds (inverse_word w) (inverse_word v)
DeletesEnds-inverse_word w v d =
    let x = d.letter in
    let y = inverse_letter d.letter in
    record {
      letter = x;
      from =
          ap inverse_word d.from
          ∙ inverse_word-cons x (v ++ y ∷ [])
          ∙ ap (λ (u : Word). u ++ y ∷ []) (inverse_word-append v (y ∷ []))
          ∙ ap (λ (z : Letter). z ∷ (inverse_word v ++ y ∷ [])) (inverse_letter-inverse_letter x);
    }

pub length-inverse_word : (w : Word) → length (inverse_word w) ≡ length w
length-inverse_word w = length-map (reverse w) inverse_letter ∙ length-reverse w

pub IsReduced-inverse_word : (w : Word) → IsReduced w → IsReduced (inverse_word w)
IsReduced-inverse_word w r =
    let parts = IsReduced-parts w r in
    delete_cyclically_none (inverse_word w)
    (elim (cases_option (delete_leftmost (inverse_word w))) [
      | inl absent ↦ absent
      | inr there ↦ absurd (no_pair parts.0 there.0 (FreelyDeletes-leftmost (inverse_word w) there.0 there.1))
    ])
    (elim (cases_option (delete_ends (inverse_word w))) [
      | inl absent ↦ absent
      | inr there ↦ absurd (no_ends parts.1 there.0 (DeletesEnds-delete_ends (inverse_word w) there.0 there.1))
    ])
  where
    no_pair : IsFree w → (v : Word) → FreelyDeletes (inverse_word w) v → ⊥
    no_pair f v d =
        IsFree-refuses w (inverse_word v) f
        (subst (λ (u : Word). FreelyDeletes u (inverse_word v)) (inverse_word-inverse_word w) (FreelyDeletes-inverse_word (inverse_word w) v d))

    no_ends : delete_ends w ≡ None → (v : Word) → DeletesEnds (inverse_word w) v → ⊥
    no_ends f v d =
        let back = DeletesEnds-inverse_word (inverse_word w) v d in
        let same : w ≡ back.letter ∷ (inverse_word v ++ inverse_letter back.letter ∷ []) = sym (inverse_word-inverse_word w) ∙ back.from in
        none-some (inverse_word v) (sym f ∙ ap delete_ends same ∙ delete_ends-around back.letter (inverse_letter back.letter) (inverse_word v) (is_inverse-inverse_letter back.letter))
