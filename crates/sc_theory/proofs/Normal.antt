-- The normal form of a word by a stack, and that free deletions in any order lead to it.
use Rattle.std.proofs.Common.{◌≡◌, ℕ, zero, suc, true, false, cond, [], ◌∷◌, ◌++◌, length, None, refl, sym, ap, ◌∙◌, subst, ◌↔◌, inl, inr}
use Rattle.std.proofs.lemmas.Bool.{cases_Bool, cond-true, cond-false, true≢false}
use Rattle.sc_theory.specs.declared.Letter.{Letter}
use Rattle.sc_theory.specs.Words.{Word, inverse_letter, inverse_word, is_inverse, delete_leftmost, deleted, free_reduction, FreelyDeletes, FreeDeletions, no_more, deletion, SameElement}
use Rattle.sc_theory.proofs.WordLaws.{letter_from_is_inverse, is_inverse-inverse_letter, inverse_letter-inverse_letter, inverse_word-cons, inverse_word-inverse_word}
use Rattle.sc_theory.proofs.Reduction.{cases_option, FreelyDeletes-leftmost, deleted_none, deleted_some, deleted_keeps, delete_leftmost-free_reduction}
use Rattle.sc_theory.proofs.Rounds.{is_inverse-from_none, delete_leftmost_tail, delete_leftmost-cons}

-- a word that allows no free deletion
abbrev pub IsFree : Word → Type 0
IsFree w = delete_leftmost w ≡ None

-- a letter before a word: it and its inverse there go away
abbrev pub push : Letter → Word → Word
push x [] = x ∷ []
push x (y ∷ s) = cond (is_inverse x y) s (x ∷ y ∷ s)

-- the letters of a word pushed before s, the last one first
abbrev pub onto : Word → Word → Word
onto [] s = s
onto (x ∷ w) s = push x (onto w s)

-- the normal form: the letters of a word pushed before nothing
abbrev pub normal : Word → Word
normal w = onto w []

push_gone : (x y : Letter) (s : Word) → is_inverse x y ≡ true → push x (y ∷ s) ≡ s
push_gone x y s h = cond-true (is_inverse x y) s (x ∷ y ∷ s) h

push_stays : (x y : Letter) (s : Word) → is_inverse x y ≡ false → push x (y ∷ s) ≡ x ∷ y ∷ s
push_stays x y s h = cond-false (is_inverse x y) s (x ∷ y ∷ s) h

-- what is pushed before a word that allows no free deletion leaves such a word, so normal forms are such
pub IsFree-push : (x : Letter) (s : Word) → IsFree s → IsFree (push x s)
IsFree-push x [] f = refl
IsFree-push x (y ∷ s) f = elim (cases_Bool (is_inverse x y)) [
  | inl gone ↦ ap delete_leftmost (push_gone x y s gone) ∙ delete_leftmost_tail y s f
  | inr stays ↦ ap delete_leftmost (push_stays x y s stays) ∙ delete_leftmost-cons x y s stays f
]

pub IsFree-onto : (w s : Word) → IsFree s → IsFree (onto w s)
IsFree-onto [] s f = f
IsFree-onto (x ∷ w) s f = IsFree-push x (onto w s) (IsFree-onto w s f)

pub IsFree-normal : (w : Word) → IsFree (normal w)
IsFree-normal w = IsFree-onto w [] refl

-- a letter that makes no free deletion possible stays
pub push_free : (x : Letter) (s : Word) → IsFree (x ∷ s) → push x s ≡ x ∷ s
push_free x [] f = refl
push_free x (y ∷ s) f = push_stays x y s (is_inverse-from_none x y s f)

-- a letter after its inverse changes nothing
pub push-push : (x y : Letter) (s : Word) → is_inverse x y ≡ true → IsFree s → push x (push y s) ≡ s
push-push x y [] h f = push_gone x y [] h
push-push x y (z ∷ s) h f = elim (cases_Bool (is_inverse y z)) [
  | inl gone ↦
      let same : z ≡ x = letter_from_is_inverse y z gone ∙ ap inverse_letter (letter_from_is_inverse x y h) ∙ inverse_letter-inverse_letter x in
      let f' : IsFree (x ∷ s) = ap (λ (q : Letter). delete_leftmost (q ∷ s)) (sym same) ∙ f in
      ap (push x) (push_gone y z s gone) ∙ push_free x s f' ∙ ap (λ (q : Letter). q ∷ s) (sym same)
  | inr stays ↦ ap (push x) (push_stays y z s stays) ∙ push_gone x y (z ∷ s) h
]

-- the second word of a product is pushed first, and then the first word
pub onto-append : (u v s : Word) → onto (u ++ v) s ≡ onto u (onto v s)
onto-append [] v s = refl
onto-append (x ∷ u) v s = ap (push x) (onto-append u v s)

-- a word that allows no free deletion is its normal form
pub normal-itself : (w : Word) → IsFree w → normal w ≡ w
normal-itself [] f = refl
normal-itself (x ∷ w) f = ap (push x) (normal-itself w (delete_leftmost_tail x w f)) ∙ push_free x w f

onto-push : (x : Letter) (t s : Word) → IsFree s → onto (push x t) s ≡ push x (onto t s)
onto-push x [] s f = refl
onto-push x (y ∷ t) s f = elim (cases_Bool (is_inverse x y)) [
  | inl gone ↦ ap (λ (u : Word). onto u s) (push_gone x y t gone) ∙ sym (push-push x y (onto t s) gone (IsFree-onto t s f))
  | inr stays ↦ ap (λ (u : Word). onto u s) (push_stays x y t stays)
]

-- a word acts as its normal form does
pub onto-normal : (u s : Word) → IsFree s → onto (normal u) s ≡ onto u s
onto-normal [] s f = refl
onto-normal (x ∷ u) s f = onto-push x (normal u) s f ∙ ap (push x) (onto-normal u s f)

-- the normal form of a product comes from those of its words
pub normal-append : (u v : Word) → normal (u ++ v) ≡ onto (normal u) (normal v)
normal-append u v = onto-append u v [] ∙ sym (onto-normal u (normal v) (IsFree-normal v))

-- ---- free deletions

-- free deletions keep the normal form
pub normal-FreelyDeletes : (w v : Word) → FreelyDeletes w v → normal w ≡ normal v
normal-FreelyDeletes w v d =
    ap normal d.from
    ∙ onto-append d.before (d.letter ∷ inverse_letter d.letter ∷ d.after) []
    ∙ ap (onto d.before) (push-push d.letter (inverse_letter d.letter) (normal d.after) (is_inverse-inverse_letter d.letter) (IsFree-normal d.after))
    ∙ sym (onto-append d.before d.after [])
    ∙ ap normal (sym d.to)

pub normal-FreeDeletions : {w v : Word} → FreeDeletions w v → normal w ≡ normal v
normal-FreeDeletions no_more = refl
normal-FreeDeletions (deletion {w} {v} {u} d rest) = normal-FreelyDeletes w v d ∙ normal-FreeDeletions rest

pub free_reduction-normal : (w : Word) → free_reduction w ≡ normal w
free_reduction-normal w =
    sym (normal-itself (free_reduction w) (delete_leftmost-free_reduction w))
    ∙ deleted_keeps delete_leftmost normal (λ a b h. normal-FreelyDeletes a b (FreelyDeletes-leftmost a b h)) (length w) w

-- free deletions end in the free reduction, in whichever order they come
pub free_reduction-FreeDeletions : (w v : Word) → FreeDeletions w v → IsFree v → v ≡ free_reduction w
free_reduction-FreeDeletions w v chain f = sym (normal-itself v f) ∙ sym (normal-FreeDeletions chain) ∙ sym (free_reduction-normal w)

deletions_of : (n : ℕ) (w : Word) → FreeDeletions w (deleted delete_leftmost n w)
deletions_of zero w = no_more
deletions_of (suc n) w = elim (cases_option (delete_leftmost w)) [
  | inl absent ↦ subst (λ (v : Word). FreeDeletions w v) (sym (deleted_none delete_leftmost (suc n) w absent)) no_more
  | inr there ↦
      subst (λ (v : Word). FreeDeletions w v) (sym (deleted_some delete_leftmost n w there.0 there.1))
      (deletion (FreelyDeletes-leftmost w there.0 there.1) (deletions_of n there.0))
]

pub FreeDeletions-free_reduction : (w : Word) → FreeDeletions w (free_reduction w)
FreeDeletions-free_reduction w = deletions_of (length w) w

-- a free deletion anywhere is refused exactly where the leftmost is
free_refuses : (before : Word) (x : Letter) (after : Word) → IsFree (before ++ x ∷ inverse_letter x ∷ after) → ⊥
free_refuses [] x after f = true≢false (sym (is_inverse-inverse_letter x) ∙ is_inverse-from_none x (inverse_letter x) after f)
free_refuses (y ∷ before) x after f = free_refuses before x after (delete_leftmost_tail y (before ++ x ∷ inverse_letter x ∷ after) f)

-- where no leftmost pair can be deleted, there is no free deletion anywhere
pub IsFree-refuses : (w v : Word) → IsFree w → FreelyDeletes w v → ⊥
IsFree-refuses w v f d = free_refuses d.before d.letter d.after (ap delete_leftmost (sym d.from) ∙ f)

-- ---- inverses

-- a word and its inverse, pushed one after the other, change nothing
pub onto-inverse : (w s : Word) → IsFree s → onto w (onto (inverse_word w) s) ≡ s
onto-inverse [] s f = refl
onto-inverse (x ∷ w) s f =
    ap (λ (u : Word). push x (onto w (onto u s))) (inverse_word-cons x w)
    ∙ ap (λ (u : Word). push x (onto w u)) (onto-append (inverse_word w) (inverse_letter x ∷ []) s)
    ∙ ap (push x) (onto-inverse w (push (inverse_letter x) s) (IsFree-push (inverse_letter x) s f))
    ∙ push-push x (inverse_letter x) s (is_inverse-inverse_letter x) f

pub onto-inverse_first : (w s : Word) → IsFree s → onto (inverse_word w) (onto w s) ≡ s
onto-inverse_first w s f =
    ap (λ (u : Word). onto (inverse_word w) (onto u s)) (sym (inverse_word-inverse_word w)) ∙ onto-inverse (inverse_word w) s f

-- ---- the same element

-- two words are the same element exactly where their normal forms, and so their free reductions, are equal
pub same_normal : (u v : Word) → SameElement u v → normal u ≡ normal v
same_normal u v h =
    let back = inverse_word v in
    let empty : normal (u ++ back) ≡ [] = sym (free_reduction-normal (u ++ back)) ∙ h in
    ap (onto u) (sym (onto-inverse_first v [] refl))
    ∙ sym (onto-append u back (normal v))
    ∙ sym (onto-normal (u ++ back) (normal v) (IsFree-normal v))
    ∙ ap (λ (w : Word). onto w (normal v)) empty

pub same_from_normal : (u v : Word) → normal u ≡ normal v → SameElement u v
same_from_normal u v e =
    free_reduction-normal (u ++ inverse_word v)
    ∙ normal-append u (inverse_word v)
    ∙ ap (λ (w : Word). onto w (normal (inverse_word v))) e
    ∙ onto-normal v (normal (inverse_word v)) (IsFree-normal (inverse_word v))
    ∙ onto-inverse v [] refl

pub same_reductions : (u v : Word) → SameElement u v ↔ (free_reduction u ≡ free_reduction v)
same_reductions u v = (
  λ h. free_reduction-normal u ∙ same_normal u v h ∙ sym (free_reduction-normal v),
  λ e. same_from_normal u v (sym (free_reduction-normal u) ∙ e ∙ free_reduction-normal v),
)

-- to be the same element is an equivalence
pub same_itself : (w : Word) → SameElement w w
same_itself w = same_from_normal w w refl

pub same_other_way : (u v : Word) → SameElement u v → SameElement v u
same_other_way u v h = same_from_normal v u (sym (same_normal u v h))

pub same_through : (u v w : Word) → SameElement u v → SameElement v w → SameElement u w
same_through u v w h k = same_from_normal u w (same_normal u v h ∙ same_normal v w k)

-- the same elements have the same products, and the same inverses
pub same_products : (u u' v v' : Word) → SameElement u u' → SameElement v v' → SameElement (u ++ v) (u' ++ v')
same_products u u' v v' h k =
    same_from_normal (u ++ v) (u' ++ v')
    (normal-append u v
    ∙ ap (λ (w : Word). onto w (normal v)) (same_normal u u' h)
    ∙ ap (onto (normal u')) (same_normal v v' k)
    ∙ sym (normal-append u' v'))

pub same_inverses : (u v : Word) → SameElement u v → SameElement (inverse_word u) (inverse_word v)
same_inverses u v h =
    let back = inverse_word u in
    free_reduction-normal (back ++ inverse_word (inverse_word v))
    ∙ ap (λ (w : Word). normal (back ++ w)) (inverse_word-inverse_word v)
    ∙ onto-append back v []
    ∙ ap (onto back) (sym (same_normal u v h))
    ∙ onto-inverse_first u [] refl

-- a product with its inverse, and with the empty word
pub same_with_inverse : (w : Word) → SameElement (w ++ inverse_word w) []
same_with_inverse w = same_from_normal (w ++ inverse_word w) [] (onto-append w (inverse_word w) [] ∙ onto-inverse w [] refl)

pub same_reduced : (w : Word) → SameElement w (free_reduction w)
same_reduced w =
    same_from_normal w (free_reduction w) (sym (ap normal (free_reduction-normal w) ∙ normal-itself (normal w) (IsFree-normal w)))
