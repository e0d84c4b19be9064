-- Keys in first-seen order, when one more key comes.
use Rattle.std.proofs.Common.{◌≡◌, ℕ, zero, suc, ◌≤◌, Bool, true, false, cond, not, List, [], ◌∷◌, ◌++◌, length, filter, slice_get, Some, refl, sym, ap, ◌∙◌, inl, inr, ◌⊎◌, arith, true≢false}
use Rattle.std.specs.Bool.{Decides}
use Rattle.std.proofs.lemmas.Bool.{cases_Bool}
use Rattle.std.proofs.lemmas.Bool.Decides.{Decides-eqb}
use Rattle.std.proofs.lemmas.Option.{none-some, same_Some}
use Rattle.std.proofs.lemmas.Slice.Eq.{slice_eq-Decides}
use Rattle.sc_simplex.specs.NamedJournals.{same_key, first_seen}

decides_key : (a b : List ℕ) → Decides (same_key a b) (a ≡ b)
decides_key a b = slice_eq-Decides Decides-eqb a b (same_key a b) refl

module _ {X : Type 0} (p : X → Bool) where
  length_filter : (xs : List X) → length (filter p xs) ≤ length xs
  length_filter [] = omega arith
  length_filter (x ∷ xs) = elim (cases_Bool (p x)) [
    | inl e ↦ rw e (omega (arith, length_filter xs))
    | inr e ↦ rw e (omega (arith, length_filter xs))
  ]

  filter_push_kept : (xs : List X) (y : X) → p y ≡ true → filter p (xs ++ y ∷ []) ≡ filter p xs ++ y ∷ []
  filter_push_kept [] y e = ap (λ (b : Bool). cond b (y ∷ []) []) e
  filter_push_kept (x ∷ xs) y e = elim (cases_Bool (p x)) [
    | inl h ↦ rw h (ap (λ (l : List X). x ∷ l) (filter_push_kept xs y e))
    | inr h ↦ rw h (filter_push_kept xs y e)
  ]

  filter_push_left : (xs : List X) (y : X) → p y ≡ false → filter p (xs ++ y ∷ []) ≡ filter p xs
  filter_push_left [] y e = ap (λ (b : Bool). cond b (y ∷ []) []) e
  filter_push_left (x ∷ xs) y e = elim (cases_Bool (p x)) [
    | inl h ↦ rw h (ap (λ (l : List X). x ∷ l) (filter_push_left xs y e))
    | inr h ↦ rw h (filter_push_left xs y e)
  ]

  -- an element that passes stands among those that are kept
  place_kept : (xs : List X) (i : ℕ) (y : X) → slice_get xs i ≡ Some y → p y ≡ true → (j : ℕ) × (slice_get (filter p xs) j ≡ Some y)
  place_kept [] i y at e = absurd (none-some y at)
  place_kept (x ∷ xs) zero y at e =
      let same : p x ≡ true = ap p (same_Some x y at) ∙ e in
      (0, ap (λ (b : Bool). slice_get (cond b (x ∷ filter p xs) (filter p xs)) 0) same ∙ at)
  place_kept (x ∷ xs) (suc i) y at e =
      let rest = place_kept xs i y at e in
      elim (cases_Bool (p x)) [
        | inl h ↦ (suc rest.0, ap (λ (b : Bool). slice_get (cond b (x ∷ filter p xs) (filter p xs)) (suc rest.0)) h ∙ rest.1)
        | inr h ↦ (rest.0, ap (λ (b : Bool). slice_get (cond b (x ∷ filter p xs) (filter p xs)) rest.0) h ∙ rest.1)
      ]

  -- and what is kept stood there before
  place_before : (xs : List X) (j : ℕ) (y : X) → slice_get (filter p xs) j ≡ Some y → (i : ℕ) × (slice_get xs i ≡ Some y)
  place_before [] j y at = absurd (none-some y at)
  place_before (x ∷ xs) j y at = elim (cases_Bool (p x)) [
    | inl h ↦ kept (λ k e. place_before xs k y e) j (ap (λ (b : Bool). slice_get (cond b (x ∷ filter p xs) (filter p xs)) j) (sym h) ∙ at)
    | inr h ↦ (let rest = place_before xs j y (ap (λ (b : Bool). slice_get (cond b (x ∷ filter p xs) (filter p xs)) j) (sym h) ∙ at) in (suc rest.0, rest.1))
  ]
    where
      kept : ((k : ℕ) → slice_get (filter p xs) k ≡ Some y → (i : ℕ) × (slice_get xs i ≡ Some y)) → (k : ℕ) → slice_get (x ∷ filter p xs) k ≡ Some y → (i : ℕ) × (slice_get (x ∷ xs) i ≡ Some y)
      kept again zero e = (0, e)
      kept again (suc k) e = let rest = again k e in (suc rest.0, rest.1)

pub length_first_seen : (ks : List (List ℕ)) → length (first_seen ks) ≤ length ks
length_first_seen [] = omega arith
length_first_seen (k ∷ ks) = omega (arith, length_first_seen ks, length_filter (λ j. not (same_key k j)) (first_seen ks))

-- the key was seen, and nothing changes
pub record Known (ks : List (List ℕ)) (k : List ℕ) : Type 0 where
  pub place : ℕ
  pub at : slice_get (first_seen ks) place ≡ Some k
  pub same : first_seen (ks ++ k ∷ []) ≡ first_seen ks

-- or it is new and comes last
pub record New (ks : List (List ℕ)) (k : List ℕ) : Type 0 where
  pub nowhere : (i : ℕ) → slice_get (first_seen ks) i ≡ Some k → ⊥
  pub last : first_seen (ks ++ k ∷ []) ≡ first_seen ks ++ k ∷ []

-- one more key is known or new
pub one_more_key : (ks : List (List ℕ)) (k : List ℕ) → Known ks k ⊎ New ks k
one_more_key [] k = inr (record { nowhere = λ i at. none-some k at; last = refl })
one_more_key (j ∷ js) k =
    elim (cases_Bool (same_key j k)) [
      | inl e ↦ inl (record { place = 0; at = ap Some ((decides_key j k).0 e); same = ap (λ (l : List (List ℕ)). j ∷ l) (gone e (one_more_key js k)) })
      | inr e ↦ elim (one_more_key js k) [
        | inl known ↦ (let p = place_kept (λ i. not (same_key j i)) (first_seen js) known.place k known.at (ap not e) in
            inl (record { place = suc p.0; at = p.1; same = ap (λ (l : List (List ℕ)). j ∷ filter (λ i. not (same_key j i)) l) known.same }))
        | inr new ↦ inr (record {
          nowhere = λ i at. absent i e new at;
          last = ap (λ (l : List (List ℕ)). j ∷ filter (λ i. not (same_key j i)) l) new.last ∙ ap (λ (l : List (List ℕ)). j ∷ l) (filter_push_kept (λ i. not (same_key j i)) (first_seen js) k (ap not e));
        })
      ]
    ]
  where
    gone : same_key j k ≡ true → Known js k ⊎ New js k → filter (λ i. not (same_key j i)) (first_seen (js ++ k ∷ [])) ≡ filter (λ i. not (same_key j i)) (first_seen js)
    gone e (inl known) = ap (filter (λ i. not (same_key j i))) known.same
    gone e (inr new) = ap (filter (λ i. not (same_key j i))) new.last ∙ filter_push_left (λ i. not (same_key j i)) (first_seen js) k (ap not e)

    absent : (i : ℕ) → same_key j k ≡ false → New js k → slice_get (j ∷ filter (λ i. not (same_key j i)) (first_seen js)) i ≡ Some k → ⊥
    absent zero e new at = true≢false (sym ((decides_key j k).1 (same_Some j k at)) ∙ e)
    absent (suc i) e new at = let p = place_before (λ i. not (same_key j i)) (first_seen js) i k at in new.nowhere p.0 p.1
