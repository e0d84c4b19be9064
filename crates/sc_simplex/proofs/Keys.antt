-- What the place of a key among the keys of a map says of the columns.
use Rattle.std.proofs.Common.{◌≡◌, ℕ, ◌<◌, Bool, false, cond, not, List, [], ◌∷◌, ◌++◌, map, length, get_or, slice_get, position, Option, None, Some, refl, sym, ap, ap₂, ◌∙◌, inl, inr, arith, true≢false, eqb, zero, suc, IfSome, IfNone}
use Rattle.std.specs.declared.vec.Vec.{Vec}
use Rattle.std.specs.List.{IsDistinct, AllZip, position_or_len}
use Rattle.std.specs.Bool.{Decides}
use Rattle.std.specs.Map.{keys_of, values_of, lookup}
use Rattle.std.specs.Option.{option_map}
use Rattle.std.specs.Cmp.Lexicographic.{pointwise}
use Rattle.std.proofs.lemmas.Bool.{cases_Bool, cases_order, cases_lt, lt-ltb}
use Rattle.std.proofs.lemmas.List.{map-append}
use Rattle.std.proofs.lemmas.Bool.Decides.{Decides-eqb}
use Rattle.std.proofs.lemmas.Slice.Eq.{slice_eq-Decides}
use Rattle.std.proofs.lemmas.List.Quantifiers.{position-Some}
use Rattle.std.proofs.lemmas.List.Sums.{prefix_len_passes}
use Rattle.std.proofs.lemmas.Option.{slice_get-map, slice_get-get_or, slice_get_within, get_or_from_slice_get, none-some, same_Some}
use Rattle.std.proofs.lemmas.Map.Keys.{apart_from_distinct}

-- clones of numbers are the same numbers
pub same_from_clones : (xs ys : List ℕ) → AllZip (λ x y. y ≡ x) xs ys → ys ≡ xs
same_from_clones [] [] h = refl
same_from_clones [] (y ∷ ys) h = absurd h
same_from_clones (x ∷ xs) [] h = absurd h
same_from_clones (x ∷ xs) (y ∷ ys) h = ap₂ (λ (z : ℕ) (zs : List ℕ). z ∷ zs) h.0 (same_from_clones xs ys h.1)

-- where no element passes, none at a place does
pub none_passes : {X : Type 0} (p : X → Bool) (xs : List X) (i : ℕ) (x : X) → position p xs ≡ None → slice_get xs i ≡ Some x → p x ≡ false
none_passes p xs i x none at =
    let inside : i < length xs = slice_get_within xs i x at in
    let read : get_or xs i x ≡ x = get_or_from_slice_get xs i x x at in
    elim (cases_lt (position_or_len p xs) (length xs)) [
      | inl l ↦ absurd (none-some _ (sym none ∙ ap (λ (b : Bool). cond b (Some (position_or_len p xs)) None) (lt-ltb _ _ l)))
      | inr end ↦ elim (cases_Bool (p x)) [
        | inl e ↦ absurd (true≢false (sym (prefix_len_passes (λ y. not (p y)) xs i x (omega arith)) ∙ ap (λ y. not (p y)) read ∙ ap not e))
        | inr e ↦ e
      ]
    ]

-- the place of a key found by a test that decides equality, over the list of keys that the columns have
module _ {K : Type 0} (items : K → List ℕ) (same : K → K → Bool) (decides : (a b : K) → Decides (same a b) (items a ≡ items b)) where
  key_at : (ks : List K) (i : ℕ) (key : List ℕ) → slice_get (map items ks) i ≡ Some key → (k : K) × (slice_get ks i ≡ Some k) × (items k ≡ key)
  key_at [] i key at = absurd (none-some _ at)
  key_at (k ∷ ks) zero key at = (k, refl, same_Some _ _ at)
  key_at (k ∷ ks) (suc i) key at = key_at ks i key at

  -- the key at the place that was found
  pub key_found : (key : K) (ks : List K) (keys : List (List ℕ)) → map items ks ≡ keys → (i : ℕ) → position (same key) ks ≡ Some i → slice_get keys i ≡ Some (items key)
  key_found key ks keys e i at =
      let p = position-Some (same key) ks i key at in
      ap (λ (l : List (List ℕ)). slice_get l i) (sym e) ∙ slice_get-map items ks i ∙ ap (option_map items) (slice_get-get_or ks i key p.0)
      ∙ ap Some (sym ((decides key (get_or ks i key)).0 p.1))

  -- a key that was not found stands nowhere
  pub key_missing : (key : K) (ks : List K) (keys : List (List ℕ)) → map items ks ≡ keys → (i : ℕ) → position (same key) ks ≡ None → slice_get keys i ≡ Some (items key) → ⊥
  key_missing key ks keys e i none at =
      let k = key_at ks i (items key) (ap (λ (l : List (List ℕ)). slice_get l i) e ∙ at) in
      true≢false (sym ((decides key k.0).1 (sym k.2)) ∙ none_passes (same key) ks i k.0 none k.1)

  -- two places with equal keys are one
  pub keys_apart : (ks : List K) (keys : List (List ℕ)) → map items ks ≡ keys → IsDistinct same ks → (i j : ℕ) (key : List ℕ) → slice_get keys i ≡ Some key → slice_get keys j ≡ Some key → i ≡ j
  keys_apart ks keys e distinct i j key at there =
      let a = key_at ks i key (ap (λ (l : List (List ℕ)). slice_get l i) e ∙ at) in
      let b = key_at ks j key (ap (λ (l : List (List ℕ)). slice_get l j) e ∙ there) in
      elim (cases_order i j) [
        | inl equal ↦ equal
        | inr (inl less) ↦ absurd (clash i j a.0 b.0 a.1 b.1 (a.2 ∙ sym b.2) less)
        | inr (inr more) ↦ absurd (clash j i b.0 a.0 b.1 a.1 (b.2 ∙ sym a.2) more)
      ]
    where
      clash : (m n : ℕ) (x y : K) → slice_get ks m ≡ Some x → slice_get ks n ≡ Some y → items x ≡ items y → m < n → ⊥
      clash m n x y here after equal less =
          true≢false (sym ((decides x y).1 equal) ∙ ap₂ same (sym (get_or_from_slice_get ks m x x here)) (sym (get_or_from_slice_get ks n y x after))
          ∙ apart_from_distinct same ks m n x distinct less (slice_get_within ks n y after))

  -- both answers of a look-up
  pub found_is : (key : K) (ks : List K) (keys : List (List ℕ)) (r : Option ℕ) → map items ks ≡ keys → r ≡ position (same key) ks → IfSome r (λ i. slice_get keys i ≡ Some (items key))
  found_is key ks keys None e is = tt
  found_is key ks keys (Some i) e is = key_found key ks keys e i (sym is)

  -- where no place was found, the key stands nowhere
  pub missing_is : (key : K) (ks : List K) (keys : List (List ℕ)) (r : Option ℕ) → map items ks ≡ keys → r ≡ position (same key) ks → IfNone r ((i : ℕ) → slice_get keys i ≡ Some (items key) → ⊥)
  missing_is key ks keys None e is = λ i at. key_missing key ks keys e i (sym is) at
  missing_is key ks keys (Some i) e is = tt

  -- the look-up of a key that stands nowhere
  pub lookup_missing : {V : Type 0} (k : K) (key : List ℕ) (es : List (K × V)) → items k ≡ key → ((i : ℕ) → slice_get (map items (keys_of es)) i ≡ Some key → ⊥) → lookup (same k) es ≡ None
  lookup_missing k key [] e missing = refl
  lookup_missing {V} k key (x ∷ xs) e missing =
      elim (cases_Bool (same k x.0)) [
        | inl yes_ ↦ absurd (missing 0 (ap Some (sym ((decides k x.0).0 yes_) ∙ e)))
        | inr no_ ↦ ap (λ (t : Bool). cond t (Some x.1) (lookup (same k) xs)) no_ ∙ lookup_missing k key xs e (λ i at. missing (suc i) at)
      ]

-- the test of two lists of numbers
pub decides_keys : {Z : Type 0} (a b : Vec ℕ Z) → Decides (pointwise eqb a.items b.items) (a.items ≡ b.items)
decides_keys a b = slice_eq-Decides Decides-eqb a.items b.items (pointwise eqb a.items b.items) refl

-- the stored list after a column is put behind the others under its own key
pub values_more : {K V : Type 0} (es fs : List (K × V)) (k : K) (v : V) → fs ≡ es ++ (k, v) ∷ [] → values_of fs ≡ values_of es ++ v ∷ []
values_more es fs k v e = ap values_of e ∙ map-append (λ p. p.1) es ((k, v) ∷ [])

-- each column still stands under its own key when one more is put behind the others under its own
pub own_keys_more : {K V : Type 0} (items : K → List ℕ) (key : V → List ℕ) (es fs : List (K × V)) (k : K) (v : V) → fs ≡ es ++ (k, v) ∷ [] → items k ≡ key v
    → map items (keys_of es) ≡ map key (values_of es) → map items (keys_of fs) ≡ map key (values_of fs)
own_keys_more items key es fs k v e same own =
    ap (λ l. map items (keys_of l)) e ∙ ap (map items) (map-append (λ p. p.0) es ((k, v) ∷ [])) ∙ map-append items (keys_of es) (k ∷ [])
    ∙ ap₂ (λ (a b : List (List ℕ)). a ++ b) own (ap (λ (l : List ℕ). l ∷ []) same)
    ∙ sym (ap (map key) (values_more es fs k v e) ∙ map-append key (values_of es) (v ∷ []))
