-- Entries that are seen as directions with lists, one of which is put in between two neighbours.
use Rattle.std.proofs.Common.{◌≡◌, ℕ, suc, ◌+◌, ◌<◌, ◌≤◌, List, [], ◌∷◌, ◌++◌, map, take, drop, length, get_or, slice_get, Some, inl, inr, arith, refl, sym, ap, ap₂, subst, subst₂, ◌∙◌}
use Rattle.std.specs.List.{insert}
use Rattle.std.specs.Prelude.{All}
use Rattle.std.proofs.lemmas.Bool.{cases_eq}
use Rattle.std.proofs.lemmas.List.{length-map, length-append, get_or-map, append-nil, map-append, take-map, drop-map}
use Rattle.std.proofs.lemmas.List.Edits.{get_or-insert_below}
use Rattle.std.proofs.lemmas.List.Elements.{All-append, All-cons, All-take, All-drop}
use Rattle.std.proofs.lemmas.Option.{slice_get-get_or}
use Rattle.sc_theory.specs.Chains.{Chain}
use Rattle.sc_cone.specs.declared.Quadrant.{Quadrant}
use Rattle.sc_cone.specs.Searches.{Reached, reached, nothing_reached}
use Rattle.sc_cone.proofs.Arcs.{at_here}
use Rattle.sc_ball.specs.inside.Neighbours.{IsClosed}

module _ {A : Type 0} (f : A → Reached) where
  -- what is read at a place
  pub reached_at : (xs : List A) (i : ℕ) (x : A) → i < length xs → x ≡ get_or xs i x → reached (map f xs) i ≡ f x
  reached_at xs i x inside is = get_or-map f xs i x nothing_reached inside ∙ ap f (sym is)

  -- to put in and then map is to map and then put in
  pub map-insert : (xs : List A) (i : ℕ) (x : A) → map f (insert xs i x) ≡ insert (map f xs) i (f x)
  map-insert xs i x =
      map-append f (take i xs) (x ∷ drop i xs)
      ∙ ap₂ (λ (before after : List Reached). before ++ f x ∷ after) (sym (take-map f i xs)) (sym (drop-map f i xs))

  -- the entries before stay where they are
  kept_at : (xs : List A) (place i : ℕ) (x : A) → i ≤ place → place < length xs → reached (map f (insert xs (place + 1) x)) i ≡ reached (map f xs) i
  kept_at xs place i x low inside =
      ap (λ (rs : List Reached). reached rs i) (map-insert xs (place + 1) x)
      ∙ get_or-insert_below (map f xs) (place + 1) (f x) nothing_reached i (omega arith) (omega (arith, length-map xs f))

  module _ (q : Quadrant) (first second : Chain) where
    abbrev pub AreClosed : List A → ℕ → Type 0
    AreClosed xs n = (i : ℕ) → suc i < n → IsClosed q first second (reached (map f xs) i) (reached (map f xs) (suc i))

    -- an entry that is put in behind the place leaves the neighbours up to there closed
    pub closed_before : (xs : List A) (place : ℕ) (x : A) → place < length xs → AreClosed xs (place + 1) → AreClosed (insert xs (place + 1) x) (place + 1)
    closed_before xs place x inside closed i low =
        subst₂ (IsClosed q first second) (sym (kept_at xs place i x (omega arith) inside)) (sym (kept_at xs place (suc i) x (omega arith) inside)) (closed i low)

    -- where the neighbours at the place are closed too, one pair more is
    pub closed_further : (xs : List A) (place : ℕ) → IsClosed q first second (reached (map f xs) place) (reached (map f xs) (suc place)) → AreClosed xs (place + 1) → AreClosed xs (place + 1 + 1)
    closed_further xs place here closed i low =
        elim (cases_eq i place) [
          | inl e ↦ subst (λ (k : ℕ). IsClosed q first second (reached (map f xs) k) (reached (map f xs) (suc k))) (sym e) here
          | inr other ↦ closed i (omega (arith, other))
        ]

-- what holds of all entries and of one that is put in holds of all with it
pub All-insert : {A : Type 0} (P : A → Type 0) (xs : List A) (i : ℕ) (x : A) → All P xs → P x → All P (insert xs i x)
All-insert P xs i x all here = All-append P (take i xs) (x ∷ drop i xs) (All-take P i xs all) (All-cons P x (drop i xs) here (All-drop P i xs all))

-- ---- items that are taken one after another
-- what stands behind the items that were taken has their number as its place; behind the last stands none
pub item_at : {A : Type 0} (items taken : List A) (x : A) (rest : List A) → taken ++ x ∷ rest ≡ items → slice_get items (length taken) ≡ Some x
item_at {A = A} items taken x rest split =
    let inside : length taken < length (taken ++ x ∷ rest) = omega (arith, length-append taken (x ∷ rest)) in
    subst (λ (ys : List A). slice_get ys (length taken) ≡ Some x) split
    (slice_get-get_or (taken ++ x ∷ rest) (length taken) x inside ∙ ap (λ (y : A). Some y) (at_here x taken x rest (length taken) refl))

pub all_taken : {A : Type 0} (items taken rest : List A) → taken ++ rest ≡ items → length rest ≡ 0 → taken ≡ items
all_taken items taken [] split none = sym (append-nil taken) ∙ split
all_taken items taken (x ∷ rest) split none = absurd (omega (arith, none))
