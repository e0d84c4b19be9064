-- A list of walks that grows at its end.
use Rattle.std.proofs.Common.{◌≡◌, ◌≢◌, ◌⊎◌, ℕ, zero, suc, ◌<◌, ◌≤◌, List, [], ◌∷◌, ◌++◌, length, slice_get, Option, Some, None, arith, refl, sym, ap, subst, ◌∙◌, inl, inr, length-append}
use Rattle.sc_weight.specs.Levels.{Levels, levels_sum}
use Rattle.sc_tables.specs.Squares.{Square}
use Rattle.sc_tables.specs.Totals.{IsBelow, IsAtMost}
use Rattle.sc_tables.specs.declared.search.Node.{Node}
use Rattle.sc_tables.specs.declared.search.Candidate.{Candidate}
use Rattle.sc_tables.specs.inside.Searches.{ArePlaced, IsCandidate, Extends, IsGrowing, Grows}
use Rattle.sc_tables.specs.Searches.{UnderEach, IsEnd, Lower, IsNext}
use Rattle.sc_tables.proofs.Order.{at_most-refl, at_most-trans, at_most_from_below}
use Rattle.sc_tables.proofs.Best.{same_item}

-- ---- items of a list and of one that is longer by an item
-- an item keeps its number where one more is put behind the list
pub item_front : {A : Type 0} (xs : List A) (y : A) (n : ℕ) (x : A) → slice_get xs n ≡ Some x → slice_get (xs ++ y ∷ []) n ≡ Some x
item_front [] y n x e = absurd (cc)
item_front (z ∷ xs) y zero x e = e
item_front (z ∷ xs) y (suc n) x e = item_front xs y n x e

-- the item that is put behind a list has the list's length as its number
pub item_last : {A : Type 0} (xs : List A) (y : A) → slice_get (xs ++ y ∷ []) (length xs) ≡ Some y
item_last [] y = refl
item_last (z ∷ xs) y = item_last xs y

-- an item of the longer list is one of the old ones or the new one
pub item_cases : {A : Type 0} (xs : List A) (y : A) (n : ℕ) (x : A) → slice_get (xs ++ y ∷ []) n ≡ Some x → (slice_get xs n ≡ Some x) ⊎ ((n ≡ length xs) × (y ≡ x))
item_cases [] y zero x e = inr (refl, same_item y x (Some y) refl e)
item_cases [] y (suc n) x e = absurd (cc)
item_cases (z ∷ xs) y zero x e = inl e
item_cases (z ∷ xs) y (suc n) x e = elim (item_cases xs y n x e) [ inl front ↦ inl front | inr last ↦ inr (ap suc last.0, last.1) ]

pub grows-trans : {W : Type 0} (a b c : List (Node W)) → Grows a b → Grows b c → Grows a c
grows-trans a b c p q = record { len = omega (arith, p.len, q.len); same = λ n x e. q.same n x (p.same n x e) }

-- a list with one more node behind it has grown
pub grows_last : {W : Type 0} (nodes : List (Node W)) (y : Node W) → Grows nodes (nodes ++ y ∷ [])
grows_last nodes y = record { len = omega (arith, length-append nodes (y ∷ [])); same = item_front nodes y }

-- ---- what is said of a list holds of a longer one
-- an entry names the same walk where the list has grown
pub end-grows : {W : Type 0} (old new : List (Node W)) (end j : ℕ) (o : Option ℕ) → Grows old new → IsEnd old end j o → IsEnd new end j o
end-grows old new end j None g is = tt
end-grows old new end j (Some n) g (x, inside, here, at) = (x, inside, g.same n x here, at)

-- an entry that names one of the first walks names one of more walks
pub end_within : {W : Type 0} (nodes : List (Node W)) (end more j : ℕ) (o : Option ℕ) → end ≤ more → IsEnd nodes end j o → IsEnd nodes more j o
end_within nodes end more j None le is = tt
end_within nodes end more j (Some n) le (x, inside, here, at) = (x, omega arith, here, at)

-- the total of an entry's walk stays where the list has grown
pub lower-grows : {W : Type 0} (levels : W → Levels) (old new : List (Node W)) (o : Option ℕ) (total : Levels) → Grows old new → Lower levels old o total → Lower levels new o total
lower-grows levels old new None total g is = is
lower-grows levels old new (Some n) total g (x, here, low) = (x, g.same n x here, low)

-- an entry whose total is at most x has at most y, where x is at most y
pub lower-trans : {W : Type 0} (levels : W → Levels) (nodes : List (Node W)) (o : Option ℕ) (x y : Levels) → Lower levels nodes o x → IsAtMost x y → Lower levels nodes o y
lower-trans levels nodes None x y is le = is
lower-trans levels nodes (Some n) x y (node, here, low) le = (node, here, at_most-trans (levels node.total) x y low le)

-- an item that stood there already, when the list was shorter
item_at : {A : Type 0} (xs : List A) (n : ℕ) → n < length xs → (y : A) × (slice_get xs n ≡ Some y)
item_at [] n inside = absurd (omega arith)
item_at (y ∷ xs) zero inside = (y, refl)
item_at (y ∷ xs) (suc n) inside = item_at xs n (omega arith)

-- a node whose number is below the old length was in the old list
pub item_before : {W : Type 0} (old new : List (Node W)) (n : ℕ) (x : Node W) → Grows old new → n < length old → slice_get new n ≡ Some x → slice_get old n ≡ Some x
item_before old new n x g inside here =
    let (y, e) = item_at old n inside in
    e ∙ ap Some (same_item y x (slice_get new n) (g.same n y e) here)

-- what is said of an entry after a round stays where the list has grown
pub next-grows : {W : Type 0} (levels : W → Levels) (t : Square W) (old new : List (Node W)) (fresh end s j : ℕ) (before o : Option ℕ) → end ≤ length old → ((n : ℕ) → before ≡ Some n → n < end) → Grows old new →
    IsNext levels t old fresh end s j before o → IsNext levels t new fresh end s j before o
next-grows levels t old new fresh end s j before o within entry g is =
    record {
      placed = end_within new (length old) (length new) j o g.len (end-grows old new (length old) j o g is.placed);
      old = is.old;
      kept = λ n x e here.
          (let inside : n < length old = omega (arith, entry n e) in
          lower-grows levels old new o (levels x.total) g (is.kept n x e (item_before old new n x g inside here)));
      under_each = λ other n x w from below here step.
          (let inside : n < length old = omega arith in
          lower-grows levels old new o (levels_sum (levels x.total) (levels w)) g (is.under_each other n x w from below (item_before old new n x g inside here) step));
      start = is.start;
    }

-- ---- an entry that stays, and one that is replaced
module _ {W : Type 0} (levels : W → Levels) (t : Square W) (nodes : List (Node W)) (fresh end s j : ℕ) (before : Option ℕ) (within : end ≤ length nodes) (entry : IsEnd nodes end j before) where
  entry_below : (o : Option ℕ) (n : ℕ) → o ≡ Some n → IsEnd nodes end j o → n < end
  entry_below None n e is = absurd (cc)
  entry_below (Some m) n e is = let same : m ≡ n = same_item m n (Some m) refl e in omega (arith, is.1)

  itself : (n : ℕ) (x : Node W) → before ≡ Some n → slice_get nodes n ≡ Some x → Lower levels nodes before (levels x.total)
  itself n x e here = rw e (x, here, at_most-refl (levels x.total))

  -- at the start
  pub next_start : j ≡ s → IsNext levels t nodes fresh end s j before before
  next_start at =
      record {
        placed = end_within nodes end (length nodes) j before within entry;
        old = λ n e below. e;
        kept = itself;
        under_each = λ other n x w from below here step. absurd (other at);
        start = λ _. refl;
      }

  -- none was found
  pub next_none : UnderEach levels t nodes fresh end j None → IsNext levels t nodes fresh end s j before before
  next_none under_each =
      record {
        placed = end_within nodes end (length nodes) j before within entry;
        old = λ n e below. e;
        kept = itself;
        under_each = λ other n x w from below here step. absurd (under_each n x w from below here step);
        start = λ _. refl;
      }

  -- the entry is at most what was found
  pub next_kept : (best : Candidate W) → UnderEach levels t nodes fresh end j (Some best) →
      (n : ℕ) × (x : Node W) × (before ≡ Some n) × (slice_get nodes n ≡ Some x) × IsAtMost (levels x.total) (levels best.total) → IsNext levels t nodes fresh end s j before before
  next_kept best under_each (m, y, is, at, low) =
      record {
        placed = end_within nodes end (length nodes) j before within entry;
        old = λ n e below. e;
        kept = itself;
        under_each = λ other n x w from below here step. rw is (y, at, at_most-trans (levels y.total) (levels best.total) _ low (under_each n x w from below here step));
        start = λ _. refl;
      }

  -- a new walk takes its place
  pub next_new : j ≢ s → (best : Candidate W) (steps : ℕ) → UnderEach levels t nodes fresh end j (Some best) →
      ((n : ℕ) (x : Node W) → before ≡ Some n → slice_get nodes n ≡ Some x → IsBelow (levels best.total) (levels x.total)) →
      IsNext levels t (nodes ++ record { place = j; before = best.node; steps = steps; total = best.total } ∷ []) fresh end s j before (Some (length nodes))
  next_new other best steps under_each better =
      let y : Node W = record { place = j; before = best.node; steps = steps; total = best.total } in
      let g : Grows nodes (nodes ++ y ∷ []) = grows_last nodes y in
      record {
        placed = (y, omega (arith, length-append nodes (y ∷ [])), item_last nodes y, refl);
        old = λ n e below. (let same : length nodes ≡ n = same_item (length nodes) n (Some (length nodes)) refl e in absurd (omega arith));
        kept = λ n x e here.
            (let inside : n < length nodes = omega (arith, entry_below before n e entry) in
            (y, item_last nodes y, at_most_from_below (levels best.total) (levels x.total) (better n x e (item_before nodes _ n x g inside here))));
        under_each = λ away n x w from below here step.
            (let inside : n < length nodes = omega arith in
            (y, item_last nodes y, under_each n x w from below (item_before nodes _ n x g inside here) step));
        start = λ at. absurd (other at);
      }

-- ---- the list with a new walk
-- a walk of the round before with a step to j, not the start, is put behind the list
pub walks_last : {W : Type 0} (levels : W → Levels) (t : Square W) (nodes : List (Node W)) (s steps end j : ℕ) (best : Candidate W) → j < t.side → j ≢ s → best.node < end → IsCandidate levels t nodes j best → IsGrowing levels t s steps end nodes →
    IsGrowing levels t s steps end (nodes ++ record { place = j; before = best.node; steps = steps; total = best.total } ∷ [])
walks_last {W} levels t nodes s steps end j best inside other old is g =
    record {
      walks = record {
        some = omega (arith, g.walks.some, grown.len);
        first = λ x here. g.walks.first x (item_before nodes _ 0 x grown g.walks.some here);
        later = later;
        placed = placed;
        few = few;
      };
      within = omega (arith, g.within, grown.len);
      before = λ n x below here. g.before n x below (item_before nodes _ n x grown (omega (arith, g.within)) here);
    }
  where
    y : Node W
    y = record { place = j; before = best.node; steps = steps; total = best.total }

    grown : Grows nodes (nodes ++ y ∷ [])
    grown = grows_last nodes y

    placed : ArePlaced t (nodes ++ y ∷ [])
    placed n x here = elim (item_cases nodes y n x here) [ inl front ↦ g.walks.placed n x front | inr last ↦ subst (λ (z : Node W). z.place < t.side) last.1 inside ]

    few : (n : ℕ) (x : Node W) → slice_get (nodes ++ y ∷ []) n ≡ Some x → x.steps ≤ steps
    few n x here = elim (item_cases nodes y n x here) [ inl front ↦ g.walks.few n x front | inr last ↦ subst (λ (z : Node W). z.steps ≤ steps) last.1 (omega arith) ]

    later : (n : ℕ) (x : Node W) → slice_get (nodes ++ y ∷ []) (suc n) ≡ Some x → (m : Node W) × (x.before ≤ n) × (slice_get (nodes ++ y ∷ []) x.before ≡ Some m) × Extends levels t s m x
    later n x here = elim (item_cases nodes y (suc n) x here) [
      | inl front ↦ (let (m, earlier, at, extends) = g.walks.later n x front in (m, earlier, grown.same x.before m at, extends))
      | inr last ↦
          subst (λ (z : Node W). (m : Node W) × (z.before ≤ n) × (slice_get (nodes ++ y ∷ []) z.before ≡ Some m) × Extends levels t s m z) last.1 (
            is.here,
            omega (arith, last.0, g.within),
            grown.same best.node is.here is.here_is,
            record { price = is.price; step = is.step; total = is.total; away = λ e. other (sym e); steps = g.before best.node is.here old is.here_is },
          )
    ]
