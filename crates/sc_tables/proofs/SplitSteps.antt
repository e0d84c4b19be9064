-- A closed walk that is split into polygons.
use Rattle.std.proofs.Common.{◌≡◌, ◌≢◌, ◌⊎◌, ℕ, zero, suc, ◌+◌, ◌-◌, ◌<◌, ◌≤◌, List, [], ◌∷◌, ◌++◌, length, get_or, take, drop, ℤ, ◌+ℤ◌, arith, length-drop, refl, sym, ap, subst, ◌∙◌, inl, inr}
use Rattle.std.specs.List.{AllByRecursion}
use Rattle.std.proofs.Math.Seq.{take-length}
use Rattle.std.proofs.lemmas.List.{append-nil, append_assoc}
use Rattle.std.proofs.lemmas.Int.{ints}
use Rattle.sc_theory.specs.Chains.{Chain}
use Rattle.sc_theory.specs.Walks.{IsClosedWalk, IsPolygon, HasNoRepeat, walk_total, walks_total}
use Rattle.sc_tables.specs.inside.Splits.{IsPolygonOf, CutsOff}
use Rattle.sc_tables.specs.Splits.{GoesOn, HaveStepsOf}
use Rattle.sc_tables.proofs.WalkLaws.{cut_between, cut_rest, total-cut, total-turned}
use Rattle.sc_tables.proofs.Polygons.{polygon_from, put_last}
use Rattle.sc_tables.proofs.Repeats.{all_front}

-- the polygons that were cut off, the path, and the rest of the walk
pub record IsSplitSoFar (c : Chain) (walk path rest : List ℕ) (polygons : List (List ℕ)) : Type 0 where
  pub closed : IsClosedWalk c (path ++ rest)
  pub simple : HasNoRepeat path
  pub valid : AllByRecursion (IsPolygon c) polygons
  pub steps : (price : ℕ → ℕ → ℤ) → walks_total price polygons +ℤ walk_total price (path ++ rest) ≡ walk_total price walk

-- what is left from a place on, taken at its full length, is all of it
pub rest_whole : (xs : List ℕ) (k : ℕ) → take (length xs - k) (drop k xs) ≡ drop k xs
rest_whole xs k = ap (λ (n : ℕ). take n (drop k xs)) (sym (length-drop k xs)) ∙ take-length (drop k xs)

-- what is left from a place on is the number there and what is left from the next place on
pub drop_here : (xs : List ℕ) (i : ℕ) → i < length xs → drop i xs ≡ get_or xs i 0 ∷ drop (i + 1) xs
drop_here [] i inside = absurd (omega arith)
drop_here (x ∷ xs) zero inside = refl
drop_here (x ∷ xs) (suc i) inside = drop_here xs i (omega arith) ∙ ap (λ (n : ℕ). get_or xs i 0 ∷ drop n (x ∷ xs)) (shift i)
  where
    shift : (i : ℕ) → suc (i + 1) ≡ suc i + 1
    shift i = omega arith

-- from the end on nothing is left
pub drop_all : (xs : List ℕ) (i : ℕ) → length xs ≤ i → drop i xs ≡ []
drop_all [] zero past = refl
drop_all [] (suc i) past = refl
drop_all (x ∷ xs) zero past = absurd (omega arith)
drop_all (x ∷ xs) (suc i) past = drop_all xs i (omega arith)

-- ---- the polygon of a closed walk without repeats

-- a list cut at its place k: what is before it, the number there, and the rest
pub record Parts (xs : List ℕ) (k : ℕ) : Type 0 where
  pub place : ℕ
  pub rest : List ℕ
  pub whole : xs ≡ take k xs ++ place ∷ rest
  pub back : drop k xs ≡ place ∷ rest
  pub at : get_or xs k 0 ≡ place

pub parts : (xs : List ℕ) (k : ℕ) → k < length xs → Parts xs k
parts [] k inside = absurd (omega arith)
parts (x ∷ xs) zero inside = record { place = x; rest = xs; whole = refl; back = refl; at = refl }
parts (x ∷ xs) (suc k) inside =
    let p = parts xs k (omega arith) in
    record { place = p.place; rest = p.rest; whole = ap (λ (ys : List ℕ). x ∷ ys) p.whole; back = p.back; at = p.at }

-- what holds of the number at each index holds of all
pub all_by_index : (P : ℕ → Type 0) (xs : List ℕ) → ((k : ℕ) → k < length xs → P (get_or xs k 0)) → AllByRecursion P xs
all_by_index P [] h = tt
all_by_index P (x ∷ xs) h = (h 0 (omega arith), all_by_index P xs (λ k inside. h (suc k) (omega arith)))

-- a closed walk without repeats, begun at a place with its least position, is a polygon with the same steps
pub polygon_at : (c : Chain) (xs : List ℕ) (k : ℕ) → k < length xs → IsClosedWalk c xs → HasNoRepeat xs → ((i : ℕ) → i < length xs → get_or xs k 0 ≤ get_or xs i 0) → IsPolygonOf c xs (drop k xs ++ take k xs)
polygon_at c xs k inside closed simple least =
    let p = parts xs k inside in
    let low : AllByRecursion (λ j. p.place ≤ j) xs = all_by_index (λ j. p.place ≤ j) xs (λ i within. omega (arith, least i within, p.at)) in
    let polygon : IsPolygon c (p.place ∷ (p.rest ++ take k xs)) = polygon_from c (take k xs) p.place p.rest (subst (IsClosedWalk c) p.whole closed) (subst HasNoRepeat p.whole simple) (subst (AllByRecursion (λ j. p.place ≤ j)) p.whole low) in
    let same : p.place ∷ (p.rest ++ take k xs) ≡ drop k xs ++ take k xs = ap (λ (ys : List ℕ). ys ++ take k xs) (sym p.back) in
    record {
      valid = subst (IsPolygon c) same polygon;
      steps = λ f. ap (walk_total f) (sym same) ∙ total-turned f (take k xs) p.place p.rest ∙ ap (walk_total f) (sym p.whole);
    }

-- ---- one position more

-- where the walk comes to a position of the path again, the path from there on is a closed walk
pub may_return : (c : Chain) (path : List ℕ) (x : ℕ) (rest : List ℕ) → IsClosedWalk c (path ++ x ∷ rest) → (a b : List ℕ) → path ≡ a ++ x ∷ b → IsClosedWalk c (x ∷ b)
may_return c path x rest closed a b is =
    cut_between c b x rest a (subst (IsClosedWalk c) (ap (λ (ys : List ℕ). ys ++ x ∷ rest) is ∙ append_assoc a (x ∷ b) (x ∷ rest)) closed)

simple_front : (xs ys : List ℕ) → HasNoRepeat (xs ++ ys) → HasNoRepeat xs
simple_front [] ys simple = tt
simple_front (x ∷ xs) ys simple = (all_front (λ j. x ≢ j) xs ys simple.0, simple_front xs ys simple.1)

simple_back : (xs ys : List ℕ) → HasNoRepeat (xs ++ ys) → HasNoRepeat ys
simple_back [] ys simple = simple
simple_back (x ∷ xs) ys simple = simple_back xs ys simple.1

-- one walk more adds its total
pub walks_total-last : (f : ℕ → ℕ → ℤ) (ws : List (List ℕ)) (w : List ℕ) → walks_total f (ws ++ w ∷ []) ≡ walks_total f ws +ℤ walk_total f w
walks_total-last f [] w = omega (arith, ints)
walks_total-last f (v ∷ ws) w = omega (arith, ints, walks_total-last f ws w)

-- what holds of all walks and of one more holds of all with it
pub all_last : (P : List ℕ → Type 0) (ws : List (List ℕ)) (w : List ℕ) → AllByRecursion P ws → P w → AllByRecursion P (ws ++ w ∷ [])
all_last P [] w all last = (last, tt)
all_last P (v ∷ ws) w all last = (all.0, all_last P ws w all.1 last)

regrouped : (s p q r t : ℤ) → s +ℤ p ≡ t → p ≡ q +ℤ r → (s +ℤ q) +ℤ r ≡ t
regrouped s p q r t e h = omega (arith, ints)

module _ (c : Chain) (walk path new : List ℕ) (x : ℕ) (rest : List ℕ) (polygons made : List (List ℕ)) (so_far : IsSplitSoFar c walk path (x ∷ rest) polygons) where
  gone_on : GoesOn x path new polygons made → IsSplitSoFar c walk new rest made
  gone_on is =
      let moved : path ++ x ∷ rest ≡ new ++ rest = sym (append_assoc path (x ∷ []) rest) ∙ ap (λ (ys : List ℕ). ys ++ rest) (sym is.path_is) in
      record {
        closed = subst (IsClosedWalk c) moved so_far.closed;
        simple = subst HasNoRepeat (sym is.path_is) (put_last path x so_far.simple (apart path is.away));
        valid = subst (AllByRecursion (IsPolygon c)) (sym is.polygons_are) so_far.valid;
        steps = λ f. ap (λ (ws : List (List ℕ)). walks_total f ws +ℤ walk_total f (new ++ rest)) is.polygons_are ∙ ap (λ (ys : List ℕ). walks_total f polygons +ℤ walk_total f ys) (sym moved) ∙ so_far.steps f;
      }
    where
      apart : (ys : List ℕ) → AllByRecursion (λ j. x ≢ j) ys → AllByRecursion (λ j. x ≢ j) ys
      apart ys all = all

  cut_off : CutsOff c x path new polygons made → IsSplitSoFar c walk new rest made
  cut_off is =
      let whole : path ++ x ∷ rest ≡ is.before ++ x ∷ (is.between ++ x ∷ rest) = ap (λ (ys : List ℕ). ys ++ x ∷ rest) is.path_was ∙ append_assoc is.before (x ∷ is.between) (x ∷ rest) in
      let left : is.before ++ x ∷ rest ≡ new ++ rest = sym (append_assoc is.before (x ∷ []) rest) ∙ ap (λ (ys : List ℕ). ys ++ rest) (sym is.path_is) in
      let cut = cut_rest c is.between x rest is.before (subst (IsClosedWalk c) whole so_far.closed) in
      let front : HasNoRepeat (is.before ++ x ∷ []) =
      simple_front (is.before ++ x ∷ []) is.between (subst HasNoRepeat (is.path_was ∙ sym (append_assoc is.before (x ∷ []) is.between)) so_far.simple) in
      record {
        closed = subst (IsClosedWalk c) left cut;
        simple = subst HasNoRepeat (sym is.path_is) front;
        valid = subst (AllByRecursion (IsPolygon c)) (sym is.polygons_are) (all_last (IsPolygon c) polygons is.polygon so_far.valid is.polygon_is.valid);
        steps = λ f.
            (let split : walk_total f (path ++ x ∷ rest) ≡ walk_total f is.polygon +ℤ walk_total f (new ++ rest) =
            ap (walk_total f) whole ∙ total-cut f is.before is.between x rest
            ∙ ap (λ (a : ℤ). a +ℤ walk_total f (is.before ++ x ∷ rest)) (sym (is.polygon_is.steps f))
            ∙ ap (λ (ys : List ℕ). walk_total f is.polygon +ℤ walk_total f ys) left in
            ap (λ (ws : List (List ℕ)). walks_total f ws +ℤ walk_total f (new ++ rest)) is.polygons_are
            ∙ ap (λ (a : ℤ). a +ℤ walk_total f (new ++ rest)) (walks_total-last f polygons is.polygon)
            ∙ regrouped (walks_total f polygons) (walk_total f (path ++ x ∷ rest)) (walk_total f is.polygon) (walk_total f (new ++ rest)) (walk_total f walk) (so_far.steps f) split);
      }

  -- the next position goes behind the path, or cuts off the polygon that it closes
  pub split_step : GoesOn x path new polygons made ⊎ CutsOff c x path new polygons made → IsSplitSoFar c walk new rest made
  split_step (inl is) = gone_on is
  split_step (inr is) = cut_off is

-- what the path has passed: the walk from there on, which comes back, and the path that stays
module _ (c : Chain) (path : List ℕ) (x k : ℕ) (inside : k < length path) (at : get_or path k 0 ≡ x) where
  from_there : Parts path k
  from_there = parts path k inside

  back_is : x ∷ from_there.rest ≡ drop k path
  back_is = let p = from_there in ap (λ (y : ℕ). y ∷ p.rest) (sym at ∙ p.at) ∙ sym p.back

  was : path ≡ take k path ++ x ∷ from_there.rest
  was = let p = from_there in p.whole ∙ ap (λ (y : ℕ). take k path ++ y ∷ p.rest) (sym p.at ∙ at)

  -- the path from a place on is a closed walk without repeats
  pub passed_closed : ((a b : List ℕ) → path ≡ a ++ x ∷ b → IsClosedWalk c (x ∷ b)) → IsClosedWalk c (drop k path)
  passed_closed returns = subst (IsClosedWalk c) back_is (returns (take k path) from_there.rest was)

  pub passed_simple : HasNoRepeat path → HasNoRepeat (drop k path)
  passed_simple simple = subst HasNoRepeat back_is (simple_back (take k path) (x ∷ from_there.rest) (subst HasNoRepeat was simple))

-- ---- the last step

module _ (c : Chain) (walk path rest : List ℕ) (polygons : List (List ℕ)) (so_far : IsSplitSoFar c walk path rest polygons) (none : rest ≡ []) where
  at_end : path ++ rest ≡ path
  at_end = ap (λ (ys : List ℕ). path ++ ys) none ∙ append-nil path

  pub last_steps : (p : List ℕ) → IsPolygonOf c path p → HaveStepsOf (polygons ++ p ∷ []) walk
  last_steps p is f =
      walks_total-last f polygons p ∙ ap (λ (a : ℤ). walks_total f polygons +ℤ a) (is.steps f ∙ ap (walk_total f) (sym at_end)) ∙ so_far.steps f
