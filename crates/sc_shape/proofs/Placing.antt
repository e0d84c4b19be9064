-- Components in a list, the places where they stand, and the boundaries that are put into them.
use Rattle.std.proofs.Common.{◌≡◌, ◌≢◌, ℕ, suc, ◌+◌, ◌/◌, ◌<◌, ◌≤◌, ◌==◌, ◌&&◌, Bool, true, false, inl, inr, List, [], ◌∷◌, ◌++◌, length, map, take, drop, get_or, sym, ◌∙◌, ap, ap₂, refl, arith, add-one, get_or-set_other, get_or-set_same}
use Rattle.std.proofs.Math.ListN.{set}
use Rattle.std.proofs.lemmas.Bool.{cases_eq, eq-eqb, ne_eqb, eqb-true}
use Rattle.std.proofs.lemmas.List.{map-append}
use Rattle.sc_algebra.specs.Sums.{count_below}
use Rattle.sc_algebra.proofs.Sums.{count-le}
use Rattle.sc_theory.specs.Chains.{Chain, word_of, word as the_word}
use Rattle.sc_theory.specs.Fatgraphs.{Sides, label, mate, next}
use Rattle.sc_shape.specs.Classes.{entry}
use Rattle.sc_shape.specs.Shapes.{list_below, IsLeastOfComponent}
use Rattle.sc_shape.specs.inside.SideLists.{AreAtPlaces, ArePlaces, PointInside, bare, boundary_with, with_boundaries, no_component}
use Rattle.sc_shape.specs.SideLists.{is_own}
use Rattle.sc_shape.specs.declared.component.Boundary.{Boundary}
use Rattle.sc_shape.specs.declared.component.Component.{Component}
use Rattle.sc_shape.proofs.Spreading.{leads_further, least_at_most}
use Rattle.sc_shape.proofs.ListsBelow.{list_passes, list_fails, length-list_below, count_less, get-list_below, find-list_below, map_same, map_but_one, get-map, length_of_map}

append_nil : {A : Type 0} (xs : List A) → xs ++ [] ≡ xs
append_nil [] = refl
append_nil (x ∷ xs) = ap (λ ys. x ∷ ys) (append_nil xs)

append_assoc : {A : Type 0} (xs ys zs : List A) → (xs ++ ys) ++ zs ≡ xs ++ (ys ++ zs)
append_assoc [] ys zs = refl
append_assoc (x ∷ xs) ys zs = ap (λ ws. x ∷ ws) (append_assoc xs ys zs)

-- ---- the components in order, and their places
-- the components with a least side below s, in order, and the places at which these stand
pub record AreListed (components sizes vertices : List ℕ) (s : ℕ) (found : List Component) (places : List ℕ) : Type 0 where
  pub listed : found ≡ map (bare sizes vertices) (list_below (is_own components) s)
  pub placed : ArePlaces components s places

-- the list is as long as there are least sides below s, so no longer than s
pub listed_length : (components sizes vertices : List ℕ) (s : ℕ) (found : List Component) (places : List ℕ) → AreListed components sizes vertices s found places → length found ≡ count_below (is_own components) s
listed_length components sizes vertices s found places h =
    ap (λ (xs : List Component). length xs) h.listed ∙ length_of_map (bare sizes vertices) (list_below (is_own components) s) ∙ length-list_below (is_own components) s

pub listed_few : (components sizes vertices : List ℕ) (s : ℕ) (found : List Component) (places : List ℕ) → AreListed components sizes vertices s found places → length found ≤ s
listed_few components sizes vertices s found places h = rw (listed_length components sizes vertices s found places h) (count-le (is_own components) s)

-- with a least side one component more stands at the end, and the side has its place
pub listed_more : (components sizes vertices : List ℕ) (s : ℕ) (found : List Component) (places : List ℕ) (x : Component) → s < length places → entry components s ≡ s → x ≡ bare sizes vertices s → AreListed components sizes vertices s found places → AreListed components sizes vertices (s + 1) (found ++ x ∷ []) (set places s (length found))
listed_more components sizes vertices s found places x l own is h =
    let own' : is_own components s ≡ true = eq-eqb (entry components s) s own in
    record {
      listed =
          rw (add-one, list_passes (is_own components) s own', map-append (bare sizes vertices) (list_below (is_own components) s) (s ∷ []))
          (ap₂ (λ (xs ys : List Component). xs ++ ys) h.listed (ap (λ (y : Component). y ∷ []) is));
      placed = λ r b e.
          elim (cases_eq r s) [
            | inl at ↦ rw at (rw get_or-set_same (listed_length components sizes vertices s found places h))
            | inr off ↦ let ne : r ≢ s = off in rw get_or-set_other (h.placed r (omega (arith, b, ne)) e)
          ];
    }

-- with any other side nothing changes
pub listed_stay : (components sizes vertices : List ℕ) (s : ℕ) (found : List Component) (places : List ℕ) → entry components s ≢ s → AreListed components sizes vertices s found places → AreListed components sizes vertices (s + 1) found places
listed_stay components sizes vertices s found places other h =
    let other' : is_own components s ≡ false = ne_eqb (entry components s) s other in
    record {
      listed = rw (add-one, list_fails (is_own components) s other') h.listed;
      placed = λ r b e.
          elim (cases_eq r s) [
            | inl at ↦ absurd (other (eqb-true (entry components s) s (ap (is_own components) (sym at) ∙ e)))
            | inr off ↦ let ne : r ≢ s = off in h.placed r (omega (arith, b, ne)) e
          ];
    }

-- ---- each side's component stands at its place
-- the least side of a component is its own least side
pub least_is_own : (g : Sides) (components : List ℕ) → ((s : ℕ) → s < length g → IsLeastOfComponent g s (entry components s)) → (s : ℕ) → s < length g → is_own components (entry components s) ≡ true
least_is_own g components are s l =
    let n : ℕ = length g in
    let r : ℕ = entry components s in
    let h = are s l in
    let small : r ≤ s = least_at_most (mate g) (next g) n s r l h in
    let lr : r < n = omega (arith, l, small) in
    let hr = are r lr in
    let under : entry components r ≤ r = least_at_most (mate g) (next g) n r (entry components r) lr hr in
    let over : r ≤ entry components r = h.least (entry components r) (omega (arith, under, lr)) (leads_further (mate g) (next g) (entry components r) r s hr.leads h.leads) in
    eq-eqb (entry components r) r (omega (arith, under, over))

-- the least side of a component is a side
pub components_inside : (g : Sides) (components : List ℕ) → length components ≡ length g → ((s : ℕ) → s < length g → IsLeastOfComponent g s (entry components s)) → PointInside components
components_inside g components e are s l =
    let b : s < length g = omega (arith, l, e) in
    omega (arith, e, b, least_at_most (mate g) (next g) (length g) s (entry components s) b (are s b))

-- when all sides are done each component stands at the place of its least side
pub stand_at_places : (g : Sides) (components sizes vertices : List ℕ) (found : List Component) (places : List ℕ) → length components ≡ length g → ((s : ℕ) → s < length g → IsLeastOfComponent g s (entry components s)) → AreListed components sizes vertices (length components) found places → AreAtPlaces components places found
stand_at_places g components sizes vertices found places e are h =
    let n : ℕ = length components in
    let own : ℕ → Bool = is_own components in
    let all : List ℕ = list_below own n in
    let size : length found ≡ count_below own n = listed_length components sizes vertices n found places h in
    let place : (s : ℕ) → s < n → entry places (entry components s) ≡ count_below own (entry components s) =
    λ s l. h.placed (entry components s) (components_inside g components e are s l) (least_is_own g components are s (omega (arith, l, e))) in
    let before : (s : ℕ) → s < n → count_below own (entry components s) < count_below own n =
    λ s l. count_less own n (entry components s) (components_inside g components e are s l) (least_is_own g components are s (omega (arith, l, e))) in
    let at : (r : ℕ) → r < n → own r ≡ true → (get_or found (count_below own r) no_component).least ≡ r =
    λ r l o.
    let inside : count_below own r < length all = rw (length-list_below own n) (count_less own n r l o) in
    ap (λ (xs : List Component). (get_or xs (count_below own r) no_component).least) h.listed
    ∙ ap (λ (x : Component). x.least) (get-map (bare sizes vertices) all (count_below own r) 0 no_component inside)
    ∙ get-list_below own n r l o in
    record {
      inside = λ s l. rw (size, place s l) (before s l);
      here = λ s l. rw (place s l) (at (entry components s) (components_inside g components e are s l) (least_is_own g components are s (omega (arith, l, e))));
      only = λ k l.
          let f = find-list_below own n k (omega (arith, l, size)) in
          rw (← f.3) (rw (at f.0 f.1 f.2) (h.placed f.0 f.1 f.2));
    }

-- ---- boundaries put into the components
module _ (c : Chain) (g : Sides) (components boundaries lengths : List ℕ) where
  puts : ℕ → Component → Component
  puts s x = with_boundaries c g components boundaries lengths s x

  passes : Component → ℕ → Bool
  passes x t = is_own boundaries t && (entry components t == x.least)

  put_same : (s : ℕ) (x : Component) → (is_own boundaries s && (entry components s == x.least)) ≡ false → with_boundaries c g components boundaries lengths (suc s) x ≡ with_boundaries c g components boundaries lengths s x
  put_same s x f =
      ap (λ (l : List ℕ). let y : Component = record x { boundaries = x.boundaries ++ map (boundary_with c g lengths) l } in y)
      (list_fails (λ t. is_own boundaries t && (entry components t == x.least)) s f)

  put_more : (s : ℕ) (x : Component) → (is_own boundaries s && (entry components s == x.least)) ≡ true → with_boundaries c g components boundaries lengths (suc s) x ≡ record x { boundaries = (with_boundaries c g components boundaries lengths s x).boundaries ++ boundary_with c g lengths s ∷ [] }
  put_more s x t =
      let test : ℕ → Bool = λ t. is_own boundaries t && (entry components t == x.least) in
      let b : ℕ → Boundary = boundary_with c g lengths in
      let more : map b (list_below test (suc s)) ≡ map b (list_below test s) ++ b s ∷ [] =
      ap (λ (l : List ℕ). map b l) (list_passes test s t) ∙ map-append b (list_below test s) (s ∷ []) in
      ap (λ (bs : List Boundary). let y : Component = record x { boundaries = bs } in y)
      (ap (λ (bs : List Boundary). x.boundaries ++ bs) more ∙ sym (append_assoc x.boundaries (map b (list_below test s)) (b s ∷ [])))

  -- at first no boundary is put into a component
  pub puts_begin : (xs : List Component) → xs ≡ map (with_boundaries c g components boundaries lengths 0) xs
  puts_begin [] = refl
  puts_begin (x ∷ xs) =
      ap₂ (λ (y : Component) (ys : List Component). y ∷ ys)
      (ap (λ (bs : List Boundary). let y : Component = record x { boundaries = bs } in y) (sym (append_nil x.boundaries)))
      (puts_begin xs)

  -- a side that isn't the least of its boundary
  pub puts_stay : (xs : List Component) (s : ℕ) → is_own boundaries s ≡ false → map (with_boundaries c g components boundaries lengths (suc s)) xs ≡ map (with_boundaries c g components boundaries lengths s) xs
  puts_stay xs s f =
      map_same (with_boundaries c g components boundaries lengths s) (with_boundaries c g components boundaries lengths (suc s)) xs no_component
      (λ k l. put_same s (get_or xs k no_component) (rw f refl))

  -- a side that is, whose boundary comes to the component at its place
  pub puts_more : (places : List ℕ) (xs : List Component) (s : ℕ) (d : Component) → AreAtPlaces components places xs → s < length components → is_own boundaries s ≡ true → map (with_boundaries c g components boundaries lengths (suc s)) xs ≡ set (map (with_boundaries c g components boundaries lengths s) xs) (entry places (entry components s)) (record (get_or (map (with_boundaries c g components boundaries lengths s) xs) (entry places (entry components s)) d) { boundaries = (get_or (map (with_boundaries c g components boundaries lengths s) xs) (entry places (entry components s)) d).boundaries ++ boundary_with c g lengths s ∷ [] })
  puts_more places xs s d h l own =
      let p : ℕ = entry places (entry components s) in
      let old : Component → Component = with_boundaries c g components boundaries lengths s in
      let new : Component → Component = with_boundaries c g components boundaries lengths (suc s) in
      let x : Component = get_or xs p no_component in
      let others : (k : ℕ) → k < length xs → k ≢ p → new (get_or xs k no_component) ≡ old (get_or xs k no_component) =
      λ k b differ.
      put_same s (get_or xs k no_component)
      (rw own (ne_eqb (entry components s) (get_or xs k no_component).least (λ e. differ (sym (h.only k b) ∙ ap (entry places) (sym e))))) in
      let here : new x ≡ record x { boundaries = (old x).boundaries ++ boundary_with c g lengths s ∷ [] } =
      put_more s x (rw own (eq-eqb (entry components s) x.least (sym (h.here s l)))) in
      let got : get_or (map old xs) p d ≡ old x = get-map old xs p no_component d (h.inside s l) in
      map_but_one old new xs no_component p (h.inside s l) others
      ∙ ap (λ (y : Component). set (map old xs) p y)
      (here ∙ ap (λ (z : Component). let y : Component = record z { boundaries = z.boundaries ++ boundary_with c g lengths s ∷ [] } in y) (sym got))

-- ---- the same, of lists that are known by equations
-- one component more
pub listed_pushed : (components sizes vertices : List ℕ) (s : ℕ) (found : List Component) (places : List ℕ) (x : Component) (m : ℕ) (found' : List Component) (places' : List ℕ) → s < length places → entry components s ≡ s → x ≡ bare sizes vertices s → m ≡ length found → found' ≡ found ++ x ∷ [] → places' ≡ set places s m → AreListed components sizes vertices s found places → AreListed components sizes vertices (s + 1) found' places'
listed_pushed components sizes vertices s found places x m found' places' l own is em ef ep h =
    rw (ef, ep, em) (listed_more components sizes vertices s found places x l own is h)

-- the boundary that is made at a side
pub boundary_made : (c : Chain) (g : Sides) (lengths : List ℕ) (s least word degree : ℕ) → least ≡ s → word ≡ word_of c (label g s) → degree ≡ entry lengths s / length (the_word c (word_of c (label g s))) → (let b : Boundary = record { least = least; word = word; degree = degree } in b) ≡ boundary_with c g lengths s
boundary_made c g lengths s least word degree el ew ed = λ i. record { least = el i; word = ew i; degree = ed i }

-- one boundary more
pub puts_pushed : (c : Chain) (g : Sides) (components boundaries lengths places : List ℕ) (xs : List Component) (s : ℕ) (items items' : List Component) (x : Component) (b : Boundary) (bs : List Boundary) → AreAtPlaces components places xs → s < length components → is_own boundaries s ≡ true → items ≡ map (with_boundaries c g components boundaries lengths s) xs → x ≡ get_or items (entry places (entry components s)) x → b ≡ boundary_with c g lengths s → bs ≡ x.boundaries ++ b ∷ [] → items' ≡ set items (entry places (entry components s)) (record x { boundaries = bs }) → items' ≡ map (with_boundaries c g components boundaries lengths (s + 1)) xs
puts_pushed c g components boundaries lengths places xs s items items' x b bs h l own before at made pushed written =
    let p : ℕ = entry places (entry components s) in
    let old : List Component = map (with_boundaries c g components boundaries lengths s) xs in
    let is : x ≡ get_or old p x = at ∙ ap (λ (ys : List Component). get_or ys p x) before in
    let more : bs ≡ x.boundaries ++ boundary_with c g lengths s ∷ [] = pushed ∙ ap (λ (e : Boundary). x.boundaries ++ e ∷ []) made in
    written
    ∙ ap₂ (λ (ys : List Component) (zs : List Boundary). set ys p (record x { boundaries = zs })) before more
    ∙ ap (λ (z : Component). set old p (record z { boundaries = z.boundaries ++ boundary_with c g lengths s ∷ [] })) is
    ∙ sym (puts_more c g components boundaries lengths places xs s x h l own)
    ∙ ap (λ (k : ℕ). map (with_boundaries c g components boundaries lengths k) xs) (sym (add-one s))

-- a list that was lent to be written in, and has kept its length
pub written_back : (new old : List ℕ) (k : ℕ) → length new ≡ k → take k (new ++ drop (length new) old) ≡ new
written_back new old k e = ap (λ (m : ℕ). take m (new ++ drop (length new) old)) (sym e) ∙ front new (drop (length new) old)
  where
    front : (xs ys : List ℕ) → take (length xs) (xs ++ ys) ≡ xs
    front [] ys = refl
    front (x ∷ xs) ys = ap (λ (zs : List ℕ). x ∷ zs) (front xs ys)
