-- A labelled fatgraph has one list of components.
use Rattle.std.proofs.Common.{◌≡◌, ℕ, zero, suc, ◌<◌, ◌≤◌, ◌/◌, ◌==◌, ◌&&◌, Bool, inl, inr, List, [], ◌∷◌, ◌++◌, length, map, refl, ap, ap₂, sym, ◌∙◌, arith}
use Rattle.std.specs.Fn.{iterate}
use Rattle.std.proofs.lemmas.Bool.{cases_Bool, cases_lt}
use Rattle.sc_algebra.specs.Sums.{count_below}
use Rattle.sc_algebra.specs.Permutations.{is_least_for}
use Rattle.sc_algebra.proofs.Sums.{count-congr}
use Rattle.sc_theory.specs.Chains.{Chain, word, word_of}
use Rattle.sc_theory.specs.Fatgraphs.{Sides, label, mate, next, turn}
use Rattle.sc_shape.specs.Classes.{LeadsTo, IsLeastLeading}
use Rattle.sc_shape.specs.Shapes.{list_below, IsLeastOfComponent, IsLeastOfBoundary, boundary_of, component_of, AreComponents}
use Rattle.sc_shape.specs.declared.component.Boundary.{Boundary}
use Rattle.sc_shape.specs.declared.component.Component.{Component}
use Rattle.sc_shape.proofs.ListsBelow.{list_passes, list_fails, map-list_below}
use Rattle.sc_app.specs.Shape.{IsShape, shape_text}
use Rattle.sc_app.proofs.FirstPlaces.{none_at_all, chosen}

-- ---- the least sides of classes

one_least : (f g : ℕ → ℕ) (n s r r' : ℕ) → s < n → IsLeastLeading f g n s r → IsLeastLeading f g n s r' → r ≡ r'
one_least f g n s r r' b h h' =
    let low : r ≤ s = h.least s b ([], refl) in
    let low' : r' ≤ s = h'.least s b ([], refl) in
    let first : r ≤ r' = h.least r' (omega (arith, low', b)) h'.leads in
    let second : r' ≤ r = h'.least r (omega (arith, low, b)) h.leads in
    omega (arith, first, second)

one_least_of_boundary : (g : Sides) (s r r' : ℕ) → s < length g → IsLeastOfBoundary g s r → IsLeastOfBoundary g s r' → r ≡ r'
one_least_of_boundary g s r r' b h h' =
    let low : r ≤ s = h.least s 0 b refl in
    let low' : r' ≤ s = h'.least s 0 b refl in
    let first : r ≤ r' = h.least r' h'.on_cycle.0 (omega (arith, low', b)) h'.on_cycle.1 in
    let second : r' ≤ r = h'.least r h.on_cycle.0 (omega (arith, low, b)) h.on_cycle.1 in
    omega (arith, first, second)

some_least : (f g : ℕ → ℕ) (n s : ℕ) → s < n → ((r : ℕ) → ¬ IsLeastLeading f g n s r) → ⊥
some_least f g n s b none =
    none_at_all (λ r. LeadsTo f g r s)
    (λ r here before. none r (record {
      leads = here;
      least = λ t c leads. elim (cases_lt t r) [ inl less ↦ absurd (before t less leads) | inr others ↦ omega (arith, others) ];
    })) s ([], refl)

some_least_of_boundary : (g : Sides) (s : ℕ) → s < length g → ((r : ℕ) → ¬ IsLeastOfBoundary g s r) → ⊥
some_least_of_boundary g s b none =
    none_at_all (λ r. (k : ℕ) × (iterate (next g) k r ≡ s))
    (λ r here before. none r (record {
      on_cycle = here;
      least = λ t k c e. elim (cases_lt t r) [ inl less ↦ absurd (before t less (k, e)) | inr others ↦ omega (arith, others) ];
    })) s (0, refl)

-- ---- lists of components

list_below-congr : (test test' : ℕ → Bool) (n : ℕ) → ((s : ℕ) → s < n → test s ≡ test' s) → list_below test n ≡ list_below test' n
list_below-congr test test' zero same = refl
list_below-congr test test' (suc n) same =
    let ih = list_below-congr test test' n (λ s l. same s (omega (arith, l))) in
    elim (cases_Bool (test n)) [
      | inl e ↦ rw (list_passes test n e, list_passes test' n (sym (same n (omega arith)) ∙ e)) (ap (λ (xs : List ℕ). xs ++ n ∷ []) ih)
      | inr e ↦ rw (list_fails test n e, list_fails test' n (sym (same n (omega arith)) ∙ e)) ih
    ]

module _ (c : Chain) (g : Sides) (f f' b b' : ℕ → ℕ) (components : (s : ℕ) → s < length g → f s ≡ f' s) (boundaries : (s : ℕ) → s < length g → b s ≡ b' s) where
  same_boundary : (s : ℕ) → boundary_of c g b s ≡ boundary_of c g b' s
  same_boundary s =
      let size : count_below (λ t. b t == s) (length g) ≡ count_below (λ t. b' t == s) (length g) =
      count-congr (λ t. b t == s) (λ t. b' t == s) (length g) (λ t l. ap (λ (k : ℕ). k == s) (boundaries t l)) in
      ap (λ (k : ℕ). let y : Boundary = record { least = s; word = word_of c (label g s); degree = k / length (word c (word_of c (label g s))) } in y) size

  same_component : (r : ℕ) → component_of c g f b r ≡ component_of c g f' b' r
  same_component r =
      let n : ℕ = length g in
      let size : count_below (λ s. f s == r) n ≡ count_below (λ s. f' s == r) n =
      count-congr (λ s. f s == r) (λ s. f' s == r) n (λ s l. ap (λ (k : ℕ). k == r) (components s l)) in
      let corners : count_below (λ s. is_least_for (turn g) n s && (f s == r)) n ≡ count_below (λ s. is_least_for (turn g) n s && (f' s == r)) n =
      count-congr (λ s. is_least_for (turn g) n s && (f s == r)) (λ s. is_least_for (turn g) n s && (f' s == r)) n
      (λ s l. ap (λ (k : ℕ). is_least_for (turn g) n s && (k == r)) (components s l)) in
      let least : list_below (λ s. (b s == s) && (f s == r)) n ≡ list_below (λ s. (b' s == s) && (f' s == r)) n =
      list_below-congr (λ s. (b s == s) && (f s == r)) (λ s. (b' s == s) && (f' s == r)) n
      (λ s l. ap₂ (λ (k m : ℕ). (k == s) && (m == r)) (boundaries s l) (components s l)) in
      let bounds : map (boundary_of c g b) (list_below (λ s. (b s == s) && (f s == r)) n) ≡ map (boundary_of c g b') (list_below (λ s. (b' s == s) && (f' s == r)) n) =
      ap (λ (xs : List ℕ). map (boundary_of c g b) xs) least
      ∙ map-list_below (boundary_of c g b) (boundary_of c g b') (λ s. (b' s == s) && (f' s == r)) n (λ s l e. same_boundary s) in
      ap (λ (k : ℕ). let y : Component = record { least = r; sides = k; vertices = count_below (λ s. is_least_for (turn g) n s && (f s == r)) n; edges = k / 2; boundaries = map (boundary_of c g b) (list_below (λ s. (b s == s) && (f s == r)) n) } in y) size
      ∙ ap₂ (λ (k : ℕ) (bs : List Boundary). let y : Component = record { least = r; sides = count_below (λ s. f' s == r) n; vertices = k; edges = count_below (λ s. f' s == r) n / 2; boundaries = bs } in y) corners bounds

  same_list : map (component_of c g f b) (list_below (λ r. f r == r) (length g)) ≡ map (component_of c g f' b') (list_below (λ r. f' r == r) (length g))
  same_list =
      ap (λ (xs : List ℕ). map (component_of c g f b) xs)
      (list_below-congr (λ r. f r == r) (λ r. f' r == r) (length g) (λ r l. ap (λ (k : ℕ). k == r) (components r l)))
      ∙ map-list_below (component_of c g f b) (component_of c g f' b') (λ r. f' r == r) (length g) (λ r l e. same_component r)

one_list : (c : Chain) (g : Sides) (xs ys : List Component) → AreComponents c g xs → AreComponents c g ys → xs ≡ ys
one_list c g xs ys a b =
    a.all
    ∙ same_list c g a.component b.component a.boundary b.boundary
    (λ s l. one_least (mate g) (next g) (length g) s (a.component s) (b.component s) l (a.component_is s l) (b.component_is s l))
    (λ s l. one_least_of_boundary g s (a.boundary s) (b.boundary s) l (a.boundary_is s l) (b.boundary_is s l))
    ∙ sym b.all

-- a labelled fatgraph has no two texts of its components
pub one_shape : (c : Chain) (n : ℕ) (g : Sides) (text text' : List ℕ) → IsShape c n g text → IsShape c n g text' → text ≡ text'
one_shape c n g text text' a b = a.2 ∙ ap shape_text (one_list c g a.0 b.0 a.1 b.1) ∙ sym b.2

-- and it isn't without one
pub some_shape : (c : Chain) (n : ℕ) (g : Sides) → ((text : List ℕ) → ¬ IsShape c n g text) → ⊥
some_shape c n g none =
    chosen (IsLeastOfComponent g) (length g) (λ s l. some_least (mate g) (next g) (length g) s l)
    (λ f are. chosen (IsLeastOfBoundary g) (length g) (λ s l. some_least_of_boundary g s l)
    (λ b bounds.
    let all : List Component = map (component_of c g f b) (list_below (λ r. f r == r) (length g)) in
    none (shape_text all)
    (all, record { component = f; component_is = are; boundary = b; boundary_is = bounds; all = refl }, refl)))
