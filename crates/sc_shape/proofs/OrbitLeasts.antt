-- Least numbers of classes under one permutation are the least numbers of its orbits; classes of lists are those of
-- the maps.
use Rattle.std.proofs.Common.{◌≡◌, ◌≢◌, ℕ, zero, suc, ◌+◌, ◌<◌, ◌≤◌, ◌==◌, Bool, true, false, inl, inr, List, [], ◌∷◌, length, sym, ◌∙◌, ap, refl, arith}
use Rattle.std.specs.Fn.{iterate}
use Rattle.std.proofs.lemmas.Bool.{cases_Bool, eq-eqb, ne_eqb}
use Rattle.sc_algebra.specs.Permutations.{IsPermutation, is_least_for}
use Rattle.sc_algebra.proofs.Cycles.{iterate-add, period, least_means_least}
use Rattle.sc_fatgraph.proofs.MarkedOrbits.{smaller_iterate, turn_permutes}
use Rattle.sc_fatgraph.proofs.MarkWalks.{turn_in_range}
use Rattle.sc_fatgraph.specs.inside.Orbits.{IsRibbon}
use Rattle.sc_theory.specs.Fatgraphs.{Sides, mate, next, turn}
use Rattle.sc_shape.specs.Classes.{along, LeadsTo, IsLeastLeading, entry}
use Rattle.sc_shape.specs.inside.Classes.{StaysBelow, AreLeast}
use Rattle.sc_shape.specs.Shapes.{IsLeastOfBoundary}
use Rattle.sc_shape.specs.SideLists.{AreValues}
use Rattle.sc_shape.specs.inside.SideLists.{AreSteps, AreLeasts, PointInside}

-- ---- maps that agree below n
along-congr : (f g f' g' : ℕ → ℕ) (n : ℕ) → StaysBelow n f → StaysBelow n g → ((s : ℕ) → s < n → f s ≡ f' s) → ((s : ℕ) → s < n → g s ≡ g' s) → (path : List Bool) (s : ℕ) → s < n → along f g path s ≡ along f' g' path s
along-congr f g f' g' n hf hg ef eg [] s l = refl
along-congr f g f' g' n hf hg ef eg (true ∷ path) s l = along-congr f g f' g' n hf hg ef eg path (f s) (hf s l) ∙ ap (along f' g' path) (ef s l)
along-congr f g f' g' n hf hg ef eg (false ∷ path) s l = along-congr f g f' g' n hf hg ef eg path (g s) (hg s l) ∙ ap (along f' g' path) (eg s l)

-- maps that are the same below n have the same least numbers of their classes
pub least-congr : (f g f' g' : ℕ → ℕ) (n : ℕ) → StaysBelow n f → StaysBelow n g → ((s : ℕ) → s < n → f s ≡ f' s) → ((s : ℕ) → s < n → g s ≡ g' s) → (s r : ℕ) → s < n → IsLeastLeading f g n s r → IsLeastLeading f' g' n s r
least-congr f g f' g' n hf hg ef eg s r l h =
    let small : r ≤ s = h.least s l ([], refl) in
    let agree : (path : List Bool) (t : ℕ) → t < n → along f g path t ≡ along f' g' path t = along-congr f g f' g' n hf hg ef eg in
    record {
      leads = (h.leads.0, sym (agree h.leads.0 r (omega (arith, l, small))) ∙ h.leads.1);
      least = λ t b (path, e). h.least t b (path, agree path t b ∙ e);
    }

-- ---- steps of one map
steps : ℕ → List Bool
steps zero = []
steps (suc k) = true ∷ steps k

along_one : (t : ℕ → ℕ) (path : List Bool) (s : ℕ) → along t t path s ≡ iterate t (length path) s
along_one t [] s = refl
along_one t (true ∷ path) s = along_one t path (t s)
along_one t (false ∷ path) s = along_one t path (t s)

along_steps : (t : ℕ → ℕ) (k s : ℕ) → along t t (steps k) s ≡ iterate t k s
unfolding steps
along_steps t zero s = refl
along_steps t (suc k) s = along_steps t k (t s)

-- a number leads to its iterates
pub leads_by_iterate : (t : ℕ → ℕ) (k s u : ℕ) → iterate t k s ≡ u → LeadsTo t t s u
leads_by_iterate t k s u e = (steps k, along_steps t k s ∙ e)

-- some more steps of a permutation lead back
pub orbit_returns : (t : ℕ → ℕ) (n : ℕ) → IsPermutation t n → (k s : ℕ) → s < n → (m : ℕ) × (iterate t m (iterate t k s) ≡ s)
orbit_returns t n p zero s h = (0, refl)
orbit_returns t n p (suc k) s h =
    let m = orbit_returns t n p k (t s) (p.into s h) in
    let r = period p s h in
    (r.0 + m.0, iterate-add t r.0 m.0 (iterate t k (t s)) ∙ ap (iterate t r.0) m.1 ∙ r.2)

-- a permutation of the numbers below n has iterates below n
pub iterate_below : (t : ℕ → ℕ) (n : ℕ) → IsPermutation t n → (k s : ℕ) → s < n → iterate t k s < n
iterate_below t n p zero s h = h
iterate_below t n p (suc k) s h = iterate_below t n p k (t s) (p.into s h)

-- a number is the least of its class exactly where no iterate is smaller
pub own_is_least : (t : ℕ → ℕ) (n : ℕ) → IsPermutation t n → (s r : ℕ) → s < n → IsLeastLeading t t n s r → (r == s) ≡ is_least_for t n s
own_is_least t n p s r l h =
    let small : r ≤ s = h.least s l ([], refl) in
    let k : ℕ = length h.leads.0 in
    let to : iterate t k r ≡ s = sym (along_one t h.leads.0 r) ∙ h.leads.1 in
    let back = orbit_returns t n p k r (omega (arith, l, small)) in
    let from : iterate t back.0 s ≡ r = ap (iterate t back.0) (sym to) ∙ back.1 in
    elim (cases_Bool (is_least_for t n s)) [
      | inl e ↦
          let least : s ≤ iterate t back.0 s = least_means_least p s l e back.0 in
          let same : r ≡ s = omega (arith, least, from, small) in
          eq-eqb r s same ∙ sym e
      | inr e ↦
          let lower = smaller_iterate t n s e in
          let up = orbit_returns t n p lower.0 s l in
          let under : r ≤ iterate t lower.0 s = h.least (iterate t lower.0 s) (iterate_below t n p lower.0 s l) (leads_by_iterate t up.0 (iterate t lower.0 s) s up.1) in
          let differ : r ≢ s = λ same. omega (arith, same, under, lower.1) in
          ne_eqb r s differ ∙ sym e
    ]

-- the least side that `next` alone leads to is the least one of the boundary
pub boundary_from : (g : Sides) (s r : ℕ) → IsLeastLeading (next g) (next g) (length g) s r → IsLeastOfBoundary g s r
boundary_from g s r h = record {
  on_cycle = (length h.leads.0, sym (along_one (next g) h.leads.0 r) ∙ h.leads.1);
  least = λ t k b e. h.least t b (leads_by_iterate (next g) k t s e);
}

-- ---- the least sides, from lists of steps
stays : (f : ℕ → ℕ) (n : ℕ) (values : List ℕ) → AreValues f n values → StaysBelow n f → StaysBelow n (entry values)
stays f n values v h s l = rw (v.each s l) (h s l)

-- classes that were found by lists of the steps f and g
pub classes_of_maps : (f g : ℕ → ℕ) (n : ℕ) (first second least : List ℕ) → StaysBelow n f → StaysBelow n g → AreValues f n first → AreValues g n second → AreLeast (entry first) (entry second) (length first) least → (length least ≡ n) × ((s : ℕ) → s < n → IsLeastLeading f g n s (entry least s))
classes_of_maps f g n first second least hf hg vf vg a =
    let e : length first ≡ n = vf.as_many in
    let b : AreLeast (entry first) (entry second) n least = rw e at a in
    (b.as_many, λ s l. least-congr (entry first) (entry second) f g n (stays f n first vf hf) (stays g n second vg hg) vf.each vg.each s (entry least s) l (b.right s l))

-- the least numbers of classes by lists of the steps are the least sides of components, boundaries, vertices
pub leasts_from_steps : (g : Sides) (mates nexts turns components boundaries vertices : List ℕ) → IsRibbon g → AreSteps g (length g) mates nexts turns → AreLeast (entry mates) (entry nexts) (length mates) components → AreLeast (entry nexts) (entry nexts) (length nexts) boundaries → AreLeast (entry turns) (entry turns) (length turns) vertices → AreLeasts g components boundaries vertices
leasts_from_steps g mates nexts turns components boundaries vertices r h ac ab av =
    let n : ℕ = length g in
    let c = classes_of_maps (mate g) (next g) n mates nexts components r.mates r.nexts h.mates_are h.nexts_are ac in
    let b = classes_of_maps (next g) (next g) n nexts nexts boundaries r.nexts r.nexts h.nexts_are h.nexts_are ab in
    let v = classes_of_maps (turn g) (turn g) n turns turns vertices (turn_in_range g r) (turn_in_range g r) h.turns_are h.turns_are av in
    record {
      as_many_components = c.0;
      components_are = c.1;
      as_many_boundaries = b.0;
      boundaries_are = λ s l. boundary_from g s (entry boundaries s) (b.1 s l);
      as_many_vertices = v.0;
      vertices_are = λ s l. own_is_least (turn g) n (turn_permutes g r) s (entry vertices s) l (v.1 s l);
    }

-- each entry of the boundaries is a side
pub boundaries_inside : (g : Sides) (boundaries : List ℕ) → length boundaries ≡ length g → ((s : ℕ) → s < length g → IsLeastOfBoundary g s (entry boundaries s)) → PointInside boundaries
boundaries_inside g boundaries e are s l =
    let b : s < length g = omega (arith, l, e) in
    let small : entry boundaries s ≤ s = (are s b).least s 0 b refl in
    omega (arith, l, small)
