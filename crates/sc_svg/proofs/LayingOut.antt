-- A layout is made vertex by vertex, and each vertex side by side.
use Rattle.std.proofs.Common.{cond, ◌≡◌, ◌≢◌, ℕ, suc, pred, ◌+◌, ◌*◌, ◌<◌, ◌==◌, Bool, true, false, inl, inr, List, [], ◌∷◌, ◌++◌, length, get_or, sym, ◌∙◌, ap, ap₂, refl, arith, add-one, get_or-set_other, get_or-set_same}
use Rattle.std.specs.Fn.{iterate}
use Rattle.std.specs.List.{count_by}
use Rattle.std.proofs.Math.ListN.{set, length-set}
use Rattle.std.proofs.lemmas.Bool.{cases_lt, eq-eqb, ne_eqb, false≢true}
use Rattle.std.proofs.lemmas.List.{length-append, length_push}
use Rattle.std.proofs.lemmas.List.Sums.{sum_by-set}
use Rattle.sc_algebra.specs.Sums.{count_below}
use Rattle.sc_algebra.specs.Permutations.{IsPermutation, is_least_for}
use Rattle.sc_algebra.proofs.Cycles.{iterate-last}
use Rattle.sc_shape.specs.Classes.{entry}
use Rattle.sc_shape.proofs.OrbitLeasts.{iterate_below}
use Rattle.sc_svg.specs.Layout.{is_apart, orbit_size, sides_along, order_below}
use Rattle.sc_svg.specs.inside.LaidOut.{x_in_orbit, AreLaidBelow, IsLaidTo, LaysOrbit}
use Rattle.sc_svg.proofs.Orbits.{orbits_apart, apart_next, iterates_apart, size_is, length-along, along_last, order_passes, order_fails}

append_assoc : (xs ys zs : List ℕ) → (xs ++ ys) ++ zs ≡ xs ++ (ys ++ zs)
append_assoc [] ys zs = refl
append_assoc (x ∷ xs) ys zs = ap (λ (ws : List ℕ). x ∷ ws) (append_assoc xs ys zs)

-- ---- one vertex
-- `steps` sides of the orbit are laid, and `side` is the next one
pub record LaysTo (t : ℕ → ℕ) (n start : ℕ) (order xs : List ℕ) (side : ℕ) (order' xs' : List ℕ) : Type 0 where
  pub steps : ℕ
  pub side_is : side ≡ iterate t steps start
  pub apart : is_apart t steps start ≡ true
  pub order_is : order' ≡ order ++ sides_along t steps start
  pub as_many : length xs' ≡ n
  pub room : count_by (λ x. x == 0) xs' + length order' ≡ n
  pub placed : (j : ℕ) → j < steps → entry xs' (iterate t j start) ≡ x_in_orbit t n start j
  pub others : (u : ℕ) → ((j : ℕ) → j < steps → iterate t j start ≢ u) → entry xs' u ≡ entry xs u

module _ (t : ℕ → ℕ) (n : ℕ) (p : IsPermutation t n) (start : ℕ) (ls : start < n) (order xs : List ℕ) (h : IsLaidTo t n start order xs) where
  -- the side that is due has no x
  unlaid : (side : ℕ) (order' xs' : List ℕ) → (w : LaysTo t n start order xs side order' xs') → entry xs' side ≡ 0
  unlaid side order' xs' w =
      w.others side (λ j b e. iterates_apart t n p start j w.steps ls w.apart b (e ∙ w.side_is))
      ∙ ap (entry xs) w.side_is ∙ h.free w.steps

  -- the side that is due is one
  pub side_below : (side : ℕ) (order' xs' : List ℕ) → LaysTo t n start order xs side order' xs' → side < n
  side_below side order' xs' w = rw w.side_is (iterate_below t n p w.steps start ls)

  -- so there is room for one more
  fewer : (side : ℕ) (order' xs' : List ℕ) (x : ℕ) → LaysTo t n start order xs side order' xs' → 0 < x → count_by (λ y. y == 0) (set xs' side x) + 1 ≡ count_by (λ y. y == 0) xs'
  fewer side order' xs' x w positive =
      let inside : side < length xs' = omega (arith, side_below side order' xs' w, w.as_many) in
      let sum = sum_by-set (λ y. cond (y == 0) 1 0) xs' side x 0 inside in
      let was : (get_or xs' side 0 == 0) ≡ true = eq-eqb (get_or xs' side 0) 0 (unlaid side order' xs' w) in
      let now : (x == 0) ≡ false = ne_eqb x 0 (λ e. omega (arith, positive, e)) in
      omega (arith, rw (was, now) at sum)

  -- and the order has room for it
  pub room_left : (side : ℕ) (order' xs' : List ℕ) → LaysTo t n start order xs side order' xs' → length order' < n
  room_left side order' xs' w = omega (arith, fewer side order' xs' 1 w (omega arith), w.room)

  -- the x that is due
  pub due : (side : ℕ) (order' xs' : List ℕ) → (w : LaysTo t n start order xs side order' xs') → 20 * (length order' + 1 + count_below (is_least_for t n) start) ≡ x_in_orbit t n start w.steps
  due side order' xs' w =
      let len : length order' ≡ length (order_below t n start) + w.steps =
      ap (λ (ys : List ℕ). length ys) w.order_is ∙ length-append order (sides_along t w.steps start)
      ∙ ap₂ (λ (a b : ℕ). a + b) (ap (λ (ys : List ℕ). length ys) h.order_is) (length-along t w.steps start) in
      omega (arith, len)

  -- a side is laid: what holds whether the orbit ends with it or not
  record Laid (steps : ℕ) (order' xs' : List ℕ) : Type 0 where
    order_is : order' ≡ order ++ sides_along t (suc steps) start
    as_many : length xs' ≡ n
    room : count_by (λ x. x == 0) xs' + length order' ≡ n
    placed : (j : ℕ) → j < suc steps → entry xs' (iterate t j start) ≡ x_in_orbit t n start j
    others : (u : ℕ) → ((j : ℕ) → j < suc steps → iterate t j start ≢ u) → entry xs' u ≡ entry xs u

  lay_one : (side : ℕ) (order' xs' : List ℕ) (x : ℕ) → (w : LaysTo t n start order xs side order' xs') → x ≡ 20 * (length order' + 1 + count_below (is_least_for t n) start) → Laid w.steps (order' ++ side ∷ []) (set xs' side x)
  lay_one side order' xs' x w is =
      let inside : side < length xs' = omega (arith, side_below side order' xs' w, w.as_many) in
      let due_is : x ≡ x_in_orbit t n start w.steps = is ∙ due side order' xs' w in
      let positive : 0 < x = omega (arith, is) in
      record {
        order_is =
            ap₂ (λ (ys : List ℕ) (s : ℕ). ys ++ s ∷ []) w.order_is w.side_is
            ∙ append_assoc order (sides_along t w.steps start) (iterate t w.steps start ∷ [])
            ∙ ap (λ (ys : List ℕ). order ++ ys) (sym (along_last t w.steps start));
        as_many = length-set xs' side x ∙ w.as_many;
        room = omega (arith, fewer side order' xs' x w positive, length_push order' side, w.room);
        placed = λ j b.
            elim (cases_lt j w.steps) [
              | inl c ↦
                  let ne : iterate t j start ≢ side = λ e. iterates_apart t n p start j w.steps ls w.apart c (e ∙ w.side_is) in
                  rw get_or-set_other (w.placed j c)
              | inr c ↦
                  let e : j ≡ w.steps = omega (arith, b, c) in
                  let at : iterate t j start ≡ side = ap (λ (k : ℕ). iterate t k start) e ∙ sym w.side_is in
                  rw at (rw get_or-set_same (rw e due_is))
            ];
        others = λ u differ.
            let ne : u ≢ side = λ e. differ w.steps (omega arith) (sym w.side_is ∙ sym e) in
            rw get_or-set_other (w.others u (λ j c. differ j (omega (arith, c))));
      }

  -- a side whose next isn't the first one is laid, and the next is due
  pub lays_on : (side next : ℕ) (order' xs' : List ℕ) (x : ℕ) → LaysTo t n start order xs side order' xs' → x ≡ 20 * (length order' + 1 + count_below (is_least_for t n) start) → next ≡ t side → next ≢ start → LaysTo t n start order xs next (order' ++ side ∷ []) (set xs' side x)
  lays_on side next order' xs' x w is step differ =
      let l = lay_one side order' xs' x w is in
      let there : next ≡ t (iterate t w.steps start) = step ∙ ap t w.side_is in
      record {
        steps = suc w.steps;
        side_is = there ∙ sym (iterate-last t w.steps start);
        apart = apart_next t w.steps start w.apart (λ e. differ (there ∙ e));
        order_is = l.order_is;
        as_many = l.as_many;
        room = l.room;
        placed = l.placed;
        others = l.others;
      }

  -- with a side whose next is the first one the orbit is laid
  pub lays_end : (side next : ℕ) (order' xs' : List ℕ) (x : ℕ) → LaysTo t n start order xs side order' xs' → x ≡ 20 * (length order' + 1 + count_below (is_least_for t n) start) → next ≡ t side → next ≡ start → LaysOrbit t n start order xs side (order' ++ side ∷ []) (set xs' side x)
  lays_end side next order' xs' x w is step same =
      let l = lay_one side order' xs' x w is in
      let size : orbit_size t n start ≡ suc w.steps = size_is t n p start w.steps ls w.apart (ap t (sym w.side_is) ∙ sym step ∙ same) in
      record {
        order_is = l.order_is ∙ ap (λ (k : ℕ). order ++ sides_along t k start) (sym size);
        room = l.room;
        placed = λ i b. l.placed i (omega (arith, b, size));
        others = λ u differ. l.others u (λ j b. differ j);
        last_is = w.side_is ∙ ap (λ (k : ℕ). iterate t (pred k) start) (sym size);
      }

-- ---- all vertices
-- before a least side the orbits before it are laid out, and no side of its own
pub laid_to : (t : ℕ → ℕ) (n : ℕ) → IsPermutation t n → (start : ℕ) (order xs lasts : List ℕ) → start < n → is_least_for t n start ≡ true → AreLaidBelow t n start order xs lasts → IsLaidTo t n start order xs
laid_to t n p start order xs lasts l least h = record {
  as_many = h.as_many;
  order_is = h.order_is;
  room = h.room;
  free = λ i. h.free (iterate t i start) (iterate_below t n p i start l) (λ q j b. orbits_apart t n p q start j i (omega (arith, b, l)) l least b);
}

-- a side that isn't the least of its orbit adds nothing
pub laid_stay : (t : ℕ → ℕ) (n start : ℕ) (order xs lasts : List ℕ) → is_least_for t n start ≡ false → AreLaidBelow t n start order xs lasts → AreLaidBelow t n (start + 1) order xs lasts
laid_stay t n start order xs lasts other h =
    let before : (q : ℕ) → q < start + 1 → is_least_for t n q ≡ true → q < start =
    λ q b e. elim (cases_lt q start) [ inl c ↦ c | inr c ↦ let at : q ≡ start = omega (arith, b, c) in absurd (false≢true (sym other ∙ ap (is_least_for t n) (sym at) ∙ e)) ] in
    record {
      as_many = h.as_many;
      as_many_lasts = h.as_many_lasts;
      order_is = rw (add-one, order_fails t n start other) h.order_is;
      room = h.room;
      placed = λ q i b e. h.placed q i (before q b e) e;
      free = λ u l differ. h.free u l (λ q i b. differ q i (omega (arith, b)));
      lasts_are = λ q b e. h.lasts_are q (before q b e) e;
    }

-- with the orbit of a least side one orbit more is laid out
pub laid_more : (t : ℕ → ℕ) (n : ℕ) → IsPermutation t n → (start : ℕ) (order xs lasts : List ℕ) (last : ℕ) (order' xs' : List ℕ) → start < n → is_least_for t n start ≡ true → AreLaidBelow t n start order xs lasts → length xs' ≡ length xs → LaysOrbit t n start order xs last order' xs' → AreLaidBelow t n (start + 1) order' xs' (set lasts start last)
laid_more t n p start order xs lasts last order' xs' l least h same w =
    let inside : start < length lasts = omega (arith, l, h.as_many_lasts) in
    record {
      as_many = same ∙ h.as_many;
      as_many_lasts = length-set lasts start last ∙ h.as_many_lasts;
      order_is = rw (add-one, order_passes t n start least) (w.order_is ∙ ap (λ (ys : List ℕ). ys ++ sides_along t (orbit_size t n start) start) h.order_is);
      room = w.room;
      placed = λ q i b e c.
          elim (cases_lt q start) [
            | inl d ↦ w.others (iterate t i q) (λ j f. orbits_apart t n p q start i j (omega (arith, d, l)) l least d (sym f)) ∙ h.placed q i d e c
            | inr d ↦
                let at : q ≡ start = omega (arith, b, d) in
                rw at (w.placed i (rw at at c))
          ];
      free = λ u m differ. w.others u (λ i. differ start i (omega arith)) ∙ h.free u m (λ q i b. differ q i (omega (arith, b)));
      lasts_are = λ q b e.
          elim (cases_lt q start) [
            | inl d ↦ let ne : q ≢ start = λ f. omega (arith, d, f) in rw get_or-set_other (h.lasts_are q d e)
            | inr d ↦ let at : q ≡ start = omega (arith, b, d) in rw at (rw get_or-set_same w.last_is)
          ];
    }

-- ---- how many vertices there are
-- a number that passes is counted, and one that fails isn't
pub counted_more : (test : ℕ → Bool) (s v : ℕ) → test s ≡ true → v ≡ count_below test s → v + 1 ≡ count_below test (s + 1)
counted_more test s v e h = rw (add-one s, e) (ap (λ (k : ℕ). k + 1) h)

pub counted_stay : (test : ℕ → Bool) (s v : ℕ) → test s ≡ false → v ≡ count_below test s → v ≡ count_below test (s + 1)
counted_stay test s v e h = rw (add-one s, e) (omega (arith, h))
