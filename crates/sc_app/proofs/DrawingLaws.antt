-- A labelled fatgraph has one drawing.
use Rattle.std.proofs.Common.{◌≡◌, ◌≢◌, ℕ, zero, suc, pred, ◌+◌, ◌-◌, ◌*◌, ◌<◌, ◌≤◌, nat_lt, not, ◌==◌, Bool, true, false, inl, inr, List, [], ◌∷◌, ◌++◌, length, refl, ap, ap₂, sym, ◌∙◌, subst, arith}
use Rattle.std.specs.Fn.{iterate}
use Rattle.std.specs.List.{flat_map}
use Rattle.std.proofs.lemmas.Bool.{cases_Bool, cases_eq, cases_lt, and_parts, false≢true}
use Rattle.std.proofs.lemmas.List.Concat.{flat_map-append}
use Rattle.sc_algebra.specs.Sums.{count_below}
use Rattle.sc_algebra.specs.Permutations.{IsPermutation, is_least_for}
use Rattle.sc_algebra.proofs.Sums.{count-all, count-append, count-none, count-le}
use Rattle.sc_algebra.proofs.Cycles.{iterate-add, iterate-last, least_from_all}
use Rattle.sc_words.specs.Spelling.{letter_byte}
use Rattle.sc_theory.specs.Chains.{Chain, letter}
use Rattle.sc_theory.specs.Fatgraphs.{Sides, IsFatgraph, label, mate, turn, vertices}
use Rattle.sc_fatgraph.specs.inside.Orbits.{IsRibbon}
use Rattle.sc_fatgraph.proofs.MarkedOrbits.{turn_permutes}
use Rattle.sc_shape.specs.Classes.{entry}
use Rattle.sc_shape.specs.Shapes.{list_below}
use Rattle.sc_shape.proofs.ListsBelow.{list_passes, list_fails}
use Rattle.sc_shape.proofs.OrbitLeasts.{orbit_returns, iterate_below}
use Rattle.sc_svg.specs.Layout.{is_apart, orbit_size, order_below, AreLaidOut}
use Rattle.sc_svg.specs.Drawings.{joined, head_line, vertex_line, edge_line, letter_line, last_line, last_side, base, drawing}
use Rattle.sc_svg.proofs.Orbits.{orbits_apart, apart_next, apart_few, iterates_apart, order_inside}
use Rattle.sc_app.specs.Svg.{IsPicture}
use Rattle.sc_app.proofs.FirstPlaces.{none_at_all, chosen}

-- ---- which sides an orbit has

apart_down : (t : ℕ → ℕ) (i s k : ℕ) → is_apart t i s ≡ true → k ≤ i → is_apart t k s ≡ true
apart_down t zero s k a l = let e : k ≡ 0 = omega (arith, l) in rw e refl
apart_down t (suc i) s k a l =
    elim (cases_lt k (suc i)) [
      | inl b ↦ apart_down t i s k (and_parts (is_apart t i s) (not (iterate t (suc i) s == s)) a).0 (omega (arith, b))
      | inr b ↦ let e : k ≡ suc i = omega (arith, l, b) in rw e a
    ]

-- as many steps as lead to no side twice are fewer than the orbit has sides
within_orbit : (t : ℕ → ℕ) (n s k : ℕ) → k < n → is_apart t k s ≡ true → k < orbit_size t n s
within_orbit t n s k l a =
    let d : ℕ = n - suc k in
    let split : n ≡ suc k + d = omega (arith, l) in
    let all : count_below (λ j. is_apart t j s) (suc k) ≡ suc k = count-all (λ j. is_apart t j s) (suc k) (λ j b. apart_down t k s j a (omega (arith, b))) in
    let size : orbit_size t n s ≡ count_below (λ j. is_apart t j s) (suc k) + count_below (λ j. is_apart t (suc k + j) s) d =
    ap (count_below (λ j. is_apart t j s)) split ∙ count-append (λ j. is_apart t j s) (suc k) d in
    omega (arith, size, all)

-- fewer steps than the orbit has sides lead to no side twice
apart_within : (t : ℕ → ℕ) (n s k : ℕ) → k < orbit_size t n s → is_apart t k s ≡ true
apart_within t n s k l =
    elim (cases_Bool (is_apart t k s)) [
      | inl e ↦ e
      | inr e ↦ absurd (few e)
    ]
  where
    few : is_apart t k s ≡ false → ⊥
    few e = elim (cases_lt n k) [
      | inl b ↦ omega (arith, l, b, count-le (λ j. is_apart t j s) n)
      | inr b ↦
          let d : ℕ = n - k in
          let split : n ≡ k + d = omega (arith, b) in
          let rest : count_below (λ j. is_apart t (k + j) s) d ≡ 0 =
          count-none (λ j. is_apart t (k + j) s) d (λ j c. elim (cases_Bool (is_apart t (k + j) s)) [
            | inl f ↦ absurd (false≢true (sym e ∙ apart_down t (k + j) s k f (omega arith)))
            | inr f ↦ f
          ]) in
          let size : orbit_size t n s ≡ count_below (λ j. is_apart t j s) k + count_below (λ j. is_apart t (k + j) s) d =
          ap (count_below (λ j. is_apart t j s)) split ∙ count-append (λ j. is_apart t j s) k d in
          omega (arith, size, rest, l, count-le (λ j. is_apart t j s) k)
    ]

-- the first steps that lead to a side lead to no side twice
first_apart : (t : ℕ → ℕ) (r s k : ℕ) → iterate t k r ≡ s → ((j : ℕ) → j < k → iterate t j r ≢ s) → (m : ℕ) → m ≤ k → is_apart t m r ≡ true
first_apart t r s k at before zero l = refl
first_apart t r s k at before (suc m) l =
    let d : ℕ = k - suc m in
    let split : d + suc m ≡ k = omega (arith, l) in
    apart_next t m r (first_apart t r s k at before m (omega (arith, l)))
    (λ e.
    let home : iterate t (suc m) r ≡ r = iterate-last t m r ∙ e in
    let there : iterate t d r ≡ s = ap (iterate t d) (sym home) ∙ sym (iterate-add t d (suc m) r) ∙ ap (λ (j : ℕ). iterate t j r) split ∙ at in
    before d (omega (arith, split)) there)

-- each number lies on the orbit of a least one
module _ (t : ℕ → ℕ) (n : ℕ) (p : IsPermutation t n) where
  covered : (s : ℕ) → s < n → ((r i : ℕ) → r < n → is_least_for t n r ≡ true → i < orbit_size t n r → iterate t i r ≡ s → ⊥) → ⊥
  covered s b none = none_at_all (λ r. (k : ℕ) × (iterate t k r ≡ s)) first s (0, refl)
    where
      first : (r : ℕ) → (k : ℕ) × (iterate t k r ≡ s) → ((q : ℕ) → q < r → ¬ ((k : ℕ) × (iterate t k q ≡ s))) → ⊥
      first r here before =
          let small : r ≤ s = elim (cases_lt s r) [ inl less ↦ absurd (before s less (0, refl)) | inr others ↦ omega (arith, others) ] in
          let lr : r < n = omega (arith, small, b) in
          let least : is_least_for t n r ≡ true =
          least_from_all t n r (λ k. elim (cases_lt (iterate t k r) r) [
            | inl less ↦
                let back = orbit_returns t n p k r lr in
                let there : iterate t (here.0 + back.0) (iterate t k r) ≡ s =
                iterate-add t here.0 back.0 (iterate t k r) ∙ ap (iterate t here.0) back.1 ∙ here.1 in
                absurd (before (iterate t k r) less (here.0 + back.0, there))
            | inr others ↦ omega (arith, others)
          ]) in
          none_at_all (λ k. iterate t k r ≡ s)
          (λ k at earlier.
          let apart : is_apart t k r ≡ true = first_apart t r s k at (λ j l. earlier j l) k (omega arith) in
          none r k lr least (within_orbit t n r k (apart_few t n p r k lr apart) apart) at) here.0 here.1

  -- two places on orbits of least numbers that have the same number are the same place
  one_place : (r r' i i' : ℕ) → r < n → r' < n → is_least_for t n r ≡ true → is_least_for t n r' ≡ true → i < orbit_size t n r → i' < orbit_size t n r' → iterate t i r ≡ iterate t i' r' → (r ≡ r') × (i ≡ i')
  one_place r r' i i' lr lr' least least' inside inside' e =
      let same : r ≡ r' =
      elim (cases_lt r r') [
        | inl less ↦ absurd (orbits_apart t n p r r' i i' lr lr' least' less e)
        | inr others ↦ elim (cases_lt r' r) [
          | inl less ↦ absurd (orbits_apart t n p r' r i' i lr' lr least less (sym e))
          | inr more ↦ omega (arith, others, more)
        ]
      ] in
      let at : iterate t i r ≡ iterate t i' r = e ∙ ap (iterate t i') (sym same) in
      let few : i' < orbit_size t n r = subst (λ (q : ℕ). i' < orbit_size t n q) (sym same) inside' in (
        same,
        elim (cases_lt i i') [
          | inl less ↦ absurd (iterates_apart t n p r i i' lr (apart_within t n r i' few) less at)
          | inr others ↦ elim (cases_lt i' i) [
            | inl less ↦ absurd (iterates_apart t n p r i' i lr (apart_within t n r i inside) less (sym at))
            | inr more ↦ omega (arith, others, more)
          ]
        ],
      )

  -- ---- where the sides stand

  same_places : (x x' : ℕ → ℕ) → AreLaidOut t n x → AreLaidOut t n x' → (s : ℕ) → s < n → x s ≡ x' s
  same_places x x' a a' s b = elim (cases_eq (x s) (x' s)) [
    | inl e ↦ e
    | inr ne ↦
        absurd (covered s b (λ r i lr least inside at. ne (ap x (sym at) ∙ a r i lr least inside ∙ sym (a' r i lr least inside) ∙ ap x' at)))
  ]

  abbrev Stands : ℕ → ℕ → Type 0
  Stands s v = (r i : ℕ) × (r < n) × (is_least_for t n r ≡ true) × (i < orbit_size t n r) × (iterate t i r ≡ s) × (v ≡ 20 * (length (order_below t n r) + i + 1 + count_below (is_least_for t n) r))

  some_places : ((x : ℕ → ℕ) → ¬ AreLaidOut t n x) → ⊥
  some_places none =
      chosen Stands n (λ s b free. covered s b (λ r i lr least inside at. free (20 * (length (order_below t n r) + i + 1 + count_below (is_least_for t n) r)) (r, i, lr, least, inside, at, refl)))
      (λ x stands. none x (λ r i lr least inside. laid x stands r i lr least inside))
    where
      laid : (x : ℕ → ℕ) → ((s : ℕ) → s < n → Stands s (x s)) → AreLaidOut t n x
      laid x stands r i lr least inside =
          let w = stands (iterate t i r) (iterate_below t n p i r lr) in
          let same = one_place w.0 r w.1 i w.2 lr w.3 least w.4 inside w.5 in
          w.6 ∙ ap₂ (λ (q j : ℕ). 20 * (length (order_below t n q) + j + 1 + count_below (is_least_for t n) q)) same.0 same.1

-- ---- the drawings of the same sides

lines-congr : (f f' : ℕ → List ℕ) (test : ℕ → Bool) (n : ℕ) → ((s : ℕ) → s < n → f s ≡ f' s) → flat_map f (list_below test n) ≡ flat_map f' (list_below test n)
lines-congr f f' test zero same = refl
lines-congr f f' test (suc n) same =
    let ih = lines-congr f f' test n (λ s l. same s (omega (arith, l))) in
    elim (cases_Bool (test n)) [
      | inl e ↦
          rw (list_passes test n e, flat_map-append f (list_below test n) (n ∷ []), flat_map-append f' (list_below test n) (n ∷ []))
          (ap₂ (λ (xs ys : List ℕ). xs ++ ys) ih (ap (λ (xs : List ℕ). xs ++ []) (same n (omega arith))))
      | inr e ↦ rw (list_fails test n e) ih
    ]

lines_of_list : (f f' : ℕ → List ℕ) (xs : List ℕ) → ((k : ℕ) → k < length xs → f (entry xs k) ≡ f' (entry xs k)) → flat_map f xs ≡ flat_map f' xs
lines_of_list f f' [] same = refl
lines_of_list f f' (x ∷ xs) same = ap₂ (λ (a b : List ℕ). a ++ b) (same 0 (omega arith)) (lines_of_list f f' xs (λ k l. same (suc k) (omega (arith, l))))

ribbon : (c : Chain) (n : ℕ) (g : Sides) → IsFatgraph c n g → IsRibbon g
ribbon c n g h = record { mates = h.mates; nexts = h.nexts; back = h.back; apart = h.apart }

module _ (c : Chain) (copies : ℕ) (g : Sides) (h : IsFatgraph c copies g) where
  permutes : IsPermutation (turn g) (length g)
  permutes = turn_permutes g (ribbon c copies g h)

  same_drawing : (x x' : ℕ → ℕ) → ((s : ℕ) → s < length g → x s ≡ x' s) → drawing c g x ≡ drawing c g x'
  same_drawing x x' same =
      let n : ℕ = length g in
      let t : ℕ → ℕ = turn g in
      let vs : flat_map (λ r. vertex_line (x r) (x (last_side t n r)) (base g)) (list_below (is_least_for t n) n) ≡ flat_map (λ r. vertex_line (x' r) (x' (last_side t n r)) (base g)) (list_below (is_least_for t n) n) =
      lines-congr (λ r. vertex_line (x r) (x (last_side t n r)) (base g)) (λ r. vertex_line (x' r) (x' (last_side t n r)) (base g)) (is_least_for t n) n
      (λ r l. ap₂ (λ (a b : ℕ). vertex_line a b (base g)) (same r l) (same (last_side t n r) (iterate_below t n permutes (pred (orbit_size t n r)) r l))) in
      let es : flat_map (λ s. edge_line (x s) (x (mate g s)) (base g)) (list_below (λ s. nat_lt s (mate g s)) n) ≡ flat_map (λ s. edge_line (x' s) (x' (mate g s)) (base g)) (list_below (λ s. nat_lt s (mate g s)) n) =
      lines-congr (λ s. edge_line (x s) (x (mate g s)) (base g)) (λ s. edge_line (x' s) (x' (mate g s)) (base g)) (λ s. nat_lt s (mate g s)) n
      (λ s l. ap₂ (λ (a b : ℕ). edge_line a b (base g)) (same s l) (same (mate g s) (h.mates s l))) in
      let ls : flat_map (λ s. letter_line (x s) (base g + 16) (letter_byte (letter c (label g s)))) (order_below t n n) ≡ flat_map (λ s. letter_line (x' s) (base g + 16) (letter_byte (letter c (label g s)))) (order_below t n n) =
      lines_of_list (λ s. letter_line (x s) (base g + 16) (letter_byte (letter c (label g s)))) (λ s. letter_line (x' s) (base g + 16) (letter_byte (letter c (label g s)))) (order_below t n n)
      (λ k l.
      let s : ℕ = entry (order_below t n n) k in
      ap (λ (a : ℕ). letter_line a (base g + 16) (letter_byte (letter c (label g s)))) (same s (order_inside t n permutes n (omega arith) k l))) in
      (λ i. joined (head_line (20 * (n + vertices g) + 20) (base g + 24) ∷ vs i ∷ es i ∷ ls i ∷ last_line ∷ []))

  -- a labelled fatgraph has no two drawings
  pub one_drawing : (text text' : List ℕ) → IsPicture c copies g text → IsPicture c copies g text' → text ≡ text'
  one_drawing text text' a b = a.text ∙ same_drawing a.x b.x (same_places (turn g) (length g) permutes a.x b.x a.laid_out b.laid_out) ∙ sym b.text

  -- and it isn't without one
  pub some_drawing : ((text : List ℕ) → ¬ IsPicture c copies g text) → ⊥
  some_drawing none = some_places (turn g) (length g) permutes (λ x laid. none (drawing c g x) (record { x = x; laid_out = laid; text = refl }))
