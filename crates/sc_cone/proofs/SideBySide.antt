-- Labelled fatgraphs side by side: their sides, vertices and costs are added.
use Rattle.std.proofs.Common.{◌≡◌, ◌≢◌, ℕ, zero, suc, ◌+◌, ◌-◌, ◌*◌, ◌/◌, ◌<◌, ◌≤◌, Bool, true, false, IsTrue, ◌==◌, [], length, get_or, pos, ◌+ℤ◌, ◌-ℤ◌, ◌*ℤ◌, inl, inr, arith, refl, sym, ap, ap₂, subst, ◌∙◌}
use Rattle.std.proofs.lemmas.Int.{ints}
use Rattle.std.proofs.lemmas.Bool.{cases_lt}
use Rattle.std.proofs.lemmas.List.{length-append, length-map, get_or_append_left, get_or-append-add, get_or-map}
use Rattle.std.specs.Fn.{iterate}
use Rattle.sc_algebra.specs.Sums.{count_below}
use Rattle.sc_algebra.specs.Permutations.{IsPermutation, is_least_for}
use Rattle.sc_algebra.proofs.Sums.{count-congr, count-append}
use Rattle.sc_algebra.proofs.Permutations.{compose, involution, parity}
use Rattle.sc_algebra.proofs.Cycles.{least_means_least, least_from_all}
use Rattle.sc_theory.specs.declared.Side.{Side}
use Rattle.sc_theory.specs.Words.{inverse_letter}
use Rattle.sc_theory.specs.Chains.{Chain, positions, letter, succ}
use Rattle.sc_theory.specs.Fatgraphs.{Sides, no_side, label, mate, next, turn, sides_at, vertices, edges, cost, IsFatgraph}
use Rattle.sc_cone.specs.Unions.{shifted, joined, copies_of, together}
use Rattle.sc_cone.proofs.SameWords.{Same, succ_same}

-- ---- what a labelled fatgraph is beside its copies and counts
pub record IsRibbon (c : Chain) (g : Sides) : Type 0 where
  pub labels : (s : ℕ) → s < length g → label g s < positions c
  pub mates : (s : ℕ) → s < length g → mate g s < length g
  pub nexts : (s : ℕ) → s < length g → next g s < length g
  pub back : (s : ℕ) → s < length g → mate g (mate g s) ≡ s
  pub moves : (s : ℕ) → s < length g → mate g s ≢ s
  pub inverse : (s : ℕ) → s < length g → letter c (label g (mate g s)) ≡ inverse_letter (letter c (label g s))
  pub apart : (s t : ℕ) → s < length g → t < length g → next g s ≡ next g t → s ≡ t
  pub follows : (s : ℕ) → s < length g → label g (next g s) ≡ succ c (label g s)

pub ribbon_of : (c : Chain) (n : ℕ) (g : Sides) → IsFatgraph c n g → IsRibbon c g
ribbon_of c n g is = record {
  labels = is.labels;
  mates = is.mates;
  nexts = is.nexts;
  back = is.back;
  moves = is.moves;
  inverse = is.inverse;
  apart = is.apart;
  follows = is.follows;
}

-- over chains with the same words the ribbons are the same
pub ribbon_same : (c d : Chain) (g : Sides) → Same c d → IsRibbon c g → IsRibbon d g
ribbon_same c d g same is = record {
  labels = λ s inside. subst (λ (n : ℕ). label g s < n) same.all (is.labels s inside);
  mates = is.mates;
  nexts = is.nexts;
  back = is.back;
  moves = is.moves;
  inverse = λ s inside. sym (same.letter (label g (mate g s))) ∙ is.inverse s inside ∙ ap inverse_letter (same.letter (label g s));
  apart = is.apart;
  follows = λ s inside. is.follows s inside ∙ succ_same c d same (label g s);
}

no_sides : (c : Chain) → IsRibbon c []
no_sides c = record {
  labels = λ s inside. absurd (omega arith);
  mates = λ s inside. absurd (omega arith);
  nexts = λ s inside. absurd (omega arith);
  back = λ s inside. absurd (omega arith);
  moves = λ s inside. absurd (omega arith);
  inverse = λ s inside. absurd (omega arith);
  apart = λ s t inside there. absurd (omega arith);
  follows = λ s inside. absurd (omega arith);
}

turn_permutes : (c : Chain) (g : Sides) → IsRibbon c g → IsPermutation (turn g) (length g)
turn_permutes c g is = compose (involution (mate g) (length g) is.mates is.back) (record { into = is.nexts; apart = is.apart })

even : (c : Chain) (g : Sides) → IsRibbon c g → length g ≡ 2 * edges g
even c g is = halves _ (length g) (parity (mate g) (length g) is.mates is.back is.moves)
  where
    halves : (m n : ℕ) → m * 2 ≡ n → n ≡ 2 * (n / 2)
    halves m n e = omega arith

-- ---- the sides of two
same_bool : (a b : Bool) → (IsTrue a → IsTrue b) → (IsTrue b → IsTrue a) → a ≡ b
same_bool true true to from = refl
same_bool true false to from = sym (to refl)
same_bool false true to from = from refl
same_bool false false to from = refl

pub length_joined : (g h : Sides) → length (joined g h) ≡ length g + length h
length_joined g h =
    length-append g (shifted (length g) h) ∙ ap (λ (m : ℕ). length g + m) (length-map h (λ (s : Side). record { label = s.label; mate = length g + s.mate; next = length g + s.next }))

module _ (g h : Sides) where
  side_left : (s : ℕ) → s < length g → get_or (joined g h) s no_side ≡ get_or g s no_side
  side_left s inside = get_or_append_left g (shifted (length g) h) no_side s inside

  side_right : (s : ℕ) → s < length h → get_or (joined g h) (length g + s) no_side ≡ record { label = label h s; mate = length g + mate h s; next = length g + next h s }
  side_right s inside =
      get_or-append-add g (shifted (length g) h) s no_side
      ∙ get_or-map (λ (x : Side). record { label = x.label; mate = length g + x.mate; next = length g + x.next }) h s no_side no_side inside

  label_left : (s : ℕ) → s < length g → label (joined g h) s ≡ label g s
  label_left s inside = ap (λ (x : Side). x.label) (side_left s inside)

  mate_left : (s : ℕ) → s < length g → mate (joined g h) s ≡ mate g s
  mate_left s inside = ap (λ (x : Side). x.mate) (side_left s inside)

  next_left : (s : ℕ) → s < length g → next (joined g h) s ≡ next g s
  next_left s inside = ap (λ (x : Side). x.next) (side_left s inside)

  label_right : (s : ℕ) → s < length h → label (joined g h) (length g + s) ≡ label h s
  label_right s inside = ap (λ (x : Side). x.label) (side_right s inside)

  mate_right : (s : ℕ) → s < length h → mate (joined g h) (length g + s) ≡ length g + mate h s
  mate_right s inside = ap (λ (x : Side). x.mate) (side_right s inside)

  next_right : (s : ℕ) → s < length h → next (joined g h) (length g + s) ≡ length g + next h s
  next_right s inside = ap (λ (x : Side). x.next) (side_right s inside)

  -- what holds of the sides of each holds of all
  by_halves : (P : ℕ → Type 0) → ((s : ℕ) → s < length g → P s) → ((s : ℕ) → s < length h → P (length g + s)) → (s : ℕ) → s < length (joined g h) → P s
  by_halves P of_g of_h s inside =
      elim (cases_lt s (length g)) [
        | inl here ↦ of_g s here
        | inr over ↦
            let k : ℕ = s - length g in
            let e : length g + k ≡ s = omega arith in
            subst P e (of_h k (omega (arith, length_joined g h)))
      ]

  -- as many sides have a label as in both
  pub sides_joined : (i : ℕ) → sides_at (joined g h) i ≡ sides_at g i + sides_at h i
  sides_joined i =
      ap (count_below (λ s. label (joined g h) s == i)) (length_joined g h)
      ∙ count-append (λ s. label (joined g h) s == i) (length g) (length h)
      ∙ ap₂ (λ (x y : ℕ). x + y)
      (count-congr (λ s. label (joined g h) s == i) (λ s. label g s == i) (length g) (λ s inside. ap (λ (x : ℕ). x == i) (label_left s inside)))
      (count-congr (λ s. label (joined g h) (length g + s) == i) (λ s. label h s == i) (length h) (λ s inside. ap (λ (x : ℕ). x == i) (label_right s inside)))

module _ (c : Chain) (g h : Sides) (a : IsRibbon c g) (b : IsRibbon c h) where
  -- two ribbons side by side are one, with the vertices and the costs of both
  pub ribbon_joined : IsRibbon c (joined g h)
  ribbon_joined =
      let j : Sides = joined g h in
      record {
        labels = by_halves g h (λ s. label j s < positions c)
            (λ s inside. subst (λ (x : ℕ). x < positions c) (sym (label_left g h s inside)) (a.labels s inside))
            (λ s inside. subst (λ (x : ℕ). x < positions c) (sym (label_right g h s inside)) (b.labels s inside));
        mates = by_halves g h (λ s. mate j s < length j)
            (λ s inside. omega (arith, mate_left g h s inside, a.mates s inside, length_joined g h))
            (λ s inside. omega (arith, mate_right g h s inside, b.mates s inside, length_joined g h));
        nexts = by_halves g h (λ s. next j s < length j)
            (λ s inside. omega (arith, next_left g h s inside, a.nexts s inside, length_joined g h))
            (λ s inside. omega (arith, next_right g h s inside, b.nexts s inside, length_joined g h));
        back = by_halves g h (λ s. mate j (mate j s) ≡ s)
            (λ s inside. ap (mate j) (mate_left g h s inside) ∙ mate_left g h (mate g s) (a.mates s inside) ∙ a.back s inside)
            (λ s inside. ap (mate j) (mate_right g h s inside) ∙ mate_right g h (mate h s) (b.mates s inside) ∙ ap (λ (x : ℕ). length g + x) (b.back s inside));
        moves = by_halves g h (λ s. mate j s ≢ s)
            (λ s inside stays. a.moves s inside (sym (mate_left g h s inside) ∙ stays))
            (λ s inside stays. b.moves s inside (omega (arith, mate_right g h s inside, stays)));
        inverse = by_halves g h (λ s. letter c (label j (mate j s)) ≡ inverse_letter (letter c (label j s)))
            (λ s inside.
            ap (λ (x : ℕ). letter c (label j x)) (mate_left g h s inside)
            ∙ ap (letter c) (label_left g h (mate g s) (a.mates s inside))
            ∙ a.inverse s inside
            ∙ ap (λ (x : ℕ). inverse_letter (letter c x)) (sym (label_left g h s inside)))
            (λ s inside.
            ap (λ (x : ℕ). letter c (label j x)) (mate_right g h s inside)
            ∙ ap (letter c) (label_right g h (mate h s) (b.mates s inside))
            ∙ b.inverse s inside
            ∙ ap (λ (x : ℕ). inverse_letter (letter c x)) (sym (label_right g h s inside)));
        apart = λ s t inside there same.
            by_halves g h (λ s. (t : ℕ) → t < length j → next j s ≡ next j t → s ≡ t)
            (λ s s_in. by_halves g h (λ t. next j s ≡ next j t → s ≡ t)
            (λ t t_in e. a.apart s t s_in t_in (sym (next_left g h s s_in) ∙ e ∙ next_left g h t t_in))
            (λ t t_in e. absurd (omega (arith, next_left g h s s_in, next_right g h t t_in, e, a.nexts s s_in))))
            (λ s s_in. by_halves g h (λ t. next j (length g + s) ≡ next j t → length g + s ≡ t)
            (λ t t_in e. absurd (omega (arith, next_right g h s s_in, next_left g h t t_in, e, a.nexts t t_in)))
            (λ t t_in e. ap (λ (x : ℕ). length g + x) (b.apart s t s_in t_in (omega (arith, next_right g h s s_in, next_right g h t t_in, e)))))
            s inside t there same;
        follows = by_halves g h (λ s. label j (next j s) ≡ succ c (label j s))
            (λ s inside. ap (label j) (next_left g h s inside) ∙ label_left g h (next g s) (a.nexts s inside) ∙ a.follows s inside ∙ ap (succ c) (sym (label_left g h s inside)))
            (λ s inside. ap (label j) (next_right g h s inside) ∙ label_right g h (next h s) (b.nexts s inside) ∙ b.follows s inside ∙ ap (succ c) (sym (label_right g h s inside)));
      }

  -- ---- vertices
  turn_left : (s : ℕ) → s < length g → turn (joined g h) s ≡ turn g s
  turn_left s inside = ap (mate (joined g h)) (next_left g h s inside) ∙ mate_left g h (next g s) (a.nexts s inside)

  turn_right : (s : ℕ) → s < length h → turn (joined g h) (length g + s) ≡ length g + turn h s
  turn_right s inside = ap (mate (joined g h)) (next_right g h s inside) ∙ mate_right g h (next h s) (b.nexts s inside)

  iterate_left : (k s : ℕ) → s < length g → iterate (turn (joined g h)) k s ≡ iterate (turn g) k s
  iterate_left zero s inside = refl
  iterate_left (suc k) s inside = ap (iterate (turn (joined g h)) k) (turn_left s inside) ∙ iterate_left k (turn g s) ((turn_permutes c g a).into s inside)

  iterate_right : (k s : ℕ) → s < length h → iterate (turn (joined g h)) k (length g + s) ≡ length g + iterate (turn h) k s
  iterate_right zero s inside = refl
  iterate_right (suc k) s inside = ap (iterate (turn (joined g h)) k) (turn_right s inside) ∙ iterate_right k (turn h s) ((turn_permutes c h b).into s inside)

  least_left : (s : ℕ) → s < length g → is_least_for (turn (joined g h)) (length (joined g h)) s ≡ is_least_for (turn g) (length g) s
  least_left s inside =
      let all = turn_permutes c (joined g h) ribbon_joined in
      same_bool _ _
      (λ e. least_from_all (turn g) (length g) s (λ k. subst (λ (x : ℕ). s ≤ x) (iterate_left k s inside) (least_means_least all s (omega (arith, length_joined g h)) e k)))
      (λ e. least_from_all (turn (joined g h)) (length (joined g h)) s (λ k. subst (λ (x : ℕ). s ≤ x) (sym (iterate_left k s inside)) (least_means_least (turn_permutes c g a) s inside e k)))

  least_right : (s : ℕ) → s < length h → is_least_for (turn (joined g h)) (length (joined g h)) (length g + s) ≡ is_least_for (turn h) (length h) s
  least_right s inside =
      let all = turn_permutes c (joined g h) ribbon_joined in
      same_bool _ _
      (λ e. least_from_all (turn h) (length h) s (λ k. omega (arith, iterate_right k s inside, least_means_least all (length g + s) (omega (arith, length_joined g h)) e k)))
      (λ e. least_from_all (turn (joined g h)) (length (joined g h)) (length g + s) (λ k. omega (arith, iterate_right k s inside, least_means_least (turn_permutes c h b) s inside e k)))

  pub vertices_joined : vertices (joined g h) ≡ vertices g + vertices h
  vertices_joined =
      let least : ℕ → Bool = is_least_for (turn (joined g h)) (length (joined g h)) in
      ap (count_below least) (length_joined g h)
      ∙ count-append least (length g) (length h)
      ∙ ap₂ (λ (x y : ℕ). x + y)
      (count-congr least (is_least_for (turn g) (length g)) (length g) least_left)
      (count-congr (λ s. least (length g + s)) (is_least_for (turn h) (length h)) (length h) least_right)

  pub cost_joined : cost (joined g h) ≡ cost g +ℤ cost h
  cost_joined =
      let halved : edges (joined g h) ≡ edges g + edges h = omega (arith, even c g a, even c h b, even c (joined g h) ribbon_joined, length_joined g h) in
      ap₂ (λ (x y : ℕ). pos x -ℤ pos y) halved vertices_joined ∙ shared (edges g) (edges h) (vertices g) (vertices h)
    where
      shared : (x y v w : ℕ) → pos (x + y) -ℤ pos (v + w) ≡ (pos x -ℤ pos v) +ℤ (pos y -ℤ pos w)
      shared x y v w = omega (arith, ints)

-- ---- copies of one
module _ (c : Chain) (g : Sides) (a : IsRibbon c g) where
  -- k copies of a ribbon are one, with k times the sides, labels, vertices and cost
  pub ribbon_copies : (k : ℕ) → IsRibbon c (copies_of k g)
  ribbon_copies zero = no_sides c
  ribbon_copies (suc k) = ribbon_joined c g (copies_of k g) a (ribbon_copies k)

  pub length_copies : (k : ℕ) → length (copies_of k g) ≡ k * length g
  length_copies zero = omega arith
  length_copies (suc k) = omega (arith, length_joined g (copies_of k g), length_copies k)

  pub sides_copies : (k i : ℕ) → sides_at (copies_of k g) i ≡ k * sides_at g i
  sides_copies zero i = omega arith
  sides_copies (suc k) i = omega (arith, sides_joined g (copies_of k g) i, sides_copies k i)

  pub vertices_copies : (k : ℕ) → vertices (copies_of k g) ≡ k * vertices g
  vertices_copies zero = omega arith
  vertices_copies (suc k) = omega (arith, vertices_joined c g (copies_of k g) a (ribbon_copies k), vertices_copies k)

  pub cost_copies : (k : ℕ) → cost (copies_of k g) ≡ pos k *ℤ cost g
  cost_copies zero = omega (arith, ints)
  cost_copies (suc k) = omega (arith, ints, cost_joined c g (copies_of k g) a (ribbon_copies k), cost_copies k)

-- ---- copies of two
module _ (c : Chain) (g h : Sides) (a : IsRibbon c g) (b : IsRibbon c h) (i j : ℕ) where
  -- the same for i copies of one and j of another
  pub ribbon_together : IsRibbon c (together i g j h)
  ribbon_together = ribbon_joined c (copies_of i g) (copies_of j h) (ribbon_copies c g a i) (ribbon_copies c h b j)

  pub length_together : length (together i g j h) ≡ i * length g + j * length h
  length_together = omega (arith, length_joined (copies_of i g) (copies_of j h), length_copies c g a i, length_copies c h b j)

  pub sides_together : (p : ℕ) → sides_at (together i g j h) p ≡ i * sides_at g p + j * sides_at h p
  sides_together p = omega (arith, sides_joined (copies_of i g) (copies_of j h) p, sides_copies c g a i p, sides_copies c h b j p)

  pub vertices_together : vertices (together i g j h) ≡ i * vertices g + j * vertices h
  vertices_together =
      omega (arith, vertices_joined c (copies_of i g) (copies_of j h) (ribbon_copies c g a i) (ribbon_copies c h b j), vertices_copies c g a i, vertices_copies c h b j)

  pub cost_together : cost (together i g j h) ≡ pos i *ℤ cost g +ℤ pos j *ℤ cost h
  cost_together =
      omega (arith, ints, cost_joined c (copies_of i g) (copies_of j h) (ribbon_copies c g a i) (ribbon_copies c h b j), cost_copies c g a i, cost_copies c h b j)
