-- Words of weight 0 after a chain label no side: the labelled fatgraphs over the chain with them are those over the
-- chain.
use Rattle.std.proofs.Common.{◌≡◌, ℕ, zero, suc, ◌+◌, ◌*◌, ◌<◌, ◌≤◌, ◌==◌, ◌↔◌, [], ◌∷◌, ◌++◌, length, get_or, ℤ, inl, inr, arith, refl, sym, ap, subst, ◌∙◌}
use Rattle.std.proofs.lemmas.Bool.{cases_lt, ne_eqb, eq-eqb}
use Rattle.std.proofs.lemmas.List.Sums.{sum_by-append}
use Rattle.sc_algebra.proofs.Sums.{count-none, count_found}
use Rattle.sc_theory.specs.Words.{Word, inverse_letter}
use Rattle.sc_theory.specs.Chains.{Chain, no_letter, weight, word, positions, first, word_of, letter, succ}
use Rattle.sc_theory.specs.Fatgraphs.{Sides, label, mate, sides_at, IsFatgraph}
use Rattle.sc_theory.proofs.ChainLaws.{at, place, first-cons, positions-cons, letter_place, succ_within, succ_last}
use Rattle.sc_theory.proofs.FatgraphLaws.{sides_of_position}
use Rattle.sc_cone.specs.declared.Quadrant.{Quadrant}
use Rattle.sc_cone.specs.Directions.{right}
use Rattle.sc_cone.specs.Cones.{times, cone, second_words, chain_of}
use Rattle.sc_cone.specs.Values.{IsValueOf}

-- ---- a chain within a longer one
positions_both : (c e : Chain) → positions (c ++ e) ≡ positions c + positions e
positions_both c e = sum_by-append (λ (w : ℕ × Word). length w.1) c e

first_within : (c e : Chain) (w : ℕ) → w ≤ length c → first (c ++ e) w ≡ first c w
first_within [] e zero inside = refl
first_within [] e (suc w) inside = absurd (omega arith)
first_within (u ∷ c) e zero inside = refl
first_within (u ∷ c) e (suc w) inside = omega (arith, first-cons u (c ++ e) w, first-cons u c w, first_within c e w (omega arith))

first_past : (c e : Chain) (w : ℕ) → length c ≤ w → positions c ≤ first (c ++ e) w
first_past [] e w past = omega arith
first_past (u ∷ c) e zero past = absurd (omega arith)
first_past (u ∷ c) e (suc w) past = omega (arith, first-cons u (c ++ e) w, positions-cons u c, first_past c e w (omega arith))

word_within : (c e : Chain) (w : ℕ) → w < length c → word (c ++ e) w ≡ word c w
word_within [] e w inside = absurd (omega arith)
word_within (u ∷ c) e zero inside = refl
word_within (u ∷ c) e (suc w) inside = word_within c e w (omega arith)

weight_within : (c e : Chain) (w : ℕ) → w < length c → weight (c ++ e) w ≡ weight c w
weight_within [] e w inside = absurd (omega arith)
weight_within (u ∷ c) e zero inside = refl
weight_within (u ∷ c) e (suc w) inside = weight_within c e w (omega arith)

longer : (c e : Chain) (w : ℕ) → w < length c → w < length (c ++ e)
longer [] e w inside = absurd (omega arith)
longer (u ∷ c) e zero inside = omega arith
longer (u ∷ c) e (suc w) inside = omega (arith, longer c e w (omega arith))

module _ (c e : Chain) (w k : ℕ) (in_chain : w < length c) (in_word : k < length (word c w)) where
  same_first : first (c ++ e) w ≡ first c w
  same_first = first_within c e w (omega arith)

  same_word : word (c ++ e) w ≡ word c w
  same_word = word_within c e w in_chain

  in_longer : k < length (word (c ++ e) w)
  in_longer = subst (λ (v : Word). k < length v) (sym same_word) in_word

  same_place : first c w + k ≡ first (c ++ e) w + k
  same_place = ap (λ (m : ℕ). m + k) (sym same_first)

  letter_at : letter (c ++ e) (first c w + k) ≡ letter c (first c w + k)
  letter_at =
      ap (letter (c ++ e)) same_place ∙ letter_place (c ++ e) w k in_longer ∙ ap (λ (v : Word). get_or v k no_letter) same_word ∙ sym (letter_place c w k in_word)

  succ_at : succ (c ++ e) (first c w + k) ≡ succ c (first c w + k)
  succ_at =
      elim (cases_lt (suc k) (length (word c w))) [
        | inl within ↦
            ap (succ (c ++ e)) same_place
            ∙ succ_within (c ++ e) w k (subst (λ (v : Word). suc k < length v) (sym same_word) within)
            ∙ ap (λ (m : ℕ). m + suc k) same_first
            ∙ sym (succ_within c w k within)
        | inr over ↦
            let last : suc k ≡ length (word c w) = omega arith in
            ap (succ (c ++ e)) same_place
            ∙ succ_last (c ++ e) w k (last ∙ ap length (sym same_word))
            ∙ same_first
            ∙ sym (succ_last c w k last)
      ]

letter_within : (c e : Chain) (i : ℕ) → i < positions c → letter (c ++ e) i ≡ letter c i
letter_within c e i inside =
    let a = at c i inside in
    ap (letter (c ++ e)) a.here ∙ letter_at c e a.w a.k a.in_chain a.in_word ∙ ap (letter c) (sym a.here)

succ_within_chain : (c e : Chain) (i : ℕ) → i < positions c → succ (c ++ e) i ≡ succ c i
succ_within_chain c e i inside =
    let a = at c i inside in
    ap (succ (c ++ e)) a.here ∙ succ_at c e a.w a.k a.in_chain a.in_word ∙ ap (succ c) (sym a.here)

-- ---- words of weight 0
weight_past : (c d : Chain) (w : ℕ) → length c ≤ w → weight (c ++ times 0 d) w ≡ 0
weight_past [] d w past = weight_none d w
  where
    weight_none : (d : Chain) (w : ℕ) → weight (times 0 d) w ≡ 0
    weight_none [] w = refl
    weight_none (u ∷ d) zero = omega arith
    weight_none (u ∷ d) (suc w) = weight_none d w
weight_past (u ∷ c) d zero past = absurd (omega arith)
weight_past (u ∷ c) d (suc w) past = weight_past c d w (omega arith)

-- a position past the chain lies in a word past it
word_past : (c e : Chain) (i : ℕ) → positions c ≤ i → i < positions (c ++ e) → length c ≤ word_of (c ++ e) i
word_past c e i past inside =
    elim (cases_lt (word_of (c ++ e) i) (length c)) [
      | inl within ↦
          let p = place (c ++ e) i inside in
          absurd (omega (arith, p.below, first_within c e (suc (word_of (c ++ e) i)) (omega arith), first_below c (suc (word_of (c ++ e) i))))
      | inr over ↦ over
    ]
  where
    first_below : (c : Chain) (w : ℕ) → first c w ≤ positions c
    first_below [] zero = omega arith
    first_below [] (suc w) = omega arith
    first_below (u ∷ c) zero = omega arith
    first_below (u ∷ c) (suc w) = omega (arith, first-cons u c w, positions-cons u c, first_below c w)

module _ (c d : Chain) (n : ℕ) (g : Sides) where
  labels_within : IsFatgraph (c ++ times 0 d) n g → (s : ℕ) → s < length g → label g s < positions c
  labels_within is s inside =
      let e : Chain = times 0 d in
      let i : ℕ = label g s in
      elim (cases_lt i (positions c)) [
        | inl within ↦ within
        | inr over ↦
            let unused : sides_at g i ≡ 0 =
            sides_of_position (c ++ e) n g is i (is.labels s inside)
            ∙ ap (λ (m : ℕ). n * m) (weight_past c d (word_of (c ++ e) i) (word_past c e i over (is.labels s inside)))
            ∙ omega arith in
            absurd (omega (arith, count_found (λ r. label g r == i) (length g) s inside (eq-eqb i i refl), unused))
      ]

  -- a labelled fatgraph over c with the words of d at weight 0 is one over c, and the other way round
  pub without_unused : IsFatgraph (c ++ times 0 d) n g → IsFatgraph c n g
  without_unused is =
      let e : Chain = times 0 d in
      let here = labels_within is in
      record {
        copies = is.copies;
        labels = here;
        mates = is.mates;
        nexts = is.nexts;
        back = is.back;
        moves = is.moves;
        inverse = λ s inside. sym (letter_within c e (label g (mate g s)) (here (mate g s) (is.mates s inside))) ∙ is.inverse s inside ∙ ap inverse_letter (letter_within c e (label g s) (here s inside));
        apart = is.apart;
        follows = λ s inside. is.follows s inside ∙ succ_within_chain c e (label g s) (here s inside);
        counts = λ w inside. ap (sides_at g) (sym (first_within c e w (omega arith))) ∙ is.counts w (longer c e w inside) ∙ ap (λ (m : ℕ). n * m) (weight_within c e w inside);
      }

  pub with_unused : IsFatgraph c n g → IsFatgraph (c ++ times 0 d) n g
  with_unused is =
      let e : Chain = times 0 d in
      record {
        copies = is.copies;
        labels = λ s inside. omega (arith, is.labels s inside, positions_both c e);
        mates = is.mates;
        nexts = is.nexts;
        back = is.back;
        moves = is.moves;
        inverse = λ s inside. letter_within c e (label g (mate g s)) (is.labels (mate g s) (is.mates s inside)) ∙ is.inverse s inside ∙ ap inverse_letter (sym (letter_within c e (label g s) (is.labels s inside)));
        apart = is.apart;
        follows = λ s inside. is.follows s inside ∙ sym (succ_within_chain c e (label g s) (is.labels s inside));
        counts = λ w inside.
            elim (cases_lt w (length c)) [
              | inl within ↦ ap (sides_at g) (first_within c e w (omega arith)) ∙ is.counts w within ∙ ap (λ (m : ℕ). n * m) (sym (weight_within c e w within))
              | inr over ↦
                  count-none (λ s. label g s == first (c ++ e) w) (length g) (λ s here. ne_eqb (label g s) (first (c ++ e) w) (λ same. omega (arith, same, is.labels s here, first_past c e w over)))
                  ∙ sym (ap (λ (m : ℕ). n * m) (weight_past c d w over) ∙ omega arith)
            ];
      }

-- ---- the first axis
once : (c : Chain) → times 1 c ≡ c
once [] = refl
once (u ∷ c) =
    let one : 1 * u.0 ≡ u.0 = omega arith in
    ap (λ (m : ℕ). (m, u.1) ∷ times 1 c) one ∙ ap (λ (rest : Chain). u ∷ rest) (once c)

-- at the first axis the labelled fatgraphs are those of the first chain
pub axis_fatgraphs : (q : Quadrant) (first second : Chain) (n : ℕ) (g : Sides) → IsFatgraph (chain_of q first second right) n g ↔ IsFatgraph first n g
axis_fatgraphs q first second n g =
    let d : Chain = second_words q second in
    let same : cone first d 1 0 ≡ first ++ times 0 d = ap (λ (c : Chain). c ++ times 0 d) (once first) in
    (λ is. without_unused first d n g (subst (λ (c : Chain). IsFatgraph c n g) same is), λ is. subst (λ (c : Chain). IsFatgraph c n g) (sym same) (with_unused first d n g is))

-- chains with the same labelled fatgraphs have the same values
value_from_fatgraphs : (c d : Chain) → ((n : ℕ) (g : Sides) → IsFatgraph c n g ↔ IsFatgraph d n g) → (num den : ℤ) → IsValueOf c num den → IsValueOf d num den
value_from_fatgraphs c d same num den v = record {
  copies = v.copies;
  sides = v.sides;
  fatgraph = (same v.copies v.sides).0 v.fatgraph;
  least = λ n g is. v.least n g ((same n g).1 is);
  above = v.above;
  fraction = v.fraction;
}

-- and the values are its values
pub axis_value : (q : Quadrant) (first second : Chain) (num den : ℤ) → IsValueOf (chain_of q first second right) num den ↔ IsValueOf first num den
axis_value q first second num den =
    let same = axis_fatgraphs q first second in (
      value_from_fatgraphs (chain_of q first second right) first same num den,
      value_from_fatgraphs first (chain_of q first second right) (λ n g. ((same n g).1, (same n g).0)) num den,
    )

-- so that both quadrants have the same values there
pub axis_quadrants : (q r : Quadrant) (first second : Chain) (num den : ℤ) → IsValueOf (chain_of q first second right) num den → IsValueOf (chain_of r first second right) num den
axis_quadrants q r first second num den v = (axis_value r first second num den).1 ((axis_value q first second num den).0 v)
