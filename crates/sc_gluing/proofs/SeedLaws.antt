-- The seed surface of a balanced chain is a labelled fatgraph over one copy.
use Rattle.std.proofs.Common.{◌≡◌, ◌≢◌, ℕ, ◌+◌, ◌<◌, eqb, if◌then◌else◌, [], ◌∷◌, List, length, get_or, ℤ, pos, ◌*ℤ◌, arith, refl, sym, ap, subst, ◌∙◌}
use Rattle.std.proofs.lemmas.Bool.{eq-eqb, ne_eqb, cond-true, cond-false}
use Rattle.std.proofs.lemmas.List.{length-map}
use Rattle.std.proofs.Math.ListN.{get_or-map}
use Rattle.sc_algebra.specs.Sums.{sum_below, count_below}
use Rattle.sc_algebra.proofs.Ints.{same-pos, mul-one, mul-zero}
use Rattle.sc_algebra.proofs.Sums.{sum-single, sum_zero_each, count-sum, count-congr}
use Rattle.sc_theory.specs.declared.Side.{Side}
use Rattle.sc_theory.specs.Words.{inverse_letter}
use Rattle.sc_theory.specs.Chains.{Chain, IsChain, IsBalanced, word, weight, positions, first, word_of, letter, succ}
use Rattle.sc_theory.specs.Fatgraphs.{Sides, no_side, label, mate, IsFatgraph}
use Rattle.sc_theory.proofs.ChainLaws.{word_of_place}
use Rattle.sc_gluing.specs.Cycles.{at, after}
use Rattle.sc_gluing.specs.inside.Letters.{AreLetterMates}
use Rattle.sc_gluing.specs.Seeds.{word_cycles, IsSeed}
use Rattle.sc_gluing.proofs.CycleLaws.{size, after_inside, after_apart}
use Rattle.sc_gluing.proofs.StepCounts.{no_own_inverse}
use Rattle.sc_gluing.proofs.SeedSides.{sides, HasMates, mates, mates_return, word_sides, sum_of_words}

-- ---- the first position of a word is the label of as many sides as the weight says
some_letter : (c : Chain) (w : ℕ) → word c w ≢ [] → 0 < length (word c w)
some_letter c w some = nonempty (word c w) some
  where
    nonempty : {A : Type 0} (xs : List A) → xs ≢ [] → 0 < length xs
    nonempty [] none = absurd (none refl)
    nonempty (x ∷ xs) some = omega arith

-- 1 at one position
abbrev only_at : ℕ → ℕ → ℤ
only_at i j = if eqb j i then pos 1 else pos 0

word_has : (c : Chain) (w : ℕ) → 0 < length (word c w) → sum_below (λ k. only_at (first c w) (first c w + k)) (length (word c w)) ≡ pos 1
word_has c w some =
    sum-single (λ k. only_at (first c w) (first c w + k)) (length (word c w)) 0 some (λ k _ other. cond-false _ (pos 1) (pos 0) (ne_eqb (first c w + k) (first c w) (λ e. other (omega arith))))
    ∙ cond-true (eqb (first c w + 0) (first c w)) (pos 1) (pos 0) (eq-eqb (first c w + 0) (first c w) (omega arith))

other_has : (c : Chain) (w v : ℕ) → 0 < length (word c w) → v ≢ w → sum_below (λ k. only_at (first c w) (first c v + k)) (length (word c v)) ≡ pos 0
other_has c w v some other =
    sum_zero_each _ (length (word c v)) (λ k inside. cond-false _ (pos 1) (pos 0) (ne_eqb (first c v + k) (first c w) (apart k inside)))
  where
    apart : (k : ℕ) → k < length (word c v) → first c v + k ≢ first c w
    apart k inside e = other (sym (word_of_place c v k inside) ∙ ap (word_of c) (e ∙ omega arith) ∙ word_of_place c w 0 some)

pub sides_of_first : (c : Chain) → IsChain c → (w : ℕ) → w < length c → count_below (λ s. eqb (at (word_cycles c) s) (first c w)) (size (word_cycles c)) ≡ weight c w
sides_of_first c chain w inside =
    let some : 0 < length (word c w) = some_letter c w (chain.words w inside) in
    same-pos _ (weight c w)
    (count-sum (λ s. eqb (at (word_cycles c) s) (first c w)) (size (word_cycles c))
    ∙ sum_of_words c (only_at (first c w))
    ∙ sum-single _ (length c) w inside (λ v _ other. ap (λ (x : ℤ). pos (weight c v) *ℤ x) (other_has c w v some other) ∙ mul-zero (pos (weight c v)))
    ∙ ap (λ (x : ℤ). pos (weight c w) *ℤ x) (word_has c w some)
    ∙ mul-one (pos (weight c w)))

-- ---- the surface
module _ (c : Chain) (chain : IsChain c) (balanced : IsBalanced c) (g : Sides) (is : IsSeed c g) where
  all : HasMates c
  all = mates c balanced

  same_size : length g ≡ sides c
  same_size = sym (length-map g (λ (s : Side). s.label)) ∙ ap length is.labels

  label_is : (s : ℕ) → label g s ≡ at (word_cycles c) s
  label_is s = sym (get_or-map (λ (s : Side). s.label) g s no_side) ∙ ap (λ (ls : List ℕ). get_or ls s 0) is.labels

  mate_is : (s : ℕ) → s < length g → mate g s ≡ all.mate_of s
  mate_is s h =
      let a : AreLetterMates c s (all.mate_of s) = all.are s (omega (arith, same_size)) in
      is.mates s (all.mate_of s) h (omega (arith, same_size, a.inside))
      (ap (letter c) (label_is (all.mate_of s)) ∙ a.inverse ∙ ap (λ (i : ℕ). inverse_letter (letter c i)) (sym (label_is s)))
      a.ranks

  mate_inside : (s : ℕ) → s < length g → mate g s < length g
  mate_inside s h = let a : AreLetterMates c s (all.mate_of s) = all.are s (omega (arith, same_size)) in omega (arith, mate_is s h, a.inside, same_size)

  inverse_is : (s : ℕ) → s < length g → letter c (label g (mate g s)) ≡ inverse_letter (letter c (label g s))
  inverse_is s h =
      let a : AreLetterMates c s (all.mate_of s) = all.are s (omega (arith, same_size)) in
      ap (λ (t : ℕ). letter c (label g t)) (mate_is s h) ∙ ap (letter c) (label_is (all.mate_of s)) ∙ a.inverse ∙ ap (λ (i : ℕ). inverse_letter (letter c i)) (sym (label_is s))

  -- the seed surface is a labelled fatgraph over one copy
  pub seed_fatgraph : IsFatgraph c 1 g
  seed_fatgraph = record {
    copies = omega arith;
    labels = λ s h. subst (λ (i : ℕ). i < positions c) (sym (label_is s)) (word_sides c s (omega (arith, same_size))).inside;
    mates = mate_inside;
    nexts = λ s h. omega (arith, is.nexts s h, after_inside (word_cycles c) s (omega (arith, same_size)), same_size);
    back = λ s h. mate_is (mate g s) (mate_inside s h) ∙ ap all.mate_of (mate_is s h) ∙ mates_return c all s (omega (arith, same_size));
    moves = λ s h same. no_own_inverse (letter c (label g s)) (sym (ap (λ (t : ℕ). letter c (label g t)) same) ∙ inverse_is s h);
    inverse = inverse_is;
    apart = λ s t h k e. after_apart (word_cycles c) s t (omega (arith, same_size)) (omega (arith, same_size)) (sym (is.nexts s h) ∙ e ∙ is.nexts t k);
    follows = λ s h.
        ap (label g) (is.nexts s h) ∙ label_is (after (word_cycles c) s) ∙ (word_sides c s (omega (arith, same_size))).next ∙ ap (succ c) (sym (label_is s));
    counts = λ w inside.
        count-congr (λ s. eqb (label g s) (first c w)) (λ s. eqb (at (word_cycles c) s) (first c w)) (length g) (λ s _. ap (λ (i : ℕ). eqb i (first c w)) (label_is s))
        ∙ ap (count_below (λ s. eqb (at (word_cycles c) s) (first c w))) same_size
        ∙ sides_of_first c chain w inside
        ∙ omega arith;
  }
