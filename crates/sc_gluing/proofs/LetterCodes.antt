-- The numbers of letters at the sides along the words: places of opposite numbers matched in their order are the sides'
-- mates.
use Rattle.std.proofs.Common.{◌≡◌, ℕ, ◌+◌, ◌*◌, ◌<◌, ◌≤◌, Bool, true, false, not, ◌&&◌, eqb, cond, List, map, length, get_or, inl, inr, arith, refl, sym, ap, ap₂, subst, ◌∙◌}
use Rattle.std.proofs.lemmas.Bool.{cases_Bool, eq-eqb, ne_eqb}
use Rattle.std.proofs.lemmas.List.{get_or-map, length-map}
use Rattle.std.proofs.lemmas.Grind.{same_number_lists}
use Rattle.sc_algebra.specs.Sums.{count_below}
use Rattle.sc_algebra.proofs.Sums.{count-congr}
use Rattle.sc_theory.specs.declared.Letter.{Letter}
use Rattle.sc_theory.specs.declared.Side.{Side}
use Rattle.sc_theory.specs.Words.{inverse_letter, same_sign}
use Rattle.sc_theory.specs.Chains.{Chain, IsBalanced, positions, letter}
use Rattle.sc_theory.specs.Fatgraphs.{Sides, no_side, label}
use Rattle.sc_theory.proofs.WordLaws.{same_letters}
use Rattle.sc_chain.specs.Faults.{IsSmallChain}
use Rattle.sc_gluing.specs.Cycles.{labels_of, at}
use Rattle.sc_gluing.specs.Laying.{AreLaid}
use Rattle.sc_gluing.specs.Letters.{code}
use Rattle.sc_gluing.specs.inside.Letters.{AreCodes, AreInverseCodes, AreLetterMates, AreSeedMates, AreListed}
use Rattle.sc_gluing.specs.Matching.{so_far, ArePartners, AreMatchable}
use Rattle.sc_gluing.specs.Seeds.{word_cycles, same_letter, letter_rank, IsSeed}
use Rattle.sc_gluing.proofs.CycleLaws.{size}
use Rattle.sc_gluing.proofs.Ranks.{rank_below}
use Rattle.sc_gluing.proofs.SeedSides.{side_letter, having, same_letter_itself, letters_from_same, as_many_inverse, one_mate, word_sides}

-- ---- numbers of letters
code_parts : (a b : ℕ) (p q : Bool) → 2 * a + cond p 1 0 ≡ 2 * b + cond q 1 0 → (a ≡ b) × (p ≡ q)
code_parts a b true true e = (omega arith, refl)
code_parts a b true false e = absurd (omega arith)
code_parts a b false true e = absurd (omega arith)
code_parts a b false false e = (omega arith, refl)

-- letters with the same number are the same
pub letters_from_code : (x y : Letter) → code x ≡ code y → x ≡ y
letters_from_code x y e = let parts = code_parts x.number y.number x.inverse y.inverse e in same_letters x y parts.0 parts.1

-- the test of the numbers is that of the letters
code_test : (x y : Letter) → eqb (code x) (code y) ≡ same_letter x y
code_test x y =
    elim (cases_Bool (same_letter x y)) [
      | inl same ↦ eq-eqb (code x) (code y) (ap code (letters_from_same x y same)) ∙ sym same
      | inr other ↦ ne_eqb (code x) (code y) (λ e. clash (sym (same_letter_itself y) ∙ ap (λ (z : Letter). same_letter z y) (sym (letters_from_code x y e)) ∙ other)) ∙ sym other
    ]
  where
    clash : true ≡ false → ⊥
    clash e = cc

same_inverse : (x y : Letter) → same_letter (inverse_letter x) (inverse_letter y) ≡ same_letter x y
same_inverse x y = ap (λ (b : Bool). eqb x.number y.number && b) (signs x.inverse y.inverse)
  where
    signs : (a b : Bool) → same_sign (not a) (not b) ≡ same_sign a b
    signs true true = refl
    signs true false = refl
    signs false true = refl
    signs false false = refl

code_below : (x : Letter) → x.number < 26 → code x < 52
code_below x h = low x.number x.inverse h
  where
    low : (a : ℕ) (b : Bool) → a < 26 → 2 * a + cond b 1 0 < 52
    low a true h = omega arith
    low a false h = omega arith

-- ---- the labels of the sides
-- the labels of the sides along the words are positions
pub labels_inside : (c : Chain) (labels : List ℕ) → labels ≡ labels_of (word_cycles c) → (s : ℕ) → s < length labels → get_or labels s 0 < positions c
labels_inside c labels laid s h =
    subst (λ (xs : List ℕ). get_or xs s 0 < positions c) (sym laid) (word_sides c s (subst (λ (xs : List ℕ). s < length xs) laid h)).inside

-- ---- the lists of numbers
module _ (c : Chain) (labels codes inverses : List ℕ) (laid : labels ≡ labels_of (word_cycles c)) (are : AreCodes c labels (length labels) codes) (other : AreInverseCodes c labels (length labels) inverses) where
  as_many : length labels ≡ size (word_cycles c)
  as_many = ap (λ (xs : List ℕ). length xs) laid

  code_at : (s : ℕ) → s < size (word_cycles c) → get_or codes s 0 ≡ code (side_letter c s)
  code_at s h = are.codes_are s (omega (arith, as_many)) ∙ ap (λ (xs : List ℕ). code (letter c (get_or xs s 0))) laid

  inverse_at : (s : ℕ) → s < size (word_cycles c) → get_or inverses s 0 ≡ code (inverse_letter (side_letter c s))
  inverse_at s h = other.codes_are s (omega (arith, as_many)) ∙ ap (λ (xs : List ℕ). code (inverse_letter (letter c (get_or xs s 0)))) laid

  letters_so_far : (x : Letter) (n : ℕ) → n ≤ size (word_cycles c) → so_far codes (code x) n ≡ count_below (λ t. same_letter (side_letter c t) x) n
  letters_so_far x n within = count-congr _ (λ t. same_letter (side_letter c t) x) n (λ t h. ap (λ (k : ℕ). eqb k (code x)) (code_at t (omega arith)) ∙ code_test (side_letter c t) x)

  inverses_so_far : (s : ℕ) → s < size (word_cycles c) → so_far inverses (get_or inverses s 0) s ≡ letter_rank c (word_cycles c) s
  inverses_so_far s within =
      count-congr _ (λ t. same_letter (side_letter c t) (side_letter c s)) s (λ t h.
      ap₂ eqb (inverse_at t (omega arith)) (inverse_at s within)
      ∙ code_test (inverse_letter (side_letter c t)) (inverse_letter (side_letter c s))
      ∙ same_inverse (side_letter c t) (side_letter c s))

  generator : IsSmallChain c → (s : ℕ) → s < size (word_cycles c) → (side_letter c s).number < 26
  generator small s h = small.generators (at (word_cycles c) s) (word_sides c s h).inside

  -- in a balanced chain there are as many sides with each letter as ask for it
  pub letters_matchable : IsBalanced c → IsSmallChain c → AreMatchable codes inverses 52
  letters_matchable balanced small = record {
    as_many = other.as_many ∙ sym are.as_many;
    kinds_below = λ s h.
        let k : s < size (word_cycles c) = omega (arith, are.as_many, as_many) in
        subst (λ (x : ℕ). x < 52) (sym (code_at s k)) (code_below (side_letter c s) (generator small s k));
    opposites_below = λ s h.
        let k : s < size (word_cycles c) = omega (arith, are.as_many, as_many) in
        subst (λ (x : ℕ). x < 52) (sym (inverse_at s k)) (code_below (inverse_letter (side_letter c s)) (generator small s k));
    enough = λ s h.
        let k : s < size (word_cycles c) = omega (arith, are.as_many, as_many) in
        let x : Letter = side_letter c s in
        let all : so_far codes (get_or inverses s 0) (length codes) ≡ having c (inverse_letter x) =
        ap₂ (so_far codes) (inverse_at s k) (are.as_many ∙ as_many) ∙ letters_so_far (inverse_letter x) (size (word_cycles c)) (omega arith) in
        omega (arith, inverses_so_far s k, all, as_many_inverse c balanced x, rank_below (λ t. same_letter (side_letter c t) x) (size (word_cycles c)) s k (same_letter_itself x));
  }

  -- partners by the numbers of the letters are the mates of the seed surface
  pub partners_are_mates : (partners : List ℕ) → ArePartners codes inverses partners → AreSeedMates c partners
  partners_are_mates partners paired = record { as_many = paired.as_many ∙ are.as_many ∙ as_many; are = mate_at }
    where
      mate_at : (s : ℕ) → s < size (word_cycles c) → AreLetterMates c s (get_or partners s 0)
      mate_at s h =
          let k : s < length codes = omega (arith, are.as_many, as_many) in
          let t : ℕ = get_or partners s 0 in
          let there : t < size (word_cycles c) = omega (arith, paired.inside s k, are.as_many, as_many) in
          let x : Letter = inverse_letter (side_letter c s) in
          let is : side_letter c t ≡ x = letters_from_code (side_letter c t) x (sym (code_at t there) ∙ paired.opposite s k ∙ inverse_at s h) in
          record {
            inside = there;
            inverse = is;
            ranks =
                sym (inverses_so_far s h) ∙ sym (paired.in_order s k)
                ∙ ap (λ (i : ℕ). so_far codes i t) (inverse_at s h)
                ∙ letters_so_far x t (omega arith)
                ∙ ap (λ (y : Letter). count_below (λ u. same_letter (side_letter c u) y) t) (sym is);
          }

-- ---- the surface
-- the sides with these labels, mates and nexts are the seed surface
pub listed_seed : (c : Chain) (labels afters mates : List ℕ) (g : Sides) → AreLaid (word_cycles c) labels afters → AreSeedMates c mates → AreListed labels mates afters (length labels) g → IsSeed c g
listed_seed c labels afters mates g laid mated made = record {
  labels = same_labels ∙ laid.labels_are;
  nexts = λ s h. let k : s < length labels = omega (arith, made.as_many) in ap (λ (x : Side). x.next) (made.sides_are s k) ∙ laid.afters_are s k;
  mates = λ s t h k inverse ranks.
      let u : s < length labels = omega (arith, made.as_many) in
      let v : t < length labels = omega (arith, made.as_many) in
      ap (λ (x : Side). x.mate) (made.sides_are s u)
      ∙ one_mate c s (get_or mates s 0) t (mated.are s (omega (arith, as_many)))
      (record {
        inside = omega (arith, as_many);
        inverse = ap (letter c) (sym (label_is t v)) ∙ inverse ∙ ap (λ (i : ℕ). inverse_letter (letter c i)) (label_is s u);
        ranks = ranks;
      });
}
  where
    as_many : length labels ≡ size (word_cycles c)
    as_many = ap (λ (xs : List ℕ). length xs) laid.labels_are

    label_is : (s : ℕ) → s < length labels → label g s ≡ at (word_cycles c) s
    label_is s h = ap (λ (x : Side). x.label) (made.sides_are s h) ∙ ap (λ (xs : List ℕ). get_or xs s 0) laid.labels_are

    same_labels : map (λ s. s.label) g ≡ labels
    same_labels =
        same_number_lists (map (λ s. s.label) g) labels (length-map g (λ (s : Side). s.label) ∙ made.as_many)
        (λ k h. let here : k < length g = omega (arith, length-map g (λ (s : Side). s.label)) in
        get_or-map (λ (s : Side). s.label) g k no_side 0 here ∙ ap (λ (x : Side). x.label) (made.sides_are k (omega (arith, made.as_many))))
