-- The sides along the copies of the words of a balanced chain: each follows the one before it round its word, and each
-- has one mate, the side with the inverse letter that stands at the same place among those with its letter.
use Rattle.std.proofs.Common.{◌≡◌, ℕ, zero, suc, ◌+◌, ◌<◌, Bool, true, false, not, ◌&&◌, eqb, if◌then◌else◌, List, [], ◌∷◌, ◌++◌, map, length, get_or, replicate, ℤ, pos, ◌+ℤ◌, ◌-ℤ◌, ◌*ℤ◌, inl, inr, arith, refl, sym, ap, ap₂, subst, subst₂, ◌∙◌}
use Rattle.std.specs.List.{AllByRecursion, range_with_len}
use Rattle.std.proofs.lemmas.Int.{ints}
use Rattle.std.proofs.lemmas.Bool.{cases_lt, eq-eqb, eqb-true, and_from}
use Rattle.std.proofs.lemmas.List.FromFn.{length-range_with_len, get_or-range_with_len}
use Rattle.sc_algebra.specs.Sums.{sum_below, count_below}
use Rattle.sc_algebra.proofs.Ints.{zero-mul, suc-mul}
use Rattle.sc_algebra.proofs.Sums.{sum-congr, count-congr, count-sum, sum-sub}
use Rattle.sc_theory.specs.declared.Letter.{Letter}
use Rattle.sc_theory.specs.Words.{inverse_letter, same_sign, is_positive, is_negative}
use Rattle.sc_theory.specs.Chains.{Chain, IsBalanced, word, weight, positions, first, letter, succ, chain_total}
use Rattle.sc_theory.proofs.ChainLaws.{place_inside, succ_within, succ_last, letter_place}
use Rattle.sc_theory.proofs.ChainSums.{sign, total_sum, chain_total_sum}
use Rattle.sc_theory.proofs.ListSums.{list_sum, list_sum_is, list_sum-flat_map, list_sum-map, list_sum-range, list_sum-below}
use Rattle.sc_theory.proofs.WordLaws.{same_letters, inverse_letter-inverse_letter}
use Rattle.sc_gluing.specs.Cycles.{Parts, copies_of, labels_of, at, round, after}
use Rattle.sc_gluing.specs.inside.Letters.{AreLetterMates}
use Rattle.sc_gluing.specs.Seeds.{positions_of, word_parts, word_cycles, same_letter, letter_rank}
use Rattle.sc_gluing.proofs.CycleLaws.{size, size-cons, round_within, round_last, at_here, at_later, at_after_here, at_after_later, here_or_later}
use Rattle.sc_gluing.proofs.Ranks.{Kth, kth, rank_below, same_rank}

-- ---- facts of all sides from facts of the cycles
-- each place of a cycle has the fact with the place after it
abbrev pub HasAround : (ℕ → ℕ → Type 0) → List ℕ → Type 0
HasAround P w = (k : ℕ) → k < length w → P (get_or w k 0) (get_or w (round (length w) k) 0)

-- what holds in each cycle of a place and the next one holds of each side's label and that of the side after it
pub around : (P : ℕ → ℕ → Type 0) (ws : List (List ℕ)) → AllByRecursion (HasAround P) ws → (s : ℕ) → s < size ws → P (at ws s) (at ws (after ws s))
around P [] all s h = absurd (omega arith)
around P (w ∷ ws) all s h =
    elim (here_or_later (length w) s) [
      | inl here ↦ subst₂ P (sym (at_here w ws s here)) (sym (at_after_here w ws s here)) (all.0 s here)
      | inr later ↦
          let r : ℕ = later.0 in
          subst₂ P (sym (ap (at (w ∷ ws)) later.1 ∙ at_later w ws r))
          (sym (ap (λ (x : ℕ). at (w ∷ ws) (after (w ∷ ws) x)) later.1 ∙ at_after_later w ws r))
          (around P ws all.1 r (omega (arith, later.1, size-cons w ws)))
    ]

replicated : (Q : List ℕ → Type 0) (n : ℕ) (w : List ℕ) (ws : List (List ℕ)) → Q w → AllByRecursion Q ws → AllByRecursion Q (replicate n w ++ ws)
replicated Q zero w ws one rest = rest
replicated Q (suc n) w ws one rest = (one, replicated Q n w ws one rest)

-- what holds of the list of each part holds of all copies
pub all_copies : (Q : List ℕ → Type 0) (parts : Parts) → AllByRecursion (λ p. Q p.0) parts → AllByRecursion Q (copies_of parts)
all_copies Q [] all = tt
all_copies Q (p ∷ parts) all = replicated Q p.1 p.0 (copies_of parts) all.0 (all_copies Q parts all.1)

all_in_range : (Q : List ℕ × ℕ → Type 0) (part : ℕ → List ℕ × ℕ) (a n : ℕ) → ((w : ℕ) → w < a + n → Q (part w)) → AllByRecursion Q (map part (range_with_len a n))
all_in_range Q part a zero each = tt
all_in_range Q part a (suc n) each = (each a (omega arith), all_in_range Q part (a + 1) n (λ w h. each w (omega arith)))

-- a fact of the cycles of all words is one of all their copies
pub all_words : (c : Chain) (Q : List ℕ → Type 0) → ((w : ℕ) → w < length c → Q (positions_of c w)) → AllByRecursion Q (word_cycles c)
all_words c Q each = all_copies Q (word_parts c) (all_in_range (λ p. Q p.0) (λ w. (positions_of c w, weight c w)) 0 (length c) (λ w h. each w (omega arith)))

-- ---- the position after a position
-- i is a position, and j the next one round its word
pub record IsNext (c : Chain) (i j : ℕ) : Type 0 where
  pub inside : i < positions c
  pub next : j ≡ succ c i

next_around : (c : Chain) (w : ℕ) → w < length c → HasAround (IsNext c) (positions_of c w)
next_around c w within k h =
    let n : ℕ = length (word c w) in
    let a : ℕ = first c w in
    let long : length (positions_of c w) ≡ n = length-range_with_len a n in
    let here : get_or (positions_of c w) k 0 ≡ a + k = get_or-range_with_len a n k 0 (omega arith) in
    let turned : get_or (positions_of c w) (round (length (positions_of c w)) k) 0 ≡ get_or (positions_of c w) (round n k) 0 = ap (λ (m : ℕ). get_or (positions_of c w) (round m k) 0) long in
    let next : get_or (positions_of c w) (round n k) 0 ≡ succ c (a + k) =
    elim (cases_lt (suc k) n) [
      | inl inner ↦ ap (λ (m : ℕ). get_or (positions_of c w) m 0) (round_within n k inner) ∙ get_or-range_with_len a n (suc k) 0 inner ∙ sym (succ_within c w k inner)
      | inr over ↦
          let last : suc k ≡ n = omega arith in
          let start : a + 0 ≡ a = omega arith in
          ap (λ (m : ℕ). get_or (positions_of c w) m 0) (round_last n k last) ∙ get_or-range_with_len a n 0 0 (omega arith) ∙ start ∙ sym (succ_last c w k last)
    ] in
    record {
      inside = subst (λ (i : ℕ). i < positions c) (sym here) (place_inside c w k (omega arith));
      next = turned ∙ next ∙ ap (succ c) (sym here);
    }

-- the label of the side after a side is the next position round the word
pub word_sides : (c : Chain) (s : ℕ) → s < size (word_cycles c) → IsNext c (at (word_cycles c) s) (at (word_cycles c) (after (word_cycles c) s))
word_sides c s h = around (IsNext c) (word_cycles c) (all_words c (HasAround (IsNext c)) (next_around c)) s h

-- ---- sums over the sides, word by word
list_sum-replicate : (f : List ℕ → ℤ) (n : ℕ) (w : List ℕ) → list_sum f (replicate n w) ≡ pos n *ℤ f w
list_sum-replicate f zero w = sym (zero-mul (f w))
list_sum-replicate f (suc n) w = omega (arith, ints, list_sum-replicate f n w, suc-mul n (f w))

list_sum-congr : (f g : List ℕ × ℕ → ℤ) → ((p : List ℕ × ℕ) → f p ≡ g p) → (ps : Parts) → list_sum f ps ≡ list_sum g ps
list_sum-congr f g same [] = refl
list_sum-congr f g same (p ∷ ps) = ap₂ (λ (x y : ℤ). x +ℤ y) (same p) (list_sum-congr f g same ps)

-- a sum over the sides is one over the words, each as often as its weight says
pub sum_of_words : (c : Chain) (g : ℕ → ℤ) → sum_below (λ s. g (at (word_cycles c) s)) (size (word_cycles c)) ≡ sum_below (λ w. pos (weight c w) *ℤ sum_below (λ k. g (first c w + k)) (length (word c w))) (length c)
sum_of_words c g =
    list_sum_is g (labels_of (word_cycles c)) 0
    ∙ list_sum-flat_map g (λ w. w) (word_cycles c)
    ∙ list_sum-flat_map (list_sum g) (λ p. replicate p.1 p.0) (word_parts c)
    ∙ list_sum-congr _ (λ p. pos p.1 *ℤ list_sum g p.0) (λ p. list_sum-replicate (list_sum g) p.1 p.0) (word_parts c)
    ∙ list_sum-map (λ p. pos p.1 *ℤ list_sum g p.0) (λ w. (positions_of c w, weight c w)) (range_with_len 0 (length c))
    ∙ list_sum-below (λ w. pos (weight c w) *ℤ list_sum g (positions_of c w)) (length c)
    ∙ sum-congr _ _ (length c) (λ w _. ap (λ (x : ℤ). pos (weight c w) *ℤ x) (list_sum-range g (first c w) (length (word c w))))

-- ---- letters, and the sides that have them
pub same_letter_itself : (x : Letter) → same_letter x x ≡ true
same_letter_itself x = and_from (eqb x.number x.number) (same_sign x.inverse x.inverse) (eq-eqb x.number x.number refl) (itself x.inverse)
  where
    itself : (b : Bool) → same_sign b b ≡ true
    itself true = refl
    itself false = refl

pub letters_from_same : (x y : Letter) → same_letter x y ≡ true → x ≡ y
letters_from_same x y h =
    same_letters x y (eqb-true x.number y.number (and_first (eqb x.number y.number) (same_sign x.inverse y.inverse) h)) (signs x.inverse y.inverse (and_second (eqb x.number y.number) (same_sign x.inverse y.inverse) h))
  where
    and_first : (a b : Bool) → (a && b) ≡ true → a ≡ true
    and_first true b h = refl
    and_first false b h = h

    and_second : (a b : Bool) → (a && b) ≡ true → b ≡ true
    and_second true b h = h
    and_second false b h = cc

    signs : (a b : Bool) → same_sign a b ≡ true → a ≡ b
    signs true true h = refl
    signs true false h = sym h
    signs false true h = cc
    signs false false h = refl

-- a side's letter is the positive or the negative one of a generator
positive_test : (x y : Letter) → y.inverse ≡ false → same_letter x y ≡ is_positive y.number x
positive_test x y e = ap (λ (b : Bool). eqb x.number y.number && same_sign x.inverse b) e ∙ ap (λ (b : Bool). eqb x.number y.number && b) (with_false x.inverse)
  where
    with_false : (a : Bool) → same_sign a false ≡ not a
    with_false true = refl
    with_false false = refl

negative_test : (x y : Letter) → y.inverse ≡ true → same_letter x y ≡ is_negative y.number x
negative_test x y e = ap (λ (b : Bool). eqb x.number y.number && same_sign x.inverse b) e ∙ ap (λ (b : Bool). eqb x.number y.number && b) (with_true x.inverse)
  where
    with_true : (a : Bool) → same_sign a true ≡ a
    with_true true = refl
    with_true false = refl

module _ (c : Chain) where
  abbrev pub side_letter : ℕ → Letter
  side_letter s = letter c (at (word_cycles c) s)

  abbrev pub sides : ℕ
  sides = size (word_cycles c)

  -- how many sides have a letter
  abbrev pub having : Letter → ℕ
  having x = count_below (λ s. same_letter (side_letter s) x) sides

  signs_total : (g : ℕ) → sum_below (λ s. sign g (side_letter s)) sides ≡ chain_total g c
  signs_total g =
      sum_of_words c (λ i. sign g (letter c i))
      ∙ sum-congr _ _ (length c) (λ w _. ap (λ (x : ℤ). pos (weight c w) *ℤ x)
      (sum-congr _ _ (length (word c w)) (λ k inside. ap (sign g) (letter_place c w k inside)) ∙ total_sum g (word c w)))
      ∙ chain_total_sum g c

  as_many_signs : IsBalanced c → (g : ℕ) → count_below (λ s. is_positive g (side_letter s)) sides ≡ count_below (λ s. is_negative g (side_letter s)) sides
  as_many_signs balanced g =
      let p : ℕ → Bool = λ s. is_positive g (side_letter s) in
      let q : ℕ → Bool = λ s. is_negative g (side_letter s) in
      let difference : sum_below (λ s. if p s then pos 1 else pos 0) sides -ℤ sum_below (λ s. if q s then pos 1 else pos 0) sides ≡ pos 0 =
      sym (sum-sub (λ s. if p s then pos 1 else pos 0) (λ s. if q s then pos 1 else pos 0) sides) ∙ signs_total g ∙ balanced g in
      equal (count_below p sides) (count_below q sides) _ _ (count-sum p sides) (count-sum q sides) difference
    where
      equal : (m n : ℕ) (x y : ℤ) → pos m ≡ x → pos n ≡ y → x -ℤ y ≡ pos 0 → m ≡ n
      equal m n x y e h d = omega (arith, ints)

  having_sign : (x : Letter) (b : Bool) → x.inverse ≡ b → having x ≡ count_below (λ s. if b then is_negative x.number (side_letter s) else is_positive x.number (side_letter s)) sides
  having_sign x true e = count-congr _ _ sides (λ s _. negative_test (side_letter s) x e)
  having_sign x false e = count-congr _ _ sides (λ s _. positive_test (side_letter s) x e)

  -- the sides with a letter are as many as those with its inverse
  pub as_many_inverse : IsBalanced c → (x : Letter) → having x ≡ having (inverse_letter x)
  as_many_inverse balanced x = by_sign x.inverse refl
    where
      by_sign : (b : Bool) → x.inverse ≡ b → having x ≡ having (inverse_letter x)
      by_sign true e = having_sign x true e ∙ sym (as_many_signs balanced x.number) ∙ sym (having_sign (inverse_letter x) false (ap not e))
      by_sign false e = having_sign x false e ∙ as_many_signs balanced x.number ∙ sym (having_sign (inverse_letter x) true (ap not e))

  -- ---- mates
  same_test : (x y : Letter) (n : ℕ) → x ≡ y → count_below (λ t. same_letter (side_letter t) x) n ≡ count_below (λ t. same_letter (side_letter t) y) n
  same_test x y n e = ap (λ (z : Letter). count_below (λ t. same_letter (side_letter t) z) n) e

  find_mate : IsBalanced c → (s : ℕ) → s < sides → (t : ℕ) × AreLetterMates c s t
  find_mate balanced s h =
      let x : Letter = side_letter s in
      let test : ℕ → Bool = λ t. same_letter (side_letter t) (inverse_letter x) in
      let low : letter_rank c (word_cycles c) s < having x = rank_below (λ t. same_letter (side_letter t) x) sides s h (same_letter_itself x) in
      let found : Kth test sides (letter_rank c (word_cycles c) s) = kth test sides (letter_rank c (word_cycles c) s) (omega (arith, as_many_inverse balanced x)) in
      let is : side_letter found.number ≡ inverse_letter x = letters_from_same (side_letter found.number) (inverse_letter x) found.passes in (
        found.number,
        record {
          inside = found.inside;
          inverse = is;
          ranks = sym found.rank ∙ same_test (inverse_letter x) (side_letter found.number) found.number (sym is);
        },
      )

  -- two mates of one side are one side
  pub one_mate : (s t u : ℕ) → AreLetterMates c s t → AreLetterMates c s u → t ≡ u
  one_mate s t u a b =
      let x : Letter = inverse_letter (side_letter s) in
      let test : ℕ → Bool = λ v. same_letter (side_letter v) x in
      same_rank test t u
      (ap (λ (z : Letter). same_letter z x) a.inverse ∙ same_letter_itself x)
      (ap (λ (z : Letter). same_letter z x) b.inverse ∙ same_letter_itself x)
      (same_test x (side_letter t) t (sym a.inverse) ∙ sym a.ranks ∙ b.ranks ∙ same_test (side_letter u) x u b.inverse)

  -- of two mates each is the other's
  pub mates_back : (s t : ℕ) → s < sides → AreLetterMates c s t → AreLetterMates c t s
  mates_back s t h a = record {
    inside = h;
    inverse = sym (ap inverse_letter a.inverse ∙ inverse_letter-inverse_letter (side_letter s));
    ranks = sym a.ranks;
  }

  -- the mate of each side
  pub record HasMates : Type 0 where
    pub mate_of : ℕ → ℕ
    pub are : (s : ℕ) → s < sides → AreLetterMates c s (mate_of s)

  -- in a balanced chain each side has a mate
  pub mates : IsBalanced c → HasMates
  mates balanced = record { mate_of = λ s. (or_none s).0; are = λ s h. (or_none s).1 h }
    where
      or_none : (s : ℕ) → (t : ℕ) × (s < sides → AreLetterMates c s t)
      or_none s = elim (cases_lt s sides) [
        | inl inside ↦ let found = find_mate balanced s inside in (found.0, λ _. found.1)
        | inr past ↦ (0, λ h. absurd (omega arith))
      ]

  -- the mate of the mate is the side
  pub mates_return : (m : HasMates) (s : ℕ) → s < sides → m.mate_of (m.mate_of s) ≡ s
  mates_return m s h =
      let a = m.are s h in
      one_mate (m.mate_of s) (m.mate_of (m.mate_of s)) s (m.are (m.mate_of s) a.inside) (mates_back s (m.mate_of s) h a)
