-- The copies of the words laid one behind another, word by word.
use Rattle.std.proofs.Common.{◌≡◌, ℕ, zero, suc, ◌+◌, ◌*◌, ◌^◌, ◌<◌, ◌≤◌, List, [], ◌++◌, length, get_or, take, replicate, ◌∷◌, ℤ, pos, ◌*ℤ◌, inl, inr, arith, refl, sym, ap, subst, ◌∙◌}
use Rattle.std.specs.List.{range_with_len}
use Rattle.std.proofs.lemmas.Bool.{cases_lt}
use Rattle.std.proofs.lemmas.List.{take_all}
use Rattle.std.proofs.lemmas.List.FromFn.{length-map-range_with_len, get_or-map-range_with_len}
use Rattle.sc_algebra.specs.Sums.{sum_below}
use Rattle.sc_algebra.proofs.Ints.{same-pos, mul-one}
use Rattle.sc_algebra.proofs.Sums.{sum-congr, sum-const}
use Rattle.sc_theory.specs.Chains.{Chain, weight, word, positions, weighted_length, first}
use Rattle.sc_theory.proofs.ChainLaws.{place_inside}
use Rattle.sc_theory.proofs.ChainSums.{weighted_length_sum}
use Rattle.sc_chain.specs.Faults.{IsSmallChain}
use Rattle.sc_gluing.specs.Cycles.{Parts, copies_of}
use Rattle.sc_gluing.specs.Laying.{AreLaid, LaysBehind}
use Rattle.sc_gluing.specs.Seeds.{positions_of, word_parts, word_cycles}
use Rattle.sc_gluing.proofs.CycleLaws.{size}
use Rattle.sc_gluing.proofs.PartSizes.{copies_fit, copies_more}
use Rattle.sc_gluing.proofs.SeedSides.{sum_of_words}

pub words_size : (c : Chain) → size (word_cycles c) ≡ weighted_length c
words_size c =
    same-pos (size (word_cycles c)) (weighted_length c)
    (sym (ones (size (word_cycles c)))
    ∙ sum_of_words c (λ _. pos 1)
    ∙ sum-congr _ _ (length c) (λ w _. ap (λ (x : ℤ). pos (weight c w) *ℤ x) (ones (length (word c w))))
    ∙ weighted_length_sum c)
  where
    ones : (m : ℕ) → sum_below (λ _. pos 1) m ≡ pos m
    ones m = sum-const (pos 1) m ∙ mul-one (pos m)

abbrev pub no_part : List ℕ × ℕ
no_part = ([], 0)

-- the part number w has the positions of the word number w, and its weight as the count
pub part_at : (c : Chain) (w : ℕ) → w < length c → get_or (word_parts c) w no_part ≡ (positions_of c w, weight c w)
part_at c w h = get_or-map-range_with_len (λ w. (positions_of c w, weight c w)) 0 (length c) w w no_part h (omega arith)

-- as many parts as words
parts_many : (c : Chain) → length (word_parts c) ≡ length c
parts_many c = length-map-range_with_len {X = List ℕ × ℕ} (λ w. (positions_of c w, weight c w)) 0 (length c)

-- the sides of the first w words and of the next one are fewer than 2^32
pub words_fit : (c : Chain) → IsSmallChain c → (w : ℕ) → w < length c → size (copies_of (take w (word_parts c))) + weight c w * length (positions_of c w) < 2 ^ 32
words_fit c small w h =
    let inside : w < length (word_parts c) = omega (arith, parts_many c) in
    let whole = copies_fit (word_parts c) w no_part inside in
    let own : (get_or (word_parts c) w no_part).1 * length (get_or (word_parts c) w no_part).0 ≡ weight c w * length (positions_of c w) = ap (λ (p : List ℕ × ℕ). p.1 * length p.0) (part_at c w h) in
    omega (arith, whole, own, words_size c, small.light)

-- a word ends within the positions
pub word_ends : (c : Chain) (w : ℕ) → first c w < positions c → first c w + length (word c w) ≤ positions c
word_ends c w h = elim (cases_lt 0 (length (word c w))) [
  | inl some ↦ ends (length (word c w)) refl some
  | inr none ↦ omega arith
]
  where
    ends : (n : ℕ) → n ≡ length (word c w) → 0 < n → first c w + length (word c w) ≤ positions c
    ends zero e some = absurd (omega arith)
    ends (suc n) e some = omega (arith, place_inside c w n (omega arith))

-- ---- the loop over the words
-- with the copies of the word number w the words up to it are laid
pub words_more : (c : Chain) (w : ℕ) (a b a' b' : List ℕ) → w < length c → LaysBehind (weight c w) (positions_of c w) a b a' b' → AreLaid (copies_of (take w (word_parts c))) a b → AreLaid (copies_of (take (w + 1) (word_parts c))) a' b'
words_more c w a b a' b' h lays laid =
    let so_far : List (List ℕ) = copies_of (take w (word_parts c)) in
    let whole : copies_of (take (w + 1) (word_parts c)) ≡ so_far ++ replicate (weight c w) (positions_of c w) =
    copies_more (word_parts c) w no_part (omega (arith, parts_many c)) ∙ ap (λ (p : List ℕ × ℕ). so_far ++ replicate p.1 p.0) (part_at c w h) in
    subst (λ (ws : List (List ℕ)). AreLaid ws a' b') (sym whole) (lays so_far laid)

-- behind the last word all are laid
pub words_all : (c : Chain) (w : ℕ) (a b : List ℕ) → length c ≤ w → AreLaid (copies_of (take w (word_parts c))) a b → AreLaid (word_cycles c) a b
words_all c w a b h laid = subst (λ (ps : Parts). AreLaid (copies_of ps) a b) (take_all w (word_parts c) (omega (arith, parts_many c))) laid

-- one number more
pub range_more : (a n : ℕ) → range_with_len a (n + 1) ≡ range_with_len a n ++ (a + n) ∷ []
range_more a zero = ap (λ (x : ℕ). x ∷ []) (omega arith)
range_more a (suc n) =
    let up : suc n + 1 ≡ suc (n + 1) = omega arith in
    let last : (a + 1) + n ≡ a + suc n = omega arith in
    ap (range_with_len a) up ∙ ap (λ (xs : List ℕ). a ∷ xs) (range_more (a + 1) n ∙ ap (λ (x : ℕ). range_with_len (a + 1) n ++ x ∷ []) last)
