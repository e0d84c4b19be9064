-- The words of a direction's chain: their weights fit, and a list of them is accepted as a chain.
use Rattle.std.proofs.Common.{◌≡◌, ◌≢◌, ℕ, zero, suc, ◌+◌, ◌*◌, ◌^◌, ◌<◌, ◌≤◌, [], ◌∷◌, ◌++◌, reverse, length, Result, Err, IsErrOf, ◌↔◌, unsigned_abs, length-append, arith, refl, sym, ap, subst, ◌∙◌}
use Rattle.std.proofs.Math.Nat.{mul-le-mul_left}
use Rattle.std.proofs.lemmas.List.{length-map, length-reverse}
use Rattle.std.proofs.lemmas.List.Elements.{All-nil, All-cons, All-append, All-head, All-tail, All-from_get_or}
use Rattle.std.proofs.lemmas.List.Sums.{sum_by-cons, sum_by-append}
use Rattle.std.specs.List.{All}
use Rattle.sc_theory.specs.declared.Letter.{Letter}
use Rattle.sc_theory.specs.Words.{Word, inverse_letter, inverse_word}
use Rattle.sc_theory.specs.Chains.{Chain, IsChain, no_letter, word, weight, positions, weighted_length}
use Rattle.sc_theory.proofs.WordLaws.{inverse_word-cons}
use Rattle.sc_chain.specs.declared.fault.ChainFault.{ChainFault}
use Rattle.sc_chain.specs.declared.fault.ChainFault.TheVariants.{Memory}
use Rattle.sc_words.specs.declared.limits.TheConstants.{GENERATORS}
use Rattle.sc_chain.specs.declared.limits.TheConstants.{MAX_WORDS, MAX_POSITIONS}
use Rattle.sc_chain.specs.Faults.{IsSmallChain, AreGenerators, IsAccepted, IsFaultOf}
use Rattle.sc_chain.proofs.OneFault.{accepted_faultless, generators_of}
use Rattle.sc_cone.specs.declared.Direction.{Direction}
use Rattle.sc_cone.specs.declared.Quadrant.{Quadrant}
use Rattle.sc_cone.specs.declared.Quadrant.TheVariants.{Lower, Upper}
use Rattle.sc_cone.specs.Cones.{times, inverses, second_words, chain_of}
use Rattle.sc_cone.proofs.ConeWords.{is_chain}
use Rattle.sc_crossing.specs.Lengths.{IsLight}
use Rattle.sc_crossing.proofs.Lengths.{chain_light}

-- ---- weights
some_letters : (w : Word) → w ≢ [] → 0 < length w
some_letters [] other = absurd (other refl)
some_letters (x ∷ w) other = omega arith

at_least : (w k : ℕ) → 0 < k → w ≤ w * k
at_least w zero h = absurd (omega arith)
at_least w (suc k) h = omega arith

-- each weight is at most the weighted length, since no word is empty
weight_within : (c : Chain) → ((w : ℕ) → w < length c → word c w ≢ []) → (w : ℕ) → w < length c → weight c w ≤ weighted_length c
weight_within [] words w inside = absurd (omega arith)
weight_within (u ∷ c) words zero inside =
    let most : u.0 ≤ u.0 * length u.1 = at_least u.0 (length u.1) (some_letters u.1 (words 0 (omega arith))) in
    omega (arith, most, sum_by-cons (λ (v : ℕ × Word). v.0 * length v.1) u c)
weight_within (u ∷ c) words (suc w) inside =
    let most : weight c w ≤ weighted_length c = weight_within c (λ v p. words (suc v) (omega arith)) w (omega arith) in
    omega (arith, most, sum_by-cons (λ (v : ℕ × Word). v.0 * length v.1) u c)

scaled_within : (k : ℕ) (c : Chain) → IsChain c → (w : ℕ) → w < length c → k * weight c w ≤ k * weighted_length c
scaled_within k c chain w inside = mul-le-mul_left k (weight_within c chain.words w inside)

module _ (first second : Chain) (d : Direction) (light : IsLight first second d) where
  -- the weights in the chain of a light direction have 32 bits
  pub first_fits : IsChain first → (w : ℕ) → w < length first → unsigned_abs d.s * weight first w < 2 ^ 32
  first_fits chain w inside =
      omega (arith, scaled_within (unsigned_abs d.s) first chain w inside, light)

  pub second_fits : IsChain second → (w : ℕ) → w < length second → unsigned_abs d.t * weight second w < 2 ^ 32
  second_fits chain w inside =
      omega (arith, scaled_within (unsigned_abs d.t) second chain w inside, light)

-- ---- generators
abbrev IsGenerator : Letter → Type 0
IsGenerator x = x.number < GENERATORS

inverse_generators : (w : Word) → All IsGenerator w → All IsGenerator (inverse_word w)
inverse_generators [] h = All-nil IsGenerator
inverse_generators (x ∷ w) h =
    subst (All IsGenerator) (sym (inverse_word-cons x w))
    (All-append IsGenerator (inverse_word w) (inverse_letter x ∷ []) (inverse_generators w (All-tail IsGenerator x w h))
    (All-cons IsGenerator (inverse_letter x) [] (All-head IsGenerator x w h) (All-nil IsGenerator)))

abbrev HaveGenerators : Chain → Type 0
HaveGenerators c = (w : ℕ) → w < length c → All IsGenerator (word c w)

have_times : (k : ℕ) (c : Chain) → HaveGenerators c → HaveGenerators (times k c)
have_times k [] h w inside = absurd (omega arith)
have_times k (u ∷ c) h zero inside = h 0 (omega arith)
have_times k (u ∷ c) h (suc w) inside = have_times k c (λ v p. h (suc v) (omega arith)) w (omega arith)

have_inverses : (c : Chain) → HaveGenerators c → HaveGenerators (inverses c)
have_inverses [] h w inside = absurd (omega arith)
have_inverses (u ∷ c) h zero inside = inverse_generators u.1 (h 0 (omega arith))
have_inverses (u ∷ c) h (suc w) inside = have_inverses c (λ v p. h (suc v) (omega arith)) w (omega arith)

have_both : (c d : Chain) → HaveGenerators c → HaveGenerators d → HaveGenerators (c ++ d)
have_both [] d of_c of_d w inside = of_d w inside
have_both (u ∷ c) d of_c of_d zero inside = of_c 0 (omega arith)
have_both (u ∷ c) d of_c of_d (suc w) inside = have_both c d (λ v p. of_c (suc v) (omega arith)) of_d w (omega arith)

have_second : (q : Quadrant) (second : Chain) → HaveGenerators second → HaveGenerators (second_words q second)
have_second Lower second h = have_inverses second h
have_second Upper second h = h

have_from : (c : Chain) → AreGenerators c → HaveGenerators c
have_from c h w inside = All-from_get_or IsGenerator (word c w) no_letter (λ k below. h w k inside below)

-- the letters of a direction's chain are those of generators
pub generators_at : (q : Quadrant) (first second : Chain) (d : Direction) → IsSmallChain first → IsSmallChain second → AreGenerators (chain_of q first second d)
generators_at q first second d small_first small_second w k inside below =
    have_both (times (unsigned_abs d.s) first) (times (unsigned_abs d.t) (second_words q second))
    (have_times (unsigned_abs d.s) first (have_from first (generators_of first small_first)))
    (have_times (unsigned_abs d.t) (second_words q second) (have_second q second (have_from second (generators_of second small_second)))) w inside k no_letter below

-- ---- how many words and positions
words_times : (k : ℕ) (c : Chain) → length (times k c) ≡ length c
words_times k [] = refl
words_times k (u ∷ c) = ap suc (words_times k c)

words_second : (q : Quadrant) (c : Chain) → length (second_words q c) ≡ length c
words_second Upper c = refl
words_second Lower c = length-map c (λ (w : ℕ × Word). (w.0, inverse_word w.1))

positions_times : (k : ℕ) (c : Chain) → positions (times k c) ≡ positions c
positions_times k [] = refl
positions_times k (u ∷ c) =
    omega (arith, sum_by-cons (λ (w : ℕ × Word). length w.1) (k * u.0, u.1) (times k c), sum_by-cons (λ (w : ℕ × Word). length w.1) u c, positions_times k c)

length_inverse : (w : Word) → length (inverse_word w) ≡ length w
length_inverse w = length-map (reverse w) inverse_letter ∙ length-reverse w

positions_inverses : (c : Chain) → positions (inverses c) ≡ positions c
positions_inverses [] = refl
positions_inverses (u ∷ c) =
    omega (arith, sum_by-cons (λ (w : ℕ × Word). length w.1) (u.0, inverse_word u.1) (inverses c), sum_by-cons (λ (w : ℕ × Word). length w.1) u c, positions_inverses c, length_inverse u.1)

positions_second : (q : Quadrant) (c : Chain) → positions (second_words q c) ≡ positions c
positions_second Upper c = refl
positions_second Lower c = positions_inverses c

module _ (q : Quadrant) (first second : Chain) (d : Direction) where
  abbrev some_first : Chain
  some_first = times (unsigned_abs d.s) first

  abbrev some_second : Chain
  some_second = times (unsigned_abs d.t) (second_words q second)

  -- a direction's chain has the words of both chains, and so the positions of both
  pub words_at : length (chain_of q first second d) ≡ length first + length second
  words_at =
      let both : length (some_first ++ some_second) ≡ length some_first + length some_second = length-append some_first some_second in
      omega (arith, both, words_times (unsigned_abs d.s) first, words_times (unsigned_abs d.t) (second_words q second), words_second q second)

  pub positions_at : positions (chain_of q first second d) ≡ positions first + positions second
  positions_at =
      let both : positions (some_first ++ some_second) ≡ positions some_first + positions some_second = sum_by-append (λ (w : ℕ × Word). length w.1) some_first some_second in
      omega (arith, both, positions_times (unsigned_abs d.s) first, positions_times (unsigned_abs d.t) (second_words q second), positions_second q second)

  module _ (small_first : IsSmallChain first) (small_second : IsSmallChain second) (few_words : length first + length second ≤ MAX_WORDS) (few_positions : positions first + positions second ≤ MAX_POSITIONS) (light : IsLight first second d) where
    -- the chain of a light direction is accepted, where both chains together are within the limits
    pub accepted_at : IsAccepted (chain_of q first second d)
    accepted_at =
        let chain : IsChain (chain_of q first second d) = is_chain q first second d small_first.chain small_second.chain in
        record {
          good = λ w inside. record { nonempty = chain.words w inside; reduced = chain.reduced w inside };
          few_words = omega (arith, words_at, few_words);
          few_positions = omega (arith, positions_at, few_positions);
          light = chain_light q first second d light;
        }

    -- so a refusal is want of memory
    pub only_memory : (r : Result Chain ChainFault) (e : ChainFault) → ((f : ChainFault) → f ≢ Memory → IsErrOf r f ↔ IsFaultOf (chain_of q first second d) f) → r ≡ Err e → e ≢ Memory → ⊥
    only_memory r e faults is other = accepted_faultless (chain_of q first second d) e accepted_at ((faults e other).0 is)
