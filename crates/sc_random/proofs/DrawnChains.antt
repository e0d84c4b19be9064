-- The chain of two commutators is balanced, and within the limits.
use Rattle.std.proofs.Common.{◌≡◌, ℕ, zero, suc, ◌-◌, ◌*◌, ◌≤◌, List, [], ◌∷◌, ◌++◌, length, take, drop, get_or, All, None, ℤ, pos, ◌+ℤ◌, ◌*ℤ◌, unsigned_abs, refl, ap, ap₂, ◌∙◌, arith}
use Rattle.std.proofs.lemmas.Int.{ints}
use Rattle.std.proofs.lemmas.List.{length-append, length-take-le, length-drop}
use Rattle.std.proofs.lemmas.List.Elements.{All-nil, All-cons}
use Rattle.std.proofs.lemmas.List.Sums.{sum_by-cons}
use Rattle.rand_core.specs.Pcg32Seed.{pcg32_seed}
use Rattle.rand_pcg.specs.Pcg.{pcg32_of_seed}
use Rattle.sc_theory.specs.Words.{Word, inverse_word, total, cyclic_reduction}
use Rattle.sc_theory.specs.Chains.{positions, IsBalanced, no_letter}
use Rattle.sc_theory.proofs.WordLaws.{total-append, total-inverse_word}
use Rattle.sc_words.specs.declared.lines.RawLine.{RawLine}
use Rattle.sc_words.specs.ChainText.{IsRawLine}
use Rattle.sc_chain.specs.declared.fault.ChainFault.{ChainFault}
use Rattle.sc_chain.specs.declared.fault.ChainFault.TheVariants.{EmptyWord, NotReduced, ManyWords, ManyPositions, Heavy, Memory}
use Rattle.sc_reduce.specs.Lines.{signed_word, weighted_word, line_chain, chain_of, letters_of, IsWithin, IsExcess}
use Rattle.sc_reduce.proofs.LineLaws.{positions_of_chain, chain_total-chain_of}
use Rattle.sc_random.specs.Drawn.{draws_of, drawn_word, commutator, drawn_commutator, drawn_lines, drawn_chain}
use Rattle.sc_random.proofs.DrawnWords.{IsDrawn, word_drawn, commutator_drawn, length-drawn_commutator, length-first_words}

-- ---- totals

total-commutator : (g : ℕ) (u v : Word) → total g (commutator u v) ≡ pos 0
total-commutator g u v =
    omega (arith, ints, total-append g u (v ++ (inverse_word u ++ inverse_word v)), total-append g v (inverse_word u ++ inverse_word v), total-append g (inverse_word u) (inverse_word v), total-inverse_word g u, total-inverse_word g v)

pub balanced : (seed k : ℕ) → IsBalanced (drawn_chain seed k)
balanced seed k g =
    let first : List ℕ = take (2 * k) (draws_of seed (4 * k)) in
    let second : List ℕ = drop (2 * k) (draws_of seed (4 * k)) in
    chain_total-chain_of g (drawn_lines seed k)
    ∙ ap₂ (λ (a b : ℤ). pos 1 *ℤ a +ℤ (pos 1 *ℤ b +ℤ pos 0))
    (total-commutator g (drawn_word (take k first)) (drawn_word (drop k first)))
    (total-commutator g (drawn_word (take k second)) (drawn_word (drop k second)))

-- ---- limits

pub length-draws : (seed n : ℕ) → length (draws_of seed n) ≡ n
length-draws seed n = length-first_words n (pcg32_of_seed (pcg32_seed 16 seed))

-- two commutators of two words of k letters each
pub letters : (seed k : ℕ) → letters_of (drawn_lines seed k) ≡ 8 * k
letters seed k =
    let draws : List ℕ = draws_of seed (4 * k) in
    let first : List ℕ = take (2 * k) draws in
    let second : List ℕ = drop (2 * k) draws in
    let size : length draws ≡ 4 * k = length-draws seed (4 * k) in
    let one : length first ≡ 2 * k = length-take-le (2 * k) draws (omega (arith, size)) in
    let two : length second ≡ 4 * k - 2 * k = length-drop (2 * k) draws ∙ ap (λ (n : ℕ). n - 2 * k) size in
    omega (
      arith,
      sum_by-cons (λ (l : RawLine). length l.word) (record { line = 1; coefficient = pos 1; word = drawn_commutator k first }) (record { line = 2; coefficient = pos 1; word = drawn_commutator k second } ∷ []),
      sum_by-cons (λ (l : RawLine). length l.word) (record { line = 2; coefficient = pos 1; word = drawn_commutator k second }) [],
      length-drawn_commutator k first (omega (arith, one)),
      length-drawn_commutator k second (omega (arith, two)),
      one,
      two,
    )

-- their reduction leaves no more positions
pub few_positions : (seed k : ℕ) → positions (drawn_chain seed k) ≤ 8 * k
few_positions seed k = omega (arith, positions_of_chain (drawn_lines seed k), letters seed k)

one_word : (n : ℕ) (w : Word) → length (weighted_word n w) ≤ 1
one_word zero w = omega arith
one_word (suc n) [] = omega arith
one_word (suc n) (x ∷ w) = omega arith

-- a line gives at most one word
pub words_of_lines : (lines : List RawLine) → length (chain_of lines) ≤ length lines
words_of_lines [] = omega arith
words_of_lines (l ∷ lines) =
    omega (arith, words_of_lines lines, length-append (line_chain l) (chain_of lines), one_word (unsigned_abs l.coefficient) (signed_word l.coefficient (cyclic_reduction l.word)))

-- words of at most 8 letters keep the chain within the limits
pub within : (seed k : ℕ) → k ≤ 8 → IsWithin (drawn_chain seed k)
within seed k l = record {
  few_words = omega (arith, words_of_lines (drawn_lines seed k));
  few_positions = omega (arith, few_positions seed k, l);
}

-- ---- lines of a text

raw : (number : ℕ) (k : ℕ) (draws : List ℕ) → IsRawLine (record { line = number; coefficient = pos 1; word = drawn_commutator k draws })
raw number k draws = record {
  low = omega (arith, ints);
  high = omega (arith, ints);
  generators = λ i inside.
      let two : IsDrawn (get_or (drawn_commutator k draws) i no_letter) =
      commutator_drawn (drawn_word (take k draws)) (drawn_word (drop k draws)) (word_drawn None (take k draws)) (word_drawn None (drop k draws)) i no_letter inside in
      omega (arith, two);
}

-- the lines are such as stand in a chain text
pub raw_lines : (seed k : ℕ) → All IsRawLine (drawn_lines seed k)
raw_lines seed k =
    let first : RawLine = record { line = 1; coefficient = pos 1; word = drawn_commutator k (take (2 * k) (draws_of seed (4 * k))) } in
    let second : RawLine = record { line = 2; coefficient = pos 1; word = drawn_commutator k (drop (2 * k) (draws_of seed (4 * k))) } in
    All-cons IsRawLine first (second ∷ []) (raw 1 k (take (2 * k) (draws_of seed (4 * k))))
    (All-cons IsRawLine second [] (raw 2 k (drop (2 * k) (draws_of seed (4 * k)))) (All-nil IsRawLine))

-- no limit is passed, so that want of memory is the one refusal
pub memory_alone : (seed k : ℕ) (fault : ChainFault) → k ≤ 8 → IsExcess (drawn_chain seed k) fault → fault ≡ Memory
memory_alone seed k (EmptyWord w) l h = absurd h
memory_alone seed k (NotReduced w p) l h = absurd h
memory_alone seed k (ManyWords n) l h = absurd (omega (arith, h.many, (within seed k l).few_words))
memory_alone seed k (ManyPositions n) l h = absurd (omega (arith, h.many, (within seed k l).few_positions))
memory_alone seed k (Heavy n) l h = absurd h
memory_alone seed k Memory l h = refl
