-- The chains of the examples are chains: no word is empty, and none allows a deletion.
use Rattle.std.proofs.Common.{◌≢◌, ℕ, zero, suc, ◌<◌, [], arith, refl}
use Rattle.sc_theory.specs.Words.{IsReduced}
use Rattle.sc_theory.specs.Chains.{IsChain, word}
use Rattle.sc_theory.specs.Examples.{commutator, opposite_words}

commutator_words : (w : ℕ) → w < 1 → word commutator w ≢ []
commutator_words zero inside = λ e. cc
commutator_words (suc w) inside = absurd (omega arith)

commutator_reduced : (w : ℕ) → w < 1 → IsReduced (word commutator w)
commutator_reduced zero inside = refl
commutator_reduced (suc w) inside = absurd (omega arith)

pub commutator_chain : IsChain commutator
commutator_chain = record { words = commutator_words; reduced = commutator_reduced }

opposite_words_words : (w : ℕ) → w < 2 → word opposite_words w ≢ []
opposite_words_words zero inside = λ e. cc
opposite_words_words (suc zero) inside = λ e. cc
opposite_words_words (suc (suc w)) inside = absurd (omega arith)

opposite_words_reduced : (w : ℕ) → w < 2 → IsReduced (word opposite_words w)
opposite_words_reduced zero inside = refl
opposite_words_reduced (suc zero) inside = refl
opposite_words_reduced (suc (suc w)) inside = absurd (omega arith)

pub opposite_words_chain : IsChain opposite_words
opposite_words_chain = record { words = opposite_words_words; reduced = opposite_words_reduced }
