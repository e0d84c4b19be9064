-- Words that are drawn by a seed, and the chain of two commutators of them.
use Rattle.std.specs.Prelude.{ℕ, ◌*◌, ◌%◌, true, false, not, List, [], ◌∷◌, ◌++◌, take, drop, length, get_or, Option, None, Some, pos}
use Rattle.std.specs.List.{filter}
use Rattle.rand_core.specs.Steps.{first_words}
use Rattle.rand_core.specs.Pcg32Seed.{pcg32_seed}
use Rattle.rand_pcg.specs.Pcg.{pcg32, pcg32_of_seed}
use Rattle.sc_theory.specs.declared.Letter.{Letter}
use Rattle.sc_theory.specs.Words.{Word, is_inverse, inverse_word}
use Rattle.sc_theory.specs.Chains.{Chain, no_letter}
use Rattle.sc_words.specs.declared.lines.RawLine.{RawLine}
use Rattle.sc_reduce.specs.Lines.{chain_of}

-- the draws of a seed: the first n outputs, each of 32 bits, of the generator PCG32 that is made of the seed
abbrev pub draws_of : ℕ → ℕ → List ℕ
draws_of seed n = first_words pcg32 n (pcg32_of_seed (pcg32_seed 16 seed))

-- the letters that words are made of, in order: a, b and their inverses
abbrev pub drawn_letters : List Letter
drawn_letters =
    record { number = 0; inverse = false }
    ∷ record { number = 1; inverse = false }
    ∷ record { number = 0; inverse = true }
    ∷ record { number = 1; inverse = true }
    ∷ []

-- those that may stand behind a letter, in the same order: all but its inverse. At the beginning of a word any may
-- stand
abbrev pub letters_behind : Option Letter → List Letter
letters_behind None = drawn_letters
letters_behind (Some x) = filter (λ y. not (is_inverse x y)) drawn_letters

-- the letter that a draw takes from some: that with its number modulo theirs, counted from 0
abbrev pub taken : List Letter → ℕ → Letter
taken letters draw = get_or letters (draw % length letters) no_letter

-- the word of draws, a letter each, behind a letter or at the beginning
abbrev pub word_behind : Option Letter → List ℕ → Word
word_behind before [] = []
word_behind before (draw ∷ draws) =
    taken (letters_behind before) draw ∷ word_behind (Some (taken (letters_behind before) draw)) draws

abbrev pub drawn_word : List ℕ → Word
drawn_word draws = word_behind None draws

-- two words, and then their inverses
abbrev pub commutator : Word → Word → Word
commutator u v = u ++ (v ++ (inverse_word u ++ inverse_word v))

-- the commutator of the word of the first k draws and that of the others
abbrev pub drawn_commutator : ℕ → List ℕ → Word
drawn_commutator k draws = commutator (drawn_word (take k draws)) (drawn_word (drop k draws))

-- the lines of two commutators, of the words of k letters that a seed gives one after another
abbrev pub drawn_lines : ℕ → ℕ → List RawLine
drawn_lines seed k =
    record { line = 1; coefficient = pos 1; word = drawn_commutator k (take (2 * k) (draws_of seed (4 * k))) }
    ∷ record { line = 2; coefficient = pos 1; word = drawn_commutator k (drop (2 * k) (draws_of seed (4 * k))) }
    ∷ []

-- their chain: the words are reduced
abbrev pub drawn_chain : ℕ → ℕ → Chain
drawn_chain seed k = chain_of (drawn_lines seed k)
