-- The chain of the lines of a text, and the limits that it may pass.
use Rattle.std.specs.Prelude.{◌≡◌, ℕ, zero, suc, ◌<◌, ◌≤◌, List, [], ◌∷◌, length, ℤ, pos, negsuc, ◌+ℤ◌, ◌*ℤ◌, unsigned_abs}
use Rattle.std.specs.List.{sum_by, flat_map}
use Rattle.sc_theory.specs.Words.{Word, inverse_word, total, cyclic_reduction}
use Rattle.sc_theory.specs.Chains.{Chain, positions}
use Rattle.sc_words.specs.declared.lines.RawLine.{RawLine}
use Rattle.sc_chain.specs.declared.fault.ChainFault.{ChainFault}
use Rattle.sc_chain.specs.declared.fault.ChainFault.TheVariants.{EmptyWord, NotReduced, ManyWords, ManyPositions, Heavy, Memory}
use Rattle.sc_chain.specs.declared.limits.TheConstants.{MAX_WORDS, MAX_POSITIONS}

-- the word, or its inverse where the coefficient is negative
abbrev pub signed_word : ℤ → Word → Word
signed_word (pos n) w = w
signed_word (negsuc n) w = inverse_word w

-- the chain of one word with its weight; a word without letters and one of weight 0 make none
abbrev pub weighted_word : ℕ → Word → Chain
weighted_word zero w = []
weighted_word (suc n) [] = []
weighted_word (suc n) (x ∷ w) = (suc n, x ∷ w) ∷ []

-- the chain of one line: its word is cyclically reduced, and weighted by the coefficient's size
abbrev pub line_chain : RawLine → Chain
line_chain l = weighted_word (unsigned_abs l.coefficient) (signed_word l.coefficient (cyclic_reduction l.word))

-- the chain of the lines, in their order; equal words aren't merged
abbrev pub chain_of : List RawLine → Chain
chain_of lines = flat_map line_chain lines

-- the letters of the lines as written
abbrev pub letters_of : List RawLine → ℕ
letters_of lines = sum_by (λ l. length l.word) lines

-- the total of the generator g over the lines as written
abbrev pub lines_total : ℕ → List RawLine → ℤ
lines_total g [] = pos 0
lines_total g (l ∷ lines) = l.coefficient *ℤ total g l.word +ℤ lines_total g lines

-- a chain within the limits
pub record IsWithin (c : Chain) : Type 0 where
  pub few_words : length c ≤ MAX_WORDS
  pub few_positions : positions c ≤ MAX_POSITIONS

-- the limit that a chain passes: too many words, else too many positions
pub record HasManyWords (c : Chain) (count : ℕ) : Type 0 where
  pub many : MAX_WORDS < length c
  pub count_is : count ≡ length c

pub record HasManyPositions (c : Chain) (count : ℕ) : Type 0 where
  pub few_words : length c ≤ MAX_WORDS
  pub many : MAX_POSITIONS < positions c
  pub count_is : count ≡ positions c

-- want of memory is free
abbrev pub IsExcess : Chain → ChainFault → Type 0
IsExcess c (EmptyWord w) = ⊥
IsExcess c (NotReduced w k) = ⊥
IsExcess c (ManyWords n) = HasManyWords c n
IsExcess c (ManyPositions n) = HasManyPositions c n
IsExcess c (Heavy n) = ⊥
IsExcess c Memory = Unit {0}
