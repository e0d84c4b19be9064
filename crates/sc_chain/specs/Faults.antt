-- What every chain keeps, and the fault of a list of words that is no such chain.
use Rattle.std.specs.Prelude.{◌≡◌, ◌≢◌, ℕ, ◌<◌, ◌≤◌, [], length, get_or}
use Rattle.sc_theory.specs.Words.{Word, IsReduced}
use Rattle.sc_theory.specs.Places.{IsLeastCancelling}
use Rattle.sc_theory.specs.Chains.{Chain, IsChain, no_letter, word, positions, letter, weighted_length}
use Rattle.sc_chain.specs.declared.fault.ChainFault.{ChainFault}
use Rattle.sc_chain.specs.declared.fault.ChainFault.TheVariants.{EmptyWord, NotReduced, ManyWords, ManyPositions, Heavy, Memory}
use Rattle.sc_words.specs.declared.limits.TheConstants.{GENERATORS}
use Rattle.sc_chain.specs.declared.limits.TheConstants.{MAX_WORDS, MAX_POSITIONS, MAX_LENGTH}

-- what every chain keeps
pub record IsSmallChain (c : Chain) : Type 0 where
  pub chain : IsChain c
  pub generators : (i : ℕ) → i < positions c → (letter c i).number < GENERATORS
  pub few_words : length c ≤ MAX_WORDS
  pub few_positions : positions c ≤ MAX_POSITIONS
  pub light : weighted_length c ≤ MAX_LENGTH

-- the letters of a list of words are those of the generators
abbrev pub AreGenerators : Chain → Type 0
AreGenerators c = (w k : ℕ) → w < length c → k < length (word c w) → (get_or (word c w) k no_letter).number < GENERATORS

pub record IsGoodWord (w : Word) : Type 0 where
  pub nonempty : w ≢ []
  pub reduced : IsReduced w

-- each of the first n words is nonempty and reduced
abbrev pub AreGoodBelow : Chain → ℕ → Type 0
AreGoodBelow c n = (w : ℕ) → w < n → IsGoodWord (word c w)

-- the fault of a list of words: of the first word that is empty or not reduced; else of the number of words; else of
-- the number of letters; else of the weighted length
pub record HasEmptyWord (c : Chain) (w : ℕ) : Type 0 where
  pub in_range : w < length c
  pub before : AreGoodBelow c w
  pub empty : word c w ≡ []

pub record HasFlaw (c : Chain) (w place : ℕ) : Type 0 where
  pub in_range : w < length c
  pub before : AreGoodBelow c w
  pub flaw : IsLeastCancelling (word c w) place

pub record HasManyWords (c : Chain) (count : ℕ) : Type 0 where
  pub good : AreGoodBelow c (length c)
  pub many : MAX_WORDS < length c
  pub count_is : count ≡ length c

pub record HasManyPositions (c : Chain) (count : ℕ) : Type 0 where
  pub good : AreGoodBelow c (length c)
  pub few_words : length c ≤ MAX_WORDS
  pub many : MAX_POSITIONS < positions c
  pub count_is : count ≡ positions c

pub record IsHeavy (c : Chain) (total : ℕ) : Type 0 where
  pub good : AreGoodBelow c (length c)
  pub few_words : length c ≤ MAX_WORDS
  pub few_positions : positions c ≤ MAX_POSITIONS
  pub heavy : MAX_LENGTH < weighted_length c
  pub total_is : total ≡ weighted_length c

-- want of memory is no fault of the words
abbrev pub IsFaultOf : Chain → ChainFault → Type 0
IsFaultOf c (EmptyWord w) = HasEmptyWord c w
IsFaultOf c (NotReduced w k) = HasFlaw c w k
IsFaultOf c (ManyWords n) = HasManyWords c n
IsFaultOf c (ManyPositions n) = HasManyPositions c n
IsFaultOf c (Heavy n) = IsHeavy c n
IsFaultOf c Memory = ⊥

-- a list of words without a fault
pub record IsAccepted (c : Chain) : Type 0 where
  pub good : AreGoodBelow c (length c)
  pub few_words : length c ≤ MAX_WORDS
  pub few_positions : positions c ≤ MAX_POSITIONS
  pub light : weighted_length c ≤ MAX_LENGTH
