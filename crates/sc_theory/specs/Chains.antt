-- Chains: words with weights, their positions, and balance.
use Rattle.std.specs.Prelude.{◌≡◌, ◌≢◌, ℕ, suc, pred, ◌-◌, ◌*◌, ◌<◌, false, ◌==◌, nat_lt, if◌then◌else◌, List, [], ◌∷◌, length, get_or, take, ℤ, pos, ◌+ℤ◌, ◌*ℤ◌}
use Rattle.std.specs.List.{sum_by, flat_map}
use Rattle.sc_theory.specs.declared.Letter.{Letter}
use Rattle.sc_theory.specs.Words.{Word, IsReduced, total}

-- a chain is a list of words with their weights
abbrev pub Chain : Type 0
Chain = List (ℕ × Word)

-- what stands past the end of a chain, and of a word
abbrev pub no_word : ℕ × Word
no_word = (0, [])

abbrev pub no_letter : Letter
no_letter = record { number = 0; inverse = false }

-- the weight of the word number w, and its letters
abbrev pub weight : Chain → ℕ → ℕ
weight c w = (get_or c w no_word).0

abbrev pub word : Chain → ℕ → Word
word c w = (get_or c w no_word).1

-- a chain as the subject has it: no word is empty, and none allows a deletion
pub record IsChain (c : Chain) : Type 0 where
  pub words : (w : ℕ) → w < length c → word c w ≢ []
  pub reduced : (w : ℕ) → w < length c → IsReduced (word c w)

-- the number of positions: the letters of all words
abbrev pub positions : Chain → ℕ
positions c = sum_by (λ w. length w.1) c

-- the weighted length: the sum of weight times number of letters
abbrev pub weighted_length : Chain → ℕ
weighted_length c = sum_by (λ w. w.0 * length w.1) c

-- the first position of the word number w: the positions are numbered through the words
abbrev pub first : Chain → ℕ → ℕ
first c w = positions (take w c)

-- the word that a position lies in
abbrev pub word_of : Chain → ℕ → ℕ
word_of [] i = 0
word_of (w ∷ c) i = if nat_lt i (length w.1) then 0 else suc (word_of c (i - length w.1))

-- the letter at a position
abbrev pub letter : Chain → ℕ → Letter
letter c i = get_or (flat_map (λ w. w.1) c) i no_letter

-- the next position round the word, and the one before
abbrev pub succ : Chain → ℕ → ℕ
succ c i = if suc i == first c (suc (word_of c i)) then first c (word_of c i) else suc i

abbrev pub prev : Chain → ℕ → ℕ
prev c i = if i == first c (word_of c i) then pred (first c (suc (word_of c i))) else pred i

-- the total of the generator g: the sum of weight times the word's total
abbrev pub chain_total : ℕ → Chain → ℤ
chain_total g [] = pos 0
chain_total g (w ∷ c) = pos w.0 *ℤ total g w.1 +ℤ chain_total g c

-- every total is 0
abbrev pub IsBalanced : Chain → Type 0
IsBalanced c = (g : ℕ) → chain_total g c ≡ pos 0
