-- Said by private functions alone: the lists that the seed surface is made with: the numbers of the letters at its
-- sides, and their mates.
use Rattle.std.specs.Prelude.{◌≡◌, ℕ, ◌<◌, List, length, get_or}
use Rattle.sc_theory.specs.declared.Side.{Side}
use Rattle.sc_theory.specs.Words.{inverse_letter}
use Rattle.sc_theory.specs.Chains.{Chain, letter}
use Rattle.sc_theory.specs.Fatgraphs.{no_side}
use Rattle.sc_gluing.specs.Cycles.{labels_of, at}
use Rattle.sc_gluing.specs.Seeds.{word_cycles, letter_rank}
use Rattle.sc_gluing.specs.Letters.{code}

-- the numbers of the letters at the first n labels, and of their inverses
pub record AreCodes (c : Chain) (labels : List ℕ) (n : ℕ) (codes : List ℕ) : Type 0 where
  pub as_many : length codes ≡ n
  pub codes_are : (s : ℕ) → s < n → get_or codes s 0 ≡ code (letter c (get_or labels s 0))

pub record AreInverseCodes (c : Chain) (labels : List ℕ) (n : ℕ) (codes : List ℕ) : Type 0 where
  pub as_many : length codes ≡ n
  pub codes_are : (s : ℕ) → s < n → get_or codes s 0 ≡ code (inverse_letter (letter c (get_or labels s 0)))

-- t is the side with the inverse letter that stands at the same place among those with its letter as s does among those
-- with its
pub record AreLetterMates (c : Chain) (s t : ℕ) : Type 0 where
  pub inside : t < length (labels_of (word_cycles c))
  pub inverse : letter c (at (word_cycles c) t) ≡ inverse_letter (letter c (at (word_cycles c) s))
  pub ranks : letter_rank c (word_cycles c) s ≡ letter_rank c (word_cycles c) t

-- the mate of each side
pub record AreSeedMates (c : Chain) (mates : List ℕ) : Type 0 where
  pub as_many : length mates ≡ length (labels_of (word_cycles c))
  pub are : (s : ℕ) → s < length (labels_of (word_cycles c)) → AreLetterMates c s (get_or mates s 0)

-- the first n sides with these labels, mates and nexts
pub record AreListed (labels mates nexts : List ℕ) (n : ℕ) (sides : List Side) : Type 0 where
  pub as_many : length sides ≡ n
  pub sides_are : (s : ℕ) → s < n → get_or sides s no_side ≡ record { label = get_or labels s 0; mate = get_or mates s 0; next = get_or nexts s 0 }
