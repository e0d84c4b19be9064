-- The seed surface of a balanced chain: copies of its words, glued letter to inverse letter.
use Rattle.std.specs.Prelude.{◌≡◌, ℕ, ◌<◌, ◌==◌, ◌&&◌, Bool, List, map, length}
use Rattle.std.specs.List.{range_with_len}
use Rattle.sc_algebra.specs.Sums.{count_below}
use Rattle.sc_theory.specs.declared.Letter.{Letter}
use Rattle.sc_theory.specs.Words.{inverse_letter, same_sign}
use Rattle.sc_theory.specs.Chains.{Chain, weight, word, first, letter}
use Rattle.sc_theory.specs.Fatgraphs.{Sides, label, mate, next}
use Rattle.sc_gluing.specs.Cycles.{Parts, copies_of, labels_of, at, after}

-- the positions of the word number w in their order
abbrev pub positions_of : Chain → ℕ → List ℕ
positions_of c w = range_with_len (first c w) (length (word c w))

-- each word with its weight as the number of copies
abbrev pub word_parts : Chain → Parts
word_parts c = map (λ w. (positions_of c w, weight c w)) (range_with_len 0 (length c))

-- word by word, copy by copy, letter by letter
abbrev pub word_cycles : Chain → List (List ℕ)
word_cycles c = copies_of (word_parts c)

-- whether two letters are the same
abbrev pub same_letter : Letter → Letter → Bool
same_letter x y = (x.number == y.number) && same_sign x.inverse y.inverse

-- how many of the sides before s have its letter
abbrev pub letter_rank : Chain → List (List ℕ) → ℕ → ℕ
letter_rank c cycles s = count_below (λ t. same_letter (letter c (at cycles t)) (letter c (at cycles s))) s

-- the sides run along the copies of the words, next goes round a copy, and the k-th side with a letter is the mate of
-- the k-th side with its inverse
pub record IsSeed (c : Chain) (g : Sides) : Type 0 where
  pub labels : map (λ s. s.label) g ≡ labels_of (word_cycles c)
  pub nexts : (s : ℕ) → s < length g → next g s ≡ after (word_cycles c) s
  pub mates : (s t : ℕ) → s < length g → t < length g → letter c (label g t) ≡ inverse_letter (letter c (label g s)) →
      letter_rank c (word_cycles c) s ≡ letter_rank c (word_cycles c) t → mate g s ≡ t
