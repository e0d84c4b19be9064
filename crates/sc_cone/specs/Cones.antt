-- The chains of directions: the words of two chains, with the weights of each taken some number of times.
use Rattle.std.specs.Prelude.{ℕ, ◌*◌, ◌++◌, map, unsigned_abs}
use Rattle.sc_theory.specs.Words.{Word, inverse_word}
use Rattle.sc_theory.specs.Chains.{Chain}
use Rattle.sc_cone.specs.declared.Direction.{Direction}
use Rattle.sc_cone.specs.declared.Quadrant.{Quadrant}
use Rattle.sc_cone.specs.declared.Quadrant.TheVariants.{Lower, Upper}

-- the words of a chain with k times their weights
abbrev pub times : ℕ → Chain → Chain
times k c = map (λ (w : ℕ × Word). (k * w.0, w.1)) c

-- the inverses of a chain's words, with their weights
abbrev pub inverses : Chain → Chain
inverses c = map (λ (w : ℕ × Word). (w.0, inverse_word w.1)) c

-- the words of c with a times their weights, then those of d with b times theirs
abbrev pub cone : Chain → Chain → ℕ → ℕ → Chain
cone c d a b = times a c ++ times b d

-- the words that stand for the second chain in a quadrant
abbrev pub second_words : Quadrant → Chain → Chain
second_words Lower second = inverses second
second_words Upper second = second

-- the chain of a direction s, t: the words of the first chain with s times their weights, then those of the second, or
-- their inverses, with the size of t times theirs
abbrev pub chain_of : Quadrant → Chain → Chain → Direction → Chain
chain_of q first second d = cone first (second_words q second) (unsigned_abs d.s) (unsigned_abs d.t)

-- the quadrant's chain: all these words with the weights that they have
abbrev pub quadrant_chain : Quadrant → Chain → Chain → Chain
quadrant_chain q first second = first ++ second_words q second
