-- The chains of directions have the words of their quadrant's chain.
use Rattle.std.proofs.Common.{◌≡◌, ℕ, [], ◌∷◌, List, ◌++◌, unsigned_abs, ◌↔◌, refl, ap, sym, ◌∙◌}
use Rattle.sc_theory.specs.Words.{Word}
use Rattle.sc_theory.specs.Chains.{Chain}
use Rattle.sc_theory.specs.Prices.{Prices, Covers}
use Rattle.sc_cone.specs.declared.Direction.{Direction}
use Rattle.sc_cone.specs.declared.Quadrant.{Quadrant}
use Rattle.sc_cone.specs.Cones.{times, cone, second_words, chain_of, quadrant_chain}
use Rattle.sc_cone.proofs.SameWords.{words, Same, same_words, covers_same}

words_times : (a : ℕ) (c : Chain) → words (times a c) ≡ words c
words_times a [] = refl
words_times a (u ∷ c) = ap (λ (ws : List Word). u.1 ∷ ws) (words_times a c)

words_cone : (c d : Chain) (a b : ℕ) → words (cone c d a b) ≡ words (c ++ d)
words_cone [] d a b = words_times b d
words_cone (u ∷ c) d a b = ap (λ (ws : List Word). u.1 ∷ ws) (words_cone c d a b)

-- the chains of all directions of a quadrant, and the quadrant's chain, have the same words
pub same_cones : (c d : Chain) (a b m n : ℕ) → Same (cone c d a b) (cone c d m n)
same_cones c d a b m n = same_words (cone c d a b) (cone c d m n) (words_cone c d a b ∙ sym (words_cone c d m n))

pub same_quadrant : (c d : Chain) (a b : ℕ) → Same (cone c d a b) (c ++ d)
same_quadrant c d a b = same_words (cone c d a b) (c ++ d) (words_cone c d a b)

pub quadrant_same : (c d : Chain) (a b : ℕ) → Same (c ++ d) (cone c d a b)
quadrant_same c d a b = same_words (c ++ d) (cone c d a b) (sym (words_cone c d a b))

-- a list covers the chain of a direction exactly where it covers the quadrant's chain
pub covers_all : (q : Quadrant) (first second : Chain) (list : Prices) (d : Direction) → Covers (quadrant_chain q first second) list ↔ Covers (chain_of q first second d) list
covers_all q first second list d =
    let other : Chain = second_words q second in
    let a : ℕ = unsigned_abs d.s in
    let b : ℕ = unsigned_abs d.t in
    (covers_same (cone first other a b) (first ++ other) (same_quadrant first other a b) list, covers_same (first ++ other) (cone first other a b) (quadrant_same first other a b) list)
