-- The chains of directions are chains, and balanced where the two chains are.
use Rattle.std.proofs.Common.{◌≡◌, ◌≢◌, ℕ, zero, suc, ◌*◌, ◌<◌, [], ◌∷◌, ◌++◌, reverse, length, ℤ, pos, neg_ℤ, ◌+ℤ◌, ◌*ℤ◌, unsigned_abs, arith, refl, sym, ap, ap₂, subst, ◌∙◌}
use Rattle.std.proofs.lemmas.Int.{ints}
use Rattle.std.proofs.lemmas.List.{length-map, length-reverse}
use Rattle.sc_algebra.proofs.Ints.{products, mul_neg, mul-zero}
use Rattle.sc_theory.specs.Words.{Word, IsReduced, inverse_letter, inverse_word, total}
use Rattle.sc_theory.specs.Chains.{Chain, IsChain, IsBalanced, word, chain_total}
use Rattle.sc_theory.proofs.Cyclic.{IsReduced-inverse_word}
use Rattle.sc_theory.proofs.WordLaws.{total-inverse_word}
use Rattle.sc_cone.specs.declared.Direction.{Direction}
use Rattle.sc_cone.specs.declared.Quadrant.{Quadrant}
use Rattle.sc_cone.specs.declared.Quadrant.TheVariants.{Lower, Upper}
use Rattle.sc_cone.specs.Cones.{times, inverses, second_words, chain_of, quadrant_chain}
use Rattle.sc_cone.proofs.SameWords.{Same}
use Rattle.sc_cone.proofs.ConeChains.{quadrant_same}

-- what holds of the words of two chains holds of those of both
of_both : (P : Word → Type 0) (c d : Chain) → ((w : ℕ) → w < length c → P (word c w)) → ((w : ℕ) → w < length d → P (word d w)) → (w : ℕ) → w < length (c ++ d) → P (word (c ++ d) w)
of_both P [] d of_c of_d w inside = of_d w inside
of_both P (u ∷ c) d of_c of_d zero inside = of_c 0 (omega arith)
of_both P (u ∷ c) d of_c of_d (suc w) inside = of_both P c d (λ v l. of_c (suc v) (omega arith)) of_d w (omega arith)

chain_of_both : (c d : Chain) → IsChain c → IsChain d → IsChain (c ++ d)
chain_of_both c d is_c is_d = record {
  words = of_both (λ (w : Word). w ≢ []) c d is_c.words is_d.words;
  reduced = of_both IsReduced c d is_c.reduced is_d.reduced;
}

chain_from_same : (c d : Chain) → Same c d → IsChain c → IsChain d
chain_from_same c d same is = record {
  words = λ w inside. subst (λ (v : Word). v ≢ []) (same.word w) (is.words w (subst (λ (n : ℕ). w < n) (sym same.size) inside));
  reduced = λ w inside. subst IsReduced (same.word w) (is.reduced w (subst (λ (n : ℕ). w < n) (sym same.size) inside));
}

-- the inverses of a chain's words
word_inverses : (c : Chain) (w : ℕ) → word (inverses c) w ≡ inverse_word (word c w)
word_inverses [] w = refl
word_inverses (u ∷ c) zero = refl
word_inverses (u ∷ c) (suc w) = word_inverses c w

length_inverses : (c : Chain) → length (inverses c) ≡ length c
length_inverses c = length-map c (λ (w : ℕ × Word). (w.0, inverse_word w.1))

empty_from_length : (w : Word) → length w ≡ 0 → w ≡ []
empty_from_length [] e = refl
empty_from_length (x ∷ w) e = absurd (omega arith)

inverse_not_empty : (w : Word) → w ≢ [] → inverse_word w ≢ []
inverse_not_empty w some none =
    some (empty_from_length w (sym (length-map (reverse w) inverse_letter ∙ length-reverse w) ∙ ap length none))

pub chain_of_inverses : (c : Chain) → IsChain c → IsChain (inverses c)
chain_of_inverses c is = record {
  words = λ w inside. subst (λ (v : Word). v ≢ []) (sym (word_inverses c w)) (inverse_not_empty (word c w) (is.words w (subst (λ (n : ℕ). w < n) (length_inverses c) inside)));
  reduced = λ w inside. subst IsReduced (sym (word_inverses c w)) (IsReduced-inverse_word (word c w) (is.reduced w (subst (λ (n : ℕ). w < n) (length_inverses c) inside)));
}

second_chain : (q : Quadrant) (second : Chain) → IsChain second → IsChain (second_words q second)
second_chain Lower second is = chain_of_inverses second is
second_chain Upper second is = is

-- over two chains the quadrant's chain is a chain, and so is that of each direction
pub quadrant_is_chain : (q : Quadrant) (first second : Chain) → IsChain first → IsChain second → IsChain (quadrant_chain q first second)
quadrant_is_chain q first second is_first is_second = chain_of_both first (second_words q second) is_first (second_chain q second is_second)

pub is_chain : (q : Quadrant) (first second : Chain) (d : Direction) → IsChain first → IsChain second → IsChain (chain_of q first second d)
is_chain q first second d is_first is_second =
    chain_from_same (quadrant_chain q first second) (chain_of q first second d)
    (quadrant_same first (second_words q second) (unsigned_abs d.s) (unsigned_abs d.t))
    (quadrant_is_chain q first second is_first is_second)

-- totals
total_of_both : (g : ℕ) (c d : Chain) → chain_total g (c ++ d) ≡ chain_total g c +ℤ chain_total g d
total_of_both g [] d = omega (arith, ints)
total_of_both g (u ∷ c) d = omega (arith, ints, total_of_both g c d)

total_times : (g k : ℕ) (c : Chain) → chain_total g (times k c) ≡ pos k *ℤ chain_total g c
total_times g k [] = sym (mul-zero (pos k))
total_times g k (u ∷ c) = ap (λ (t : ℤ). pos (k * u.0) *ℤ total g u.1 +ℤ t) (total_times g k c) ∙ more (pos k) (pos u.0) (total g u.1) (chain_total g c)
  where
    more : (a b x y : ℤ) → (a *ℤ b) *ℤ x +ℤ a *ℤ y ≡ a *ℤ (b *ℤ x +ℤ y)
    more a b x y = simp products (omega (arith, ints))

total_inverses : (g : ℕ) (c : Chain) → chain_total g (inverses c) ≡ neg_ℤ (chain_total g c)
total_inverses g [] = refl
total_inverses g (u ∷ c) =
    ap₂ (λ (s t : ℤ). pos u.0 *ℤ s +ℤ t) (total-inverse_word g u.1) (total_inverses g c) ∙ turned (pos u.0) (total g u.1) (chain_total g c)
  where
    turned : (a x y : ℤ) → a *ℤ neg_ℤ x +ℤ neg_ℤ y ≡ neg_ℤ (a *ℤ x +ℤ y)
    turned a x y = omega (arith, ints, mul_neg a x)

second_balanced : (q : Quadrant) (second : Chain) → IsBalanced second → IsBalanced (second_words q second)
second_balanced Lower second is g = total_inverses g second ∙ ap neg_ℤ (is g)
second_balanced Upper second is g = is g

-- over two balanced chains the chain of each direction is balanced
pub is_balanced : (q : Quadrant) (first second : Chain) (d : Direction) → IsBalanced first → IsBalanced second → IsBalanced (chain_of q first second d)
is_balanced q first second d of_first of_second g =
    let a : ℕ = unsigned_abs d.s in
    let b : ℕ = unsigned_abs d.t in
    let other : Chain = second_words q second in
    total_of_both g (times a first) (times b other)
    ∙ ap₂ (λ (s t : ℤ). s +ℤ t)
    (total_times g a first ∙ ap (λ (t : ℤ). pos a *ℤ t) (of_first g) ∙ mul-zero (pos a))
    (total_times g b other ∙ ap (λ (t : ℤ). pos b *ℤ t) (second_balanced q second of_second g) ∙ mul-zero (pos b))
