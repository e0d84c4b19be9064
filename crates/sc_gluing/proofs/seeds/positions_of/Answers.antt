use Rattle.std.proofs.Common.{◌≡◌, ℕ, ◌+◌, ◌<◌, List, [], ◌∷◌, ◌++◌, length, get_or, arith, sym, ap, ap₂, subst, ◌∙◌}
use Rattle.std.specs.List.{range_with_len}
use Rattle.std.proofs.lemmas.List.{get_or_default}
use Rattle.sc_theory.specs.Words.{Word}
use Rattle.sc_theory.specs.Chains.{Chain, no_word, positions, word}
use Rattle.sc_gluing.proofs.WordCopies.{range_more, word_ends}
use Rattle.sc_gluing.proofs.seeds.positions_of.Goals as goal

word_len : (chain entries : Chain) (w : ℕ) (p : ℕ × Word) (n : ℕ) → entries ≡ chain → w < length chain → n ≡ length (get_or entries w p).1 → n ≡ length (word chain w)
word_len chain entries w p n e inside is = is ∙ ap (λ (xs : Chain). length (get_or xs w p).1) e ∙ ap (λ (q : ℕ × Word). length q.1) (get_or_default chain w p no_word inside)

pub overflow_cast-first : goal.overflow_cast-first
overflow_cast-first c =
    let chain = c.args.chain.now in
    let len_is : c.len-len.result ≡ length (word chain c.args.w) = word_len chain c.entries.result.now c.args.w c.index-entries-w.result c.len-len.result c.entries.ensures c.requires.inside c.len-len.ensures in
    let ends = word_ends chain c.args.w (subst (λ (n : ℕ). n < positions chain) c.first_of-first.ensures.first c.first_of-first.ensures.in_range) in
    omega (arith, ends, len_is, c.first_of-first.ensures.first, c.requires.small.few_positions, c.loop-place-test.true)

pub loop-place-preserved : goal.loop-place-preserved
loop-place-preserved c =
    let first : ℕ = c.first_of-first.result in
    c.in_ok-push.ensures.items
    ∙ ap (λ (xs : List ℕ). xs ++ (first + c.loop-place.place) ∷ []) c.loop-place.invariant
    ∙ sym (range_more first c.loop-place.place)

pub returns : goal.returns
returns c =
    let chain = c.args.chain.now in
    let len_is : c.len-len.result ≡ length (word chain c.args.w) = word_len chain c.entries.result.now c.args.w c.index-entries-w.result c.len-len.result c.entries.ensures c.requires.inside c.len-len.ensures in
    c.loop-place.invariant ∙ ap₂ range_with_len c.first_of-first.ensures.first (omega (arith, len_is, c.loop-place-test.false, c.loop-place.auto.place-end))
