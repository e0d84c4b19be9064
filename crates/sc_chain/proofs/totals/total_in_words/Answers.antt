use Rattle.std.proofs.lemmas.List.{get_or_default}
use Rattle.std.proofs.lemmas.Int.{ints}
use Rattle.std.proofs.Common.{◌≡◌, ℕ, ◌+◌, ◌<◌, length, ℤ, pos, ◌+ℤ◌, ◌*ℤ◌, arith, subst, ap, ◌∙◌}
use mir.Val.{to_z, of_z}
use mir.Syntax.{w64}
use Rattle.sc_theory.specs.Words.{Word, total}
use Rattle.sc_theory.specs.Chains.{no_word, weight, word}
use Rattle.sc_theory.proofs.ChainSums.{chain_total_sum}
use Rattle.sc_chain.proofs.Balanced.{IsTotalSoFar, next_total}
use Rattle.sc_chain.proofs.totals.total_in_words.Goals as goal

pub loop-entry-preserved : goal.loop-entry-preserved
loop-entry-preserved c =
    let n : ℕ = c.loop-entry.entry-index in
    let t : ℤ = to_z w64 c.loop-entry.total-bits in
    let s : ℤ = c.weighted_total-total.result in
    let few : n < 32 = omega (arith, c.loop-entry-test.true, c.requires.few) in
    let sum : t +ℤ s ≡ to_z w64 (of_z w64 (t +ℤ to_z w64 (of_z w64 s))) = omega (arith, ints, c.loop-entry.invariant.low, c.loop-entry.invariant.high, c.weighted_total-total.ensures.low, c.weighted_total-total.ensures.high) in
    let is : s ≡ pos (weight c.args.words.now n) *ℤ total c.args.generator (word c.args.words.now n) =
    c.weighted_total-total.ensures.total ∙ ap (λ (p : ℕ × Word). pos p.0 *ℤ total c.args.generator p.1) (c.entry-item.is ∙ get_or_default c.args.words.now n c.entry-item.result no_word c.loop-entry-test.true) in
    subst (λ (z : ℤ). IsTotalSoFar c.args.words.now c.args.generator (n + 1) z) sum
    (next_total c.args.words.now c.args.generator n t s c.loop-entry.invariant is c.weighted_total-total.ensures.low c.weighted_total-total.ensures.high)

pub returns : goal.returns
returns c =
    let end : c.loop-entry.entry-index ≡ length c.args.words.now = omega (arith, c.loop-entry-test.false, c.loop-entry.auto.entry-index-end) in
    (subst (λ (n : ℕ). IsTotalSoFar c.args.words.now c.args.generator n (to_z w64 c.loop-entry.total-bits)) end c.loop-entry.invariant).total_is
    ∙ chain_total_sum c.args.generator c.args.words.now
