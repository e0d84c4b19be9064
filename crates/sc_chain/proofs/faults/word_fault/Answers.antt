use Rattle.std.proofs.lemmas.List.{get_or_default}
use Rattle.std.proofs.Common.{ap, ◌∙◌, ℕ, ◌≡◌, ◌≤◌, arith, rules, below_more}
use Rattle.sc_theory.specs.Words.{Word}
use Rattle.sc_theory.specs.Chains.{first, no_word, word}
use Rattle.sc_chain.specs.Faults.{IsGoodWord}
use Rattle.sc_chain.proofs.OneFault.{words-le, good_word}
use Rattle.sc_chain.proofs.Firsts.{first-le}
use Rattle.sc_chain.proofs.faults.word_fault.Goals as goal

pub overflow_cast-result : goal.overflow_cast-result
overflow_cast-result c =
    let few : c.loop-number.number ≤ first c.args.words.now c.loop-number.number = words-le c.args.words.now c.loop-number.number (omega arith) c.loop-number.invariant in
    omega (arith, first-le c.args.words.now c.loop-number.number)

pub overflow_cast-result-in-Some : goal.overflow_cast-result-in-Some
overflow_cast-result-in-Some c =
    let few : c.loop-number.number ≤ first c.args.words.now c.loop-number.number = words-le c.args.words.now c.loop-number.number (omega arith) c.loop-number.invariant in
    omega (arith, first-le c.args.words.now c.loop-number.number)

pub loop-number-preserved : goal.loop-number-preserved
loop-number-preserved c =
    let at : c.as_slice-word.result.now ≡ word c.args.words.now c.loop-number.number =
    c.as_slice-word.ensures ∙ ap (λ (p : ℕ × Word). p.1) (c.index-words-number.is ∙ get_or_default c.args.words.now c.loop-number.number c.index-words-number.result no_word c.loop-number-test.true) in
    let good : IsGoodWord c.as_slice-word.result.now = good_word c.as_slice-word.result.now (search rules) c.in_default.ensures in
    below_more _ _ c.loop-number.invariant (rw at at good)
