use Rattle.std.proofs.Common.{ap, ◌∙◌, sym, subst, arith, All}
use Rattle.sc_theory.specs.Chains.{IsBalanced, positions}
use Rattle.sc_words.specs.ChainText.{IsRawLine}
use Rattle.sc_reduce.specs.Lines.{chain_of, letters_of, IsExcess}
use Rattle.sc_random.proofs.DrawnChains.{raw_lines, letters, balanced, few_positions, memory_alone}
use Rattle.sc_random.proofs.chain.drawn_chain.Goals as goal

pub reduce_lines-requires-clause-ranges : goal.reduce_lines-requires-clause-ranges
reduce_lines-requires-clause-ranges c = subst (All IsRawLine) (sym (c.as_slice.ensures.value ∙ c.in_ok-lines.ensures)) (raw_lines c.args.seed c.args.letters)

pub reduce_lines-requires-clause-letters : goal.reduce_lines-requires-clause-letters
reduce_lines-requires-clause-letters c =
    omega (arith, ap letters_of (c.as_slice.ensures.value ∙ c.in_ok-lines.ensures) ∙ letters c.args.seed c.args.letters, c.requires)

pub returns-in-Ok-clause-balanced : goal.returns-in-Ok-clause-balanced
returns-in-Ok-clause-balanced c =
    subst IsBalanced (sym (c.in-Ok.ensures.ok ∙ ap chain_of (c.as_slice.ensures.value ∙ c.in_ok-lines.ensures))) (balanced c.args.seed c.args.letters)

pub returns-in-Ok-clause-few : goal.returns-in-Ok-clause-few
returns-in-Ok-clause-few c =
    omega (arith, ap positions (c.in-Ok.ensures.ok ∙ ap chain_of (c.as_slice.ensures.value ∙ c.in_ok-lines.ensures)), few_positions c.args.seed c.args.letters)

pub returns-in-Ok-clause-lines : goal.returns-in-Ok-clause-lines
returns-in-Ok-clause-lines c = raw_lines c.args.seed c.args.letters

pub unreachable-requires : goal.unreachable-requires
unreachable-requires c =
    c.in_default.not-Memory (memory_alone c.args.seed c.args.letters c.in-Err.fault c.requires
    (subst (λ lines. IsExcess (chain_of lines) c.in-Err.fault) (c.as_slice.ensures.value ∙ c.in_ok-lines.ensures) c.in-Err.ensures.excess))
