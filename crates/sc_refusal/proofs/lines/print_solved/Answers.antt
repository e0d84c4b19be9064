use Rattle.std.proofs.Common.{◌<◌, All, subst, sym}
use Rattle.sc_theory.specs.Chains.{Chain}
use Rattle.sc_words.specs.declared.limits.TheConstants.{GENERATORS}
use Rattle.sc_fatgraph.proofs.TextRanges.{spellable}
use Rattle.sc_refusal.proofs.lines.print_solved.Goals as goal

pub print_words-requires : goal.print_words-requires
print_words-requires c =
    subst (λ (chain : Chain). All (λ w. All (λ x. x.number < GENERATORS) w.1) chain) (sym c.entries_of.ensures.words) (spellable c.args.chain.now c.entries_of.ensures.small)
