use Rattle.std.proofs.Common.{◌<◌, All, subst, sym}
use Rattle.sc_words.specs.declared.limits.TheConstants.{GENERATORS}
use Rattle.sc_theory.specs.Chains.{Chain}
use Rattle.sc_fatgraph.proofs.TextRanges.{spellable, surface_in_range}
use Rattle.sc_fatgraph.proofs.text.print_surface.Goals as goal

pub print_surface_text-requires : goal.print_surface_text-requires
print_surface_text-requires c =
    subst (λ (chain : Chain). All (λ w. All (λ x. x.number < GENERATORS) w.1) chain) (sym c.entries_of-entries.ensures.words) (spellable c.chain.result.now c.entries_of-entries.ensures.small)

pub returns-clause-readable : goal.returns-clause-readable
returns-clause-readable c weights =
    surface_in_range c.args.fatgraph.now (rw c.chain.ensures.value at c.entries_of-entries.ensures.small) c.chain.ensures.fatgraph weights
