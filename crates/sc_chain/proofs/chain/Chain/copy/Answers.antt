use Rattle.std.proofs.Common.{subst, sym, ◌∙◌}
use Rattle.sc_chain.specs.Faults.{AreGenerators}
use Rattle.sc_chain.proofs.OneFault.{generators_of}
use Rattle.sc_chain.proofs.chain.Chain.copy.Goals as goal

pub of_accepted-requires-clause-generators : goal.of_accepted-requires-clause-generators
of_accepted-requires-clause-generators c =
    subst AreGenerators (sym (c.in_ok-copy_words.ensures ∙ c.as_slice.ensures.value)) (generators_of c.self.inside.words.items c.self.invariant.small)
