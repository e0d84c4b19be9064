use Rattle.sc_text.proofs.ReadChains.{only_memory}
use Rattle.sc_text.proofs.chains.chain_of_words.Goals as goal

pub unreachable-requires : goal.unreachable-requires
unreachable-requires c = only_memory c.args.words.items c.of_reduced.result c.in-Err.fault c.requires c.of_reduced.ensures.faults c.in-Err.is c.in_default.not-Memory
