use Rattle.sc_chain.proofs.OneFault.{accepted_small}
use Rattle.sc_chain.proofs.chain.Chain.of_accepted.Goals as goal

pub invariant_of-result : goal.invariant_of-result
invariant_of-result c =
    record {
      small = accepted_small c.args.words.items c.requires.accepted c.requires.generators;
      lookup = rw c.as_slice-2.ensures.value at c.in_ok-places.ensures;
      length_is = rw c.as_slice.ensures.value at c.weigh-length.ensures;
    }
