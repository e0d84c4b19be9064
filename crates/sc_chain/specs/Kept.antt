-- What the fields of a chain keep: its words are a chain within the limits, and the lookup is theirs.
use Rattle.std.specs.Prelude.{◌≡◌}
use Rattle.sc_theory.specs.Chains.{weighted_length}
use Rattle.sc_chain.specs.Faults.{IsSmallChain}
use Rattle.sc_chain.specs.Lookup.{IsLookup}
use Rattle.sc_chain.specs.declared.chain.Chain.TheInside.{Inside}

pub record IsInside (c : Inside) : Type 0 where
  pub small : IsSmallChain c.words.items
  pub lookup : IsLookup c.words.items c.places.items c.firsts.items
  pub length_is : c.length ≡ weighted_length c.words.items
