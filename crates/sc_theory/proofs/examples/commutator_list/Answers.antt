use Rattle.std.proofs.Common.{pos, ◌<ℤ◌, refl, rules}
use Rattle.sc_theory.specs.Fatgraphs.{IsFatgraph}
use Rattle.sc_theory.specs.Prices.{Vouch}
use Rattle.sc_theory.specs.Examples.{commutator, commutator_prices, commutator_tables, torus_by_steps}
use Rattle.sc_theory.proofs.Decisions.{vouches}
use Rattle.sc_theory.proofs.Leastness.{least}
use Rattle.sc_theory.proofs.SmallChains.{commutator_chain}
use Rattle.sc_theory.proofs.Vouching.{covers}
use Rattle.sc_theory.proofs.examples.commutator_list.Goals as goal

vouch : Vouch commutator commutator_prices commutator_tables
vouch = vouches commutator commutator_prices commutator_tables refl

fatgraph : IsFatgraph commutator 1 torus_by_steps
fatgraph = search rules

pub returns-clause-vouch : goal.returns-clause-vouch
returns-clause-vouch c = vouch

pub returns-clause-least : goal.returns-clause-least
returns-clause-least c =
    let above : pos 0 <ℤ pos 1 = record { lt = tt } in
    least commutator commutator_prices 1 torus_by_steps commutator_chain above (covers commutator commutator_prices commutator_tables above vouch) fatgraph refl
