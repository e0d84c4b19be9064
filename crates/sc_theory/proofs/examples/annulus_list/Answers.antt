use Rattle.std.proofs.Common.{pos, ◌<ℤ◌, refl, rules}
use Rattle.sc_theory.specs.Fatgraphs.{IsFatgraph}
use Rattle.sc_theory.specs.Prices.{Vouch}
use Rattle.sc_theory.specs.Examples.{opposite_words, annulus_prices, annulus_tables, annulus}
use Rattle.sc_theory.proofs.Decisions.{vouches}
use Rattle.sc_theory.proofs.Leastness.{least}
use Rattle.sc_theory.proofs.SmallChains.{opposite_words_chain}
use Rattle.sc_theory.proofs.Vouching.{covers}
use Rattle.sc_theory.proofs.examples.annulus_list.Goals as goal

vouch : Vouch opposite_words annulus_prices annulus_tables
vouch = vouches opposite_words annulus_prices annulus_tables refl

fatgraph : IsFatgraph opposite_words 1 annulus
fatgraph = search rules

pub returns-clause-vouch : goal.returns-clause-vouch
returns-clause-vouch c = vouch

pub returns-clause-least : goal.returns-clause-least
returns-clause-least c =
    let above : pos 0 <ℤ pos 1 = record { lt = tt } in
    least opposite_words annulus_prices 1 annulus opposite_words_chain above (covers opposite_words annulus_prices annulus_tables above vouch) fatgraph refl
