-- The faults of a list of sides that isn't taken for a fatgraph.
use Rattle.std.specs.Prelude.{ℕ}
use Rattle.sc_theory.specs.Chains.{Chain}
use Rattle.sc_theory.specs.Fatgraphs.{Sides}
use Rattle.sc_fatgraph.specs.Flaws.{IsFirstFlaw}
use Rattle.sc_fatgraph.specs.declared.flaws.SurfaceFault.{SurfaceFault}
use Rattle.sc_fatgraph.specs.declared.flaws.SurfaceFault.TheVariants.{Flaw, Memory}

-- a flaw is the first one; want of memory says nothing of the sides
abbrev pub IsFaultOf : Chain → ℕ → Sides → SurfaceFault → Type 0
IsFaultOf c n g (Flaw kind place) = IsFirstFlaw c n g kind place
IsFaultOf c n g Memory = Unit {0}
