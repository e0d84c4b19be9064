-- The parts of multiples with their counts.
use Rattle.sc_gluing.specs.Cycles.{Parts}
use Rattle.sc_assembly.specs.declared.parts.Multiples.{Multiples}
use Rattle.sc_assembly.specs.Multiples.{counted}

-- the polygons of the parts, each as often as its count says
abbrev pub parts_of : Multiples → Parts
parts_of m = counted m.parts.items m.counts.items
