-- Labelled fatgraphs side by side.
use Rattle.std.specs.Prelude.{ℕ, zero, suc, ◌+◌, [], ◌++◌, map, length}
use Rattle.sc_theory.specs.declared.Side.{Side}
use Rattle.sc_theory.specs.Fatgraphs.{Sides}

-- the same sides, numbered from k on
abbrev pub shifted : ℕ → Sides → Sides
shifted k g = map (λ (s : Side). record { label = s.label; mate = k + s.mate; next = k + s.next }) g

-- the sides of g, and after them those of h
abbrev pub joined : Sides → Sides → Sides
joined g h = g ++ shifted (length g) h

-- k copies of g
abbrev pub copies_of : ℕ → Sides → Sides
copies_of zero g = []
copies_of (suc k) g = joined g (copies_of k g)

-- a copies of g and b copies of h
abbrev pub together : ℕ → Sides → ℕ → Sides → Sides
together a g b h = joined (copies_of a g) (copies_of b h)
