-- Labelled fatgraphs with the chain and the number of copies that they are over.
use Rattle.std.specs.Prelude.{ℕ, ◌≤◌, length}
use Rattle.sc_theory.specs.Chains.{Chain}
use Rattle.sc_theory.specs.Fatgraphs.{Sides, IsFatgraph}
use Rattle.sc_fatgraph.specs.declared.limits.TheConstants.{MAX_SIDES, MAX_COPIES}

-- what is said of a surface: a chain, a number of copies of it, and sides over them
pub record Surface : Type 0 where
  pub chain : Chain
  pub copies : ℕ
  pub sides : Sides

abbrev pub surface : Chain → ℕ → Sides → Surface
surface c n g = record { chain = c; copies = n; sides = g }

-- a labelled fatgraph over the copies of the chain, within the limits
pub record IsSmallFatgraph (f : Surface) : Type 0 where
  pub fatgraph : IsFatgraph f.chain f.copies f.sides
  pub few_copies : f.copies ≤ MAX_COPIES
  pub few_sides : length f.sides ≤ MAX_SIDES
