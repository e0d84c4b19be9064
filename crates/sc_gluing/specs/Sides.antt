-- The lists that a surface is glued with: the kinds of the steps that begin at its sides, the opposite kinds, the
-- mates.
use Rattle.std.specs.Prelude.{ℕ, ◌+◌, ◌*◌, List}
use Rattle.sc_theory.specs.Chains.{Chain}
use Rattle.sc_gluing.specs.Cycles.{AreCycles}
use Rattle.sc_gluing.specs.Laying.{AreLaid}

-- closed walks whose columns come to a multiple of the right side, laid one behind another
pub record AreGlueable (c : Chain) (labels afters : List ℕ) : Type 0 where
  pub copies : ℕ
  pub cycles : List (List ℕ)
  pub are : AreCycles c copies cycles
  pub laid : AreLaid cycles labels afters

-- ---- what is known on the way

-- the number of a step from i to j
abbrev pub kind : ℕ → ℕ → ℕ → ℕ
kind bound i j = i * bound + j
