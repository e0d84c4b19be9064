-- The value of a chain, and the value that a price list gives it.
use Rattle.std.specs.Prelude.{◌≡◌, ℕ, ◌+◌, ◌*◌, length, get_or, ℤ, pos, ◌-ℤ◌, ◌*ℤ◌, ◌<ℤ◌}
use Rattle.sc_algebra.specs.Sums.{sum_below}
use Rattle.sc_theory.specs.Chains.{Chain, weight, weighted_length}
use Rattle.sc_theory.specs.Fatgraphs.{Sides, cost, IsFatgraph, IsLeast}
use Rattle.sc_theory.specs.Prices.{Prices, bound}
use Rattle.sc_cone.specs.declared.Direction.{Direction}
use Rattle.sc_cone.specs.declared.Quadrant.{Quadrant}
use Rattle.sc_cone.specs.Cones.{chain_of}

-- num over den is the fraction of a least labelled fatgraph: its cost over twice its copies
pub record IsValueOf (c : Chain) (num den : ℤ) : Type 0 where
  pub copies : ℕ
  pub sides : Sides
  pub fatgraph : IsFatgraph c copies sides
  pub least : IsLeast c copies sides
  pub above : pos 0 <ℤ den
  pub fraction : num *ℤ pos (2 * copies) ≡ cost sides *ℤ den

-- a list's value at a chain: scale times weighted length minus twice the bound, over 4 times the scale
abbrev pub list_num : Chain → Prices → ℤ
list_num c list = list.scale *ℤ pos (weighted_length c) -ℤ pos 2 *ℤ bound c list

abbrev pub list_den : Prices → ℤ
list_den list = pos 4 *ℤ list.scale

-- a list is tight at a direction where its value there is the direction's value
abbrev pub IsTightAt : Quadrant → Chain → Chain → Prices → Direction → Type 0
IsTightAt q first second list d =
    let c : Chain = chain_of q first second d in
    IsValueOf c (list_num c list) (list_den list)

-- two lists have one value at a direction
abbrev pub SameValueAt : Quadrant → Chain → Chain → Prices → Prices → Direction → Type 0
SameValueAt q first second l m d =
    let c : Chain = chain_of q first second d in
    list_num c l *ℤ list_den m ≡ list_num c m *ℤ list_den l

-- the form of a list, two numbers by the same unit: what the first chain adds to its values each time that it is taken,
-- and what the second adds, whose words come after the first chain's
abbrev pub first_form : Chain → Prices → ℤ
first_form first list = list_num first list

abbrev pub second_form : Chain → Chain → Prices → ℤ
second_form first second list =
    list.scale *ℤ pos (weighted_length second) -ℤ pos 2 *ℤ sum_below (λ w. pos (weight second w) *ℤ get_or list.base (length first + w) (pos 0)) (length second)

-- by a common unit, what the list l gives more than the list m each time that the first chain is taken, and what m
-- gives more than l each time that the second is: their values cross where these balance
abbrev pub first_gap : Chain → Prices → Prices → ℤ
first_gap first l m = first_form first l *ℤ list_den m -ℤ first_form first m *ℤ list_den l

abbrev pub second_gap : Chain → Chain → Prices → Prices → ℤ
second_gap first second l m = second_form first second m *ℤ list_den l -ℤ second_form first second l *ℤ list_den m
