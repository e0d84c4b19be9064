-- Worked examples: the fan of two chains each of which is the words a and A, whose values are all 0, and the fan of the
-- commutators abAB and cdCD.
use Rattle.std.specs.Prelude.{false, [], ◌∷◌, pos, negsuc}
use Rattle.sc_theory.specs.declared.Letter.{Letter}
use Rattle.sc_theory.specs.Words.{inverse_letter}
use Rattle.sc_theory.specs.Chains.{Chain}
use Rattle.sc_theory.specs.Examples.{opposite_words, commutator}
use Rattle.sc_theory.specs.Prices.{Prices}
use Rattle.sc_cone.specs.declared.Direction.{Direction}
use Rattle.sc_cone.specs.Directions.{down, right, up}
use Rattle.sc_cone.specs.Fans.{Corner, Edge, Fan}

-- a step into a letter A costs 1, and others nothing; the words are a, A, a, A above the first axis, and a, A, A, a
-- below
abbrev pub upper_list : Prices
upper_list = record { scale = pos 1; base = pos 0 ∷ pos 1 ∷ pos 0 ∷ pos 1 ∷ []; pair = pos 0 ∷ pos 0 ∷ pos 0 ∷ pos 0 ∷ [] }

abbrev pub lower_list : Prices
lower_list = record { scale = pos 1; base = pos 0 ∷ pos 1 ∷ pos 1 ∷ pos 0 ∷ []; pair = pos 0 ∷ pos 0 ∷ pos 0 ∷ pos 0 ∷ [] }

abbrev pub flat : Direction → Corner
flat d = record { direction = d; value = (pos 0, pos 1) }

abbrev pub flat_edge : Direction → Direction → Prices → Edge
flat_edge d e list = record { from = flat d; to = flat e; list = list }

abbrev pub flat_fan : Fan
flat_fan = record {
  first = opposite_words;
  second = opposite_words;
  corners = flat down ∷ flat right ∷ flat up ∷ [];
  edges = flat_edge down right lower_list ∷ flat_edge right up upper_list ∷ [];
}

-- with one more corner, at which the upper list is tight as well
abbrev pub between : Direction
between = record { s = pos 1; t = pos 1 }

abbrev pub four_corners : Fan
four_corners = record {
  first = opposite_words;
  second = opposite_words;
  corners = flat down ∷ flat right ∷ flat between ∷ flat up ∷ [];
  edges = flat_edge down right lower_list ∷ flat_edge right between upper_list ∷ flat_edge between up upper_list ∷ [];
}

-- ---- two commutators

abbrev pub c : Letter
c = record { number = 2; inverse = false }

abbrev pub d : Letter
d = record { number = 3; inverse = false }

abbrev pub other_commutator : Chain
other_commutator = (1, c ∷ d ∷ inverse_letter c ∷ inverse_letter d ∷ []) ∷ []

-- one list for both quadrants, and tables that vouch for it: no walk goes from one word to the other
abbrev pub commutators_list : Prices
commutators_list = record {
  scale = pos 1;
  base = pos 1 ∷ pos 1 ∷ [];
  pair = negsuc 8 ∷ negsuc 8 ∷ negsuc 8 ∷ negsuc 8 ∷ [];
}

abbrev pub at_half : Direction → Corner
at_half x = record { direction = x; value = (pos 1, pos 2) }

abbrev pub commutators_fan : Fan
commutators_fan = record {
  first = commutator;
  second = other_commutator;
  corners = at_half down ∷ at_half right ∷ at_half up ∷ [];
  edges =
      record { from = at_half down; to = at_half right; list = commutators_list }
      ∷ record { from = at_half right; to = at_half up; list = commutators_list }
      ∷ [];
}
