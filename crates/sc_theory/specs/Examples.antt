-- Worked examples: small chains, surfaces over them, and lists with tables.
use Rattle.std.specs.Prelude.{ℕ, false, List, [], ◌∷◌, Option, Some, ℤ, pos, negsuc}
use Rattle.sc_theory.specs.declared.Letter.{Letter}
use Rattle.sc_theory.specs.declared.Side.{Side}
use Rattle.sc_theory.specs.Words.{inverse_letter}
use Rattle.sc_theory.specs.Chains.{Chain}
use Rattle.sc_theory.specs.Fatgraphs.{Sides}
use Rattle.sc_theory.specs.Prices.{Prices, Tables}

-- the generators a and b, and their inverses
abbrev pub a : Letter
a = record { number = 0; inverse = false }

abbrev pub b : Letter
b = record { number = 1; inverse = false }

abbrev pub a' : Letter
a' = inverse_letter a

abbrev pub b' : Letter
b' = inverse_letter b

abbrev pub side : ℕ → ℕ → ℕ → Side
side label mate next = record { label = label; mate = mate; next = next }

-- the chain of the commutator abAB
abbrev pub commutator : Chain
commutator = (1, a ∷ b ∷ a' ∷ b' ∷ []) ∷ []

-- the torus with one boundary, which runs once along the commutator
abbrev pub torus : Sides
torus = side 0 2 1 ∷ side 1 3 2 ∷ side 2 0 3 ∷ side 3 1 0 ∷ []

-- a surface of genus 2 with one boundary, which runs twice along the commutator
abbrev pub twice_round : Sides
twice_round =
    side 0 2 1 ∷ side 1 3 2 ∷ side 2 0 3 ∷ side 3 1 4 ∷ side 0 6 5 ∷ side 1 7 6 ∷ side 2 4 7 ∷ side 3 5 0 ∷ []

-- the torus again, with its sides in the order round its vertex
abbrev pub torus_by_steps : Sides
torus_by_steps = side 0 2 3 ∷ side 3 3 0 ∷ side 2 0 1 ∷ side 1 1 2 ∷ []

-- a list for the commutator, and the tables that vouch for it
abbrev pub commutator_prices : Prices
commutator_prices = record {
  scale = pos 1;
  base = pos 1 ∷ [];
  pair = negsuc 4 ∷ negsuc 4 ∷ [];
}

abbrev pub commutator_tables : Tables
commutator_tables =
    (Some (pos 0) ∷ Some (negsuc 4) ∷ Some (negsuc 9) ∷ Some (negsuc 4) ∷ [])
    ∷ (Some (pos 6) ∷ Some (pos 0) ∷ Some (negsuc 3) ∷ Some (pos 1) ∷ [])
    ∷ (Some (pos 11) ∷ Some (pos 5) ∷ Some (pos 0) ∷ Some (pos 6) ∷ [])
    ∷ (Some (pos 6) ∷ Some (pos 0) ∷ Some (negsuc 4) ∷ Some (pos 0) ∷ [])
    ∷ []

-- the chain of the two words a and A
abbrev pub opposite_words : Chain
opposite_words = (1, a ∷ []) ∷ (1, a' ∷ []) ∷ []

-- the annulus between them: one vertex and two boundaries
abbrev pub annulus : Sides
annulus = side 0 1 0 ∷ side 1 0 1 ∷ []

abbrev pub annulus_prices : Prices
annulus_prices = record {
  scale = pos 1;
  base = negsuc 2 ∷ pos 4 ∷ [];
  pair = negsuc 2 ∷ [];
}

abbrev pub annulus_tables : Tables
annulus_tables = (Some (pos 0) ∷ Some (pos 1) ∷ []) ∷ (Some (pos 0) ∷ Some (pos 0) ∷ []) ∷ []

-- the chain of the three words a, b and AB, which bound a pair of pants
abbrev pub pants : Chain
pants = (1, a ∷ []) ∷ (1, b ∷ []) ∷ (1, a' ∷ b' ∷ []) ∷ []

-- a list by which every step of the commutator is free, and tables of zeros
abbrev pub free_prices : Prices
free_prices = record { scale = pos 1; base = []; pair = [] }

abbrev pub zero_tables : Tables
zero_tables =
    let zeros : List (Option ℤ) = Some (pos 0) ∷ Some (pos 0) ∷ Some (pos 0) ∷ Some (pos 0) ∷ [] in
    zeros ∷ zeros ∷ zeros ∷ zeros ∷ []

-- the chain of the four words a, A, b and B
abbrev pub four_words : Chain
four_words = (1, a ∷ []) ∷ (1, a' ∷ []) ∷ (1, b ∷ []) ∷ (1, b' ∷ []) ∷ []

-- the same words with weights by which the sides are a fatgraph, and with the same weighted length
abbrev pub uneven_words : Chain
uneven_words = (2, a ∷ []) ∷ (2, a' ∷ []) ∷ (0, b ∷ []) ∷ (0, b' ∷ []) ∷ []

-- sides that run twice along the first two words and not along the others
abbrev pub two_annuli : Sides
two_annuli = side 0 1 0 ∷ side 1 0 1 ∷ side 0 3 2 ∷ side 1 2 3 ∷ []
