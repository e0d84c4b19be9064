-- The bytes of a drawing.
use Rattle.std.specs.Prelude.{◌≡◌, ℕ, pred, ◌+◌, ◌-◌, ◌*◌, ◌/◌, nat_lt, min, max, List, [], ◌∷◌, length, codes, pos}
use Rattle.std.specs.Fn.{iterate}
use Rattle.std.specs.List.{flat_map}
use Rattle.sc_algebra.specs.Permutations.{is_least_for}
use Rattle.sc_whole.specs.Spelling.{spelling}
use Rattle.sc_words.specs.Spelling.{letter_byte}
use Rattle.sc_theory.specs.Chains.{Chain, letter}
use Rattle.sc_theory.specs.Fatgraphs.{Sides, label, mate, turn, vertices}
use Rattle.sc_shape.specs.Shapes.{list_below}
use Rattle.sc_svg.specs.Layout.{orbit_size, order_below, AreLaidOut}

-- pieces of text one behind another
abbrev pub joined : List (List ℕ) → List ℕ
joined pieces = flat_map (λ piece. piece) pieces

-- a number in its one spelling
abbrev pub number : ℕ → List ℕ
number n = spelling (pos n)

-- the first line: the width and the height
abbrev pub head_line : ℕ → ℕ → List ℕ
head_line w h = joined (codes "<svg xmlns=\"http://www.w3.org/2000/svg\" viewBox=\"0 0 " ∷ number w ∷ codes " " ∷ number h ∷ codes "\">\n" ∷ [])

-- a vertex from x1 to x2 at the height b
abbrev pub vertex_line : ℕ → ℕ → ℕ → List ℕ
vertex_line x1 x2 b =
    joined (codes "<line x1=\"" ∷ number x1 ∷ codes "\" y1=\"" ∷ number b ∷ codes "\" x2=\"" ∷ number x2 ∷ codes "\" y2=\"" ∷ number b ∷ codes "\" stroke=\"black\" stroke-width=\"4\"/>\n" ∷ [])

-- an edge from x1 to x2, an arc of the radius r that begins and ends at the height b
abbrev pub arc_line : ℕ → ℕ → ℕ → ℕ → List ℕ
arc_line x1 x2 r b =
    joined (codes "<path d=\"M " ∷ number x1 ∷ codes " " ∷ number b ∷ codes " A " ∷ number r ∷ codes " " ∷ number r ∷ codes " 0 0 1 " ∷ number x2 ∷ codes " " ∷ number b ∷ codes "\" fill=\"none\" stroke=\"black\"/>\n" ∷ [])

-- the edge of two sides at x and y: from the lesser to the greater, its radius half their distance
abbrev pub edge_line : ℕ → ℕ → ℕ → List ℕ
edge_line x y b = arc_line (min x y) (max x y) ((max x y - min x y) / 2) b

-- a letter at x and y
abbrev pub letter_line : ℕ → ℕ → ℕ → List ℕ
letter_line x y byte = joined (codes "<text x=\"" ∷ number x ∷ codes "\" y=\"" ∷ number y ∷ codes "\" font-size=\"12\">" ∷ (byte ∷ []) ∷ codes "</text>\n" ∷ [])

abbrev pub last_line : List ℕ
last_line = codes "</svg>\n"

-- the last side of the orbit whose least side is r
abbrev pub last_side : (ℕ → ℕ) → ℕ → ℕ → ℕ
last_side t n r = iterate t (pred (orbit_size t n r)) r

-- the height at which the vertices lie
abbrev pub base : Sides → ℕ
base g = 10 * (length g + vertices g) + 20

-- the drawing of sides over a chain, where `x` is the x of each side
abbrev pub drawing : Chain → Sides → (ℕ → ℕ) → List ℕ
drawing c g x =
    joined (head_line (20 * (length g + vertices g) + 20) (base g + 24)
    ∷ flat_map (λ r. vertex_line (x r) (x (last_side (turn g) (length g) r)) (base g)) (list_below (is_least_for (turn g) (length g)) (length g))
    ∷ flat_map (λ s. edge_line (x s) (x (mate g s)) (base g)) (list_below (λ s. nat_lt s (mate g s)) (length g))
    ∷ flat_map (λ s. letter_line (x s) (base g + 16) (letter_byte (letter c (label g s)))) (order_below (turn g) (length g) (length g))
    ∷ last_line
    ∷ [])

-- the bytes are the drawing of the sides over the chain
pub record IsDrawing (c : Chain) (g : Sides) (bytes : List ℕ) : Type 0 where
  pub x : ℕ → ℕ
  pub laid_out : AreLaidOut (turn g) (length g) x
  pub text : bytes ≡ drawing c g x
