-- The command `shape`.
use Rattle.std.specs.Prelude.{◌≡◌, ℕ, suc, List, [], ◌∷◌, ◌++◌, map, length, codes, ℤ, pos, ◌-ℤ◌}
use Rattle.sc_whole.specs.Spelling.{spelling}
use Rattle.sc_theory.specs.Chains.{Chain}
use Rattle.sc_theory.specs.Fatgraphs.{Sides}
use Rattle.sc_line.specs.Lines.{Line, spaced, text_of, numbers_line}
use Rattle.sc_shape.specs.declared.component.Boundary.{Boundary}
use Rattle.sc_shape.specs.declared.component.Component.{Component}
use Rattle.sc_shape.specs.Shapes.{AreComponents}
use Rattle.sc_app.specs.Said.{RespondsBySides}
use Rattle.sc_app.specs.declared.status.Status.{Status}

-- the vertices of a component minus its edges
abbrev pub component_euler : Component → ℤ
component_euler x = pos x.vertices -ℤ pos x.edges

-- the line of a component's number, its sides, vertices and edges, its Euler number, and its boundaries
abbrev pub counts_line : ℤ → ℤ → ℤ → ℤ → ℤ → ℤ → Line
counts_line i sides vertices edges euler boundaries =
    spaced (codes "component" ∷ spelling i
    ∷ codes "sides" ∷ spelling sides
    ∷ codes "vertices" ∷ spelling vertices
    ∷ codes "edges" ∷ spelling edges
    ∷ codes "euler" ∷ spelling euler
    ∷ codes "boundaries" ∷ spelling boundaries
    ∷ [])

-- the line of the component number i
abbrev pub component_line : ℕ → Component → Line
component_line i x =
    counts_line (pos i) (pos x.sides) (pos x.vertices) (pos x.edges) (component_euler x) (pos (length x.boundaries))

-- the line of a boundary: the word that it runs along, and how many times
abbrev pub boundary_line : Boundary → Line
boundary_line b = numbers_line (codes "boundary") (pos b.word ∷ pos b.degree ∷ [])

-- the lines of the component number i: its own, and those of its boundaries
abbrev pub component_lines : ℕ → Component → List Line
component_lines i x = component_line i x ∷ map boundary_line x.boundaries

-- the lines of components that are numbered from i on
abbrev pub lines_from : ℕ → List Component → List Line
lines_from i [] = []
lines_from i (x ∷ xs) = component_lines i x ++ lines_from (suc i) xs

-- the text of components, numbered from 0
abbrev pub shape_text : List Component → List ℕ
shape_text components = text_of (lines_from 0 components)

-- the text is that of the components of the sides
abbrev pub IsShape : Chain → ℕ → Sides → List ℕ → Type 0
IsShape c n g text = (components : List Component) × AreComponents c g components × (text ≡ shape_text components)

-- what `shape` answers to an input
abbrev pub ShapeResponds : List ℕ → Status → List ℕ → Type 0
ShapeResponds input status text = RespondsBySides IsShape input status text
