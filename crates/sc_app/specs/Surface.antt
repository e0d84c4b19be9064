-- The command `surface`.
use Rattle.std.specs.Prelude.{◌≡◌, ◌*◌, ℕ, List, ◌++◌, codes, ℤ, pos, ◌-ℤ◌}
use Rattle.sc_whole.specs.Spelling.{spelling}
use Rattle.sc_theory.specs.Chains.{Chain}
use Rattle.sc_theory.specs.Fatgraphs.{Sides, vertices, edges, cost}
use Rattle.sc_fraction.specs.declared.frac.Frac.{Frac}
use Rattle.sc_fraction.specs.Frac.{IsQuotient, frac_text}
use Rattle.sc_app.specs.Notes.{line}
use Rattle.sc_app.specs.Said.{RespondsBySides}
use Rattle.sc_app.specs.declared.status.Status.{Status}

-- vertices minus edges
abbrev pub euler : Sides → ℤ
euler g = pos (vertices g) -ℤ pos (edges g)

-- how the line of the fraction begins
abbrev pub fraction_label : List ℕ
fraction_label = codes "fraction "

-- the four lines of a surface with this fraction
abbrev pub report : Sides → Frac → List ℕ
report g f =
    line (codes "vertices " ++ spelling (pos (vertices g)))
    ++ line (codes "edges " ++ spelling (pos (edges g)))
    ++ line (codes "euler " ++ spelling (euler g))
    ++ line (fraction_label ++ frac_text f)

-- the text is the report of the sides with the fraction of their cost over twice the copies
abbrev pub IsReport : Chain → ℕ → Sides → List ℕ → Type 0
IsReport c n g text = (f : Frac) × IsQuotient (cost g) (pos (2 * n)) f × (text ≡ report g f)

-- what `surface` answers to an input
abbrev pub SurfaceResponds : List ℕ → Status → List ℕ → Type 0
SurfaceResponds input status text = RespondsBySides IsReport input status text
