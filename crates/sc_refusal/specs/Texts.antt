-- The texts of refusals.
use Rattle.std.specs.Prelude.{ℕ, ℤ, List, [], ◌∷◌, ◌++◌, map, codes, pos, Option, Some, None}
use Rattle.std.specs.Option.{option_map}
use Rattle.std.specs.Vec.{vec_items}
use Rattle.sc_whole.specs.Spelling.{spelling}
use Rattle.sc_theory.specs.Chains.{Chain, weighted_length}
use Rattle.sc_chain.specs.declared.polygon.Pivot.{Pivot}
use Rattle.sc_fraction.specs.declared.frac.Frac.{Frac}
use Rattle.sc_line.specs.Lines.{Line, Field, spaced, text_of, numbers_line, count_line}
use Rattle.sc_text.specs.Printing.{words_lines}
use Rattle.sc_text.specs.Surfaces.{ending}
use Rattle.sc_text.specs.ValueLines.{value_line, quotient_of}
use Rattle.sc_certificate.specs.Spelled.{journal_lines}
use Rattle.sc_rows.specs.declared.fault.WideAt.{WideAt}
use Rattle.sc_refusal.specs.Places.{place_line}

-- the line of a name and the positions of a walk
abbrev pub walk_line : Field → List ℕ → Line
walk_line name walk = spaced (name ∷ map (λ i. spelling (pos i)) walk)

-- the line of a name and a number
abbrev pub number_line : Field → ℤ → Line
number_line name z = numbers_line name (z ∷ [])

-- ---- what every refusal's text has: its heading, and its body with the chain and the journal, the lines of its cause,
-- and the end
abbrev pub solved_lines : Chain → List Pivot → List Line
solved_lines c journal = words_lines c ++ journal_lines journal

abbrev pub body_lines : Chain → List Pivot → List Line → List Line
body_lines c journal cause = solved_lines c journal ++ (cause ++ ending ∷ [])

abbrev pub headed_text : Line → List Line → List ℕ
headed_text heading body = text_of (heading ∷ body)

abbrev pub budget_heading : Line
budget_heading = codes "scallop refused budget"

abbrev pub wide_heading : Line
wide_heading = codes "scallop refused wide"

abbrev pub sides_heading : Line
sides_heading = codes "scallop refused sides"

-- ---- the pivots are used up, and a polygon improves still
abbrev pub budget_body : Chain → List Pivot → List ℕ → List Line
budget_body c journal improving = body_lines c journal (walk_line (codes "improving") improving ∷ [])

abbrev pub budget_text : Chain → List Pivot → List ℕ → List ℕ
budget_text c journal improving = headed_text budget_heading (budget_body c journal improving)

-- ---- an operation is too wide
-- the line of a walk, where one is told, and that of a row
abbrev pub told_walk : Field → Option (List ℕ) → List Line
told_walk name None = []
told_walk name (Some walk) = walk_line name walk ∷ []

abbrev pub told_row : Field → Option ℕ → List Line
told_row name None = []
told_row name (Some row) = count_line name row ∷ []

-- the place and its operands
abbrev pub operation_lines : WideAt → List Line
operation_lines at =
    place_line at.place at.first at.second ∷ numbers_line (codes "operands") (at.wide.x ∷ at.wide.y ∷ []) ∷ []

-- what the place needs, and then these
abbrev pub wide_lines : WideAt → List Line
wide_lines at =
    told_walk (codes "entering") (option_map vec_items at.entering)
    ++ (told_row (codes "leaving") at.leaving
    ++ (told_walk (codes "walk") (option_map vec_items at.walk) ++ operation_lines at))

abbrev pub wide_body : Chain → List Pivot → WideAt → List Line
wide_body c journal at = body_lines c journal (wide_lines at)

abbrev pub wide_text : Chain → List Pivot → WideAt → List ℕ
wide_text c journal at = headed_text wide_heading (wide_body c journal at)

-- ---- the glued surface would have too many sides
-- the value of a part, the least common multiple of the denominators before it, its own denominator, and the weighted
-- length of the chain
abbrev pub multiple_lines : Frac → ℕ → ℤ → ℕ → List Line
multiple_lines value so_far next length =
    value_line (quotient_of value)
    ∷ count_line (codes "so-far") so_far
    ∷ number_line (codes "next") next
    ∷ count_line (codes "length") length
    ∷ []

abbrev pub sides_body : Chain → List Pivot → List ℕ → Frac → ℕ → ℤ → List Line
sides_body c journal part value so_far next =
    body_lines c journal (walk_line (codes "part") part ∷ multiple_lines value so_far next (weighted_length c))

abbrev pub sides_text : Chain → List Pivot → List ℕ → Frac → ℕ → ℤ → List ℕ
sides_text c journal part value so_far next = headed_text sides_heading (sides_body c journal part value so_far next)
