-- Said by private functions alone: the line of a pivot.
use Rattle.std.specs.Prelude.{◌≢◌, ℕ, ◌≤◌, ◌&&◌, List, Option, Some, None, if◌then◌else◌, pos}
use Rattle.sc_whole.specs.Spelling.{spelling}
use Rattle.sc_theory.specs.Chains.{Chain}
use Rattle.sc_line.specs.declared.fault.Kind.{Kind}
use Rattle.sc_line.specs.declared.fault.Kind.TheVariants.{Form}
use Rattle.sc_chain.specs.declared.limits.TheConstants.{MAX_POSITIONS}
use Rattle.sc_chain.specs.Polygons.{is_polygon}
use Rattle.sc_line.specs.Lines.{Field}
use Rattle.sc_certificate.specs.PivotLines.{are_naturals, naturals_of}

-- the fault of fields that are due to be a polygon of the chain
abbrev pub walk_fault : Chain → List Field → Option Kind
walk_fault c fs = if are_naturals fs && is_polygon c (naturals_of fs) then None else Some Form

-- whether no position of a small chain is spelled so
abbrev pub IsNoPosition : Field → Type 0
IsNoPosition f = (n : ℕ) → n ≤ MAX_POSITIONS → f ≢ spelling (pos n)
