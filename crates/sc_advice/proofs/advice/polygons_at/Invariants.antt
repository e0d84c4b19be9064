use Rattle.std.specs.Prelude.{◌≤◌, length}
use Rattle.std.specs.List.{AllByRecursion}
use Rattle.sc_theory.specs.Walks.{IsPolygon}
use Rattle.sc_rounded_basis.specs.declared.limits.TheConstants.{MAX_POLYGONS}
use Rattle.sc_advice.proofs.advice.polygons_at.Given as goal

abbrev pub invariant-loop-place : goal.invariant-loop-place
invariant-loop-place l = (AllByRecursion (IsPolygon l.chain) l.polygons.items) × (length l.polygons.items ≤ MAX_POLYGONS)
