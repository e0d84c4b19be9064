-- What advice is true.
use Rattle.std.specs.Prelude.{◌≤◌, length}
use Rattle.std.specs.List.{AllByRecursion}
use Rattle.sc_theory.specs.Chains.{Chain}
use Rattle.sc_theory.specs.Walks.{IsPolygon}
use Rattle.sc_advice.specs.declared.advice.Advice.{Advice}
use Rattle.sc_rounded_basis.specs.declared.limits.TheConstants.{MAX_POLYGONS}

-- each list holds polygons of the chain, and at most so many
pub record IsAdviceFor (c : Chain) (advice : Advice) : Type 0 where
  pub surface : AllByRecursion (IsPolygon c) advice.surface.items
  pub basis : AllByRecursion (IsPolygon c) advice.basis.items
  pub tight : AllByRecursion (IsPolygon c) advice.tight.items
  pub pool : AllByRecursion (IsPolygon c) advice.pool.items
  pub few_of_surface : length advice.surface.items ≤ MAX_POLYGONS
  pub few_of_basis : length advice.basis.items ≤ MAX_POLYGONS
  pub few_tight : length advice.tight.items ≤ MAX_POLYGONS
  pub few_in_pool : length advice.pool.items ≤ MAX_POLYGONS
