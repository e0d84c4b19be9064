-- Two numbers of 128 bits that were handed to a call, and read again.
use Rattle.std.proofs.Common.{ℤ, FitsSigned, to_z, of_z, to_z-of_z, sym, subst₂}
use Rattle.std.specs.Int.{w128}

module _ (P : ℤ → ℤ → Type 0) (a b : ℤ) (p : FitsSigned w128 a) (q : FitsSigned w128 b) where
  -- what holds of the two numbers as they were passed holds of them as they were given, and the other way round
  pub as_given : P (to_z w128 (of_z w128 a)) (to_z w128 (of_z w128 b)) → P a b
  as_given h = subst₂ P (to_z-of_z p) (to_z-of_z q) h

  pub as_passed : P a b → P (to_z w128 (of_z w128 a)) (to_z w128 (of_z w128 b))
  as_passed h = subst₂ P (sym (to_z-of_z p)) (sym (to_z-of_z q)) h
