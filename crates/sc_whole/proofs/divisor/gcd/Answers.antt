use Rattle.std.proofs.Common.{ap, ◌∙◌, subst₂, unsigned_abs, to_z-of_z}
use Rattle.std.specs.Int.{IsGcd}
use Rattle.sc_whole.proofs.divisor.gcd.Goals as goal

pub returns : goal.returns
returns c =
    subst₂ (λ m n. IsGcd m n c.gcd_of_sizes.result)
    (c.unsigned_abs.ensures.value ∙ ap unsigned_abs (to_z-of_z c.ranges.x))
    (c.unsigned_abs-2.ensures.value ∙ ap unsigned_abs (to_z-of_z c.ranges.y))
    c.gcd_of_sizes.ensures
