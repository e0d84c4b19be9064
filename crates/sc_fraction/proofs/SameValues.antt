-- Fractions with one value are the same.
use Rattle.std.specs.Prelude.{◌≡◌, pos, ◌<ℤ◌, unsigned_abs}
use Rattle.std.specs.Int.{IsGcd}
use Rattle.std.proofs.Props.{props}
use mathlib.Core.HLevel.{is_prop→PathP}
use mathlib.Core.Path.{PathP}
use Rattle.sc_fraction.specs.Quotient.{SameQuotient}
use Rattle.sc_fraction.specs.Frac.{numerator, denominator}
use Rattle.sc_fraction.specs.declared.frac.Frac.{Frac}
use Rattle.sc_fraction.specs.Laws.{same_denominator, same_numerator}

pub same_frac : (x y : Frac) → SameQuotient (numerator x) (denominator x) (numerator y) (denominator y) → x ≡ y
same_frac x y same = let p = same_numerator x y same in
    let q = same_denominator x y same in
    let positive : PathP (λ i. pos 0 <ℤ q i) x.positive y.positive = is_prop→PathP (λ i. pos 0 <ℤ q i) (λ i. hlevel props) x.positive y.positive in
    λ i. record {
      num = p i;
      den = q i;
      positive = positive i;
      reduced = is_prop→PathP (λ j. IsGcd (unsigned_abs (p j)) (unsigned_abs (q j)) 1) (λ j. hlevel props) x.reduced y.reduced i;
    }
