-- A quotient over a positive number never turns, so it is never refused.
use Rattle.std.specs.Prelude.{◌≡◌, ◌↔◌, Bool, false, ℤ, pos, negsuc, ◌<ℤ◌, int_div, int_lt, unsigned_abs, [], ◌∷◌, if◌then◌else◌, Result, Ok, Err, IfErr}
use Rattle.std.proofs.Common.{arith, refl, subst}
use Rattle.std.proofs.lemmas.Int.{ints}
use Rattle.sc_whole.specs.Operation.{step, IsFirstWide}
use Rattle.sc_whole.specs.declared.checked.Op.TheVariants.{Sub}
use Rattle.sc_whole.specs.declared.checked.Wide.{Wide as Operation}
use Rattle.sc_whole.proofs.DivisorLaws.{gcd_exists}
use Rattle.sc_whole.proofs.ExactDivision.{exact_quotient}
use Rattle.sc_fraction.specs.Fault.{IfWide}
use Rattle.sc_fraction.specs.Steps.{turn_steps, ForReduced}
use Rattle.sc_fraction.specs.declared.frac.Frac.{Frac}
use Rattle.sc_fraction.specs.declared.fault.FracFault.{FracFault}
use Rattle.sc_fraction.specs.declared.fault.FracFault.TheVariants.{Zero, Wide}
use Rattle.sc_fraction.proofs.Arithmetic.{divided_positive}

not_below : (q : ℤ) → pos 0 <ℤ q → int_lt q (pos 0) ≡ false
not_below (pos n) h = grind (arith, ints)
not_below (negsuc n) h = absurd (omega (arith, ints))

none_turned : (p q : ℤ) (w : Operation) → pos 0 <ℤ q → IsFirstWide (turn_steps p q) w → ⊥
none_turned p q w positive h =
    subst (λ (b : Bool). IsFirstWide (if b then step Sub (pos 0) p ∷ step Sub (pos 0) q ∷ [] else []) w) (not_below q positive) h

-- a quotient over a positive number gives a fraction
pub never_refused : (num den : ℤ) (r : Result Frac FracFault) → pos 0 <ℤ den → ((r ≡ Err Zero) ↔ (den ≡ pos 0))
    → IfErr r (λ fault. IfWide fault (λ w. ForReduced num den (λ steps. IsFirstWide steps w))) → ((x : Frac) → r ≡ Ok x → ⊥) → ⊥
never_refused num den (Ok x) positive zero wide never = never x refl
never_refused num den (Err Zero) positive zero wide never = let e : den ≡ pos 0 = zero.0 refl in omega (arith, ints)
never_refused num den (Err (Wide w)) positive zero wide never =
    let g = gcd_exists (unsigned_abs num) (unsigned_abs den) in
    none_turned (int_div num (pos g.0)) (int_div den (pos g.0)) w
    (divided_positive g.0 (int_div den (pos g.0)) den (exact_quotient den g.0 g.1.1) positive)
    (wide g.0 g.1)
