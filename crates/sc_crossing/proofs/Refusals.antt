-- Which operations on fractions are refused.
use Rattle.std.proofs.Common.{◌≡◌, ◌≢◌, ◌↔◌, ℕ, Result, Err, refl, List, [], ◌∷◌, ◌/◌, ℤ, pos, negsuc, ◌<ℤ◌, unsigned_abs, int_div, inl, inr, arith, subst}
use Rattle.std.proofs.lemmas.Int.{ints}
use Rattle.sc_whole.specs.declared.checked.Op.TheVariants.{Sub}
use Rattle.sc_whole.specs.declared.checked.Wide.{Wide as WideNumber}
use Rattle.sc_whole.specs.Operation.{AllFit, IsFirstWide}
use Rattle.sc_whole.proofs.DivisorLaws.{gcd_exists}
use Rattle.sc_fraction.specs.declared.frac.Frac.{Frac}
use Rattle.sc_fraction.specs.declared.fault.FracFault.{FracFault}
use Rattle.sc_fraction.specs.declared.fault.FracFault.TheVariants.{Zero, Wide}
use Rattle.sc_fraction.specs.Fault.{IfWide}
use Rattle.sc_fraction.specs.Frac.{numerator, denominator, ForSum, ForRatio}
use Rattle.sc_fraction.specs.Steps.{sum_steps, ratio_steps, turn_steps, ForReduced}
use Rattle.sc_crossing.specs.Forms.{HasDifference, HasRatio}

not_all : (steps : List WideNumber) (w : WideNumber) → IsFirstWide steps w → AllFit steps → ⊥
not_all [] w first fit = first
not_all (s ∷ steps) w (inl here) fit = here.0 fit.0
not_all (s ∷ steps) w (inr later) fit = not_all steps w later.1 fit.1

-- where the difference of two fractions fits, no operation of it is too wide
pub no_difference : (x y : Frac) (w : WideNumber) → ForSum Sub x y (λ steps. IsFirstWide steps w) → HasDifference x y → ⊥
no_difference x y w first fit =
    let g = gcd_exists (unsigned_abs (denominator x)) (unsigned_abs (denominator y)) in
    not_all (sum_steps Sub (numerator x) (denominator x) (numerator y) (denominator y) g.0) w (first g.0 g.1) (fit g.0 g.1)

no_ratio_by : (x y : Frac) (w : WideNumber) → ForRatio x y (λ steps. IsFirstWide steps w) → HasRatio x y → ⊥
no_ratio_by x y w first fit =
    let g = gcd_exists (unsigned_abs (numerator x)) (unsigned_abs (numerator y)) in
    let h = gcd_exists (unsigned_abs (denominator y)) (unsigned_abs (denominator x)) in
    not_all (ratio_steps (numerator x) (denominator x) (numerator y) (denominator y) g.0 h.0) w (first g.0 h.0 g.1 h.1) (fit g.0 h.0 g.1 h.1)

-- where the ratio of two fractions fits and the second one isn't 0, it isn't refused
pub no_ratio : (x y : Frac) (fault : FracFault) → numerator y ≢ pos 0 → (◌≡◌ {A = Result Frac FracFault} (Err fault) (Err Zero) ↔ (numerator y ≡ pos 0))
    → IfWide fault (λ w. ForRatio x y (λ steps. IsFirstWide steps w)) → HasRatio x y → ⊥
no_ratio x y Zero nonzero zero evidence fit = nonzero (zero.0 refl)
no_ratio x y (Wide w) nonzero zero evidence fit = no_ratio_by x y w evidence fit

-- a quotient by a number above 0 isn't turned
not_turned : (p : ℤ) (n : ℕ) (w : WideNumber) → IsFirstWide (turn_steps p (pos n)) w → ⊥
not_turned p n w first = let none : turn_steps p (pos n) ≡ [] = grind (arith, ints) in subst (λ steps. IsFirstWide steps w) none first

never_wide : (num den : ℤ) (w : WideNumber) → pos 0 <ℤ den → ForReduced num den (λ steps. IsFirstWide steps w) → ⊥
never_wide num (pos n) w some first =
    let g = gcd_exists (unsigned_abs num) n in
    not_turned (int_div num (pos g.0)) (n / g.0) w (first g.0 g.1)
never_wide num (negsuc n) w some first = absurd (omega (arith, ints))

-- a fraction over a number above 0 isn't refused
pub never_refused : (num den : ℤ) (fault : FracFault) → pos 0 <ℤ den → (◌≡◌ {A = Result Frac FracFault} (Err fault) (Err Zero) ↔ (den ≡ pos 0))
    → IfWide fault (λ w. ForReduced num den (λ steps. IsFirstWide steps w)) → ⊥
never_refused num den Zero some zero evidence = absurd (omega (arith, ints, some, zero.0 refl))
never_refused num den (Wide w) some zero evidence = never_wide num den w some evidence
