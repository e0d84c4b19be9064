use Rattle.std.proofs.Common.{◌≡◌, ◌↔◌, ◌*◌, ◌/◌, ◌≤◌, ℕ, ℤ, pos, unsigned_abs, Result, Ok, Err, IsOk, IfErr, refl, arith, subst, ◌-ℤ◌, ◌*ℤ◌, to_z, of_z}
use Rattle.std.proofs.lemmas.Bool.{le-ltb}
use Rattle.std.proofs.lemmas.Int.{ints}
use Rattle.std.specs.Int.{w128}
use Rattle.sc_whole.specs.declared.checked.Wide.{Wide as WideNumber}
use Rattle.sc_whole.specs.Operation.{IsFirstWide}
use Rattle.sc_whole.proofs.DivisorLaws.{gcd_exists}
use Rattle.sc_fraction.specs.declared.frac.Frac.{Frac}
use Rattle.sc_fraction.specs.declared.fault.FracFault.{FracFault}
use Rattle.sc_fraction.specs.declared.fault.FracFault.TheVariants.{Zero, Wide}
use Rattle.sc_fraction.specs.Fault.{IfWide}
use Rattle.sc_fraction.specs.Steps.{ForReduced}
use Rattle.sc_fatgraph.proofs.cost.fraction.Goals as goal

-- a number of 128 bits as the code holds it
abbrev held : ℤ → ℤ
held z = to_z w128 (of_z w128 z)

-- a quotient by a natural number is reduced without an operation that could be too wide
never_wide : (num : ℤ) (m : ℕ) (w : WideNumber) → ForReduced num (pos m) (λ steps. IsFirstWide steps w) → ⊥
never_wide num m w evidence =
    let g = gcd_exists (unsigned_abs num) m in
    rw (le-ltb (m / g.0) 0 (omega arith)) at (evidence g.0 g.1)

made : (num den : ℤ) (m : ℕ) (r : Result Frac FracFault) → den ≡ pos m → 1 ≤ m → (r ≡ Err Zero) ↔ (den ≡ pos 0)
    → IfErr r (λ fault. IfWide fault (λ w. ForReduced num den (λ steps. IsFirstWide steps w))) → IsOk r
made num den m (Ok x) is some zero evidence = refl
made num den m (Err Zero) is some zero evidence =
    let none : den ≡ pos 0 = zero.0 refl in
    absurd (omega (arith, ints))
made num den m (Err (Wide w)) is some zero evidence =
    absurd (never_wide num m w (subst (λ (d : ℤ). ForReduced num d (λ steps. IsFirstWide steps w)) is evidence))

pub unwrap-requires : goal.unwrap-requires
unwrap-requires c =
    let cost : ℤ = held (held c.from.result -ℤ held c.from-2.result) in
    let twice : ℤ = held (pos 2 *ℤ held c.from-3.result) in
    made cost twice (2 * c.args.n) c.new.result (omega (arith, ints)) (omega arith) c.new.ensures.zero c.new.ensures.evidence
