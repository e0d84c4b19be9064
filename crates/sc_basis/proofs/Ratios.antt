-- Lists without their common divisor and ratios in lowest terms are the only ones.
use Rattle.std.specs.Prelude.{◌≡◌, ℕ, ◌<◌, ℤ, pos, ◌*ℤ◌, ◌<ℤ◌}
use Rattle.std.proofs.Common.{arith, sym, ap, ap₂, subst, ◌∙◌}
use Rattle.std.proofs.lemmas.Int.{ints}
use Rattle.sc_algebra.proofs.Ints.{products, mul_left_comm, mul_comm}
use Rattle.sc_basis.specs.Products.{IsReduced}
use Rattle.sc_basis.specs.Pivots.{IsRatio}
use Rattle.sc_basis.proofs.Numbers.{cancel_pos, mul_pos, pos_of_mul}
use Rattle.sc_basis.proofs.Uniqueness.{same_numbers}

crossed : (f g d v e w : ℤ) → g *ℤ d ≡ e → f *ℤ v ≡ w → (f *ℤ g) *ℤ (d *ℤ v) ≡ e *ℤ w
crossed f g d v e w scale entry =
    (let h : (f *ℤ g) *ℤ (d *ℤ v) ≡ (g *ℤ d) *ℤ (f *ℤ v) = simp products (omega (arith, ints)) in h) ∙ ap₂ (λ (x y : ℤ). x *ℤ y) scale entry

-- a list over a scale has one reduced form
pub reduced_unique : (r : ℕ) (v : ℕ → ℤ) (d : ℤ) (v' : ℕ → ℤ) (d' : ℤ) (w : ℕ → ℤ) (e : ℤ) → pos 0 <ℤ e → IsReduced r v d w e → IsReduced r v' d' w e → (d ≡ d') × ((k : ℕ) → k < r → v k ≡ v' k)
reduced_unique r v d v' d' w e positive h g =
    same_numbers r v v' d d'
    (pos_of_mul h.factor d h.positive (subst (λ (z : ℤ). pos 0 <ℤ z) (sym h.scale) positive))
    (pos_of_mul g.factor d' g.positive (subst (λ (z : ℤ). pos 0 <ℤ z) (sym g.scale) positive))
    (λ k l.
    cancel_pos (h.factor *ℤ g.factor) (d' *ℤ v k) (d *ℤ v' k) (mul_pos h.factor g.factor h.positive g.positive)
    (crossed h.factor g.factor d' (v k) e (w k) g.scale (h.entries k l)
    ∙ sym (ap (λ (z : ℤ). z *ℤ (d *ℤ v' k)) (mul_comm h.factor g.factor) ∙ crossed g.factor h.factor d (v' k) e (w k) h.scale (g.entries k l))))
    h.coprime
    g.coprime

-- a quotient has one form in lowest terms
pub ratio_unique : (m a p q p' q' : ℤ) → pos 0 <ℤ m → IsRatio m a p q → IsRatio m a p' q' → (p ≡ p') × (q ≡ q')
ratio_unique m a p q p' q' positive h g =
    let both : (p ≡ p') × ((k : ℕ) → k < 1 → q ≡ q') = same_numbers 1 (λ k. q) (λ k. q') p p' h.positive g.positive (λ k l. proportion) h.coprime g.coprime in
    (both.0, both.1 0 (omega arith))
  where
    proportion : p' *ℤ q ≡ p *ℤ q'
    proportion =
        cancel_pos m (p' *ℤ q) (p *ℤ q') positive
        (mul_left_comm m p' q
        ∙ ap (λ (z : ℤ). p' *ℤ z) h.same
        ∙ (let e : p' *ℤ (a *ℤ p) ≡ p *ℤ (a *ℤ p') = simp products (omega (arith, ints)) in e)
        ∙ ap (λ (z : ℤ). p *ℤ z) (sym g.same)
        ∙ mul_left_comm p m q')
