-- New rows and prices by the rule with a ratio in lowest terms.
use Rattle.std.specs.Prelude.{◌≡◌, ℕ, ◌<◌, ℤ, pos, ◌+ℤ◌, ◌-ℤ◌, ◌*ℤ◌, ◌<ℤ◌}
use Rattle.std.proofs.Common.{arith, sym, ap, ap₂, ◌∙◌}
use Rattle.std.proofs.lemmas.Int.{ints}
use Rattle.sc_algebra.proofs.Ints.{products}
use Rattle.sc_basis.specs.Products.{IsReduced}
use Rattle.sc_basis.specs.Rules.{IsLowest}
use Rattle.sc_basis.specs.Pivots.{IsRatio}
use Rattle.sc_basis.proofs.Numbers.{mul_pos, pos_of_mul}

regroup_difference : (g h e p q x t : ℤ) → g *ℤ (h *ℤ (x *ℤ p -ℤ q *ℤ t)) ≡ (g *ℤ (h *ℤ p)) *ℤ x -ℤ (h *ℤ q) *ℤ (g *ℤ t)
regroup_difference g h e p q x t = simp products (omega (arith, ints))

regroup_sum : (g h e p q x t : ℤ) → g *ℤ (h *ℤ (x *ℤ p +ℤ q *ℤ t)) ≡ (g *ℤ (h *ℤ p)) *ℤ x +ℤ (h *ℤ q) *ℤ (g *ℤ t)
regroup_sum g h e p q x t = simp products (omega (arith, ints))

regroup_scale : (g h p d : ℤ) → g *ℤ (h *ℤ (d *ℤ p)) ≡ (g *ℤ (h *ℤ p)) *ℤ d
regroup_scale g h p d = simp products (omega (arith, ints))

out : (g h e x : ℤ) → (g *ℤ (h *ℤ e)) *ℤ x ≡ g *ℤ (h *ℤ (e *ℤ x))
out g h e x = simp products (omega (arith, ints))

first_factor : (g h m al p : ℤ) → g *ℤ m ≡ al → h *ℤ p ≡ m → g *ℤ (h *ℤ p) ≡ al
first_factor g h m al p gm hp = ap (λ (s : ℤ). g *ℤ s) hp ∙ gm

-- a row x over d with so much of the leaving row w taken away that its product a with the column becomes 0. The
-- product of the leaving row is al, and t over m is the leaving row over al
pub row_by_rule : (r : ℕ) (x w t y : ℕ → ℤ) (d e m al a p q : ℤ) → IsReduced r t m w al → IsLowest m a p q
    → IsReduced r y e (λ k. x k *ℤ p -ℤ q *ℤ t k) (d *ℤ p) → IsReduced r y e (λ k. al *ℤ x k -ℤ a *ℤ w k) (al *ℤ d)
row_by_rule r x w t y d e m al a p q left ratio new =
    let one : 0 < 1 = omega arith in
    let g = left.factor in
    let h = ratio.factor in
    let first : g *ℤ (h *ℤ p) ≡ al = first_factor g h m al p left.scale ratio.scale in
    record {
      factor = g *ℤ (h *ℤ new.factor);
      positive = mul_pos g (h *ℤ new.factor) left.positive (mul_pos h new.factor ratio.positive new.positive);
      entries = λ k l.
          out g h new.factor (y k) ∙ ap (λ (s : ℤ). g *ℤ (h *ℤ s)) (new.entries k l) ∙ regroup_difference g h new.factor p q (x k) (t k)
          ∙ ap₂ (λ (s u : ℤ). s *ℤ x k -ℤ u) first (ap₂ (λ (s u : ℤ). s *ℤ u) (ratio.entries 0 one) (left.entries k l));
      scale = out g h new.factor e ∙ ap (λ (s : ℤ). g *ℤ (h *ℤ s)) new.scale ∙ regroup_scale g h p d ∙ ap (λ (s : ℤ). s *ℤ d) first;
      coprime = new.coprime;
    }

-- prices x over d to which so much of the leaving row is added that the gap a is closed
pub price_by_rule : (r : ℕ) (x w t y : ℕ → ℤ) (d e m al a p q : ℤ) → IsReduced r t m w al → IsLowest m a p q
    → IsReduced r y e (λ k. x k *ℤ p +ℤ q *ℤ t k) (d *ℤ p) → IsReduced r y e (λ k. al *ℤ x k +ℤ a *ℤ w k) (al *ℤ d)
price_by_rule r x w t y d e m al a p q left ratio new =
    let one : 0 < 1 = omega arith in
    let g = left.factor in
    let h = ratio.factor in
    let first : g *ℤ (h *ℤ p) ≡ al = first_factor g h m al p left.scale ratio.scale in
    record {
      factor = g *ℤ (h *ℤ new.factor);
      positive = mul_pos g (h *ℤ new.factor) left.positive (mul_pos h new.factor ratio.positive new.positive);
      entries = λ k l.
          out g h new.factor (y k) ∙ ap (λ (s : ℤ). g *ℤ (h *ℤ s)) (new.entries k l) ∙ regroup_sum g h new.factor p q (x k) (t k)
          ∙ ap₂ (λ (s u : ℤ). s *ℤ x k +ℤ u) first (ap₂ (λ (s u : ℤ). s *ℤ u) (ratio.entries 0 one) (left.entries k l));
      scale = out g h new.factor e ∙ ap (λ (s : ℤ). g *ℤ (h *ℤ s)) new.scale ∙ regroup_scale g h p d ∙ ap (λ (s : ℤ). s *ℤ d) first;
      coprime = new.coprime;
    }

turn_ratio : (h p q : ℤ) → (h *ℤ p) *ℤ q ≡ (h *ℤ q) *ℤ p
turn_ratio h p q = simp products (omega (arith, ints))

-- a ratio in lowest terms is a ratio
pub ratio_of_lowest : (m a p q : ℤ) → pos 0 <ℤ m → IsLowest m a p q → IsRatio m a p q
ratio_of_lowest m a p q above h =
    let one : 0 < 1 = omega arith in
    record {
      positive = pos_of_mul h.factor p h.positive (rw h.scale above);
      same = ap (λ (s : ℤ). s *ℤ q) (sym h.scale) ∙ turn_ratio h.factor p q ∙ ap (λ (s : ℤ). s *ℤ p) (h.entries 0 one);
      coprime = h.coprime;
    }
