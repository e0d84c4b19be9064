-- Combinations of directions of one quadrant, by the sizes of their coordinates.
use Rattle.std.proofs.Common.{◌≡◌, ℕ, ◌+◌, ◌*◌, ℤ, pos, ◌+ℤ◌, ◌*ℤ◌, ◌≤ℤ◌, neg_ℤ, unsigned_abs, arith, sym, ap, ap₂, ◌∙◌}
use Rattle.std.proofs.lemmas.Int.{ints}
use Rattle.sc_algebra.proofs.Ints.{mul_neg, same-pos}
use Rattle.sc_cone.specs.declared.Direction.{Direction}
use Rattle.sc_cone.specs.declared.Quadrant.{Quadrant}
use Rattle.sc_cone.specs.declared.Quadrant.TheVariants.{Lower, Upper}
use Rattle.sc_cone.specs.Directions.{IsIn, IsCombination}

-- a number that isn't negative is its size, and the negative of one that isn't positive is
pub from_zero : (a : ℤ) → pos 0 ≤ℤ a → a ≡ pos (unsigned_abs a)
from_zero a h = omega (arith, ints)

pub to_zero : (a : ℤ) → a ≤ℤ pos 0 → neg_ℤ a ≡ pos (unsigned_abs a)
to_zero a h = omega (arith, ints)

negated : (k i j : ℕ) (x d e : ℤ) → pos k *ℤ x ≡ pos i *ℤ d +ℤ pos j *ℤ e → pos k *ℤ neg_ℤ x ≡ pos i *ℤ neg_ℤ d +ℤ pos j *ℤ neg_ℤ e
negated k i j x d e h = omega (arith, ints, mul_neg (pos k) x, mul_neg (pos i) d, mul_neg (pos j) e)

as_sizes : (k i j x d e : ℕ) (x' d' e' : ℤ) → x' ≡ pos x → d' ≡ pos d → e' ≡ pos e → pos k *ℤ x' ≡ pos i *ℤ d' +ℤ pos j *ℤ e' → k * x ≡ i * d + j * e
as_sizes k i j x d e x' d' e' ex ed ee h =
    same-pos (k * x) (i * d + j * e) (ap (λ (t : ℤ). pos k *ℤ t) (sym ex) ∙ h ∙ ap₂ (λ (s t : ℤ). pos i *ℤ s +ℤ pos j *ℤ t) ed ee)

sizes_up : (k i j : ℕ) (x d e : ℤ) → pos 0 ≤ℤ x → pos 0 ≤ℤ d → pos 0 ≤ℤ e → pos k *ℤ x ≡ pos i *ℤ d +ℤ pos j *ℤ e → k * unsigned_abs x ≡ i * unsigned_abs d + j * unsigned_abs e
sizes_up k i j x d e px pd pe h = as_sizes k i j _ _ _ x d e (from_zero x px) (from_zero d pd) (from_zero e pe) h

sizes_down : (k i j : ℕ) (x d e : ℤ) → x ≤ℤ pos 0 → d ≤ℤ pos 0 → e ≤ℤ pos 0 → pos k *ℤ x ≡ pos i *ℤ d +ℤ pos j *ℤ e → k * unsigned_abs x ≡ i * unsigned_abs d + j * unsigned_abs e
sizes_down k i j x d e px pd pe h =
    as_sizes k i j _ _ _ (neg_ℤ x) (neg_ℤ d) (neg_ℤ e) (to_zero x px) (to_zero d pd) (to_zero e pe) (negated k i j x d e h)

-- a combination of two directions is one of their sizes
pub record Combined (k i j : ℕ) (d e x : Direction) : Type 0 where
  pub first : k * unsigned_abs x.s ≡ i * unsigned_abs d.s + j * unsigned_abs e.s
  pub second : k * unsigned_abs x.t ≡ i * unsigned_abs d.t + j * unsigned_abs e.t

-- a combination within a quadrant is one of the sizes: there the coordinates have one sign each
pub combined : (q : Quadrant) (k i j : ℕ) (d e x : Direction) → IsIn q d → IsIn q e → IsIn q x → IsCombination k i j d e x → Combined k i j d e x
combined Upper k i j d e x in_d in_e in_x is = record {
  first = sizes_up k i j x.s d.s e.s in_x.0 in_d.0 in_e.0 is.first;
  second = sizes_up k i j x.t d.t e.t in_x.1 in_d.1 in_e.1 is.second;
}
combined Lower k i j d e x in_d in_e in_x is = record {
  first = sizes_up k i j x.s d.s e.s in_x.0 in_d.0 in_e.0 is.first;
  second = sizes_down k i j x.t d.t e.t in_x.1 in_d.1 in_e.1 is.second;
}
