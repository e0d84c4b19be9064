-- Directions in the plane: the cone between two, and combinations.
use Rattle.std.proofs.Common.{◌≡◌, ℕ, ◌<◌, ℤ, pos, negsuc, ◌+ℤ◌, ◌-ℤ◌, ◌*ℤ◌, ◌≤ℤ◌, ◌<ℤ◌, neg_ℤ, unsigned_abs, arith, sym, ap, ◌∙◌}
use Rattle.std.proofs.lemmas.Int.{ints}
use Rattle.sc_algebra.proofs.Ints.{products, mul_neg, mul-le_left, mul-zero}
use Rattle.sc_theory.specs.Chains.{Chain, IsChain}
use Rattle.sc_theory.specs.Prices.{Prices, Covers}
use Rattle.sc_cone.specs.declared.Direction.{Direction}
use Rattle.sc_cone.specs.declared.Quadrant.{Quadrant}
use Rattle.sc_cone.specs.declared.Quadrant.TheVariants.{Lower, Upper}
use Rattle.sc_cone.specs.Directions.{IsIn, cross, TurnsLeft, IsBetween, IsCombination}
use Rattle.sc_cone.specs.Cones.{quadrant_chain}
use Rattle.sc_cone.specs.Values.{IsTightAt}
use Rattle.sc_cone.proofs.Sizes.{from_zero}
use Rattle.sc_cone.proofs.Together.{tight_combined}

-- each direction of the plane as a combination of two
pub plane_s : (ds dt es et xs xt : ℤ) → (ds *ℤ et -ℤ dt *ℤ es) *ℤ xs ≡ (xs *ℤ et -ℤ xt *ℤ es) *ℤ ds +ℤ (ds *ℤ xt -ℤ dt *ℤ xs) *ℤ es
plane_s ds dt es et xs xt = simp products (omega (arith, ints))

pub plane_t : (ds dt es et xs xt : ℤ) → (ds *ℤ et -ℤ dt *ℤ es) *ℤ xt ≡ (xs *ℤ et -ℤ xt *ℤ es) *ℤ dt +ℤ (ds *ℤ xt -ℤ dt *ℤ xs) *ℤ et
plane_t ds dt es et xs xt = simp products (omega (arith, ints))

by_sizes : (k i j : ℤ) (k' i' j' : ℕ) (x d e : ℤ) → k ≡ pos k' → i ≡ pos i' → j ≡ pos j' → k *ℤ x ≡ i *ℤ d +ℤ j *ℤ e → pos k' *ℤ x ≡ pos i' *ℤ d +ℤ pos j' *ℤ e
by_sizes k i j k' i' j' x d e ek ei ej h =
    ap (λ (t : ℤ). t *ℤ x) (sym ek) ∙ h ∙ (λ p. ei p *ℤ d +ℤ ej p *ℤ e)

not_negative : (a : ℤ) → pos 0 <ℤ a → pos 0 ≤ℤ a
not_negative a h = omega (arith, ints)

size_above : (a : ℤ) → pos 0 <ℤ a → 0 < unsigned_abs a
size_above a h = omega (arith, ints)

-- what lies between two directions is a combination of them, by the areas that the three span
pub combination : (d e x : Direction) → TurnsLeft d e → IsBetween d e x → IsCombination (unsigned_abs (cross d e)) (unsigned_abs (cross x e)) (unsigned_abs (cross d x)) d e x
combination d e x left is =
    let k = from_zero (cross d e) (not_negative (cross d e) left) in
    let i = from_zero (cross x e) is.before in
    let j = from_zero (cross d x) is.after in
    record {
      first = by_sizes (cross d e) (cross x e) (cross d x) _ _ _ x.s d.s e.s k i j (plane_s d.s d.t e.s e.t x.s x.t);
      second = by_sizes (cross d e) (cross x e) (cross d x) _ _ _ x.t d.t e.t k i j (plane_t d.s d.t e.s e.t x.s x.t);
    }

-- a sum of numbers that aren't negative isn't
factor_not_negative : (k : ℕ) (a : ℤ) → 0 < k → pos 0 ≤ℤ (pos k *ℤ a) → pos 0 ≤ℤ a
factor_not_negative k (pos a) above h = omega (arith, ints)
factor_not_negative k (negsuc a) above h = absurd (omega (arith, ints, mul-le_left k (negsuc a) (negsuc 0) (omega (arith, ints))))

sum_not_negative : (k i j : ℕ) (x d e : ℤ) → 0 < k → pos 0 ≤ℤ d → pos 0 ≤ℤ e → pos k *ℤ x ≡ pos i *ℤ d +ℤ pos j *ℤ e → pos 0 ≤ℤ x
sum_not_negative k i j x d e above pd pe h =
    factor_not_negative k x above (omega (arith, ints, h, mul-le_left i (pos 0) d pd, mul-le_left j (pos 0) e pe, mul-zero (pos i), mul-zero (pos j)))

turned : (a : ℤ) → a ≤ℤ pos 0 → pos 0 ≤ℤ neg_ℤ a
turned a h = omega (arith, ints)

turned_back : (a : ℤ) → pos 0 ≤ℤ neg_ℤ a → a ≤ℤ pos 0
turned_back a h = omega (arith, ints)

sum_not_positive : (k i j : ℕ) (x d e : ℤ) → 0 < k → d ≤ℤ pos 0 → e ≤ℤ pos 0 → pos k *ℤ x ≡ pos i *ℤ d +ℤ pos j *ℤ e → x ≤ℤ pos 0
sum_not_positive k i j x d e above pd pe h =
    let negative : pos k *ℤ neg_ℤ x ≡ pos i *ℤ neg_ℤ d +ℤ pos j *ℤ neg_ℤ e = omega (arith, ints, h, mul_neg (pos k) x, mul_neg (pos i) d, mul_neg (pos j) e) in
    turned_back x (sum_not_negative k i j (neg_ℤ x) (neg_ℤ d) (neg_ℤ e) above (turned d pd) (turned e pe) negative)

-- a combination of two directions of a quadrant lies in the quadrant
pub combination_within : (q : Quadrant) (k i j : ℕ) (d e x : Direction) → 0 < k → IsIn q d → IsIn q e → IsCombination k i j d e x → IsIn q x
combination_within Upper k i j d e x above in_d in_e is =
    (sum_not_negative k i j x.s d.s e.s above in_d.0 in_e.0 is.first, sum_not_negative k i j x.t d.t e.t above in_d.1 in_e.1 is.second)
combination_within Lower k i j d e x above in_d in_e is =
    (sum_not_negative k i j x.s d.s e.s above in_d.0 in_e.0 is.first, sum_not_positive k i j x.t d.t e.t above in_d.1 in_e.1 is.second)

-- and so does what lies between them
pub within : (q : Quadrant) (d e x : Direction) → IsIn q d → IsIn q e → TurnsLeft d e → IsBetween d e x → IsIn q x
within q d e x in_d in_e left is = combination_within q _ _ _ d e x (size_above (cross d e) left) in_d in_e (combination d e x left is)

-- a covering list that is tight at two directions of a quadrant is tight at each combination of them
pub tight_sums : (q : Quadrant) (first second : Chain) (list : Prices) (k i j : ℕ) (d e x : Direction) → IsChain first → IsChain second → Covers (quadrant_chain q first second) list → 0 < k → IsIn q d → IsIn q e → IsCombination k i j d e x → IsTightAt q first second list d → IsTightAt q first second list e → IsTightAt q first second list x
tight_sums q first second list k i j d e x is_first is_second covers above in_d in_e is at_d at_e =
    tight_combined q first second list k i j d e x is_first is_second covers above in_d in_e (combination_within q k i j d e x above in_d in_e is) is at_d at_e

-- and so at all that lies between them
pub tight_between : (q : Quadrant) (first second : Chain) (list : Prices) (d e x : Direction) → IsChain first → IsChain second → Covers (quadrant_chain q first second) list → IsIn q d → IsIn q e → TurnsLeft d e → IsBetween d e x → IsTightAt q first second list d → IsTightAt q first second list e → IsTightAt q first second list x
tight_between q first second list d e x is_first is_second covers in_d in_e left is at_d at_e =
    tight_sums q first second list _ _ _ d e x is_first is_second covers (size_above (cross d e) left) in_d in_e (combination d e x left is) at_d at_e
