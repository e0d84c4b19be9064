-- Two lists that are both tight at two directions agree on the whole plane, and so are tight at the same directions
-- beyond.
use Rattle.std.proofs.Common.{◌≡◌, ℕ, ◌<◌, ℤ, pos, ◌+ℤ◌, ◌*ℤ◌, ◌<ℤ◌, ◌≤ℤ◌, unsigned_abs, arith, ap}
use Rattle.std.proofs.lemmas.Int.{ints}
use Rattle.sc_algebra.proofs.Ints.{products, cancel}
use Rattle.sc_theory.specs.Chains.{Chain}
use Rattle.sc_theory.specs.Prices.{Prices}
use Rattle.sc_cone.specs.declared.Direction.{Direction}
use Rattle.sc_cone.specs.declared.Quadrant.{Quadrant}
use Rattle.sc_cone.specs.Directions.{IsIn, cross, TurnsLeft, IsBetween, IsCombination}
use Rattle.sc_cone.specs.Cones.{second_words, chain_of}
use Rattle.sc_cone.specs.Values.{IsTightAt, SameValueAt, list_num, list_den}
use Rattle.sc_cone.proofs.Sizes.{Combined, combined}
use Rattle.sc_cone.proofs.ConeSums.{values_combined}
use Rattle.sc_cone.proofs.ValueLaws.{unique, value_moved}
use Rattle.sc_cone.proofs.Betweens.{combination}

-- from agreement at d and at a sum of multiples of d and x to agreement at x
agree_plain : (k i j ed dd xd em dm xm u v : ℤ) → k *ℤ ed ≡ i *ℤ dd +ℤ j *ℤ xd → k *ℤ em ≡ i *ℤ dm +ℤ j *ℤ xm → dd *ℤ v ≡ dm *ℤ u → ed *ℤ v ≡ em *ℤ u → j *ℤ (xd *ℤ v) ≡ j *ℤ (xm *ℤ u)
agree_plain k i j ed dd xd em dm xm u v first second at_d at_e =
    let f = simp products at (ap (λ (t : ℤ). t *ℤ v) first) in
    let g = simp products at (ap (λ (t : ℤ). t *ℤ u) second) in
    let p = ap (λ (t : ℤ). i *ℤ t) at_d in
    let r = simp products at (ap (λ (t : ℤ). t *ℤ k) at_e) in
    omega (arith, ints, f, g, p, r)

-- lists that have one value at d, and one at a combination of d and x in which x counts, have one at x
pub agree : (q : Quadrant) (first second : Chain) (l m : Prices) (k i j : ℕ) (d x e : Direction) → 0 < j → IsIn q d → IsIn q x → IsIn q e → IsCombination k i j d x e → SameValueAt q first second l m d → SameValueAt q first second l m e → SameValueAt q first second l m x
agree q first second l m k i j d x e above in_d in_x in_e is at_d at_e =
    let other : Chain = second_words q second in
    let by : Combined k i j d x e = combined q k i j d x e in_d in_x in_e is in
    cancel j _ _ above
    (agree_plain (pos k) (pos i) (pos j)
    (list_num (chain_of q first second e) l) (list_num (chain_of q first second d) l) (list_num (chain_of q first second x) l)
    (list_num (chain_of q first second e) m) (list_num (chain_of q first second d) m) (list_num (chain_of q first second x) m)
    (list_den l) (list_den m)
    (values_combined k i j _ _ _ _ _ _ by.first by.second first other l) (values_combined k i j _ _ _ _ _ _ by.first by.second first other m) at_d at_e)

-- two lists that are tight at a direction have one value there
pub same_where_tight : (q : Quadrant) (first second : Chain) (l m : Prices) (d : Direction) → IsTightAt q first second l d → IsTightAt q first second m d → SameValueAt q first second l m d
same_where_tight q first second l m d of_l of_m = unique (chain_of q first second d) _ _ _ _ of_l of_m

size_above : (a : ℤ) → pos 0 <ℤ a → 0 < unsigned_abs a
size_above a h = omega (arith, ints)

not_negative : (a : ℤ) → pos 0 <ℤ a → pos 0 ≤ℤ a
not_negative a h = omega (arith, ints)

-- e between d and x
pub between_from_left : (d e x : Direction) → TurnsLeft d e → TurnsLeft e x → IsBetween d x e
between_from_left d e x first second = record { after = not_negative (cross d e) first; before = not_negative (cross e x) second }

-- lists that have one value at each of two directions have one at each direction further left in the quadrant
pub agree_beyond : (q : Quadrant) (first second : Chain) (l m : Prices) (d e x : Direction) → IsIn q d → IsIn q e → IsIn q x → TurnsLeft d e → TurnsLeft e x → TurnsLeft d x → SameValueAt q first second l m d → SameValueAt q first second l m e → SameValueAt q first second l m x
agree_beyond q first second l m d e x in_d in_e in_x left next all at_d at_e =
    agree q first second l m (unsigned_abs (cross d x)) (unsigned_abs (cross e x)) (unsigned_abs (cross d e)) d x e (size_above (cross d e) left) in_d in_x in_e
    (combination d x e all (between_from_left d e x left next)) at_d at_e

-- a list that is tight where two agree, from the other
pub tight_by_agreement : (q : Quadrant) (first second : Chain) (l m : Prices) (x : Direction) → pos 0 <ℤ list_den l → SameValueAt q first second l m x → IsTightAt q first second m x → IsTightAt q first second l x
tight_by_agreement q first second l m x above same at_x = value_moved (chain_of q first second x) _ _ _ _ at_x above same

-- of two lists that are tight at two directions, one is tight at a direction further left where the other is
pub tight_beyond : (q : Quadrant) (first second : Chain) (l m : Prices) (d e x : Direction) → IsIn q d → IsIn q e → IsIn q x → TurnsLeft d e → TurnsLeft e x → TurnsLeft d x → IsTightAt q first second l d → IsTightAt q first second l e → IsTightAt q first second m d → IsTightAt q first second m e → IsTightAt q first second m x → IsTightAt q first second l x
tight_beyond q first second l m d e x in_d in_e in_x left next all l_d l_e m_d m_e m_x =
    tight_by_agreement q first second l m x l_d.above
    (agree_beyond q first second l m d e x in_d in_e in_x left next all (same_where_tight q first second l m d l_d m_d) (same_where_tight q first second l m e l_e m_e)) m_x
