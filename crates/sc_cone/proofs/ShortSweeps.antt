-- Sweeps of directions with bounded coordinates are short, and the coordinates of open neighbours' next directions are
-- bounded.
use Rattle.std.proofs.Common.{◌≡◌, ℕ, zero, suc, ◌+◌, ◌-◌, ◌*◌, ◌<◌, ◌≤◌, List, length, unsigned_abs, inl, inr, arith, ap, subst, mul-le-mul_left, mul-le-mul_right}
use Rattle.std.proofs.lemmas.Int.{ints}
use Rattle.std.proofs.lemmas.Bool.{cases_lt}
use Rattle.sc_algebra.proofs.Ints.{mul_comm}
use Rattle.sc_algebra.proofs.Cycles.{pigeonhole}
use Rattle.sc_theory.specs.Chains.{Chain, weighted_length}
use Rattle.sc_cone.specs.declared.Direction.{Direction}
use Rattle.sc_cone.specs.declared.Quadrant.{Quadrant}
use Rattle.sc_cone.specs.Directions.{TurnsLeft}
use Rattle.sc_cone.specs.Cones.{chain_of}
use Rattle.sc_cone.specs.Searches.{Reached, reached, IsSweep}
use Rattle.sc_cone.proofs.Forms.{length_by_form}
use Rattle.sc_cone.proofs.Turning.{turns_on}
use Rattle.sc_cone.proofs.PrimitiveDirections.{same_within}

at_most_product : (a l : ℕ) → 0 < l → a ≤ a * l
at_most_product a l some = omega (arith, mul-le-mul_left a some)

bounded : (a b l m n : ℕ) → 0 < l → 0 < m → n ≡ a * l + b * m → (a ≤ n) × (b ≤ n)
bounded a b l m n some more e = (omega (arith, e, at_most_product a l some), omega (arith, e, at_most_product b m more))

-- over chains that have length no coordinate of a direction is above the weighted length of its chain
pub coordinates : (q : Quadrant) (first second : Chain) (d : Direction) → 0 < weighted_length first → 0 < weighted_length second → (unsigned_abs d.s ≤ weighted_length (chain_of q first second d)) × (unsigned_abs d.t ≤ weighted_length (chain_of q first second d))
coordinates q first second d some more =
    bounded (unsigned_abs d.s) (unsigned_abs d.t) (weighted_length first) (weighted_length second) _ some more (length_by_form q first second d)

-- two numbers below m in one
less_by_first : (m a a' b b' : ℕ) → b < m → a < a' → a * m + b < a' * m + b'
less_by_first m a a' b b' inside less = omega (arith, mul-le-mul_right {m = suc a} {n = a'} m less)

same_first : (m a a' b b' : ℕ) → b < m → b' < m → a * m + b ≡ a' * m + b' → a ≡ a'
same_first m a a' b b' inside inside' e =
    elim (cases_lt a a') [
      | inl less ↦ absurd (omega (arith, e, less_by_first m a a' b b' inside less))
      | inr over ↦ elim (cases_lt a' a) [
        | inl more ↦ absurd (omega (arith, e, less_by_first m a' a b' b inside' more))
        | inr under ↦ omega arith
      ]
    ]

same_column : (m a a' b b' : ℕ) → a ≡ a' → a * m + b ≡ a' * m + b' → b ≡ b'
same_column m a a' b b' same e = omega (arith, e, ap (λ (t : ℕ). t * m) same)

row_below : (m a b : ℕ) → a < m → b < m → a * m + b < m * m
row_below m a b in_a in_b = omega (arith, mul-le-mul_right {m = suc a} {n = m} m in_a)

no_turn : (d : Direction) → TurnsLeft d d → ⊥
no_turn d left = omega (arith, ints, mul_comm d.s d.t)

module _ (q : Quadrant) (first second : Chain) (rs : List Reached) (sweep : IsSweep q first second rs) where
  far_left : (k i : ℕ) → i + suc k < length rs → TurnsLeft (reached rs i).direction (reached rs (i + suc k)).direction
  far_left zero i inside =
      let e : suc i ≡ i + 1 = omega arith in
      subst (λ (j : ℕ). TurnsLeft (reached rs i).direction (reached rs j).direction) e (sweep.left i (omega arith))
  far_left (suc k) i inside =
      let e : suc (i + suc k) ≡ i + suc (suc k) = omega arith in
      turns_on q (reached rs i).direction (reached rs (i + suc k)).direction (reached rs (i + suc (suc k))).direction
      (sweep.within i (omega arith)) (sweep.within (i + suc k) (omega arith)) (sweep.within (i + suc (suc k)) inside)
      (far_left k i (omega arith))
      (subst (λ (j : ℕ). TurnsLeft (reached rs (i + suc k)).direction (reached rs j).direction) e (sweep.left (i + suc k) (omega arith)))

  module _ (n : ℕ) (small : (i : ℕ) → i < length rs → (unsigned_abs (reached rs i).direction.s ≤ n) × (unsigned_abs (reached rs i).direction.t ≤ n)) where
    abbrev code : ℕ → ℕ
    code i = unsigned_abs (reached rs i).direction.s * suc n + unsigned_abs (reached rs i).direction.t

    code_below : (i : ℕ) → i < length rs → code i < suc n * suc n
    code_below i inside =
        row_below (suc n) (unsigned_abs (reached rs i).direction.s) (unsigned_abs (reached rs i).direction.t) (omega (arith, (small i inside).0)) (omega (arith, (small i inside).1))

    apart : (i j : ℕ) → i < j → j < length rs → code i ≡ code j → ⊥
    apart i j less inside e =
        let here : i < length rs = omega arith in
        let below_i : unsigned_abs (reached rs i).direction.t < suc n = omega (arith, (small i here).1) in
        let below_j : unsigned_abs (reached rs j).direction.t < suc n = omega (arith, (small j inside).1) in
        let same_s = same_first (suc n) (unsigned_abs (reached rs i).direction.s) (unsigned_abs (reached rs j).direction.s) (unsigned_abs (reached rs i).direction.t) (unsigned_abs (reached rs j).direction.t) below_i below_j e in
        let same_t = same_column (suc n) (unsigned_abs (reached rs i).direction.s) (unsigned_abs (reached rs j).direction.s) (unsigned_abs (reached rs i).direction.t) (unsigned_abs (reached rs j).direction.t) same_s e in
        let same : (reached rs i).direction ≡ (reached rs j).direction = same_within q (reached rs i).direction (reached rs j).direction (sweep.within i here) (sweep.within j inside) same_s same_t in
        let k : ℕ = j - suc i in
        let split : i + suc k ≡ j = omega arith in
        let left : TurnsLeft (reached rs i).direction (reached rs j).direction = subst (λ (m : ℕ). TurnsLeft (reached rs i).direction (reached rs m).direction) split (far_left k i (omega arith)) in
        no_turn (reached rs j).direction (subst (λ (d : Direction). TurnsLeft d (reached rs j).direction) same left)

    -- a sweep in which no coordinate is above n has at most as many entries as there are pairs of numbers up to n
    pub short : length rs ≤ suc n * suc n
    short =
        elim (cases_lt (suc n * suc n) (length rs)) [
          | inl long ↦
              let two = pigeonhole (suc n * suc n) code (λ i inside. code_below i (omega arith)) in
              absurd (apart two.0 two.1 two.2 (omega (arith, two.3)) two.4)
          | inr fits ↦ fits
        ]
