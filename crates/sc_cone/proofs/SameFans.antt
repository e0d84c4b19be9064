-- Two fans of the same chains have the same corners.
use Rattle.std.proofs.Common.{◌≡◌, ℕ, ◌<◌, length, ℤ, pos, negsuc, ◌*ℤ◌, ◌≤ℤ◌, arith, refl, sym, subst}
use Rattle.std.proofs.lemmas.Int.{ints}
use Rattle.sc_theory.specs.Chains.{Chain, IsChain}
use Rattle.sc_theory.specs.Prices.{Prices}
use Rattle.sc_cone.specs.declared.Direction.{Direction}
use Rattle.sc_cone.specs.declared.Quadrant.{Quadrant}
use Rattle.sc_cone.specs.declared.Quadrant.TheVariants.{Lower, Upper}
use Rattle.sc_cone.specs.Directions.{IsIn}
use Rattle.sc_cone.specs.Cones.{chain_of}
use Rattle.sc_cone.specs.Values.{IsValueOf}
use Rattle.sc_cone.specs.Fans.{Fan, corner, edge, turn_to, IsFan}
use Rattle.sc_cone.proofs.ValueLaws.{unique}
use Rattle.sc_cone.proofs.Corners.{Round, round, same_turns, same_count}

a_quadrant : (d : Direction) → pos 0 ≤ℤ d.s → (q : Quadrant) × IsIn q d
a_quadrant d low = by_sign d.t refl
  where
    by_sign : (t : ℤ) → d.t ≡ t → (q : Quadrant) × IsIn q d
    by_sign (pos t) e = (Upper, (low, subst (λ (x : ℤ). pos 0 ≤ℤ x) (sym e) (omega (arith, ints))))
    by_sign (negsuc t) e = (Lower, (low, subst (λ (x : ℤ). x ≤ℤ pos 0) (sym e) (omega (arith, ints))))

abbrev lists : Fan → ℕ → Prices
lists h i = (edge h i).list

module _ (f g : Fan) (of_first : f.first ≡ g.first) (of_second : f.second ≡ g.second) (is_first : IsChain f.first) (is_second : IsChain f.second) (is_f : IsFan f) (is_g : IsFan g) where
  round_of_g : Round f.first f.second (length g.corners) (turn_to g) (lists g)
  round_of_g =
      subst (λ (c : Chain). Round f.first c (length g.corners) (turn_to g) (lists g)) (sym of_second)
      (subst (λ (c : Chain). Round c g.second (length g.corners) (turn_to g) (lists g)) (sym of_first) (round g is_g))

  -- the fans have as many corners, in the same directions, and their values are the same as fractions
  pub as_many : length f.corners ≡ length g.corners
  as_many =
      same_count f.first f.second is_first is_second (length f.corners) (length g.corners) (turn_to f) (turn_to g) (lists f) (lists g) (round f is_f) round_of_g

  pub directions : (i : ℕ) → i < length f.corners → turn_to f i ≡ turn_to g i
  directions i inside =
      same_turns f.first f.second is_first is_second (length f.corners) (length g.corners) (turn_to f) (turn_to g) (lists f) (lists g) (round f is_f) round_of_g i inside (subst (λ (n : ℕ). i < n) as_many inside)

  pub values : (i : ℕ) → i < length f.corners → (corner f i).value.0 *ℤ (corner g i).value.1 ≡ (corner g i).value.0 *ℤ (corner f i).value.1
  values i inside =
      let q = a_quadrant (turn_to f i) (is_f.half i inside) in
      let here : turn_to f i ≡ turn_to g i = directions i inside in
      let there : i < length g.corners = subst (λ (n : ℕ). i < n) as_many inside in
      let of_g : IsValueOf (chain_of q.0 g.first g.second (turn_to g i)) (corner g i).value.0 (corner g i).value.1 = is_g.values i q.0 there (subst (λ (d : Direction). IsIn q.0 d) here q.1) in
      let of_g' : IsValueOf (chain_of q.0 f.first f.second (turn_to f i)) (corner g i).value.0 (corner g i).value.1 =
      subst (λ (c : Chain). IsValueOf c (corner g i).value.0 (corner g i).value.1) (λ k. chain_of q.0 (sym of_first k) (sym of_second k) (sym here k)) of_g in
      unique (chain_of q.0 f.first f.second (turn_to f i)) _ _ _ _ (is_f.values i q.0 inside q.1) of_g'
