-- Tables that vouch for a threshold: from an entry of a table on, no walk back to the table's start costs less than it.
use Rattle.std.proofs.Common.{◌≡◌, ℕ, ◌<◌, List, [], ◌∷◌, Option, Some, ℤ, pos, ◌+ℤ◌, ◌<ℤ◌, ◌≤ℤ◌, inl, inr, arith, refl, sym, subst}
use Rattle.std.proofs.lemmas.Int.{ints}
use Rattle.std.proofs.lemmas.Bool.{cases_eq}
use Rattle.sc_theory.specs.Chains.{Chain, positions}
use Rattle.sc_theory.specs.Walks.{IsStep, WalksBack, total_back}
use Rattle.sc_theory.specs.Prices.{Prices, price, Tables, entry, VouchBy, Vouch, Covers}

-- a walk that leads back begins at a position
pub start_inside : (c : Chain) (s i : ℕ) (js : List ℕ) → WalksBack c s i js → i < positions c
start_inside c s i [] step = step.from
start_inside c s i (j ∷ js) walk = walk.0.from

-- amounts are added in any grouping, what is at most another stays so with more added, and two amounts of at least the
-- threshold come to at least the threshold
pub record AreAdded {A : Type 0} (zero : A) (sum : A → A → A) (AtMost : A → A → Type 0) (threshold : A) : Type 0 where
  pub grouped : (x y z : A) → sum (sum x y) z ≡ sum x (sum y z)
  pub nothing : (x : A) → sum zero x ≡ x
  pub over : (x y z : A) → AtMost x y → AtMost y z → AtMost x z
  pub more : (x y z : A) → AtMost x y → AtMost (sum x z) (sum y z)
  pub together : (x y : A) → AtMost threshold x → AtMost threshold y → AtMost threshold (sum x y)

-- a total of walks that lead back: that of the last step, and of a step and the rest
pub record AddsUp {A : Type 0} (sum : A → A → A) (price : ℕ → ℕ → A) (total : ℕ → ℕ → List ℕ → A) : Type 0 where
  pub last : (s i : ℕ) → total s i [] ≡ price i s
  pub step : (s i j : ℕ) (js : List ℕ) → total s i (j ∷ js) ≡ sum (price i j) (total s j js)

module _ {A : Type 0} (zero : A) (sum : A → A → A) (AtMost : A → A → Type 0) (c : Chain) (price : ℕ → ℕ → A) (threshold : A) (entry : ℕ → ℕ → Option A) (total : ℕ → ℕ → List ℕ → A) (laws : AreAdded zero sum AtMost threshold) (adds : AddsUp sum price total) (vouch : VouchBy zero sum AtMost c price threshold entry) where
  -- an entry, and the price of a walk from there back to the start of its table, come to at least the threshold
  pub along : (s i : ℕ) (js : List ℕ) (a : A) → s < positions c → entry s i ≡ Some a → WalksBack c s i js → AtMost threshold (sum a (total s i js))
  along s i [] a inside present step = subst (λ (x : A). AtMost threshold (sum a x)) (sym (adds.last s i)) (vouch.returns s i a inside step present)
  along s i (j ∷ js) a inside present walk =
      subst (λ (x : A). AtMost threshold (sum a x)) (sym (adds.step s i j js))
      (subst (AtMost threshold) (laws.grouped a (price i j) (total s j js))
      (elim (cases_eq j s) [
        | inl same ↦
            let step = subst (λ (x : ℕ). IsStep c i x) same walk.0 in
            let rest = subst (λ (x : ℕ). WalksBack c s x js) same walk.1 in
            let again : AtMost threshold (total s s js) = subst (AtMost threshold) (laws.nothing (total s s js)) (along s s js zero inside (vouch.starts s inside) rest) in
            subst (λ (x : ℕ). AtMost threshold (sum (sum a (price i x)) (total s x js))) (sym same)
            (laws.together (sum a (price i s)) (total s s js) (vouch.returns s i a inside step present) again)
        | inr other ↦
            let far = vouch.goes s i j a inside walk.0 present other in
            laws.over threshold (sum far.0 (total s j js)) (sum (sum a (price i j)) (total s j js)) (along s j js far.0 inside far.1 walk.1)
            (laws.more far.0 (sum a (price i j)) (total s j js) far.2)
      ]))

  -- so a closed walk costs at least the threshold
  pub closed : (i : ℕ) (js : List ℕ) → WalksBack c i i js → AtMost threshold (total i i js)
  closed i js walk =
      let inside = start_inside c i i js walk in
      subst (AtMost threshold) (laws.nothing (total i i js)) (along i i js zero inside (vouch.starts i inside) walk)

whole_numbers : (d : ℤ) → pos 0 <ℤ d → AreAdded (pos 0) (λ x y. x +ℤ y) (λ x y. x ≤ℤ y) d
whole_numbers d above = record {
  grouped = λ x y z. omega (arith, ints);
  nothing = λ x. omega (arith, ints);
  over = λ x y z h k. omega (arith, ints);
  more = λ x y z h. omega (arith, ints);
  together = λ x y h k. omega (arith, ints);
}

-- a list that tables vouch for covers the chain
pub covers : (c : Chain) (list : Prices) (tables : Tables) → pos 0 <ℤ list.scale → Vouch c list tables → Covers c list
covers c list tables above vouch [] walk = absurd walk
covers c list tables above vouch (i ∷ js) walk =
    closed (pos 0) (λ x y. x +ℤ y) (λ x y. x ≤ℤ y) c (price c list) list.scale (entry tables) (total_back (price c list))
    (whole_numbers list.scale above) (record { last = λ s k. refl; step = λ s k j ks. refl }) vouch i js walk
