-- A closed walk split into polygons, with equal totals for every price.
use Rattle.std.proofs.Common.{◌≡◌, ℕ, zero, suc, ◌+◌, ◌<◌, ◌≤◌, List, [], ◌∷◌, ◌++◌, length, ℤ, pos, ◌+ℤ◌, arith, inl, inr, refl, sym, ap, subst, ◌∙◌, length-append}
use Rattle.std.specs.List.{AllByRecursion}
use Rattle.std.proofs.lemmas.Int.{ints}
use Rattle.sc_theory.specs.Chains.{Chain}
use Rattle.sc_theory.specs.Walks.{IsClosedWalk, IsPolygon, HasNoRepeat, walk_total, walks_total}
use Rattle.sc_tables.specs.Splits.{HaveStepsOf}
use Rattle.sc_tables.proofs.WalkLaws.{cut_between, cut_rest, total-cut, total-turned}
use Rattle.sc_tables.proofs.Polygons.{LeastPlace, least_place, polygon_from}
use Rattle.sc_tables.proofs.Repeats.{Repeat, simple_or_repeat}
use Rattle.sc_gluing.proofs.StepCounts.{walks_total-append}

-- polygons with the steps of a closed walk
pub record Split (c : Chain) (walk : List ℕ) : Type 0 where
  pub polygons : List (List ℕ)
  pub valid : AllByRecursion (IsPolygon c) polygons
  pub steps : HaveStepsOf polygons walk

nothing_more : (a : ℤ) → a +ℤ pos 0 ≡ a
nothing_more a = omega (arith, ints)

pub all_walks-append : (P : List ℕ → Type 0) (vs ws : List (List ℕ)) → AllByRecursion P vs → AllByRecursion P ws → AllByRecursion P (vs ++ ws)
all_walks-append P [] ws front rest = rest
all_walks-append P (v ∷ vs) ws front rest = (front.0, all_walks-append P vs ws front.1 rest)

module _ (c : Chain) where
  split_simple : (walk : List ℕ) → IsClosedWalk c walk → HasNoRepeat walk → Split c walk
  split_simple [] closed simple = absurd closed
  split_simple (i ∷ js) closed simple = at_place (least_place i js)
    where
      at_place : LeastPlace (i ∷ js) → Split c (i ∷ js)
      at_place p = record {
        polygons = (p.place ∷ (p.after ++ p.before)) ∷ [];
        valid = (polygon_from c p.before p.place p.after (subst (IsClosedWalk c) p.is closed) (subst HasNoRepeat p.is simple) (subst (AllByRecursion (λ j. p.place ≤ j)) p.is p.least), tt);
        steps = λ f. nothing_more _ ∙ total-turned f p.before p.place p.after ∙ ap (walk_total f) (sym p.is);
      }

  split_repeat : (walk : List ℕ) → ((shorter : List ℕ) → length shorter < length walk → IsClosedWalk c shorter → Split c shorter) → IsClosedWalk c walk → Repeat walk → Split c walk
  split_repeat walk smaller closed r =
      let cut : IsClosedWalk c (r.before ++ r.place ∷ (r.between ++ r.place ∷ r.after)) = subst (IsClosedWalk c) r.is closed in
      let size : length walk ≡ length r.before + suc (length r.between + suc (length r.after)) = ap length r.is ∙ length-append r.before _ ∙ ap (λ (k : ℕ). length r.before + suc k) (length-append r.between (r.place ∷ r.after)) in
      let rest_size : length (r.before ++ r.place ∷ r.after) ≡ length r.before + suc (length r.after) = length-append r.before _ in
      let one = smaller (r.place ∷ r.between) (omega arith) (cut_between c r.between r.place r.after r.before cut) in
      let two = smaller (r.before ++ r.place ∷ r.after) (omega arith) (cut_rest c r.between r.place r.after r.before cut) in
      record {
        polygons = one.polygons ++ two.polygons;
        valid = all_walks-append (IsPolygon c) one.polygons two.polygons one.valid two.valid;
        steps = λ f.
            walks_total-append f one.polygons two.polygons
            ∙ ap (λ (x : ℤ). x +ℤ walks_total f two.polygons) (one.steps f)
            ∙ ap (λ (x : ℤ). walk_total f (r.place ∷ r.between) +ℤ x) (two.steps f)
            ∙ sym (total-cut f r.before r.between r.place r.after)
            ∙ ap (walk_total f) (sym r.is);
      }

  split_below : (n : ℕ) (walk : List ℕ) → length walk < n → IsClosedWalk c walk → Split c walk
  split_below zero walk short closed = absurd (omega arith)
  split_below (suc n) walk short closed = elim (simple_or_repeat walk) [
    | inl simple ↦ split_simple walk closed simple
    | inr r ↦ split_repeat walk (λ shorter less. split_below n shorter (omega arith)) closed r
  ]

  -- each closed walk is split into polygons
  pub split : (walk : List ℕ) → IsClosedWalk c walk → Split c walk
  split walk closed = split_below (suc (length walk)) walk (omega arith) closed

  -- closed walks split into polygons, one after another
  pub record SplitAll (walks : List (List ℕ)) : Type 0 where
    pub polygons : List (List ℕ)
    pub valid : AllByRecursion (IsPolygon c) polygons
    pub steps : (f : ℕ → ℕ → ℤ) → walks_total f polygons ≡ walks_total f walks

  -- and so are several at once
  pub split_all : (walks : List (List ℕ)) → AllByRecursion (IsClosedWalk c) walks → SplitAll walks
  split_all [] closed = record { polygons = []; valid = tt; steps = λ f. refl }
  split_all (w ∷ ws) closed =
      let one = split w closed.0 in
      let rest = split_all ws closed.1 in
      record {
        polygons = one.polygons ++ rest.polygons;
        valid = all_walks-append (IsPolygon c) one.polygons rest.polygons one.valid rest.valid;
        steps = λ f.
            walks_total-append f one.polygons rest.polygons
            ∙ ap (λ (x : ℤ). x +ℤ walks_total f rest.polygons) (one.steps f)
            ∙ ap (λ (x : ℤ). walk_total f w +ℤ x) (rest.steps f);
      }
