-- A closed walk below a threshold above 0 contains a polygon below it.
use Rattle.std.proofs.Common.{◌≡◌, ◌≢◌, ℕ, zero, suc, ◌+◌, ◌<◌, ◌≤◌, List, [], ◌∷◌, ◌++◌, length, ℤ, ◌+ℤ◌, arith, inl, inr, refl, sym, ap, subst, ◌∙◌, length-append}
use Rattle.std.specs.List.{AllByRecursion}
use Rattle.std.specs.Ordering.{is_lt}
use Rattle.std.proofs.lemmas.List.{append-nil, append_assoc}
use Rattle.std.proofs.lemmas.Bool.{cases_Bool, cases_lt}
use Rattle.sc_theory.specs.Chains.{Chain}
use Rattle.sc_theory.specs.Walks.{IsClosedWalk, IsPolygon, HasNoRepeat, walk_total}
use Rattle.sc_weight.specs.Levels.{Levels, zero_levels, levels_sum, levels_cmp}
use Rattle.sc_tables.specs.Totals.{bulk_of, fine_of, closed_total, IsBelow, IsAtMost}
use Rattle.sc_tables.specs.Tables.{AllAtLeast, IsPolygonBelow}
use Rattle.sc_tables.proofs.Order.{threshold_sum}
use Rattle.sc_tables.proofs.WalkLaws.{turned, total-turned, cut_between, cut_rest, total-cut}
use Rattle.sc_tables.proofs.Repeats.{Repeat, simple_or_repeat, all-append, all_front, all_rest, all-map}

-- ---- a list without repeats, begun at its least number
abbrev pub Apart : ℕ → List ℕ → Type 0
Apart x xs = AllByRecursion (λ j. x ≢ j) xs

-- x stands apart from xs, and xs has no repeat: x may be put at any place
pub put_last : (xs : List ℕ) (x : ℕ) → HasNoRepeat xs → Apart x xs → HasNoRepeat (xs ++ x ∷ [])
put_last [] x simple away = (tt, tt)
put_last (y ∷ xs) x simple away =
    (all-append (λ j. y ≢ j) xs (x ∷ []) simple.0 ((λ e. away.0 (sym e)), tt), put_last xs x simple.1 away.1)

-- a list without repeats has none when it is begun at another of its places
pub simple-turned : (a b : List ℕ) → HasNoRepeat (a ++ b) → HasNoRepeat (b ++ a)
simple-turned [] b simple = subst HasNoRepeat (sym (append-nil b)) simple
simple-turned (x ∷ a) b simple =
    let moved = put_last (a ++ b) x simple.1 simple.0 in
    let at : (a ++ b) ++ x ∷ [] ≡ a ++ (b ++ x ∷ []) = append_assoc a b (x ∷ []) in
    subst HasNoRepeat (append_assoc b (x ∷ []) a) (simple-turned a (b ++ x ∷ []) (subst HasNoRepeat at moved))

-- the least number of a list, and what stands before and after it
pub record LeastPlace (xs : List ℕ) : Type 0 where
  pub before : List ℕ
  pub place : ℕ
  pub after : List ℕ
  pub is : xs ≡ before ++ place ∷ after
  pub least : AllByRecursion (λ j. place ≤ j) xs

-- each list but the empty one has a least number
pub least_place : (x : ℕ) (xs : List ℕ) → LeastPlace (x ∷ xs)
least_place x [] = record { before = []; place = x; after = []; is = refl; least = (omega arith, tt) }
least_place x (y ∷ xs) =
    let p = least_place y xs in
    elim (cases_lt p.place x) [
      | inl less ↦ record { before = x ∷ p.before; place = p.place; after = p.after; is = ap (λ (zs : List ℕ). x ∷ zs) p.is; least = (omega arith, p.least) }
      | inr more ↦ record { before = []; place = x; after = y ∷ xs; is = refl; least = (omega arith, all-map (λ j. p.place ≤ j) (λ j. x ≤ j) (λ j h. omega arith) (y ∷ xs) p.least) }
    ]

greater : (x : ℕ) (xs : List ℕ) → Apart x xs → AllByRecursion (λ j. x ≤ j) xs → AllByRecursion (λ j. x < j) xs
greater x [] away least = tt
greater x (y ∷ xs) away least = (omega (arith, away.0, least.0), greater x xs away.1 least.1)

-- a closed walk without repeats is a polygon when it is begun at its least position
pub polygon_from : (c : Chain) (a : List ℕ) (x : ℕ) (b : List ℕ) → IsClosedWalk c (a ++ x ∷ b) → HasNoRepeat (a ++ x ∷ b) → AllByRecursion (λ j. x ≤ j) (a ++ x ∷ b) → IsPolygon c (x ∷ (b ++ a))
polygon_from c a x b closed simple least =
    let apart : HasNoRepeat (x ∷ (b ++ a)) = simple-turned a (x ∷ b) simple in
    let front = all_front (λ j. x ≤ j) a (x ∷ b) least in
    let rest = all_rest (λ j. x ≤ j) a (x ∷ b) least in
    record { closed = turned c a x b closed; least = greater x (b ++ a) apart.0 (all-append (λ j. x ≤ j) b a rest.1 front); simple = apart }

-- ---- the law
module _ (c : Chain) (price : ℕ → ℕ → Levels) (threshold : Levels) where
  simple_at_least : ((walk : List ℕ) → ¬ IsPolygonBelow c price threshold walk) → (walk : List ℕ) → IsClosedWalk c walk → HasNoRepeat walk → IsAtMost threshold (closed_total price walk)
  simple_at_least none [] closed simple = absurd closed
  simple_at_least none (i ∷ js) closed simple = at_place (least_place i js)
    where
      at_place : LeastPlace (i ∷ js) → IsAtMost threshold (closed_total price (i ∷ js))
      at_place p =
          let polygon : IsPolygon c (p.place ∷ (p.after ++ p.before)) =
          polygon_from c p.before p.place p.after (subst (IsClosedWalk c) p.is closed) (subst HasNoRepeat p.is simple) (subst (AllByRecursion (λ j. p.place ≤ j)) p.is p.least) in
          let same : (f : ℕ → ℕ → ℤ) → walk_total f (p.place ∷ (p.after ++ p.before)) ≡ walk_total f (i ∷ js) = λ f. total-turned f p.before p.place p.after ∙ ap (walk_total f) (sym p.is) in
          let total : closed_total price (p.place ∷ (p.after ++ p.before)) ≡ closed_total price (i ∷ js) = λ k. record { bulk = same (bulk_of price) k; fine = same (fine_of price) k } in
          elim (cases_Bool (is_lt (levels_cmp (closed_total price (i ∷ js)) threshold))) [
            | inr over ↦ over
            | inl below ↦ absurd (none _ (record { polygon = polygon; below = ap (λ (t : Levels). is_lt (levels_cmp t threshold)) total ∙ below }))
          ]

  -- a closed walk with a repeat, by the shorter ones
  repeat_at_least : IsBelow zero_levels threshold → (walk : List ℕ) → ((shorter : List ℕ) → length shorter < length walk → IsClosedWalk c shorter → IsAtMost threshold (closed_total price shorter)) → IsClosedWalk c walk → Repeat walk → IsAtMost threshold (closed_total price walk)
  repeat_at_least above walk smaller closed r =
      let cut : IsClosedWalk c (r.before ++ r.place ∷ (r.between ++ r.place ∷ r.after)) = subst (IsClosedWalk c) r.is closed in
      let size : length walk ≡ length r.before + suc (length r.between + suc (length r.after)) = ap length r.is ∙ length-append r.before _ ∙ ap (λ (k : ℕ). length r.before + suc k) (length-append r.between (r.place ∷ r.after)) in
      let rest_size : length (r.before ++ r.place ∷ r.after) ≡ length r.before + suc (length r.after) = length-append r.before _ in
      let one = smaller (r.place ∷ r.between) (omega arith) (cut_between c r.between r.place r.after r.before cut) in
      let two = smaller (r.before ++ r.place ∷ r.after) (omega arith) (cut_rest c r.between r.place r.after r.before cut) in
      let same : (f : ℕ → ℕ → ℤ) → walk_total f (r.place ∷ r.between) +ℤ walk_total f (r.before ++ r.place ∷ r.after) ≡ walk_total f walk =
      λ f. sym (total-cut f r.before r.between r.place r.after) ∙ ap (walk_total f) (sym r.is) in
      let total : levels_sum (closed_total price (r.place ∷ r.between)) (closed_total price (r.before ++ r.place ∷ r.after)) ≡ closed_total price walk =
      λ k. record { bulk = same (bulk_of price) k; fine = same (fine_of price) k } in
      subst (IsAtMost threshold) total (threshold_sum threshold (closed_total price (r.place ∷ r.between)) (closed_total price (r.before ++ r.place ∷ r.after)) above one two)

  -- by the number of positions
  closed_at_least : IsBelow zero_levels threshold → ((walk : List ℕ) → ¬ IsPolygonBelow c price threshold walk) → (n : ℕ) (walk : List ℕ) → length walk < n → IsClosedWalk c walk → IsAtMost threshold (closed_total price walk)
  closed_at_least above none zero walk short closed = absurd (omega arith)
  closed_at_least above none (suc n) walk short closed = elim (simple_or_repeat walk) [
    | inl simple ↦ simple_at_least none walk closed simple
    | inr r ↦ repeat_at_least above walk (λ shorter less. closed_at_least above none n shorter (omega arith)) closed r
  ]

  -- where no polygon is below the threshold, no closed walk is
  pub polygons_decide : IsBelow zero_levels threshold → ((walk : List ℕ) → ¬ IsPolygonBelow c price threshold walk) → AllAtLeast c price threshold
  polygons_decide above none walk closed = closed_at_least above none (suc (length walk)) walk (omega arith) closed
