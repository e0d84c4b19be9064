-- Marks on the orbits of the sides below one: the next side has none exactly where no turns take it to a smaller
-- number.
use Rattle.std.proofs.Common.{cond, ◌≡◌, ℕ, zero, suc, ◌+◌, ◌<◌, ◌≤◌, Bool, true, false, ◌⊎◌, nat_le, inl, inr, List, length, get_or, sym, ◌∙◌, ap, subst, refl, arith, add-one, add-zero}
use Rattle.std.specs.Fn.{iterate}
use Rattle.std.proofs.lemmas.Bool.{cases_lt, cases_Bool, and_cases, leb-false, false≢true}
use Rattle.sc_algebra.specs.Sums.{count_below}
use Rattle.sc_algebra.specs.Permutations.{IsPermutation, is_least_for}
use Rattle.sc_algebra.proofs.Cycles.{iterate-add, period, least_means_least}
use Rattle.sc_theory.specs.Fatgraphs.{Sides, mate, next, turn}
use Rattle.sc_fatgraph.specs.inside.Orbits.{IsRibbon, IsInOrbit, IsMarked, IsClosed}
use Rattle.sc_fatgraph.proofs.MarkWalks.{turn_in_range}

-- turn moves the sides among themselves
pub turn_permutes : (g : Sides) → IsRibbon g → IsPermutation (turn g) (length g)
turn_permutes g r = record {
  into = turn_in_range g r;
  apart = λ s u hs hu e.
      r.apart s u hs hu (sym (r.back (next g s) (r.nexts s hs)) ∙ ap (mate g) e ∙ r.back (next g u) (r.nexts u hu));
}

-- some more turns bring a side back
orbit_returns : (t : ℕ → ℕ) (n : ℕ) → IsPermutation t n → (k s : ℕ) → s < n → (m : ℕ) × (iterate t m (iterate t k s) ≡ s)
orbit_returns t n p zero s h = (0, refl)
orbit_returns t n p (suc k) s h =
    let m = orbit_returns t n p k (t s) (p.into s h) in
    let r = period p s h in
    (r.0 + m.0, iterate-add t r.0 m.0 (iterate t k (t s)) ∙ ap (iterate t r.0) m.1 ∙ r.2)

-- where the test fails some iterate is smaller
pub smaller_iterate : (t : ℕ → ℕ) (n s : ℕ) → is_least_for t n s ≡ false → (k : ℕ) × (iterate t k s < s)
smaller_iterate t zero s e = absurd (false≢true (sym e))
smaller_iterate t (suc n) s e =
    elim (and_cases (is_least_for t n s) (nat_le s (iterate t n s)) e) [
      | inl f ↦ smaller_iterate t n s f
      | inr f ↦ (n, leb-false s (iterate t n s) f)
    ]

-- the marked sides are those of the orbits of the sides below one
pub record MarksBelow (g : Sides) (marks : List Bool) (start : ℕ) : Type 0 where
  pub as_many : length marks ≡ length g
  pub closed : IsClosed g marks
  pub below : (s : ℕ) → s < start → IsMarked marks s
  pub in_orbit : (s : ℕ) → IsMarked marks s → (j : ℕ) × (j < start) × IsInOrbit g j s

-- with a side, all of its orbit is marked
closed_along : (g : Sides) (marks : List Bool) → IsRibbon g → IsClosed g marks → (k s : ℕ) → s < length g → IsMarked marks s → IsMarked marks (iterate (turn g) k s)
closed_along g marks r c zero s h m = m
closed_along g marks r c (suc k) s h m = closed_along g marks r c k (turn g s) (turn_in_range g r s h) (c s h m)

-- a marked side is in the orbit of a lesser one, so that some turns take it there
pub marked_is_not_least : (g : Sides) (marks : List Bool) (start : ℕ) → IsRibbon g → MarksBelow g marks start → start < length g → IsMarked marks start → is_least_for (turn g) (length g) start ≡ false
marked_is_not_least g marks start r b h m =
    let t = turn g in
    let o = b.in_orbit start m in
    let p = turn_permutes g r in
    let l : o.0 < length g = omega (arith, o.1) in
    let w = orbit_returns t (length g) p o.2.0 o.0 l in
    let back : iterate t w.0 start ≡ o.0 = ap (iterate t w.0) (sym o.2.1) ∙ w.1 in
    elim (cases_Bool (is_least_for t (length g) start)) [
      | inl e ↦ let k = least_means_least p start h e w.0 in absurd (omega (arith, k, back, o.1))
      | inr e ↦ e
    ]

-- no turns take a side without a mark to a lesser one
pub unmarked_is_least : (g : Sides) (marks : List Bool) (start : ℕ) → IsRibbon g → MarksBelow g marks start → start < length g → get_or marks start false ≡ false → is_least_for (turn g) (length g) start ≡ true
unmarked_is_least g marks start r b h m =
    let t = turn g in
    let p = turn_permutes g r in
    elim (cases_Bool (is_least_for t (length g) start)) [
      | inl e ↦ e
      | inr e ↦
          let k = smaller_iterate t (length g) start e in
          let w = orbit_returns t (length g) p k.0 start h in
          let now : IsMarked marks start =
          subst (λ (s : ℕ). IsMarked marks s) w.1 (closed_along g marks r b.closed w.0 (iterate t k.0 start) (omega (arith, k.1)) (b.below (iterate t k.0 start) k.1)) in
          absurd (false≢true (sym m ∙ now))
    ]

-- a side that is marked already adds no mark
pub marks_stay : (g : Sides) (marks : List Bool) (start : ℕ) → MarksBelow g marks start → IsMarked marks start → MarksBelow g marks (start + 1)
marks_stay g marks start b m = record {
  as_many = b.as_many;
  closed = b.closed;
  below = λ s h. elim (cases_lt s start) [ inl l ↦ b.below s l | inr l ↦ let e : s ≡ start = omega (arith, h, l) in rw e m ];
  in_orbit = λ s n. let o = b.in_orbit s n in (o.0, omega (arith, o.1), o.2);
}

-- a side without a mark has its orbit marked
pub marks_grow : (g : Sides) (marks more : List Bool) (start : ℕ) → MarksBelow g marks start → length more ≡ length marks → IsClosed g more → IsMarked more start → ((s : ℕ) → IsMarked marks s → IsMarked more s) → ((s : ℕ) → IsMarked more s → IsMarked marks s ⊎ IsInOrbit g start s) → MarksBelow g more (start + 1)
marks_grow g marks more start b e c m kept made = record {
  as_many = e ∙ b.as_many;
  closed = c;
  below = λ s h. elim (cases_lt s start) [ inl l ↦ kept s (b.below s l) | inr l ↦ let e' : s ≡ start = omega (arith, h, l) in rw e' m ];
  in_orbit = λ s n.
      elim (made s n) [
        | inl old ↦ let o = b.in_orbit s old in (o.0, omega (arith, o.1), o.2)
        | inr o ↦ (start, omega arith, o)
      ];
}

-- what the count of the starts has come to
pub record CountsBelow (g : Sides) (marks : List Bool) (start found : ℕ) : Type 0 where
  pub marked : MarksBelow g marks start
  pub count : found ≡ count_below (is_least_for (turn g) (length g)) start
  pub few : found ≤ start

count_next : (test : ℕ → Bool) (n : ℕ) (b : Bool) → test n ≡ b → count_below test (n + 1) ≡ count_below test n + cond b 1 0
count_next test n b e = rw add-one (rw e refl)

-- a marked start counts no vertex
pub count_stays : (g : Sides) (marks : List Bool) (start found : ℕ) → IsRibbon g → start < length g → CountsBelow g marks start found → get_or marks start false ≡ true → CountsBelow g marks (start + 1) found
count_stays g marks start found r h b m =
    let least = is_least_for (turn g) (length g) in
    record {
      marked = marks_stay g marks start b.marked m;
      count =
          b.count ∙ sym (add-zero (count_below least start)) ∙ sym (count_next least start false (marked_is_not_least g marks start r b.marked h m));
      few = omega (arith, b.few);
    }

-- a start without a mark counts a vertex, and its orbit is marked
pub count_grows : (g : Sides) (marks more : List Bool) (start found : ℕ) → IsRibbon g → start < length g → CountsBelow g marks start found → get_or marks start false ≡ false → length more ≡ length marks → IsClosed g more → IsMarked more start → ((s : ℕ) → IsMarked marks s → IsMarked more s) → ((s : ℕ) → IsMarked more s → IsMarked marks s ⊎ IsInOrbit g start s) → CountsBelow g more (start + 1) (found + 1)
count_grows g marks more start found r h b u e c m kept made =
    let least = is_least_for (turn g) (length g) in
    record {
      marked = marks_grow g marks more start b.marked e c m kept made;
      count = ap (λ (k : ℕ). k + 1) b.count ∙ sym (count_next least start true (unmarked_is_least g marks start r b.marked h u));
      few = omega (arith, b.few);
    }
