-- The marks of the positions that a walk has passed.
use Rattle.std.proofs.Common.{◌≡◌, ◌≢◌, ℕ, ◌+◌, ◌<◌, ◌≤◌, Bool, true, false, List, length, get_or, set, replicate, inl, inr, arith, sym, ap, ◌∙◌}
use Rattle.std.proofs.lemmas.Bool.{cases_eq, cases_lt, true≢false, false_from_ne_true}
use Rattle.std.proofs.lemmas.List.{get_or-set_other, length-set, get_or-replicate, get_or_past, length-replicate}
use Rattle.std.proofs.lemmas.Grind.{get_or-set_at}
use Rattle.sc_chain.specs.declared.limits.TheConstants.{MAX_POSITIONS}
use Rattle.sc_chain.specs.Polygons.{has_no_repeat}
use Rattle.sc_chain.proofs.PolygonLaws.{simple_from, simple_test, apart, no_repeat_from}

-- the first n positions differ, and exactly they are marked
pub record AreMarks (walk : List ℕ) (n : ℕ) (seen : List Bool) : Type 0 where
  pub len : length seen ≡ MAX_POSITIONS
  pub apart : (i j : ℕ) → i < j → j < n → get_or walk i 0 ≢ get_or walk j 0
  pub marked : (i : ℕ) → i < n → get_or seen (get_or walk i 0) false ≡ true
  pub from : (p : ℕ) → get_or seen p false ≡ true → (i : ℕ) × (i < n) × (get_or walk i 0 ≡ p)

unmarked : (p : ℕ) → get_or (replicate MAX_POSITIONS false) p false ≡ false
unmarked p = elim (cases_lt p MAX_POSITIONS) [
  | inl h ↦ get_or-replicate MAX_POSITIONS p false false h
  | inr h ↦ get_or_past (replicate MAX_POSITIONS false) p false (omega (arith, length-replicate MAX_POSITIONS false))
]

-- before the first position none is marked
pub no_marks : (walk : List ℕ) → AreMarks walk 0 (replicate MAX_POSITIONS false)
no_marks walk = record {
  len = length-replicate MAX_POSITIONS false;
  apart = λ i j less h. absurd (omega arith);
  marked = λ i h. absurd (omega arith);
  from = λ p e. absurd (true≢false (sym e ∙ unmarked p));
}

marked_twice : (walk : List ℕ) (n : ℕ) → n < length walk → (i : ℕ) × (i < n) × (get_or walk i 0 ≡ get_or walk n 0) → has_no_repeat walk ≡ true → ⊥
marked_twice walk n h (i, less, e) simple = apart walk i n (simple_from walk simple) less h e

-- a walk whose next position is marked has a repeat
pub repeats : (walk : List ℕ) (n : ℕ) (seen : List Bool) → AreMarks walk n seen → n < length walk → get_or seen (get_or walk n 0) false ≡ true → has_no_repeat walk ≡ false
repeats walk n seen m h e = false_from_ne_true (has_no_repeat walk) (marked_twice walk n h (m.from (get_or walk n 0) e))

-- a walk that was marked to its end has no repeat
pub none_repeats : (walk : List ℕ) (n : ℕ) (seen : List Bool) → AreMarks walk n seen → length walk ≤ n → has_no_repeat walk ≡ true
none_repeats walk n seen m h = simple_test walk (no_repeat_from walk (λ i j less inside. m.apart i j less (omega arith)))

later : (walk : List ℕ) (n p : ℕ) → (i : ℕ) × (i < n) × (get_or walk i 0 ≡ p) → (i : ℕ) × (i < n + 1) × (get_or walk i 0 ≡ p)
later walk n p (i, less, e) = (i, omega arith, e)

-- the next position is marked, if it is not yet
pub mark_next : (walk : List ℕ) (n : ℕ) (seen : List Bool) → AreMarks walk n seen → get_or walk n 0 < MAX_POSITIONS → get_or seen (get_or walk n 0) false ≡ false →
    AreMarks walk (n + 1) (set seen (get_or walk n 0) true)
mark_next walk n seen m below new =
    let here : ℕ = get_or walk n 0 in
    let inside : here < length seen = omega (arith, m.len) in
    record {
      len = length-set seen here true ∙ m.len;
      apart = λ i j less h. elim (cases_eq j n) [
        | inl s ↦
            (λ e. true≢false (sym (m.marked i (omega arith)) ∙ ap (λ (p : ℕ). get_or seen p false) (e ∙ ap (λ (k : ℕ). get_or walk k 0) s) ∙ new))
        | inr ne ↦ m.apart i j less (omega arith)
      ];
      marked = λ i h. elim (cases_eq (get_or walk i 0) here) [
        | inl s ↦ get_or-set_at seen here (get_or walk i 0) true false s inside
        | inr ne ↦
            (let other : i ≡ n → ⊥ = λ s. ne (ap (λ (k : ℕ). get_or walk k 0) s) in
            get_or-set_other seen here (get_or walk i 0) true false ne ∙ m.marked i (omega arith))
      ];
      from = λ p e. elim (cases_eq p here) [
        | inl s ↦ (n, omega arith, sym s)
        | inr ne ↦ later walk n p (m.from p (sym (get_or-set_other seen here p true false ne) ∙ e))
      ];
    }
