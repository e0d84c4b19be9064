-- Positions of a chain: each lies in one word, at one place of it, and the next and the previous position are inverse
-- to one another.
use Rattle.std.proofs.Common.{◌≡◌, ℕ, zero, suc, pred, ◌+◌, ◌-◌, ◌<◌, ◌≤◌, eqb, cond, [], ◌∷◌, length, get_or, take, inl, inr, arith, refl, sym, ap, subst, ◌∙◌}
use Rattle.std.specs.List.{flat_map}
use Rattle.std.proofs.lemmas.List.{get_or-append-add, get_or_append_left}
use Rattle.std.proofs.lemmas.List.Sums.{sum_by-cons}
use Rattle.std.proofs.lemmas.Bool.{cases_lt, lt-ltb, le-ltb, eq-eqb, ne_eqb, cond-true, cond-false}
use Rattle.sc_theory.specs.Words.{Word}
use Rattle.sc_theory.specs.Chains.{Chain, no_letter, word, positions, first, word_of, letter, succ, prev}

-- a word more in front moves the first positions on by its length, and makes so many positions more
pub first-cons : (u : ℕ × Word) (c : Chain) (w : ℕ) → first (u ∷ c) (suc w) ≡ length u.1 + first c w
first-cons u c w = sum_by-cons (λ (v : ℕ × Word). length v.1) u (take w c)

pub positions-cons : (u : ℕ × Word) (c : Chain) → positions (u ∷ c) ≡ length u.1 + positions c
positions-cons u c = sum_by-cons (λ (v : ℕ × Word). length v.1) u c

-- the word after the word number w begins where that one ends
pub first-suc : (c : Chain) (w : ℕ) → first c (suc w) ≡ first c w + length (word c w)
first-suc [] zero = refl
first-suc [] (suc w) = refl
first-suc (u ∷ c) zero = omega (arith, first-cons u c 0)
first-suc (u ∷ c) (suc w) = omega (arith, first-cons u c w, first-cons u c (suc w), first-suc c w)

-- behind the last word stands the number of positions
pub first_all : (c : Chain) → first c (length c) ≡ positions c
first_all [] = refl
first_all (u ∷ c) = omega (arith, first-cons u c (length c), positions-cons u c, first_all c)

-- the word of a position in the first word, and of one after it
word_of_here : (u : ℕ × Word) (c : Chain) (i : ℕ) → i < length u.1 → word_of (u ∷ c) i ≡ 0
word_of_here u c i h = rw (lt-ltb i (length u.1) h)

word_of_after : (u : ℕ × Word) (c : Chain) (i : ℕ) → length u.1 ≤ i → word_of (u ∷ c) i ≡ suc (word_of c (i - length u.1))
word_of_after u c i h = rw (le-ltb i (length u.1) h)

-- the position at the place k of the word number w
pub word_of_place : (c : Chain) (w k : ℕ) → k < length (word c w) → word_of c (first c w + k) ≡ w
word_of_place [] w k inside = absurd (omega arith)
word_of_place (u ∷ c) zero k inside = word_of_here u c (0 + k) (omega arith)
word_of_place (u ∷ c) (suc w) k inside =
    let i : ℕ = first (u ∷ c) (suc w) + k in
    let at : i - length u.1 ≡ first c w + k = omega (arith, first-cons u c w) in
    word_of_after u c i (omega (arith, first-cons u c w)) ∙ ap (λ (x : ℕ). suc (word_of c x)) at ∙ ap suc (word_of_place c w k inside)

-- where a position lies
pub record Place (c : Chain) (i : ℕ) : Type 0 where
  pub in_chain : word_of c i < length c
  pub from : first c (word_of c i) ≤ i
  pub below : i < first c (suc (word_of c i))

-- each position lies in a word of the chain, at its first position or behind it, and before the next word
pub place : (c : Chain) (i : ℕ) → i < positions c → Place c i
place [] i inside = absurd (omega arith)
place (u ∷ c) i inside =
    elim (cases_lt i (length u.1)) [
      | inl here ↦
          let P : ℕ → Type 0 = λ w. (w < suc (length c)) × (first (u ∷ c) w ≤ i) × (i < first (u ∷ c) (suc w)) in
          let parts = subst P (sym (word_of_here u c i here)) (omega arith, omega arith, omega (arith, first-cons u c 0)) in
          record { in_chain = parts.0; from = parts.1; below = parts.2 }
      | inr after ↦
          let P : ℕ → Type 0 = λ w. (w < suc (length c)) × (first (u ∷ c) w ≤ i) × (i < first (u ∷ c) (suc w)) in
          let j : ℕ = i - length u.1 in
          let rest = place c j (omega (arith, positions-cons u c)) in
          let w : ℕ = word_of c j in
          let parts = subst P (sym (word_of_after u c i after)) (omega (arith, rest.in_chain), omega (arith, rest.from, first-cons u c w), omega (arith, rest.below, first-cons u c (suc w))) in
          record { in_chain = parts.0; from = parts.1; below = parts.2 }
    ]

-- a position as the place k of the word number w
pub record At (c : Chain) (i : ℕ) : Type 0 where
  pub w : ℕ
  pub k : ℕ
  pub in_chain : w < length c
  pub in_word : k < length (word c w)
  pub here : i ≡ first c w + k

-- each position is a place of some word
pub at : (c : Chain) (i : ℕ) → i < positions c → At c i
at c i inside =
    let p = place c i inside in
    record {
      w = word_of c i;
      k = i - first c (word_of c i);
      in_chain = p.in_chain;
      in_word = omega (arith, p.from, p.below, first-suc c (word_of c i));
      here = omega (arith, p.from);
    }

-- each place of a word is a position of the chain
pub place_inside : (c : Chain) (w k : ℕ) → k < length (word c w) → first c w + k < positions c
place_inside [] w k inside = absurd (omega arith)
place_inside (u ∷ c) zero k inside = omega (arith, positions-cons u c)
place_inside (u ∷ c) (suc w) k inside = omega (arith, positions-cons u c, first-cons u c w, place_inside c w k inside)

-- the letter at a position is that at its place of the word
pub letter_place : (c : Chain) (w k : ℕ) → k < length (word c w) → letter c (first c w + k) ≡ get_or (word c w) k no_letter
letter_place [] w k inside = absurd (omega arith)
letter_place (u ∷ c) zero k inside =
    let e : 0 + k ≡ k = omega arith in
    ap (letter (u ∷ c)) e ∙ get_or_append_left u.1 (flat_map (λ (v : ℕ × Word). v.1) c) no_letter k inside
letter_place (u ∷ c) (suc w) k inside =
    let e : first (u ∷ c) (suc w) + k ≡ length u.1 + (first c w + k) = omega (arith, first-cons u c w) in
    ap (letter (u ∷ c)) e ∙ get_or-append-add u.1 (flat_map (λ (v : ℕ × Word). v.1) c) (first c w + k) no_letter ∙ letter_place c w k inside

-- the next position from a place of a word
succ_in : (c : Chain) (w i : ℕ) → word_of c i ≡ w → succ c i ≡ (cond (eqb (suc i) (first c (suc w))) (first c w) (suc i))
succ_in c w i e = ap (λ (v : ℕ). cond (eqb (suc i) (first c (suc v))) (first c v) (suc i)) e

-- the next position is that of the next place, and behind the last place that of the first
pub succ_within : (c : Chain) (w k : ℕ) → suc k < length (word c w) → succ c (first c w + k) ≡ first c w + suc k
succ_within c w k inside =
    let i : ℕ = first c w + k in
    let other : suc i ≡ first c (suc w) → ⊥ = λ e. omega (arith, e, first-suc c w) in
    succ_in c w i (word_of_place c w k (omega arith)) ∙ cond-false _ (first c w) (suc i) (ne_eqb (suc i) (first c (suc w)) other) ∙ omega arith

pub succ_last : (c : Chain) (w k : ℕ) → suc k ≡ length (word c w) → succ c (first c w + k) ≡ first c w
succ_last c w k last =
    let i : ℕ = first c w + k in
    succ_in c w i (word_of_place c w k (omega arith)) ∙ cond-true _ (first c w) (suc i) (eq-eqb (suc i) (first c (suc w)) (omega (arith, first-suc c w)))

-- the previous position from a place of a word
prev_in : (c : Chain) (w i : ℕ) → word_of c i ≡ w → prev c i ≡ (cond (eqb i (first c w)) (pred (first c (suc w))) (pred i))
prev_in c w i e = ap (λ (v : ℕ). cond (eqb i (first c v)) (pred (first c (suc v))) (pred i)) e

-- the previous position is that of the place before, and before the first place that of the last
pub prev_within : (c : Chain) (w k : ℕ) → suc k < length (word c w) → prev c (first c w + suc k) ≡ first c w + k
prev_within c w k inside =
    let i : ℕ = first c w + suc k in
    prev_in c w i (word_of_place c w (suc k) inside) ∙ cond-false _ (pred (first c (suc w))) (pred i) (ne_eqb i (first c w) (λ e. omega (arith, e))) ∙ omega arith

pub prev_first : (c : Chain) (w k : ℕ) → suc k ≡ length (word c w) → prev c (first c w + 0) ≡ first c w + k
prev_first c w k last =
    let i : ℕ = first c w + 0 in
    prev_in c w i (word_of_place c w 0 (omega arith)) ∙ cond-true _ (pred (first c (suc w))) (pred i) (eq-eqb i (first c w) (omega arith)) ∙ omega (arith, first-suc c w)

-- the next and the previous position of a place
pub record Neighbours (c : Chain) (i : ℕ) : Type 0 where
  pub succ_inside : succ c i < positions c
  pub prev_inside : prev c i < positions c
  pub succ_word : word_of c (succ c i) ≡ word_of c i
  pub prev_word : word_of c (prev c i) ≡ word_of c i
  pub prev-succ : prev c (succ c i) ≡ i
  pub succ-prev : succ c (prev c i) ≡ i

-- the place after a place of a word, and the one before it
next_place : (c : Chain) (w k : ℕ) → k < length (word c w) → (m : ℕ) × (m < length (word c w)) × (succ c (first c w + k) ≡ first c w + m) × (prev c (first c w + m) ≡ first c w + k)
next_place c w k inside =
    elim (cases_lt (suc k) (length (word c w))) [
      | inl within ↦ (suc k, within, succ_within c w k within, prev_within c w k within)
      | inr over ↦
          let last : suc k ≡ length (word c w) = omega arith in
          (0, omega arith, succ_last c w k last ∙ omega arith, prev_first c w k last)
    ]

previous_place : (c : Chain) (w k : ℕ) → k < length (word c w) → (m : ℕ) × (m < length (word c w)) × (prev c (first c w + k) ≡ first c w + m) × (succ c (first c w + m) ≡ first c w + k)
previous_place c w zero inside =
    let m : ℕ = pred (length (word c w)) in
    let last : suc m ≡ length (word c w) = omega arith in
    (m, omega arith, prev_first c w m last, succ_last c w m last ∙ omega arith)
previous_place c w (suc k) inside = (k, omega arith, prev_within c w k inside, succ_within c w k inside)

neighbours_at : (c : Chain) (w k : ℕ) → k < length (word c w) → Neighbours c (first c w + k)
neighbours_at c w k inside =
    let i : ℕ = first c w + k in
    let after = next_place c w k inside in
    let before = previous_place c w k inside in
    let here = word_of_place c w k inside in
    record {
      succ_inside = subst (λ (x : ℕ). x < positions c) (sym after.2) (place_inside c w after.0 after.1);
      prev_inside = subst (λ (x : ℕ). x < positions c) (sym before.2) (place_inside c w before.0 before.1);
      succ_word = ap (word_of c) after.2 ∙ word_of_place c w after.0 after.1 ∙ sym here;
      prev_word = ap (word_of c) before.2 ∙ word_of_place c w before.0 before.1 ∙ sym here;
      prev-succ = ap (prev c) after.2 ∙ after.3;
      succ-prev = ap (succ c) before.2 ∙ before.3;
    }

-- the next and the previous position lie in the same word, and each undoes the other
pub neighbours : (c : Chain) (i : ℕ) → i < positions c → Neighbours c i
neighbours c i inside = let a = at c i inside in subst (Neighbours c) (sym a.here) (neighbours_at c a.w a.k a.in_word)

-- a word with a place is a word of the chain
pub word_inside : (c : Chain) (w k : ℕ) → k < length (word c w) → w < length c
word_inside [] w k inside = absurd (omega arith)
word_inside (u ∷ c) zero k inside = omega arith
word_inside (u ∷ c) (suc w) k inside = omega (arith, word_inside c w k inside)
