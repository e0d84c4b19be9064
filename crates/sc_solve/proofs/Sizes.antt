-- The greatest size of the price of a step, cell by cell.
use Rattle.std.proofs.Common.{◌≡◌, ℕ, ◌+◌, ◌*◌, ◌/◌, ◌%◌, ◌<◌, ◌≤◌, None, ◌⊎◌, inl, inr, ℤ, pos, negsuc, neg_ℤ, ◌-ℤ◌, ◌≤ℤ◌, unsigned_abs, arith, sym, ap, ap₂, subst, ◌∙◌, FitsSigned}
use Rattle.std.specs.Int.{w128}
use Rattle.std.proofs.lemmas.Int.{ints}
use Rattle.std.proofs.lemmas.Bool.{cases_lt}
use Rattle.std.proofs.lemmas.Nat.{div-mul-add, mod-mul-add, mul-add-lt}
use Rattle.sc_theory.specs.Chains.{Chain, positions}
use Rattle.sc_theory.specs.Walks.{IsStep}
use Rattle.sc_whole.specs.declared.checked.Op.TheVariants.{Sub}
use Rattle.sc_rows.specs.Places.{spot, IsWide}
use Rattle.sc_rows.specs.declared.fault.Place.TheVariants.{LiftTurn}
use Rattle.sc_rows.specs.declared.fault.WideAt.{WideAt}
use Rattle.sc_solve.specs.Lifts.{IsWideTurned, IsGreatestSize}
use Rattle.sc_solve.specs.inside.Lifts.{IsSizeOfStep}
use Rattle.sc_theory.specs.Prices.{price}

-- the greatest size in the first n cells of a square of the positions, row by row
pub record IsGreatestBefore (c : Chain) (price : ℕ → ℕ → ℤ) (n : ℕ) (size : ℤ) : Type 0 where
  pub low : (i j : ℕ) → IsStep c i j → i * positions c + j < n → neg_ℤ size ≤ℤ price i j
  pub high : (i j : ℕ) → IsStep c i j → i * positions c + j < n → price i j ≤ℤ size
  pub reached : (size ≡ pos 0) ⊎ ((i : ℕ) × (j : ℕ) × IsStep c i j × (size ≡ pos (unsigned_abs (price i j))))

-- at a step the size of the cell is the size of the step's price
pub size_of_step : (c : Chain) (price : ℕ → ℕ → ℤ) (from to : ℕ) (z size : ℤ) → IsStep c from to → z ≡ price from to → size ≡ pos (unsigned_abs z) → IsSizeOfStep c price from to size
size_of_step c price from to z size step e is = record {
  on = λ _. is ∙ ap (λ (y : ℤ). pos (unsigned_abs y)) e;
  off = λ none. absurd (none step);
  decided = inl step;
}

-- where 0 minus a number fits, its negative does
pub turned_fits : (z : ℤ) → FitsSigned w128 (pos 0 -ℤ z) → FitsSigned w128 (neg_ℤ z)
turned_fits z fits = subst (FitsSigned w128) (same z) fits
  where
    same : (x : ℤ) → pos 0 -ℤ x ≡ neg_ℤ x
    same x = omega (arith, ints)

size_low : (z : ℤ) → neg_ℤ (pos (unsigned_abs z)) ≤ℤ z
size_low (pos n) = omega (arith, ints)
size_low (negsuc n) = omega (arith, ints)

size_high : (z : ℤ) → z ≤ℤ pos (unsigned_abs z)
size_high (pos n) = omega (arith, ints)
size_high (negsuc n) = omega (arith, ints)

wider_low : (g new z : ℤ) → neg_ℤ g ≤ℤ z → g ≤ℤ new → neg_ℤ new ≤ℤ z
wider_low g new z h k = omega (arith, ints)

wider_high : (g new z : ℤ) → z ≤ℤ g → g ≤ℤ new → z ≤ℤ new
wider_high g new z h k = omega (arith, ints)

-- the cell with the number n
module _ (c : Chain) (price : ℕ → ℕ → ℤ) (n side : ℕ) (s : ℤ) (side_is : side ≡ positions c) (is : IsSizeOfStep c price (n / side) (n % side) s) where
  cell_start : (i j : ℕ) → IsStep c i j → i * positions c + j ≡ n → n / side ≡ i
  cell_start i j step at = ap₂ (λ (m p : ℕ). m / p) (sym at) side_is ∙ div-mul-add i (positions c) j step.to

  cell_end : (i j : ℕ) → IsStep c i j → i * positions c + j ≡ n → n % side ≡ j
  cell_end i j step at = ap₂ (λ (m p : ℕ). m % p) (sym at) side_is ∙ mod-mul-add i (positions c) j step.to

  size_at : (i j : ℕ) → IsStep c i j → i * positions c + j ≡ n → s ≡ pos (unsigned_abs (price i j))
  size_at i j step at =
      let begins : n / side ≡ i = cell_start i j step at in
      let ends : n % side ≡ j = cell_end i j step at in
      is.on (subst (λ (x : ℕ). IsStep c x (n % side)) (sym begins) (subst (IsStep c i) (sym ends) step))
      ∙ ap₂ (λ (x y : ℕ). pos (unsigned_abs (price x y))) begins ends

  module _ (g new : ℤ) (before : IsGreatestBefore c price n g) (first : g ≤ℤ new) (second : s ≤ℤ new) where
    low_after : (i j : ℕ) → IsStep c i j → i * positions c + j < n + 1 → neg_ℤ new ≤ℤ price i j
    low_after i j step within = elim (cases_lt (i * positions c + j) n) [
      | inl earlier ↦ wider_low g new (price i j) (before.low i j step earlier) first
      | inr here ↦ wider_low s new (price i j) (subst (λ (z : ℤ). neg_ℤ z ≤ℤ price i j) (sym (size_at i j step (omega arith))) (size_low (price i j))) second
    ]

    high_after : (i j : ℕ) → IsStep c i j → i * positions c + j < n + 1 → price i j ≤ℤ new
    high_after i j step within = elim (cases_lt (i * positions c + j) n) [
      | inl earlier ↦ wider_high g new (price i j) (before.high i j step earlier) first
      | inr here ↦ wider_high s new (price i j) (subst (λ (z : ℤ). price i j ≤ℤ z) (sym (size_at i j step (omega arith))) (size_high (price i j))) second
    ]

    reached_by : IsStep c (n / side) (n % side) ⊎ (¬ IsStep c (n / side) (n % side)) → (new ≡ g) ⊎ (new ≡ s) → (new ≡ pos 0) ⊎ ((i : ℕ) × (j : ℕ) × IsStep c i j × (new ≡ pos (unsigned_abs (price i j))))
    reached_by decided (inl e) = subst (λ (z : ℤ). (z ≡ pos 0) ⊎ ((i : ℕ) × (j : ℕ) × IsStep c i j × (z ≡ pos (unsigned_abs (price i j))))) (sym e) before.reached
    reached_by (inl step) (inr e) = inr (n / side, n % side, step, e ∙ is.on step)
    reached_by (inr none) (inr e) = inl (e ∙ is.off none)

    -- a greater of the two is the greatest size up to the next cell
    pub next_cell : (new ≡ g) ⊎ (new ≡ s) → IsGreatestBefore c price (n + 1) new
    next_cell one = record { low = low_after; high = high_after; reached = reached_by is.decided one }

-- the greatest size up to the last cell is that of all steps
pub all_cells : (c : Chain) (price : ℕ → ℕ → ℤ) (side n : ℕ) (g : ℤ) → side ≡ positions c → side * side ≤ n → IsGreatestBefore c price n g → IsGreatestSize c price g
all_cells c price side n g side_is all before = record {
  low = λ i j step. before.low i j step (omega (arith, mul-add-lt i (positions c) j (positions c) step.from step.to, square));
  high = λ i j step. before.high i j step (omega (arith, mul-add-lt i (positions c) j (positions c) step.from step.to, square));
  reached = before.reached;
}
  where
    square : positions c * positions c ≤ n
    square = subst (λ (p : ℕ). p * p ≤ n) side_is all

-- ---- at prices that are the same on the steps

module _ (c : Chain) (f g : ℕ → ℕ → ℤ) (same : (i j : ℕ) → IsStep c i j → f i j ≡ g i j) where
  -- the greatest size of a step's price is the same, and so is what is too wide to be turned
  pub greatest_same : (size : ℤ) → IsGreatestSize c f size → IsGreatestSize c g size
  greatest_same size is = record {
    low = λ i j step. subst (λ (z : ℤ). neg_ℤ size ≤ℤ z) (same i j step) (is.low i j step);
    high = λ i j step. subst (λ (z : ℤ). z ≤ℤ size) (same i j step) (is.high i j step);
    reached = by is.reached;
  }
    where
      by : (size ≡ pos 0) ⊎ ((i : ℕ) × (j : ℕ) × IsStep c i j × (size ≡ pos (unsigned_abs (f i j)))) → (size ≡ pos 0) ⊎ ((i : ℕ) × (j : ℕ) × IsStep c i j × (size ≡ pos (unsigned_abs (g i j))))
      by (inl e) = inl e
      by (inr (i, j, step, e)) = inr (i, j, step, e ∙ ap (λ (z : ℤ). pos (unsigned_abs z)) (same i j step))

  pub turned_same : (w : WideAt) → IsWideTurned c f w → IsWideTurned c g w
  turned_same w is = record {
    from = is.from;
    to = is.to;
    is_step = is.is_step;
    wide = subst (λ (z : ℤ). IsWide (spot LiftTurn is.from is.to None) Sub (pos 0) z w) (same is.from is.to is.is_step) is.wide;
  }
