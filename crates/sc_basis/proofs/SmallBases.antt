-- The small bases of the examples, by computing.
use Rattle.std.specs.Prelude.{◌≡◌, ◌≢◌, ℕ, zero, suc, ◌<◌, true, false, None, Some, [], ℤ, pos, ◌*ℤ◌, ◌≤ℤ◌, ◌<ℤ◌, unsigned_abs}
use Rattle.std.specs.Int.{◌∣◌}
use Rattle.std.proofs.Common.{arith, refl, ap, ◌∙◌, inl}
use Rattle.std.proofs.Math.Nat.{dvd-mul_right}
use Rattle.std.proofs.lemmas.Int.{ints}
use Rattle.sc_algebra.proofs.Ints.{one-mul, zero-mul}
use Rattle.sc_basis.specs.Products.{dot, unit, IsNonNegative}
use Rattle.sc_basis.specs.Bases.{Basis, unit_basis, columns, bulk_costs, fine_costs}
use Rattle.sc_basis.specs.Standing.{Gives, Stands, start_numbers}
use Rattle.sc_basis.specs.Lines.{LexLess, line}
use Rattle.sc_basis.specs.Pivots.{along, IsLeaving}
use Rattle.sc_basis.specs.Journals.{IsJournal, basis_after}
use Rattle.sc_basis.specs.Examples.{one_word, square, square_enters, square_numbers, doubled_numbers, wrong_scale_numbers, two_words, two_starts, two_starts_enter, two_starts_too_early, two_starts_numbers}
use Rattle.sc_basis.specs.Evidence.{RowStep, Operands, IsEvidence, row_difference}
use Rattle.sc_basis.proofs.Units.{coprime_to_one, units}
use Rattle.sc_basis.proofs.JournalLaws.{reached_start, standing_unique}
use Rattle.sc_basis.proofs.SameNumbers.{leaves_by_all}

-- a fact of each number below three
pub below_three : (P : ℕ → Type 0) → P 0 → P 1 → P 2 → (k : ℕ) → k < 3 → P k
below_three P a b c zero l = a
below_three P a b c (suc zero) l = b
below_three P a b c (suc (suc zero)) l = c
below_three P a b c (suc (suc (suc k))) l = absurd (omega arith)

positive : pos 0 <ℤ pos 1
positive = omega (arith, ints)

-- ---- one word
square_leaves : IsLeaving 3 one_word start_numbers square 2
square_leaves =
    record {
      inside = omega arith;
      positive = omega (arith, ints);
      least = below_three (λ i. i ≢ 2 → pos 0 <ℤ along 3 start_numbers square i → LexLess 4 (λ k. along 3 start_numbers square i *ℤ line 3 one_word (start_numbers.row 2) k) (λ k. along 3 start_numbers square 2 *ℤ line 3 one_word (start_numbers.row i) k))
          (λ apart p. absurd (omega (arith, ints)))
          (λ apart p. absurd (omega (arith, ints)))
          (λ apart p. absurd (apart refl));
    }

-- the pivot of the commutator is lawful, and the numbers of the example stand for the basis after it
pub square_lawful : IsJournal 3 one_word square_enters
square_lawful = (record { numbers = start_numbers; stands = units 3; improves = inl (omega (arith, ints)); leaves = square_leaves }, tt)

pub square_stands : Stands 3 (basis_after (unit_basis 3) square_enters) square_numbers
square_stands =
    let basis : Basis = basis_after (unit_basis 3) square_enters in
    record {
      rows = below_three (λ i. Gives 3 (columns basis) (unit i) (square_numbers.row i) (pos 1))
          (record { positive = positive; product = below_three (λ j. dot 3 (unit 0) (columns basis j) ≡ pos 1 *ℤ unit 0 j) refl refl refl })
          (record { positive = positive; product = below_three (λ j. dot 3 (unit 1) (columns basis j) ≡ pos 1 *ℤ unit 1 j) refl refl refl })
          (record { positive = positive; product = below_three (λ j. dot 3 (unit 2) (columns basis j) ≡ pos 1 *ℤ unit 2 j) refl refl refl });
      rows_coprime = λ i l. coprime_to_one 3 (square_numbers.row i);
      bulk = record { positive = positive; product = below_three (λ j. dot 3 square_numbers.bulk (columns basis j) ≡ pos 1 *ℤ bulk_costs basis j) refl refl refl };
      bulk_coprime = coprime_to_one 3 square_numbers.bulk;
      fine = record { positive = positive; product = below_three (λ j. dot 3 square_numbers.fine (columns basis j) ≡ pos 1 *ℤ fine_costs basis j) refl refl refl };
      fine_coprime = coprime_to_one 3 square_numbers.fine;
    }

-- ---- two words
two_starts_leave : IsLeaving 3 two_words start_numbers two_starts 2
two_starts_leave =
    record {
      inside = omega arith;
      positive = omega (arith, ints);
      least = below_three (λ i. i ≢ 2 → pos 0 <ℤ along 3 start_numbers two_starts i → LexLess 4 (λ k. along 3 start_numbers two_starts i *ℤ line 3 two_words (start_numbers.row 2) k) (λ k. along 3 start_numbers two_starts 2 *ℤ line 3 two_words (start_numbers.row i) k))
          (λ apart p. absurd (omega (arith, ints)))
          (λ apart p. (2, omega arith, below_two (λ j. along 3 start_numbers two_starts 1 *ℤ line 3 two_words (start_numbers.row 2) j ≡ along 3 start_numbers two_starts 2 *ℤ line 3 two_words (start_numbers.row 1) j) refl refl, omega (arith, ints)))
          (λ apart p. absurd (apart refl));
    }
  where
    below_two : (P : ℕ → Type 0) → P 0 → P 1 → (k : ℕ) → k < 2 → P k
    below_two P a b zero l = a
    below_two P a b (suc zero) l = b
    below_two P a b (suc (suc k)) l = absurd (omega arith)

-- the same of the words `a` and `A`
pub two_starts_lawful : IsJournal 3 two_words two_starts_enter
two_starts_lawful = (record { numbers = start_numbers; stands = units 3; improves = inl (omega (arith, ints)); leaves = two_starts_leave }, tt)

pub two_starts_stand : Stands 3 (basis_after (unit_basis 3) two_starts_enter) two_starts_numbers
two_starts_stand =
    let basis : Basis = basis_after (unit_basis 3) two_starts_enter in
    record {
      rows = below_three (λ i. Gives 3 (columns basis) (unit i) (two_starts_numbers.row i) (pos 1))
          (record { positive = positive; product = below_three (λ j. dot 3 (two_starts_numbers.row 0) (columns basis j) ≡ pos 1 *ℤ unit 0 j) refl refl refl })
          (record { positive = positive; product = below_three (λ j. dot 3 (two_starts_numbers.row 1) (columns basis j) ≡ pos 1 *ℤ unit 1 j) refl refl refl })
          (record { positive = positive; product = below_three (λ j. dot 3 (two_starts_numbers.row 2) (columns basis j) ≡ pos 1 *ℤ unit 2 j) refl refl refl });
      rows_coprime = λ i l. coprime_to_one 3 (two_starts_numbers.row i);
      bulk = record { positive = positive; product = below_three (λ j. dot 3 two_starts_numbers.bulk (columns basis j) ≡ pos 1 *ℤ bulk_costs basis j) refl refl refl };
      bulk_coprime = coprime_to_one 3 two_starts_numbers.bulk;
      fine = record { positive = positive; product = below_three (λ j. dot 3 two_starts_numbers.fine (columns basis j) ≡ pos 1 *ℤ fine_costs basis j) refl refl refl };
      fine_coprime = coprime_to_one 3 two_starts_numbers.fine;
    }

-- ---- near misses
-- with the scale alone doubled the fine prices no longer give the costs
pub wrong_scale_refused : Stands 3 (basis_after (unit_basis 3) square_enters) wrong_scale_numbers → ⊥
wrong_scale_refused h = let e : pos 1 ≡ pos 2 = h.fine.product 2 (omega arith) in omega (arith, ints)

-- fine prices and scale both doubled give the costs, but do not stand: they have the common divisor 2
pub doubled_gives : Gives 3 (columns (basis_after (unit_basis 3) square_enters)) (fine_costs (basis_after (unit_basis 3) square_enters)) doubled_numbers.fine doubled_numbers.fine_scale
doubled_gives =
    record {
      positive = omega (arith, ints);
      product = below_three (λ j. dot 3 doubled_numbers.fine (columns (basis_after (unit_basis 3) square_enters) j) ≡ pos 2 *ℤ fine_costs (basis_after (unit_basis 3) square_enters) j) refl refl refl;
    }

pub doubled_refused : Stands 3 (basis_after (unit_basis 3) square_enters) doubled_numbers → ⊥
doubled_refused h =
    let e : ◌≡◌ {A = ℕ} 2 1 = h.fine_coprime 2 (dvd-mul_right 2 1) (below_three (λ k. 2 ∣ unsigned_abs (doubled_numbers.fine k)) (dvd-mul_right 2 0) (dvd-mul_right 2 0) (dvd-mul_right 2 1)) in
    omega arith

two_words_not_negative : IsNonNegative 3 two_words
two_words_not_negative = below_three (λ k. pos 0 ≤ℤ two_words k) (omega (arith, ints)) (omega (arith, ints)) (omega (arith, ints))

-- by the numbers of the unit columns the second word's row is less at the entry of the first word
early_row_refused : IsLeaving 3 two_words start_numbers two_starts 1 → ⊥
early_row_refused leaves = at (leaves.least 2 (omega arith) (λ (e : ◌≡◌ {A = ℕ} 2 1). omega arith) (omega (arith, ints)))
  where
    at : LexLess 4 (λ k. along 3 start_numbers two_starts 2 *ℤ line 3 two_words (start_numbers.row 1) k) (λ k. along 3 start_numbers two_starts 1 *ℤ line 3 two_words (start_numbers.row 2) k) → ⊥
    at (zero, inside, same, less) = omega (arith, ints)
    at (suc zero, inside, same, less) = omega (arith, ints)
    at (suc (suc zero), inside, same, less) = omega (arith, ints)
    at (suc (suc (suc k)), inside, same, less) = let e : pos 1 ≡ pos 0 = same 2 (omega arith) in omega (arith, ints)

pub too_early_refused : IsJournal 3 two_words two_starts_too_early → ⊥
too_early_refused (pivot, rest) =
    early_row_refused (leaves_by_all 3 two_words (unit_basis 3) pivot.numbers start_numbers two_starts 1 (reached_start 3 two_words two_words_not_negative) pivot.stands (units 3) pivot.leaves)

-- ---- evidence
first_word_step : RowStep 3 two_words start_numbers two_starts 2 1
first_word_step =
    record {
      improves = inl (omega (arith, ints));
      leaves = two_starts_leave;
      left = record { entries = unit 2; scale = pos 1; reduced = record { factor = pos 1; positive = positive; entries = λ k l. one-mul (unit 2 k); scale = refl; coprime = coprime_to_one 3 (unit 2) } };
      inside = omega arith;
      other = λ (e : ◌≡◌ {A = ℕ} 1 2). omega arith;
      moved = λ (e : pos 1 ≡ pos 0). omega (arith, ints);
      p = pos 1;
      q = pos 1;
      ratio = record { positive = positive; same = refl; coprime = coprime_to_one 1 (λ k. pos 1) };
    }

-- evidence of a difference in the first pivot, with the leaving row told, and none without the row
pub difference_told : IsEvidence 3 two_words [] (row_difference 1 2) (Some two_starts) (Some 2) (pos 0) (pos 1)
unfolding first_word_step
difference_told =
    record {
      lawful = tt;
      numbers = start_numbers;
      stands = units 3;
      entering_told = refl;
      leaving_told = refl;
      operands = (first_word_step, omega arith, refl, refl);
    }

pub no_row_refused : IsEvidence 3 two_words [] (row_difference 1 2) (Some two_starts) None (pos 0) (pos 1) → ⊥
no_row_refused h = let e : false ≡ true = h.leaving_told in cc

-- the last entry of the first word's row is 0 in all numbers that stand
pub other_order_refused : IsEvidence 3 two_words [] (row_difference 1 2) (Some two_starts) (Some 2) (pos 1) (pos 0) → ⊥
other_order_refused h = at h.operands
  where
    zero_there : h.numbers.row 1 2 ≡ pos 0
    zero_there = (standing_unique 3 two_words (unit_basis 3) h.numbers start_numbers (reached_start 3 two_words two_words_not_negative) h.stands (units 3)).rows 1 2 (omega arith) (omega arith)

    at : Operands 3 two_words h.numbers two_starts 2 (row_difference 1 2) (pos 1) (pos 0) → ⊥
    at (s, inside, x_is, y_is) =
        let e : h.numbers.row 1 2 *ℤ s.p ≡ pos 0 = ap (λ (z : ℤ). z *ℤ s.p) zero_there ∙ zero-mul s.p in
        omega (arith, ints)
