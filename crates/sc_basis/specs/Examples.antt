-- Small bases by which the definitions are told from near misses.
use Rattle.std.specs.Prelude.{ℕ, zero, suc, [], ◌∷◌, ℤ, pos, negsuc}
use Rattle.sc_basis.specs.Products.{at, unit}
use Rattle.sc_basis.specs.Bases.{Column}
use Rattle.sc_basis.specs.Standing.{BasisNumbers}
use Rattle.sc_basis.specs.Journals.{Journal}

-- the commutator: two rows of pairs, one of the word, and the polygon that passes the word's start once
abbrev pub one_word : ℕ → ℤ
one_word = at (pos 0 ∷ pos 0 ∷ pos 1 ∷ [])

abbrev pub square : Column
square = (2, pos 1) ∷ []

abbrev pub square_enters : Journal
square_enters = (2, square) ∷ []

abbrev pub square_numbers : BasisNumbers
square_numbers =
    record {
      row = λ i. unit i;
      denominator = λ i. pos 1;
      bulk = at (negsuc 0 ∷ negsuc 0 ∷ pos 0 ∷ []);
      bulk_scale = pos 1;
      fine = at (pos 0 ∷ pos 0 ∷ pos 1 ∷ []);
      fine_scale = pos 1;
    }

-- the same with the fine prices and their scale doubled, and with the scale alone doubled
abbrev pub doubled_numbers : BasisNumbers
doubled_numbers = record square_numbers { fine = at (pos 0 ∷ pos 0 ∷ pos 2 ∷ []); fine_scale = pos 2 }

abbrev pub wrong_scale_numbers : BasisNumbers
wrong_scale_numbers = record square_numbers { fine_scale = pos 2 }

-- two opposite words: a row of the pair, two of the words, and the polygon that passes both words' starts
abbrev pub two_words : ℕ → ℤ
two_words = at (pos 0 ∷ pos 1 ∷ pos 1 ∷ [])

abbrev pub two_starts : Column
two_starts = (1, pos 1) ∷ (2, pos 1) ∷ []

abbrev pub two_starts_enter : Journal
two_starts_enter = (2, two_starts) ∷ []

-- the same column at the row of the first word
abbrev pub two_starts_too_early : Journal
two_starts_too_early = (1, two_starts) ∷ []

abbrev pub two_starts_rows : ℕ → ℕ → ℤ
two_starts_rows zero = unit 0
two_starts_rows (suc zero) = at (pos 0 ∷ pos 1 ∷ negsuc 0 ∷ [])
two_starts_rows (suc (suc i)) = unit (suc (suc i))

abbrev pub two_starts_numbers : BasisNumbers
two_starts_numbers =
    record {
      row = two_starts_rows;
      denominator = λ i. pos 1;
      bulk = at (negsuc 0 ∷ negsuc 0 ∷ pos 1 ∷ []);
      bulk_scale = pos 1;
      fine = at (pos 0 ∷ pos 0 ∷ pos 1 ∷ []);
      fine_scale = pos 1;
    }
