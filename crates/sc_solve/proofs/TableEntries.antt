-- The distance tables of a square, and the entries in them.
use Rattle.std.proofs.Common.{◌≡◌, ℕ, zero, suc, ◌<◌, List, [], ◌∷◌, ◌++◌, length, get_or, ℤ, Option, None, arith, refl, sym, subst, ◌∙◌}
use Rattle.std.specs.List.{AllByRecursion}
use Rattle.std.specs.Option.{option_map}
use Rattle.sc_weight.specs.declared.plain.Plain.{Plain}
use Rattle.sc_theory.specs.Prices.{Tables, entry}
use Rattle.sc_text.specs.TableLines.{IsEntryInRange}
use Rattle.sc_certificate.specs.Sizes.{AreTablesOf}
use Rattle.sc_tables.specs.Squares.{Square, cell}
use Rattle.sc_solve.specs.ListSteps.{number}
use Rattle.sc_solve.specs.inside.ListSteps.{IsTableOf, AreFirstTables}

by_number : {A : Type 0} (P : A → Type 0) (d : A) (xs : List A) → ((k : ℕ) → k < length xs → P (get_or xs k d)) → AllByRecursion P xs
by_number P d [] h = tt
by_number P d (x ∷ xs) h = (h 0 (omega arith), by_number P d xs (λ k inside. h (suc k) (omega arith)))

before_end : {A : Type 0} (xs : List A) (x d : A) (k : ℕ) → k < length xs → get_or (xs ++ x ∷ []) k d ≡ get_or xs k d
before_end [] x d k inside = absurd (omega arith)
before_end (y ∷ ys) x d zero inside = refl
before_end (y ∷ ys) x d (suc k) inside = before_end ys x d k (omega arith)

at_end : {A : Type 0} (xs : List A) (x d : A) (k : ℕ) → k ≡ length xs → get_or (xs ++ x ∷ []) k d ≡ x
at_end [] x d zero e = refl
at_end [] x d (suc k) e = absurd (omega arith)
at_end (y ∷ ys) x d zero e = absurd (omega arith)
at_end (y ∷ ys) x d (suc k) e = at_end ys x d k (omega arith)

-- where the numbers of the cells are in the range of entries, so is the whole table
pub table_small : (t : Square Plain) (s n : ℕ) (table : List (Option ℤ)) → IsTableOf t s n table → ((j : ℕ) → j < n → IsEntryInRange (option_map number (cell t s j))) → AllByRecursion IsEntryInRange table
table_small t s n table is small =
    by_number IsEntryInRange None table
    (λ k inside. let within : k < n = omega (arith, is.len) in subst IsEntryInRange (sym (is.at k within)) (small k within))

-- tables of all starts are of this size
pub tables_fit : (t : Square Plain) (n : ℕ) (tables : Tables) → t.side ≡ n → AreFirstTables t n tables → AreTablesOf n tables
tables_fit t n tables side first =
    record {
      count = first.len;
      entries = by_number (λ (table : List (Option ℤ)). length table ≡ n) [] tables
          (λ s inside. (first.at s (omega (arith, first.len))).len ∙ side);
    }

-- and the entries of these tables are the numbers of the cells
pub entry_is : (t : Square Plain) (n : ℕ) (tables : Tables) → t.side ≡ n → AreFirstTables t n tables → (s j : ℕ) → s < n → j < n → entry tables s j ≡ option_map number (cell t s j)
entry_is t n tables side first s j start place = (first.at s start).at j (omega (arith, side, place))
