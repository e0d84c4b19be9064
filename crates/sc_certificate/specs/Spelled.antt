-- The lines of a certificate, spelled out.
use Rattle.std.specs.Prelude.{ℕ, ℤ, List, ◌∷◌, ◌++◌, map, length, codes}
use Rattle.std.specs.List.{zip, enumerate_from}
use Rattle.sc_theory.specs.Chains.{Chain}
use Rattle.sc_theory.specs.Prices.{Prices, Tables, pairs}
use Rattle.sc_chain.specs.declared.polygon.Pivot.{Pivot}
use Rattle.sc_line.specs.Lines.{Line, ended, text_of, count_line}
use Rattle.sc_text.specs.PriceLines.{scale_line, base_line, pair_line}
use Rattle.sc_text.specs.TableLines.{from_line}
use Rattle.sc_certificate.specs.PivotLines.{pivot_line}

-- the lines of the prices of pairs
abbrev pub pair_lines : List (ℕ × ℕ) → List ℤ → List Line
pair_lines ps prices = map (λ e. pair_line e.0 e.1) (zip ps prices)

-- the lines of a price list: its scale, the price of each word, and that of each pair
abbrev pub list_lines : Chain → Prices → List Line
list_lines c list = scale_line list.scale ∷ (map base_line list.base ++ pair_lines (pairs c) list.pair)

-- the bytes of a price list, by the pairs of its chain
abbrev pub list_text : List (ℕ × ℕ) → Prices → List ℕ
list_text ps list = ended (scale_line list.scale) ++ (text_of (map base_line list.base) ++ text_of (pair_lines ps list.pair))

-- the lines of distance tables: that of each start
abbrev pub tables_lines : Tables → List Line
tables_lines tables = map (λ e. from_line e.0 e.1) (enumerate_from 0 tables)

-- the lines of a journal: how many pivots there are, and the pivots
abbrev pub journal_lines : List Pivot → List Line
journal_lines journal = count_line (codes "pivots") (length journal) ∷ map pivot_line journal
