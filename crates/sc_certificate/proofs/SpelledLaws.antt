-- The lines of a certificate are those that are spelled out.
use Rattle.std.proofs.Common.{◌≡◌, ℕ, ◌+◌, ◌-◌, List, [], ◌∷◌, ◌++◌, map, length, get_or, codes, ℤ, refl, sym, ap, ◌∙◌, append_assoc, arith}
use Rattle.std.specs.List.{zip, enumerate_from}
use Rattle.std.proofs.lemmas.List.{length_push, get_or_at}
use Rattle.sc_theory.specs.Chains.{Chain, positions}
use Rattle.sc_theory.specs.Fatgraphs.{Sides}
use Rattle.sc_theory.specs.Prices.{Tables, pairs}
use Rattle.sc_chain.specs.declared.polygon.Pivot.{Pivot}
use Rattle.sc_line.specs.Lines.{Line, count_line}
use Rattle.sc_line.specs.Forms.{lines_after}
use Rattle.sc_line.proofs.FormLaws.{lines_map}
use Rattle.sc_text.specs.declared.limits.TheConstants.{VERSION_1}
use Rattle.sc_text.specs.Words.{word_line, a_word}
use Rattle.sc_text.specs.Sides.{side_line, a_side}
use Rattle.sc_text.specs.PriceLines.{scale_line, base_line, pair_line, a_base, a_pair}
use Rattle.sc_text.specs.ValueLines.{value_line}
use Rattle.sc_text.specs.TableLines.{from_line, a_table}
use Rattle.sc_text.specs.Surfaces.{ending}
use Rattle.sc_certificate.specs.PivotLines.{pivot_line, a_pivot}
use Rattle.sc_certificate.specs.Certificates.{Certificate, heading, certificate_lines}
use Rattle.sc_certificate.specs.Spelled.{list_lines, tables_lines, journal_lines}
use Rattle.sc_text.specs.Printing.{words_lines, sides_lines}

abbrev pub spelled_lines : Certificate → List Line
spelled_lines v =
    heading ∷ (words_lines v.chain
    ++ (value_line v.value ∷ count_line (codes "copies") v.copies ∷ (sides_lines v.sides
    ++ (list_lines v.chain v.list ++ (tables_lines v.tables ++ (journal_lines v.journal ++ ending ∷ []))))))

pair_lines_are : (all front ps : List (ℕ × ℕ)) (before ys : List ℤ) → all ≡ front ++ ps → length before ≡ length front → length ys ≡ length ps
    → lines_after (λ (b : List ℤ). a_pair (get_or all (length b) (0, 0))) before ys ≡ map (λ e. pair_line e.0 e.1) (zip ps ys)
pair_lines_are all front [] before [] e at len = refl
pair_lines_are all front [] before (y ∷ ys) e at len = absurd (omega arith)
pair_lines_are all front (p ∷ ps) before [] e at len = absurd (omega arith)
pair_lines_are all front (p ∷ ps) before (y ∷ ys) e at len =
    let here : get_or all (length before) (0, 0) ≡ p = ap (λ (l : List (ℕ × ℕ)). get_or l (length before) (0, 0)) e ∙ get_or_at front p ps (0, 0) (length before) (sym at) in
    let rest = pair_lines_are all (front ++ p ∷ []) ps (before ++ y ∷ []) ys (e ∙ sym (append_assoc front (p ∷ []) ps)) (omega (arith, length_push before y, length_push front p)) (omega arith) in
    λ i. pair_line (here i) y ∷ rest i

from_lines_are : (k n : ℕ) (before tables : Tables) → length before ≡ n → lines_after (λ (b : Tables). a_table k (length b)) before tables ≡ map (λ e. from_line e.0 e.1) (enumerate_from n tables)
from_lines_are k n before [] at = refl
from_lines_are k n before (table ∷ tables) at =
    let rest = from_lines_are k (n + 1) (before ++ table ∷ []) tables (omega (arith, length_push before table)) in
    λ i. from_line (at i) table ∷ rest i

-- with a price for each pair, the lines of a certificate are those spelled out
pub same_lines : (v : Certificate) → length v.list.pair ≡ length (pairs v.chain) → certificate_lines v ≡ spelled_lines v
same_lines v count =
    let words = lines_map (λ (c : Chain). a_word VERSION_1 (VERSION_1.positions - positions c)) word_line (λ b w. refl) [] v.chain in
    let sides = lines_map (λ (b : Sides). a_side VERSION_1) side_line (λ b s. refl) [] v.sides in
    let bases = lines_map (λ (b : List ℤ). a_base) base_line (λ b z. refl) [] v.list.base in
    let prices = pair_lines_are (pairs v.chain) [] (pairs v.chain) [] v.list.pair refl refl count in
    let tables = from_lines_are (positions v.chain) 0 [] v.tables refl in
    let pivots = lines_map (λ (b : List Pivot). a_pivot v.chain) pivot_line (λ b p. refl) [] v.journal in
    let list = map base_line v.list.base in
    let pair : List Line = map (λ e. pair_line e.0 e.1) (zip (pairs v.chain) v.list.pair) in
    let last : List Line = map (λ e. from_line e.0 e.1) (enumerate_from 0 v.tables) ++ ((count_line (codes "pivots") (length v.journal) ∷ map pivot_line v.journal) ++ ending ∷ []) in
    (λ i.
    heading ∷ ((count_line (codes "words") (length v.chain) ∷ words i) ++ (value_line v.value ∷ count_line (codes "copies") v.copies ∷ ((count_line (codes "sides") (length v.sides) ∷ sides i)
    ++ (scale_line v.list.scale ∷ (bases i ++ (prices i ++ (tables i ++ ((count_line (codes "pivots") (length v.journal) ∷ pivots i) ++ ending ∷ [])))))))))
    ∙ ap
    (λ (t : List Line). heading ∷ ((count_line (codes "words") (length v.chain) ∷ map word_line v.chain) ++ (value_line v.value ∷ count_line (codes "copies") v.copies ∷ ((count_line (codes "sides") (length v.sides) ∷ map side_line v.sides)
    ++ (scale_line v.list.scale ∷ t)))))
    (sym (append_assoc list pair last))
