-- The pieces of a certificate text.
use Rattle.std.proofs.Common.{◌≡◌, ℕ, ◌+◌, ◌<◌, ◌≤◌, take, drop, Option, zero-add, subst, List, [], ◌∷◌, ◌++◌, length, get_or, codes, ℤ, sym, ap, ◌∙◌}
use Rattle.std.specs.List.{flat_map, enumerate_from}
use Rattle.std.proofs.lemmas.List.{take_all}
use Rattle.std.proofs.lemmas.List.FromFn.{get_or-enumerate_from}
use Rattle.std.proofs.lemmas.List.Concat.{flat_map-append}
use Rattle.sc_theory.specs.Prices.{Tables, pairs}
use Rattle.sc_text.specs.TableLines.{from_line}
use Rattle.sc_line.specs.Lines.{Line, ended, text_of, count_line}
use Rattle.sc_text.specs.Surfaces.{ending}
use Rattle.sc_text.specs.Printing.{words_lines, sides_lines}
use Rattle.sc_text.specs.ValueLines.{value_line}
use Rattle.sc_line.proofs.PrintLaws.{pieces_at, pieces_more, part_after}
use Rattle.sc_line.specs.Printing.{AppendsPart}
use Rattle.sc_certificate.specs.Certificates.{Certificate, heading, certificate_text}
use Rattle.sc_certificate.specs.Spelled.{list_lines, list_text, tables_lines, journal_lines}
use Rattle.sc_certificate.proofs.PrintedLines.{list_pieces}
use Rattle.sc_certificate.proofs.SpelledLaws.{same_lines}
use Rattle.sc_certificate.specs.declared.parts.Part.{Part}
use Rattle.sc_certificate.specs.declared.parts.TheConstants.{PARTS}
use Rattle.sc_certificate.specs.Parts.{part_text}

lines_first : (ks ls : List Line) → text_of (ks ++ ls) ≡ text_of ks ++ text_of ls
lines_first ks ls = flat_map-append ended ks ls

-- the parts in their order are the text
pub parts_are_text : (v : Certificate) → length v.list.pair ≡ length (pairs v.chain) → certificate_text v ≡ flat_map (part_text v) PARTS
parts_are_text v count =
    let words : List Line = words_lines v.chain in
    let sides : List Line = sides_lines v.sides in
    let list : List Line = list_lines v.chain v.list in
    let tables : List Line = tables_lines v.tables in
    let journal : List Line = journal_lines v.journal in
    let from_journal : List Line = journal ++ ending ∷ [] in
    let from_tables : List Line = tables ++ from_journal in
    let from_list : List Line = list ++ from_tables in
    let behind_list = lines_first tables from_journal ∙ ap (λ (t : List ℕ). text_of tables ++ t) (lines_first journal (ending ∷ [])) in
    let behind_sides =
    lines_first list from_tables
    ∙ ap (λ (t : List ℕ). t ++ text_of from_tables) (list_pieces v.chain v.list)
    ∙ ap (λ (t : List ℕ). list_text (pairs v.chain) v.list ++ t) behind_list in
    let behind_value = lines_first sides from_list ∙ ap (λ (t : List ℕ). text_of sides ++ t) behind_sides in
    ap text_of (same_lines v count)
    ∙ ap (λ (t : List ℕ). ended heading ++ t)
    (lines_first words (value_line v.value ∷ count_line (codes "copies") v.copies ∷ (sides ++ from_list))
    ∙ ap (λ (t : List ℕ). text_of words ++ (ended (value_line v.value) ++ (ended (count_line (codes "copies") v.copies) ++ t))) behind_value)

-- ---- tables beside their starts

pub table_line : (tables : Tables) (i : ℕ) (table : List (Option ℤ)) → i < length tables → table ≡ get_or tables i []
    → from_line i table ≡ from_line (get_or (enumerate_from 0 tables) i (0, [])).0 (get_or (enumerate_from 0 tables) i (0, [])).1
table_line tables i table h e =
    ap (from_line i) e
    ∙ ap (λ (k : ℕ). from_line k (get_or tables i [])) (sym (zero-add i))
    ∙ ap (λ (x : ℕ × List (Option ℤ)). from_line x.0 x.1) (sym (get_or-enumerate_from 0 tables i (0, []) h))

-- ---- part by part

module _ (v : Certificate) (i : ℕ) (d : Part) (inside : i < length PARTS) (old mid new : List ℕ) (before : mid ≡ old ++ flat_map (part_text v) (take i PARTS)) where
  pub part_more : new ≡ mid ++ part_text v (get_or PARTS i d) → new ≡ old ++ flat_map (part_text v) (take (i + 1) PARTS)
  part_more here = here ∙ ap (λ (t : List ℕ). t ++ part_text v (get_or PARTS i d)) before ∙ pieces_more (part_text v) old PARTS i d inside

  pub part_stopped : length v.list.pair ≡ length (pairs v.chain) → AppendsPart mid new (part_text v (get_or PARTS i d)) → AppendsPart old new (certificate_text v)
  part_stopped count part =
      subst (AppendsPart old new) (sym (parts_are_text v count))
      (part_after old mid new (flat_map (part_text v) (take i PARTS)) (part_text v (get_or PARTS i d)) (flat_map (part_text v) (drop (i + 1) PARTS)) (flat_map (part_text v) PARTS)
      before part (pieces_at (part_text v) PARTS i d inside))

pub parts_done : (v : Certificate) (i : ℕ) (old mid : List ℕ) → length v.list.pair ≡ length (pairs v.chain) → length PARTS ≤ i → mid ≡ old ++ flat_map (part_text v) (take i PARTS) → mid ≡ old ++ certificate_text v
parts_done v i old mid count past before =
    before ∙ ap (λ ps. old ++ flat_map (part_text v) ps) (take_all i PARTS past) ∙ ap (λ (t : List ℕ). old ++ t) (sym (parts_are_text v count))
