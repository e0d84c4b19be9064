-- The text of a certificate in parts.
use Rattle.std.specs.Prelude.{ℕ, List, codes}
use Rattle.sc_theory.specs.Prices.{pairs}
use Rattle.sc_line.specs.Lines.{ended, text_of, count_line}
use Rattle.sc_text.specs.Surfaces.{ending}
use Rattle.sc_text.specs.Printing.{words_lines, sides_lines}
use Rattle.sc_text.specs.ValueLines.{value_line}
use Rattle.sc_certificate.specs.Certificates.{Certificate, heading}
use Rattle.sc_certificate.specs.Spelled.{list_text, tables_lines, journal_lines}
use Rattle.sc_certificate.specs.declared.parts.Part.{Part}
use Rattle.sc_certificate.specs.declared.parts.Part.TheVariants.{Heading, Words, Value, Copies, Sides, List as PriceList, Tables, Journal, End}

-- the bytes of a part
abbrev pub part_text : Certificate → Part → List ℕ
part_text v Heading = ended heading
part_text v Words = text_of (words_lines v.chain)
part_text v Value = ended (value_line v.value)
part_text v Copies = ended (count_line (codes "copies") v.copies)
part_text v Sides = text_of (sides_lines v.sides)
part_text v PriceList = list_text (pairs v.chain) v.list
part_text v Tables = text_of (tables_lines v.tables)
part_text v Journal = text_of (journal_lines v.journal)
part_text v End = ended ending
