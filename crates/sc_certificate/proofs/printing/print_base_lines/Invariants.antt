use Rattle.std.proofs.Common.{◌≡◌, ◌++◌, take, map}
use Rattle.sc_line.specs.Lines.{text_of}
use Rattle.sc_text.specs.PriceLines.{base_line}
use Rattle.sc_certificate.proofs.printing.print_base_lines.Given as goal

abbrev pub invariant-loop-price : goal.invariant-loop-price
invariant-loop-price l = l.out.items ≡ l.fn.out.items ++ text_of (map base_line (take l.price-index l.prices))
