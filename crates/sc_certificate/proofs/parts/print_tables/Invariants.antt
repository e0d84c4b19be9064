use Rattle.std.proofs.Common.{◌≡◌, ◌++◌, take, map}
use Rattle.std.specs.List.{enumerate_from}
use Rattle.sc_line.specs.Lines.{text_of}
use Rattle.sc_text.specs.TableLines.{from_line}
use Rattle.sc_certificate.proofs.parts.print_tables.Given as goal

abbrev pub invariant-loop-start : goal.invariant-loop-start
invariant-loop-start l = l.out.items ≡ l.fn.out.items ++ text_of (map (λ e. from_line e.0 e.1) (take l.start (enumerate_from 0 l.tables)))
