use Rattle.std.proofs.Common.{◌≡◌, ◌++◌, take}
use Rattle.std.specs.List.{flat_map}
use Rattle.sc_text.specs.inside.Printing.{field_bytes}
use Rattle.sc_text.proofs.printing.print_line.Given as goal

abbrev pub invariant-loop-field : goal.invariant-loop-field
invariant-loop-field l = l.out.items ≡ l.fn.out.items ++ (l.name ++ flat_map field_bytes (take l.field-index l.fields))
