-- Said by private functions alone: the line of a distance table.
use Rattle.std.specs.Prelude.{Option, Some, None, if◌then◌else◌}
use Rattle.sc_line.specs.declared.fault.Kind.{Kind}
use Rattle.sc_line.specs.declared.fault.Kind.TheVariants.{Form, Range}
use Rattle.sc_line.specs.Lines.{Field}
use Rattle.sc_text.specs.TableLines.{is_entry, is_entry_in_range}

-- the fault of a field that is due to be an entry
abbrev pub entry_fault : Field → Option Kind
entry_fault f = if is_entry f then (if is_entry_in_range f then None else Some Range) else Some Form
