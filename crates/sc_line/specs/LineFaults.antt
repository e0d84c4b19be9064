-- Why a line isn't read, against the fault that it has.
use Rattle.std.specs.Prelude.{◌≡◌, ℕ, Option, Some}
use Rattle.sc_line.specs.declared.fault.TextFault.{TextFault}
use Rattle.sc_line.specs.declared.fault.TextFault.TheVariants as text_faults
use Rattle.sc_line.specs.declared.fault.Kind.{Kind}
use Rattle.sc_line.specs.declared.fault.LineFault.{LineFault}
use Rattle.sc_line.specs.declared.fault.LineFault.TheVariants.{Malformed, Memory}

-- a line that isn't read has this fault, unless memory ran out
abbrev pub IsFault : Option Kind → LineFault → Type 0
IsFault fault (Malformed kind) = fault ≡ Some kind
IsFault fault Memory = Unit {0}

-- the same as the fault of a text, at a line
abbrev pub at_line : ℕ → LineFault → TextFault
at_line line (Malformed kind) = text_faults.Malformed line kind
at_line line Memory = text_faults.Memory
