-- The exit codes of the program.
use Rattle.std.specs.Prelude.{ℕ}
use Rattle.sc_app.specs.declared.status.Status.{Status}
use Rattle.sc_app.specs.declared.status.Status.TheVariants.{Done, Usage, Malformed, Large, Wide, Budget, Sides, ReadFault, WriteFault, Memory, Rejected}

-- the code that the program ends with
abbrev pub code_of : Status → ℕ
code_of Done = 0
code_of Usage = 2
code_of (Malformed line kind) = 3
code_of (Large what) = 4
code_of Wide = 5
code_of Budget = 6
code_of Sides = 7
code_of ReadFault = 8
code_of WriteFault = 9
code_of Memory = 10
code_of (Rejected condition) = 11
