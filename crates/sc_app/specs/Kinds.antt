-- The kinds of statuses: how far a call came.
use Rattle.sc_app.specs.declared.status.Status.{Status}
use Rattle.sc_app.specs.declared.status.Status.TheVariants.{Done, Usage, Malformed, Large, Wide, Budget, Sides, ReadFault, WriteFault, Memory, Rejected}
use Rattle.sc_app.specs.declared.status.What.TheVariants.{Bytes, Words, Positions}

-- the command's answer with a text, or without one; more bytes than it reads; no command; a source that failed; a
-- sink that failed; no memory
pub data StatusKind : Type 0 where
  WithText : StatusKind
  WithoutText : StatusKind
  PastLimit : StatusKind
  Unasked : StatusKind
  NotRead : StatusKind
  NotWritten : StatusKind
  NoMemory : StatusKind

abbrev pub kind_of : Status → StatusKind
kind_of Done = WithText
kind_of (Rejected condition) = WithText
kind_of Wide = WithText
kind_of Budget = WithText
kind_of Sides = WithText
kind_of (Malformed line kind) = WithoutText
kind_of (Large (Words count)) = WithoutText
kind_of (Large (Positions count)) = WithoutText
kind_of (Large Bytes) = PastLimit
kind_of Usage = Unasked
kind_of ReadFault = NotRead
kind_of WriteFault = NotWritten
kind_of Memory = NoMemory

-- the words and the input decide the status
abbrev pub Decides : StatusKind → Type 0
Decides WithText = Unit {0}
Decides WithoutText = Unit {0}
Decides PastLimit = Unit {0}
Decides Unasked = ⊥
Decides NotRead = ⊥
Decides NotWritten = ⊥
Decides NoMemory = ⊥

abbrev pub IsDecided : Status → Type 0
IsDecided status = Decides (kind_of status)

-- nothing goes to `out`
abbrev pub HasNoText : StatusKind → Type 0
HasNoText WithText = ⊥
HasNoText WithoutText = Unit {0}
HasNoText PastLimit = Unit {0}
HasNoText Unasked = Unit {0}
HasNoText NotRead = Unit {0}
HasNoText NotWritten = ⊥
HasNoText NoMemory = Unit {0}

abbrev pub IsQuiet : Status → Type 0
IsQuiet status = HasNoText (kind_of status)

-- the status comes after the command had its whole input
abbrev pub HadItsInput : StatusKind → Type 0
HadItsInput WithText = Unit {0}
HadItsInput WithoutText = Unit {0}
HadItsInput PastLimit = ⊥
HadItsInput Unasked = ⊥
HadItsInput NotRead = ⊥
HadItsInput NotWritten = Unit {0}
HadItsInput NoMemory = ⊥

abbrev pub IsReadToTheEnd : Status → Type 0
IsReadToTheEnd status = HadItsInput (kind_of status)

-- the status comes where a stream fails or memory runs out
abbrev pub Excuses : StatusKind → Type 0
Excuses WithText = ⊥
Excuses WithoutText = ⊥
Excuses PastLimit = ⊥
Excuses Unasked = ⊥
Excuses NotRead = Unit {0}
Excuses NotWritten = Unit {0}
Excuses NoMemory = Unit {0}

abbrev pub IsExcused : Status → Type 0
IsExcused status = Excuses (kind_of status)
