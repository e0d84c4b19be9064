-- A chain text that stands behind other lines.
use Rattle.std.specs.Prelude.{ℕ, ◌+◌}
use Rattle.sc_words.specs.declared.lines.RawLine.{RawLine}

-- a line that was read, numbered on
abbrev pub moved : ℕ → RawLine → RawLine
moved by r = record r { line = r.line + by }
