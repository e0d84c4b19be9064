-- The fan that was read.
use Rattle.std.specs.Prelude.{ℕ, List, Result}
use Rattle.sc_line.specs.declared.fault.TextFault.{TextFault}
use Rattle.sc_line.specs.Lines.{text_of}
use Rattle.sc_line.specs.Formats.{plan_of}
use Rattle.sc_line.specs.Forms.{IsRead}
use Rattle.sc_fan.specs.declared.fan.Fan.{Fan}
use Rattle.sc_fan.specs.Fans.{fan_lines, fan_due, IsFanInRange}
use Rattle.sc_fan.specs.FanRead.{fan_said}

-- what a reader of fan texts answers
abbrev pub IsFanRead : List ℕ → Result Fan TextFault → Type 0
IsFanRead bytes result = IsRead (λ v. text_of (fan_lines v)) IsFanInRange (plan_of fan_due) bytes fan_said result
