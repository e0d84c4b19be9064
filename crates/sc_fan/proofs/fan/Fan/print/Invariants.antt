use Rattle.std.proofs.Common.{◌≡◌, ◌++◌, take}
use Rattle.std.specs.List.{flat_map}
use Rattle.sc_fan.specs.declared.printing.TheConstants.{PARTS}
use Rattle.sc_fan.specs.FanRead.{fan_said}
use Rattle.sc_fan.specs.Printing.{part_text}
use Rattle.sc_fan.proofs.fan.Fan.print.Given as goal

abbrev pub invariant-loop-part : goal.invariant-loop-part
invariant-loop-part l = l.out.items ≡ l.fn.out.items ++ flat_map (part_text (fan_said l.self)) (take l.part-index PARTS)
