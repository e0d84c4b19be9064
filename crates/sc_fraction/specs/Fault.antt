-- What a refusal tells.
use Rattle.std.specs.Prelude.{⊤}
use Rattle.sc_whole.specs.declared.checked.Wide.{Wide as WideNumber}
use Rattle.sc_fraction.specs.declared.fault.FracFault.{FracFault}
use Rattle.sc_fraction.specs.declared.fault.FracFault.TheVariants.{Zero, Wide}

-- P holds of the evidence, if the fault is a number that is too wide
abbrev pub IfWide : FracFault → (WideNumber → Type 0) → Type 0
IfWide Zero P = ⊤
IfWide (Wide w) P = P w
