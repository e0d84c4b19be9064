-- Said by private functions alone: the surface that was read.
use Rattle.std.specs.Prelude.{ℕ, List, Result}
use Rattle.sc_line.specs.declared.fault.TextFault.{TextFault}
use Rattle.sc_line.specs.Lines.{text_of}
use Rattle.sc_line.specs.Formats.{plan_of}
use Rattle.sc_line.specs.Forms.{IsRead}
use Rattle.sc_text.specs.declared.limits.TheConstants.{VERSION_1}
use Rattle.sc_text.specs.declared.surface.SurfaceText.{SurfaceText}
use Rattle.sc_text.specs.Surfaces.{Said, surface_form, surface_due, said, IsSurfaceInRange}

-- what is told is in its ranges
abbrev pub IsSaid : Said → Type 0
IsSaid v = IsSurfaceInRange v.second.first v.second.second.first v.second.second.second.first

-- what a surface text said
abbrev pub said_by : SurfaceText → Said
said_by s = said s.chain s.n s.sides.items

-- what a reader of surface texts answers
abbrev pub IsSurfaceRead : List ℕ → Result SurfaceText TextFault → Type 0
IsSurfaceRead bytes result = IsRead (λ v. text_of ((surface_form VERSION_1).lines v)) IsSaid (plan_of (surface_due VERSION_1)) bytes said_by result
