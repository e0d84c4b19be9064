-- Operations on whole numbers, and the first of several that leads out of 128 bits.
use Rattle.std.specs.Prelude.{◌≡◌, ◌⊎◌, ⊤, List, [], ◌∷◌, ℤ, ◌+ℤ◌, ◌-ℤ◌, ◌*ℤ◌, FitsSigned}
use Rattle.std.specs.Int.{w128}
use Rattle.sc_whole.specs.declared.checked.Op.{Op}
use Rattle.sc_whole.specs.declared.checked.Op.TheVariants.{Add, Sub, Mul, Size}
use Rattle.sc_whole.specs.declared.checked.Wide.{Wide}

-- an operation with its operands
abbrev pub step : Op → ℤ → ℤ → Wide
step op x y = record { op = op; x = x; y = y }

-- the exact result of an operation; a size is that of the first number
abbrev pub exact_result : Op → ℤ → ℤ → ℤ
exact_result Add x y = x +ℤ y
exact_result Sub x y = x -ℤ y
exact_result Mul x y = x *ℤ y
exact_result Size x y = x

-- the exact result of a step is a number of 128 bits
abbrev pub StepFits : Wide → Type 0
StepFits s = FitsSigned w128 (exact_result s.op s.x s.y)

-- so are the results of all steps
abbrev pub AllFit : List Wide → Type 0
AllFit [] = ⊤
AllFit (s ∷ ss) = StepFits s × AllFit ss

-- w is the first step whose result isn't
abbrev pub IsFirstWide : List Wide → Wide → Type 0
IsFirstWide [] w = ⊥
IsFirstWide (s ∷ ss) w = (¬ StepFits s × (w ≡ s)) ⊎ (StepFits s × IsFirstWide ss w)
