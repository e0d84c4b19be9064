-- Said by private functions alone: what commands read of the source.
use Rattle.std.specs.Prelude.{◌≡◌, ℕ, ◌≤◌, List, [], length}
use Rattle.sc_app.specs.declared.command.Reading.{Reading}
use Rattle.sc_app.specs.declared.command.Reading.TheVariants.{Nothing, AtMost}

-- an input that isn't over the limit; of one who reads nothing it is empty
abbrev pub Fits : Reading → List ℕ → Type 0
Fits Nothing input = input ≡ []
Fits (AtMost limit) input = length input ≤ limit
