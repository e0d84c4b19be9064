use Rattle.std.proofs.Common.{◌≡◌, [], ◌∷◌, take, cond}
use Rattle.sc_two.proofs.Slashes.{bare}
use Rattle.sc_two.proofs.line.is_separator.Given as goal

abbrev pub invariant-loop-byte : goal.invariant-loop-byte
invariant-loop-byte l = bare (take l.byte-index l.line) ≡ cond l.found (47 ∷ []) []
