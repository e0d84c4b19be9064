-- A part of a text that a sink took.
use Rattle.std.proofs.Common.{ℕ, ◌≤◌, Option, List, ◌++◌, length, subst, sym, arith, length-append}
use Rattle.std.proofs.lemmas.List.{take-append-le}
use Rattle.sc_outside.specs.Told.{Took, TookPart}

-- a part of the first text
pub part_before : (a b : Option (List ℕ)) (xs ys : List ℕ) → TookPart a b xs → TookPart a b (xs ++ ys)
part_before a b xs ys p = (
  p.0,
  omega (arith, length-append xs ys, p.1),
  let within : p.0 ≤ length xs = omega (arith, p.1) in
      subst (Took a b) (sym (take-append-le p.0 xs ys within)) p.2,
)
