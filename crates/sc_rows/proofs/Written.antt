-- A list that was written through a slice of all of it.
use Rattle.std.specs.Prelude.{◌≡◌, ℕ, ◌++◌, ◌≤◌, List, length, take, drop}
use Rattle.std.proofs.Common.{arith}
use Rattle.std.proofs.lemmas.List.{take-append-le, take_all}

pub written : {X : Type 0} → (new items : List X) (n : ℕ) → length new ≡ length items → n ≡ length items → take n (new ++ drop (length new) items) ≡ new
written new items n same size =
    let within : n ≤ length new = omega arith in
    let all : length new ≤ n = omega arith in
    rw take-append-le (take_all n new all)
