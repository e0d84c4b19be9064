-- Counting the steps of a closed walk, step by step.
use Rattle.std.proofs.Common.{◌≡◌, ℕ, ◌+◌, ◌<◌, List, length, get_or, drop, ℤ, pos, ◌+ℤ◌, arith, sym, ap, ◌∙◌}
use Rattle.std.proofs.lemmas.Int.{ints}
use Rattle.sc_theory.specs.Walks.{total_back}
use Rattle.sc_tables.proofs.SplitSteps.{drop_here}

moved : (count x : ℕ) (y rest all : ℤ) → pos x ≡ y → pos count +ℤ (y +ℤ rest) ≡ all → pos (count + x) +ℤ rest ≡ all
moved count x y rest all e h = omega (arith, ints)

-- with one more step counted, the count and the rest of the walk still come to the total
pub next_counted : (f : ℕ → ℕ → ℤ) (first here : ℕ) (rest : List ℕ) (k count x : ℕ) (all : ℤ) → k < length rest → pos x ≡ f here (get_or rest k 0) → pos count +ℤ total_back f first here (drop k rest) ≡ all →
    pos (count + x) +ℤ total_back f first (get_or rest k 0) (drop (k + 1) rest) ≡ all
next_counted f first here rest k count x all inside e h =
    moved count x (f here (get_or rest k 0)) (total_back f first (get_or rest k 0) (drop (k + 1) rest)) all e
    (ap (λ (js : List ℕ). pos count +ℤ total_back f first here js) (sym (drop_here rest k inside)) ∙ h)
