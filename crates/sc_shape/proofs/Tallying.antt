-- Counts of the classes, side by side.
use Rattle.std.proofs.Common.{ℕ, ◌<◌, ◌≤◌, ◌==◌, ◌&&◌, Bool, List, length}
use Rattle.sc_algebra.proofs.Sums.{count-le}
use Rattle.sc_shape.specs.Classes.{entry}
use Rattle.sc_shape.specs.inside.SideLists.{AreTallies}

-- no count is greater than the number of sides
pub tally_small : (test : ℕ → Bool) (least counts : List ℕ) (s r : ℕ) → AreTallies test least s counts → r < length least → entry counts r ≤ s
tally_small test least counts s r b l = rw (b.each r l) (count-le (λ t. test t && (entry least t == r)) s)
