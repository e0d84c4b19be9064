-- The labels that the sides round a vertex have.
use Rattle.std.specs.Prelude.{ℕ, zero, suc, List, [], ◌∷◌}
use Rattle.sc_theory.specs.Fatgraphs.{Sides, label, turn}

-- the labels of s, turn s, turn (turn s), .., k of them
abbrev pub labels_from : Sides → ℕ → ℕ → List ℕ
labels_from g zero s = []
labels_from g (suc k) s = label g s ∷ labels_from g k (turn g s)
