-- Cycles that are laid one behind another as lists of numbers.
use Rattle.std.specs.Prelude.{◌≡◌, ℕ, ◌<◌, List, ◌++◌, length, get_or, replicate}
use Rattle.sc_gluing.specs.Cycles.{labels_of, after}

-- the label of each side along the cycles, and the side after it
pub record AreLaid (cycles : List (List ℕ)) (labels afters : List ℕ) : Type 0 where
  pub labels_are : labels ≡ labels_of cycles
  pub as_many : length afters ≡ length labels
  pub afters_are : (s : ℕ) → s < length labels → get_or afters s 0 ≡ after cycles s

-- n more cycles lie behind those that lay there, all the same
abbrev pub LaysBehind : ℕ → List ℕ → (labels afters labels' afters' : List ℕ) → Type 0
LaysBehind n walk labels afters labels' afters' =
    (cycles : List (List ℕ)) → AreLaid cycles labels afters → AreLaid (cycles ++ replicate n walk) labels' afters'
