-- Said by private functions alone: the lists that a surface is glued with: the kinds of the steps that begin at its
-- sides, the opposite kinds, the mates.
use Rattle.std.specs.Prelude.{◌≡◌, ℕ, ◌<◌, List, length, get_or}
use Rattle.sc_theory.specs.declared.Side.{Side}
use Rattle.sc_theory.specs.Chains.{Chain, positions, succ, prev}
use Rattle.sc_theory.specs.Fatgraphs.{no_side}
use Rattle.sc_gluing.specs.Gluing.{AreMatched}
use Rattle.sc_gluing.specs.Sides.{AreGlueable, kind}

-- each label is below a bound, and each side after a side is a side
pub record AreInside (bound : ℕ) (labels afters : List ℕ) : Type 0 where
  pub as_many : length afters ≡ length labels
  pub label_below : (s : ℕ) → s < length labels → get_or labels s 0 < bound
  pub after_inside : (s : ℕ) → s < length labels → get_or afters s 0 < length labels

-- the position where the step that begins at s ends
abbrev pub end_at : (labels afters : List ℕ) → ℕ → ℕ
end_at labels afters s = get_or labels (get_or afters s 0) 0

-- the kind of the step that begins at each of the first n sides, and of the steps that are matched with it
pub record AreKinds (c : Chain) (labels afters : List ℕ) (n : ℕ) (kinds : List ℕ) : Type 0 where
  pub as_many : length kinds ≡ n
  pub kinds_are : (s : ℕ) → s < n → get_or kinds s 0 ≡ kind (positions c) (get_or labels s 0) (end_at labels afters s)

pub record AreOpposites (c : Chain) (labels afters : List ℕ) (n : ℕ) (opposites : List ℕ) : Type 0 where
  pub as_many : length opposites ≡ n
  pub opposites_are : (s : ℕ) → s < n → get_or opposites s 0 ≡ kind (positions c) (prev c (end_at labels afters s)) (succ c (get_or labels s 0))

-- for each side the side whose step is matched with its own
pub record AreMatchedSides (c : Chain) (labels afters partners : List ℕ) : Type 0 where
  pub as_many : length partners ≡ length labels
  pub inside : (s : ℕ) → s < length labels → get_or partners s 0 < length labels
  pub matched : (is : AreGlueable c labels afters) (s : ℕ) → s < length labels → AreMatched c is.cycles s (get_or partners s 0)

-- for each of the first n sides the side after its partner is the mate of the side after it
pub record AreMates (afters partners : List ℕ) (n : ℕ) (mates : List ℕ) : Type 0 where
  pub as_many : length mates ≡ length afters
  pub mates_are : (s : ℕ) → s < n → get_or mates (get_or afters s 0) 0 ≡ get_or afters (get_or partners s 0) 0

-- the first n sides
pub record AreSides (labels afters mates : List ℕ) (n : ℕ) (sides : List Side) : Type 0 where
  pub as_many : length sides ≡ n
  pub sides_are : (s : ℕ) → s < n → get_or sides s no_side ≡ record { label = get_or labels s 0; mate = get_or mates s 0; next = get_or mates (get_or afters s 0) 0 }
