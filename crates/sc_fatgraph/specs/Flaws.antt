-- The flaws of a list of sides that is no labelled fatgraph, and which is the first.
use Rattle.std.specs.Prelude.{◌≡◌, ◌≢◌, ℕ, ◌<◌, ◌≤◌, ◌⊎◌, length}
use Rattle.sc_theory.specs.Words.{inverse_letter}
use Rattle.sc_theory.specs.Chains.{Chain, positions, letter, succ, first}
use Rattle.sc_theory.specs.Fatgraphs.{Sides, label, mate, next, sides_at, quota}
use Rattle.sc_fatgraph.specs.declared.flaws.FlawKind.{FlawKind}
use Rattle.sc_fatgraph.specs.declared.flaws.FlawKind.TheVariants.{Range, Mate, Letter, Next, Label, Count}

-- a label, a mate or a next of the side is out of range
abbrev pub HasRangeFlaw : Chain → Sides → ℕ → Type 0
HasRangeFlaw c g s = (s < length g) × ((positions c ≤ label g s) ⊎ ((length g ≤ mate g s) ⊎ (length g ≤ next g s)))

-- the side is its own mate, or isn't the mate of its mate
abbrev pub HasMateFlaw : Sides → ℕ → Type 0
HasMateFlaw g s = (s < length g) × ((mate g s ≡ s) ⊎ (mate g (mate g s) ≢ s))

-- the letters of the side and of its mate aren't inverse
abbrev pub HasLetterFlaw : Chain → Sides → ℕ → Type 0
HasLetterFlaw c g s = (s < length g) × (letter c (label g (mate g s)) ≢ inverse_letter (letter c (label g s)))

-- a lesser side has the same next
abbrev pub HasNextFlaw : Sides → ℕ → Type 0
HasNextFlaw g s = (s < length g) × ((t : ℕ) × (t < s) × (next g t ≡ next g s))

-- the label of the next side isn't the next position
abbrev pub HasLabelFlaw : Chain → Sides → ℕ → Type 0
HasLabelFlaw c g s = (s < length g) × (label g (next g s) ≢ succ c (label g s))

-- the first position of the word isn't the label of as many sides as the copies run along it
abbrev pub HasCountFlaw : Chain → ℕ → Sides → ℕ → Type 0
HasCountFlaw c n g w = (w < length c) × (sides_at g (first c w) ≢ quota c n w)

-- a flaw of a kind at a place: a side, and for a count a word
abbrev pub HasFlaw : Chain → ℕ → Sides → FlawKind → ℕ → Type 0
HasFlaw c n g Range s = HasRangeFlaw c g s
HasFlaw c n g Mate s = HasMateFlaw g s
HasFlaw c n g Letter s = HasLetterFlaw c g s
HasFlaw c n g Next s = HasNextFlaw g s
HasFlaw c n g Label s = HasLabelFlaw c g s
HasFlaw c n g Count w = HasCountFlaw c n g w

-- the order of the kinds
abbrev pub rank : FlawKind → ℕ
rank Range = 0
rank Mate = 1
rank Letter = 2
rank Next = 3
rank Label = 4
rank Count = 5

-- a flaw before which there is none: none of an earlier kind at any place, and none of its kind at a lesser place
pub record IsFirstFlaw (c : Chain) (n : ℕ) (g : Sides) (kind : FlawKind) (place : ℕ) : Type 0 where
  pub here : HasFlaw c n g kind place
  pub kinds : (k : FlawKind) (p : ℕ) → rank k < rank kind → ¬ HasFlaw c n g k p
  pub places : (p : ℕ) → p < place → ¬ HasFlaw c n g kind p
