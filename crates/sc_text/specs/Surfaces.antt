-- The text of a surface.
use Rattle.std.specs.Prelude.{ℕ, ◌≤◌, Bool, false, List, [], length, Option, None, codes}
use Rattle.std.specs.List.{AllByRecursion}
use Rattle.sc_theory.specs.declared.Side.{Side}
use Rattle.sc_theory.specs.Words.{Word}
use Rattle.sc_theory.specs.Chains.{Chain, positions}
use Rattle.sc_theory.specs.Fatgraphs.{Sides}
use Rattle.sc_line.specs.Lines.{Line, text_of}
use Rattle.sc_line.specs.Faults.{Plan}
use Rattle.sc_line.specs.Formats.{Format, plan_of}
use Rattle.sc_line.specs.Forms.{Form, Both, and_also, Counted, both, literal}
use Rattle.sc_text.specs.declared.limits.Limits.{Limits}
use Rattle.sc_text.specs.declared.limits.TheConstants.{VERSION_1}
use Rattle.sc_text.specs.Words.{IsWordWithin}
use Rattle.sc_text.specs.Sides.{IsSideWithin}
use Rattle.sc_text.specs.Parts.{words_form, copies_form, sides_form}

abbrev pub heading : Line
heading = codes "scallop surface 1"

abbrev pub ending : Line
ending = codes "end"

-- ---- the form, part by part from the last

abbrev pub from_sides : Limits → Form (Both (Counted Side) Bool) (Both Sides (Unit {0}))
from_sides m = both (sides_form m) (λ g. literal ending)

abbrev pub from_copies : Limits → Form (Both (Option ℕ) (Both (Counted Side) Bool)) (Both ℕ (Both Sides (Unit {0})))
from_copies m = both (copies_form m) (λ n. from_sides m)

abbrev pub from_words : Limits → Form (Both (Counted (ℕ × Word)) (Both (Option ℕ) (Both (Counted Side) Bool))) (Both Chain (Both ℕ (Both Sides (Unit {0}))))
from_words m = both (words_form m) (λ c. from_copies m)

-- what a surface text tells: behind its heading a chain, the copies and the sides
abbrev pub Said : Type 0
Said = Both (Unit {0}) (Both Chain (Both ℕ (Both Sides (Unit {0}))))

abbrev pub surface_form : Limits → Form (Both Bool (Both (Counted (ℕ × Word)) (Both (Option ℕ) (Both (Counted Side) Bool)))) Said
surface_form m = both (literal heading) (λ u. from_words m)

-- where nothing was read
abbrev pub uncounted : {A : Type 0} → Counted A
uncounted = record { count = None; items = [] }

abbrev pub surface_due : Limits → Format Said
surface_due m = (surface_form m).due (and_also false (and_also uncounted (and_also None (and_also uncounted false))))

-- a chain, the copies and the sides
abbrev pub said : Chain → ℕ → Sides → Said
said c n g = and_also tt (and_also c (and_also n (and_also g tt)))

-- the lines and the text of a surface, and the line that is due after others
abbrev pub surface_lines : Chain → ℕ → Sides → List Line
surface_lines c n g = (surface_form VERSION_1).lines (said c n g)

abbrev pub surface_text : Chain → ℕ → Sides → List ℕ
surface_text c n g = text_of (surface_lines c n g)

unfoldable pub surface_plan : Plan
surface_plan = plan_of (surface_due VERSION_1)

-- ---- the ranges

-- what a chain may be that has at most so many words and letters
pub record IsChainFor (m : Limits) (many most : ℕ) (c : Chain) : Type 0 where
  pub count : length c ≤ many
  pub words : AllByRecursion (IsWordWithin m) c
  pub letters : positions c ≤ most

-- what a chain in a text may hold at these limits, and at those of version 1
abbrev pub IsChainWithin : Limits → Chain → Type 0
IsChainWithin m c = IsChainFor m m.words m.positions c

abbrev pub IsChainInRange : Chain → Type 0
IsChainInRange c = IsChainWithin VERSION_1 c

-- what a surface text may hold
pub record IsSurfaceWithin (m : Limits) (c : Chain) (n : ℕ) (g : Sides) : Type 0 where
  pub chain : IsChainWithin m c
  pub low : 1 ≤ n
  pub high : n ≤ m.copies
  pub count : length g ≤ m.sides
  pub sides : AllByRecursion (IsSideWithin m) g

abbrev pub IsSurfaceInRange : Chain → ℕ → Sides → Type 0
IsSurfaceInRange c n g = IsSurfaceWithin VERSION_1 c n g
