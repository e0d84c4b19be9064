-- The command `svg`.
use Rattle.std.specs.Prelude.{◌≡◌, ℕ, eqb, Bool, true, false, List, [], map}
use Rattle.std.specs.List.{starts_with}
use Rattle.sc_theory.specs.Chains.{Chain}
use Rattle.sc_theory.specs.Fatgraphs.{Sides}
use Rattle.sc_line.specs.Faults.{IsFirstFault}
use Rattle.sc_cone.specs.Fans.{Corner}
use Rattle.sc_svg.specs.Drawings.{IsDrawing}
use Rattle.sc_svg.specs.Fans.{IsFanDrawing}
use Rattle.sc_svg.specs.declared.spot.Spot.{Spot}
use Rattle.sc_fan.specs.Fans.{FanSaid, heading, fan_text, fan_plan, IsFanInRange}
use Rattle.sc_app.specs.Notes.{line}
use Rattle.sc_app.specs.Said.{RespondsBySides, SaysSurface, IsStatusOfSides}
use Rattle.sc_app.specs.declared.status.Status.{Status}
use Rattle.sc_app.specs.declared.status.Status.TheVariants.{Done, Malformed}

-- the text is the drawing of the sides over the chain
abbrev pub IsPicture : Chain → ℕ → Sides → List ℕ → Type 0
IsPicture c n g text = IsDrawing c g text

-- ---- fans

-- whether the first line, with its line feed, is that of a fan
unfoldable pub is_headed_as_fan : List ℕ → Bool
is_headed_as_fan input = starts_with eqb input (line heading)

-- the corner that is drawn as a spot
abbrev pub corner_of : Spot → Corner
corner_of spot = record { direction = record { s = spot.s; t = spot.t }; value = (spot.num, spot.den) }

-- the text is the drawing of these corners
pub record IsFanPicture (corners : List Corner) (text : List ℕ) : Type 0 where
  pub spots : List Spot
  pub drawn : map corner_of spots ≡ corners
  pub drawing : IsFanDrawing spots text

-- the input is the text of a fan, in its form alone
pub record IsFanText (input : List ℕ) (v : FanSaid) : Type 0 where
  pub text : input ≡ fan_text v
  pub in_range : IsFanInRange v

-- what is answered to a text that is headed as a fan
abbrev pub FanResponds : List ℕ → Status → List ℕ → Type 0
FanResponds input Done text = (v : FanSaid) × IsFanText input v × IsFanPicture v.corners text
FanResponds input (Malformed at kind) text = IsFirstFault fan_plan input at kind × (text ≡ [])
FanResponds input _ text = ⊥

-- ---- all inputs

abbrev pub RespondsByHead : Bool → List ℕ → Status → List ℕ → Type 0
RespondsByHead true input status text = FanResponds input status text
RespondsByHead false input status text = RespondsBySides IsPicture input status text

-- what `svg` answers to an input
abbrev pub SvgResponds : List ℕ → Status → List ℕ → Type 0
SvgResponds input status text = RespondsByHead (is_headed_as_fan input) input status text

-- the input is the text of a fan, or it says a surface
abbrev pub AcceptsByHead : Bool → List ℕ → Type 0
AcceptsByHead true input = (v : FanSaid) × IsFanText input v
AcceptsByHead false input = SaysSurface input

abbrev pub SvgAccepts : List ℕ → Type 0
SvgAccepts input = AcceptsByHead (is_headed_as_fan input) input

-- what `svg` may answer to it: a fan is always drawn
abbrev pub StatusByHead : Bool → Status → Type 0
StatusByHead true Done = Unit {0}
StatusByHead true _ = ⊥
StatusByHead false status = IsStatusOfSides status

abbrev pub IsSvgStatus : List ℕ → Status → Type 0
IsSvgStatus input status = StatusByHead (is_headed_as_fan input) status
