-- The command `ball`.
use Rattle.std.specs.Prelude.{◌≡◌, ◌⊎◌, ◌+◌, ◌<◌, ℕ, suc, length, List, [], ◌∷◌, ◌++◌, map, codes, ℤ}
use Rattle.sc_whole.specs.Spelling.{spelling}
use Rattle.sc_theory.specs.Chains.{Chain, IsBalanced}
use Rattle.sc_words.specs.declared.lines.RawLine.{RawLine}
use Rattle.sc_chain.specs.Balance.{IsFirstUnbalanced}
use Rattle.sc_reduce.specs.Lines.{chain_of, IsWithin, HasManyWords, HasManyPositions}
use Rattle.sc_two.specs.TwoTexts.{IsTwoText, IsFirstWrong}
use Rattle.sc_cone.specs.declared.Direction.{Direction}
use Rattle.sc_cone.specs.declared.Quadrant.{Quadrant}
use Rattle.sc_cone.specs.Directions.{IsBetween}
use Rattle.sc_cone.specs.Values.{IsTightAt}
use Rattle.sc_cone.specs.Fans.{quadrant_of as quadrant_at, edge, turn_to, IsFan}
use Rattle.sc_crossing.specs.declared.reached.Reached.{Reached}
use Rattle.sc_crossing.specs.declared.fault.CrossPlace.{CrossPlace}
use Rattle.sc_crossing.specs.declared.fault.NextFault.TheVariants as next_faults
use Rattle.sc_crossing.specs.Neighbours.{reached_of}
use Rattle.sc_fraction.specs.declared.frac.Frac.{Frac}
use Rattle.sc_solve.specs.declared.solution.SolveFault.{SolveFault}
use Rattle.sc_solve.specs.declared.solution.SolveFault.TheVariants as solve_faults
use Rattle.sc_fan.specs.declared.fan.Fan.{Fan}
use Rattle.sc_fan.specs.Fans.{fan_text, IsFanInRange}
use Rattle.sc_fan.specs.FanRead.{fan_said, plane_fan}
use Rattle.sc_ball.specs.declared.fault.BallFault.{BallFault}
use Rattle.sc_ball.specs.declared.fault.BallFault.TheVariants as faults
use Rattle.sc_ball.specs.Faults.{IsUnsolved, IsUncrossed, quadrant_of}
use Rattle.sc_ball_refusal.specs.Texts.{Shown, budget_text, wide_text, sides_text, cross_text, length_text}
use Rattle.sc_app.specs.Notes.{line}
use Rattle.sc_app.specs.declared.status.Status.{Status}
use Rattle.sc_app.specs.declared.status.Status.TheVariants.{Done, Malformed, Large, Budget, Wide, Sides}
use Rattle.sc_app.specs.declared.status.What.TheVariants.{Words, Positions}

-- ---- what is answered of two chains

-- the line for a generator and its total, which isn't 0, in the chain of a name
abbrev pub infinite_in : List ℕ → ℕ → ℤ → List ℕ
infinite_in name g t = line (codes "infinite " ++ name ++ 32 ∷ (97 + g) ∷ 32 ∷ spelling t)

-- the text is the line for the first generator of the first chain whose total isn't 0
pub record IsInfiniteFirst (first : Chain) (text : List ℕ) : Type 0 where
  pub generator : ℕ
  pub total : ℤ
  pub unbalanced : IsFirstUnbalanced first generator total
  pub text_is : text ≡ infinite_in (codes "first") generator total

-- the first chain is balanced, and the text is the line for the first generator of the second whose total isn't 0
pub record IsInfiniteSecond (first second : Chain) (text : List ℕ) : Type 0 where
  pub balanced : IsBalanced first
  pub generator : ℕ
  pub total : ℤ
  pub unbalanced : IsFirstUnbalanced second generator total
  pub text_is : text ≡ infinite_in (codes "second") generator total

-- both chains are balanced, and the text is that of their fan, in the ranges of one that is read
pub record IsFanOf (first second : Chain) (text : List ℕ) : Type 0 where
  pub first_balanced : IsBalanced first
  pub second_balanced : IsBalanced second
  pub fan : Fan
  pub first_is : fan.first ≡ first
  pub second_is : fan.second ≡ second
  pub is_fan : IsFan (plane_fan fan)
  -- on the whole cone of an edge its list tells the value of each direction
  pub tells : (i : ℕ) (x : Direction) → i < length (plane_fan fan).edges → IsBetween (turn_to (plane_fan fan) i) (turn_to (plane_fan fan) (suc i)) x
      → IsTightAt (quadrant_at (plane_fan fan) i) first second (edge (plane_fan fan) i).list x
  pub in_range : IsFanInRange (fan_said fan)
  pub text_is : text ≡ fan_text (fan_said fan)

-- ---- what stops the search

-- a search in a quadrant as a text shows it
abbrev pub shown : Quadrant → Chain → Chain → List Reached → Shown
shown q first second search = record { quadrant = q; first = first; second = second; entries = map reached_of search }

-- the status and the text of a direction that isn't solved; want of memory has none
abbrev pub IsToldOfDirection : Shown → Direction → SolveFault → Status → List ℕ → Type 0
IsToldOfDirection v d (solve_faults.Budget journal improving) status text = (status ≡ Budget) × (text ≡ budget_text v d journal.items improving)
IsToldOfDirection v d (solve_faults.Wide journal at) status text = (status ≡ Wide) × (text ≡ wide_text v d journal.items at)
IsToldOfDirection v d (solve_faults.Sides journal part so_far next) status text =
    (status ≡ Sides) × (text ≡ sides_text v d journal.items part.polygon part.value so_far next)
IsToldOfDirection v d solve_faults.Memory status text = ⊥

-- in the search of a quadrant a direction isn't solved within so many pivots, and this is the status and the text
-- that shows the search and the fault
abbrev pub ShowsUnsolved : Quadrant → Chain → Chain → ℕ → List Reached → Direction → SolveFault → Status → List ℕ → Type 0
ShowsUnsolved q first second pivots search d fault status text =
    IsUnsolved q first second pivots (map reached_of search) d fault × IsToldOfDirection (shown q first second search) d fault status text

-- in the search of a quadrant an operation of the crossing of two neighbours is too wide
abbrev pub ShowsCrossing : Quadrant → Chain → Chain → List Reached → Direction → Direction → CrossPlace → Frac → Frac → Status → List ℕ → Type 0
ShowsCrossing q first second search from to place x y status text =
    IsUncrossed q first second (map reached_of search) from to (next_faults.Cross place x y)
    × (status ≡ Wide) × (text ≡ cross_text (shown q first second search) from to place x y)

-- in the search of a quadrant the next direction between two neighbours is too long
abbrev pub ShowsLength : Quadrant → Chain → Chain → List Reached → Direction → Direction → ℤ → ℤ → Status → List ℕ → Type 0
ShowsLength q first second search from to s t status text =
    IsUncrossed q first second (map reached_of search) from to (next_faults.Length s t)
    × (status ≡ Sides) × (text ≡ length_text (shown q first second search) from to s t)

-- what stopped the search within so many pivots for each direction is shown with its evidence; want of memory isn't
abbrev pub Shows : Chain → Chain → ℕ → BallFault → Status → List ℕ → Type 0
Shows first second pivots (faults.Solve search lower d fault) status text =
    ShowsUnsolved (quadrant_of lower) first second pivots search.items d fault status text
Shows first second pivots (faults.Cross search from to place x y) status text =
    (q : Quadrant) × ShowsCrossing q first second search.items from to place x y status text
Shows first second pivots (faults.Length search from to s t) status text =
    (q : Quadrant) × ShowsLength q first second search.items from to s t status text
Shows first second pivots faults.Memory status text = ⊥

-- both chains are balanced, and the text shows what stopped the search for their ball within so many pivots for each
-- direction
pub record IsStopped (first second : Chain) (pivots : ℕ) (status : Status) (text : List ℕ) : Type 0 where
  pub first_balanced : IsBalanced first
  pub second_balanced : IsBalanced second
  pub fault : BallFault
  pub shows : Shows first second pivots fault status text

-- the text for two chains that tells their infinite one or their fan
abbrev pub DoneFor : Chain → Chain → List ℕ → Type 0
DoneFor first second text = IsInfiniteFirst first text ⊎ (IsInfiniteSecond first second text ⊎ IsFanOf first second text)

-- what is answered of two chains within so many pivots for each direction
abbrev pub IsBallOf : ℕ → Chain → Chain → Status → List ℕ → Type 0
IsBallOf pivots first second Done text = DoneFor first second text
IsBallOf pivots first second Budget text = IsStopped first second pivots Budget text
IsBallOf pivots first second Wide text = IsStopped first second pivots Wide text
IsBallOf pivots first second Sides text = IsStopped first second pivots Sides text
IsBallOf pivots first second _ text = ⊥

-- ---- answers to texts

-- the words of both reduced chains together
abbrev pub both_of : List RawLine → List RawLine → Chain
both_of first second = chain_of first ++ chain_of second

-- what is so of the lines of two chains that a text has
abbrev pub OfTwoLines : List ℕ → (List RawLine → List RawLine → Type 0) → Type 0
OfTwoLines input P = (first : List RawLine) × (second : List RawLine) × IsTwoText input first second × P first second

-- what is so of the two cyclically reduced chains, which are together within the limits
abbrev pub OfItsChains : List ℕ → (Chain → Chain → Type 0) → Type 0
OfItsChains input P = OfTwoLines input (λ first second. IsWithin (both_of first second) × P (chain_of first) (chain_of second))

-- what `ball` answers to the lines of two chains: by the limits of both reduced chains together, and their ball
abbrev pub IsBallOfLines : ℕ → List RawLine → List RawLine → Status → List ℕ → Type 0
IsBallOfLines pivots first second (Large (Words n)) text = HasManyWords (both_of first second) n × (text ≡ [])
IsBallOfLines pivots first second (Large (Positions n)) text = HasManyPositions (both_of first second) n × (text ≡ [])
IsBallOfLines pivots first second status text = IsWithin (both_of first second) × IsBallOf pivots (chain_of first) (chain_of second) status text

-- and to a text of two chains: by the first malformed line, and by its lines
abbrev pub BallResponds : ℕ → List ℕ → Status → List ℕ → Type 0
BallResponds pivots input (Malformed at kind) text = IsFirstWrong input at kind × (text ≡ [])
BallResponds pivots input status text = OfTwoLines input (λ first second. IsBallOfLines pivots first second status text)

-- the input is a text of two chains whose reduced chains are together within the limits
abbrev pub BallAccepts : List ℕ → Type 0
BallAccepts input = OfTwoLines input (λ first second. IsWithin (both_of first second))

-- and both are balanced besides: then several fans may be right, and several refusals
abbrev pub HasSeveralBalls : List ℕ → Type 0
HasSeveralBalls input = OfItsChains input (λ first second. IsBalanced first × IsBalanced second)

-- what `ball` may answer to an input that it accepts: refusals come for balanced chains alone
abbrev pub IsBallStatus : List ℕ → Status → Type 0
IsBallStatus input Done = Unit {0}
IsBallStatus input Budget = HasSeveralBalls input
IsBallStatus input Wide = HasSeveralBalls input
IsBallStatus input Sides = HasSeveralBalls input
IsBallStatus input _ = ⊥
