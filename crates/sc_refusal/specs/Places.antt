-- How a text names the place of an operation.
use Rattle.std.specs.Prelude.{ℕ, List, [], ◌∷◌, ◌++◌, map, take, codes, pos, Option, Some, None}
use Rattle.sc_weight.specs.declared.level.Level.{Level}
use Rattle.sc_weight.specs.declared.level.Level.TheVariants.{Bulk, Fine}
use Rattle.sc_whole.specs.Spelling.{spelling}
use Rattle.sc_line.specs.Lines.{Line, Field, spaced}
use Rattle.sc_rows.specs.declared.fault.Place.{Place}
use Rattle.sc_rows.specs.declared.fault.Place.TheVariants.{TurnPrice, StepPrice, WalkSum, AlongMul, AlongAdd, ValueMul, ValueAdd, RowLeft, RowRight, RowMinus, RowScale, GapMul, GapAdd, GapMinus, PriceLeft, PriceRight, PriceAdd, PriceScale, LiftTurn, LiftMul, LiftAdd, LiftBulk, LiftSum, LiftSize}

abbrev pub level_name : Level → Field
level_name Bulk = codes "bulk"
level_name Fine = codes "fine"

abbrev pub place_name : Place → Field
place_name (TurnPrice level) = codes "turn-price"
place_name (StepPrice level) = codes "step-price"
place_name (WalkSum level) = codes "walk-sum"
place_name AlongMul = codes "along-mul"
place_name AlongAdd = codes "along-add"
place_name ValueMul = codes "value-mul"
place_name ValueAdd = codes "value-add"
place_name RowLeft = codes "row-left"
place_name RowRight = codes "row-right"
place_name RowMinus = codes "row-minus"
place_name RowScale = codes "row-scale"
place_name (GapMul level) = codes "gap-mul"
place_name (GapAdd level) = codes "gap-add"
place_name (GapMinus level) = codes "gap-minus"
place_name (PriceLeft level) = codes "price-left"
place_name (PriceRight level) = codes "price-right"
place_name (PriceAdd level) = codes "price-add"
place_name (PriceScale level) = codes "price-scale"
place_name LiftTurn = codes "lift-turn"
place_name LiftMul = codes "lift-mul"
place_name LiftAdd = codes "lift-add"
place_name LiftBulk = codes "lift-bulk"
place_name LiftSum = codes "lift-sum"
place_name LiftSize = codes "lift-size"

-- the level of the prices that the place speaks of, where it speaks of those of one level
abbrev pub level_of : Place → Option Level
level_of (TurnPrice level) = Some level
level_of (StepPrice level) = Some level
level_of (WalkSum level) = Some level
level_of (GapMul level) = Some level
level_of (GapAdd level) = Some level
level_of (GapMinus level) = Some level
level_of (PriceLeft level) = Some level
level_of (PriceRight level) = Some level
level_of (PriceAdd level) = Some level
level_of (PriceScale level) = Some level
level_of place = None

-- how many indices the place has
abbrev pub index_count : Place → ℕ
index_count (TurnPrice level) = 1
index_count (StepPrice level) = 2
index_count (WalkSum level) = 0
index_count AlongMul = 2
index_count AlongAdd = 2
index_count ValueMul = 2
index_count ValueAdd = 2
index_count RowLeft = 2
index_count RowRight = 2
index_count RowMinus = 2
index_count RowScale = 1
index_count (GapMul level) = 1
index_count (GapAdd level) = 1
index_count (GapMinus level) = 0
index_count (PriceLeft level) = 1
index_count (PriceRight level) = 1
index_count (PriceAdd level) = 1
index_count (PriceScale level) = 0
index_count LiftTurn = 2
index_count LiftMul = 0
index_count LiftAdd = 0
index_count LiftBulk = 1
index_count LiftSum = 1
index_count LiftSize = 1

abbrev pub level_fields : Option Level → List Field
level_fields None = []
level_fields (Some level) = level_name level ∷ []

-- those of two indices that the place has
abbrev pub indices_of : Place → ℕ → ℕ → List ℕ
indices_of place first second = take (index_count place) (first ∷ second ∷ [])

-- its name, its level and its indices
abbrev pub place_fields : Place → ℕ → ℕ → List Field
place_fields place first second =
    place_name place ∷ (level_fields (level_of place) ++ map (λ k. spelling (pos k)) (indices_of place first second))

-- the line of a place
abbrev pub place_line : Place → ℕ → ℕ → Line
place_line place first second = spaced (codes "place" ∷ place_fields place first second)
