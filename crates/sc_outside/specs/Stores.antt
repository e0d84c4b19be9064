-- What the sources and sinks in memory hold.
use Rattle.std.specs.Prelude.{ℕ, Bool, true, false, Option, None, Some, List}

-- the bytes that were kept, unless more than those were taken
abbrev pub told_unless : Bool → List ℕ → Option (List ℕ)
told_unless true kept = None
told_unless false kept = Some kept

-- the bytes that are left, how many were given, and at most how many one call gives
pub record Supply : Type 0 where
  pub left : List ℕ
  pub given : ℕ
  pub piece : ℕ

-- room for so many bytes, the bytes that were kept there, and whether more than that were taken
pub record Shelf : Type 0 where
  pub room : ℕ
  pub kept : List ℕ
  pub passed : Bool

-- a supply, the numbers of the calls that fail, the next call's number, and the count of faults
pub record FailingSupply : Type 0 where
  pub left : List ℕ
  pub given : ℕ
  pub piece : ℕ
  pub fails : List ℕ
  pub calls : ℕ
  pub faults : ℕ

-- a shelf, at most how many bytes one call takes, the numbers of the calls that fail, the next call's number, and the
-- count of faults
pub record FailingShelf : Type 0 where
  pub room : ℕ
  pub kept : List ℕ
  pub passed : Bool
  pub piece : ℕ
  pub fails : List ℕ
  pub calls : ℕ
  pub faults : ℕ
