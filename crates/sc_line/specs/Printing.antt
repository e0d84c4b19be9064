-- What a printer leaves where memory runs out.
use Rattle.std.specs.Prelude.{◌≡◌, ℕ, ◌++◌, List}

-- a front of the text stands behind the old bytes
pub record AppendsPart (old new text : List ℕ) : Type 0 where
  pub written : List ℕ
  pub left : List ℕ
  pub whole : text ≡ written ++ left
  pub appended : new ≡ old ++ written
