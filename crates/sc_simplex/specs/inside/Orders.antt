-- Said by private functions alone: the order of numbers and of lists, as what `Ordering` says.
use Rattle.std.specs.Prelude.{◌≡◌, ℕ, ◌<◌, ℤ, ◌<ℤ◌}
use Rattle.std.specs.Ordering.{MatchOrdering}
use Rattle.std.specs.declared.cmp.Ordering.{Ordering}
use Rattle.sc_basis.specs.Lines.{LexLess}

abbrev pub IsOrder : Ordering → ℤ → ℤ → Type 0
IsOrder o x y = MatchOrdering o (x <ℤ y) (x ≡ y) (y <ℤ x)

-- entry by entry, n entries
abbrev pub IsLexOrder : Ordering → ℕ → (ℕ → ℤ) → (ℕ → ℤ) → Type 0
IsLexOrder o n f g = MatchOrdering o (LexLess n f g) ((k : ℕ) → k < n → f k ≡ g k) (LexLess n g f)
