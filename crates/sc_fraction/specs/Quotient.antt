-- Quotients of whole numbers of any size, by cross products.
use Rattle.std.specs.Prelude.{◌≡◌, ℕ, List, ◌∷◌, ◌++◌, ℤ, ◌*ℤ◌}
use Rattle.std.specs.Ordering.{int_cmp}
use Rattle.std.specs.declared.cmp.Ordering.{Ordering}
use Rattle.sc_whole.specs.Spelling.{spelling}

-- a/b and c/e are one number
abbrev pub SameQuotient : (a b c e : ℤ) → Type 0
SameQuotient a b c e = a *ℤ e ≡ c *ℤ b

-- the order of a/b and c/e, for b and e above 0
abbrev pub quotient_cmp : (a b c e : ℤ) → Ordering
quotient_cmp a b c e = int_cmp (a *ℤ e) (c *ℤ b)

-- a/b as text, with `/` between the spellings of the two numbers
abbrev pub quotient_text : (a b : ℤ) → List ℕ
quotient_text a b = spelling a ++ (47 ∷ spelling b)
