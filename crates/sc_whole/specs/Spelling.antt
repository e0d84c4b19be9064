-- The one spelling of a whole number in decimal digits.
use Rattle.std.specs.Prelude.{ℕ, zero, suc, ◌+◌, List, [], ◌∷◌, map, ℤ, pos, negsuc}
use Rattle.std.specs.Int.Digits.{digits_of}

-- the digits of n in ASCII, the highest first and none of them a leading zero; 0 is the one digit `0`
unfoldable pub natural_spelling : ℕ → List ℕ
natural_spelling zero = 48 ∷ []
natural_spelling (suc n) = map (λ d. 48 + d) (digits_of 10 (suc n))

-- the digits of z's size, with a minus sign in front where z is negative; there is no `+` and no `-0`
unfoldable pub spelling : ℤ → List ℕ
spelling (pos n) = natural_spelling n
spelling (negsuc n) = 45 ∷ natural_spelling (suc n)
