-- The row of a pair of positions in a list of pairs, and the price that a list gives it.
use Rattle.std.specs.Prelude.{ℕ, nat_lt, if◌then◌else◌, List, length, get_or, Option, Some, None, ℤ, pos, neg_ℤ}
use Rattle.std.specs.Option.{option_map, option_or}
use Rattle.sc_theory.specs.Prices.{Prices, place_of}
use Rattle.sc_chain.specs.declared.sign.Sign.{Sign}
use Rattle.sc_chain.specs.declared.sign.Sign.TheVariants.{Plus, Minus}

-- the place at which the pair p, q stands first
abbrev pub place_in : List (ℕ × ℕ) → ℕ → ℕ → Option ℕ
place_in ps p q = if nat_lt (place_of ps p q) (length ps) then Some (place_of ps p q) else None

-- the place of p, q with Plus where it stands in the list, and the place of q, p with Minus where that one does
abbrev pub row_in : List (ℕ × ℕ) → ℕ → ℕ → Option (ℕ × Sign)
row_in ps p q =
    option_or (option_map (λ k. (k, Plus)) (place_in ps p q)) (option_map (λ k. (k, Minus)) (place_in ps q p))

-- the price that a list gives a row with its sign, and 0 where there is none
abbrev pub row_price : Prices → Option (ℕ × Sign) → ℤ
row_price list None = pos 0
row_price list (Some (k, Plus)) = get_or list.pair k (pos 0)
row_price list (Some (k, Minus)) = neg_ℤ (get_or list.pair k (pos 0))
