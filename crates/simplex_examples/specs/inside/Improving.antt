-- Which of some listed columns improves.
use Rattle.std.specs.Prelude.{◌≡◌, ℕ, List, slice_get, Option, Some, None}
use Rattle.sc_basis.specs.Bases.{IsAscending}
use Rattle.sc_rows.specs.declared.prices.PriceRows.{PriceRows}
use Rattle.sc_simplex.specs.Oracles.{ImprovesAt}
use Rattle.simplex_examples.specs.declared.listing.Listing.{Listing}

abbrev pub AreAscending : ℕ → List Listing → Type 0
AreAscending r listings = (j : ℕ) (x : Listing) → slice_get listings j ≡ Some x → IsAscending r 0 x.entries.now

-- a column of the list that improves, or none where none does
abbrev pub IsImprovingOrNone : ℕ → PriceRows → List Listing → Option Listing → Type 0
IsImprovingOrNone r p listings None = (j : ℕ) (x : Listing) → slice_get listings j ≡ Some x → ¬ ImprovesAt r p x.entries.now
IsImprovingOrNone r p listings (Some x) = (j : ℕ) × (slice_get listings j ≡ Some x) × ImprovesAt r p x.entries.now
