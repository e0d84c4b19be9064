use Rattle.std.proofs.Common.{◌≡◌, ℕ, ◌<◌, length, slice_get, Some}
use Rattle.sc_simplex.specs.Oracles.{ImprovesAt}
use Rattle.simplex_examples.specs.declared.listing.Listing.{Listing}
use Rattle.simplex_examples.proofs.listed.improving_of.Given as goal

-- none of the columns that were passed improves
abbrev pub invariant-loop-place : goal.invariant-loop-place
invariant-loop-place l =
    (j : ℕ) (x : Listing) → j < l.place → slice_get l.listings j ≡ Some x → ¬ ImprovesAt (length l.prices.bulk.entries.items) l.prices x.entries.now
