use Rattle.std.proofs.Common.{◌≡◌, ℕ, List, length, slice_get, Option, Some, None, refl, sym, subst}
use Rattle.sc_basis.specs.Bases.{IsAscending}
use Rattle.sc_rows.specs.declared.prices.PriceRows.{PriceRows}
use Rattle.sc_simplex.specs.Oracles.{ImprovesAt}
use Rattle.simplex_examples.specs.declared.listing.Listing.{Listing}
use Rattle.simplex_examples.specs.inside.Improving.{IsImprovingOrNone}
use Rattle.simplex_examples.specs.ProblemLaws.{listed_ascending, columns_of}
use Rattle.simplex_examples.proofs.listed.ListedOracle.improving.Goals as goal

pub improving_of-found-requires-clause-ascending :
    goal.improving_of-found-requires-clause-ascending
improving_of-found-requires-clause-ascending c =
    let problem = c.args.self.now.problem.now in
    λ j x here.
    subst (λ (n : ℕ). IsAscending n 0 x.entries.now) (sym c.requires.bulk_size)
    (listed_ascending problem.lengths.now problem.listings.now (columns_of problem.rhs.now problem.lengths.now problem.listings.now problem.shares problem.sound) x.key.now x.entries.now
    (record { place = j; listing = x; stands = here; own_key = refl; own_entries = refl }))

none_improves : (r : ℕ) (p : PriceRows) (xs : List Listing) (o : Option Listing) → ((x : Listing) → o ≡ Some x → ⊥) → IsImprovingOrNone r p xs o
    → (j : ℕ) (x : Listing) → slice_get xs j ≡ Some x → ¬ ImprovesAt r p x.entries.now
none_improves r p xs None none h = h
none_improves r p xs (Some x) none h = absurd (none x refl)

pub returns-in_default-improving-clause-answer : goal.returns-in_default-improving-clause-answer
returns-in_default-improving-clause-answer c =
    let p = c.args.prices.now in
    λ key d h better.
    none_improves (length p.bulk.entries.items) p c.args.self.now.problem.now.listings.now c.in-Some.improving c.in_default-improving.not-Some c.in-Some.ensures h.place h.listing h.stands
    (subst (λ e. ImprovesAt (length p.bulk.entries.items) p e) (sym h.own_entries) (subst (λ (n : ℕ). ImprovesAt n p d) (sym c.requires.bulk_size) better))
