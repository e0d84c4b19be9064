use Rattle.std.proofs.Common.{◌≡◌, ◌↔◌, ℕ, List, length}
use Rattle.sc_basis.specs.Products.{at}
use Rattle.sc_basis.specs.Bases.{Column as Entries}
use Rattle.sc_rows.specs.declared.fault.WideAt.{WideAt}
use Rattle.sc_rows.specs.declared.prices.PriceRows.{PriceRows}
use Rattle.sc_simplex.specs.inside.States.{IsState}
use Rattle.sc_simplex.proofs.solving.solve.Given as goal

abbrev pub invariant-loop-turn : goal.invariant-loop-turn
invariant-loop-turn g l =
    (g.O.Oracle.size l.oracle ≡ length l.rhs.items)
    × ((key : List ℕ) (c : Entries) → g.O.Oracle.is_column l.oracle key c ↔ g.O.Oracle.is_column l.initial.oracle key c)
    × ((p : PriceRows) (w : WideAt) → g.O.Oracle.shows l.oracle p w ↔ g.O.Oracle.shows l.initial.oracle p w)
    × IsState (g.O.Oracle.is_column l.initial.oracle) (length l.rhs.items) (at l.rhs.items) l.state
    × (length l.state.journal.items ≡ l._turn)
