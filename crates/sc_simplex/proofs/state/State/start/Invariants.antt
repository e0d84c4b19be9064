use Rattle.std.proofs.Common.{◌≡◌, ℕ, ◌<◌, length, get_or}
use Rattle.sc_simplex.specs.declared.column.Item.TheVariants.{Unit as UnitOf}
use Rattle.sc_simplex.specs.Optima.{no_item}
use Rattle.sc_simplex.proofs.state.State.start.Given as goal

abbrev pub invariant-loop-row : goal.invariant-loop-row
invariant-loop-row l = (length l.basis.items ≡ l.row) × ((i : ℕ) → i < l.row → get_or l.basis.items i no_item ≡ UnitOf i)
