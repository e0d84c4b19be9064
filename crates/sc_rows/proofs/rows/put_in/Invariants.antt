use Rattle.std.proofs.Common.{◌≡◌, ℕ, ◌<◌, ◌≤◌, length, get_or, None}
use Rattle.sc_rows.specs.Lines.{no_line}
use Rattle.sc_rows.specs.inside.Fresh.{chosen}
use Rattle.sc_rows.proofs.rows.put_in.Given as goal

abbrev pub invariant-loop-index : goal.invariant-loop-index
invariant-loop-index l = record {
  fresh_size : length l.fresh.items ≡ length l.initial.fresh.items;
  size : length l.rows.items ≡ length l.initial.rows.items;
  done : (i : ℕ) → i < l.index → get_or l.rows.items i no_line ≡ chosen (get_or l.initial.fresh.items i None) (get_or l.initial.rows.items i no_line);
  rest : (i : ℕ) → l.index ≤ i → get_or l.rows.items i no_line ≡ get_or l.initial.rows.items i no_line;
  fresh_rest : (i : ℕ) → l.index ≤ i → get_or l.fresh.items i None ≡ get_or l.initial.fresh.items i None;
}
