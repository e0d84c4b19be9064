use Rattle.std.proofs.Common.{◌≡◌, ap, sym, subst, ◌∙◌, rules}
use Rattle.sc_theory.specs.Walks.{IsPolygon}
use Rattle.sc_solve.specs.PolygonColumns.{column_entries}
use Rattle.sc_solve.proofs.columns.column_of.Goals as goal

pub returns-clause-column : goal.returns-clause-column
returns-clause-column c =
    let key_is : c.in_ok-key.key.items ≡ c.args.polygon.now = search rules in
    record {
      polygon = subst (IsPolygon c.args.chain.now) (sym key_is) c.requires.polygon;
      entries_are = c.in_ok-entries.ensures ∙ ap (column_entries c.args.chain.now) (c.walk-walk.ensures.walk ∙ sym key_is);
    }
