use Rattle.std.proofs.Common.{List, ◌∷◌, [], ◌++◌, refl, ap, ◌∙◌}
use Rattle.sc_tables.specs.declared.search.Node.{Node}
use Rattle.sc_tables.proofs.explore.begin.Goals as goal

pub returns : goal.returns
returns g c =
    record {
      node = (
        record { place = c.args.start; before = 0; steps = 0; total = c.zero.result },
        c.in_ok-push.ensures.items ∙ ap (λ (ns : List (Node g.row.W.Denot)). ns ++ record { place = c.args.start; before = 0; steps = 0; total = c.zero.result } ∷ []) c.clear.ensures.items,
        refl,
        refl,
        c.zero.ensures,
      );
      len = c.in_ok-first_table.ensures.len;
      start = c.in_ok-first_table.ensures.start c.requires;
      others = c.in_ok-first_table.ensures.others;
    }
