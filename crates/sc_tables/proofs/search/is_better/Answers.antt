use Rattle.std.proofs.Common.{refl, sym, ap, ◌∙◌}
use Rattle.std.specs.Ordering.{is_lt}
use Rattle.std.proofs.lemmas.Option.{slice_get_read}
use Rattle.sc_weight.specs.Levels.{levels_cmp}
use Rattle.sc_tables.specs.declared.search.Node.{Node}
use Rattle.sc_tables.proofs.search.is_better.Goals as goal

pub returns-in-Some-clause-kept : goal.returns-in-Some-clause-kept
returns-in-Some-clause-kept g c = λ kept. (
  c.in-Some.node,
  c.index-nodes-node.result,
  c.in-Some.is,
  slice_get_read c.args.nodes.now _ c.in-Some.node c.index-nodes-node.result refl (c.requires c.in-Some.node c.in-Some.is) c.index-nodes-node.is,
  ap (λ (x : Node g.row.W.Denot). is_lt (levels_cmp (g.W.Weight.levels c.args.total.now) (g.W.Weight.levels x.total))) c.index-nodes-node.is
      ∙ sym c.is_below.ensures ∙ kept,
)
