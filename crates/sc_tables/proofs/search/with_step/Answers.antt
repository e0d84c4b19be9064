use Rattle.std.proofs.Common.{refl, sym, arith}
use Rattle.std.proofs.lemmas.Option.{slice_get_read}
use Rattle.sc_tables.proofs.search.with_step.Goals as goal

pub returns-in-Ok-clause-found : goal.returns-in-Ok-clause-found
returns-in-Ok-clause-found g c = (
  refl,
  record {
    here = c.index-nodes-node.result;
    here_is = slice_get_read c.args.nodes.now _ c.args.node c.index-nodes-node.result refl c.requires.node c.index-nodes-node.is;
    price = c.in-Some.price;
    step = sym c.in-Some.ensures;
    total = c.in-Ok.ensures.sum;
  },
)

pub returns-in-Err-clause-stops : goal.returns-in-Err-clause-stops
returns-in-Err-clause-stops g c = (
  refl,
  record {
    node = omega arith;
    here = c.index-nodes-node.result;
    here_is = slice_get_read c.args.nodes.now _ c.args.node c.index-nodes-node.result refl c.requires.node c.index-nodes-node.is;
    price = c.in-Some.price;
    step = sym c.in-Some.ensures;
    evidence = c.in-Err.ensures.evidence;
  },
)
