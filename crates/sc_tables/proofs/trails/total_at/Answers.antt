use Rattle.std.proofs.Common.{refl, get_or}
use Rattle.std.proofs.lemmas.Option.{slice_get-get_or}
use Rattle.sc_tables.proofs.trails.total_at.Goals as goal

pub returns-in-Some : goal.returns-in-Some
returns-in-Some g c =
    rw c.in-Some.is (get_or c.args.nodes.now c.in-Some.node c.index-nodes-node.result, slice_get-get_or c.args.nodes.now c.in-Some.node c.index-nodes-node.result (c.requires c.in-Some.node c.in-Some.is), refl)
