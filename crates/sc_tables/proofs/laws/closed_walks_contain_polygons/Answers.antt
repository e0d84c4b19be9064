use Rattle.sc_tables.proofs.Polygons.{polygons_decide}
use Rattle.sc_tables.proofs.laws.closed_walks_contain_polygons.Goals as goal

pub returns : goal.returns
returns c = polygons_decide
