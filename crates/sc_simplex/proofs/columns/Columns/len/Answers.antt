use Rattle.std.proofs.Common.{◌∙◌, ap, map}
use Rattle.std.specs.Vec.{vec_items}
use Rattle.std.specs.HashMap.{keys}
use Rattle.sc_simplex.specs.Columns.{key_of}
use Rattle.sc_simplex.proofs.Keys.{keys_apart, decides_keys}
use Rattle.sc_simplex.proofs.columns.Columns.len.Goals as goal

pub returns-clause-distinct : goal.returns-clause-distinct
returns-clause-distinct c =
    keys_apart vec_items _ decides_keys (keys c.self.inside.stored) _ (c.self.invariant ∙ ap (map key_of) c.self.view_is) c.len.ensures.unique
