use Rattle.std.proofs.Common.{◌∙◌, ap, map}
use Rattle.std.specs.Vec.{vec_items}
use Rattle.std.specs.HashMap.{keys}
use Rattle.sc_simplex.specs.Columns.{key_of}
use Rattle.sc_simplex.proofs.Keys.{found_is, missing_is, keys_apart, decides_keys}
use Rattle.sc_simplex.proofs.columns.Columns.find.Goals as goal

pub returns-clause-found : goal.returns-clause-found
returns-clause-found c =
    found_is vec_items _ decides_keys c.args.key.now (keys c.self.inside.stored) _ c.get_index_of.result (c.self.invariant ∙ ap (map key_of) c.self.view_is) c.get_index_of.ensures.index

pub returns-clause-missing : goal.returns-clause-missing
returns-clause-missing c =
    missing_is vec_items _ decides_keys c.args.key.now (keys c.self.inside.stored) _ c.get_index_of.result (c.self.invariant ∙ ap (map key_of) c.self.view_is) c.get_index_of.ensures.index

pub returns-clause-distinct : goal.returns-clause-distinct
returns-clause-distinct c =
    keys_apart vec_items _ decides_keys (keys c.self.inside.stored) _ (c.self.invariant ∙ ap (map key_of) c.self.view_is) c.get_index_of.ensures.unique
