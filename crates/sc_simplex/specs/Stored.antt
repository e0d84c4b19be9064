-- How columns are stored: in a map in the order of insertion, each under its own key.
use Rattle.std.specs.Prelude.{◌≡◌, ℕ, map}
use Rattle.std.specs.Vec.{vec_items}
use Rattle.std.specs.HashMap.{HashMap, keys, values}
use Rattle.std.specs.declared.vec.Vec.{Vec}
use Rattle.sc_simplex.specs.declared.column.Column.{Column}
use Rattle.sc_simplex.specs.Columns.{key_of}

-- each column stands under its own key
abbrev pub HaveOwnKeys : {Z S : Type 0} → HashMap (Vec ℕ Z) Column S → Type 0
HaveOwnKeys m = map vec_items (keys m) ≡ map key_of (values m)
