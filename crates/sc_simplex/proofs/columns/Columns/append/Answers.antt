use Rattle.std.proofs.Common.{◌∙◌, ℕ, List, ◌++◌, ◌∷◌, [], ap, sym, map, slice_get, eqb}
use Rattle.std.specs.Cmp.Lexicographic.{pointwise}
use Rattle.std.specs.Vec.{vec_items}
use Rattle.indexmap.proofs.CallerLemmas.{insert_entry-new}
use Rattle.sc_simplex.specs.Columns.{key_of}
use Rattle.sc_simplex.proofs.Keys.{lookup_missing, decides_keys, same_from_clones, values_more, own_keys_more}
use Rattle.sc_simplex.proofs.columns.Columns.append.Goals as goal

pub invariant_of-self : goal.invariant_of-self
invariant_of-self c =
    let same = same_from_clones c.args.column.key.items c.in-Ok.key.items c.in-Ok.ensures.cases.0 in
    let shows = c.self.invariant ∙ ap (map key_of) c.self.view_is in
    let none = lookup_missing vec_items _ decides_keys c.in-Ok.key c.args.column.key.items c.self.inside.stored.entries same
    (λ i at. c.requires i (sym (ap (λ (l : List (List ℕ)). slice_get l i) shows) ∙ at)) in
    let more = c.in-Ok-insert.ensures.entries ∙ insert_entry-new (λ a b. pointwise eqb a.items b.items) c.self.inside.stored c.in-Ok.key c.args.column none in
    own_keys_more vec_items key_of c.self.inside.stored.entries c.insert.new.self.entries c.in-Ok.key c.args.column more same c.self.invariant

pub returns-in-Ok-insert-clause-added : goal.returns-in-Ok-insert-clause-added
returns-in-Ok-insert-clause-added c =
    let same = same_from_clones c.args.column.key.items c.in-Ok.key.items c.in-Ok.ensures.cases.0 in
    let shows = c.self.invariant ∙ ap (map key_of) c.self.view_is in
    let none = lookup_missing vec_items _ decides_keys c.in-Ok.key c.args.column.key.items c.self.inside.stored.entries same
    (λ i at. c.requires i (sym (ap (λ (l : List (List ℕ)). slice_get l i) shows) ∙ at)) in
    let more = c.in-Ok-insert.ensures.entries ∙ insert_entry-new (λ a b. pointwise eqb a.items b.items) c.self.inside.stored c.in-Ok.key c.args.column none in
    values_more c.self.inside.stored.entries c.insert.new.self.entries c.in-Ok.key c.args.column more ∙ ap (λ l. l ++ c.args.column ∷ []) c.self.view_is
