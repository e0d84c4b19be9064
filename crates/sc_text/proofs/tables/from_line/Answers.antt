use Rattle.std.proofs.Common.{◌≡◌, ◌∷◌, map, pos, codes}
use Rattle.std.proofs.lemmas.Result.{IfOk-weaker}
use Rattle.sc_whole.specs.Spelling.{spelling}
use Rattle.sc_line.specs.Lines.{fields}
use Rattle.sc_text.specs.TableLines.{entry_field, IsTableInRange}
use Rattle.sc_line.proofs.LineLaws.{line_from_fields}
use Rattle.sc_text.proofs.tables.from_line.Goals as goal

pub returns-clause-ok : goal.returns-clause-ok
returns-clause-ok c =
    IfOk-weaker _ _ _
    (λ table (h : (c.known.new.self ≡ map entry_field table.items) × IsTableInRange c.args.count table.items).
    let all : fields c.args.line.now ≡ codes "from" ∷ spelling (pos c.args.start) ∷ map entry_field table.items =
    cc (c.of-fields.ensures, c.in_ok-name.ensures.ok, c.in_ok-known.ensures.ok, h.0) in
    (line_from_fields c.args.line.now _ all, h.1))
    c.entries.ensures.ok
