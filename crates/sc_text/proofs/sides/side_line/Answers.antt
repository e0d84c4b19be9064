use Rattle.std.proofs.Common.{◌≡◌, [], ◌∷◌, pos, codes}
use Rattle.sc_whole.specs.Spelling.{spelling}
use Rattle.sc_line.specs.Lines.{fields}
use Rattle.sc_line.proofs.LineLaws.{taken_is, line_from_fields}
use Rattle.sc_text.proofs.sides.side_line.Goals as goal

pub returns-clause-ok : goal.returns-clause-ok
returns-clause-ok c =
    let label = taken_is _ _ _ (pos c.in_ok-in_range.field-0) c.in_ok-label.ensures.ok c.in_ok-in_range.ensures.ok.0 in
    let mate = taken_is _ _ _ (pos c.in_ok-in_range-2.field-0) c.in_ok-mate.ensures.ok c.in_ok-in_range-2.ensures.ok.0 in
    let next = taken_is _ _ _ (pos c.in_ok-in_range-3.field-0) c.in_ok-next.ensures.ok c.in_ok-in_range-3.ensures.ok.0 in
    let all : fields c.args.line.now ≡ codes "side" ∷ spelling (pos c.in_ok-in_range.field-0) ∷ spelling (pos c.in_ok-in_range-2.field-0) ∷ spelling (pos c.in_ok-in_range-3.field-0) ∷ [] =
    cc (c.of-fields.ensures, c.in_ok-name.ensures.ok, label, mate, next, c.in_ok-end.ensures.ok) in (
      line_from_fields c.args.line.now _ all,
      record { label = c.in_ok-in_range.ensures.ok.2; mate = c.in_ok-in_range-2.ensures.ok.2; next = c.in_ok-in_range-3.ensures.ok.2 },
    )
