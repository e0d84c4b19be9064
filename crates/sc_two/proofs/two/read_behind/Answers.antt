use Rattle.std.proofs.Common.{◌≡◌, map, ◌∙◌, sym, ap, subst, arith, refl}
use Rattle.std.specs.Prelude.{Err}
use Rattle.std.specs.List.{All}
use Rattle.sc_line.specs.declared.fault.TextFault.{TextFault}
use Rattle.sc_words.proofs.ReadingLaws.{lines_le}
use Rattle.sc_two.specs.inside.Behind.{HasRoom}
use Rattle.sc_two.specs.Behind.{moved}
use Rattle.sc_two.proofs.Numbering.{room_for, numbered, written_back}
use Rattle.sc_two.proofs.two.read_behind.Goals as goal

pub move_down-requires : goal.move_down-requires
move_down-requires c = subst (All (HasRoom c.args.count)) (sym c.as_mut_slice.ensures.value) (room_for c.args.count c.args.text.now c.in-Ok.read.items c.in-Ok.ensures.ok c.requires)

pub returns-in-Ok : goal.returns-in-Ok
returns-in-Ok c =
    let moved_is : c.move_down.new.read ≡ map (moved c.args.count) c.in-Ok.read.items = c.move_down.ensures ∙ ap (map (moved c.args.count)) c.as_mut_slice.ensures.value in
    numbered c.args.count c.args.text.now c.in-Ok.read.items _ c.in-Ok.ensures.ok
    (written_back (moved c.args.count) c.move_down.new.read c.in-Ok.read.items c.in-Ok.read.len moved_is c.in-Ok.read.ok.0)

pub overflow_add-result : goal.overflow_add-result
overflow_add-result c =
    let malformed = c.in-Err-Malformed.ensures.malformed c.in-Err-Malformed.line c.in-Err-Malformed.kind (ap (λ (fault : TextFault). Err fault) c.in-Err-Malformed.field-0-is) in
    omega (arith, malformed.in_text, lines_le c.args.text.now, c.requires)

pub returns-in-Err-Malformed : goal.returns-in-Err-Malformed
returns-in-Err-Malformed c = record { place = c.in-Err-Malformed.line; line_is = refl; first = c.in-Err-Malformed.ensures.malformed c.in-Err-Malformed.line c.in-Err-Malformed.kind (ap (λ (fault : TextFault). Err fault) c.in-Err-Malformed.field-0-is) }
