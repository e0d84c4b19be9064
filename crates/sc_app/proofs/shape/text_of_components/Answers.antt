use Rattle.sc_app.proofs.ShapeTexts.{numbered_next}
use Rattle.sc_app.proofs.shape.text_of_components.Goals as goal

pub loop-number-preserved : goal.loop-number-preserved
loop-number-preserved c =
    numbered_next c.args.components.now c.loop-number.number c.index-components-number.result _ c.loop-number.text.items c.print_component.new.out.items c.loop-number-test.true
    c.index-components-number.is c.loop-number.invariant c.in_ok-print_component.ensures
