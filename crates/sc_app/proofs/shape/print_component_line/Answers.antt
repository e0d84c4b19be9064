use Rattle.std.proofs.Common.{rules, ◌≡◌, ◌++◌, ◌∙◌, List, ℕ, OnOk, FitsSigned, to_z-of_z, w64, pos, ap, subst}
use Rattle.std.specs.Int.{w128}
use Rattle.sc_line.specs.Lines.{ended}
use Rattle.sc_app.proofs.ShapeTexts.{same_line}
use Rattle.sc_app.proofs.shape.print_component_line.Goals as goal

pub returns : goal.returns
returns c =
    let number : FitsSigned w128 c.counted.result = search rules in
    let sides : FitsSigned w128 c.from.result = search rules in
    let vertices : FitsSigned w128 c.from-2.result = search rules in
    let edges : FitsSigned w128 c.from-3.result = search rules in
    let euler : FitsSigned w128 c.from-4.result = search rules in
    let narrow : FitsSigned w64 c.euler_of.result = search rules in
    let boundaries : FitsSigned w128 c.counted-2.result = search rules in
    subst (λ (l : List ℕ). OnOk c.print_counts_line.result (c.print_counts_line.new.out.items ≡ c.args.out.now.items ++ ended l))
    (same_line c.args.number c.args.component.now _ _ _ _ _ _
    (to_z-of_z number ∙ c.counted.ensures) (to_z-of_z sides ∙ c.from.ensures) (to_z-of_z vertices ∙ c.from-2.ensures) (to_z-of_z edges ∙ c.from-3.ensures)
    (to_z-of_z euler ∙ c.from-4.ensures ∙ to_z-of_z narrow ∙ c.euler_of.ensures) (to_z-of_z boundaries ∙ c.counted-2.ensures ∙ ap pos c.len.ensures))
    c.print_counts_line.ensures
