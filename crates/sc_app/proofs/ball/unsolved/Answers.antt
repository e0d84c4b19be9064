use Rattle.std.proofs.Common.{rules, List, ℤ, refl, ap₂, ◌∙◌, subst, sym, FitsSigned, to_z-of_z}
use Rattle.std.specs.Int.{w128}
use Rattle.sc_chain.specs.declared.polygon.Pivot.{Pivot}
use Rattle.sc_solve.specs.declared.solution.SolveFault.{SolveFault}
use Rattle.sc_ball_refusal.specs.Texts.{search_said, sides_text}
use Rattle.sc_app.specs.declared.status.Status.TheVariants as statuses
use Rattle.sc_app.specs.Ball.{IsToldOfDirection}
use Rattle.sc_app.proofs.ball.unsolved.Goals as goal

pub returns-in_ok-sides_text-in-Sides : goal.returns-in_ok-sides_text-in-Sides
returns-in_ok-sides_text-in-Sides c =
    let fits : FitsSigned w128 c.in-Sides.next = search rules in
    subst (λ (fault : SolveFault). IsToldOfDirection (search_said c.args.search.now) c.args.direction fault statuses.Sides c.in_ok-sides_text-in-Sides.field-0.items) (sym c.in-Sides.is) (
      refl,
      c.in_ok-sides_text-in-Sides.ensures
          ∙ ap₂ (λ (journal : List Pivot) (next : ℤ). sides_text (search_said c.args.search.now) c.args.direction journal c.in-Sides.part.polygon c.in-Sides.part.value c.in-Sides.so_far next)
          c.as_slice-in-Sides.ensures.value (to_z-of_z fits),
    )
