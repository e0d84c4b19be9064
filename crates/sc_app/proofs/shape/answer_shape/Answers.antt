use Rattle.std.proofs.Common.{subst}
use Rattle.sc_app.specs.Said.{IsSaid}
use Rattle.sc_app.specs.Shape.{IsShape}
use Rattle.sc_app.specs.Answer.{status_of, text_of}
use Rattle.sc_app.proofs.Reports.{told, refused}
use Rattle.sc_app.proofs.shape.answer_shape.Goals as goal

pub returns-in_ok-describe-in-Fatgraph : goal.returns-in_ok-describe-in-Fatgraph
returns-in_ok-describe-in-Fatgraph c =
    told IsShape c.args.input.now c.in-Fatgraph.fatgraph c.in_ok-describe-in-Fatgraph.field-0.items (subst (IsSaid c.args.input.now) c.in-Fatgraph.is c.in_ok-fatgraph.ensures) c.in_ok-describe-in-Fatgraph.ensures

pub returns-in-Refused : goal.returns-in-Refused
returns-in-Refused c = refused IsShape c.args.input.now (text_of c.in-Refused.answer) (status_of c.in-Refused.answer) (subst (IsSaid c.args.input.now) c.in-Refused.is c.in_ok-fatgraph.ensures)
