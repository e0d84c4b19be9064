use Rattle.std.proofs.Common.{subst}
use Rattle.sc_app.specs.Said.{IsSaid}
use Rattle.sc_app.specs.Surface.{IsReport}
use Rattle.sc_app.specs.Answer.{status_of, text_of}
use Rattle.sc_app.proofs.Reports.{told, refused}
use Rattle.sc_app.proofs.surface.answer_surface.Goals as goal

pub returns-in_ok-report_text-in-Fatgraph : goal.returns-in_ok-report_text-in-Fatgraph
returns-in_ok-report_text-in-Fatgraph c =
    told IsReport c.args.input.now c.in-Fatgraph.fatgraph c.in_ok-report_text-in-Fatgraph.field-0.items (subst (IsSaid c.args.input.now) c.in-Fatgraph.is c.in_ok-fatgraph.ensures) c.in_ok-report_text-in-Fatgraph.ensures

pub returns-in-Refused : goal.returns-in-Refused
returns-in-Refused c = refused IsReport c.args.input.now (text_of c.in-Refused.answer) (status_of c.in-Refused.answer) (subst (IsSaid c.args.input.now) c.in-Refused.is c.in_ok-fatgraph.ensures)
