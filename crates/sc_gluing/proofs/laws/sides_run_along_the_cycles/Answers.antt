use Rattle.sc_gluing.proofs.CycleLaws.{after_permutes, sides_total, begins_step}
use Rattle.sc_gluing.proofs.laws.sides_run_along_the_cycles.Goals as goal

pub returns : goal.returns
returns c = record { permutes = after_permutes; totals = sides_total; steps = begins_step }
