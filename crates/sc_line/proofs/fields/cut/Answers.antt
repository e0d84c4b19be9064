use Rattle.std.proofs.Common.{sym, ◌+◌}
use Rattle.std.proofs.lemmas.List.{take_rest}
use Rattle.sc_line.proofs.LineLaws.{split_found, split_none}
use Rattle.sc_line.proofs.fields.cut.Goals as goal

pub returns-in-None-clause-none : goal.returns-in-None-clause-none
returns-in-None-clause-none c = split_none _ c.args.bytes.now (sym c.in-None.ensures)

pub returns-in-Some-clause-found : goal.returns-in-Some-clause-found
returns-in-Some-clause-found c =
    rw (take_rest c.args.bytes.now (c.in-Some.place + 1)) (split_found _ c.args.bytes.now c.in-Some.place (sym c.in-Some.ensures))
