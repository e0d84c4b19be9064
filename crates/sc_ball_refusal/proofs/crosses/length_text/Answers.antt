use Rattle.std.proofs.Common.{to_z-of_z, FitsSigned, rules}
use Rattle.std.specs.Int.{w128}
use Rattle.sc_text.specs.Surfaces.{ending}
use Rattle.sc_ball_refusal.specs.Texts.{search_said, front_lines, length_heading, ends_line, between_line}
use Rattle.sc_ball_refusal.proofs.Pieces.{lines_printed}
use Rattle.sc_ball_refusal.proofs.crosses.length_text.Goals as goal

pub returns : goal.returns
returns c =
    let fits_s : FitsSigned w128 c.args.s = search rules in
    let fits_t : FitsSigned w128 c.args.t = search rules in
    let between = simp (to_z-of_z fits_s, to_z-of_z fits_t) at c.in_ok-print_between.ensures in
    lines_printed (front_lines length_heading (search_said c.args.search.now)) (ends_line c.args.from c.args.to) (between_line c.args.s c.args.t) ending c.new-text.result.items
    c.print_search.new.out.items c.print_ends.new.out.items c.print_between.new.out.items c.print_line.new.out.items c.new-text.ensures.items c.in_ok-print_search.ensures
    c.in_ok-print_ends.ensures between c.in_ok-print_line.ensures.ok
