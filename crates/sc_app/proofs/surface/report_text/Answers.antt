use Rattle.std.proofs.Common.{arith}
use Rattle.std.proofs.lemmas.Int.{ints}
use Rattle.sc_app.proofs.Reports.{four_lines, of_cost}
use Rattle.sc_app.proofs.surface.report_text.Goals as goal

pub returns : goal.returns
returns c =
    let g = c.args.fatgraph.now.sides in
    let counts = c.in_ok-counts.counts in (
      c.fraction-fraction.result,
      of_cost g counts.vertices counts.edges _ _ c.fraction-fraction.result c.in_ok-counts.ensures.vertices c.in_ok-counts.ensures.edges c.copies.ensures.value c.fraction-fraction.ensures,
      four_lines g c.fraction-fraction.result c.new-text.result.items _ _ _ _ _ _ _ c.new-text.ensures.items c.in_ok-print_number_line.ensures
          c.in_ok-print_number_line-2.ensures c.in_ok-print_number_line-3.ensures c.in_ok-print_fraction_line.ensures
          (omega (arith, ints, c.in_ok-counts.ensures.vertices)) (omega (arith, ints, c.in_ok-counts.ensures.edges))
          (omega (arith, ints, c.in_ok-counts.ensures.vertices, c.in_ok-counts.ensures.edges)),
    )
