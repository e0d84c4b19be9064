use Rattle.std.proofs.Common.{refl}
use Rattle.sc_theory.specs.Prices.{pairs}
use Rattle.sc_ball_refusal.specs.Texts.{search_said}
use Rattle.sc_ball_refusal.proofs.Pieces.{search_printed}
use Rattle.sc_ball_refusal.proofs.search.print_search.Goals as goal

pub returns : goal.returns
returns c =
    search_printed c.args.heading.now (search_said c.args.search.now) c.args.search.now.reached.now (pairs c.in_ok-chain.chain) c.args.out.now.items c.print_line.new.out.items
    c.print_count_line.new.out.items c.print_reached.new.out.items refl c.in_ok-chain.ensures c.in_ok-print_line.ensures.ok c.in_ok-print_count_line.ensures.ok c.in_ok-print_reached.ensures
