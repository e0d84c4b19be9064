use Rattle.std.proofs.Common.{to_z-of_z, FitsSigned, rules}
use Rattle.std.specs.Int.{w128}
use Rattle.sc_theory.specs.Chains.{Chain}
use Rattle.sc_refusal.specs.Texts.{sides_heading, sides_body}
use Rattle.sc_ball_refusal.specs.Texts.{search_said, unsolved_front, chain_at}
use Rattle.sc_ball_refusal.proofs.Pieces.{both_printed}
use Rattle.sc_ball_refusal.proofs.unsolved.sides_text.Goals as goal

pub returns : goal.returns
returns c =
    let fits : FitsSigned w128 c.args.next = search rules in
    let body = simp (to_z-of_z fits) at c.in_ok-print_sides_body.ensures in
    both_printed (λ (x : Chain). sides_body x c.args.journal.now c.args.part.now c.args.value.now c.args.so_far c.args.next) c.in_ok-chain.chain
    (chain_at (search_said c.args.search.now) c.args.direction) (unsolved_front sides_heading (search_said c.args.search.now) c.args.direction) c.new-text.result.items c.print_front.new.out.items
    c.print_sides_body.new.out.items c.new-text.ensures.items c.in_ok-print_front.ensures body c.in_ok-chain.ensures
