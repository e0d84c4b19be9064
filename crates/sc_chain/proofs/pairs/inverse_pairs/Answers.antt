use Rattle.std.proofs.Common.{◌∙◌, ap, List, ◌++◌, ℕ}
use Rattle.sc_theory.specs.Chains.{positions}
use Rattle.sc_theory.specs.Prices.{is_pair}
use Rattle.sc_chain.proofs.PairLists.{seconds, firsts_more}
use Rattle.sc_chain.proofs.pairs.inverse_pairs.Goals as goal

pub loop-p-preserved : goal.loop-p-preserved
loop-p-preserved c =
    c.in_ok-append_pairs.ensures
    ∙ ap (λ (ps : List (ℕ × ℕ)). ps ++ seconds c.loop-p.p (is_pair c.args.chain.now c.loop-p.p) 0 (positions c.args.chain.now)) c.loop-p.invariant
    ∙ firsts_more (is_pair c.args.chain.now) (positions c.args.chain.now) c.loop-p.p
