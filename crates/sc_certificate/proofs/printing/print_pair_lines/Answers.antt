use Rattle.std.proofs.Common.{◌≡◌, ℕ, ◌+◌, ◌-◌, ◌++◌, suc, List, subst, ◌∙◌, arith, rules}
use Rattle.sc_theory.specs.Chains.{positions}
use Rattle.sc_theory.specs.Prices.{is_pair}
use Rattle.sc_line.specs.Lines.{text_of}
use Rattle.sc_line.proofs.PrintLaws.{on_err}
use Rattle.sc_chain.proofs.PairLists.{seconds, all_seconds, firsts_more}
use Rattle.sc_certificate.specs.Spelled.{pair_lines}
use Rattle.sc_certificate.specs.inside.PrintedPairs.{ArePrinted}
use Rattle.sc_certificate.proofs.PrintedPairs.{printed_more, printed_part, firsts_at}
use Rattle.sc_certificate.proofs.printing.print_pair_lines.Goals as goal

pub returns-in_err-left-clause-err : goal.returns-in_err-left-clause-err
returns-in_err-left-clause-err c =
    let p = c.loop-p.p in
    let test = is_pair c.args.chain.now in
    let n = positions c.args.chain.now in
    on_err _
    (printed_part c.args.out.now.items c.args.prices.now (all_seconds test n 0 p) c.loop-p.out.items c.loop-p.left.now c.loop-p.invariant
    (seconds p (test p) 0 n) (all_seconds test n (p + 1) (n - suc p)) (all_seconds test n 0 n) c.print_pairs_of.new.out.items
    (firsts_at test n n p (search rules)) c.in_err-left.ensures.err)

pub loop-p-preserved : goal.loop-p-preserved
loop-p-preserved c =
    let p = c.loop-p.p in
    let test = is_pair c.args.chain.now in
    let n = positions c.args.chain.now in
    subst (λ (ps : List (ℕ × ℕ)). ArePrinted c.args.out.now.items c.args.prices.now ps c.print_pairs_of.new.out.items c.in_ok-left.left.now) (firsts_more test n p)
    (printed_more c.args.out.now.items c.args.prices.now (all_seconds test n 0 p) c.loop-p.out.items c.loop-p.left.now c.loop-p.invariant
    (seconds p (test p) 0 n) c.print_pairs_of.new.out.items c.in_ok-left.left.now c.in_ok-left.ensures.ok)

pub returns-clause-ok : goal.returns-clause-ok
returns-clause-ok c =
    let test = is_pair c.args.chain.now in
    let n = positions c.args.chain.now in
    let last : c.loop-p.p ≡ c.positions-p-end.result = omega (arith, c.loop-p.auto.p-end, c.loop-p-test.false) in
    subst (λ (p : ℕ). c.loop-p.out.items ≡ c.args.out.now.items ++ text_of (pair_lines (all_seconds test n 0 p) c.args.prices.now))
    (last ∙ c.positions-p-end.ensures.positions) c.loop-p.invariant.lines
