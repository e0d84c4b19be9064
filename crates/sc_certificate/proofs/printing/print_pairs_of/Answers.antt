use Rattle.std.proofs.Common.{◌≡◌, ℕ, ◌+◌, ◌-◌, suc, List, [], ◌∷◌, sym, subst, ◌∙◌, arith, rules}
use Rattle.sc_theory.specs.Chains.{positions}
use Rattle.sc_theory.specs.Prices.{is_pair}
use Rattle.sc_line.proofs.PrintLaws.{on_err}
use Rattle.sc_chain.proofs.PairLists.{seconds, seconds-none, seconds-kept, seconds-passed}
use Rattle.sc_chain.proofs.PairLaws.{pair_test, pair_test_above}
use Rattle.sc_certificate.specs.inside.PrintedPairs.{ArePrinted}
use Rattle.sc_certificate.proofs.PrintedPairs.{none_printed, printed_more, printed_part, seconds_at}
use Rattle.sc_certificate.proofs.printing.print_pairs_of.Goals as goal
use Rattle.sc_certificate.proofs.printing.print_pairs_of.Goals.{then-is_inverse+in_ok-left, else-is_inverse}

pub loop-q-init : goal.loop-q-init
loop-q-init c =
    subst (λ (ps : List (ℕ × ℕ)). ArePrinted c.args.out.now.items c.args.prices.now ps c.args.out.now.items c.args.prices.now)
    (sym (seconds-none c.args.p (is_pair c.args.chain.now c.args.p) 0 (c.args.p + 1) (λ q low high. pair_test_above c.args.chain.now c.args.p q (omega arith))))
    (none_printed c.args.out.now.items c.args.prices.now)

pub returns-in_err-left-clause-err : goal.returns-in_err-left-clause-err
returns-in_err-left-clause-err c =
    let p = c.args.p in
    let q = c.loop-q.q in
    let test = is_pair c.args.chain.now p in
    let n = positions c.args.chain.now in
    let tells : test q ≡ c.is_inverse.result =
    pair_test c.args.chain.now p q c.letter.result c.letter-in-loop-q.result c.is_inverse.result (omega arith) c.letter.ensures.letter c.letter-in-loop-q.ensures.letter c.is_inverse.ensures in
    on_err _
    (printed_part c.args.out.now.items c.args.prices.now (seconds p test 0 q) c.loop-q.out.items c.loop-q.left.now c.loop-q.invariant
    ((p, q) ∷ []) (seconds p test (q + 1) (n - suc q)) (seconds p test 0 n) c.print_next_pair.new.out.items
    (seconds_at p test n q (search rules) (tells ∙ c.if-is_inverse.true)) c.in_err-left.ensures.err)

pub loop-q-preserved : goal.loop-q-preserved
loop-q-preserved c =
    let p = c.args.p in
    let q = c.loop-q.q in
    let test = is_pair c.args.chain.now p in
    let tells : test q ≡ c.is_inverse.result =
    pair_test c.args.chain.now p q c.letter.result c.letter-in-loop-q.result c.is_inverse.result (omega arith) c.letter.ensures.letter c.letter-in-loop-q.ensures.letter c.is_inverse.ensures in
    elim c.if-is_inverse.branch [
      | then-is_inverse+in_ok-left w ↦
          rw (w.out-is, w.left-is)
          (subst (λ (ps : List (ℕ × ℕ)). ArePrinted c.args.out.now.items c.args.prices.now ps w.print_next_pair.new.out.items w.in_ok-left.left.now)
          (seconds-kept [] p test q (tells ∙ w.if-is_inverse.true))
          (printed_more c.args.out.now.items c.args.prices.now (seconds p test 0 q) c.loop-q.out.items c.loop-q.left.now c.loop-q.invariant
          ((p, q) ∷ []) w.print_next_pair.new.out.items w.in_ok-left.left.now w.in_ok-left.ensures.ok))
      | else-is_inverse w ↦
          rw (w.out-is, w.left-is)
          (subst (λ (ps : List (ℕ × ℕ)). ArePrinted c.args.out.now.items c.args.prices.now ps c.loop-q.out.items c.loop-q.left.now)
          (sym (seconds-passed p test q (tells ∙ w.if-is_inverse.false))) c.loop-q.invariant)
    ]
