use Rattle.std.proofs.Common.{◌≡◌, ℕ, ◌+◌, ap, sym, ◌∙◌, List, [], ◌∷◌, ◌++◌, append-nil, arith}
use Rattle.sc_theory.specs.Prices.{is_pair}
use Rattle.sc_chain.proofs.PairLists.{seconds-none, seconds-kept, seconds-passed}
use Rattle.sc_chain.proofs.PairLaws.{pair_test, pair_test_above}
use Rattle.sc_chain.proofs.pairs.append_pairs.Goals as goal
use Rattle.sc_chain.proofs.pairs.append_pairs.Goals.{then-is_inverse+in_ok-push, else-is_inverse}

pub loop-q-init : goal.loop-q-init
loop-q-init c =
    sym (ap (λ (ps : List (ℕ × ℕ)). c.args.pairs.now.items ++ ps)
    (seconds-none c.args.p (is_pair c.args.chain.now c.args.p) 0 (c.args.p + 1) (λ q low high. pair_test_above c.args.chain.now c.args.p q (omega arith)))
    ∙ append-nil c.args.pairs.now.items)

pub loop-q-preserved : goal.loop-q-preserved
loop-q-preserved c =
    let tells : is_pair c.args.chain.now c.args.p c.loop-q.q ≡ c.is_inverse.result =
    pair_test c.args.chain.now c.args.p c.loop-q.q c.letter.result c.letter-in-loop-q.result c.is_inverse.result (omega arith) c.letter.ensures.letter c.letter-in-loop-q.ensures.letter c.is_inverse.ensures in
    elim c.if-is_inverse.branch [
      | then-is_inverse+in_ok-push w ↦
          rw w.pairs-is
          (w.in_ok-push.ensures.items ∙ ap (λ (ps : List (ℕ × ℕ)). ps ++ (c.args.p, c.loop-q.q) ∷ []) c.loop-q.invariant
          ∙ seconds-kept c.args.pairs.now.items c.args.p (is_pair c.args.chain.now c.args.p) c.loop-q.q (tells ∙ w.if-is_inverse.true))
      | else-is_inverse w ↦
          rw w.pairs-is
          (c.loop-q.invariant
          ∙ ap (λ (ps : List (ℕ × ℕ)). c.args.pairs.now.items ++ ps)
          (sym (seconds-passed c.args.p (is_pair c.args.chain.now c.args.p) c.loop-q.q (tells ∙ w.if-is_inverse.false))))
    ]
