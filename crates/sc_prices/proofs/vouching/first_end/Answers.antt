use Rattle.std.proofs.Common.{refl, sym, subst, arith}
use borrow.Author.Count.{below_more}
use Rattle.std.proofs.lemmas.Bool.{false≢true}
use Rattle.sc_prices.specs.Flaws.{HasStepFlaw, Undercuts}
use Rattle.sc_prices.proofs.Sizes.{entry_and_price}
use Rattle.sc_prices.proofs.TableFlaws.{step_flaw, no_step_flaw}
use Rattle.sc_prices.proofs.vouching.first_end.Goals as goal
use Rattle.sc_prices.proofs.vouching.first_end.Goals.{then-is_step+else-undercuts, else-is_step}

pub returns-then-undercuts : goal.returns-then-undercuts
returns-then-undercuts c =
    let total = entry_and_price c.in_ok-reached.reached c.step_price.result c.in_ok-reached.ensures.in_range c.step_price.ensures.small in (
      step_flaw c.args.chain.now c.args.list.now c.args.tables.now c.args.start c.args.from c.loop-to.to c.in_ok-reached.reached c.step_price.result
          c.requires.start (c.if-is_step.ensures.0 refl) c.in_ok-reached.ensures.entry c.step_price.ensures.price
          (subst (Undercuts c.args.list.now c.args.tables.now c.args.start c.loop-to.to) total (c.if-undercuts.ensures.0 refl)),
      c.loop-to.invariant,
    )

pub loop-to-preserved : goal.loop-to-preserved
loop-to-preserved c =
    below_more (λ j. HasStepFlaw c.args.chain.now c.args.list.now c.args.tables.now c.args.start c.args.from j → ⊥) c.loop-to.to c.loop-to.invariant
    (elim c.if-is_step.branch [
      | then-is_step+else-undercuts w ↦
          let total = entry_and_price c.in_ok-reached.reached w.step_price.result c.in_ok-reached.ensures.in_range w.step_price.ensures.small in
          no_step_flaw c.args.chain.now c.args.list.now c.args.tables.now c.args.start c.args.from c.loop-to.to c.in_ok-reached.reached w.step_price.result
          c.in_ok-reached.ensures.entry w.step_price.ensures.price
          (λ under. false≢true (w.if-undercuts.ensures.1 (subst (Undercuts c.args.list.now c.args.tables.now c.args.start c.loop-to.to) (sym total) under)))
      | else-is_step w ↦ λ f. false≢true (w.if-is_step.ensures.1 f.step)
    ])

pub returns : goal.returns
returns c = λ p f. c.loop-to.invariant p (omega (arith, f.step.to, c.loop-to-test.false, c.positions-to-end.ensures.positions)) f
