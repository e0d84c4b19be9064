use Rattle.std.proofs.Common.{ℕ, Option, None}
use Rattle.sc_basis.specs.Products.{at}
use Rattle.sc_rows.specs.Lines.{Line}
use Rattle.sc_rows.specs.inside.Fresh.{IsFresh}
use Rattle.sc_rows.proofs.Pushed.{pushed_each, pushed_length}
use Rattle.sc_rows.proofs.rows.fresh_rows.Goals as goal

pub loop-index-preserved : goal.loop-index-preserved
loop-index-preserved c =
    record {
      size = pushed_length c.loop-index.fresh.items c.push.new.self.items c.in_ok-fresh_row.field-0 c.loop-index.index c.loop-index.invariant.size c.in_ok-push.ensures.items;
      fresh = pushed_each (λ (i : ℕ) (o : Option Line). IsFresh c.args.rows.now (at c.args.along.now) c.args.leaving i o) None
          c.loop-index.fresh.items c.push.new.self.items c.in_ok-fresh_row.field-0 c.loop-index.index c.loop-index.invariant.size c.loop-index.invariant.fresh c.in_ok-fresh_row.ensures.fresh c.in_ok-push.ensures.items;
    }
