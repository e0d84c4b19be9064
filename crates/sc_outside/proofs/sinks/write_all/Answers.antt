use Rattle.std.proofs.Common.{◌∙◌}
use Rattle.sc_outside.proofs.Bytes.{Took-next, within_next}
use Rattle.sc_outside.proofs.sinks.write_all.Goals as goal

pub loop-written-preserved : goal.loop-written-preserved
loop-written-preserved g c = record {
  within = within_next _ _ _ c.loop-written.invariant.within c.in_ok-written.ensures.fits;
  taken = Took-next _ _ _ _ _ _ c.loop-written.invariant.taken c.in_ok-written.ensures.appended;
  no_fault = c.in_ok-written.ensures.no_fault ∙ c.loop-written.invariant.no_fault;
  saturated = λ h. c.in_ok-written.ensures.stays_saturated (c.loop-written.invariant.saturated h);
}
