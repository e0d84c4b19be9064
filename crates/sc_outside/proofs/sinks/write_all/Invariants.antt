use Rattle.std.proofs.Common.{◌≡◌, ◌≤◌, ◌-◌, length, take, IsTrue}
use Rattle.sc_outside.specs.Told.{Took}
use Rattle.sc_outside.proofs.sinks.write_all.Given as goal

-- the front of the bytes was taken, and there was no fault
abbrev pub invariant-loop-written : goal.invariant-loop-written
invariant-loop-written g l = record {
  within : l.written ≤ length l.bytes;
  taken : Took (g.K.Sink.taken l.initial.sink) (g.K.Sink.taken l.sink) (take l.written l.bytes);
  no_fault : g.K.Sink.faults l.sink ≡ g.K.Sink.faults l.initial.sink;
  saturated : IsTrue (g.K.Sink.saturated l.initial.sink) → IsTrue (g.K.Sink.saturated l.sink);
}

abbrev pub decreases-loop-written : goal.decreases-loop-written
decreases-loop-written g l = length l.bytes - l.written
