use Rattle.std.proofs.Common.{◌≡◌, ◌≤◌, ◌+◌, IsTrue, vec_len}
use Rattle.std.specs.Io.KnownBytes.{Consumes}
use Rattle.sc_outside.proofs.sources.read_all.Given as goal

-- what was delivered is kept, at least a byte a turn, and there was no fault
abbrev pub invariant-loop-turn : goal.invariant-loop-turn
invariant-loop-turn g l = record {
  within : vec_len l.bytes ≤ l.limit;
  progress : l._turn ≤ vec_len l.bytes;
  delivered : Consumes (g.S.Source.left l.initial.source) (g.S.Source.left l.source) l.bytes.items;
  saturated : IsTrue (g.S.Source.saturated l.initial.source) → IsTrue (g.S.Source.saturated l.source);
  no_fault : g.S.Source.faults l.source ≡ g.S.Source.faults l.initial.source;
  calls : g.S.Source.calls l.source ≤ g.S.Source.calls l.initial.source + l._turn;
  given : g.S.Source.given l.source ≤ g.S.Source.given l.initial.source + vec_len l.bytes;
}
