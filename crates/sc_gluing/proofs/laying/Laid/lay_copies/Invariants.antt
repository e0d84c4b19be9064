use Rattle.std.proofs.Common.{◌≡◌, ◌+◌, ◌*◌, length, vec_len}
use Rattle.sc_gluing.specs.Laying.{LaysBehind}
use Rattle.sc_gluing.proofs.laying.Laid.lay_copies.Given as goal

abbrev pub invariant-loop-copy : goal.invariant-loop-copy
invariant-loop-copy l = record {
  laid : LaysBehind l._copy l.walk l.initial.self.labels.items l.initial.self.afters.items l.self.labels.items l.self.afters.items;
  len : vec_len l.self.labels ≡ vec_len l.initial.self.labels + l._copy * length l.walk;
}
