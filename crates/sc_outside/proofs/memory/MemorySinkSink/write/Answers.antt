use Rattle.std.proofs.Common.{rules, refl, inl, inr}
use Rattle.sc_outside.proofs.memory.MemorySinkSink.write.Goals as goal
use Rattle.sc_outside.proofs.memory.MemorySinkSink.write.Goals.{then-contains-via-then-contains, then-contains-via-else-contains+then-bytes-gt0, then-self-eq0, else-self-eq0}

-- a call fails by its number, or since it may take nothing of bytes
pub returns-then-contains-clause-fails : goal.returns-then-contains-clause-fails
returns-then-contains-clause-fails c = (
  λ _.
      elim c.then-contains.branch [
        | then-contains-via-then-contains w ↦ inl (search rules)
        | then-contains-via-else-contains+then-bytes-gt0 w ↦
            elim w.if-self-eq0.branch [
              | then-self-eq0 v ↦ inr (search rules)
              | else-self-eq0 v ↦ search rules
            ]
      ],
  λ _. refl,
)
