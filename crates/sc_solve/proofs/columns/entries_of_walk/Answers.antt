use Rattle.std.proofs.Common.{ℕ, ◌++◌, ◌∷◌, [], List, ℤ, ap, sym, ◌∙◌, FitsSigned, to_z, of_z, to_z-of_z, rules}
use Rattle.std.specs.Int.{w128}
use Rattle.sc_theory.specs.Columns.{column}
use Rattle.sc_solve.proofs.EntrySteps.{entries_more, entries_same}
use Rattle.sc_solve.proofs.columns.entries_of_walk.Goals as goal
use Rattle.sc_solve.proofs.columns.entries_of_walk.Goals.{then-entry-ne0+in_ok-push, else-entry-ne0}

pub loop-row-preserved : goal.loop-row-preserved
loop-row-preserved c =
    let fits : FitsSigned w128 c.entry_at-entry.result = search rules in
    elim c.if-entry-ne0.branch [
      | then-entry-ne0+in_ok-push w ↦
          (let items = simp (to_z-of_z fits) at w.in_ok-push.ensures.items in
          ap (λ v. v.items) w.entries-is
          ∙ items
          ∙ ap (λ (es : List (ℕ × ℤ)). es ++ (c.loop-row.row, c.entry_at-entry.result) ∷ []) c.loop-row.invariant
          ∙ sym (entries_more (column c.args.chain.now c.args.walk.now) c.loop-row.row c.entry_at-entry.result c.entry_at-entry.ensures (λ zero. w.if-entry-ne0.true (ap (of_z w128) zero))))
      | else-entry-ne0 w ↦
          (let none = simp (to_z-of_z fits) at (ap (to_z w128) w.if-entry-ne0.false) in
          ap (λ v. v.items) w.entries-is
          ∙ c.loop-row.invariant
          ∙ sym (entries_same (column c.args.chain.now c.args.walk.now) c.loop-row.row c.entry_at-entry.result c.entry_at-entry.ensures none))
    ]
