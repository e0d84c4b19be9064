use Rattle.std.proofs.Common.{◌≡◌, ◌∙◌, ℕ, ◌+◌, ◌<◌, ◌≤◌, List, length, sym, ap, subst, arith, rules}
use Rattle.std.proofs.lemmas.Result.{IfOk-weaker, IfErr-weaker}
use Rattle.sc_basis.specs.Products.{at}
use Rattle.sc_basis.specs.Bases.{unit_basis}
use Rattle.sc_rows.specs.Standing.{RowsStand, PricesStand, numbers_of}
use Rattle.sc_simplex.specs.declared.column.KeyPivot.{KeyPivot}
use Rattle.sc_simplex.specs.inside.Evidence.{IsWideSomeValue, IsWideTold}
use Rattle.sc_simplex.specs.Oracles.{ImprovesAt, NoneImproves}
use Rattle.sc_simplex.specs.inside.States.{IsState}
use Rattle.sc_simplex.specs.Optima.{IsOptimum, IsStopped}
use Rattle.sc_simplex.specs.inside.Stops.{IsStopBy, IsMadeOf}
use Rattle.sc_rows.specs.Places.{IsWideBy}
use Rattle.sc_rows.specs.declared.fault.RowFault.{RowFault}
use Rattle.sc_simplex.proofs.StateLaws.{state_by}
use Rattle.sc_simplex.proofs.SolveLaws.{start_state, optimum_of, used_up, shown_after, pivot_after, value_after, stopped_by, stopped_by_oracle, none_by, shown_by, told_by, from_ok}
use Rattle.sc_simplex.proofs.solving.solve.Goals as goal

pub loop-turn-init : goal.loop-turn-init
loop-turn-init g c =
    let e : c.len.result ≡ length c.args.rhs.now.items = search rules in (
      c.requires.size,
      (λ key d. ((λ h. h), (λ h. h))),
      (λ p w. ((λ h. h), (λ h. h))),
      start_state (g.O.Oracle.is_column c.args.oracle.now) (length c.args.rhs.now.items) (at c.args.rhs.now.items) c.in-Ok.state
          (subst (λ (n : ℕ). RowsStand n (unit_basis n) c.in-Ok.state.rows) e c.in-Ok.ensures.rows)
          (subst (λ (n : ℕ). PricesStand n (unit_basis n) c.in-Ok.state.prices) e c.in-Ok.ensures.prices)
          (c.in-Ok.ensures.size ∙ e) (λ i l. c.in-Ok.ensures.items i (subst (λ (n : ℕ). i < n) (sym e) l)) c.in-Ok.ensures.columns c.in-Ok.ensures.journal,
      ap length c.in-Ok.ensures.journal,
    )

pub returns-in-Ok-Optimal-clause-optimum : goal.returns-in-Ok-Optimal-clause-optimum
returns-in-Ok-Optimal-clause-optimum g c =
    let within : length c.loop-turn.state.journal.items ≤ c.args.budget = omega (arith, c.loop-turn.invariant.4, c.loop-turn-test.true) in
    let answer = rw c.in-Ok-Optimal.field-0-is at c.in-Ok-Optimal.ensures.answer in
    let none : NoneImproves (g.O.Oracle.is_column c.args.oracle.now) (length c.args.rhs.now.items) c.loop-turn.state.prices =
    none_by (g.O.Oracle.is_column c.loop-turn.oracle) (g.O.Oracle.is_column c.args.oracle.now) (g.O.Oracle.size c.loop-turn.oracle) (length c.args.rhs.now.items) c.loop-turn.state.prices c.loop-turn.invariant.0 (λ key e known. (c.loop-turn.invariant.1 key e).1 known) answer in
    IfOk-weaker c.with_values.result (IsMadeOf c.loop-turn.state (at c.args.rhs.now.items)) (IsOptimum (g.O.Oracle.is_column c.args.oracle.now) (length c.args.rhs.now.items) (at c.args.rhs.now.items) c.args.budget) (λ o made. optimum_of (g.O.Oracle.is_column c.args.oracle.now) (length c.args.rhs.now.items) (at c.args.rhs.now.items) c.args.budget c.loop-turn.state c.requires.not_negative c.loop-turn.invariant.3 o within none c.requires.feasible made) c.with_values.ensures.optimum

pub returns-in-Ok-Optimal-clause-stopped : goal.returns-in-Ok-Optimal-clause-stopped
returns-in-Ok-Optimal-clause-stopped g c =
    let within : length c.loop-turn.state.journal.items ≤ c.args.budget = omega (arith, c.loop-turn.invariant.4, c.loop-turn-test.true) in
    IfErr-weaker c.with_values.result
    (λ fault. (f : RowFault) × IsStopBy fault c.loop-turn.state.journal.items f × IsWideBy (IsWideSomeValue c.loop-turn.state.rows (at c.args.rhs.now.items)) f)
    (IsStopped (g.O.Oracle.is_column c.args.oracle.now) (g.O.Oracle.shows c.args.oracle.now) (length c.args.rhs.now.items) (at c.args.rhs.now.items) c.args.budget)
    (λ fault h. stopped_by (g.O.Oracle.is_column c.args.oracle.now) (g.O.Oracle.shows c.args.oracle.now) (length c.args.rhs.now.items) (at c.args.rhs.now.items) c.args.budget c.loop-turn.state.journal.items (IsWideSomeValue c.loop-turn.state.rows (at c.args.rhs.now.items)) fault h.0
    (λ w k. value_after (g.O.Oracle.is_column c.args.oracle.now) (length c.args.rhs.now.items) (at c.args.rhs.now.items) c.args.budget c.loop-turn.state c.requires.not_negative c.loop-turn.invariant.3 (g.O.Oracle.shows c.args.oracle.now) within w k) h.1 h.2)
    c.with_values.ensures.stopped

pub returns-in-Err-clause-stopped : goal.returns-in-Err-clause-stopped
returns-in-Err-clause-stopped g c =
    let within : length c.loop-turn.state.journal.items ≤ c.args.budget = omega (arith, c.loop-turn.invariant.4, c.loop-turn-test.true) in
    stopped_by_oracle (g.O.Oracle.is_column c.args.oracle.now) (g.O.Oracle.shows c.args.oracle.now) (length c.args.rhs.now.items) (at c.args.rhs.now.items) c.args.budget c.loop-turn.state.journal.items (g.O.Oracle.shows c.args.oracle.now c.loop-turn.state.prices) c.shown.result c.in-Err.fault
    (λ w k. shown_after (g.O.Oracle.is_column c.args.oracle.now) (length c.args.rhs.now.items) (at c.args.rhs.now.items) c.args.budget c.loop-turn.state c.requires.not_negative c.loop-turn.invariant.3 (g.O.Oracle.shows c.args.oracle.now) within w k) c.shown.ensures
    (shown_by (g.O.Oracle.shows c.loop-turn.oracle c.loop-turn.state.prices) (g.O.Oracle.shows c.args.oracle.now c.loop-turn.state.prices) (λ w h. (c.loop-turn.invariant.2 c.loop-turn.state.prices w).0 h) c.in-Err.fault c.in-Err.ensures.refusal)

pub step-requires-clause-state : goal.step-requires-clause-state
step-requires-clause-state g c =
    state_by (g.O.Oracle.is_column c.args.oracle.now) (g.O.Oracle.is_column c.improving.new.self) (length c.args.rhs.now.items) (at c.args.rhs.now.items) c.loop-turn.state (λ key d h. (c.improving.ensures.columns key d).1 ((c.loop-turn.invariant.1 key d).1 h)) c.loop-turn.invariant.3

pub returns-in-Err-step-clause-stopped : goal.returns-in-Err-step-clause-stopped
returns-in-Err-step-clause-stopped g c =
    let less : length c.loop-turn.state.journal.items < c.args.budget = omega (arith, c.loop-turn.invariant.4, c.loop-turn-test.true) in
    let within : length c.loop-turn.state.journal.items ≤ c.args.budget = omega arith in
    stopped_by (g.O.Oracle.is_column c.args.oracle.now) (g.O.Oracle.shows c.args.oracle.now) (length c.args.rhs.now.items) (at c.args.rhs.now.items) c.args.budget c.loop-turn.state.journal.items
    (IsWideTold (g.O.Oracle.is_column c.improving.new.self) (length c.args.rhs.now.items) (at c.args.rhs.now.items) (numbers_of c.loop-turn.state.rows c.loop-turn.state.prices)) c.stopped.result c.in-Err-step.fault
    (λ w k. pivot_after (g.O.Oracle.is_column c.args.oracle.now) (length c.args.rhs.now.items) (at c.args.rhs.now.items) c.args.budget c.loop-turn.state c.requires.not_negative c.loop-turn.invariant.3 (g.O.Oracle.shows c.args.oracle.now) within w less
    (told_by (g.O.Oracle.is_column c.improving.new.self) (g.O.Oracle.is_column c.args.oracle.now) (length c.args.rhs.now.items) (at c.args.rhs.now.items) (numbers_of c.loop-turn.state.rows c.loop-turn.state.prices) w (λ key d h. (c.loop-turn.invariant.1 key d).0 ((c.improving.ensures.columns key d).0 h)) k))
    (subst (λ (l : List KeyPivot). IsStopBy c.stopped.result l c.in-Err-step.fault) c.in-Err-step.ensures.kept c.stopped.ensures)
    c.in-Err-step.ensures.evidence

pub loop-turn-preserved : goal.loop-turn-preserved
loop-turn-preserved g c =
    let made : IsState (g.O.Oracle.is_column c.improving.new.self) (length c.args.rhs.now.items) (at c.args.rhs.now.items) c.step.new.state = from_ok c.step.result _ c.in_default-step.not-Err c.step.ensures.state in
    let longer : length c.step.new.state.journal.items ≡ length c.loop-turn.state.journal.items + 1 = from_ok c.step.result _ c.in_default-step.not-Err c.step.ensures.longer in (
      c.improving.ensures.size ∙ c.loop-turn.invariant.0,
      (λ key d. ((λ h. (c.loop-turn.invariant.1 key d).0 ((c.improving.ensures.columns key d).0 h)), (λ h. (c.improving.ensures.columns key d).1 ((c.loop-turn.invariant.1 key d).1 h)))),
      (λ p w. ((λ h. (c.loop-turn.invariant.2 p w).0 ((c.improving.ensures.shows p w).0 h)), (λ h. (c.improving.ensures.shows p w).1 ((c.loop-turn.invariant.2 p w).1 h)))),
      state_by (g.O.Oracle.is_column c.improving.new.self) (g.O.Oracle.is_column c.args.oracle.now) (length c.args.rhs.now.items) (at c.args.rhs.now.items) c.step.new.state (λ key d h. (c.loop-turn.invariant.1 key d).0 ((c.improving.ensures.columns key d).0 h)) made,
      longer ∙ ap (λ (n : ℕ). n + 1) c.loop-turn.invariant.4,
    )

pub returns-in-Ok-Improving-improving-clause-stopped : goal.returns-in-Ok-Improving-improving-clause-stopped
returns-in-Ok-Improving-improving-clause-stopped g c =
    let used : length c.loop-turn.state.journal.items ≡ c.args.budget = omega (arith, c.loop-turn.invariant.4, c.loop-turn.auto._turn-end, c.loop-turn-test.false) in
    let answer = rw c.in-Ok-Improving-improving.field-0-is at c.in-Ok-Improving-improving.ensures.answer in
    used_up (g.O.Oracle.is_column c.args.oracle.now) (length c.args.rhs.now.items) (at c.args.rhs.now.items) c.args.budget c.loop-turn.state c.requires.not_negative c.loop-turn.invariant.3 c.in-Ok-Improving-improving.column used ((c.loop-turn.invariant.1 c.in-Ok-Improving-improving.column.key.items c.in-Ok-Improving-improving.column.entries.items).0 answer.0)
    (subst (λ (n : ℕ). ImprovesAt n c.loop-turn.state.prices c.in-Ok-Improving-improving.column.entries.items) c.loop-turn.invariant.0 answer.1)

pub returns-in-Ok-Optimal-improving-clause-optimum : goal.returns-in-Ok-Optimal-improving-clause-optimum
returns-in-Ok-Optimal-improving-clause-optimum g c =
    let within : length c.loop-turn.state.journal.items ≤ c.args.budget = omega (arith, c.loop-turn.invariant.4, c.loop-turn.auto._turn-end) in
    let answer = rw c.in-Ok-Optimal-improving.field-0-is at c.in-Ok-Optimal-improving.ensures.answer in
    let none : NoneImproves (g.O.Oracle.is_column c.args.oracle.now) (length c.args.rhs.now.items) c.loop-turn.state.prices =
    none_by (g.O.Oracle.is_column c.loop-turn.oracle) (g.O.Oracle.is_column c.args.oracle.now) (g.O.Oracle.size c.loop-turn.oracle) (length c.args.rhs.now.items) c.loop-turn.state.prices c.loop-turn.invariant.0 (λ key e known. (c.loop-turn.invariant.1 key e).1 known) answer in
    IfOk-weaker c.with_values-in-Ok-Optimal-improving.result (IsMadeOf c.loop-turn.state (at c.args.rhs.now.items)) (IsOptimum (g.O.Oracle.is_column c.args.oracle.now) (length c.args.rhs.now.items) (at c.args.rhs.now.items) c.args.budget) (λ o made. optimum_of (g.O.Oracle.is_column c.args.oracle.now) (length c.args.rhs.now.items) (at c.args.rhs.now.items) c.args.budget c.loop-turn.state c.requires.not_negative c.loop-turn.invariant.3 o within none c.requires.feasible made) c.with_values-in-Ok-Optimal-improving.ensures.optimum

pub returns-in-Ok-Optimal-improving-clause-stopped : goal.returns-in-Ok-Optimal-improving-clause-stopped
returns-in-Ok-Optimal-improving-clause-stopped g c =
    let within : length c.loop-turn.state.journal.items ≤ c.args.budget = omega (arith, c.loop-turn.invariant.4, c.loop-turn.auto._turn-end) in
    IfErr-weaker c.with_values-in-Ok-Optimal-improving.result
    (λ fault. (f : RowFault) × IsStopBy fault c.loop-turn.state.journal.items f × IsWideBy (IsWideSomeValue c.loop-turn.state.rows (at c.args.rhs.now.items)) f)
    (IsStopped (g.O.Oracle.is_column c.args.oracle.now) (g.O.Oracle.shows c.args.oracle.now) (length c.args.rhs.now.items) (at c.args.rhs.now.items) c.args.budget)
    (λ fault h. stopped_by (g.O.Oracle.is_column c.args.oracle.now) (g.O.Oracle.shows c.args.oracle.now) (length c.args.rhs.now.items) (at c.args.rhs.now.items) c.args.budget c.loop-turn.state.journal.items (IsWideSomeValue c.loop-turn.state.rows (at c.args.rhs.now.items)) fault h.0
    (λ w k. value_after (g.O.Oracle.is_column c.args.oracle.now) (length c.args.rhs.now.items) (at c.args.rhs.now.items) c.args.budget c.loop-turn.state c.requires.not_negative c.loop-turn.invariant.3 (g.O.Oracle.shows c.args.oracle.now) within w k) h.1 h.2)
    c.with_values-in-Ok-Optimal-improving.ensures.stopped

pub returns-in-Err-improving-clause-stopped : goal.returns-in-Err-improving-clause-stopped
returns-in-Err-improving-clause-stopped g c =
    let within : length c.loop-turn.state.journal.items ≤ c.args.budget = omega (arith, c.loop-turn.invariant.4, c.loop-turn.auto._turn-end) in
    stopped_by_oracle (g.O.Oracle.is_column c.args.oracle.now) (g.O.Oracle.shows c.args.oracle.now) (length c.args.rhs.now.items) (at c.args.rhs.now.items) c.args.budget c.loop-turn.state.journal.items (g.O.Oracle.shows c.args.oracle.now c.loop-turn.state.prices) c.shown-in-Err-improving.result c.in-Err-improving.fault
    (λ w k. shown_after (g.O.Oracle.is_column c.args.oracle.now) (length c.args.rhs.now.items) (at c.args.rhs.now.items) c.args.budget c.loop-turn.state c.requires.not_negative c.loop-turn.invariant.3 (g.O.Oracle.shows c.args.oracle.now) within w k) c.shown-in-Err-improving.ensures
    (shown_by (g.O.Oracle.shows c.loop-turn.oracle c.loop-turn.state.prices) (g.O.Oracle.shows c.args.oracle.now c.loop-turn.state.prices) (λ w h. (c.loop-turn.invariant.2 c.loop-turn.state.prices w).0 h) c.in-Err-improving.fault c.in-Err-improving.ensures.refusal)
