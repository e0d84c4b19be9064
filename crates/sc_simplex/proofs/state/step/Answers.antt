use Rattle.std.proofs.Common.{ℕ, length, pos, ◌≤ℤ◌, Some, inl, inr, refl, sym, subst, arith}
use Rattle.std.proofs.lemmas.Bool.{cases_Bool}
use Rattle.sc_basis.specs.Products.{at, dot}
use Rattle.sc_basis.specs.Bases.{entry_of}
use Rattle.sc_basis.specs.Pivots.{IsLeaving}
use Rattle.sc_rows.specs.Standing.{numbers_of}
use Rattle.sc_rows.specs.declared.fault.WideAt.{WideAt}
use Rattle.sc_simplex.specs.inside.Evidence.{IsWideFor, IsWideTold, speaks_of_column}
use Rattle.sc_simplex.specs.inside.States.{IsReady, RowsFollow, PricesFollow}
use Rattle.sc_simplex.proofs.StateLaws.{ready, state_after, columns_few}
use Rattle.sc_simplex.proofs.ToldLaws.{told_silent, told_spoken}
use Rattle.sc_simplex.proofs.state.step.Goals as goal

pub exchange-requires-clause-ready : goal.exchange-requires-clause-ready
exchange-requires-clause-ready g c =
    subst (λ (n : ℕ). IsReady n c.args.state.now.rows c.args.state.now.prices c.args.column.entries.items) (sym c.requires.state.rows.size)
    (ready (g.O.Oracle.is_column c.args.oracle.now) (length c.args.rhs.now.items) (at c.args.rhs.now.items) c.args.state.now (g.O.Oracle.length_row c.args.oracle.now) c.args.column.key.items c.args.column.entries.items
    c.requires.not_negative c.requires.state
    (λ k d h. subst (λ (n : ℕ). pos 1 ≤ℤ dot n (g.O.Oracle.length_row c.args.oracle.now) (entry_of d)) c.requires.size (g.met.O.Oracle.long c.args.oracle.now k d h))
    c.requires.known c.requires.improves)

pub note-requires-clause-room : goal.note-requires-clause-room
note-requires-clause-room g c =
    omega (arith, c.requires.room, columns_few (g.O.Oracle.is_column c.args.oracle.now) (length c.args.rhs.now.items) c.requires.state.pivots c.args.state.now.journal.items c.args.state.now.basis.items c.args.state.now.columns c.requires.state.items)

pub returns-in_ok-note-in-Ok-clause-state : goal.returns-in_ok-note-in-Ok-clause-state
returns-in_ok-note-in-Ok-clause-state g c =
    state_after (g.O.Oracle.is_column c.args.oracle.now) (length c.args.rhs.now.items) (at c.args.rhs.now.items) c.args.state.now
    (record { rows = c.exchange.new.rows; prices = c.exchange.new.prices; basis = c.args.state.now.basis; columns = c.args.state.now.columns; journal = c.args.state.now.journal })
    c.note.new.state c.in-Ok.row c.args.column (g.met.O.Oracle.one c.args.oracle.now) c.requires.state c.requires.known c.requires.improves
    (subst (λ (n : ℕ). IsLeaving n (at c.args.rhs.now.items) (numbers_of c.args.state.now.rows c.args.state.now.prices) c.args.column.entries.items c.in-Ok.row) c.requires.state.rows.size c.in-Ok.ensures.leaves)
    (subst (λ (n : ℕ). RowsFollow n c.args.state.now.rows c.exchange.new.rows c.in-Ok.row c.args.column.entries.items) c.requires.state.rows.size c.in-Ok.ensures.rows)
    (subst (λ (n : ℕ). PricesFollow n c.args.state.now.rows c.args.state.now.prices c.exchange.new.prices c.in-Ok.row c.args.column.entries.items) c.requires.state.rows.size c.in-Ok.ensures.prices)
    refl refl refl c.in_ok-note-in-Ok.ensures.noted

pub returns-in-Err-Wide-clause-evidence : goal.returns-in-Err-Wide-clause-evidence
returns-in-Err-Wide-clause-evidence g c =
    let wide = rw c.in-Err-Wide.field-0-is at c.in-Err-Wide.ensures.evidence in
    let h : IsWideFor (length c.args.rhs.now.items) (at c.args.rhs.now.items) (numbers_of c.args.state.now.rows c.args.state.now.prices) c.args.column.entries.items c.in-Err-Wide.at =
    subst (λ (n : ℕ). IsWideFor n (at c.args.rhs.now.items) (numbers_of c.args.state.now.rows c.args.state.now.prices) c.args.column.entries.items c.in-Err-Wide.at) c.requires.state.rows.size wide in
    elim (cases_Bool (speaks_of_column c.in-Err-Wide.at.place)) [
      | inl e ↦ subst (λ (w : WideAt). IsWideTold (g.O.Oracle.is_column c.args.oracle.now) (length c.args.rhs.now.items) (at c.args.rhs.now.items) (numbers_of c.args.state.now.rows c.args.state.now.prices) w) (sym (c.told.ensures.spoken e))
          (told_spoken (g.O.Oracle.is_column c.args.oracle.now) (length c.args.rhs.now.items) (at c.args.rhs.now.items) (numbers_of c.args.state.now.rows c.args.state.now.prices) c.args.column.entries.items c.in-Err-Wide.at
          (record c.in-Err-Wide.at { entering = Some c.args.column.key }) h e (λ place k. record { name = k.name; indices = k.indices; op = k.op; wide = k.wide; walk = k.walk }) refl refl c.requires.known)
      | inr e ↦ subst (λ (w : WideAt). IsWideTold (g.O.Oracle.is_column c.args.oracle.now) (length c.args.rhs.now.items) (at c.args.rhs.now.items) (numbers_of c.args.state.now.rows c.args.state.now.prices) w) (sym (c.told.ensures.silent e))
          (told_silent (g.O.Oracle.is_column c.args.oracle.now) (length c.args.rhs.now.items) (at c.args.rhs.now.items) (numbers_of c.args.state.now.rows c.args.state.now.prices) c.args.column.entries.items c.in-Err-Wide.at h e)
    ]
