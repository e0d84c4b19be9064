use Rattle.std.proofs.Common.{List, sym, subst, ◌∙◌, arith}
use Rattle.std.proofs.lemmas.Bool.{eqb-true}
use Rattle.std.proofs.lemmas.List.{nil_from_length}
use Rattle.sc_line.specs.Lines.{Line, parts}
use Rattle.sc_line.proofs.LineLaws.{split_some}
use Rattle.sc_line.proofs.TextLaws.{IsReadUpTo, start_reading, few_lines, read_line, bad_line, line_too_many, ends_early, ends_late, read_to_end}
use Rattle.sc_line.proofs.text.read_by_lines.Goals as goal

pub loop-line-init : goal.loop-line-init
loop-line-init g c = start_reading (g.P.LinePart.due c.args.context.now c.args.part) c.args.bytes.now

pub returns-then-is_whole-clause-err : goal.returns-then-is_whole-clause-err
returns-then-is_whole-clause-err g c =
    let start = g.P.LinePart.due c.args.context.now c.args.part in
    let now = g.P.LinePart.due c.args.context.now c.loop-line.part in
    let before = subst (λ (ls : List Line). IsReadUpTo start c.args.bytes.now now ls c.loop-line.number) c.in-Some.ensures.found c.loop-line.invariant in
    line_too_many start c.args.bytes.now now c.in-Some.line.now (parts c.in-Some.after.now) c.loop-line.number before (split_some _ c.in-Some.after.now) (sym c.is_whole.ensures ∙ c.if-is_whole.true)

pub returns-in-Err-clause-err : goal.returns-in-Err-clause-err
returns-in-Err-clause-err g c =
    let start = g.P.LinePart.due c.args.context.now c.args.part in
    let now = g.P.LinePart.due c.args.context.now c.loop-line.part in
    let before = subst (λ (ls : List Line). IsReadUpTo start c.args.bytes.now now ls c.loop-line.number) c.in-Some.ensures.found c.loop-line.invariant in
    let fault = bad_line start c.args.bytes.now now c.in-Some.line.now (parts c.in-Some.after.now) c.loop-line.number c.in-Err.fault before (split_some _ c.in-Some.after.now) c.in-Err.ensures.err in
    rw c.at_line.ensures fault

pub loop-line-preserved : goal.loop-line-preserved
loop-line-preserved g c =
    let start = g.P.LinePart.due c.args.context.now c.args.part in
    let now = g.P.LinePart.due c.args.context.now c.loop-line.part in
    let before = subst (λ (ls : List Line). IsReadUpTo start c.args.bytes.now now ls c.loop-line.number) c.in-Some.ensures.found c.loop-line.invariant in
    read_line start c.args.bytes.now now (g.P.LinePart.due c.args.context.now c.take_line.new.self) c.in-Some.line.now (parts c.in-Some.after.now) c.loop-line.number before (split_some _ c.in-Some.after.now) c.in-Ok.ensures.ok

pub overflow_add-number : goal.overflow_add-number
overflow_add-number g c =
    let start = g.P.LinePart.due c.args.context.now c.args.part in
    let few = few_lines start c.args.bytes.now (g.P.LinePart.due c.args.context.now c.loop-line.part) (parts c.loop-line.rest.now) c.loop-line.number 4000000000 c.requires.short c.loop-line.invariant in
    record { fits = omega (arith, few) }

pub returns-in-None-clause-err : goal.returns-in-None-clause-err
returns-in-None-clause-err g c =
    let start = g.P.LinePart.due c.args.context.now c.args.part in
    let now = g.P.LinePart.due c.args.context.now c.loop-line.part in
    let before = subst (λ (ls : List Line). IsReadUpTo start c.args.bytes.now now ls c.loop-line.number) c.in_default.ensures.none c.loop-line.invariant in
    ends_early start c.args.bytes.now now c.loop-line.rest.now c.loop-line.number before c.in-None.ensures.none

pub returns-then-is_empty-clause-ok : goal.returns-then-is_empty-clause-ok
returns-then-is_empty-clause-ok g c =
    let start = g.P.LinePart.due c.args.context.now c.args.part in
    let now = g.P.LinePart.due c.args.context.now c.loop-line.part in
    let before = subst (λ (ls : List Line). IsReadUpTo start c.args.bytes.now now ls c.loop-line.number) c.in_default.ensures.none c.loop-line.invariant in
    let empty = nil_from_length c.loop-line.rest.now (eqb-true _ _ (sym c.is_empty.ensures ∙ c.if-is_empty.true)) in
    read_to_end start c.args.bytes.now now (g.P.LinePart.says c.in-Some-finish.out) c.loop-line.rest.now c.loop-line.number before c.in-Some-finish.ensures.some empty

pub returns-else-is_empty-clause-err : goal.returns-else-is_empty-clause-err
returns-else-is_empty-clause-err g c =
    let start = g.P.LinePart.due c.args.context.now c.args.part in
    let now = g.P.LinePart.due c.args.context.now c.loop-line.part in
    let before = subst (λ (ls : List Line). IsReadUpTo start c.args.bytes.now now ls c.loop-line.number) c.in_default.ensures.none c.loop-line.invariant in
    ends_late start c.args.bytes.now now (g.P.LinePart.says c.in-Some-finish.out) c.loop-line.rest.now c.loop-line.number before c.in-Some-finish.ensures.some (sym c.is_empty.ensures ∙ c.if-is_empty.false)
