use Rattle.std.proofs.Common.{◌≡◌, ℕ, List, ◌-◌, length, take, arith, ap, sym, ◌∙◌, subst, refl}
use Rattle.std.proofs.lemmas.List.{length-append}
use Rattle.sc_two.specs.inside.Parts.{IsPart, IsFollowed}
use Rattle.sc_two.proofs.Cuts.{search_begins, search_goes_on, search_counts, search_finds, search_ends, cut_shorter}
use Rattle.sc_two.proofs.part.first_part.Goals as goal

pub loop-line-init : goal.loop-line-init
loop-line-init c = search_begins c.args.text.now

pub overflow_sub-text : goal.overflow_sub-text
overflow_sub-text c = omega (arith, ap length c.loop-line.invariant.text_is ∙ length-append c.loop-line.invariant.before c.loop-line.rest.now)

pub overflow_add-count : goal.overflow_add-count
overflow_add-count c = omega (arith, search_counts c.args.text.now c.loop-line.rest.now c.loop-line.count c.loop-line.invariant)

pub loop-line-smaller : goal.loop-line-smaller
loop-line-smaller c = cut_shorter c.loop-line.rest.now c.in-Some.behind.now c.in-Some.line.now c.in-Some.ensures.cut

pub loop-line-preserved : goal.loop-line-preserved
loop-line-preserved c =
    search_goes_on c.args.text.now c.loop-line.rest.now c.in-Some.behind.now c.in-Some.line.now c.loop-line.count c.loop-line.invariant c.in-Some.ensures.cut
    (sym c.is_separator.ensures ∙ c.if-is_separator.false)

pub returns-then-is_separator : goal.returns-then-is_separator
returns-then-is_separator c =
    let found = search_finds c.args.text.now c.loop-line.rest.now c.in-Some.behind.now c.in-Some.line.now c.loop-line.count c.loop-line.invariant c.in-Some.ensures.cut
    (sym c.is_separator.ensures ∙ c.if-is_separator.true) in
    let front : take (length c.args.text.now - length c.loop-line.rest.now) c.args.text.now ≡ c.split_at.result.0.now = sym c.split_at.ensures.front in
    record {
      part = subst (λ (part : List ℕ). IsPart c.args.text.now part c.loop-line.count) front found.0;
      rest = subst (λ (part : List ℕ). IsFollowed c.args.text.now part c.in-Some.behind.now) front found.1;
    }

pub returns : goal.returns
returns c =
    record {
      part = search_ends c.args.text.now c.loop-line.rest.now c.loop-line.count c.loop-line.invariant c.in_default.ensures.cut;
      rest = refl;
    }
