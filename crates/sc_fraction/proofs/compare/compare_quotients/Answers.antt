use Rattle.std.proofs.Common.{◌≡◌, ◌⊎◌, ◌%◌, ◌∙◌, arith}
use Rattle.sc_fraction.proofs.Comparing.{by_whole_parts, by_rests, by_no_rest}
use Rattle.sc_fraction.proofs.compare.compare_quotients.Goals as goal

pub returns-then-own-other : goal.returns-then-own-other
returns-then-own-other c =
    let i = c.parts.invariant in
    c.cmp.ensures ∙ by_whole_parts c.parts.a c.parts.b c.parts.c c.parts.e i.first i.second c.if-own-other.true ∙ i.same

pub returns-then-own_rest-eq0 : goal.returns-then-own_rest-eq0
returns-then-own_rest-eq0 c =
    let i = c.parts.invariant in
    let none : (c.parts.a % c.parts.b ≡ 0) ⊎ (c.parts.c % c.parts.e ≡ 0) = grind arith in
    c.cmp-then-own_rest-eq0.ensures
    ∙ by_no_rest c.parts.b c.parts.e (c.parts.a % c.parts.b) (c.parts.c % c.parts.e) i.first i.second none
    ∙ by_rests c.parts.a c.parts.b c.parts.c c.parts.e c.if-own-other.false
    ∙ i.same

pub parts-preserved : goal.parts-preserved
parts-preserved c =
    let i = c.parts.invariant in
    record {
      first = omega arith;
      second = omega arith;
      same = by_rests c.parts.a c.parts.b c.parts.c c.parts.e c.if-own-other.false ∙ i.same;
    }
