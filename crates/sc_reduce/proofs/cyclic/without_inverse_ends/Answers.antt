use Rattle.std.proofs.Common.{◌≤◌, ◌∙◌, sym, length, arith}
use Rattle.sc_theory.specs.Words.{Word}
use Rattle.sc_reduce.proofs.Ends.{IsFree-middle, cyclic_reduction-middle, length-middle, cyclic_reduction-stops}
use Rattle.sc_reduce.proofs.cyclic.without_inverse_ends.Goals as goal

pub loop-rest-preserved : goal.loop-rest-preserved
loop-rest-preserved c =
    let rest : Word = c.loop-rest.rest.now in
    let long : 2 ≤ length rest = c.in-len2-up.len_at_least in
    record {
      free = IsFree-middle rest long c.loop-rest.invariant.free;
      same =
          cyclic_reduction-middle rest long c.loop-rest.invariant.free (sym c.is_inverse.ensures ∙ c.if-not-is_inverse.false)
          ∙ c.loop-rest.invariant.same;
      short = omega (arith, length-middle rest, c.loop-rest.invariant.short);
    }

pub returns-then-not-is_inverse : goal.returns-then-not-is_inverse
returns-then-not-is_inverse c =
    sym (cyclic_reduction-stops c.loop-rest.rest.now c.in-len2-up.len_at_least c.loop-rest.invariant.free
    (sym c.is_inverse.ensures ∙ c.if-not-is_inverse.true))
    ∙ c.loop-rest.invariant.same
