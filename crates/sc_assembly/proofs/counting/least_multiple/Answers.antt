use Rattle.std.proofs.Common.{◌≡◌, ℕ, ◌*◌, ◌<◌, ◌≤◌, FitsSigned, to_z-of_z, unsigned_abs, rules, refl, sym, ap, subst, ◌∙◌}
use Rattle.std.specs.Int.{w128}
use Rattle.sc_whole.specs.Divisor.{IsLcm}
use Rattle.sc_fatgraph.specs.declared.limits.TheConstants.{MAX_SIDES}
use Rattle.sc_assembly.proofs.Wholes.{size, first_common}
use Rattle.sc_assembly.proofs.PartLoops.{common_more, many_sides}
use Rattle.sc_assembly.proofs.counting.least_multiple.Goals as goal

pub loop-i-init : goal.loop-i-init
loop-i-init c = record { common = first_common; within = c.most_copies-limit.ensures.some }

pub returns-in-None-clause-faults : goal.returns-in-None-clause-faults
returns-in-None-clause-faults c =
    let fits : FitsSigned w128 c.den-next.result = search rules in
    let limit : ℕ = c.most_copies-limit.result in
    let next_is = to_z-of_z fits ∙ c.den-next.ensures.value in
    let size_is : size c.index-parts-i.result.value ≡ c.unsigned_abs.result = sym (c.unsigned_abs.ensures.value ∙ ap unsigned_abs next_is) in
    many_sides c.args.chain.now c.args.parts.now c.loop-i.i c.loop-i.so_far limit c.index-parts-i.result _
    c.loop-i-test.true c.index-parts-i.is next_is c.loop-i.invariant.common c.loop-i.invariant.within
    (λ m is. c.in-None.ensures.over.0 refl m (subst (λ (d : ℕ). IsLcm c.loop-i.so_far d m) size_is is))
    (subst (λ (l : ℕ). (n : ℕ) → n ≤ limit → n * l ≤ MAX_SIDES) c.length.ensures.length c.most_copies-limit.ensures.within)
    (subst (λ (l : ℕ). (n : ℕ) → 0 < l → limit < n → MAX_SIDES < n * l) c.length.ensures.length c.most_copies-limit.ensures.over)
    c.requires.whole

pub loop-i-preserved : goal.loop-i-preserved
loop-i-preserved c =
    let fits : FitsSigned w128 c.den-next.result = search rules in
    let size_is : c.unsigned_abs.result ≡ size c.index-parts-i.result.value = c.unsigned_abs.ensures.value ∙ ap unsigned_abs (to_z-of_z fits ∙ c.den-next.ensures.value) in
    record {
      common = common_more c.args.parts.now c.loop-i.i c.index-parts-i.result c.loop-i-test.true c.index-parts-i.is c.loop-i.so_far c.in-Some.multiple
          c.loop-i.invariant.common
          (subst (λ (d : ℕ). IsLcm c.loop-i.so_far d c.in-Some.multiple) size_is c.in-Some.ensures.least);
      within = c.in-Some.ensures.within;
    }
