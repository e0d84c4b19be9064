use Rattle.std.proofs.Common.{sym, ◌∙◌, subst, take, ◌+◌, arith}
use Rattle.std.proofs.lemmas.Bool.{false≢true}
use Rattle.sc_svg.specs.Fans.{IsGreatest}
use Rattle.sc_svg.specs.inside.Extents.{IsBounded}
use Rattle.sc_svg.specs.declared.extent.Extent.{Extent}
use Rattle.sc_svg.proofs.Greatest.{greatest_of_none, greatest_next, greatest_stays, not_greater}
use Rattle.sc_svg.proofs.extent.greatest_of.Goals as goal
use Rattle.sc_svg.proofs.extent.greatest_of.Goals.{then-is_pointed+then-is_greater, else-is_pointed, else-is_pointed-via-then-is_pointed+else-is_greater, else-is_pointed-via-else-is_pointed}

pub loop-corner-init : goal.loop-corner-init
loop-corner-init c = (greatest_of_none, record { over = omega arith; under = omega arith })

pub loop-corner-preserved : goal.loop-corner-preserved
loop-corner-preserved c =
    let corners = c.args.corners.now in
    let i = c.loop-corner.corner-index in
    let here = c.corner-item.result in
    let k = c.loop-corner.greatest in
    let size = c.extent_of-size.result in
    let P : Extent → Type 0 = λ x. IsGreatest (take (i + 1) corners) x × IsBounded x in
    elim c.if-is_pointed.branch [
      | then-is_pointed+then-is_greater w ↦
          subst P (sym w.greatest-is)
          (greatest_next corners i here k size c.loop-corner-test.true c.corner-item.is c.extent_of-size.ensures.value c.loop-corner.invariant.0 (sym c.is_pointed.ensures ∙ w.if-is_pointed.true) (w.is_greater.ensures.0 w.if-is_greater.true), c.extent_of-size.ensures.bounded)
      | else-is_pointed w ↦
          elim w.else-is_pointed.branch [
            | else-is_pointed-via-then-is_pointed+else-is_greater v ↦
                subst P (sym w.greatest-is)
                (greatest_stays corners i here k size c.loop-corner-test.true c.corner-item.is c.extent_of-size.ensures.value c.loop-corner.invariant.0 (λ pointed. not_greater v.is_greater.result _ _ v.is_greater.ensures v.if-is_greater.false), c.loop-corner.invariant.1)
            | else-is_pointed-via-else-is_pointed v ↦
                subst P (sym w.greatest-is)
                (greatest_stays corners i here k size c.loop-corner-test.true c.corner-item.is c.extent_of-size.ensures.value c.loop-corner.invariant.0 (λ pointed. absurd (false≢true (sym v.if-is_pointed.false ∙ c.is_pointed.ensures ∙ pointed))), c.loop-corner.invariant.1)
          ]
    ]
