use Rattle.std.proofs.Common.{◌*◌, ◌/◌, arith, rules, sym, subst}
use Rattle.sc_whole.specs.Divisor.{IsLcm}
use Rattle.sc_whole.proofs.DivisorLaws.{IsGcd-pos, IsLcm-from_gcd, below_each_IsLcm}
use Rattle.sc_whole.proofs.divisor.lcm_within.Goals as goal

pub nonzero_div-x : goal.nonzero_div-x
nonzero_div-x c = IsGcd-pos _ _ _ c.requires.first c.gcd_of_sizes.ensures

pub returns-in_err-multiple-clause-over : goal.returns-in_err-multiple-clause-over
returns-in_err-multiple-clause-over c =
    let least = IsLcm-from_gcd _ _ _ c.requires.first c.gcd_of_sizes.ensures in (
      λ _. below_each_IsLcm _ _ c.args.limit (c.args.x / c.gcd_of_sizes.result * c.args.y) least (omega (arith, c.in_err-multiple.ensures)),
      λ _. search rules,
    )

least_multiple : goal.returns-then-multiple-limit-clause-least
least_multiple c = subst (λ m. IsLcm c.args.x c.args.y m) (sym c.in_ok-multiple.ensures.1) (IsLcm-from_gcd _ _ _ c.requires.first c.gcd_of_sizes.ensures)

pub returns-then-multiple-limit-clause-least : goal.returns-then-multiple-limit-clause-least
returns-then-multiple-limit-clause-least = least_multiple

pub returns-then-multiple-limit-clause-over : goal.returns-then-multiple-limit-clause-over
returns-then-multiple-limit-clause-over c = (
  λ none. cc,
  λ over. absurd (omega (arith, over c.in_ok-multiple.multiple (least_multiple c))),
)

pub returns-else-multiple-limit-clause-over : goal.returns-else-multiple-limit-clause-over
returns-else-multiple-limit-clause-over c =
    let least : IsLcm c.args.x c.args.y c.in_ok-multiple.multiple =
    subst (λ m. IsLcm c.args.x c.args.y m) (sym c.in_ok-multiple.ensures.1) (IsLcm-from_gcd _ _ _ c.requires.first c.gcd_of_sizes.ensures) in
    (λ _. below_each_IsLcm _ _ c.args.limit c.in_ok-multiple.multiple least (omega arith), λ _. search rules)
