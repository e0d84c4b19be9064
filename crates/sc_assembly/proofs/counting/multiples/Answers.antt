use Rattle.std.proofs.Common.{◌≡◌, ℕ, pos, ◌*◌, ◌^◌, ◌<◌, List, arith, sym, subst}
use Rattle.std.specs.List.{AllByRecursion}
use Rattle.sc_fraction.specs.Frac.{denominator}
use Rattle.sc_theory.specs.Chains.{weighted_length}
use Rattle.sc_assembly.specs.declared.parts.Part.{Part}
use Rattle.sc_assembly.specs.Multiples.{IsLeastCommon, AreCounts}
use Rattle.sc_assembly.specs.inside.Multiples.{IsCountable}
use Rattle.sc_assembly.proofs.Wholes.{least_whole}
use Rattle.sc_assembly.proofs.Sizes.{whole_over_nothing, counts_fit, balanced}
use Rattle.sc_assembly.proofs.counting.multiples.Goals as goal

pub least_multiple-requires-clause-whole : goal.least_multiple-requires-clause-whole
least_multiple-requires-clause-whole c = λ none.
    subst (AllByRecursion (λ (p : Part). denominator p.value ≡ pos 1)) (sym c.as_slice.ensures.value)
    (whole_over_nothing c.args.chain.now c.args.parts.items c.requires.values none)

pub counts_of-requires : goal.counts_of-requires
counts_of-requires c =
    let n : ℕ = c.in_ok-n.n in
    let common : IsLeastCommon c.args.parts.items n = subst (λ (ps : List Part). IsLeastCommon ps n) c.as_slice.ensures.value c.in_ok-n.ensures.least in
    let few : n * weighted_length c.args.chain.now < 2 ^ 32 = omega (arith, c.in_ok-n.ensures.within) in
    subst (AllByRecursion (λ (p : Part). IsCountable n p.value)) (sym c.as_slice-2.ensures.value)
    (counts_fit c.args.chain.now c.args.parts.items c.requires.values n common few)

pub returns-clause-least : goal.returns-clause-least
returns-clause-least c =
    least_whole c.args.parts.items c.in_ok-n.n (subst (λ (ps : List Part). IsLeastCommon ps c.in_ok-n.n) c.as_slice.ensures.value c.in_ok-n.ensures.least)

pub returns-clause-balanced : goal.returns-clause-balanced
returns-clause-balanced c =
    balanced c.args.chain.now c.args.parts.items c.in_ok-n.n c.in_ok-counts.counts.items c.requires.values
    (subst (λ (ps : List Part). AreCounts c.in_ok-n.n ps c.in_ok-counts.counts.items) c.as_slice-2.ensures.value c.in_ok-counts.ensures)
