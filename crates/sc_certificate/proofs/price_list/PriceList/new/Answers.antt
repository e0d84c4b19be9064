use Rattle.std.proofs.Common.{◌∙◌, sym, refl, to_z-of_z, FitsSigned, rules}
use Rattle.std.specs.Int.{w128}
use Rattle.std.proofs.lemmas.Bool.{false≢true}
use Rattle.sc_certificate.proofs.SmallLists.{small_decided}
use Rattle.sc_certificate.proofs.price_list.PriceList.new.Goals as goal

pub invariant_of-result : goal.invariant_of-result
invariant_of-result c =
    let value = simp (c.as_slice.ensures.value, c.as_slice-2.ensures.value) at c.is_small.ensures in
    (small_decided _ c.args.base.items c.args.pair.items).0 (sym value ∙ c.if-is_small.true)

pub returns-then-is_small-clause-some : goal.returns-then-is_small-clause-some
returns-then-is_small-clause-some c =
    let fits : FitsSigned w128 c.args.scale = search rules in
    let value = simp (to_z-of_z, c.as_slice.ensures.value, c.as_slice-2.ensures.value) at c.is_small.ensures in
    ((λ _. (small_decided c.args.scale c.args.base.items c.args.pair.items).0 (sym value ∙ c.if-is_small.true)), (λ _. refl))

pub returns-else-is_small-clause-some : goal.returns-else-is_small-clause-some
returns-else-is_small-clause-some c =
    let fits : FitsSigned w128 c.args.scale = search rules in
    let value = simp (to_z-of_z, c.as_slice.ensures.value, c.as_slice-2.ensures.value) at c.is_small.ensures in
    ((λ h. absurd (false≢true h)), (λ h. sym c.if-is_small.false ∙ value ∙ (small_decided c.args.scale c.args.base.items c.args.pair.items).1 h))
