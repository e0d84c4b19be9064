use Rattle.std.proofs.Common.{ℕ, List, subst₂}
use Rattle.std.proofs.lemmas.Result.{IfOk-weaker}
use Rattle.sc_gluing.specs.Matching.{ArePartners}
use Rattle.sc_gluing.proofs.KindLaws.{inside, kinds_matchable, partners_are_matched}
use Rattle.sc_gluing.proofs.sides.matched_sides.Goals as goal

pub kinds_of-requires : goal.kinds_of-requires
kinds_of-requires c = inside c.args.chain.now c.args.labels.now c.args.afters.now c.requires.glueable

pub opposites_of-requires : goal.opposites_of-requires
opposites_of-requires c = inside c.args.chain.now c.args.labels.now c.args.afters.now c.requires.glueable

pub partners_of-requires-clause-matchable : goal.partners_of-requires-clause-matchable
partners_of-requires-clause-matchable c =
    rw (c.as_slice.ensures.value, c.as_slice-2.ensures.value, c.positions-positions.ensures.positions)
    (kinds_matchable c.args.chain.now c.args.labels.now c.args.afters.now c.requires.glueable c.in_ok-kinds.kinds.items c.in_ok-opposites.opposites.items c.in_ok-kinds.ensures c.in_ok-opposites.ensures)

pub returns : goal.returns
returns c =
    IfOk-weaker c.partners_of.result _ _
    (λ partners h. partners_are_matched c.args.chain.now c.args.labels.now c.args.afters.now c.in_ok-kinds.kinds.items c.in_ok-opposites.opposites.items partners.items c.in_ok-kinds.ensures c.in_ok-opposites.ensures
    (subst₂ (λ (xs ys : List ℕ). ArePartners xs ys partners.items) c.as_slice.ensures.value c.as_slice-2.ensures.value h))
    c.partners_of.ensures
