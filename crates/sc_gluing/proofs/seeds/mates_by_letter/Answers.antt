use Rattle.std.proofs.Common.{ℕ, List, subst₂}
use Rattle.std.proofs.lemmas.Result.{IfOk-weaker}
use Rattle.sc_gluing.specs.Matching.{ArePartners}
use Rattle.sc_gluing.proofs.LetterCodes.{labels_inside, letters_matchable, partners_are_mates}
use Rattle.sc_gluing.proofs.seeds.mates_by_letter.Goals as goal

pub codes_of-requires : goal.codes_of-requires
codes_of-requires c = labels_inside c.args.chain.now c.args.labels.now c.requires.laid

pub inverse_codes_of-requires : goal.inverse_codes_of-requires
inverse_codes_of-requires c = labels_inside c.args.chain.now c.args.labels.now c.requires.laid

pub partners_of-requires-clause-matchable : goal.partners_of-requires-clause-matchable
partners_of-requires-clause-matchable c =
    rw (c.as_slice.ensures.value, c.as_slice-2.ensures.value)
    (letters_matchable c.args.chain.now c.args.labels.now c.in_ok-codes.codes.items c.in_ok-inverses.inverses.items c.requires.laid c.in_ok-codes.ensures c.in_ok-inverses.ensures c.requires.balanced c.requires.small)

pub returns : goal.returns
returns c =
    IfOk-weaker c.partners_of.result _ _
    (λ partners h. partners_are_mates c.args.chain.now c.args.labels.now c.in_ok-codes.codes.items c.in_ok-inverses.inverses.items c.requires.laid c.in_ok-codes.ensures c.in_ok-inverses.ensures partners.items
    (subst₂ (λ (xs ys : List ℕ). ArePartners xs ys partners.items) c.as_slice.ensures.value c.as_slice-2.ensures.value h))
    c.partners_of.ensures
