use Rattle.std.proofs.Common.{ℕ, ◌<◌, ◌^◌, List, length, arith, sym, subst, subst₂}
use Rattle.std.proofs.lemmas.Result.{IfOk-weaker}
use Rattle.sc_theory.proofs.FatgraphLaws.{length_is}
use Rattle.sc_gluing.specs.Laying.{AreLaid}
use Rattle.sc_gluing.specs.inside.Letters.{AreSeedMates}
use Rattle.sc_gluing.specs.Seeds.{word_cycles}
use Rattle.sc_gluing.proofs.LetterCodes.{listed_seed}
use Rattle.sc_gluing.proofs.SeedLaws.{seed_fatgraph}
use Rattle.sc_gluing.proofs.seeds.seed_sides.Goals as goal

pub mates_by_letter-requires-clause-few : goal.mates_by_letter-requires-clause-few
mates_by_letter-requires-clause-few c = subst (λ (xs : List ℕ). length xs < 2 ^ 32) (sym c.as_slice-labels.ensures.value) c.in_ok-laid.ensures.few

pub returns-clause-seed : goal.returns-clause-seed
returns-clause-seed c =
    let chain = c.args.chain.now in
    let labels : List ℕ = c.as_slice-labels.result.now in
    let mates : List ℕ = c.as_slice.result.now in
    let afters : List ℕ = c.as_slice-2.result.now in
    let laid : AreLaid (word_cycles chain) labels afters =
    subst₂ (AreLaid (word_cycles chain)) (sym c.as_slice-labels.ensures.value) (sym c.as_slice-2.ensures.value) c.in_ok-laid.ensures.laid in
    let mated : AreSeedMates chain mates = subst (AreSeedMates chain) (sym c.as_slice.ensures.value) c.in_ok-mates.ensures in
    IfOk-weaker c.listed_sides.result _ _ (λ sides h. listed_seed chain labels afters mates sides.items laid mated h) c.listed_sides.ensures

pub returns-clause-fatgraph : goal.returns-clause-fatgraph
returns-clause-fatgraph c =
    IfOk-weaker c.listed_sides.result _ _ (λ sides h. seed_fatgraph c.args.chain.now c.lay_words.ensures.small.chain c.requires sides.items h) (returns-clause-seed c)

pub returns-clause-few : goal.returns-clause-few
returns-clause-few c =
    IfOk-weaker c.listed_sides.result _ _ (λ sides h. omega (arith, length_is c.args.chain.now 1 sides.items h, c.lay_words.ensures.small.light)) (returns-clause-fatgraph c)
