use Rattle.std.proofs.Common.{◌≡◌, ℕ, List, rules, sym, ap, subst₂, ◌∙◌}
use Rattle.std.specs.List.{zip}
use Rattle.sc_theory.specs.Chains.{Chain}
use Rattle.sc_gluing.specs.Cycles.{Parts}
use Rattle.sc_gluing.specs.Gluing.{AreBalanced}
use Rattle.sc_assembly.specs.Multiples.{counted}
use Rattle.sc_assembly.proofs.CountedParts.{counted_polygons}
use Rattle.sc_assembly.proofs.OneMultiple.{values_from_one}
use Rattle.sc_assembly_tests.proofs.counting.found.Goals as goal

pub multiples-requires-clause-values : goal.multiples-requires-clause-values
multiples-requires-clause-values g c =
    let chain_is : c.expect-chain.result ≡ c.in_ok-words.words.items = search rules in
    let balanced : AreBalanced c.expect-chain.result c.args.n (counted c.in_ok-parts.parts.items c.args.counts.now) =
    subst₂ (λ (x : Chain) (ps : Parts). AreBalanced x c.args.n ps) (sym (chain_is ∙ c.in_ok-words.ensures.words))
    (sym (counted_polygons c.in_ok-parts.parts.items c.args.counts.now ∙ ap (λ (ws : List (List ℕ)). zip ws c.args.counts.now) c.in_ok-parts.ensures.polygons))
    c.requires.balanced in
    values_from_one c.expect-chain.result c.in_ok-parts.parts.items c.args.n c.args.counts.now c.requires.some_copies c.in_ok-parts.ensures.counts balanced
