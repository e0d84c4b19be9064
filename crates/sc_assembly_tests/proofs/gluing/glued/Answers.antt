use Rattle.std.proofs.Common.{rules, ◌≡◌, sym, ap₂, subst₂, ◌∙◌}
use Rattle.std.specs.List.{zip}
use Rattle.sc_theory.specs.Chains.{Chain}
use Rattle.sc_gluing.specs.Cycles.{Parts}
use Rattle.sc_gluing.specs.Gluing.{AreBalanced}
use Rattle.sc_assembly.proofs.CountedParts.{counted_polygons}
use Rattle.sc_assembly_tests.proofs.gluing.glued.Goals as goal

pub glue-requires-clause-balanced : goal.glue-requires-clause-balanced
glue-requires-clause-balanced g c =
    let chain_is : c.expect-chain.result ≡ c.in_ok-words.words.items = search rules in
    subst₂ (λ (x : Chain) (ps : Parts). AreBalanced x c.args.n ps) (sym (chain_is ∙ c.in_ok-words.ensures.words))
    (sym (counted_polygons c.in_ok-parts.parts.items c.in_ok-counts.counts.items ∙ ap₂ zip c.in_ok-parts.ensures c.in_ok-counts.ensures.items))
    c.requires.balanced
