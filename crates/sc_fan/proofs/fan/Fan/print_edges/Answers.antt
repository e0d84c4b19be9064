use Rattle.std.proofs.Common.{◌≡◌, ◌∙◌, ◌++◌, ℕ, List, sym, ap, subst}
use Rattle.std.specs.Prelude.{OnOk, OnErr}
use Rattle.std.proofs.lemmas.Result.{on_err_weaker, on_ok_weaker}
use Rattle.sc_theory.specs.Prices.{pairs}
use Rattle.sc_line.specs.Printing.{AppendsPart}
use Rattle.sc_cone.specs.declared.Quadrant.TheVariants.{Lower, Upper}
use Rattle.sc_cone.specs.Cones.{quadrant_chain}
use Rattle.sc_fan.specs.FanRead.{fan_said}
use Rattle.sc_fan.specs.inside.Printing.{counted_edges_text}
use Rattle.sc_fan.proofs.Pieces.{edges_pieces}
use Rattle.sc_fan.proofs.Ranges.{quadrant_in_range, edges_in_range}
use Rattle.sc_fan.proofs.fan.Fan.print_edges.Goals as goal

pub chain_of_quadrant-requires : goal.chain_of_quadrant-requires
chain_of_quadrant-requires c = quadrant_in_range (fan_said c.args.self.now) Upper c.requires

pub chain_of_quadrant-requires-2 : goal.chain_of_quadrant-requires-2
chain_of_quadrant-requires-2 c = quadrant_in_range (fan_said c.args.self.now) Lower c.requires

pub print_counted_edges-requires : goal.print_counted_edges-requires
print_counted_edges-requires c = rw (c.in_ok-upper.ensures, c.in_ok-lower.ensures, c.as_slice.ensures.value, c.as_slice-2.ensures.value) (edges_in_range c.args.self.now c.requires)

pub returns-clause-ok : goal.returns-clause-ok
returns-clause-ok c =
    let f = c.args.self.now in
    let old = c.args.out.now.items in
    let new = c.print_counted_edges.new.out.items in
    let text : List ℕ = counted_edges_text (pairs (quadrant_chain Upper f.first f.second)) (pairs (quadrant_chain Lower f.first f.second)) f.corners.items f.edges.items in
    let last : OnOk c.print_counted_edges.result (new ≡ old ++ text) = rw (c.in_ok-upper.ensures, c.in_ok-lower.ensures, c.as_slice.ensures.value, c.as_slice-2.ensures.value) at c.print_counted_edges.ensures.ok in
    on_ok_weaker c.print_counted_edges.result (λ (all : new ≡ old ++ text). all ∙ ap (λ (t : List ℕ). old ++ t) (sym (edges_pieces f.first f.second f.corners.items f.edges.items))) last

pub returns-clause-err : goal.returns-clause-err
returns-clause-err c =
    let f = c.args.self.now in
    let old = c.args.out.now.items in
    let new = c.print_counted_edges.new.out.items in
    let text : List ℕ = counted_edges_text (pairs (quadrant_chain Upper f.first f.second)) (pairs (quadrant_chain Lower f.first f.second)) f.corners.items f.edges.items in
    let last : OnErr c.print_counted_edges.result (AppendsPart old new text) = rw (c.in_ok-upper.ensures, c.in_ok-lower.ensures, c.as_slice.ensures.value, c.as_slice-2.ensures.value) at c.print_counted_edges.ensures.err in
    on_err_weaker c.print_counted_edges.result (λ (part : AppendsPart old new text). subst (AppendsPart old new) (sym (edges_pieces f.first f.second f.corners.items f.edges.items)) part) last
