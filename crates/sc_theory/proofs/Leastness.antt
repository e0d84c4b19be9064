-- Two labelled fatgraphs over one chain have edges in the ratio of their copies, so the one with more vertices a copy
-- costs less a copy.
use Rattle.std.proofs.Common.{◌≡◌, ℕ, ◌*◌, ◌≤◌, ℤ, pos, negsuc, ◌-ℤ◌, ◌*ℤ◌, ◌≤ℤ◌, ◌<ℤ◌, arith, sym, ap, subst, ◌∙◌}
use Rattle.std.proofs.lemmas.Int.{ints}
use Rattle.sc_algebra.proofs.Ints.{mul_comm, mul_assoc, mul_left_comm, sub_mul, pos-mul, mul-le_right, cancel_le, le-pos}
use Rattle.sc_theory.specs.Chains.{Chain, IsChain, weighted_length}
use Rattle.sc_theory.specs.Fatgraphs.{Sides, vertices, edges, IsFatgraph, IsLeast}
use Rattle.sc_theory.specs.Prices.{Prices, Covers, bound, IsTight}
use Rattle.sc_theory.proofs.FatgraphLaws.{length_is}
use Rattle.sc_theory.proofs.VertexLaws.{even_sides}
use Rattle.sc_theory.proofs.Duality.{duality}

cancel_positive : (d a b : ℤ) → pos 0 <ℤ d → (d *ℤ a) ≤ℤ (d *ℤ b) → a ≤ℤ b
cancel_positive (pos d) a b above h = cancel_le d a b (omega (arith, ints)) h
cancel_positive (negsuc d) a b above h = absurd above.lt

-- vertices against copies, where the first list is tight
vertices_by_copies : (d b : ℤ) (v v' n n' : ℕ) → pos 0 <ℤ d → d *ℤ pos v ≡ pos n *ℤ b → (d *ℤ pos v') ≤ℤ (pos n' *ℤ b) → v' * n ≤ v * n'
vertices_by_copies d b v v' n n' above tight bounded =
    let left : (d *ℤ pos v') *ℤ pos n ≡ d *ℤ pos (v' * n) =
    mul_assoc d (pos v') (pos n) ∙ ap (λ (x : ℤ). d *ℤ x) (sym (pos-mul v' n)) in
    let right : (pos n' *ℤ b) *ℤ pos n ≡ d *ℤ pos (v * n') =
    mul_assoc (pos n') b (pos n)
    ∙ ap (λ (x : ℤ). pos n' *ℤ x) (mul_comm b (pos n) ∙ sym tight)
    ∙ mul_left_comm (pos n') d (pos v)
    ∙ ap (λ (x : ℤ). d *ℤ x) (mul_comm (pos n') (pos v) ∙ sym (pos-mul v n')) in
    let scaled : (d *ℤ pos (v' * n)) ≤ℤ (d *ℤ pos (v * n')) =
    subst (λ (x : ℤ). (d *ℤ pos (v' * n)) ≤ℤ x) right (subst (λ (x : ℤ). x ≤ℤ ((pos n' *ℤ b) *ℤ pos n)) left (mul-le_right n _ _ bounded)) in
    le-pos _ _ (cancel_positive d _ _ above scaled)

-- edges are as the copies
edges_by_copies : (l e e' n n' : ℕ) → n * l ≡ 2 * e → n' * l ≡ 2 * e' → e * n' ≡ e' * n
edges_by_copies l e e' n n' here there =
    omega (arith, ap (λ (t : ℕ). t * n') here, ap (λ (t : ℕ). t * n) there)

costs_by_copies : (e e' v v' n n' : ℕ) → e * n' ≡ e' * n → v' * n ≤ v * n' → ((pos e -ℤ pos v) *ℤ pos n') ≤ℤ ((pos e' -ℤ pos v') *ℤ pos n)
costs_by_copies e e' v v' n n' same more =
    let left = sub_mul (pos e) (pos v) (pos n') in
    let right = sub_mul (pos e') (pos v') (pos n) in
    let p = pos-mul e n' in
    let q = pos-mul v n' in
    let r = pos-mul e' n in
    let s = pos-mul v' n in
    rw (left, right, ← p, ← q, ← r, ← s) (omega (arith, ints))

-- a labelled fatgraph is least over its chain where a list that covers the chain is tight for it
pub least : (c : Chain) (list : Prices) (n : ℕ) (g : Sides) → IsChain c → pos 0 <ℤ list.scale → Covers c list → IsFatgraph c n g → IsTight c list n g → IsLeast c n g
least c list n g chain above covers is tight n' g' is' =
    let here : n * weighted_length c ≡ 2 * edges g = sym (length_is c n g is) ∙ even_sides c n g is in
    let there : n' * weighted_length c ≡ 2 * edges g' = sym (length_is c n' g' is') ∙ even_sides c n' g' is' in
    costs_by_copies (edges g) (edges g') (vertices g) (vertices g') n n'
    (edges_by_copies (weighted_length c) (edges g) (edges g') n n' here there)
    (vertices_by_copies list.scale (bound c list) (vertices g) (vertices g') n n' above tight (duality c list n' g' is' chain covers))
