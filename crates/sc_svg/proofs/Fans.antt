-- The numbers of a fan's drawing, and its edges one after another.
use Rattle.std.proofs.Common.{◌≡◌, ℕ, ◌+◌, ◌*◌, ◌^◌, ◌<◌, ◌≤◌, List, [], ◌∷◌, ◌++◌, length, take, drop, get_or, All, ◌-◌, subst, ℤ, neg_ℤ, unsigned_abs, sym, ap, ◌∙◌, append_assoc, arith}
use Rattle.std.proofs.Math.Nat.{mul-le-mul}
use Rattle.std.proofs.lemmas.List.{drop_more, take_all}
use Rattle.std.proofs.lemmas.List.Elements.{All-get_or, All-take, All-drop}
use Rattle.sc_svg.specs.declared.extent.Extent.{Extent}
use Rattle.sc_svg.specs.declared.point.Point.{Point}
use Rattle.sc_svg.specs.declared.spot.Spot.{Spot}
use Rattle.sc_svg.specs.Points.{cut}
use Rattle.sc_svg.specs.Fans.{point_of, edge_lines, edges_from, edges_of}

-- the products by which a point is cut are small
pub small_product : (z den under : ℕ) → z ≤ 1048576 → den ≤ 2147483647 → under < 2 ^ 31 → z * (900 * den * under) < 2 ^ 100
small_product z den under h k l =
    let p = mul-le-mul {n₁ = den} {m₁ = under} {n₂ = 2147483647} {m₂ = 2147483648} k (omega (arith, l)) in
    let q = mul-le-mul {n₁ = z} {m₁ = 900 * den * under} {n₂ = 1048576} {m₂ = 900 * (2147483647 * 2147483648)} h (omega (arith, p)) in
    omega (arith, q)

-- a point with numbers that are known by equations is the corner's
pub point_is : (k : Extent) (c : Spot) (x y : ℤ) (den num : ℕ) → den ≡ unsigned_abs c.den → num ≡ unsigned_abs c.num → x ≡ cut c.s (900 * den * k.under) (num * k.over) → y ≡ neg_ℤ (cut c.t (900 * den * k.under) (num * k.over)) → ◌≡◌ {A = Point} (record { x = x; y = y }) (point_of k c)
point_is k c x y den num d n ex ey =
    let all_x : x ≡ cut c.s (900 * unsigned_abs c.den * k.under) (unsigned_abs c.num * k.over) = ex ∙ (λ i. cut c.s (900 * d i * k.under) (n i * k.over)) in
    let all_y : y ≡ neg_ℤ (cut c.t (900 * unsigned_abs c.den * k.under) (unsigned_abs c.num * k.over)) = ey ∙ (λ i. neg_ℤ (cut c.t (900 * d i * k.under) (n i * k.over))) in
    λ i. record { x = all_x i; y = all_y i }

-- one more edge is printed
pub edge_next : (k : Extent) (here next : Spot) (rest : List Spot) (i : ℕ) (out out' all : List ℕ) → i < length rest → next ≡ get_or rest i next → out ++ edges_from k here (drop i rest) ≡ all → out' ≡ out ++ edge_lines k here next
    → out' ++ edges_from k next (drop (i + 1) rest) ≡ all
edge_next k here next rest i out out' all inside at before more =
    let left : drop i rest ≡ next ∷ drop (i + 1) rest = drop_more rest i next inside ∙ ap (λ (c : Spot). c ∷ drop (i + 1) rest) (sym at) in
    ap (λ (ys : List ℕ). ys ++ edges_from k next (drop (i + 1) rest)) more ∙ append_assoc out (edge_lines k here next) (edges_from k next (drop (i + 1) rest))
    ∙ ap (λ (ds : List Spot). out ++ edges_from k here ds) (sym left) ∙ before

-- all edges are those from the first corner through the others
pub first_edges : (k : Extent) (corners : List Spot) (c : Spot) (out : List ℕ) → 1 ≤ length corners → c ≡ get_or corners 0 c → out ++ edges_from k c (take (length corners - 1) (drop 1 corners)) ≡ out ++ edges_of k corners
first_edges k [] c out some at = absurd (omega (arith, some))
first_edges k (d ∷ ds) c out some at =
    let all : take (length (d ∷ ds) - 1) ds ≡ ds = take_all (length (d ∷ ds) - 1) ds (omega arith) in
    λ i. out ++ edges_from k (at i) (all i)

-- a fact of all corners, at one that follows the first
pub at_other : (P : Spot → Type 0) (corners : List Spot) (i : ℕ) (c : Spot) → All P corners → i < length (take (length corners - 1) (drop 1 corners)) → c ≡ get_or (take (length corners - 1) (drop 1 corners)) i c → P c
at_other P corners i c all inside at =
    subst P (sym at) (All-get_or P (take (length corners - 1) (drop 1 corners)) i c inside (All-take P (length corners - 1) (drop 1 corners) (All-drop P 1 corners all)))

-- and at the first
pub at_first : (P : Spot → Type 0) (corners : List Spot) (c : Spot) → All P corners → 1 ≤ length corners → c ≡ get_or corners 0 c → P c
at_first P corners c all some at = subst P (sym at) (All-get_or P corners 0 c some all)
