-- The copies of the first parts, one part more, and how many sides they have.
use Rattle.std.proofs.Common.{◌≡◌, ℕ, zero, suc, ◌+◌, ◌*◌, ◌<◌, ◌≤◌, List, [], ◌∷◌, ◌++◌, length, get_or, take, drop, replicate, arith, sym, ap, ◌∙◌, length-append}
use Rattle.std.proofs.lemmas.List.{append-nil, take_more, take-append-drop}
use Rattle.std.proofs.lemmas.Grind.{flat_map-append}
use Rattle.sc_gluing.specs.Cycles.{Parts, copies_of, labels_of}
use Rattle.sc_gluing.proofs.CycleLaws.{size, size-cons}

pub size-append : (vs ws : List (List ℕ)) → size (vs ++ ws) ≡ size vs + size ws
size-append vs ws = ap (λ (xs : List ℕ). length xs) (flat_map-append (λ (w : List ℕ). w) vs ws) ∙ length-append (labels_of vs) (labels_of ws)

pub size-replicate : (n : ℕ) (w : List ℕ) → size (replicate n w) ≡ n * length w
size-replicate zero w = omega arith
size-replicate (suc n) w = omega (arith, size-cons w (replicate n w), size-replicate n w)

copies_of-append : (ps qs : Parts) → copies_of (ps ++ qs) ≡ copies_of ps ++ copies_of qs
copies_of-append ps qs = flat_map-append (λ (p : List ℕ × ℕ). replicate p.1 p.0) ps qs

-- one part more
pub copies_more : (ps : Parts) (i : ℕ) (d : List ℕ × ℕ) → i < length ps → copies_of (take (i + 1) ps) ≡ copies_of (take i ps) ++ replicate (get_or ps i d).1 (get_or ps i d).0
copies_more ps i d h =
    ap copies_of (take_more ps i d h) ∙ copies_of-append (take i ps) (get_or ps i d ∷ [])
    ∙ ap (λ (ws : List (List ℕ)). copies_of (take i ps) ++ ws) (append-nil (replicate (get_or ps i d).1 (get_or ps i d).0))

-- the sides of the first parts and of the next one are some of all
pub copies_fit : (ps : Parts) (i : ℕ) (d : List ℕ × ℕ) → i < length ps → size (copies_of (take i ps)) + (get_or ps i d).1 * length (get_or ps i d).0 ≤ size (copies_of ps)
copies_fit ps i d h =
    let p : List ℕ × ℕ = get_or ps i d in
    let whole : size (copies_of ps) ≡ size (copies_of (take (i + 1) ps)) + size (copies_of (drop (i + 1) ps)) =
    ap (λ (qs : Parts). size (copies_of qs)) (sym (take-append-drop (i + 1) ps)) ∙ ap size (copies_of-append (take (i + 1) ps) (drop (i + 1) ps))
    ∙ size-append (copies_of (take (i + 1) ps)) (copies_of (drop (i + 1) ps)) in
    let first : size (copies_of (take (i + 1) ps)) ≡ size (copies_of (take i ps)) + p.1 * length p.0 =
    ap size (copies_more ps i d h) ∙ size-append (copies_of (take i ps)) (replicate p.1 p.0) ∙ ap (λ (m : ℕ). size (copies_of (take i ps)) + m) (size-replicate p.1 p.0) in
    omega (arith, whole, first)
