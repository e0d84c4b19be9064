-- The text that the printers leave is the drawing.
use Rattle.std.proofs.Common.{◌≡◌, ℕ, zero, suc, pred, ◌+◌, ◌*◌, ◌<◌, nat_lt, Bool, true, false, List, [], ◌∷◌, ◌++◌, length, take, sym, ◌∙◌, ap, ap₂, refl, arith, inl, inr, add-one}
use Rattle.std.specs.List.{flat_map}
use Rattle.std.proofs.lemmas.Bool.{cases_Bool, eq-eqb}
use Rattle.std.proofs.lemmas.List.Concat.{flat_map-append}
use Rattle.sc_algebra.specs.Permutations.{IsPermutation, is_least_for}
use Rattle.sc_words.specs.Spelling.{letter_byte}
use Rattle.sc_theory.specs.Chains.{Chain, letter}
use Rattle.sc_theory.specs.Fatgraphs.{Sides, label, mate, turn, vertices}
use Rattle.sc_shape.specs.Classes.{entry}
use Rattle.sc_shape.specs.Shapes.{list_below}
use Rattle.sc_shape.specs.SideLists.{is_own}
use Rattle.sc_shape.proofs.ListsBelow.{list_passes, list_fails}
use Rattle.sc_shape.proofs.OrbitLeasts.{iterate_below}
use Rattle.sc_svg.specs.Layout.{orbit_size, order_below}
use Rattle.sc_svg.specs.Drawings.{joined, head_line, vertex_line, edge_line, letter_line, last_line, last_side, base, drawing, IsDrawing}
use Rattle.sc_svg.specs.inside.LaidOut.{AreLaidBelow, AreLeastOfOrbits}

append_assoc : (xs ys zs : List ℕ) → (xs ++ ys) ++ zs ≡ xs ++ (ys ++ zs)
append_assoc [] ys zs = refl
append_assoc (x ∷ xs) ys zs = ap (λ (ws : List ℕ). x ∷ ws) (append_assoc xs ys zs)

append_nil : (xs : List ℕ) → xs ++ [] ≡ xs
append_nil [] = refl
append_nil (x ∷ xs) = ap (λ (ys : List ℕ). x ∷ ys) (append_nil xs)

-- ---- lines of the numbers that pass a test
-- a number that passes has its lines behind those before, and one that fails has none
pub lines_pass : (f : ℕ → List ℕ) (test : ℕ → Bool) (s : ℕ) (old out out' : List ℕ) → test s ≡ true → out ≡ old ++ flat_map f (list_below test s) → out' ≡ out ++ f s → out' ≡ old ++ flat_map f (list_below test (s + 1))
lines_pass f test s old out out' e before more =
    let all : flat_map f (list_below test (s + 1)) ≡ flat_map f (list_below test s) ++ f s =
    rw (add-one, list_passes test s e) (flat_map-append f (list_below test s) (s ∷ []) ∙ ap (λ (ys : List ℕ). flat_map f (list_below test s) ++ ys) (append_nil (f s))) in
    more ∙ ap (λ (ys : List ℕ). ys ++ f s) before ∙ append_assoc old (flat_map f (list_below test s)) (f s) ∙ ap (λ (ys : List ℕ). old ++ ys) (sym all)

pub lines_fail : (f : ℕ → List ℕ) (test : ℕ → Bool) (s : ℕ) (old out : List ℕ) → test s ≡ false → out ≡ old ++ flat_map f (list_below test s) → out ≡ old ++ flat_map f (list_below test (s + 1))
lines_fail f test s old out e before = rw (add-one, list_fails test s e) before

take_more : (xs : List ℕ) (i : ℕ) → i < length xs → take (suc i) xs ≡ take i xs ++ entry xs i ∷ []
take_more [] i l = absurd (omega (arith, l))
take_more (x ∷ xs) zero l = refl
take_more (x ∷ xs) (suc i) l = ap (λ (ys : List ℕ). x ∷ ys) (take_more xs i (omega (arith, l)))

-- lines of the elements of a list
pub lines_next : (f : ℕ → List ℕ) (xs : List ℕ) (i : ℕ) (old out out' : List ℕ) → i < length xs → out ≡ old ++ flat_map f (take i xs) → out' ≡ out ++ f (entry xs i) → out' ≡ old ++ flat_map f (take (i + 1) xs)
lines_next f xs i old out out' l before more =
    let all : flat_map f (take (i + 1) xs) ≡ flat_map f (take i xs) ++ f (entry xs i) =
    rw (add-one i, take_more xs i l) (flat_map-append f (take i xs) (entry xs i ∷ []) ∙ ap (λ (ys : List ℕ). flat_map f (take i xs) ++ ys) (append_nil (f (entry xs i)))) in
    more ∙ ap (λ (ys : List ℕ). ys ++ f (entry xs i)) before ∙ append_assoc old (flat_map f (take i xs)) (f (entry xs i)) ∙ ap (λ (ys : List ℕ). old ++ ys) (sym all)

-- ---- lists and lines that are the same
list_below-congr : (test test' : ℕ → Bool) (n : ℕ) → ((s : ℕ) → s < n → test s ≡ test' s) → list_below test n ≡ list_below test' n
list_below-congr test test' zero same = refl
list_below-congr test test' (suc n) same =
    let ih = list_below-congr test test' n (λ s l. same s (omega (arith, l))) in
    elim (cases_Bool (test n)) [
      | inl e ↦ rw (list_passes test n e, list_passes test' n (sym (same n (omega arith)) ∙ e)) (ap (λ (xs : List ℕ). xs ++ n ∷ []) ih)
      | inr e ↦ rw (list_fails test n e, list_fails test' n (sym (same n (omega arith)) ∙ e)) ih
    ]

lines-congr : (f f' : ℕ → List ℕ) (test : ℕ → Bool) (n : ℕ) → ((s : ℕ) → s < n → test s ≡ true → f s ≡ f' s) → flat_map f (list_below test n) ≡ flat_map f' (list_below test n)
lines-congr f f' test zero same = refl
lines-congr f f' test (suc n) same =
    let ih = lines-congr f f' test n (λ s l. same s (omega (arith, l))) in
    elim (cases_Bool (test n)) [
      | inl e ↦
          rw (list_passes test n e, flat_map-append f (list_below test n) (n ∷ []), flat_map-append f' (list_below test n) (n ∷ []))
          (ap₂ (λ (xs ys : List ℕ). xs ++ ys) ih (ap (λ (xs : List ℕ). xs ++ []) (same n (omega arith) e)))
      | inr e ↦ rw (list_fails test n e) ih
    ]

-- ---- the whole drawing
-- the last side of a vertex is a side
pub lasts_inside : (t : ℕ → ℕ) (n : ℕ) → IsPermutation t n → (order xs lasts least : List ℕ) → AreLeastOfOrbits t n least → AreLaidBelow t n n order xs lasts → (s : ℕ) → s < n → entry least s ≡ s → entry lasts s < n
lasts_inside t n p order xs lasts least are h s l own =
    let yes_least : is_least_for t n s ≡ true = sym (are s l) ∙ eq-eqb (entry least s) s own in
    rw (h.lasts_are s l yes_least) (iterate_below t n p (pred (orbit_size t n s)) s l)

-- head, vertices, edges, letters and the last line, one behind another, are the drawing
pub drawn : (c : Chain) (g : Sides) (order xs lasts least : List ℕ) (b : ℕ) (o1 o2 o3 o4 o5 : List ℕ) → AreLeastOfOrbits (turn g) (length g) least → AreLaidBelow (turn g) (length g) (length g) order xs lasts → b ≡ base g
    → o1 ≡ head_line (20 * (length g + vertices g) + 20) (b + 24)
    → o2 ≡ o1 ++ flat_map (λ r. vertex_line (entry xs r) (entry xs (entry lasts r)) b) (list_below (is_own least) (length g))
    → o3 ≡ o2 ++ flat_map (λ s. edge_line (entry xs s) (entry xs (mate g s)) b) (list_below (λ s. nat_lt s (mate g s)) (length g))
    → o4 ≡ o3 ++ flat_map (λ s. letter_line (entry xs s) (b + 16) (letter_byte (letter c (label g s)))) order
    → o5 ≡ o4 ++ last_line
    → IsDrawing c g o5
drawn c g order xs lasts least b o1 o2 o3 o4 o5 are h eb e1 e2 e3 e4 e5 =
    let n : ℕ = length g in
    let x : ℕ → ℕ = entry xs in
    let t : ℕ → ℕ = turn g in
    let f : ℕ → List ℕ = λ r. vertex_line (x r) (x (last_side t n r)) b in
    let heads : List ℕ = head_line (20 * (n + vertices g) + 20) (b + 24) in
    let vs : List ℕ = flat_map f (list_below (is_least_for t n) n) in
    let es : List ℕ = flat_map (λ s. edge_line (x s) (x (mate g s)) b) (list_below (λ s. nat_lt s (mate g s)) n) in
    let ls : List ℕ = flat_map (λ s. letter_line (x s) (b + 16) (letter_byte (letter c (label g s)))) (order_below t n n) in
    let own : flat_map (λ r. vertex_line (x r) (x (entry lasts r)) b) (list_below (is_own least) n) ≡ vs =
    ap (λ (ys : List ℕ). flat_map (λ r. vertex_line (x r) (x (entry lasts r)) b) ys) (list_below-congr (is_own least) (is_least_for t n) n are)
    ∙ lines-congr (λ r. vertex_line (x r) (x (entry lasts r)) b) f (is_least_for t n) n (λ s l e. ap (λ (k : ℕ). vertex_line (x s) (x k) b) (h.lasts_are s l e)) in
    let letters : flat_map (λ s. letter_line (x s) (b + 16) (letter_byte (letter c (label g s)))) order ≡ ls =
    ap (λ (ys : List ℕ). flat_map (λ s. letter_line (x s) (b + 16) (letter_byte (letter c (label g s)))) ys) h.order_is in
    let two : o2 ≡ heads ++ vs = e2 ∙ ap₂ (λ (ys zs : List ℕ). ys ++ zs) e1 own in
    let five : o5 ≡ (((heads ++ vs) ++ es) ++ ls) ++ last_line =
    e5 ∙ ap (λ (ys : List ℕ). ys ++ last_line) (e4 ∙ ap₂ (λ (ys zs : List ℕ). ys ++ zs) (e3 ∙ ap (λ (ys : List ℕ). ys ++ es) two) letters) in
    let right : o5 ≡ heads ++ (vs ++ (es ++ (ls ++ (last_line ++ [])))) =
    five
    ∙ append_assoc ((heads ++ vs) ++ es) ls last_line
    ∙ append_assoc (heads ++ vs) es (ls ++ last_line)
    ∙ append_assoc heads vs (es ++ (ls ++ last_line))
    ∙ ap (λ (ys : List ℕ). heads ++ (vs ++ (es ++ (ls ++ ys)))) (sym (append_nil last_line)) in
    let whole : heads ++ (vs ++ (es ++ (ls ++ (last_line ++ [])))) ≡ drawing c g x =
    ap (λ (k : ℕ). joined (head_line (20 * (n + vertices g) + 20) (k + 24)
    ∷ flat_map (λ r. vertex_line (x r) (x (last_side t n r)) k) (list_below (is_least_for t n) n)
    ∷ flat_map (λ s. edge_line (x s) (x (mate g s)) k) (list_below (λ s. nat_lt s (mate g s)) n)
    ∷ flat_map (λ s. letter_line (x s) (k + 16) (letter_byte (letter c (label g s)))) (order_below t n n)
    ∷ last_line
    ∷ [])) eb in
    record { x = x; laid_out = λ r i l e b'. h.placed r i l e b'; text = right ∙ whole }

-- the same, of lists that are known by equations
pub drawn_from : (c c' : Chain) (g g' : Sides) (order xs lasts least : List ℕ) (w b : ℕ) (o0 o1 o2 o3 o4 o5 : List ℕ) → AreLeastOfOrbits (turn g) (length g) least → AreLaidBelow (turn g) (length g) (length g) order xs lasts → c' ≡ c → g' ≡ g → length least ≡ length g → w ≡ 20 * (length g + vertices g) + 20 → b ≡ base g → o0 ≡ []
    → o1 ≡ o0 ++ head_line w (b + 24)
    → o2 ≡ o1 ++ flat_map (λ r. vertex_line (entry xs r) (entry xs (entry lasts r)) b) (list_below (is_own least) (length least))
    → o3 ≡ o2 ++ flat_map (λ s. edge_line (entry xs s) (entry xs (mate g' s)) b) (list_below (λ s. nat_lt s (mate g' s)) (length g'))
    → o4 ≡ o3 ++ flat_map (λ s. letter_line (entry xs s) (b + 16) (letter_byte (letter c' (label g' s)))) order
    → o5 ≡ o4 ++ last_line
    → IsDrawing c g o5
drawn_from c c' g g' order xs lasts least w b o0 o1 o2 o3 o4 o5 are h ec eg size ew eb e0 e1 e2 e3 e4 e5 =
    drawn c g order xs lasts least b o1 o2 o3 o4 o5 are h eb
    (e1 ∙ ap₂ (λ (ys : List ℕ) (k : ℕ). ys ++ head_line k (b + 24)) e0 ew)
    (e2 ∙ ap (λ (k : ℕ). o1 ++ flat_map (λ r. vertex_line (entry xs r) (entry xs (entry lasts r)) b) (list_below (is_own least) k)) size)
    (e3 ∙ ap (λ (f : Sides). o2 ++ flat_map (λ s. edge_line (entry xs s) (entry xs (mate f s)) b) (list_below (λ s. nat_lt s (mate f s)) (length f))) eg)
    (e4 ∙ ap₂ (λ (d : Chain) (f : Sides). o3 ++ flat_map (λ s. letter_line (entry xs s) (b + 16) (letter_byte (letter d (label f s)))) order) ec eg)
    e5
