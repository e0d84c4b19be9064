-- The text of components, line by line.
use Rattle.std.proofs.Common.{◌≡◌, ℕ, zero, suc, ◌+◌, ◌<◌, List, [], ◌∷◌, ◌++◌, length, take, get_or, ℤ, pos, refl, ap, ap₂, sym, ◌∙◌, arith, add-one}
use Rattle.std.proofs.lemmas.List.Concat.{flat_map-append}
use Rattle.sc_line.specs.Lines.{Line, ended, text_of}
use Rattle.sc_shape.specs.declared.component.Component.{Component}
use Rattle.sc_app.specs.Shape.{component_euler, counts_line, component_line, component_lines, lines_from}

-- the line of numbers that are those of the component
pub same_line : (n : ℕ) (x : Component) (i s v e u b : ℤ) → i ≡ pos n → s ≡ pos x.sides → v ≡ pos x.vertices → e ≡ pos x.edges → u ≡ component_euler x → b ≡ pos (length x.boundaries)
    → counts_line i s v e u b ≡ component_line n x
same_line n x i s v e u b ei es ev ee eu eb = λ k. counts_line (ei k) (es k) (ev k) (ee k) (eu k) (eb k)

append_assoc : (xs ys zs : List ℕ) → (xs ++ ys) ++ zs ≡ xs ++ (ys ++ zs)
append_assoc [] ys zs = refl
append_assoc (x ∷ xs) ys zs = ap (λ (ws : List ℕ). x ∷ ws) (append_assoc xs ys zs)

append_nil : (ls : List Line) → ls ++ [] ≡ ls
append_nil [] = refl
append_nil (l ∷ ls) = ap (λ (ms : List Line). l ∷ ms) (append_nil ls)

-- the lines of one component more
one_more : (i : ℕ) (xs : List Component) (k : ℕ) (d : Component) → k < length xs
    → text_of (lines_from i (take (suc k) xs)) ≡ text_of (lines_from i (take k xs)) ++ text_of (component_lines (i + k) (get_or xs k d))
one_more i [] k d l = absurd (omega (arith, l))
one_more i (x ∷ xs) zero d l =
    let at : i ≡ i + zero = omega arith in
    ap text_of (append_nil (component_lines i x)) ∙ ap (λ (n : ℕ). text_of (component_lines n x)) at
one_more i (x ∷ xs) (suc k) d l =
    let at : suc i + k ≡ i + suc k = omega arith in
    let here : List Line = component_lines i x in
    flat_map-append ended here (lines_from (suc i) (take (suc k) xs))
    ∙ ap (λ (t : List ℕ). text_of here ++ t) (one_more (suc i) xs k d (omega (arith, l)))
    ∙ ap (λ (n : ℕ). text_of here ++ (text_of (lines_from (suc i) (take k xs)) ++ text_of (component_lines n (get_or xs k d)))) at
    ∙ sym (append_assoc (text_of here) (text_of (lines_from (suc i) (take k xs))) (text_of (component_lines (i + suc k) (get_or xs k d))))
    ∙ ap (λ (t : List ℕ). t ++ text_of (component_lines (i + suc k) (get_or xs k d))) (sym (flat_map-append ended here (lines_from (suc i) (take k xs))))

-- the lines of the next component, with its number, behind those of the components before
pub numbered_next : (xs : List Component) (k : ℕ) (x d : Component) (old new : List ℕ) → k < length xs → x ≡ get_or xs k d → old ≡ text_of (lines_from 0 (take k xs))
    → new ≡ old ++ text_of (component_lines k x) → new ≡ text_of (lines_from 0 (take (k + 1) xs))
numbered_next xs k x d old new l at before more =
    let at_zero : 0 + k ≡ k = omega arith in
    rw (add-one k)
    (more
    ∙ ap₂ (λ (t : List ℕ) (y : Component). t ++ text_of (component_lines k y)) before at
    ∙ ap (λ (n : ℕ). text_of (lines_from 0 (take k xs)) ++ text_of (component_lines n (get_or xs k d))) (sym at_zero)
    ∙ sym (one_more 0 xs k d l))
