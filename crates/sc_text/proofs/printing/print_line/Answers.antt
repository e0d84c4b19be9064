use Rattle.std.proofs.Common.{◌≡◌, ◌∙◌, ◌+◌, ◌++◌, ℕ, List, [], ◌∷◌, take, drop, sym, ap, subst, append_assoc, arith}
use Rattle.std.specs.List.{flat_map}
use Rattle.std.proofs.lemmas.List.{take_all}
use Rattle.sc_line.specs.Lines.{spaced, ended}
use Rattle.sc_text.specs.Printing.{fields_of}
use Rattle.sc_text.specs.inside.Printing.{field_bytes}
use Rattle.sc_line.proofs.PrintLaws.{part_after, pieces_at, stopped, then_all, on_err}
use Rattle.sc_text.proofs.PieceLaws.{line_pieces}
use Rattle.sc_text.proofs.printing.print_line.Goals as goal

pub returns-in_err-print_field-clause-err : goal.returns-in_err-print_field-clause-err
returns-in_err-print_field-clause-err c =
    let i = c.loop-field.field-index in
    let name = c.args.name.now in
    let fields = c.args.fields.now in
    let before : List ℕ = flat_map field_bytes (take i fields) in
    let after : List ℕ = flat_map field_bytes (drop (i + 1) fields) in
    let piece : List ℕ = field_bytes c.field-item.result in
    let pieces : flat_map field_bytes fields ≡ before ++ (piece ++ after) =
    subst (λ f. flat_map field_bytes fields ≡ before ++ (field_bytes f ++ after)) (sym c.field-item.is) (pieces_at field_bytes fields i c.field-item.result c.loop-field-test.true) in
    let whole : ended (spaced (name ∷ flat_map fields_of fields)) ≡ (name ++ before) ++ (piece ++ (after ++ 10 ∷ [])) =
    line_pieces name fields ∙ ap (λ (t : List ℕ). name ++ (t ++ 10 ∷ [])) pieces ∙ simp append_assoc in
    on_err _ (part_after _ c.loop-field.out.items _ _ _ _ _ c.loop-field.invariant c.in_err-print_field.ensures.err whole)

pub returns-in_err-push-clause-err : goal.returns-in_err-push-clause-err
returns-in_err-push-clause-err c =
    let i = c.loop-field.field-index in
    let name = c.args.name.now in
    let fields = c.args.fields.now in
    let all : take i fields ≡ fields = take_all i fields (omega (arith, c.loop-field-test.false)) in
    let whole : ended (spaced (name ∷ flat_map fields_of fields)) ≡ (name ++ flat_map field_bytes (take i fields)) ++ 10 ∷ [] =
    line_pieces name fields ∙ sym (append_assoc name (flat_map field_bytes fields) (10 ∷ [])) ∙ ap (λ fs. (name ++ flat_map field_bytes fs) ++ 10 ∷ []) (sym all) in
    on_err _ (stopped _ c.loop-field.out.items _ _ _ _ c.loop-field.invariant c.in_err-push.ensures.items whole)

pub returns-clause-ok : goal.returns-clause-ok
returns-clause-ok c =
    let i = c.loop-field.field-index in
    let old = c.args.out.now.items in
    let name = c.args.name.now in
    let fields = c.args.fields.now in
    let all : take i fields ≡ fields = take_all i fields (omega (arith, c.loop-field-test.false)) in
    let whole : ended (spaced (name ∷ flat_map fields_of fields)) ≡ (name ++ flat_map field_bytes (take i fields)) ++ 10 ∷ [] =
    line_pieces name fields ∙ sym (append_assoc name (flat_map field_bytes fields) (10 ∷ [])) ∙ ap (λ fs. (name ++ flat_map field_bytes fs) ++ 10 ∷ []) (sym all) in
    then_all old c.loop-field.out.items _ (name ++ flat_map field_bytes (take i fields)) (10 ∷ []) c.loop-field.invariant c.in_ok-push.ensures.items
    ∙ ap (λ (t : List ℕ). old ++ t) (sym whole)
