use Rattle.std.proofs.Common.{◌≡◌, ◌∙◌, ℤ, ap, sym, subst, length, Some, pos, true, refl, arith}
use Rattle.std.proofs.lemmas.Bool.{false≢true}
use Rattle.std.proofs.lemmas.Result.{err_from_is_err_and}
use Rattle.sc_theory.specs.Words.{IsReduced}
use Rattle.sc_text.specs.Words.{IsWordWithin, weight_and_word_fault}
use Rattle.sc_line.proofs.LineLaws.{narrowed_is}
use Rattle.sc_text.proofs.WordLaws.{spells_word, letters_of, weighted_form, weighted_is, word_of_letters, word_within_letters, letters_within, letters_nonempty, length-letters_of, spelled_back, weight_and_word_fault_weight, weight_and_word_fault_room, word_fault_unreduced}
use Rattle.sc_text.proofs.words.weighted_word.Goals as goal

pub returns-then-not-spells_word-clause-err : goal.returns-then-not-spells_word-clause-err
returns-then-not-spells_word-clause-err c z narrowed = weighted_form c.args.limits.now c.args.room z c.args.letters.now (sym c.if-not-spells_word.ensures)

pub returns-in_err-weight-clause-err : goal.returns-in_err-weight-clause-err
returns-in_err-weight-clause-err c z narrowed =
    let p = err_from_is_err_and c.from_residual.result c.from_residual.ensures.1 in
    let spells : spells_word c.args.limits.now.generators c.args.letters.now ≡ true = sym c.if-not-spells_word.ensures in
    let range = weight_and_word_fault_weight c.args.limits.now c.args.room z (letters_of c.args.letters.now) (c.in_err-weight.ensures.err.1 z narrowed) in
    rw (p.1, p.2) (weighted_is c.args.limits.now c.args.room z c.args.letters.now spells ∙ range ∙ ap Some (sym c.in_err-weight.ensures.err.0))

pub returns-then-letters-room-clause-err : goal.returns-then-letters-room-clause-err
returns-then-letters-room-clause-err c z narrowed =
    let spells : spells_word c.args.limits.now.generators c.args.letters.now ≡ true = sym c.if-not-spells_word.ensures in
    let len : length (letters_of c.args.letters.now) ≡ length c.args.letters.now = length-letters_of c.args.limits.now.generators c.args.letters.now spells in
    weighted_is c.args.limits.now c.args.room z c.args.letters.now spells ∙ weight_and_word_fault_room c.args.limits.now c.args.room z (letters_of c.args.letters.now) (omega arith)

pub returns-then-not-is_reduced-clause-err : goal.returns-then-not-is_reduced-clause-err
returns-then-not-is_reduced-clause-err c z narrowed =
    let bs = c.args.letters.now in
    let m = c.args.limits.now in
    let spells : spells_word m.generators bs ≡ true = sym c.if-not-spells_word.ensures in
    let len : length (letters_of bs) ≡ length bs = length-letters_of m.generators bs spells in
    let weight = c.in_ok-weight.ensures.ok in
    let n = c.in_ok-weight.weight in
    let word : c.from_letters-word.result ≡ letters_of bs = c.from_letters-word.ensures ∙ c.in_ok-letters_of.ensures.letters in
    let unreduced : IsReduced (letters_of bs) → ⊥ = λ reduced. false≢true (c.if-not-is_reduced.ensures.1 (subst IsReduced (sym word) reduced)) in
    let at_weight = word_fault_unreduced m c.args.room n (letters_of bs) weight.1 weight.2 (omega arith) unreduced in
    weighted_is c.args.limits.now c.args.room z bs spells ∙ ap (λ (y : ℤ). weight_and_word_fault m c.args.room y (letters_of bs)) (narrowed_is z (pos n) c.args.weight narrowed weight.0) ∙ at_weight

pub returns-clause-ok : goal.returns-clause-ok
returns-clause-ok c =
    let bs = c.args.letters.now in
    let m = c.args.limits.now in
    let spells : spells_word m.generators bs ≡ true = sym c.if-not-spells_word.ensures in
    let len : length (letters_of bs) ≡ length bs = length-letters_of m.generators bs spells in
    let weight = c.in_ok-weight.ensures.ok in
    let n = c.in_ok-weight.weight in
    let made : c.from_letters-word.result ≡ letters_of bs = c.from_letters-word.ensures ∙ c.in_ok-letters_of.ensures.letters in
    let reduced : IsReduced (letters_of bs) = subst IsReduced made (c.if-not-is_reduced.ensures.0 refl) in
    let within = word_of_letters m.generators bs spells in
    let spelling = spelled_back bs (letters_of bs) within.word in
    let in_range : IsWordWithin m (n, letters_of bs) = record {
      low = weight.1;
      high = weight.2;
      letters = letters_within m.generators bs (letters_of bs) within;
      some = letters_nonempty m.generators bs spells;
      reduced = reduced;
    } in
    rw made (weight.0, spelling.bytes, in_range, omega arith, word_within_letters m.generators bs spells)
