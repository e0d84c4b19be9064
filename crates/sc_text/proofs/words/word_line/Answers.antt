use Rattle.std.proofs.Common.{◌≡◌, ◌≤◌, ◌∙◌, ap, sym, subst, [], ◌∷◌, length, Option, Some, ℤ, pos, codes}
use Rattle.std.proofs.lemmas.Result.{IfOk-weaker, IfErr-weaker}
use Rattle.sc_line.specs.declared.fault.Kind.{Kind}
use Rattle.sc_line.specs.declared.fault.LineFault.{LineFault}
use Rattle.sc_whole.specs.Spelling.{spelling}
use Rattle.sc_line.specs.Lines.{fields}
use Rattle.sc_text.specs.Words.{spelled, word_within, word_fault, IsWordWithin, word_fields_fault, weighted_word_fault}
use Rattle.sc_line.specs.LineFaults.{IsFault}
use Rattle.sc_line.proofs.LineLaws.{taken_is, line_from_fields, named_is}
use Rattle.sc_text.proofs.KindLaws.{tells_word}
use Rattle.sc_text.proofs.words.word_line.Goals as goal

pub returns-clause-ok : goal.returns-clause-ok
returns-clause-ok c =
    IfOk-weaker _ _ _
    (λ w (h : (c.in_ok-weight.weight ≡ Some (pos w.0)) × (spelled w.1 ≡ c.in-Some.letters.now) × IsWordWithin c.args.limits.now w × (length w.1 ≤ c.args.room) × (word_within c.args.limits.now.generators c.in-Some.letters.now ≡ Some w.1)).
    let weight = taken_is _ _ _ (pos w.0) c.in_ok-weight.ensures.ok h.0 in
    let all : fields c.args.line.now ≡ codes "word" ∷ spelling (pos w.0) ∷ spelled w.1 ∷ [] =
    cc (c.of-fields.ensures, c.in_ok-name.ensures.ok, weight, c.in-Some.ensures.some, c.in_ok-end.ensures.ok, h.1) in
    (line_from_fields c.args.line.now _ all, h.2, h.3))
    c.weighted_word.ensures.ok

pub returns-clause-tells : goal.returns-clause-tells
returns-clause-tells c =
    IfOk-weaker _ _ _
    (λ w (h : (c.in_ok-weight.weight ≡ Some (pos w.0)) × (spelled w.1 ≡ c.in-Some.letters.now) × IsWordWithin c.args.limits.now w × (length w.1 ≤ c.args.room) × (word_within c.args.limits.now.generators c.in-Some.letters.now ≡ Some w.1)).
    let weight = taken_is _ _ _ (pos w.0) c.in_ok-weight.ensures.ok h.0 in
    let all : fields c.args.line.now ≡ codes "word" ∷ spelling (pos w.0) ∷ c.in-Some.letters.now ∷ [] =
    cc (c.of-fields.ensures, c.in_ok-name.ensures.ok, weight, c.in-Some.ensures.some, c.in_ok-end.ensures.ok) in
    tells_word c.args.limits.now c.args.room c.args.line.now w c.in-Some.letters.now all h.2 h.3 h.4)
    c.weighted_word.ensures.ok

pub returns-clause-err : goal.returns-clause-err
returns-clause-err c =
    let m = c.args.limits.now in
    let weight = c.in_ok-weight.ensures.ok in
    let all : fields c.args.line.now ≡ codes "word" ∷ weight.field ∷ c.in-Some.letters.now ∷ [] =
    cc (c.of-fields.ensures, c.in_ok-name.ensures.ok, weight.taken, c.in-Some.ensures.some, c.in_ok-end.ensures.ok) in
    let named = named_is (codes "word") (word_fields_fault m c.args.room) c.args.line.now _ all in
    let read : word_fault m c.args.room c.args.line.now ≡ weighted_word_fault m c.args.room (Some weight.value) (word_within m.generators c.in-Some.letters.now) =
    named ∙ ap (λ (o : Option ℤ). weighted_word_fault m c.args.room o (word_within m.generators c.in-Some.letters.now)) weight.spells in
    IfErr-weaker _ _ _
    (λ (e : LineFault) (h : IsFault (weighted_word_fault m c.args.room (Some weight.value) (word_within m.generators c.in-Some.letters.now)) e).
    subst (λ (fault : Option Kind). IsFault fault e) (sym read) h)
    (c.weighted_word.ensures.err weight.value weight.narrowed)
