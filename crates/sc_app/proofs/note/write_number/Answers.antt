use Rattle.std.proofs.Common.{◌≡◌, ◌^◌, ◌<◌, List, ℕ, Option, Some, decimal, OnOk, OnErr, arith, ap, sym, ◌∙◌, subst}
use Rattle.sc_outside.specs.Told.{Took, TookPart}
use Rattle.sc_whole.proofs.SpellingLaws.{decimal_is_spelling}
use Rattle.sc_app.specs.Notes.{number_text}
use Rattle.sc_app.proofs.note.write_number.Goals as goal

-- what is written is the number's text
written : (number : Option ℕ) (n : ℕ) (bytes text : List ℕ) → number ≡ Some n → n < 2 ^ 32 → bytes ≡ text → text ≡ decimal n → bytes ≡ number_text number
written number n bytes text is small same shown =
    let wide : n < 10 ^ 64 = omega arith in
    same ∙ shown ∙ decimal_is_spelling n wide ∙ sym (ap number_text is)

pub returns-in-Some-clause-all : goal.returns-in-Some-clause-all
returns-in-Some-clause-all g c =
    let text = written c.args.number c.in-Some.number _ _ c.in-Some.is (omega arith) c.as_bytes.ensures.value c.format.ensures.text in
    subst (λ (bytes : List ℕ). OnOk c.write_all-in-Some.result (Took (g.E.Sink.taken c.args.notes.now) (g.E.Sink.taken c.write_all-in-Some.new.sink) bytes)) text c.write_all-in-Some.ensures.all

pub returns-in-Some-clause-part : goal.returns-in-Some-clause-part
returns-in-Some-clause-part g c =
    let text = written c.args.number c.in-Some.number _ _ c.in-Some.is (omega arith) c.as_bytes.ensures.value c.format.ensures.text in
    subst (λ (bytes : List ℕ). OnErr c.write_all-in-Some.result (TookPart (g.E.Sink.taken c.args.notes.now) (g.E.Sink.taken c.write_all-in-Some.new.sink) bytes)) text c.write_all-in-Some.ensures.part
