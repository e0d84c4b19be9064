use Rattle.std.proofs.Common.{◌≡◌, ℕ, List, [], ◌∷◌, ◌++◌, ◌+◌, ℤ, sym, ◌∙◌, ap, subst, arith, inl}
use Rattle.std.proofs.lemmas.Int.{ints}
use Rattle.std.specs.List.{filter_map}
use mir.Val.{to_z, of_z}
use mir.Syntax.{w32}
use Rattle.sc_theory.specs.declared.Letter.{Letter}
use Rattle.sc_words.specs.Spelling.{letter_of}
use Rattle.sc_words.specs.declared.lines.RawLine.{RawLine}
use Rattle.sc_words.specs.ChainText.{IsFirstMalformed}
use Rattle.sc_words.proofs.ReadingLaws.{IsReading, IsNext, lines_le, next, after_nothing, after_entry, at_malformed, at_end, good_or_malformed, malformed_same}
use Rattle.sc_words.proofs.lines.read_lines.Goals as goal

pub overflow_add-line : goal.overflow_add-line
overflow_add-line c =
    let at : IsNext c.args.bytes.now c.next.new.self.rest.now c.loop-text.line c.in-Some.text.now =
    next c.args.bytes.now c.loop-text.text-iterator.rest.now c.next.new.self.rest.now c.loop-text.line c.loop-text.read.items c.in-Some.text.now c.loop-text.invariant.2 c.in-Some.ensures.steps in
    omega (arith, at.inside, lines_le c.args.bytes.now)

pub loop-text-preserved-in-Ok-None : goal.loop-text-preserved-in-Ok-None
loop-text-preserved-in-Ok-None c = (
  tt,
  tt,
  after_nothing c.args.bytes.now c.loop-text.text-iterator.rest.now c.next.new.self.rest.now c.loop-text.line c.loop-text.read.items c.in-Some.text.now c.loop-text.invariant.2 c.in-Some.ensures.steps
      (rw c.in-Ok-None.field-0-is at c.in-Ok-None.ensures),
)

pub loop-text-preserved : goal.loop-text-preserved
loop-text-preserved c =
    let fit : to_z w32 (of_z w32 c.in-Ok-Some.coefficient) ≡ c.in-Ok-Some.coefficient = omega (arith, ints) in
    let word : c.from_letters.result ≡ filter_map letter_of c.in-Ok-Some.letters.now = c.from_letters.ensures ∙ c.in_ok-letters_of-in-Ok-Some.ensures.letters in
    let number : ℕ = c.loop-text.line + 1 in
    let pushed : c.loop-text.read.items ++ record { line = number; coefficient = c.in-Ok-Some.coefficient; word = filter_map letter_of c.in-Ok-Some.letters.now } ∷ [] ≡ c.push.new.self.items =
    ap (λ (z : ℤ). c.loop-text.read.items ++ record { line = number; coefficient = z; word = filter_map letter_of c.in-Ok-Some.letters.now } ∷ []) (sym fit)
    ∙ ap (λ (w : List Letter). c.loop-text.read.items ++ record { line = number; coefficient = to_z w32 (of_z w32 c.in-Ok-Some.coefficient); word = w } ∷ []) (sym word)
    ∙ sym c.in_ok-push-in-Ok-Some.ensures.items in (
      tt,
      tt,
      subst (λ (read : List RawLine). IsReading c.args.bytes.now c.next.new.self.rest.now number read) pushed
          (after_entry c.args.bytes.now c.loop-text.text-iterator.rest.now c.next.new.self.rest.now c.loop-text.line c.loop-text.read.items c.in-Some.text.now c.in-Ok-Some.coefficient (filter_map letter_of c.in-Ok-Some.letters.now)
          c.loop-text.invariant.2 c.in-Some.ensures.steps (rw c.in-Ok-Some.field-0-is at c.in-Ok-Some.ensures)),
    )

pub returns-in-Err-clause-malformed : goal.returns-in-Err-clause-malformed
returns-in-Err-clause-malformed c =
    let first : IsFirstMalformed c.args.bytes.now (c.loop-text.line + 1) c.in-Err.kind =
    at_malformed c.args.bytes.now c.loop-text.text-iterator.rest.now c.next.new.self.rest.now c.loop-text.line c.loop-text.read.items c.in-Some.text.now c.in-Err.kind c.loop-text.invariant.2 c.in-Some.ensures.steps c.in-Err.ensures.0 c.in-Err.ensures.1 in
    λ line kind e.
    (let line_is : c.loop-text.line + 1 ≡ line = cc in
    let kind_is : c.in-Err.kind ≡ kind = cc in
    subst (λ (n : ℕ). IsFirstMalformed c.args.bytes.now n kind) line_is (subst (IsFirstMalformed c.args.bytes.now (c.loop-text.line + 1)) kind_is first))

pub returns-in-Err-clause-refused : goal.returns-in-Err-clause-refused
returns-in-Err-clause-refused c =
    let first : IsFirstMalformed c.args.bytes.now (c.loop-text.line + 1) c.in-Err.kind =
    at_malformed c.args.bytes.now c.loop-text.text-iterator.rest.now c.next.new.self.rest.now c.loop-text.line c.loop-text.read.items c.in-Some.text.now c.in-Err.kind c.loop-text.invariant.2 c.in-Some.ensures.steps c.in-Err.ensures.0 c.in-Err.ensures.1 in
    λ line kind m.
    (let both = malformed_same c.args.bytes.now (c.loop-text.line + 1) line c.in-Err.kind kind first m in
    let line_is : c.loop-text.line + 1 ≡ line = both.0 in
    let kind_is : c.in-Err.kind ≡ kind = both.1 in
    inl (cc))

pub returns-clause-ok : goal.returns-clause-ok
returns-clause-ok c = at_end c.args.bytes.now c.loop-text.text-iterator.rest.now c.loop-text.line c.loop-text.read.items c.loop-text.invariant.2 c.in-None.ensures.steps.0

pub returns-clause-refused : goal.returns-clause-refused
returns-clause-refused c = λ line kind m.
    absurd (good_or_malformed c.args.bytes.now c.loop-text.read.items line kind
    (at_end c.args.bytes.now c.loop-text.text-iterator.rest.now c.loop-text.line c.loop-text.read.items c.loop-text.invariant.2 c.in-None.ensures.steps.0) m)
