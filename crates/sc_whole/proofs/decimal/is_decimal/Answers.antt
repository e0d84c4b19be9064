use Rattle.std.proofs.Common.{◌≡◌, ◌≢◌, ℕ, ◌-◌, inl, inr, List, length, get_or, take, drop, arith, sym, ◌∙◌, true≢false}
use Rattle.std.proofs.lemmas.Bool.Decides.{Decides-eqb}
use Rattle.std.proofs.lemmas.Slice.Eq.{slice_eq-Decides}
use Rattle.std.proofs.lemmas.Grind.{common_steps}
use Rattle.sc_whole.proofs.SpellingLaws.{negative_spellings, natural_spellings}
use Rattle.sc_whole.proofs.decimal.is_decimal.Goals as goal

after_first : (bs : List ℕ) → take (length bs - 1) (drop 1 bs) ≡ drop 1 bs
after_first bs = grind (arith, common_steps)

pub returns-then-begins_with : goal.returns-then-begins_with
returns-then-begins_with c =
    let minus : get_or c.args.text.now 0 0 ≡ 45 = grind arith in
    let same = negative_spellings c.args.text.now minus in
    let rest = after_first c.args.text.now in (
      λ h. let size = c.is_positive_decimal.ensures.0 h in same.0 (size.0, size.1, sym rest ∙ size.2),
      λ h. let size = same.1 h in c.is_positive_decimal.ensures.1 (size.0, size.1, rest ∙ size.2),
    )

pub returns-then-eq : goal.returns-then-eq
returns-then-eq c =
    let plain : get_or c.args.text.now 0 0 ≢ 45 = grind arith in
    let same = natural_spellings c.args.text.now plain in
    let zero = slice_eq-Decides Decides-eqb c.args.text.now c.as_slice.result.now c.eq.result c.eq.ensures in
    (λ h. same.0 (inl (zero.0 h ∙ c.as_slice.ensures)), λ h. c.if-eq.true)

pub returns-else-eq : goal.returns-else-eq
returns-else-eq c =
    let plain : get_or c.args.text.now 0 0 ≢ 45 = grind arith in
    let same = natural_spellings c.args.text.now plain in
    let zero = slice_eq-Decides Decides-eqb c.args.text.now c.as_slice.result.now c.eq.result c.eq.ensures in (
      λ h. same.0 (inr (c.is_positive_decimal-else-eq.ensures.0 h)),
      λ h. elim (same.1 h) [
        | inl e ↦ absurd (true≢false (sym (zero.1 (e ∙ sym c.as_slice.ensures)) ∙ c.if-eq.false))
        | inr p ↦ c.is_positive_decimal-else-eq.ensures.1 p
      ],
    )
