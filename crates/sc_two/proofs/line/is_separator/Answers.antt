use Rattle.std.proofs.Common.{◌≡◌, ◌≢◌, ◌⊎◌, true, false, List, ℕ, take, get_or, length, sym, ◌∙◌, ap, inl, inr, rules, arith}
use Rattle.std.proofs.Math.Seq.{take-length}
use Rattle.sc_words.specs.ChainText.{is_blank, fields}
use Rattle.sc_two.specs.TwoTexts.{is_slash}
use Rattle.sc_two.proofs.Slashes.{bare, slash_is_lone, lone_at_end, other_byte}
use Rattle.sc_two.proofs.line.is_separator.Goals as goal
use Rattle.sc_two.proofs.line.is_separator.Goals.{else-byte-eq47-via-then-byte-eq47+else-not-found, else-byte-eq47-via-else-byte-eq47}

pub returns-then-not-is_blank : goal.returns-then-not-is_blank
returns-then-not-is_blank c =
    let line : List ℕ = c.without_carriage_return-line.result.now in
    let other : is_blank (get_or line c.loop-byte.byte-index 0) ≡ false = search rules in
    let not_lone : (c.loop-byte.found ≡ true) ⊎ (get_or line c.loop-byte.byte-index 0 ≢ 47) =
    elim c.else-byte-eq47.either [
      | inl both ↦ inl both.1
      | inr ne ↦ inr ne
    ] in
    sym (ap (λ (bs : List ℕ). is_slash (fields bs)) (sym c.without_carriage_return-line.ensures) ∙ slash_is_lone line
    ∙ other_byte line c.loop-byte.byte-index c.loop-byte.found (search rules) c.loop-byte.invariant other not_lone)

pub returns : goal.returns
returns c =
    let line : List ℕ = c.without_carriage_return-line.result.now in
    let end : c.loop-byte.byte-index ≡ length line = omega (arith, c.loop-byte.auto.byte-index-end, c.loop-byte-test.false) in
    let all : take c.loop-byte.byte-index line ≡ line = ap (λ (n : ℕ). take n line) end ∙ take-length line in
    sym (ap (λ (bs : List ℕ). is_slash (fields bs)) (sym c.without_carriage_return-line.ensures) ∙ slash_is_lone line
    ∙ lone_at_end c.loop-byte.found (bare line) (ap bare (sym all) ∙ c.loop-byte.invariant))
