-- A chain text has one list of lines, one first malformed line where it has any, and one first unbalanced generator.
use Rattle.std.proofs.Common.{◌≡◌, ℕ, List, ℤ, IsSome, is_some, None, Some, Option, inl, inr, ap, ap₂, ◌∙◌, subst, sym, arith}
use Rattle.std.proofs.lemmas.Bool.{cases_lt, false≢true}
use Rattle.sc_theory.specs.Chains.{Chain}
use Rattle.sc_line.specs.declared.fault.Kind.{Kind}
use Rattle.sc_words.specs.declared.lines.RawLine.{RawLine}
use Rattle.sc_words.specs.ChainText.{IsChainText, IsFirstMalformed, line_case, line_at, line_kind}
use Rattle.sc_chain.specs.Balance.{IsFirstUnbalanced}
use Rattle.sc_app.specs.Scl.{infinite}
use Rattle.sc_app.specs.declared.status.Status.TheVariants.{Malformed}

some_or_none : {A : Type 0} (o : Option A) → IsSome o → o ≡ None → ⊥
some_or_none None some none = false≢true some
some_or_none (Some x) some none = false≢true (sym (ap is_some none))

no_case : (input : List ℕ) (n : ℕ) → IsSome (line_case (line_at input n)) → line_case (line_at input n) ≡ None → ⊥
no_case input n = some_or_none (line_case (line_at input n))

-- a text has one first malformed line, of one kind
pub one_malformed : (input : List ℕ) (l m : ℕ) (j k : Kind) → IsFirstMalformed input l j → IsFirstMalformed input m k → Malformed l j ≡ Malformed m k
one_malformed input l m j k a b =
    elim (cases_lt l m) [
      | inl less ↦ absurd (no_case input l (b.before l a.counted less) a.no_case)
      | inr others ↦ elim (cases_lt m l) [
        | inl less ↦ absurd (no_case input m (a.before m b.counted less) b.no_case)
        | inr same ↦
            let lines : l ≡ m = omega arith in
            ap₂ Malformed lines (a.kind_is ∙ ap (λ (i : ℕ). line_kind (line_at input i)) lines ∙ sym b.kind_is)
      ]
    ]

-- a chain text has no first malformed line
pub good_or_malformed : (input : List ℕ) (lines : List RawLine) (n : ℕ) (kind : Kind) → IsChainText input lines → IsFirstMalformed input n kind → ⊥
good_or_malformed input lines n kind a b = no_case input n (a.cases n b.counted b.in_text) b.no_case

-- a chain text is one of one list of lines
pub same_lines : (input : List ℕ) (lines lines' : List RawLine) → IsChainText input lines → IsChainText input lines' → lines ≡ lines'
same_lines input lines lines' a b = a.entries ∙ sym b.entries

same_generator : (c : Chain) (g h : ℕ) (t u : ℤ) → IsFirstUnbalanced c g t → IsFirstUnbalanced c h u → g ≡ h
same_generator c g h t u a b =
    elim (cases_lt g h) [
      | inl less ↦ absurd (a.unbalanced (a.total_is ∙ b.least g less))
      | inr others ↦ elim (cases_lt h g) [
        | inl less ↦ absurd (b.unbalanced (b.total_is ∙ a.least h less))
        | inr same ↦ omega arith
      ]
    ]

-- a chain has one first unbalanced generator with one total
pub same_unbalanced : (c : Chain) (g h : ℕ) (t u : ℤ) → IsFirstUnbalanced c g t → IsFirstUnbalanced c h u → (g ≡ h) × (t ≡ u)
same_unbalanced c g h t u a b =
    let same : g ≡ h = same_generator c g h t u a b in
    (same, (subst (λ (k : ℕ). IsFirstUnbalanced c k t) same a).total_is ∙ sym b.total_is)

-- so the line for it is one
pub same_infinite : (c : Chain) (g h : ℕ) (t u : ℤ) → IsFirstUnbalanced c g t → IsFirstUnbalanced c h u → infinite g t ≡ infinite h u
same_infinite c g h t u a b =
    let same : g ≡ h = same_generator c g h t u a b in
    ap₂ infinite same ((subst (λ (k : ℕ). IsFirstUnbalanced c k t) same a).total_is ∙ sym b.total_is)
