-- What the texts of commands show: those of `check` and of `scl` that a surface is least, or that of `scl` an
-- unbalanced generator, or why `scl` found no least surface.
use Rattle.std.proofs.Common.{ℕ, ◌⊎◌, inl, inr, List, Option, None, Some, IfSome, pos, ◌<ℤ◌, sym, subst, ◌∙◌, arith}
use Rattle.std.proofs.lemmas.Int.{ints}
use Rattle.sc_theory.specs.Chains.{Chain}
use Rattle.sc_theory.specs.Fatgraphs.{IsFatgraph, IsLeast}
use Rattle.sc_theory.proofs.Vouching.{covers}
use Rattle.sc_theory.proofs.Leastness as leastness
use Rattle.sc_certificate.specs.Certificates.{Certificate, IsCertificateInRange}
use Rattle.sc_prices.specs.Conditions.{AllHold}
use Rattle.sc_solve.specs.Solutions.{certificate_of}
use Rattle.sc_words.specs.declared.lines.RawLine.{RawLine}
use Rattle.sc_words.specs.ChainText.{IsChainText}
use Rattle.sc_reduce.specs.Lines.{chain_of, IsWithin}
use Rattle.sc_reduce.proofs.LineLaws.{chain_total-chain_of}
use Rattle.sc_outside.specs.Told.{Took}
use Rattle.sc_app.specs.declared.command.Command.TheVariants.{Check, Scl, Ball}
use Rattle.sc_app.specs.declared.status.Status.{Status}
use Rattle.sc_app.specs.declared.status.Status.TheVariants.{Done, Budget, Wide, Sides}
use Rattle.sc_app.specs.Check.{CheckResponds, ShowsLeast}
use Rattle.sc_app.specs.Ball.{OfItsChains, DoneFor, IsStopped}
use Rattle.sc_app.specs.Scl.{IsInfinite, IsSolved, IsOverBudget, IsTooWide, HasTooManySides, ShowsInfinite, ShowsExtremal, ShowsScl, OfItsChain}
use Rattle.sc_app.specs.Answers.{AnswersTo, Delivers}
use Rattle.sc_app.proofs.Ranges.{chain_in_range}

-- a certificate whose conditions all hold has a fatgraph that is least
least_of : (v : Certificate) → IsCertificateInRange v → AllHold v → IsLeast v.chain v.copies v.sides
least_of v range h =
    let above : pos 0 <ℤ v.list.scale = omega (arith, ints, range.list.scale.low) in
    leastness.least v.chain v.list v.copies v.sides (chain_in_range v.chain range.chain) above (covers v.chain v.list v.tables above h.tables) h.fatgraph h.tight

shows_least : (input text : List ℕ) → CheckResponds input Done text → ShowsLeast input text
shows_least input text r = record {
  certificate = r.0;
  read = r.1;
  fatgraph = r.2.fatgraph;
  least = least_of r.0 r.1.in_range r.2;
  value = r.2.value;
  line = r.3;
}

-- ---- `scl`

shows_infinite : (input text : List ℕ) (lines : List RawLine) → IsChainText input lines → IsWithin (chain_of lines) → IsInfinite (chain_of lines) text → ShowsInfinite input text
shows_infinite input text lines read within i = record {
  lines = lines;
  read = read;
  within = within;
  generator = i.generator;
  total = i.total;
  in_range = i.first.in_range;
  total_is = i.first.total_is ∙ chain_total-chain_of i.generator lines;
  unbalanced = i.first.unbalanced;
  least = λ h less. sym (chain_total-chain_of h lines) ∙ i.first.least h less;
  line = i.text_is;
}

shows_extremal : (n : ℕ) (input text : List ℕ) (lines : List RawLine) → IsChainText input lines → IsWithin (chain_of lines) → IsSolved (chain_of lines) n text → ShowsExtremal input text
shows_extremal n input text lines read within s =
    let v : Certificate = certificate_of s.solution in
    record {
      lines = lines;
      read = read;
      within = within;
      balanced = λ g. sym (chain_total-chain_of g lines) ∙ s.balanced g;
      certificate = v;
      text_is = s.text_is;
      over = s.over;
      fatgraph = subst (λ (c : Chain). IsFatgraph c v.copies v.sides) s.over s.conditions.fatgraph;
      value = s.conditions.value;
      least = subst (λ (c : Chain). IsLeast c v.copies v.sides) s.over (least_of v s.in_range s.conditions);
    }

shows_scl : (n : ℕ) (input text : List ℕ) → OfItsChain input (λ c. IsInfinite c text ⊎ IsSolved c n text) → ShowsScl input text
shows_scl n input text (lines, read, within, inl i) = inl (shows_infinite input text lines read within i)
shows_scl n input text (lines, read, within, inr s) = inr (shows_extremal n input text lines read within s)

-- the statuses of what stops a solver
abbrev IsStop : Status → Type 0
IsStop Budget = Unit {0}
IsStop Wide = Unit {0}
IsStop Sides = Unit {0}
IsStop _ = ⊥

least_answer : (input text : List ℕ) → AnswersTo Check input Done text → ShowsLeast input text
least_answer input text (inl a) = absurd (cc a.1)
least_answer input text (inr a) = shows_least input text a.1

-- an answer that isn't for want of room for the input
done_answer : (n : ℕ) (input text : List ℕ) → AnswersTo (Scl n) input Done text → OfItsChain input (λ c. IsInfinite c text ⊎ IsSolved c n text)
done_answer n input text (inl a) = absurd (cc a.1)
done_answer n input text (inr a) = a.1

budget_answer : (n : ℕ) (input text : List ℕ) → AnswersTo (Scl n) input Budget text → OfItsChain input (λ c. IsOverBudget c n text)
budget_answer n input text (inl a) = absurd (cc a.1)
budget_answer n input text (inr a) = a.1

wide_answer : (n : ℕ) (input text : List ℕ) → AnswersTo (Scl n) input Wide text → OfItsChain input (λ c. IsTooWide c n text)
wide_answer n input text (inl a) = absurd (cc a.1)
wide_answer n input text (inr a) = a.1

sides_answer : (n : ℕ) (input text : List ℕ) → AnswersTo (Scl n) input Sides text → OfItsChain input (λ c. HasTooManySides c n text)
sides_answer n input text (inl a) = absurd (cc a.1)
sides_answer n input text (inr a) = a.1

-- where `check` ends with `Done`, the text that `out` took shows that the surface is least
pub least : (left old new : Option (List ℕ)) → Delivers Check left old new Done → IfSome left (λ input. (text : List ℕ) × ShowsLeast input text × Took old new text)
least None old new d = tt
least (Some input) old new d = (d.0, least_answer input d.0 d.1, d.2)

-- where `scl` ends with `Done`, the text that `out` took shows the stable commutator length of the chain
pub headline : (n : ℕ) (left old new : Option (List ℕ)) → Delivers (Scl n) left old new Done → IfSome left (λ input. (text : List ℕ) × ShowsScl input text × Took old new text)
headline n None old new d = tt
headline n (Some input) old new d = (d.0, shows_scl n input d.0 (done_answer n input d.0 d.1), d.2)

-- it tells an unbalanced generator, or a solution within the pivots
pub solved : (n : ℕ) (left old new : Option (List ℕ)) → Delivers (Scl n) left old new Done
    → IfSome left (λ input. (text : List ℕ) × OfItsChain input (λ c. IsInfinite c text ⊎ IsSolved c n text) × Took old new text)
solved n None old new d = tt
solved n (Some input) old new d = (d.0, done_answer n input d.0 d.1, d.2)

pub over_budget : (n : ℕ) (left old new : Option (List ℕ)) → Delivers (Scl n) left old new Budget
    → IfSome left (λ input. (text : List ℕ) × OfItsChain input (λ c. IsOverBudget c n text) × Took old new text)
over_budget n None old new d = tt
over_budget n (Some input) old new d = (d.0, budget_answer n input d.0 d.1, d.2)

pub too_wide : (n : ℕ) (left old new : Option (List ℕ)) → Delivers (Scl n) left old new Wide
    → IfSome left (λ input. (text : List ℕ) × OfItsChain input (λ c. IsTooWide c n text) × Took old new text)
too_wide n None old new d = tt
too_wide n (Some input) old new d = (d.0, wide_answer n input d.0 d.1, d.2)

pub too_many_sides : (n : ℕ) (left old new : Option (List ℕ)) → Delivers (Scl n) left old new Sides
    → IfSome left (λ input. (text : List ℕ) × OfItsChain input (λ c. HasTooManySides c n text) × Took old new text)
too_many_sides n None old new d = tt
too_many_sides n (Some input) old new d = (d.0, sides_answer n input d.0 d.1, d.2)

-- ---- two chains

ball_done : (n : ℕ) (input text : List ℕ) → AnswersTo (Ball n) input Done text → OfItsChains input (λ c d. DoneFor c d text)
ball_done n input text (inl a) = absurd (cc a.1)
ball_done n input text (inr a) = a.1

stop_answer : (n : ℕ) (s : Status) (input text : List ℕ) → IsStop s → AnswersTo (Ball n) input s text → OfItsChains input (λ c d. IsStopped c d n s text)
stop_answer n Budget input text stop (inl a) = absurd (cc a.1)
stop_answer n Budget input text stop (inr a) = a.1
stop_answer n Wide input text stop (inl a) = absurd (cc a.1)
stop_answer n Wide input text stop (inr a) = a.1
stop_answer n Sides input text stop (inl a) = absurd (cc a.1)
stop_answer n Sides input text stop (inr a) = a.1
stop_answer n _ input text stop a = absurd stop

pub ball_between : (n : ℕ) (left old new : Option (List ℕ)) → Delivers (Ball n) left old new Done
    → IfSome left (λ input. (text : List ℕ) × OfItsChains input (λ c d. DoneFor c d text) × Took old new text)
ball_between n None old new d = tt
ball_between n (Some input) old new d = (d.0, ball_done n input d.0 d.1, d.2)

pub ball_stopped : (n : ℕ) (s : Status) (left old new : Option (List ℕ)) → IsStop s → Delivers (Ball n) left old new s
    → IfSome left (λ input. (text : List ℕ) × OfItsChains input (λ c d. IsStopped c d n s text) × Took old new text)
ball_stopped n s None old new stop d = tt
ball_stopped n s (Some input) old new stop d = (d.0, stop_answer n s input d.0 stop d.1, d.2)
