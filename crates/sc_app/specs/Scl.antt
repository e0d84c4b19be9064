-- The command `scl`.
use Rattle.std.specs.Prelude.{◌≡◌, ◌≢◌, ◌⊎◌, ◌+◌, ◌<◌, ◌*◌, ℕ, List, [], ◌∷◌, ◌++◌, codes, ℤ, pos}
use Rattle.sc_whole.specs.Spelling.{spelling}
use Rattle.sc_theory.specs.Chains.{Chain, IsBalanced}
use Rattle.sc_theory.specs.Fatgraphs.{IsFatgraph, IsLeast, cost}
use Rattle.sc_fraction.specs.Quotient.{SameQuotient}
use Rattle.sc_words.specs.declared.lines.RawLine.{RawLine}
use Rattle.sc_words.specs.declared.limits.TheConstants.{GENERATORS}
use Rattle.sc_chain.specs.declared.polygon.Pivot.{Pivot}
use Rattle.sc_words.specs.ChainText.{IsChainText, IsFirstMalformed}
use Rattle.sc_chain.specs.Balance.{IsFirstUnbalanced}
use Rattle.sc_reduce.specs.Lines.{chain_of, IsWithin, HasManyWords, HasManyPositions, lines_total}
use Rattle.sc_rows.specs.declared.fault.WideAt.{WideAt}
use Rattle.sc_assembly.specs.declared.parts.Part.{Part}
use Rattle.sc_certificate.specs.Certificates.{Certificate, certificate_text, IsCertificateInRange}
use Rattle.sc_prices.specs.Conditions.{AllHold}
use Rattle.sc_solve.specs.declared.solution.Solution.{Solution}
use Rattle.sc_solve.specs.declared.solution.SolveFault.{SolveFault}
use Rattle.sc_solve.specs.declared.solution.SolveFault.TheVariants as faults
use Rattle.sc_solve.specs.Solutions.{IsSolution, IsUsedUp, IsWideAfter, HasManyCopies, certificate_of}
use Rattle.sc_refusal.specs.Texts.{budget_text, wide_text, sides_text}
use Rattle.sc_app.specs.Notes.{line}
use Rattle.sc_app.specs.declared.status.Status.{Status}
use Rattle.sc_app.specs.declared.status.Status.TheVariants.{Done, Malformed, Large, Budget, Wide, Sides}
use Rattle.sc_app.specs.declared.status.What.TheVariants.{Words, Positions}

-- ---- values of chains

-- the line for a generator and its total, which isn't 0
abbrev pub infinite : ℕ → ℤ → List ℕ
infinite g t = line (codes "infinite " ++ (97 + g) ∷ 32 ∷ spelling t)

-- the text is the line for the first generator whose total isn't 0
pub record IsInfinite (c : Chain) (text : List ℕ) : Type 0 where
  pub generator : ℕ
  pub total : ℤ
  pub first : IsFirstUnbalanced c generator total
  pub text_is : text ≡ infinite generator total

-- the text is that of a solution, by at most so many pivots, as a certificate: all its conditions hold, and it is in
-- the ranges of one that is read
pub record IsSolved (c : Chain) (pivots : ℕ) (text : List ℕ) : Type 0 where
  pub balanced : IsBalanced c
  pub solution : Solution
  pub solves : IsSolution c pivots solution
  pub over : (certificate_of solution).chain ≡ c
  pub conditions : AllHold (certificate_of solution)
  pub in_range : IsCertificateInRange (certificate_of solution)
  pub text_is : text ≡ certificate_text (certificate_of solution)

-- the text shows so many lawful pivots, and a polygon that improves the basis that they lead to
pub record IsOverBudget (c : Chain) (pivots : ℕ) (text : List ℕ) : Type 0 where
  pub balanced : IsBalanced c
  pub journal : List Pivot
  pub improving : List ℕ
  pub evidence : IsUsedUp c pivots journal improving
  pub text_is : text ≡ budget_text c journal improving

-- the text shows at most so many lawful pivots, and an operation that is too wide after them
pub record IsTooWide (c : Chain) (pivots : ℕ) (text : List ℕ) : Type 0 where
  pub balanced : IsBalanced c
  pub journal : List Pivot
  pub operation : WideAt
  pub evidence : IsWideAfter c pivots journal operation
  pub text_is : text ≡ wide_text c journal operation

-- the text shows at most so many lawful pivots to an optimal basis, and the part of it whose denominator leads to too
-- many sides
pub record HasTooManySides (c : Chain) (pivots : ℕ) (text : List ℕ) : Type 0 where
  pub balanced : IsBalanced c
  pub journal : List Pivot
  pub part : Part
  pub so_far : ℕ
  pub next : ℤ
  pub evidence : HasManyCopies c pivots journal part so_far next
  pub text_is : text ≡ sides_text c journal part.polygon part.value so_far next

-- what is answered of the value of a chain within so many pivots
abbrev pub IsValueOf : ℕ → Chain → Status → List ℕ → Type 0
IsValueOf pivots c Done text = IsInfinite c text ⊎ IsSolved c pivots text
IsValueOf pivots c Budget text = IsOverBudget c pivots text
IsValueOf pivots c Wide text = IsTooWide c pivots text
IsValueOf pivots c Sides text = HasTooManySides c pivots text
IsValueOf pivots c _ text = ⊥

-- the status and the text of what stopped a solver; want of memory has none
abbrev pub IsToldBy : Chain → SolveFault → Status → List ℕ → Type 0
IsToldBy c (faults.Budget journal improving) status text = (status ≡ Budget) × (text ≡ budget_text c journal.items improving)
IsToldBy c (faults.Wide journal operation) status text = (status ≡ Wide) × (text ≡ wide_text c journal.items operation)
IsToldBy c (faults.Sides journal part so_far next) status text =
    (status ≡ Sides) × (text ≡ sides_text c journal.items part.polygon part.value so_far next)
IsToldBy c faults.Memory status text = ⊥

-- ---- answers to texts

-- what `scl` answers to a chain text: by the first malformed line, the limits of the reduced chain, and its value
abbrev pub SclResponds : ℕ → List ℕ → Status → List ℕ → Type 0
SclResponds pivots input (Malformed at kind) text = IsFirstMalformed input at kind × (text ≡ [])
SclResponds pivots input (Large (Words n)) text =
    (lines : List RawLine) × IsChainText input lines × HasManyWords (chain_of lines) n × (text ≡ [])
SclResponds pivots input (Large (Positions n)) text =
    (lines : List RawLine) × IsChainText input lines × HasManyPositions (chain_of lines) n × (text ≡ [])
SclResponds pivots input status text =
    (lines : List RawLine) × IsChainText input lines × IsWithin (chain_of lines) × IsValueOf pivots (chain_of lines) status text

-- the input is a chain text whose reduced chain is within the limits
abbrev pub SclAccepts : List ℕ → Type 0
SclAccepts input = (lines : List RawLine) × IsChainText input lines × IsWithin (chain_of lines)

-- and that chain is balanced besides: then several certificates may be right, and several refusals
abbrev pub HasSeveralAnswers : List ℕ → Type 0
HasSeveralAnswers input =
    (lines : List RawLine) × IsChainText input lines × IsWithin (chain_of lines) × IsBalanced (chain_of lines)

-- what `scl` may answer to an input that it accepts: refusals come for balanced chains alone
abbrev pub IsSclStatus : List ℕ → Status → Type 0
IsSclStatus input Done = Unit {0}
IsSclStatus input Budget = HasSeveralAnswers input
IsSclStatus input Wide = HasSeveralAnswers input
IsSclStatus input Sides = HasSeveralAnswers input
IsSclStatus input _ = ⊥

-- ---- what the texts tell

-- what the line of a generator and its total tells: the input is a chain text, the total is that of the lines as they
-- are written, it isn't 0, and the totals of lesser generators are
pub record ShowsInfinite (input : List ℕ) (text : List ℕ) : Type 0 where
  pub lines : List RawLine
  pub read : IsChainText input lines
  pub within : IsWithin (chain_of lines)
  pub generator : ℕ
  pub total : ℤ
  pub in_range : generator < GENERATORS
  pub total_is : total ≡ lines_total generator lines
  pub unbalanced : total ≢ pos 0
  pub least : (h : ℕ) → h < generator → lines_total h lines ≡ pos 0
  pub line : text ≡ infinite generator total

-- what a certificate tells: the input is a chain text, each total of the lines as they are written is 0, the text is
-- that of the certificate, whose chain is the cyclically reduced one of the lines, its sides are a labelled fatgraph
-- over its copies of that chain, its value is the fraction -chi/2n of the fatgraph, and no labelled fatgraph over any
-- number of copies has a smaller one
pub record ShowsExtremal (input : List ℕ) (text : List ℕ) : Type 0 where
  pub lines : List RawLine
  pub read : IsChainText input lines
  pub within : IsWithin (chain_of lines)
  pub balanced : (g : ℕ) → lines_total g lines ≡ pos 0
  pub certificate : Certificate
  pub text_is : text ≡ certificate_text certificate
  pub over : certificate.chain ≡ chain_of lines
  pub fatgraph : IsFatgraph (chain_of lines) certificate.copies certificate.sides
  pub value : SameQuotient certificate.value.0 certificate.value.1 (cost certificate.sides) (pos (2 * certificate.copies))
  pub least : IsLeast (chain_of lines) certificate.copies certificate.sides

-- the text for an input tells one or the other
abbrev pub ShowsScl : List ℕ → List ℕ → Type 0
ShowsScl input text = ShowsInfinite input text ⊎ ShowsExtremal input text

-- what is so of the cyclically reduced chain of the lines
abbrev pub OfItsChain : List ℕ → (Chain → Type 0) → Type 0
OfItsChain input P = (lines : List RawLine) × IsChainText input lines × IsWithin (chain_of lines) × P (chain_of lines)
