-- The command `gen`.
use Rattle.std.specs.Prelude.{◌≡◌, ◌≤◌, ℕ, List, [], ◌∷◌, ◌++◌, length, codes, pos}
use Rattle.sc_theory.specs.Chains.{Chain, weighted_length}
use Rattle.sc_theory.specs.Fatgraphs.{IsLeast}
use Rattle.sc_line.specs.Lines.{text_of, numbers_line, count_line}
use Rattle.sc_text.specs.Printing.{words_lines}
use Rattle.sc_text.specs.Surfaces.{ending}
use Rattle.sc_text.specs.ValueLines.{value_line, quotient_of}
use Rattle.sc_random.specs.Drawn.{drawn_chain}
use Rattle.sc_solve.specs.declared.solution.Solution.{Solution}
use Rattle.sc_solve.specs.Solutions.{IsSolution}
use Rattle.sc_app.specs.Scl.{IsValueOf}
use Rattle.sc_app.specs.declared.limits.TheConstants.{DEFAULT_PIVOTS}
use Rattle.sc_app.specs.declared.status.Status.{Status}
use Rattle.sc_app.specs.declared.status.Status.TheVariants.{Done, Budget, Wide, Sides}

-- the summary of a solution: what was asked for, the chain, its value and weighted length, and the columns and pivots
-- that the solver made
abbrev pub summary : ℕ → ℕ → Chain → Solution → List ℕ
summary seed letters c s =
    text_of (numbers_line (codes "scallop gen") (pos seed ∷ pos letters ∷ [])
    ∷ (words_lines c
    ++ value_line (quotient_of s.value)
    ∷ count_line (codes "length") (weighted_length c)
    ∷ count_line (codes "columns") s.columns
    ∷ count_line (codes "pivots") (length s.journal.items)
    ∷ ending
    ∷ []))

-- the text is the summary of a solution for the chain that is drawn by the seed: no labelled fatgraph over any number
-- of copies of the chain has a smaller fraction than the value, and there are at most as many columns as pivots
pub record IsSummary (seed letters : ℕ) (text : List ℕ) : Type 0 where
  pub solution : Solution
  pub solves : IsSolution (drawn_chain seed letters) DEFAULT_PIVOTS solution
  pub least : IsLeast (drawn_chain seed letters) solution.n solution.fatgraph.sides
  pub few : solution.columns ≤ length solution.journal.items
  pub text_is : text ≡ summary seed letters (drawn_chain seed letters) solution

-- what `gen` answers: the summary, or what `scl` is answered for the chain
abbrev pub GenerateResponds : ℕ → ℕ → Status → List ℕ → Type 0
GenerateResponds seed letters Done text = IsSummary seed letters text
GenerateResponds seed letters status text = IsValueOf DEFAULT_PIVOTS (drawn_chain seed letters) status text

-- what `gen` may answer
abbrev pub IsSolverStatus : Status → Type 0
IsSolverStatus Done = Unit {0}
IsSolverStatus Budget = Unit {0}
IsSolverStatus Wide = Unit {0}
IsSolverStatus Sides = Unit {0}
IsSolverStatus _ = ⊥
