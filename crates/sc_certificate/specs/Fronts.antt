-- The heading and the words of a certificate, as far as they were read.
use Rattle.std.specs.Prelude.{ℕ, ◌-◌, Bool, false, List}
use Rattle.sc_theory.specs.Words.{Word}
use Rattle.sc_theory.specs.Chains.{positions}
use Rattle.sc_line.specs.Lines.{Line}
use Rattle.sc_line.specs.Formats.{Format, Reads}
use Rattle.sc_line.specs.Forms.{Counted, literal_due, counted_from, both_due, and_also}
use Rattle.sc_text.specs.declared.limits.Limits.{Limits}
use Rattle.sc_text.specs.declared.limits.TheConstants.{VERSION_1}
use Rattle.sc_text.specs.Words.{a_word}
use Rattle.sc_text.specs.Surfaces.{uncounted}
use Rattle.sc_certificate.specs.Certificates.{FrontTold, front_form}

-- the heading that is due, and whether it was read; how the count of words is named and how great it may be, how many
-- letters the words may have, within which limits, and what was read of them
pub record FrontSoFar : Type 0 where
  pub text : Line
  pub headed : Bool
  pub name : List ℕ
  pub most : ℕ
  pub letters : ℕ
  pub limits : Limits
  pub words : Counted (ℕ × Word)

-- what is due of them
abbrev pub front_at : FrontSoFar → Format FrontTold
front_at p = both_due (literal_due p.text p.headed) (λ u. counted_from p.name p.most (λ c. a_word p.limits (p.letters - positions c)) p.words.count p.words.items)

abbrev pub front_start : Format FrontTold
front_start = (front_form VERSION_1).due (and_also false uncounted)

-- this is due after lines that were read
pub record IsReached (f : Format FrontTold) : Type 0 where
  pub lines : List Line
  pub reads : Reads front_start lines f
