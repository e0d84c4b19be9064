-- The conditions of a certificate in their order, and which is the first that fails.
use Rattle.std.specs.Prelude.{◌≡◌, List, pos, ◌*◌}
use Rattle.sc_theory.specs.Fatgraphs.{IsFatgraph, cost}
use Rattle.sc_theory.specs.Prices.{Prices, Tables, Vouch, IsTight}
use Rattle.sc_fraction.specs.declared.frac.Frac.{Frac}
use Rattle.sc_fraction.specs.Quotient.{SameQuotient}
use Rattle.sc_text.specs.ValueLines.{quotient_of}
use Rattle.sc_chain.specs.declared.polygon.Pivot.{Pivot}
use Rattle.sc_fatgraph.specs.Surfaces.{Surface}
use Rattle.sc_fatgraph.specs.Flaws.{IsFirstFlaw}
use Rattle.sc_certificate.specs.Certificates.{Certificate}
use Rattle.sc_prices.specs.Flaws.{IsFirstTableFlaw}
use Rattle.sc_prices.specs.declared.flaws.TableFlaw.{TableFlaw}
use Rattle.sc_prices.specs.declared.verdict.Condition.{Condition}
use Rattle.sc_prices.specs.declared.verdict.Condition.TheVariants.{Flaw, Value, Table, NotTight}
use Rattle.sc_prices.specs.declared.verdict.Verdict.{Verdict}
use Rattle.sc_prices.specs.declared.verdict.Verdict.TheVariants.{Optimal, Rejected}

-- what is stated of a surface by a value, a price list, tables and a journal
abbrev pub stated : Surface → Frac → Prices → Tables → List Pivot → Certificate
stated f value list tables journal =
    record {
      chain = f.chain;
      value = quotient_of value;
      copies = f.copies;
      sides = f.sides;
      list = list;
      tables = tables;
      journal = journal;
    }

-- the stated value is the cost over twice the copies
abbrev pub HasItsValue : Certificate → Type 0
HasItsValue v = SameQuotient v.value.0 v.value.1 (cost v.sides) (pos (2 * v.copies))

-- the conditions: the sides are a labelled fatgraph, the value is its fraction, the tables vouch for the list, and
-- the list is tight for the fatgraph
pub record AllHold (v : Certificate) : Type 0 where
  pub fatgraph : IsFatgraph v.chain v.copies v.sides
  pub value : HasItsValue v
  pub tables : Vouch v.chain v.list v.tables
  pub tight : IsTight v.chain v.list v.copies v.sides

-- the condition fails, and those before it hold
pub record FailsInValue (v : Certificate) : Type 0 where
  pub fatgraph : IsFatgraph v.chain v.copies v.sides
  pub value : ¬ HasItsValue v

pub record FailsInTables (v : Certificate) (flaw : TableFlaw) : Type 0 where
  pub fatgraph : IsFatgraph v.chain v.copies v.sides
  pub value : HasItsValue v
  pub tables : IsFirstTableFlaw v.chain v.list v.tables flaw

pub record FailsInTightness (v : Certificate) : Type 0 where
  pub fatgraph : IsFatgraph v.chain v.copies v.sides
  pub value : HasItsValue v
  pub tables : Vouch v.chain v.list v.tables
  pub tight : ¬ IsTight v.chain v.list v.copies v.sides

abbrev pub IsFirstFailing : Certificate → Condition → Type 0
IsFirstFailing v (Flaw kind place) = IsFirstFlaw v.chain v.copies v.sides kind place
IsFirstFailing v Value = FailsInValue v
IsFirstFailing v (Table flaw) = FailsInTables v flaw
IsFirstFailing v NotTight = FailsInTightness v

-- a verdict: the stated value where all conditions hold, else the first that fails
abbrev pub IsVerdictOn : Certificate → Verdict → Type 0
IsVerdictOn v (Optimal value) = (v.value ≡ quotient_of value) × AllHold v
IsVerdictOn v (Rejected condition) = IsFirstFailing v condition

-- P holds of the value of a verdict that answers one
abbrev pub IfOptimal : Verdict → (Frac → Type 0) → Type 0
IfOptimal (Optimal value) P = P value
IfOptimal (Rejected condition) P = Unit {0}
