-- The text of a certificate.
use Rattle.std.specs.Prelude.{◌≡◌, ℕ, ◌≤◌, Bool, false, List, [], length, Option, None, ℤ, codes}
use Rattle.std.specs.List.{AllByRecursion}
use Rattle.sc_theory.specs.declared.Side.{Side}
use Rattle.sc_theory.specs.Words.{Word}
use Rattle.sc_theory.specs.Chains.{Chain, positions}
use Rattle.sc_theory.specs.Fatgraphs.{Sides}
use Rattle.sc_theory.specs.Prices.{Prices, Tables, pairs}
use Rattle.sc_chain.specs.declared.polygon.Pivot.{Pivot}
use Rattle.sc_line.specs.Lines.{Line, text_of}
use Rattle.sc_line.specs.Faults.{Plan}
use Rattle.sc_line.specs.Formats.{Format, plan_of}
use Rattle.sc_line.specs.Forms.{Form, Counted, Both, and_also, literal, one, counted, both, as_form}
use Rattle.sc_text.specs.declared.limits.Limits.{Limits}
use Rattle.sc_text.specs.declared.limits.TheConstants.{VERSION_1}
use Rattle.sc_text.specs.Sides.{IsSideWithin}
use Rattle.sc_text.specs.ValueLines.{Quotient, a_value, IsValueInRange}
use Rattle.sc_text.specs.TableLines.{IsTableInRange}
use Rattle.sc_text.specs.Parts.{words_form, copies_form, sides_form, scale_form, bases_form, pairs_form, tables_form}
use Rattle.sc_text.specs.Surfaces.{ending, uncounted, IsChainWithin}
use Rattle.sc_certificate.specs.PivotLines.{a_pivot, IsPivotInRange}
use Rattle.sc_certificate.specs.Sizes.{IsSmallList, FitsCounts, list_of}

-- what a certificate says: a surface over copies of a chain and its value, a price list with its tables, and the
-- journal of a solver
pub record Certificate : Type 0 where
  pub chain : Chain
  pub value : Quotient
  pub copies : ℕ
  pub sides : Sides
  pub list : Prices
  pub tables : Tables
  pub journal : List Pivot

abbrev pub heading : Line
heading = codes "scallop certificate 1"

-- ---- the form, part by part from the last: what the parts tell, what was read of them, their lines

abbrev pub journal_form : Limits → Chain → Form (Counted Pivot) (List Pivot)
journal_form m c = counted (codes "pivots") m.pivots (λ before. a_pivot c)

abbrev pub JournalTold : Type 0
JournalTold = Both (List Pivot) (Unit {0})

abbrev pub JournalRead : Type 0
JournalRead = Both (Counted Pivot) Bool

abbrev pub from_journal : Limits → Chain → Form JournalRead JournalTold
from_journal m c = both (journal_form m c) (λ journal. literal ending)

abbrev pub from_tables : Limits → Chain → Form (Both Tables JournalRead) (Both Tables JournalTold)
from_tables m c = both (tables_form (positions c)) (λ tables. from_journal m c)

abbrev pub PairsTold : Type 0
PairsTold = Both (List ℤ) (Both Tables JournalTold)

abbrev pub PairsRead : Type 0
PairsRead = Both (List ℤ) (Both Tables JournalRead)

abbrev pub from_pairs : Limits → Chain → Form PairsRead PairsTold
from_pairs m c = both (pairs_form (pairs c)) (λ pair. from_tables m c)

abbrev pub from_bases : Limits → Chain → Form (Both (List ℤ) PairsRead) (Both (List ℤ) PairsTold)
from_bases m c = both (bases_form (length c)) (λ base. from_pairs m c)

abbrev pub ScaleTold : Type 0
ScaleTold = Both ℤ (Both (List ℤ) PairsTold)

abbrev pub ScaleRead : Type 0
ScaleRead = Both (Option ℤ) (Both (List ℤ) PairsRead)

abbrev pub from_scale : Limits → Chain → Form ScaleRead ScaleTold
from_scale m c = both scale_form (λ scale. from_bases m c)

abbrev pub from_sides : Limits → Chain → Form (Both (Counted Side) ScaleRead) (Both Sides ScaleTold)
from_sides m c = both (sides_form m) (λ g. from_scale m c)

abbrev pub BodyTold : Type 0
BodyTold = Both ℕ (Both Sides ScaleTold)

abbrev pub BodyRead : Type 0
BodyRead = Both (Option ℕ) (Both (Counted Side) ScaleRead)

abbrev pub body_form : Limits → Chain → Form BodyRead BodyTold
body_form m c = both (copies_form m) (λ n. from_sides m c)

-- the lines behind the words
abbrev pub ValueTold : Type 0
ValueTold = Both Quotient BodyTold

abbrev pub from_value : Limits → Chain → Form (Both (Option Quotient) BodyRead) ValueTold
from_value m c = both (one a_value) (λ q. body_form m c)

-- the heading and the words
abbrev pub FrontTold : Type 0
FrontTold = Both (Unit {0}) Chain

abbrev pub front_form : Limits → Form (Both Bool (Counted (ℕ × Word))) FrontTold
front_form m = both (literal heading) (λ u. words_form m)

abbrev pub Told : Type 0
Told = Both FrontTold ValueTold

-- a certificate of what its parts tell, and back
abbrev pub certificate_told : Told → Certificate
certificate_told t = record {
  chain = t.first.second;
  value = t.second.first;
  copies = t.second.second.first;
  sides = t.second.second.second.first;
  list = list_of t.second.second.second.second.first t.second.second.second.second.second.first t.second.second.second.second.second.second.first;
  tables = t.second.second.second.second.second.second.second.first;
  journal = t.second.second.second.second.second.second.second.second.first;
}

abbrev pub told_by : Certificate → Told
told_by v =
    and_also (and_also tt v.chain) (and_also v.value (and_also v.copies (and_also v.sides
    (and_also v.list.scale (and_also v.list.base (and_also v.list.pair (and_also v.tables (and_also v.journal tt))))))))

abbrev pub certificate_form : Limits → Form (Both (Both Bool (Counted (ℕ × Word))) (Both (Option Quotient) BodyRead)) Certificate
certificate_form m = as_form (both (front_form m) (λ x. from_value m x.second)) certificate_told told_by

abbrev pub no_body : BodyRead
no_body = and_also None (and_also uncounted (and_also None (and_also [] (and_also [] (and_also [] (and_also uncounted false))))))

abbrev pub certificate_due : Limits → Format Certificate
certificate_due m = (certificate_form m).due (and_also (and_also false uncounted) (and_also None no_body))

-- the lines and the text of a certificate, and which line of one is due
abbrev pub certificate_lines : Certificate → List Line
certificate_lines v = (certificate_form VERSION_1).lines v

abbrev pub certificate_text : Certificate → List ℕ
certificate_text v = text_of (certificate_lines v)

unfoldable pub certificate_plan : Plan
certificate_plan = plan_of (certificate_due VERSION_1)

-- what a certificate may say at these limits, and at those of version 1
pub record IsCertificateWithin (m : Limits) (v : Certificate) : Type 0 where
  pub chain : IsChainWithin m v.chain
  pub value : IsValueInRange v.value
  pub some_copies : 1 ≤ v.copies
  pub few_copies : v.copies ≤ m.copies
  pub few_sides : length v.sides ≤ m.sides
  pub sides : AllByRecursion (IsSideWithin m) v.sides
  pub list : IsSmallList v.list
  pub counts : FitsCounts (length v.chain) (length (pairs v.chain)) v.list
  pub table_count : length v.tables ≡ positions v.chain
  pub tables : AllByRecursion (IsTableInRange (positions v.chain)) v.tables
  pub few_pivots : length v.journal ≤ m.pivots
  pub journal : AllByRecursion (IsPivotInRange v.chain) v.journal

abbrev pub IsCertificateInRange : Certificate → Type 0
IsCertificateInRange v = IsCertificateWithin VERSION_1 v
