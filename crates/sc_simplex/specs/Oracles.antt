-- What an oracle of columns answers.
use Rattle.std.specs.Prelude.{ℕ, List, []}
use Rattle.sc_basis.specs.Bases.{Column as Entries}
use Rattle.sc_basis.specs.Pivots.{Improves}
use Rattle.sc_rows.specs.Standing.{numbers_of}
use Rattle.sc_rows.specs.declared.fault.WideAt.{WideAt}
use Rattle.sc_rows.specs.declared.prices.PriceRows.{PriceRows}
use Rattle.sc_simplex.specs.declared.oracle.Answer.{Answer}
use Rattle.sc_simplex.specs.declared.oracle.Answer.TheVariants.{Improving, Optimal}
use Rattle.sc_simplex.specs.declared.oracle.OracleFault.{OracleFault}
use Rattle.sc_simplex.specs.declared.oracle.OracleFault.TheVariants.{Wide, Memory}

-- which columns there are, by their keys and entries
abbrev pub ColumnsBy : Type 1
ColumnsBy = List ℕ → Entries → Type 0

-- which refusals are evidence, for given prices
abbrev pub ShownBy : Type 1
ShownBy = PriceRows → WideAt → Type 0

-- the column improves a basis with these prices
abbrev pub ImprovesAt : ℕ → PriceRows → Entries → Type 0
ImprovesAt r p c = Improves r (numbers_of [] p) c

-- none of the columns improves
abbrev pub NoneImproves : ColumnsBy → ℕ → PriceRows → Type 0
NoneImproves C r p = (key : List ℕ) (c : Entries) → C key c → ¬ ImprovesAt r p c

-- P holds of the column that is answered, or Q where there is none
abbrev pub MatchAnswer : Answer → (List ℕ → Entries → Type 0) → Type 0 → Type 0
MatchAnswer (Improving c) P Q = P c.key.items c.entries.items
MatchAnswer Optimal P Q = Q

-- where it isn't want of memory, the refusal is one of these
abbrev pub IsShown : (WideAt → Type 0) → OracleFault → Type 0
IsShown P (Wide at) = P at
IsShown P Memory = Unit {0}
