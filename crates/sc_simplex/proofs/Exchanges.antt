-- What the parts of one exchange say together.
use Rattle.std.specs.Prelude.{◌≡◌, ℕ, ◌<◌, List, length, ℤ, pos, ◌*ℤ◌, ◌<ℤ◌, Result, Ok}
use Rattle.std.proofs.Common.{sym, ap, subst, ◌∙◌}
use Rattle.sc_basis.specs.Bases.{Column as Entries, Basis}
use Rattle.sc_basis.specs.Standing.{Stands}
use Rattle.sc_basis.specs.Lines.{line}
use Rattle.sc_basis.specs.Pivots.{along}
use Rattle.sc_basis.proofs.RowOrder.{lists_differ}
use Rattle.sc_rows.specs.Lines.{Line, row_of}
use Rattle.sc_rows.specs.Standing.{numbers_of}
use Rattle.sc_rows.specs.Places.{IsWideBy}
use Rattle.sc_rows.specs.declared.fault.WideAt.{WideAt}
use Rattle.sc_rows.specs.declared.fault.RowFault.{RowFault}
use Rattle.sc_rows.specs.declared.fault.RowFault.TheVariants.{Wide, Memory}
use Rattle.sc_rows.specs.declared.prices.PriceRows.{PriceRows}
use Rattle.sc_simplex.specs.inside.Leaving.{NoneTie}

-- where one kind of evidence gives another, a refusal with the one is a refusal with the other
pub fault_weaker : (P Q : WideAt → Type 0) → ((w : WideAt) → P w → Q w) → (f : RowFault) → IsWideBy P f → IsWideBy Q f
fault_weaker P Q weaker (Wide w) h = weaker w h
fault_weaker P Q weaker Memory h = tt

pub same_ok : {A E : Type 0} (x y : A) → ◌≡◌ {A = Result A E} (Ok x) (Ok y) → x ≡ y
same_ok x y e = cc

-- no two rows that stand for a basis have the same line over their products with a column
pub none_tie : (rows : List Line) (b a : ℕ → ℤ) (p : PriceRows) (c : Entries) (basis : Basis) → Stands (length rows) basis (numbers_of rows p)
    → ((i : ℕ) → i < length rows → a i ≡ along (length rows) (numbers_of rows p) c i) → NoneTie rows b a
none_tie rows b a p c basis stands same i l inside within apart first second equal =
    lists_differ (length rows) b basis (numbers_of rows p) c i l stands inside within apart
    (subst (λ (z : ℤ). pos 0 <ℤ z) (same i inside) first) (subst (λ (z : ℤ). pos 0 <ℤ z) (same l within) second)
    (λ k m. ap (λ (z : ℤ). z *ℤ line (length rows) b (row_of rows l) k) (sym (same i inside)) ∙ equal k m ∙ ap (λ (z : ℤ). z *ℤ line (length rows) b (row_of rows i) k) (same l within))
