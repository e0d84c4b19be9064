-- Lists of lifted prices, and refusals carried on.
use Rattle.std.proofs.Common.{List, [], ◌∷◌, ◌++◌, ℤ}
use Rattle.std.specs.List.{AllByRecursion}
use Rattle.sc_rows.specs.Places.{IsWideBy}
use Rattle.sc_rows.specs.declared.fault.WideAt.{WideAt}
use Rattle.sc_rows.specs.declared.fault.RowFault.{RowFault}
use Rattle.sc_rows.specs.declared.fault.RowFault.TheVariants.{Wide, Memory}

-- what holds of all numbers and of one more holds of the list with it behind them
pub all_more : (P : ℤ → Type 0) (xs : List ℤ) (x : ℤ) → AllByRecursion P xs → P x → AllByRecursion P (xs ++ x ∷ [])
all_more P [] x all is = (is, tt)
all_more P (y ∷ xs) x all is = (all.0, all_more P xs x all.1 is)

-- where one kind of evidence gives another, a refusal with the one is a refusal with the other
pub refused_by : (P Q : WideAt → Type 0) → ((w : WideAt) → P w → Q w) → (fault : RowFault) → IsWideBy P fault → IsWideBy Q fault
refused_by P Q weaker (Wide w) is = weaker w is
refused_by P Q weaker Memory is = tt
