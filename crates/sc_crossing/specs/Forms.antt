-- The form of a list as two fractions, and the crossing of two forms.
use Rattle.std.specs.Prelude.{◌≡◌}
use Rattle.sc_whole.specs.declared.checked.Op.TheVariants.{Sub}
use Rattle.sc_whole.specs.Operation.{AllFit}
use Rattle.sc_fraction.specs.declared.frac.Frac.{Frac}
use Rattle.sc_fraction.specs.Frac.{IsQuotient, IsDifference, ForSum, ForRatio}
use Rattle.sc_theory.specs.Chains.{Chain}
use Rattle.sc_theory.specs.Prices.{Prices}
use Rattle.sc_cone.specs.declared.Direction.{Direction}
use Rattle.sc_cone.specs.declared.Quadrant.{Quadrant}
use Rattle.sc_cone.specs.Values.{first_form, second_form}
use Rattle.sc_cone.specs.Searches.{Reached, IsInside, IsNext}
use Rattle.sc_crossing.specs.declared.fault.CrossPlace.{CrossPlace}
use Rattle.sc_crossing.specs.declared.fault.CrossPlace.TheVariants.{First, Second, Over}
use Rattle.sc_crossing.specs.declared.fault.NextFault.{NextFault}
use Rattle.sc_crossing.specs.declared.fault.NextFault.TheVariants.{Cross, Length}
use Rattle.sc_crossing.specs.declared.form.Form.{Form}
use Rattle.sc_crossing.specs.Lengths.{IsLight}

-- the two numbers of a list's form over its scale
abbrev pub IsFormOf : Chain → Chain → Prices → Form → Type 0
IsFormOf first second list f = IsQuotient (first_form first list) list.scale f.first × IsQuotient (second_form first second list) list.scale f.second

-- the difference of two fractions is made within 128 bits, and their ratio
abbrev pub HasDifference : Frac → Frac → Type 0
HasDifference x y = ForSum Sub x y AllFit

abbrev pub HasRatio : Frac → Frac → Type 0
HasRatio x y = ForRatio x y AllFit

-- the first operation of a crossing that isn't made within 128 bits, with its two fractions
abbrev pub IsRefusedAt : Form → Form → CrossPlace → Frac → Frac → Type 0
IsRefusedAt f g First x y = (x ≡ f.first) × (y ≡ g.first) × ¬ HasDifference x y
IsRefusedAt f g Second x y = HasDifference f.first g.first × (x ≡ g.second) × (y ≡ f.second) × ¬ HasDifference x y
IsRefusedAt f g Over x y =
    HasDifference f.first g.first × HasDifference g.second f.second × IsDifference g.second f.second x × IsDifference f.first g.first y × ¬ HasRatio x y

-- the crossing of the forms of two lists is refused at this operation, with these fractions
abbrev pub IsCrossRefused : Chain → Chain → Prices → Prices → CrossPlace → Frac → Frac → Type 0
IsCrossRefused first second l m place x y = (f g : Form) × IsFormOf first second l f × IsFormOf first second m g × IsRefusedAt f g place x y

-- why there is no next direction between two neighbours: both lie inside the quadrant, and the crossing of their
-- lists' forms is refused; or the next direction s, t has a chain that is too long
abbrev pub IsNextFault : Quadrant → Chain → Chain → Reached → Reached → NextFault → Type 0
IsNextFault q first second r u (Cross place x y) = IsInside r.direction × IsInside u.direction × IsCrossRefused first second r.list u.list place x y
IsNextFault q first second r u (Length s t) =
    let x : Direction = record { s = s; t = t } in
    IsNext q first second r u x × ¬ IsLight first second x
