-- Said by private functions alone: the form of a list as two fractions, and the crossing of two forms.
use Rattle.sc_fraction.specs.declared.frac.Frac.{Frac}
use Rattle.sc_fraction.specs.Frac.{IsDifference, IsRatio}
use Rattle.sc_crossing.specs.declared.fault.NextFault.{NextFault}
use Rattle.sc_crossing.specs.declared.fault.NextFault.TheVariants.{Cross, Length}
use Rattle.sc_crossing.specs.declared.form.Form.{Form}
use Rattle.sc_crossing.specs.Forms.{IsRefusedAt}

-- c is where two forms cross: what the second gives more for the second chain, over what the first gives more for the
-- first
abbrev pub IsCrossing : Form → Form → Frac → Type 0
IsCrossing f g c = (more_second more_first : Frac) × IsDifference g.second f.second more_second × IsDifference f.first g.first more_first × IsRatio more_second more_first c

-- a fault that tells this
abbrev pub IsCrossFault : Form → Form → NextFault → Type 0
IsCrossFault f g (Cross place x y) = IsRefusedAt f g place x y
IsCrossFault f g (Length s t) = ⊥
