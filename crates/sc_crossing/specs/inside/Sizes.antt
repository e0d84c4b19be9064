-- The numbers of a list's form.
use Rattle.std.specs.Prelude.{ℕ, ℤ, pos, ◌-ℤ◌, ◌*ℤ◌}
use Rattle.sc_theory.specs.Chains.{Chain, weighted_length}
use Rattle.sc_theory.specs.Prices.{Prices}
use Rattle.sc_certificate.specs.Bounds.{bound_from}

-- what the words of a chain give a list's value each time that they are taken; the first is the list's word number k
abbrev pub form_from : Chain → Prices → ℕ → ℤ
form_from c list k = list.scale *ℤ pos (weighted_length c) -ℤ pos 2 *ℤ bound_from c list k
