-- Sizes whose products stay within 128 bits.
use Rattle.std.specs.Prelude.{◌<◌, ◌^◌}
use Rattle.sc_svg.specs.declared.extent.Extent.{Extent}

pub record IsBounded (x : Extent) : Type 0 where
  pub over : x.over < 2 ^ 51
  pub under : x.under < 2 ^ 31
