-- Lists of words that are few.
use Rattle.std.proofs.Common.{◌*◌, ◌≤◌, length}
use Rattle.sc_theory.specs.Chains.{Chain, positions}
use Rattle.sc_chain.specs.Faults.{AreGenerators}

-- at most 100 words of at most 100 letters
pub record AreFew (c : Chain) : Type 0 where
  pub generators : AreGenerators c
  pub words : length c ≤ 100
  pub letters : positions c ≤ 100 * length c
