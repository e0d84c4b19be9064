use Rattle.std.proofs.Common.{◌≤◌, length, arith}
use Rattle.sc_theory.specs.Chains.{first}
use Rattle.sc_chain.proofs.OneFault.{words-le}
use Rattle.sc_chain.proofs.Firsts.{first-le}
use Rattle.sc_chain.proofs.faults.size_fault.Goals as goal

pub overflow_cast-result : goal.overflow_cast-result
overflow_cast-result c =
    let few : length c.args.words.now ≤ first c.args.words.now (length c.args.words.now) = words-le c.args.words.now (length c.args.words.now) (omega arith) c.requires.good in
    omega (arith, first-le c.args.words.now (length c.args.words.now))
