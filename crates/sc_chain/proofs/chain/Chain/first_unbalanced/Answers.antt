use Rattle.std.proofs.Common.{◌≤◌, arith, refl}
use Rattle.sc_words.specs.declared.limits.TheConstants.{GENERATORS}
use Rattle.sc_chain.specs.Faults.{IsSmallChain}
use Rattle.sc_chain.proofs.Balanced.{balanced}
use Rattle.sc_chain.proofs.chain.Chain.first_unbalanced.Goals as goal

pub returns-clause-balanced : goal.returns-clause-balanced
returns-clause-balanced c =
    let small : IsSmallChain c.args.self.now = rw c.self.view_is at c.self.invariant.small in
    let all : GENERATORS ≤ c.loop-generator.generator = omega (arith, c.loop-generator-test.false) in
    ((λ _. balanced c.args.self.now small (λ g h. c.loop-generator.invariant g (omega arith))), (λ _. refl))
