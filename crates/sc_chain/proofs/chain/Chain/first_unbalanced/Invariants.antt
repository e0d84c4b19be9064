use Rattle.std.proofs.Common.{◌≡◌, ℕ, ◌<◌, pos}
use Rattle.sc_theory.specs.Chains.{chain_total}
use Rattle.sc_chain.proofs.chain.Chain.first_unbalanced.Given as goal

abbrev pub invariant-loop-generator : goal.invariant-loop-generator
invariant-loop-generator l = (h : ℕ) → h < l.generator → chain_total h l.self ≡ pos 0
