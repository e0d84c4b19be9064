use Rattle.std.proofs.Common.{◌≡◌, take}
use Rattle.sc_reduce.specs.Lines.{chain_of}
use Rattle.sc_reduce.proofs.lines.weighted_words.Given as goal

-- the words are the chain of the lines so far
abbrev pub invariant-loop-line : goal.invariant-loop-line
invariant-loop-line l = l.words.items ≡ chain_of (take l.line-index l.lines)
