use Rattle.std.proofs.Common.{arith}
use Rattle.sc_reduce.proofs.Spelled.{ranges_more, letters_more}
use Rattle.sc_reduce.proofs.tests.lines.Goals as goal

pub loop-coefficient-preserved : goal.loop-coefficient-preserved
loop-coefficient-preserved g c =
    record {
      ranges =
          ranges_more c.loop-coefficient.read.items c.push.new.self.items _ c.in_ok-push.ensures.items c.loop-coefficient.invariant.ranges
          (omega (arith, c.unsigned_abs.ensures.value))
          c.in_ok-word.ensures;
      letters =
          letters_more c.loop-coefficient.read.items c.push.new.self.items _ c.loop-coefficient.letters c.len-letters.result c.in_ok-push.ensures.items c.loop-coefficient.invariant.letters
          c.len-letters.ensures;
      small = omega arith;
    }
