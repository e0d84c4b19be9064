use Rattle.std.proofs.Common.{◌≡◌, ◌<◌}
use Rattle.std.specs.List.{All}
use Rattle.sc_words.specs.ChainText.{IsRawLine}
use Rattle.sc_reduce.specs.Lines.{letters_of}
use Rattle.sc_reduce.proofs.tests.lines.Given as goal

abbrev pub invariant-loop-coefficient : goal.invariant-loop-coefficient
invariant-loop-coefficient g l =
    record {
      ranges : All IsRawLine l.read.items;
      letters : l.letters ≡ letters_of l.read.items;
      small : l.letters < 1001000;
    }
