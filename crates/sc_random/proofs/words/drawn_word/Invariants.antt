use Rattle.std.proofs.Common.{◌≡◌, ◌++◌, drop, IfSome}
use Rattle.sc_random.specs.Drawn.{drawn_word, word_behind}
use Rattle.sc_random.proofs.DrawnWords.{IsDrawn}
use Rattle.sc_random.proofs.words.drawn_word.Given as goal

abbrev pub invariant-loop-draw : goal.invariant-loop-draw
invariant-loop-draw l = record {
  spelled : l.word ++ word_behind l.before (drop l.draw-index l.draws) ≡ drawn_word l.draws;
  two : IfSome l.before IsDrawn;
}
