use Rattle.sc_reduce.proofs.TextLetters.{letters_of_text}
use Rattle.sc_reduce.proofs.lines.letters_of_a_text.Goals as goal

pub returns : goal.returns
returns c = letters_of_text
