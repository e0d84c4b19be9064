use Rattle.sc_theory.proofs.WordLaws.{inverse_letter-inverse_letter, inverse_word-inverse_word}
use Rattle.sc_theory.proofs.words.inverse_twice.Goals as goal

pub returns-clause-letter : goal.returns-clause-letter
returns-clause-letter c = inverse_letter-inverse_letter

pub returns-clause-word : goal.returns-clause-word
returns-clause-word c = inverse_word-inverse_word
