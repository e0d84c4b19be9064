use Rattle.std.proofs.Common.{◌≡◌, ◌^◌, ◌<◌, take}
use Rattle.sc_words.specs.ChainText.{digits_number}
use Rattle.sc_words.proofs.coefficient.number_of.Given as goal

abbrev pub invariant-loop-digit : goal.invariant-loop-digit
invariant-loop-digit l = (l.number ≡ digits_number (take l.digit-index l.digits)) × (l.number < 10 ^ l.digit-index)
