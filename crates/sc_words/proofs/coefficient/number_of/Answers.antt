use Rattle.std.proofs.Common.{◌≡◌, ◌-◌, get_or, arith}
use Rattle.sc_words.proofs.CoefficientLaws.{IsDigitByte, next_number, next_bound, digit_at, digit_byte}
use Rattle.sc_words.proofs.coefficient.number_of.Goals as goal

pub loop-digit-preserved : goal.loop-digit-preserved
loop-digit-preserved c =
    let digit : IsDigitByte (get_or c.args.digits.now c.loop-digit.digit-index 0) = digit_byte _ (digit_at c.args.digits.now c.loop-digit.digit-index c.loop-digit-test.true c.requires.digits) in
    let d : c.from.result ≡ get_or c.args.digits.now c.loop-digit.digit-index 0 - 48 = c.from.ensures in (
      next_number c.args.digits.now c.loop-digit.digit-index c.loop-digit.number c.from.result c.loop-digit-test.true c.loop-digit.invariant.0 d,
      next_bound c.loop-digit.digit-index c.loop-digit.number c.from.result c.loop-digit.invariant.1 (omega (arith, digit.high)),
    )
