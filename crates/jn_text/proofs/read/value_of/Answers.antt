use Rattle.std.proofs.Common.{arith}
use Rattle.std.proofs.lemmas.Int.Digits.{digits_value_more}
use Rattle.jn_text.proofs.Numbers.{digit_passes, too_large}
use Rattle.jn_text.proofs.read.value_of.Goals as goal

pub with_digit-requires : goal.with_digit-requires
with_digit-requires c = digit_passes c.args.digits.now c.loop-digit.digit-index c.requires c.loop-digit-test.true

pub returns-in_err-value : goal.returns-in_err-value
returns-in_err-value c = rw c.from_residual.ensures (too_large c.args.digits.now c.loop-digit.digit-index c.loop-digit.value c.loop-digit-test.true c.loop-digit.invariant.so_far c.in_err-value.ensures)

pub loop-digit-preserved : goal.loop-digit-preserved
loop-digit-preserved c =
    let more = digits_value_more 10 c.args.digits.now c.loop-digit.digit-index c.loop-digit-test.true in record {
      so_far = omega (arith, c.in_ok-value.ensures, more);
      fits = omega (arith, c.in_ok-value.ensures);
    }
