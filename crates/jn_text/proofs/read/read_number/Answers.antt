use Rattle.std.proofs.Common.{arith}
use Rattle.std.proofs.lemmas.List.{take_rest}
use Rattle.jn_text.proofs.Numbers.{run_digits, run_is_number, number_is_spelled}
use Rattle.jn_text.proofs.read.read_number.Goals as goal

pub number_of-requires : goal.number_of-requires
number_of-requires c = run_digits _ _ c.digit_count-count.ensures

pub returns-in_err-number-clause-none : goal.returns-in_err-number-clause-none
returns-in_err-number-clause-none c = rw c.from_residual.ensures (λ n end at.
    c.in_err-number.ensures n at.small (number_is_spelled c.args.bytes.now _ c.args.at c.args.limit n end _ (omega arith) (take_rest c.args.bytes.now c.args.at) c.digit_count-count.ensures at))

pub returns-clause-found : goal.returns-clause-found
returns-clause-found c = run_is_number c.args.bytes.now _ c.args.at c.args.limit _ _ c.requires (take_rest c.args.bytes.now c.args.at) c.digit_count-count.ensures c.in_ok-number.ensures.0 c.in_ok-number.ensures.1
