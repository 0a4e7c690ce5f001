use Rattle.std.proofs.Common.{◌≡◌, ◌<◌, arith, length, get_or}
use Rattle.std.proofs.lemmas.Bool.Decides.{nat_tests}
use Rattle.jn_text.proofs.Numbers.{spells_value, value_of_decimal, decimal_some, no_leading_zero}
use Rattle.jn_text.proofs.read.number_of.Goals as goal
use Rattle.jn_text.proofs.read.number_of.Goals.{else-digits-eq48-via-then-digits-eq48+else-digits-gt1, else-digits-eq48-via-else-digits-eq48}

pub returns-then-is_empty : goal.returns-then-is_empty
returns-then-is_empty c = λ n small spelled.
    let some = decimal_some c.args.digits.now n (omega arith) spelled in
    grind (arith, nat_tests, some, c.if-is_empty.ensures)

pub returns-then-digits-gt1 : goal.returns-then-digits-gt1
returns-then-digits-gt1 c = λ n small spelled.
    no_leading_zero c.args.digits.now n (omega arith) spelled c.if-digits-eq48.true c.if-digits-gt1.true

pub returns-in_err-number : goal.returns-in_err-number
returns-in_err-number c = rw c.from_residual.ensures (λ n small spelled.
    let value = value_of_decimal c.args.digits.now n (omega arith) spelled in
    c.in_err-number.ensures (omega arith))

pub returns-then-number-limit : goal.returns-then-number-limit
returns-then-number-limit c =
    let ds = c.args.digits.now in
    let some : 0 < length ds = grind (arith, nat_tests, c.if-is_empty.ensures) in
    let plain : get_or ds 0 0 ≡ 48 → length ds ≡ 1 = λ zero_first.
    elim c.else-digits-eq48.branch [
      | else-digits-eq48-via-then-digits-eq48+else-digits-gt1 w ↦ omega arith
      | else-digits-eq48-via-else-digits-eq48 w ↦ absurd (w.if-digits-eq48.false zero_first)
    ] in
    let spelled = spells_value ds c.requires some plain c.in_ok-number.ensures.0 in
    (c.if-number-limit.true, rw c.in_ok-number.ensures.1 spelled)

pub returns-else-number-limit : goal.returns-else-number-limit
returns-else-number-limit c = λ n small spelled.
    let value = value_of_decimal c.args.digits.now n (omega arith) spelled in
    omega (arith, c.in_ok-number.ensures)
