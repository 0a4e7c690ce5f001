use Rattle.std.proofs.Common.{◌≢◌, ◌⊎◌, ◌<◌, None, length, inl, inr, arith}
use Rattle.jn_schedule.proofs.Numbers.{number_at, number_same, number_found, number_other}
use Rattle.jn_schedule.proofs.word.number_in.Goals as goal
use Rattle.jn_schedule.proofs.word.number_in.Goals.{else-end-word-via-then-end-word+else-low-number, else-end-word-via-else-end-word}

pub returns-in_err-number-clause-value : goal.returns-in_err-number-clause-value
returns-in_err-number-clause-value c = rw c.from_residual.ensures
    (number_same c.args.low c.args.high c.args.word.now None (omega arith) (λ n spells. c.in_err-number.ensures.none n _ (number_at c.args.low c.args.high _ c.args.word.now n c.from.ensures spells)))

pub returns-then-low-number-clause-value : goal.returns-then-low-number-clause-value
returns-then-low-number-clause-value c =
    number_found c.args.low c.args.high _ _ _ c.args.word.now (omega arith) c.from.ensures c.in_ok-number.ensures.found c.if-end-word.true c.if-low-number.true

pub returns-else-end-word-clause-value : goal.returns-else-end-word-clause-value
returns-else-end-word-clause-value c =
    let word = c.args.word.now in
    let other : (c.in_ok-number.end ≢ length word) ⊎ (c.in_ok-number.number < c.args.low) = elim c.else-end-word.branch [
      | else-end-word-via-then-end-word+else-low-number w ↦ inr (omega arith)
      | else-end-word-via-else-end-word w ↦ inl w.if-end-word.false
    ] in
    number_same c.args.low c.args.high word None (omega arith) (number_other c.args.low c.args.high _ _ _ word (omega arith) c.from.ensures c.in_ok-number.ensures.found other)
