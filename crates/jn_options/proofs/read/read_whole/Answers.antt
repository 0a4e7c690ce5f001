use Rattle.std.proofs.Common.{◌≢◌, ◌≤◌, length, sym, arith, ◌∙◌}
use Rattle.jn_options.proofs.Numbers.{moved, no_number, number_is, other_number}
use Rattle.jn_options.proofs.read.read_whole.Goals as goal
use Rattle.jn_options.proofs.read.read_whole.Goals.{else-end-text-via-then-end-text+else-number-least, else-end-text-via-else-end-text}

pub returns-in_err-number-clause-value : goal.returns-in_err-number-clause-value
returns-in_err-number-clause-value c =
    let text = c.args.text.now in
    let none = no_number c.args.least c.args.most text (λ n is.
    c.in_err-number.ensures.none n (length text) (moved text c.as_bytes.result.now c.args.most n (length text) (sym c.as_bytes.ensures.value) is.1)) in
    c.from_residual.ensures ∙ none

pub returns-then-number-least-clause-value : goal.returns-then-number-least-clause-value
returns-then-number-least-clause-value c =
    let text = c.args.text.now in
    let n = c.in_ok-number.number in
    let at = moved c.as_bytes.result.now text c.args.most n c.in_ok-number.end c.as_bytes.ensures.value c.in_ok-number.ensures.found in
    sym (number_is c.args.least c.args.most n text (omega (arith, c.ranges.most.fits)) (c.if-number-least.true, rw (← c.if-end-text.true) at))

pub returns-else-end-text-clause-value : goal.returns-else-end-text-clause-value
returns-else-end-text-clause-value c =
    let text = c.args.text.now in
    let n = c.in_ok-number.number in
    let end = c.in_ok-number.end in
    let at = moved c.as_bytes.result.now text c.args.most n end c.as_bytes.ensures.value c.in_ok-number.ensures.found in
    let other : c.args.least ≤ n → end ≢ length text = λ enough whole. elim c.else-end-text.branch [
      | else-end-text-via-then-end-text+else-number-least w ↦ absurd (omega arith)
      | else-end-text-via-else-end-text w ↦ w.if-end-text.false whole
    ] in
    other_number c.args.least c.args.most n end text (omega (arith, c.ranges.most.fits)) at other
