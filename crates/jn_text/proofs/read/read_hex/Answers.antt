use Rattle.std.proofs.Common.{◌≢◌, ◌<◌, ◌≤◌, ◌*◌, ℕ, arith, get_or}
use Rattle.std.proofs.lemmas.List.{take_rest, get_or_past}
use Rattle.jn_text.proofs.HexDigits.{run_is_hex, run_lower, no_hex}
use Rattle.jn_text.proofs.read.read_hex.Goals as goal
use Rattle.jn_text.proofs.read.read_hex.Goals.{else-at-bytes-via-then-at-bytes+else-bytes-at-eq45, else-at-bytes-via-else-at-bytes, then-count-eq0-via-then-count-eq0, then-count-eq0-via-else-count-eq0+then-count, then-count-eq0-via-else-count-eq0+else-count+then-count-ne0}

pub returns-then-count-eq0-clause-none : goal.returns-then-count-eq0-clause-none
returns-then-count-eq0-clause-none c =
    let bytes = c.args.bytes.now in
    let other : get_or bytes c.args.at 0 ≢ 45 = λ dash.
    elim c.else-at-bytes.branch [
      | else-at-bytes-via-then-at-bytes+else-bytes-at-eq45 w ↦ w.if-bytes-at-eq45.false dash
      | else-at-bytes-via-else-at-bytes w ↦ let past = get_or_past bytes c.args.at 0 w.if-at-bytes.false in omega arith
    ] in
    let none : (n : ℕ) → 0 < n → n ≤ 448 → c.hex_digit_count-count.result ≢ 2 * n = λ n some small twice.
    elim c.then-count-eq0.branch [
      | then-count-eq0-via-then-count-eq0 w ↦ omega arith
      | then-count-eq0-via-else-count-eq0+then-count w ↦ omega arith
      | then-count-eq0-via-else-count-eq0+else-count+then-count-ne0 w ↦ omega arith
    ] in
    no_hex bytes _ c.args.at _ (take_rest bytes c.args.at) c.hex_digit_count-count.ensures other none

pub decoded-requires-clause-lower : goal.decoded-requires-clause-lower
decoded-requires-clause-lower c = run_lower _ _ c.hex_digit_count-count.ensures

pub returns-clause-found : goal.returns-clause-found
returns-clause-found c =
    run_is_hex c.args.bytes.now _ c.args.at c.in_ok-content.content.items _ c.requires (take_rest c.args.bytes.now c.args.at) c.hex_digit_count-count.ensures
    (omega arith) c.if-count.false c.in_ok-content.ensures.0 c.in_ok-content.ensures.1
