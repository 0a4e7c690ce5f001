use Rattle.jn_schedule.proofs.Common.{◌≡◌, ◌+◌, ◌-◌, ◌++◌, ◌≤◌, ℕ, List, Bool, length, map, take, drop, Ok, Err, ap, sym, ◌∙◌, subst, arith, length-drop, err_from_is_err_and, Event, word_lines, words_of, AddsLine, in_front, read_line, read_lines, texts}
use Rattle.jn_schedule.proofs.Lines.{Keeps, exits, goes_on, is_done, keeps_on, lets_go}
use Rattle.jn_schedule.proofs.Splits.{lines_done, lines_on}
use Rattle.jn_schedule.proofs.TextParts.{rest_is}
use Rattle.jn_schedule.proofs.schedule.read_text.Goals as goal

pub loop-at-preserved-then-len-most : goal.loop-at-preserved-then-len-most
loop-at-preserved-then-len-most c =
    let text = c.args.text.now in
    let total = read_lines 1 (word_lines text) in
    let front = c.loop-at.invariant.front in
    let end = c.in_ok-line.line in
    let on = lines_on text _ c.loop-at.at end (omega (arith, c.loop-at-test.true)) (rest_is text c.loop-at.at) c.in_ok-line.ensures.line in
    let words : texts c.deref.result.now ≡ words_of (take end (take (length text - c.loop-at.at) (drop c.loop-at.at text))) = subst (λ (l : _). texts l ≡ words_of (take end (take (length text - c.loop-at.at) (drop c.loop-at.at text)))) (sym c.deref.ensures.value) c.in_ok-line.ensures.words in
    let so_far = subst (λ (ls : List (List ℕ)). in_front front (read_lines (c.loop-at.number + 1) (map words_of ls)) ≡ total) on c.loop-at.invariant.so_far in
    let adds = c.in_ok-read_line.ensures in
    record {
      counted = omega (arith, c.loop-at.invariant.counted);
      within = omega (arith, c.in_ok-line.ensures.within, length-drop c.loop-at.at text, ap length (rest_is text c.loop-at.at), c.loop-at-test.true);
      front = front ++ adds.0;
      so_far = goes_on front adds.0 (c.loop-at.number + 1) _ _ total (ap read_line (sym words) ∙ adds.1) so_far;
      few = subst (λ (l : List Event). length l ≤ c.args.most) (sym c.clear.ensures.items) (omega arith);
      kept = lets_go c.loop-at.many c.args.most front c.loop-at.events.items adds.0 c.read_line.new.events.items c.loop-at.invariant.kept adds.2 (omega (arith, c.if-len-most.true, c.len.ensures));
    }

pub loop-at-preserved : goal.loop-at-preserved
loop-at-preserved c =
    let text = c.args.text.now in
    let total = read_lines 1 (word_lines text) in
    let front = c.loop-at.invariant.front in
    let end = c.in_ok-line.line in
    let on = lines_on text _ c.loop-at.at end (omega (arith, c.loop-at-test.true)) (rest_is text c.loop-at.at) c.in_ok-line.ensures.line in
    let words : texts c.deref.result.now ≡ words_of (take end (take (length text - c.loop-at.at) (drop c.loop-at.at text))) = subst (λ (l : _). texts l ≡ words_of (take end (take (length text - c.loop-at.at) (drop c.loop-at.at text)))) (sym c.deref.ensures.value) c.in_ok-line.ensures.words in
    let so_far = subst (λ (ls : List (List ℕ)). in_front front (read_lines (c.loop-at.number + 1) (map words_of ls)) ≡ total) on c.loop-at.invariant.so_far in
    let adds = c.in_ok-read_line.ensures in
    record {
      counted = omega (arith, c.loop-at.invariant.counted);
      within = omega (arith, c.in_ok-line.ensures.within, length-drop c.loop-at.at text, ap length (rest_is text c.loop-at.at), c.loop-at-test.true);
      front = front ++ adds.0;
      so_far = goes_on front adds.0 (c.loop-at.number + 1) _ _ total (ap read_line (sym words) ∙ adds.1) so_far;
      few = omega (arith, c.if-len-most.false, c.len.ensures);
      kept = keeps_on c.loop-at.many c.args.most front c.loop-at.events.items adds.0 c.read_line.new.events.items c.loop-at.invariant.kept adds.2;
    }

pub returns-in_err-read_line : goal.returns-in_err-read_line
returns-in_err-read_line c =
    let text = c.args.text.now in
    let total = read_lines 1 (word_lines text) in
    let front = c.loop-at.invariant.front in
    let end = c.in_ok-line.line in
    let on = lines_on text _ c.loop-at.at end (omega (arith, c.loop-at-test.true)) (rest_is text c.loop-at.at) c.in_ok-line.ensures.line in
    let words : texts c.deref.result.now ≡ words_of (take end (take (length text - c.loop-at.at) (drop c.loop-at.at text))) = subst (λ (l : _). texts l ≡ words_of (take end (take (length text - c.loop-at.at) (drop c.loop-at.at text)))) (sym c.deref.ensures.value) c.in_ok-line.ensures.words in
    let so_far = subst (λ (ls : List (List ℕ)). in_front front (read_lines (c.loop-at.number + 1) (map words_of ls)) ≡ total) on c.loop-at.invariant.so_far in
    let p = err_from_is_err_and c.from_residual-in_err-read_line.result c.from_residual-in_err-read_line.ensures.1 in
    let exit = subst (λ (ws : List (List ℕ)). AddsLine (Err c.in_err-read_line.field-0.0) (c.loop-at.number + 1) (read_line ws) c.loop-at.events.items c.read_line.new.events.items) words c.in_err-read_line.ensures in
    rw (p.1, p.2) (exits front (c.loop-at.number + 1) _ _ total c.in_err-read_line.field-0.0 _ _ exit so_far)

pub returns-then-many : goal.returns-then-many
returns-then-many c =
    let total = read_lines 1 (word_lines c.args.text.now) in
    let front = c.loop-at.invariant.front in
    let read = is_done front (c.loop-at.number + 1) total (subst (λ (ls : List (List ℕ)). in_front front (read_lines (c.loop-at.number + 1) (map words_of ls)) ≡ total) (lines_done c.args.text.now c.loop-at.at (omega (arith, c.loop-at-test.false))) c.loop-at.invariant.so_far) in
    (front, read, subst (λ (many : Bool). Keeps many c.args.most front c.loop-at.events.items) c.if-many.true c.loop-at.invariant.kept)

pub returns-else-many : goal.returns-else-many
returns-else-many c =
    let total = read_lines 1 (word_lines c.args.text.now) in
    let front = c.loop-at.invariant.front in
    let read = is_done front (c.loop-at.number + 1) total (subst (λ (ls : List (List ℕ)). in_front front (read_lines (c.loop-at.number + 1) (map words_of ls)) ≡ total) (lines_done c.args.text.now c.loop-at.at (omega (arith, c.loop-at-test.false))) c.loop-at.invariant.so_far) in
    let same = subst (λ (many : Bool). Keeps many c.args.most front c.loop-at.events.items) c.if-many.false c.loop-at.invariant.kept in
    (read ∙ ap (λ (l : List Event). Ok l) same, c.loop-at.invariant.few)
