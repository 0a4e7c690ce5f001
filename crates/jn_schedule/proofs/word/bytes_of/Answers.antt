use Rattle.jn_schedule.proofs.Common.{[], ◌∙◌, sym, length-take-le}
use Rattle.std.specs.Cmp.Lexicographic.{same_text, other_text}
use Rattle.jn_schedule.proofs.Blocks.{bytes_none, bytes_some}
use Rattle.jn_schedule.proofs.HexWords.{not_empty, not_long, some_count, spells_none, spells_some, spells_these}
use Rattle.jn_schedule.proofs.word.bytes_of.Goals as goal
use Rattle.jn_schedule.proofs.word.bytes_of.Goals.{then-is_empty-via-then-is_empty, then-is_empty-via-else-is_empty+then-count-gt-MOST_BYTES}

pub returns-then-eq : goal.returns-then-eq
returns-then-eq c = bytes_some c.args.word.now [] _ (spells_none _ (same_text _ _ c.if-eq.ensures ∙ c.as_slice.ensures)) c.in_ok-new.ensures

pub returns-then-is_empty : goal.returns-then-is_empty
returns-then-is_empty c = bytes_none c.args.word.now (λ stored spells.
    let some = spells_some stored c.args.word.now spells (λ e. other_text _ _ c.if-eq.ensures (e ∙ sym c.as_slice.ensures)) in
    elim c.then-is_empty.branch [
      | then-is_empty-via-then-is_empty w ↦ not_empty _ some w.if-is_empty.ensures
      | then-is_empty-via-else-is_empty+then-count-gt-MOST_BYTES w ↦ not_long _ some w.if-count-gt-MOST_BYTES.true
    ])

pub returns-then-not-decode : goal.returns-then-not-decode
returns-then-not-decode c = bytes_none c.args.word.now (λ stored spells.
    let some = spells_some stored c.args.word.now spells (λ e. other_text _ _ c.if-eq.ensures (e ∙ sym c.as_slice.ensures)) in
    c.if-not-decode.ensures some.bytes (some_count _ some ∙ sym (length-take-le _ _ c.if-count-gt-MOST_BYTES.false)) some.are_bytes some.spelled)

pub returns : goal.returns
returns c = bytes_some c.args.word.now c.decode.new.room _ (spells_these c.args.word.now c.decode.new.room c.if-is_empty.ensures c.if-count-gt-MOST_BYTES.false c.if-not-decode.ensures) c.in_ok-new-2.ensures
