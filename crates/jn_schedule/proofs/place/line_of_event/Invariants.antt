use Rattle.jn_schedule.proofs.Common.{◌≡◌, ◌+◌, ◌-◌, ◌≤◌, length, map, event_line, line_of_event, words_of, lines_from}
use Rattle.jn_schedule.proofs.place.line_of_event.Given as goal

abbrev pub invariant-loop-at : goal.invariant-loop-at
invariant-loop-at l = record {
  counted : l.number ≤ l.at;
  within : l.at ≤ length l.text + 1;
  so_far : event_line (l.number + 1) (map words_of (lines_from l.at l.text)) l.left ≡ line_of_event l.text l.index;
}

abbrev pub decreases-loop-at : goal.decreases-loop-at
decreases-loop-at l = length l.text + 1 - l.at
