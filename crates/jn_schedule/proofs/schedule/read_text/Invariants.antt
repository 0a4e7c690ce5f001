use Rattle.jn_schedule.proofs.Common.{◌≡◌, ◌+◌, ◌-◌, ◌≤◌, List, length, map, Event, word_lines, words_of, in_front, lines_from, read_lines}
use Rattle.jn_schedule.proofs.Lines.{Keeps}
use Rattle.jn_schedule.proofs.schedule.read_text.Given as goal

abbrev pub invariant-loop-at : goal.invariant-loop-at
invariant-loop-at l = record {
  counted : l.number ≤ l.at;
  within : l.at ≤ length l.text + 1;
  front : List Event;
  so_far : in_front front (read_lines (l.number + 1) (map words_of (lines_from l.at l.text))) ≡ read_lines 1 (word_lines l.text);
  few : length l.events.items ≤ l.most;
  kept : Keeps l.many l.most front l.events.items;
}

abbrev pub decreases-loop-at : goal.decreases-loop-at
decreases-loop-at l = length l.text + 1 - l.at
