use Rattle.jn_schedule.proofs.Common.{◌≡◌, ◌≤◌, ◌-◌, true, take, length, lacks}
use Rattle.jn_schedule.proofs.words.word_length.Given as goal

abbrev pub invariant-loop-end : goal.invariant-loop-end
invariant-loop-end l = record {
  within : l.end ≤ length l.text;
  no_space : lacks 32 (take l.end l.text) ≡ true;
  no_feed : lacks 10 (take l.end l.text) ≡ true;
}

abbrev pub decreases-loop-end : goal.decreases-loop-end
decreases-loop-end l = length l.text - l.end
