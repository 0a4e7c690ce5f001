use Rattle.jn_schedule.proofs.Common.{◌≡◌, true, take, lacks}
use Rattle.jn_schedule.proofs.words.plain_length.Given as goal

abbrev pub invariant-loop-i : goal.invariant-loop-i
invariant-loop-i l = record {
  no_space : lacks 32 (take l.i l.text) ≡ true;
  no_feed : lacks 10 (take l.i l.text) ≡ true;
}
