use Rattle.jn_schedule.proofs.Common.{◌≡◌, ◌||◌, drop, is_ascii_uppercase, list_any}
use Rattle.jn_schedule.proofs.word.has_upper_case.Given as goal

abbrev pub invariant-loop-byte : goal.invariant-loop-byte
invariant-loop-byte l = (l.found || list_any is_ascii_uppercase (drop l.byte-index l.word)) ≡ list_any is_ascii_uppercase l.word
