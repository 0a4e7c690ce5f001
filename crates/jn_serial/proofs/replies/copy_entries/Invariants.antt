use Rattle.std.proofs.Common.{◌≡◌, ◌++◌, drop}
use Rattle.jn_serial.proofs.replies.copy_entries.Given as goal

abbrev pub invariant-loop-entry : goal.invariant-loop-entry
invariant-loop-entry l = l.copied ++ drop l.entry-index l.entries ≡ l.entries
