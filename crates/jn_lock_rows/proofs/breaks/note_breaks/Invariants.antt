use Rattle.jn_lock_rows.proofs.Common.{◌≡◌, ◌++◌, drop, notes_of}
use Rattle.jn_lock_rows.proofs.breaks.note_breaks.Given as goal

abbrev pub invariant-loop-b : goal.invariant-loop-b
invariant-loop-b l = record {
  messages : l.out.messages ≡ l.fn.out.messages;
  notes : l.out.notes ++ notes_of l.by (drop l.b-index l.broken) l.works ≡ l.fn.out.notes ++ notes_of l.by l.broken l.works;
}
