use Rattle.jn_world.proofs.Common.{lines_at, lines_of, commits_in, ◌≡◌, ◌++◌, drop}
use Rattle.jn_world.proofs.world.World.tell_notes.Given as goal

abbrev pub invariant-loop-note : goal.invariant-loop-note
invariant-loop-note g l = record {
  others : l.self ≡ record l.initial.self { named = l.self.named };
  names : l.self.named.names.items ++ commits_in (lines_of l.server l.message (drop l.note-index l.notes)) ≡ l.initial.self.named.names.items ++ commits_in (lines_of l.server l.message l.notes);
  told : l.told.items ++ lines_at l.when (lines_of l.server l.message (drop l.note-index l.notes)) ≡ l.initial.told.items ++ lines_at l.when (lines_of l.server l.message l.notes);
}
