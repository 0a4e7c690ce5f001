use Rattle.jn_replay.proofs.Common.{◌≡◌, ◌↔◌, drop, files_of, files_by_all, GivesReplies}
use Rattle.jn_replay.proofs.replies.gives_replies.Given as goal

abbrev pub invariant-loop-r : goal.invariant-loop-r
invariant-loop-r l = record {
  replies : GivesReplies (files_of l.initial.files) l.replied ↔ GivesReplies (files_of l.files) (drop l.r-index l.replied);
  after : files_by_all (drop l.r-index l.replied) (files_of l.files) ≡ files_by_all l.replied (files_of l.initial.files);
}
