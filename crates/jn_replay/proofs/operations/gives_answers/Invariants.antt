use Rattle.jn_replay.proofs.Common.{◌≡◌, ◌↔◌, drop, files_of, files_then, GivesAnswers}
use Rattle.jn_replay.proofs.operations.gives_answers.Given as goal

abbrev pub invariant-loop-p : goal.invariant-loop-p
invariant-loop-p l = record {
  answers : GivesAnswers (files_of l.initial.files) l.ops ↔ GivesAnswers (files_of l.files) (drop l.p-index l.ops);
  after : files_then (drop l.p-index l.ops) (files_of l.files) ≡ files_then l.ops (files_of l.initial.files);
}
