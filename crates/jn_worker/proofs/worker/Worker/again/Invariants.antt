use Rattle.jn_worker.proofs.Common.{◌≡◌, ◌++◌, drop, asked_again}
use Rattle.jn_worker.proofs.worker.Worker.again.Given as goal

abbrev pub invariant-loop-work : goal.invariant-loop-work
invariant-loop-work l = record {
  notes : l.out.notes ≡ l.fn.out.notes;
  messages : l.out.messages ++ asked_again l.self-inside.going.items (drop l.work-index l.self-inside.works.items) ≡ l.fn.out.messages ++ asked_again l.self-inside.going.items l.self-inside.works.items;
}
