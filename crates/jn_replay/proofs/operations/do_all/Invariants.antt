use Rattle.jn_replay.proofs.Common.{◌≡◌, drop, files_of, files_then}
use Rattle.jn_replay.proofs.operations.do_all.Given as goal

abbrev pub invariant-loop-p : goal.invariant-loop-p
invariant-loop-p l = files_then (drop l.p-index l.ops) (files_of l.files) ≡ files_then l.ops (files_of l.initial.files)
