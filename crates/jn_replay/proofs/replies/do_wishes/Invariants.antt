use Rattle.jn_replay.proofs.Common.{◌≡◌, drop, files_of, files_by_all}
use Rattle.jn_replay.proofs.replies.do_wishes.Given as goal

abbrev pub invariant-loop-r : goal.invariant-loop-r
invariant-loop-r l = files_by_all (drop l.r-index l.replied) (files_of l.files) ≡ files_by_all l.replied (files_of l.initial.files)
