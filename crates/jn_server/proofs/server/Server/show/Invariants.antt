use Rattle.jn_server.proofs.Common.{◌-◌, ◌^◌, view_with, FileNo, number_after}
use Rattle.jn_server.proofs.Shows.{ToldBelow}
use Rattle.jn_server.proofs.server.Server.show.Given as goal

-- the files so far are reported
abbrev pub invariant-loop-file : goal.invariant-loop-file
invariant-loop-file g l = ToldBelow (view_with (λ s. g.S.StableStore.view s) l.fn.self) (number_after (λ (f : FileNo). f.0) l.after) (view_with (λ s. g.S.StableStore.view s) l.self) l.list.items

abbrev pub decreases-loop-file : goal.decreases-loop-file
decreases-loop-file g l = 2 ^ 32 - number_after (λ (f : FileNo). f.0) l.after
