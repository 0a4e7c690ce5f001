use Rattle.jn_server.proofs.Common.{view_with, ◌-◌, ◌^◌, BlockNo, number_after}
use Rattle.jn_server.proofs.server.Server.show_blocks.Given as goal
use Rattle.jn_server.proofs.Pieces.{BlocksTold}

-- the blocks so far are told
abbrev pub invariant-loop-block : goal.invariant-loop-block
invariant-loop-block g l = BlocksTold (view_with (λ s. g.S.StableStore.view s) l.fn.self) l.fn.file l.fn.list.items (number_after (λ (p : BlockNo). p.0) l.after) (view_with (λ s. g.S.StableStore.view s) l.self) l.list.items

abbrev pub decreases-loop-block : goal.decreases-loop-block
decreases-loop-block g l = 2 ^ 16 - number_after (λ (p : BlockNo). p.0) l.after
