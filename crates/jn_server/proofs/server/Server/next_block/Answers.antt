use Rattle.jn_server.proofs.Common.{sym, subst, is_some, BlockNo, Block, StoreView, to_print, Parts, view_with, NextAfter, IsServer}
use Rattle.jn_server.proofs.Shows.{next-block}
use Rattle.jn_server.proofs.server.Server.next_block.Goals as goal

pub returns : goal.returns
returns g c =
    let look : g.row.S.Denot → StoreView = λ s. g.S.StableStore.view s in
    let inside : Parts g.row.S.Denot = record { storage = c.self.inside.storage; worker = c.self.inside.worker; coordinator = c.self.inside.coordinator; tickets = c.self.inside.tickets } in
    subst (λ (s : Parts g.row.S.Denot). NextAfter (λ (p : BlockNo). p.0) (λ p. is_some (to_print (view_with look s) (Block c.args.file p))) c.args.after c.lesser_block.result) c.self.view_is
    (subst (NextAfter (λ (p : BlockNo). p.0) (λ p. is_some (to_print (view_with look inside) (Block c.args.file p))) c.args.after) (sym c.lesser_block.ensures)
    (next-block (view_with look inside) c.args.file c.args.after c.next_block-stored.result c.next_locked_block-locked.result c.next_block-stored.ensures c.next_locked_block-locked.ensures))

pub next_block-stored-requires : goal.next_block-stored-requires
next_block-stored-requires g c =
    let look : g.row.S.Denot → StoreView = λ s. g.S.StableStore.view s in
    let inside : Parts g.row.S.Denot = record { storage = c.self.inside.storage; worker = c.self.inside.worker; coordinator = c.self.inside.coordinator; tickets = c.self.inside.tickets } in
    let serves : IsServer (view_with look inside) = subst (λ (s : Parts g.row.S.Denot). IsServer (view_with look s)) (sym c.self.view_is) c.requires.serves in
    record { serving = serves.works.serving }
