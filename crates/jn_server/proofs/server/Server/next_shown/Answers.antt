use Rattle.jn_server.proofs.Common.{sym, subst, is_some, File, StoreView, to_print, Parts, view_with, FileNo, NextAfter, IsServer}
use Rattle.jn_server.proofs.Shows.{next-shown}
use Rattle.jn_server.proofs.server.Server.next_shown.Goals as goal

pub returns : goal.returns
returns g c =
    let look : g.row.S.Denot → StoreView = λ s. g.S.StableStore.view s in
    let inside : Parts g.row.S.Denot = record { storage = c.self.inside.storage; worker = c.self.inside.worker; coordinator = c.self.inside.coordinator; tickets = c.self.inside.tickets } in
    subst (λ (s : Parts g.row.S.Denot). NextAfter (λ (f : FileNo). f.0) (λ f. is_some (to_print (view_with look s) (File f))) c.args.after c.lesser_file.result) c.self.view_is
    (subst (NextAfter (λ (f : FileNo). f.0) (λ f. is_some (to_print (view_with look inside) (File f))) c.args.after) (sym c.lesser_file.ensures)
    (next-shown (view_with look inside) c.args.after c.next_file-stored.result c.next_locked-locked.result c.next_file-stored.ensures c.next_locked-locked.ensures))

pub next_file-stored-requires : goal.next_file-stored-requires
next_file-stored-requires g c =
    let look : g.row.S.Denot → StoreView = λ s. g.S.StableStore.view s in
    let inside : Parts g.row.S.Denot = record { storage = c.self.inside.storage; worker = c.self.inside.worker; coordinator = c.self.inside.coordinator; tickets = c.self.inside.tickets } in
    let serves : IsServer (view_with look inside) = subst (λ (s : Parts g.row.S.Denot). IsServer (view_with look s)) (sym c.self.view_is) c.requires.serves in
    record { serving = serves.works.serving }
