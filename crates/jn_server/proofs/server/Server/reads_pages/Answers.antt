use Rattle.jn_server.proofs.Common.{◌≡◌, true, subst, sym, StoreView, state, Parts, view_with, IsServer, IsRoomOfPages, counts_in, CountsAll, standing_pages, are_rising}
use Rattle.jn_server.proofs.Counted.{all-counted}
use Rattle.jn_server.proofs.Room.{room_of_pages, counts_of_pages}
use Rattle.jn_server.proofs.server.Server.reads_pages.Goals as goal

pub returns : goal.returns
returns g c =
    let look : g.row.S.Denot → StoreView = λ s. g.S.StableStore.view s in
    let inside : Parts g.row.S.Denot = record { storage = c.self.inside.storage; worker = c.self.inside.worker; coordinator = c.self.inside.coordinator; tickets = c.self.inside.tickets } in
    let serves : IsServer (view_with look inside) = subst (λ (s : Parts g.row.S.Denot). IsServer (view_with look s)) (sym c.self.view_is) c.requires.serves in
    record {
      room = subst (λ (s : Parts g.row.S.Denot). IsRoomOfPages (view_with look s)) c.self.view_is
          (room_of_pages c.self.inside.storage.1 (look c.self.inside.storage.0) c.self.inside.worker c.self.inside.coordinator c.self.inside.tickets serves c.is_in_order.ensures c.is_kept.ensures.kept);
      counted = subst (λ (s : Parts g.row.S.Denot). let x = view_with look s in CountsAll (counts_in x.storage.accounts) (state x.storage) (standing_pages x.storage.store)) c.self.view_is
          (all-counted (view_with look inside) serves
          (counts_of_pages c.self.inside.storage.1 (look c.self.inside.storage.0) c.self.inside.worker c.self.inside.coordinator c.self.inside.tickets c.is_kept.ensures.kept));
      order = subst (λ (s : Parts g.row.S.Denot). are_rising (view_with look s).worker.table ≡ true) c.self.view_is c.is_in_order.ensures;
    }
