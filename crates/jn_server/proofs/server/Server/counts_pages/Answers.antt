use Rattle.jn_server.proofs.Common.{subst, StoreView, Parts, view_with, CountsPages, StandsOnPages}
use Rattle.jn_server.proofs.Counted.{all-counted}
use Rattle.jn_server.proofs.Room.{counts_of_pages}
use Rattle.jn_server.proofs.server.Server.counts_pages.Goals as goal

pub returns : goal.returns
returns g c =
    let look : g.row.S.Denot → StoreView = λ s. g.S.StableStore.view s in
    let inside : Parts g.row.S.Denot = record { storage = c.self.inside.storage; worker = c.self.inside.worker; coordinator = c.self.inside.coordinator; tickets = c.self.inside.tickets } in
    let counts : CountsPages (view_with look inside) = counts_of_pages c.self.inside.storage.1 (look c.self.inside.storage.0) c.self.inside.worker c.self.inside.coordinator c.self.inside.tickets c.is_kept.ensures.kept in
    subst (λ (s : Parts g.row.S.Denot). StandsOnPages (view_with look s)) c.self.view_is (record {
      counts = counts;
      all = λ serves. all-counted (view_with look inside) serves counts;
      recoverable = c.is_kept.ensures.recoverable;
    })
