use Rattle.jn_server.proofs.Common.{subst, StoreView, view_of, Parts, view_with, Befalls}
use Rattle.jn_server.proofs.Serving.{befallen}
use Rattle.jn_server.proofs.server.Server.clear_outside.Goals as goal

pub returns-clause-befalls : goal.returns-clause-befalls
returns-clause-befalls g c =
    let look : g.row.S.Denot → StoreView = λ s. g.S.StableStore.view s in
    let inside : Parts g.row.S.Denot = record { storage = c.self.inside.storage; worker = c.self.inside.worker; coordinator = c.self.inside.coordinator; tickets = c.self.inside.tickets } in
    subst (λ (s : Parts g.row.S.Denot). Befalls (view_with look s) (view_with look (record { storage = c.clear_outside.new.self; worker = c.self.inside.worker; coordinator = c.self.inside.coordinator; tickets = c.self.inside.tickets }))) c.self.view_is
    (befallen (view_with look inside) (view_of c.clear_outside.new.self.1 (look c.clear_outside.new.self.0)) c.clear_outside.ensures.befalls)
