use Rattle.jn_server.proofs.Common.{ap, subst, StoreView, found_on, counts_in, IsLeft, Parts, view_with}
use Rattle.jn_server.proofs.server.Server.crash.Goals as goal

pub returns-clause-left : goal.returns-clause-left
returns-clause-left g c =
    let look : g.row.S.Denot → StoreView = λ s. g.S.StableStore.view s in
    let inside : Parts g.row.S.Denot = record { storage = c.self.inside.storage; worker = c.self.inside.worker; coordinator = c.self.inside.coordinator; tickets = c.self.inside.tickets } in
    let v = view_with look inside in
    let same = ap look c.into_store.ensures.same in
    subst (λ (s : Parts g.row.S.Denot). IsLeft (view_with look s) (look c.into_store.result)) c.self.view_is
    (record { same = same; recoverable = c.into_store.ensures.recoverable; found = λ b. ap (λ (x : StoreView). found_on (counts_in v.storage.accounts) x b) same })
