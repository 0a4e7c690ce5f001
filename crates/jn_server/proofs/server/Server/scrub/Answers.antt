use Rattle.jn_server.proofs.Common.{subst, sym, StoreView, view_of, Parts, view_with, IsServer, Scrubbed, is_ok}
use Rattle.jn_server.proofs.Serving.{scrub-serves}
use Rattle.jn_server.proofs.server.Server.scrub.Goals as goal

pub returns-clause-serves : goal.returns-clause-serves
returns-clause-serves g c =
    let look : g.row.S.Denot → StoreView = λ s. g.S.StableStore.view s in
    let inside : Parts g.row.S.Denot = record { storage = c.self.inside.storage; worker = c.self.inside.worker; coordinator = c.self.inside.coordinator; tickets = c.self.inside.tickets } in
    let serves : IsServer (view_with look inside) = subst (λ (s : Parts g.row.S.Denot). IsServer (view_with look s)) (sym c.self.view_is) c.requires.serves in
    scrub-serves c.scrub.result (view_with look inside) (view_of c.scrub.new.self.1 (look c.scrub.new.self.0)) c.scrub.ensures.scrubbed serves

pub scrub-requires : goal.scrub-requires
scrub-requires g c =
    let look : g.row.S.Denot → StoreView = λ s. g.S.StableStore.view s in
    let inside : Parts g.row.S.Denot = record { storage = c.self.inside.storage; worker = c.self.inside.worker; coordinator = c.self.inside.coordinator; tickets = c.self.inside.tickets } in
    let serves : IsServer (view_with look inside) = subst (λ (s : Parts g.row.S.Denot). IsServer (view_with look s)) (sym c.self.view_is) c.requires.serves in
    record { serving = serves.works.serving }

pub returns-clause-scrubbed : goal.returns-clause-scrubbed
returns-clause-scrubbed g c =
    let look : g.row.S.Denot → StoreView = λ s. g.S.StableStore.view s in
    subst (λ (s : Parts g.row.S.Denot). Scrubbed (view_with look s).storage (is_ok c.scrub.result) (view_of c.scrub.new.self.1 (look c.scrub.new.self.0))) c.self.view_is c.scrub.ensures.scrubbed
