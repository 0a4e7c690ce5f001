use Rattle.jn_server.proofs.Common.{subst, sym, ap, StoreView, TimesOut, Parts, view_with, IsServer}
use Rattle.jn_server.proofs.Serving.{timed-out}
use Rattle.jn_server.proofs.server.Server.timeout.Goals as goal

pub returns : goal.returns
returns g c =
    let look : g.row.S.Denot → StoreView = λ s. g.S.StableStore.view s in
    let inside : Parts g.row.S.Denot = record { storage = c.self.inside.storage; worker = c.self.inside.worker; coordinator = c.self.inside.coordinator; tickets = c.self.inside.tickets } in
    let serves : IsServer (view_with look inside) = subst (λ (s : Parts g.row.S.Denot). IsServer (view_with look s)) (sym c.self.view_is) c.requires.serves in
    record {
      times_out = subst (λ (s : Parts g.row.S.Denot). TimesOut c.args.tid (view_with look s) c.timeout.result (view_with look (record { storage = c.self.inside.storage; worker = c.timeout.new.self; coordinator = c.self.inside.coordinator; tickets = c.self.inside.tickets }))) c.self.view_is
          (timed-out c.args.tid (view_with look inside) c.timeout.result c.timeout.new.self serves c.timeout.ensures);
      storage = ap (λ (s : Parts g.row.S.Denot). s.storage) c.self.view_is;
    }
