use Rattle.jn_server.proofs.Common.{subst, sym, StoreView, OnOk, state, server_again, added, Parts, view_with, memory_of, IsServer, ◌≡◌, []}
use Rattle.jn_server.proofs.Stepping.{sent-again}
use Rattle.jn_server.proofs.server.Server.again.Goals as goal

pub returns : goal.returns
returns g c =
    let look : g.row.S.Denot → StoreView = λ s. g.S.StableStore.view s in
    let inside : Parts g.row.S.Denot = record { storage = c.self.inside.storage; worker = c.self.inside.worker; coordinator = c.self.inside.coordinator; tickets = c.self.inside.tickets } in
    let v = view_with look inside in
    let serves : IsServer v = subst (λ (s : Parts g.row.S.Denot). IsServer (view_with look s)) (sym c.self.view_is) c.requires.serves in
    record {
      sent = subst (λ (s : Parts g.row.S.Denot). let x = view_with look s in OnOk c.again-2.result (c.again-2.new.out ≡ added c.args.out.now (server_again (memory_of x) (state x.storage)) [])) c.self.view_is
          (sent-again c.again-2.result v c.args.out.now c.again.new.out c.again-2.new.out serves c.in_ok-again.ensures c.again-2.ensures.ok);
    }
