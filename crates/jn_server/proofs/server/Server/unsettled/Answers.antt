use Rattle.jn_server.proofs.Common.{not, subst, sym, StoreView, state, Parts, view_with, IsServer, ◌↔◌, IsFalse, IsSettledState}
use Rattle.jn_server.proofs.Settled.{waits, waits-for-flags}
use Rattle.jn_server.proofs.server.Server.unsettled.Goals as goal
use Rattle.jn_server.proofs.server.Server.unsettled.Goals.{then-is_empty, else-is_empty}

pub returns : goal.returns
returns g c =
    let look : g.row.S.Denot → StoreView = λ s. g.S.StableStore.view s in
    let inside : Parts g.row.S.Denot = record { storage = c.self.inside.storage; worker = c.self.inside.worker; coordinator = c.self.inside.coordinator; tickets = c.self.inside.tickets } in
    let v = view_with look inside in
    let settled : IsFalse (not c.if-is_empty.result) ↔ IsSettledState (state v.storage) = elim c.if-is_empty.branch [
      | then-is_empty w ↦ rw w.result-is
          (waits-for-flags v.storage c.works.result.now c.works.ensures c.is_empty.result c.is_empty.ensures w.flags.result.now w.flags.ensures w.is_empty-then-is_empty.result w.is_empty-then-is_empty.ensures w.if-is_empty.true)
      | else-is_empty w ↦ rw w.result-is (waits v.storage c.works.result.now c.works.ensures c.is_empty.result c.is_empty.ensures w.if-is_empty.false)
    ] in
    record { settled = subst (λ (s : Parts g.row.S.Denot). IsFalse (not c.if-is_empty.result) ↔ IsSettledState (state (view_with look s).storage)) c.self.view_is settled }

pub works-requires : goal.works-requires
works-requires g c =
    let look : g.row.S.Denot → StoreView = λ s. g.S.StableStore.view s in
    let inside : Parts g.row.S.Denot = record { storage = c.self.inside.storage; worker = c.self.inside.worker; coordinator = c.self.inside.coordinator; tickets = c.self.inside.tickets } in
    let serves : IsServer (view_with look inside) = subst (λ (s : Parts g.row.S.Denot). IsServer (view_with look s)) (sym c.self.view_is) c.requires.serves in
    record { serving = serves.works.serving }

pub flags-requires : goal.flags-requires
flags-requires g c =
    let look : g.row.S.Denot → StoreView = λ s. g.S.StableStore.view s in
    let inside : Parts g.row.S.Denot = record { storage = c.self.inside.storage; worker = c.self.inside.worker; coordinator = c.self.inside.coordinator; tickets = c.self.inside.tickets } in
    let serves : IsServer (view_with look inside) = subst (λ (s : Parts g.row.S.Denot). IsServer (view_with look s)) (sym c.self.view_is) c.requires.serves in
    record { serving = serves.works.serving }
