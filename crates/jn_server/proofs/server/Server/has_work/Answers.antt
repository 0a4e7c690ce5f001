use Rattle.jn_server.proofs.Common.{◌≡◌, subst, sym, is_some, StoreView, state, server_step, Parts, view_with, memory_of, room_of, IsServer}
use Rattle.jn_server.proofs.Stepping.{work_goes, rubbish_left}
use Rattle.jn_server.proofs.server.Server.has_work.Goals as goal

pub returns-then-has_going-clause-work : goal.returns-then-has_going-clause-work
returns-then-has_going-clause-work g c =
    let look : g.row.S.Denot → StoreView = λ s. g.S.StableStore.view s in
    let inside : Parts g.row.S.Denot = record { storage = c.self.inside.storage; worker = c.self.inside.worker; coordinator = c.self.inside.coordinator; tickets = c.self.inside.tickets } in
    let serves : IsServer (view_with look inside) = subst (λ (s : Parts g.row.S.Denot). IsServer (view_with look s)) (sym c.self.view_is) c.requires.serves in
    let steps = c.has_going.ensures.steps (view_with look inside).storage c.self.inside.tickets serves.works in
    subst (λ (s : Parts g.row.S.Denot). let x = view_with look s in c.has_going.result ≡ is_some (server_step (memory_of x) (state x.storage) (room_of x.storage))) c.self.view_is
    (work_goes (view_with look inside) c.has_going.result steps c.if-has_going.true)

pub returns-else-has_going-clause-work : goal.returns-else-has_going-clause-work
returns-else-has_going-clause-work g c =
    let look : g.row.S.Denot → StoreView = λ s. g.S.StableStore.view s in
    let inside : Parts g.row.S.Denot = record { storage = c.self.inside.storage; worker = c.self.inside.worker; coordinator = c.self.inside.coordinator; tickets = c.self.inside.tickets } in
    let serves : IsServer (view_with look inside) = subst (λ (s : Parts g.row.S.Denot). IsServer (view_with look s)) (sym c.self.view_is) c.requires.serves in
    let steps = c.has_going.ensures.steps (view_with look inside).storage c.self.inside.tickets serves.works in
    subst (λ (s : Parts g.row.S.Denot). let x = view_with look s in c.has_rubbish.result ≡ is_some (server_step (memory_of x) (state x.storage) (room_of x.storage))) c.self.view_is
    (rubbish_left (view_with look inside) c.has_going.result steps c.if-has_going.false c.has_rubbish.result c.has_rubbish.ensures)
