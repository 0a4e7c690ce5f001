use Rattle.jn_server.proofs.Common.{beside_of, ◌≡◌, [], ap, refl, subst, sym, StoreView, view_of, table_of, close_clients_row, of_coordinator, close-aside, IsDone, Does, Parts, view_with, memory_of, IsServer, row_calls}
use Rattle.jn_server.proofs.Coordinating.{coordinated, closing_failed}
use Rattle.jn_server.proofs.server.Server.close_clients.Goals as goal

pub returns-clause-does : goal.returns-clause-does
returns-clause-does g c =
    let look : g.row.S.Denot → StoreView = λ s. g.S.StableStore.view s in
    let inside : Parts g.row.S.Denot = record { storage = c.self.inside.storage; worker = c.self.inside.worker; coordinator = c.self.inside.coordinator; tickets = c.self.inside.tickets } in
    let v = view_with look inside in
    let serves : IsServer v = subst (λ (s : Parts g.row.S.Denot). IsServer (view_with look s)) (sym c.self.view_is) c.requires.serves in
    let h = c.in_ok-close_clients.ensures in
    λ before. subst (λ (s : Parts g.row.S.Denot). IsDone row_calls (of_coordinator (memory_of (view_with look s)) (close_clients_row (table_of s.coordinator) s.tickets)) (view_with look s) before
    (view_with look (record { storage = c.close_clients.new.store; worker = c.self.inside.worker; coordinator = c.close_clients.new.self; tickets = c.self.inside.tickets })) before) c.self.view_is
    (coordinated v serves (close_clients_row (table_of v.coordinator) v.tickets) (close-aside (table_of v.coordinator) v.tickets) before c.close_clients.new.self
    (view_of c.close_clients.new.store.1 (look c.close_clients.new.store.0)) before v.tickets (h.does v.tickets before) refl (h.tickets v.tickets serves.transactions_before))

pub returns-in_err-close_clients-clause-does : goal.returns-in_err-close_clients-clause-does
returns-in_err-close_clients-clause-does g c =
    let look : g.row.S.Denot → StoreView = λ s. g.S.StableStore.view s in
    let inside : Parts g.row.S.Denot = record { storage = c.self.inside.storage; worker = c.self.inside.worker; coordinator = c.self.inside.coordinator; tickets = c.self.inside.tickets } in
    let v = view_with look inside in
    let serves : IsServer v = subst (λ (s : Parts g.row.S.Denot). IsServer (view_with look s)) (sym c.self.view_is) c.requires.serves in
    let h = c.in_err-close_clients.ensures in
    λ before. subst (λ (s : Parts g.row.S.Denot). Does row_calls (of_coordinator (memory_of (view_with look s)) (close_clients_row (table_of s.coordinator) s.tickets)) (view_with look s) before c.from_residual.result
    (view_with look (record { storage = c.close_clients.new.store; worker = c.self.inside.worker; coordinator = c.close_clients.new.self; tickets = c.self.inside.tickets })) before) c.self.view_is
    (closing_failed v serves (close_clients_row (table_of v.coordinator) v.tickets) (close-aside (table_of v.coordinator) v.tickets) before c.close_clients.new.self
    (view_of c.close_clients.new.store.1 (look c.close_clients.new.store.0)) before v.tickets (Unit {0}) c.in_err-close_clients.field-0.0 c.from_residual.result c.from_residual.ensures.0 c.from_residual.ensures.1
    h.stopped refl (h.does v.tickets before))

pub returns-clause-beside : goal.returns-clause-beside
returns-clause-beside g c =
    let look : g.row.S.Denot → StoreView = λ s. g.S.StableStore.view s in
    let done = c.in_ok-close_clients.ensures.does c.self.inside.tickets (record { messages = []; notes = [] }) in
    subst (λ (s : Parts g.row.S.Denot). beside_of (view_of c.close_clients.new.store.1 (look c.close_clients.new.store.0)).accounts ≡ beside_of (view_with look s).storage.accounts) c.self.view_is
    (ap beside_of done.accounts)

pub close_clients-requires : goal.close_clients-requires
close_clients-requires g c =
    let look : g.row.S.Denot → _ = λ s. g.S.StableStore.view s in
    let inside : Parts g.row.S.Denot = record { storage = c.self.inside.storage; worker = c.self.inside.worker; coordinator = c.self.inside.coordinator; tickets = c.self.inside.tickets } in
    let serves : IsServer (view_with look inside) = subst (λ (s : Parts g.row.S.Denot). IsServer (view_with look s)) (sym c.self.view_is) c.requires.serves in
    record { fits = serves.transactions }
