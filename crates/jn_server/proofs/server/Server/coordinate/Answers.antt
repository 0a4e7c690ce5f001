use Rattle.jn_server.proofs.Common.{beside_of, ap, subst, sym, view_of, free_of, table_of, coordinator_row, of_coordinator, coordinator-aside, Parts, view_with, memory_of, IsServer, IsDone, Does, LeavesBeside, row_calls, HoldsAll}
use Rattle.jn_server.proofs.Coordinating.{coordinated, coordinator-holds, flags-leave-none, coordinator_failed}
use Rattle.jn_server.proofs.server.Server.coordinate.Goals as goal

pub returns-clause-does : goal.returns-clause-does
returns-clause-does g c =
    let look : g.row.S.Denot → _ = λ s. g.S.StableStore.view s in
    let inside : Parts g.row.S.Denot = record { storage = c.self.inside.storage; worker = c.self.inside.worker; coordinator = c.self.inside.coordinator; tickets = c.self.inside.tickets } in
    let v = view_with look inside in
    let serves : IsServer v = subst (λ (s : Parts g.row.S.Denot). IsServer (view_with look s)) (sym c.self.view_is) c.requires.serves in
    let message = c.args.message.now in
    let h = c.in_ok-handle.ensures in
    subst (λ (s : Parts g.row.S.Denot). IsDone row_calls (of_coordinator (memory_of (view_with look s)) (coordinator_row (table_of s.coordinator) (free_of (view_of s.storage.1 (look s.storage.0))) s.tickets message)) (view_with look s) c.args.out.now
    (view_with look (record { storage = c.handle.new.store; worker = c.self.inside.worker; coordinator = c.handle.new.self; tickets = c.handle.new.tickets })) c.handle.new.out) c.self.view_is
    (coordinated v serves (coordinator_row (table_of v.coordinator) (free_of v.storage) v.tickets message) (coordinator-aside (table_of v.coordinator) (free_of v.storage) v.tickets message)
    _ _ _ _ _ h.handles.0 h.handles.1 h.tickets)

pub returns-clause-beside : goal.returns-clause-beside
returns-clause-beside g c =
    let look : g.row.S.Denot → _ = λ s. g.S.StableStore.view s in
    let inside : Parts g.row.S.Denot = record { storage = c.self.inside.storage; worker = c.self.inside.worker; coordinator = c.self.inside.coordinator; tickets = c.self.inside.tickets } in
    let v = view_with look inside in
    let serves : IsServer v = subst (λ (s : Parts g.row.S.Denot). IsServer (view_with look s)) (sym c.self.view_is) c.requires.serves in
    let message = c.args.message.now in
    let h = c.in_ok-handle.ensures in
    subst (λ (s : Parts g.row.S.Denot). LeavesBeside (view_with look s) (of_coordinator (memory_of (view_with look s)) (coordinator_row (table_of s.coordinator) (free_of (view_of s.storage.1 (look s.storage.0))) s.tickets message))
    (view_with look (record { storage = c.handle.new.store; worker = c.self.inside.worker; coordinator = c.handle.new.self; tickets = c.handle.new.tickets }))) c.self.view_is
    (flags-leave-none v serves (coordinator_row (table_of v.coordinator) (free_of v.storage) v.tickets message) (coordinator-aside (table_of v.coordinator) (free_of v.storage) v.tickets message)
    c.args.out.now c.handle.new.self (view_of c.handle.new.store.1 (look c.handle.new.store.0)) c.handle.new.out c.handle.new.tickets (let done = h.handles.0 in ap beside_of done.accounts))

pub returns-clause-holds : goal.returns-clause-holds
returns-clause-holds g c =
    let look : g.row.S.Denot → _ = λ s. g.S.StableStore.view s in
    let inside : Parts g.row.S.Denot = record { storage = c.self.inside.storage; worker = c.self.inside.worker; coordinator = c.self.inside.coordinator; tickets = c.self.inside.tickets } in
    let v = view_with look inside in
    let serves : IsServer v = subst (λ (s : Parts g.row.S.Denot). IsServer (view_with look s)) (sym c.self.view_is) c.requires.serves in
    let message = c.args.message.now in
    let h = c.in_ok-handle.ensures in
    subst (λ (s : Parts g.row.S.Denot). HoldsAll (view_with look s)
    → HoldsAll (view_with look (record { storage = c.handle.new.store; worker = c.self.inside.worker; coordinator = c.handle.new.self; tickets = c.handle.new.tickets }))) c.self.view_is
    (coordinator-holds v serves (coordinator_row (table_of v.coordinator) (free_of v.storage) v.tickets message) (coordinator-aside (table_of v.coordinator) (free_of v.storage) v.tickets message)
    c.args.out.now c.handle.new.self (view_of c.handle.new.store.1 (look c.handle.new.store.0)) c.handle.new.out c.handle.new.tickets h.handles.0)

pub returns-in_err-handle-clause-does : goal.returns-in_err-handle-clause-does
returns-in_err-handle-clause-does g c =
    let look : g.row.S.Denot → _ = λ s. g.S.StableStore.view s in
    let inside : Parts g.row.S.Denot = record { storage = c.self.inside.storage; worker = c.self.inside.worker; coordinator = c.self.inside.coordinator; tickets = c.self.inside.tickets } in
    let v = view_with look inside in
    let serves : IsServer v = subst (λ (s : Parts g.row.S.Denot). IsServer (view_with look s)) (sym c.self.view_is) c.requires.serves in
    let message = c.args.message.now in
    let h = c.in_err-handle.ensures in
    subst (λ (s : Parts g.row.S.Denot). Does row_calls (of_coordinator (memory_of (view_with look s)) (coordinator_row (table_of s.coordinator) (free_of (view_of s.storage.1 (look s.storage.0))) s.tickets message)) (view_with look s) c.args.out.now
    c.from_residual.result (view_with look (record { storage = c.handle.new.store; worker = c.self.inside.worker; coordinator = c.handle.new.self; tickets = c.handle.new.tickets })) c.handle.new.out) c.self.view_is
    (coordinator_failed v serves (coordinator_row (table_of v.coordinator) (free_of v.storage) v.tickets message) (coordinator-aside (table_of v.coordinator) (free_of v.storage) v.tickets message)
    _ _ _ _ _ (Unit {0}) c.in_err-handle.field-0.0 c.from_residual.result c.from_residual.ensures.0 c.from_residual.ensures.1 h.handles)

pub handle-requires-clause-fits : goal.handle-requires-clause-fits
handle-requires-clause-fits g c =
    let look : g.row.S.Denot → _ = λ s. g.S.StableStore.view s in
    let inside : Parts g.row.S.Denot = record { storage = c.self.inside.storage; worker = c.self.inside.worker; coordinator = c.self.inside.coordinator; tickets = c.self.inside.tickets } in
    let serves : IsServer (view_with look inside) = subst (λ (s : Parts g.row.S.Denot). IsServer (view_with look s)) (sym c.self.view_is) c.requires.serves in
    serves.transactions
