use Rattle.jn_server.proofs.Common.{ap, Accounts, arith, refl, subst, sym, view_of, seen, worker_row, of_worker, worker-aside, Parts, view_with, memory_of, IsServer, IsDone, Does, LeavesBeside, row_calls, prepare_calls, HoldsAll}
use Rattle.jn_server.proofs.Working.{worked, works-hold, works-leave, worker_failed}
use Rattle.jn_server.proofs.server.Server.work_on.Goals as goal

pub returns-clause-does : goal.returns-clause-does
returns-clause-does g c =
    let look : g.row.S.Denot → _ = λ s. g.S.StableStore.view s in
    let inside : Parts g.row.S.Denot = record { storage = c.self.inside.storage; worker = c.self.inside.worker; coordinator = c.self.inside.coordinator; tickets = c.self.inside.tickets } in
    let v = view_with look inside in
    let serves : IsServer v = subst (λ (s : Parts g.row.S.Denot). IsServer (view_with look s)) (sym c.self.view_is) c.requires.serves in
    let message = c.args.message.now in
    subst (λ (s : Parts g.row.S.Denot). IsDone row_calls (of_worker (memory_of (view_with look s)) (worker_row s.worker.table (seen (view_of s.storage.1 (look s.storage.0))) s.tickets message)) (view_with look s) c.args.out.now
    (view_with look (record { storage = c.handle.new.store; worker = c.handle.new.self; coordinator = c.self.inside.coordinator; tickets = c.handle.new.tickets })) c.handle.new.out) c.self.view_is
    (worked prepare_calls row_calls (omega arith) v serves (worker_row v.worker.table (seen v.storage) v.tickets message) (worker-aside v.worker.table (seen v.storage) v.tickets message)
    _ _ _ _ _ c.in_ok-handle.field-0 (let t = c.in_ok-handle.ensures in t.takes))

pub returns-clause-beside : goal.returns-clause-beside
returns-clause-beside g c =
    let look : g.row.S.Denot → _ = λ s. g.S.StableStore.view s in
    let inside : Parts g.row.S.Denot = record { storage = c.self.inside.storage; worker = c.self.inside.worker; coordinator = c.self.inside.coordinator; tickets = c.self.inside.tickets } in
    let v = view_with look inside in
    let serves : IsServer v = subst (λ (s : Parts g.row.S.Denot). IsServer (view_with look s)) (sym c.self.view_is) c.requires.serves in
    let message = c.args.message.now in
    let h = c.in_ok-handle.ensures in
    let t = h.takes in
    subst (λ (s : Parts g.row.S.Denot). LeavesBeside (view_with look s) (of_worker (memory_of (view_with look s)) (worker_row s.worker.table (seen (view_of s.storage.1 (look s.storage.0))) s.tickets message))
    (view_with look (record { storage = c.handle.new.store; worker = c.handle.new.self; coordinator = c.self.inside.coordinator; tickets = c.handle.new.tickets }))) c.self.view_is
    (works-leave prepare_calls row_calls (omega arith) v serves (worker_row v.worker.table (seen v.storage) v.tickets message) (worker-aside v.worker.table (seen v.storage) v.tickets message)
    c.args.out.now c.handle.new.self (view_of c.handle.new.store.1 (look c.handle.new.store.0)) c.handle.new.out c.handle.new.tickets (t.counts refl) (λ none. h.same none refl))

pub returns-clause-holds : goal.returns-clause-holds
returns-clause-holds g c =
    let look : g.row.S.Denot → _ = λ s. g.S.StableStore.view s in
    let inside : Parts g.row.S.Denot = record { storage = c.self.inside.storage; worker = c.self.inside.worker; coordinator = c.self.inside.coordinator; tickets = c.self.inside.tickets } in
    let v = view_with look inside in
    let serves : IsServer v = subst (λ (s : Parts g.row.S.Denot). IsServer (view_with look s)) (sym c.self.view_is) c.requires.serves in
    let message = c.args.message.now in
    let h = c.in_ok-handle.ensures in
    subst (λ (s : Parts g.row.S.Denot). HoldsAll (view_with look s)
    → HoldsAll (view_with look (record { storage = c.handle.new.store; worker = c.handle.new.self; coordinator = c.self.inside.coordinator; tickets = c.handle.new.tickets }))) c.self.view_is
    (works-hold prepare_calls row_calls (omega arith) v serves (worker_row v.worker.table (seen v.storage) v.tickets message) (worker-aside v.worker.table (seen v.storage) v.tickets message)
    c.args.out.now c.handle.new.self (view_of c.handle.new.store.1 (look c.handle.new.store.0)) c.handle.new.out c.handle.new.tickets c.in_ok-handle.field-0 h.takes
    (λ none. let same = h.same none refl in (ap (λ (a : Accounts). a.held) same, ap (λ (a : Accounts). a.supplied) same)))

pub returns-in_err-handle-clause-does : goal.returns-in_err-handle-clause-does
returns-in_err-handle-clause-does g c =
    let look : g.row.S.Denot → _ = λ s. g.S.StableStore.view s in
    let inside : Parts g.row.S.Denot = record { storage = c.self.inside.storage; worker = c.self.inside.worker; coordinator = c.self.inside.coordinator; tickets = c.self.inside.tickets } in
    let v = view_with look inside in
    let serves : IsServer v = subst (λ (s : Parts g.row.S.Denot). IsServer (view_with look s)) (sym c.self.view_is) c.requires.serves in
    let message = c.args.message.now in
    subst (λ (s : Parts g.row.S.Denot). Does row_calls (of_worker (memory_of (view_with look s)) (worker_row s.worker.table (seen (view_of s.storage.1 (look s.storage.0))) s.tickets message)) (view_with look s) c.args.out.now
    c.from_residual.result (view_with look (record { storage = c.handle.new.store; worker = c.handle.new.self; coordinator = c.self.inside.coordinator; tickets = c.handle.new.tickets })) c.handle.new.out) c.self.view_is
    (worker_failed prepare_calls row_calls (omega arith) v serves (worker_row v.worker.table (seen v.storage) v.tickets message) (worker-aside v.worker.table (seen v.storage) v.tickets message)
    _ _ _ _ _ _ c.in_err-handle.field-0.0 c.from_residual.result c.from_residual.ensures.0 c.from_residual.ensures.1 (let t = c.in_err-handle.ensures in t.takes))

pub handle-requires-clause-fits : goal.handle-requires-clause-fits
handle-requires-clause-fits g c =
    let look : g.row.S.Denot → _ = λ s. g.S.StableStore.view s in
    let inside : Parts g.row.S.Denot = record { storage = c.self.inside.storage; worker = c.self.inside.worker; coordinator = c.self.inside.coordinator; tickets = c.self.inside.tickets } in
    let serves : IsServer (view_with look inside) = subst (λ (s : Parts g.row.S.Denot). IsServer (view_with look s)) (sym c.self.view_is) c.requires.serves in
    serves.works
