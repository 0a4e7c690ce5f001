use Rattle.jn_server.proofs.Common.{◌≡◌, ◌<◌, true, Some, is_some, Ok, subst, sym, RowOutcome, StoreView, view_of, state, server_step, Steps, Parts, view_with, memory_of, room_of, IsServer, Memory, LeavesByWork, steps_left, HoldsAll}
use Rattle.jn_server.proofs.Leaving.{leaves-so, one-less, none-said}
use Rattle.jn_server.proofs.Remaining.{step-some}
use Rattle.jn_server.proofs.Stepping.{stepped, step-failed, step-holds}
use Rattle.jn_server.proofs.server.Server.step.Goals as goal

pub returns : goal.returns
returns g c =
    let look : g.row.S.Denot → StoreView = λ s. g.S.StableStore.view s in
    let inside : Parts g.row.S.Denot = record { storage = c.self.inside.storage; worker = c.self.inside.worker; coordinator = c.self.inside.coordinator; tickets = c.self.inside.tickets } in
    let v = view_with look inside in
    let w = view_with look (record { storage = c.step.new.store; worker = c.step.new.self; coordinator = c.self.inside.coordinator; tickets = c.self.inside.tickets }) in
    let serves : IsServer v = subst (λ (s : Parts g.row.S.Denot). IsServer (view_with look s)) (sym c.self.view_is) c.requires.serves in
    let before = c.args.out.now in
    let after = c.step.new.out in
    let did = c.in_ok-step.field-0 in
    let h = c.in_ok-step.ensures in
    let made : Steps (server_step (memory_of v) (state v.storage) (room_of v.storage)) v before (Ok did) w after =
    stepped v serves before c.step.new.self (view_of c.step.new.store.1 (look c.step.new.store.0)) after did (h.steps v.tickets) in
    record {
      steps = subst (λ (s : Parts g.row.S.Denot). let x = view_with look s in Steps (server_step (memory_of x) (state x.storage) (room_of x.storage)) x before (Ok did) w after) c.self.view_is made;
      left = subst (λ (s : Parts g.row.S.Denot). let x = view_with look s in did ≡ true → (row : RowOutcome Memory) → server_step (memory_of x) (state x.storage) (room_of x.storage) ≡ Some row → LeavesByWork x row w) c.self.view_is
          (leaves-so v w before after did made);
      holds = subst (λ (s : Parts g.row.S.Denot). HoldsAll (view_with look s) → HoldsAll w) c.self.view_is
          (step-holds v serves before c.step.new.self (view_of c.step.new.store.1 (look c.step.new.store.0)) after did (h.steps v.tickets));
      less = subst (λ (s : Parts g.row.S.Denot). did ≡ true → steps_left w < steps_left (view_with look s)) c.self.view_is (one-less v w before after did made);
      some = subst (λ (s : Parts g.row.S.Denot). let x = view_with look s in is_some (server_step (memory_of x) (state x.storage) (room_of x.storage)) ≡ true → 0 < steps_left x) c.self.view_is (step-some v);
      room = c.reads_pages.ensures.room;
    }

pub returns-in_err-step : goal.returns-in_err-step
returns-in_err-step g c =
    let look : g.row.S.Denot → StoreView = λ s. g.S.StableStore.view s in
    let inside : Parts g.row.S.Denot = record { storage = c.self.inside.storage; worker = c.self.inside.worker; coordinator = c.self.inside.coordinator; tickets = c.self.inside.tickets } in
    let v = view_with look inside in
    let serves : IsServer v = subst (λ (s : Parts g.row.S.Denot). IsServer (view_with look s)) (sym c.self.view_is) c.requires.serves in
    let h = c.in_err-step.ensures in
    record {
      steps = subst (λ (s : Parts g.row.S.Denot). let x = view_with look s in Steps (server_step (memory_of x) (state x.storage) (room_of x.storage)) x c.args.out.now c.from_residual.result
          (view_with look (record { storage = c.step.new.store; worker = c.step.new.self; coordinator = c.self.inside.coordinator; tickets = c.self.inside.tickets })) c.step.new.out) c.self.view_is
          (step-failed v serves c.args.out.now c.step.new.self (view_of c.step.new.store.1 (look c.step.new.store.0)) c.step.new.out c.in_err-step.field-0.0 c.from_residual.result c.from_residual.ensures.0 c.from_residual.ensures.1 (h.steps v.tickets));
      left = none-said _ c.from_residual.result c.from_residual.ensures.0;
      holds = none-said _ c.from_residual.result c.from_residual.ensures.0;
      less = none-said _ c.from_residual.result c.from_residual.ensures.0;
      some = subst (λ (s : Parts g.row.S.Denot). let x = view_with look s in is_some (server_step (memory_of x) (state x.storage) (room_of x.storage)) ≡ true → 0 < steps_left x) c.self.view_is (step-some v);
      room = c.reads_pages.ensures.room;
    }

pub step-requires : goal.step-requires
step-requires g c =
    let look : g.row.S.Denot → StoreView = λ s. g.S.StableStore.view s in
    let inside : Parts g.row.S.Denot = record { storage = c.self.inside.storage; worker = c.self.inside.worker; coordinator = c.self.inside.coordinator; tickets = c.self.inside.tickets } in
    let serves : IsServer (view_with look inside) = subst (λ (s : Parts g.row.S.Denot). IsServer (view_with look s)) (sym c.self.view_is) c.requires.serves in
    record { fits = serves.works }
