use Rattle.jn_run.proofs.Common.{◌∙◌, ℕ, ◌≤◌, Err, List, Vec, ap, length, map, refl, subst, sym, length-map, Global, MemDisk, PageCounts, keeper_state, sink_state}
use Rattle.jn_run.proofs.Opened.{opened-so, within-of}
use Rattle.jn_run.proofs.Outcomes.{left-closed, memory-ends, run-kept, run-limit, run-write, run-memory}
use Rattle.jn_run.proofs.Stores.{look, device}
use Rattle.jn_run.proofs.run_stores.Goals as goal

pub keep-requires-clause-few : goal.keep-requires-clause-few
keep-requires-clause-few g c =
    let b = opened-so look device (λ s. refl) c.args.options.now (g.I.Keeper.kept c.args.keeper.now) c.args.stores.items c.requires.servers c.requires.opened in
    let gives = ((c.run_from.ensures.ran b.opens.setup b.opens.files b.epochs b.opens.images b.stores_are b.opens.trace b.are_images).whole c.in-Ok-run_from.left c.in-Ok-run_from.is).gives in
    subst (λ (n : ℕ). n ≤ 8) (sym (gives.count ∙ b.opens.servers)) c.requires.limits.servers.1

pub keep-requires-clause-counts : goal.keep-requires-clause-counts
keep-requires-clause-counts g c =
    let b = opened-so look device (λ s. refl) c.args.options.now (g.I.Keeper.kept c.args.keeper.now) c.args.stores.items c.requires.servers c.requires.opened in
    let gives = ((c.run_from.ensures.ran b.opens.setup b.opens.files b.epochs b.opens.images b.stores_are b.opens.trace b.are_images).whole c.in-Ok-run_from.left c.in-Ok-run_from.is).gives in
    ap (λ (xs : List PageCounts). length xs) (c.deref-in-Ok-run_from.ensures.value ∙ c.in-Ok.ensures ∙ ap (λ (xs : List (MemDisk × PageCounts)). map (λ (x : MemDisk × PageCounts). x.1) xs) c.deref.ensures.value)
    ∙ length-map c.args.stores.items (λ (x : MemDisk × PageCounts). x.1) ∙ b.stores_are.servers ∙ sym gives.count

pub keep-requires-clause-closed : goal.keep-requires-clause-closed
keep-requires-clause-closed g c =
    let o = c.args.options.now in
    let kept = g.I.Keeper.kept c.args.keeper.now in
    let b = opened-so look device (λ s. refl) o kept c.args.stores.items c.requires.servers c.requires.opened in
    let whole = (c.run_from.ensures.ran b.opens.setup b.opens.files b.epochs b.opens.images b.stores_are b.opens.trace b.are_images).whole c.in-Ok-run_from.left c.in-Ok-run_from.is in
    left-closed device o kept c.args.stores.items b c.requires.limits.servers.1 c.args.events.now c.requires.range c.in-Ok-run_from.left.items c.deref-in-Ok-run_from.result.now
    (c.deref-in-Ok-run_from.ensures.value ∙ c.in-Ok.ensures ∙ ap (λ (xs : List (MemDisk × PageCounts)). map (λ (x : MemDisk × PageCounts). x.1) xs) c.deref.ensures.value) whole.closing whole.lines whole.whole whole.gives
    (within-of look device o.opening kept c.args.stores.items c.requires.limits.opening c.requires.opened)

pub returns-in_default : goal.returns-in_default
returns-in_default g c =
    let sink = sink_state g.K.Sink.taken g.K.Sink.faults c.args.sink.now in
    let keeper = keeper_state g.I.Keeper.kept g.I.Keeper.faults c.args.keeper.now in
    record { ran = λ text schedule. memory-ends c.args.options.now text sink sink keeper keeper refl refl }

pub returns-in-Ok-run_from : goal.returns-in-Ok-run_from
returns-in-Ok-run_from g c = record {
  ran = λ text schedule.
      let o = c.args.options.now in
      let b = opened-so look device (λ s. refl) o (g.I.Keeper.kept c.args.keeper.now) c.args.stores.items c.requires.servers c.requires.opened in
      run-kept device o text c.args.events.now g.K.Sink.taken g.K.Sink.faults c.args.sink.now c.run_from.new.output (keeper_state g.I.Keeper.kept g.I.Keeper.faults c.args.keeper.now) c.args.stores.items b
      (record { schedule = schedule; few = c.requires.few }) c.requires.limits.servers.1 c.requires.range (λ (v : Vec MemDisk Global). v.items) c.run_from.result
      (c.run_from.ensures.ran b.opens.setup b.opens.files b.epochs b.opens.images b.stores_are b.opens.trace b.are_images) c.in-Ok-run_from.left c.in-Ok-run_from.is c.deref-in-Ok-run_from.result.now
      (c.deref-in-Ok-run_from.ensures.value ∙ c.in-Ok.ensures ∙ ap (λ (xs : List (MemDisk × PageCounts)). map (λ (x : MemDisk × PageCounts). x.1) xs) c.deref.ensures.value) (keeper_state g.I.Keeper.kept g.I.Keeper.faults c.keep.new.keeper) c.keep.result c.keep.ensures.kept;
}

pub returns-in-Err-Write : goal.returns-in-Err-Write
returns-in-Err-Write g c = record {
  ran = λ text schedule.
      let o = c.args.options.now in
      let b = opened-so look device (λ s. refl) o (g.I.Keeper.kept c.args.keeper.now) c.args.stores.items c.requires.servers c.requires.opened in
      run-write device o text c.args.events.now g.K.Sink.taken g.K.Sink.faults c.args.sink.now c.run_from.new.output (keeper_state g.I.Keeper.kept g.I.Keeper.faults c.args.keeper.now) c.args.stores.items b
      (record { schedule = schedule; few = c.requires.few }) c.requires.limits.servers.1 c.requires.range (λ (v : Vec MemDisk Global). v.items) c.run_from.result
      (c.run_from.ensures.ran b.opens.setup b.opens.files b.epochs b.opens.images b.stores_are b.opens.trace b.are_images) (c.in-Err-Write.is ∙ ap (λ e. Err e) c.in-Err-Write.field-0-is);
}

pub returns-in-Err-Limit : goal.returns-in-Err-Limit
returns-in-Err-Limit g c = record {
  ran = λ text schedule.
      let o = c.args.options.now in
      let b = opened-so look device (λ s. refl) o (g.I.Keeper.kept c.args.keeper.now) c.args.stores.items c.requires.servers c.requires.opened in
      run-limit device o text c.args.events.now g.K.Sink.taken g.K.Sink.faults c.args.sink.now c.run_from.new.output (keeper_state g.I.Keeper.kept g.I.Keeper.faults c.args.keeper.now) c.args.stores.items b
      (record { schedule = schedule; few = c.requires.few }) c.requires.limits.servers.1 c.requires.range (λ (v : Vec MemDisk Global). v.items) c.run_from.result
      (c.run_from.ensures.ran b.opens.setup b.opens.files b.epochs b.opens.images b.stores_are b.opens.trace b.are_images) (c.in-Err-Limit.is ∙ ap (λ e. Err e) c.in-Err-Limit.field-0-is);
}

pub returns : goal.returns
returns g c = record {
  ran = λ text schedule.
      let o = c.args.options.now in
      let b = opened-so look device (λ s. refl) o (g.I.Keeper.kept c.args.keeper.now) c.args.stores.items c.requires.servers c.requires.opened in
      run-memory device o text c.args.events.now g.K.Sink.taken g.K.Sink.faults c.args.sink.now c.run_from.new.output (keeper_state g.I.Keeper.kept g.I.Keeper.faults c.args.keeper.now) c.args.stores.items b
      (record { schedule = schedule; few = c.requires.few }) c.requires.limits.servers.1 c.requires.range (λ (v : Vec MemDisk Global). v.items) c.run_from.result
      (c.run_from.ensures.ran b.opens.setup b.opens.files b.epochs b.opens.images b.stores_are b.opens.trace b.are_images) (c.in-Err-Memory.is ∙ ap (λ e. Err e) c.in-Err-Memory.field-0-is);
}
