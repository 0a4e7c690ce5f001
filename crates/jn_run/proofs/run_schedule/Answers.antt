use Rattle.jn_run.proofs.Common.{◌≡◌, ◌≢◌, ◌∙◌, true≢false, is_ok, Result, Ok, Err, Option, ap, refl, subst, sym, Contents, AreOpened, KeeperState, keeper_state, sink_state, EndsOn}
use Rattle.jn_run.specs.declared.opening.OpenFault.{OpenFault}
use Rattle.jn_run.specs.declared.opening.OpenFault.TheVariants as opens
use Rattle.jn_run.proofs.Outcomes.{image-ends, keeper-same, load-ends, memory-ends}
use Rattle.jn_run.proofs.Stores.{look, device}
use Rattle.jn_run.proofs.run_schedule.Goals as goal

ok-no-keep : {A : Type 0} (r : Result A OpenFault) (a : A) → r ≡ Ok a → r ≢ Err opens.Keep
ok-no-keep r a is keep = true≢false (sym (ap is_ok is) ∙ ap is_ok keep)

err-no-keep : {A : Type 0} (r : Result A OpenFault) (e : OpenFault) → r ≡ Err e → e ≢ opens.Keep → r ≢ Err opens.Keep
err-no-keep {A} r e is other keep = other (err-is e opens.Keep (sym is ∙ keep))
  where
    err-is : (d f : OpenFault) → Path (Result A OpenFault) (Err d) (Err f) → d ≡ f
    err-is d f h = cc

refused-no-keep : (r : _) → opens.Refused r ≢ opens.Keep
refused-no-keep r h = cc

memory-no-keep : opens.Memory ≢ opens.Keep
memory-no-keep h = cc

pub run_stores-requires-clause-opened : goal.run_stores-requires-clause-opened
run_stores-requires-clause-opened g c = subst (λ (k : Option Contents). AreOpened look device c.args.options.now.opening k c.in-Ok.stores.items) (sym c.open_stores.ensures.kept.same) c.in-Ok.ensures.opened

pub returns-in-Ok : goal.returns-in-Ok
returns-in-Ok g c =
    let keeper = keeper_state g.I.Keeper.kept g.I.Keeper.faults c.args.keeper.now in
    let opened = keeper_state g.I.Keeper.kept g.I.Keeper.faults c.open_stores.new.keeper in
    let k = c.open_stores.ensures.kept in
    record {
      ran = λ text schedule. subst (λ (s : KeeperState). EndsOn c.args.options.now text (sink_state g.K.Sink.taken g.K.Sink.faults c.args.sink.now) s c.run_stores.result
          (sink_state g.K.Sink.taken g.K.Sink.faults c.run_stores.new.sink) (keeper_state g.I.Keeper.kept g.I.Keeper.faults c.run_stores.new.keeper))
          (keeper-same keeper opened k.same (k.no_fault (ok-no-keep c.open_stores.result c.in-Ok.stores c.in-Ok.is))) (c.run_stores.ensures.ran text schedule);
    }

pub returns-in-Err-Refused : goal.returns-in-Err-Refused
returns-in-Err-Refused g c =
    let keeper = keeper_state g.I.Keeper.kept g.I.Keeper.faults c.args.keeper.now in
    let opened = keeper_state g.I.Keeper.kept g.I.Keeper.faults c.open_stores.new.keeper in
    let k = c.open_stores.ensures.kept in
    let is = c.in-Err-Refused.is ∙ ap (λ e. Err e) c.in-Err-Refused.field-0-is in
    record {
      ran = λ text schedule. image-ends c.args.options.now text c.args.events.now c.in-Err-Refused.refusal
          (sink_state g.K.Sink.taken g.K.Sink.faults c.args.sink.now) keeper c.refuse_image.result (sink_state g.K.Sink.taken g.K.Sink.faults c.refuse_image.new.sink) opened
          (record { schedule = schedule; few = c.requires.few }) (c.open_stores.ensures.refused c.in-Err-Refused.refusal is)
          (keeper-same keeper opened k.same (k.no_fault (err-no-keep c.open_stores.result _ is (refused-no-keep c.in-Err-Refused.refusal)))) c.refuse_image.ensures.refused;
    }

pub returns-in-Err-Keep : goal.returns-in-Err-Keep
returns-in-Err-Keep g c =
    let is = c.in-Err-Keep.is ∙ ap (λ e. Err e) c.in-Err-Keep.field-0-is in
    record {
      ran = λ text schedule. load-ends c.args.options.now text c.args.events.now (sink_state g.K.Sink.taken g.K.Sink.faults c.args.sink.now)
          (keeper_state g.I.Keeper.kept g.I.Keeper.faults c.args.keeper.now) (keeper_state g.I.Keeper.kept g.I.Keeper.faults c.open_stores.new.keeper)
          (record { schedule = schedule; few = c.requires.few }) (record { kept = c.open_stores.ensures.kept.same; rose = c.open_stores.ensures.kept.rose is }) (c.open_stores.ensures.kept.images is);
    }

pub returns-in-Err-Memory : goal.returns-in-Err-Memory
returns-in-Err-Memory g c =
    let sink = sink_state g.K.Sink.taken g.K.Sink.faults c.args.sink.now in
    let keeper = keeper_state g.I.Keeper.kept g.I.Keeper.faults c.args.keeper.now in
    let opened = keeper_state g.I.Keeper.kept g.I.Keeper.faults c.open_stores.new.keeper in
    let k = c.open_stores.ensures.kept in
    let is = c.in-Err-Memory.is ∙ ap (λ e. Err e) c.in-Err-Memory.field-0-is in
    record { ran = λ text schedule. memory-ends c.args.options.now text sink sink keeper opened refl (keeper-same keeper opened k.same (k.no_fault (err-no-keep c.open_stores.result _ is memory-no-keep))) }
