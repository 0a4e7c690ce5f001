use Rattle.jn_run.proofs.Common.{List, ap, sym, ◌∙◌, Err, lit<, subst, arith, err_from_is_err_and, Event, EventInRange, StandsBefore}
use Rattle.jn_run.proofs.Stores.{look, device}
use Rattle.jn_run.proofs.Stretches.{left-all, stretch-all, stretch-joins, stretch-length, stretch-shorter}
use Rattle.jn_run.proofs.Told.{drop-past, fault-reaches, out-of-memory, so-many-begun, there-reaches}
use Rattle.jn_run.proofs.trial.run_stretches.Goals as goal

pub run_events-requires-clause-few : goal.run_events-requires-clause-few
run_events-requires-clause-few g c =
    let some = stretch-length 1000 c.stretches.drawn c.deref.result.now c.next.new.self (c.deref.ensures.value ∙ c.in_ok-events.ensures.given) c.in_ok-events.ensures.left in
    omega (arith, some, c.stretches.invariant.all, c.requires.few)

pub run_events-requires-clause-range : goal.run_events-requires-clause-range
run_events-requires-clause-range g c = stretch-all EventInRange 1000 c.stretches.drawn c.deref.result.now (c.deref.ensures.value ∙ c.in_ok-events.ensures.given) c.stretches.invariant.range

pub overflow_cast-begun : goal.overflow_cast-begun
overflow_cast-begun g c =
    let some = stretch-length 1000 c.stretches.drawn c.in_ok-events.events.items c.next.new.self c.in_ok-events.ensures.given c.in_ok-events.ensures.left in
    omega (arith, some, c.stretches.invariant.all, c.requires.few, c.len.ensures, c.in_ok-events.events.ok)

pub overflow_add-begun : goal.overflow_add-begun
overflow_add-begun g c =
    let some = stretch-length 1000 c.stretches.drawn c.in_ok-events.events.items c.next.new.self c.in_ok-events.ensures.given c.in_ok-events.ensures.left in
    omega (arith, some, c.stretches.invariant.all, c.requires.few, c.len.ensures, c.in_ok-events.events.ok)

pub stretches-smaller : goal.stretches-smaller
stretches-smaller g c = stretch-shorter 1000 c.stretches.drawn c.next.new.self (lit< tt) (omega (arith, c.left.ensures, c.stretches-test.true)) c.in_ok-events.ensures.left

pub returns-in_err-events-clause-ran : goal.returns-in_err-events-clause-ran
returns-in_err-events-clause-ran g c = λ course m told same stands.
    let p = err_from_is_err_and c.from_residual.result c.from_residual.ensures.1 in
    out-of-memory g.R.Reporter.reporting g.met.R.Reporter.joins course _ _ c.from_residual.result _ (p.1 ∙ ap (λ e. Err e) p.2) (c.stretches.invariant.so_far course m told same stands)

pub returns-in_err-run_events-clause-ran : goal.returns-in_err-run_events-clause-ran
returns-in_err-run_events-clause-ran g c = λ course m told same stands.
    let at = c.stretches.invariant.so_far course m told same stands in
    let joins = stretch-joins 1000 c.stretches.drawn c.deref.result.now c.next.new.self (c.deref.ensures.value ∙ c.in_ok-events.ensures.given) c.in_ok-events.ensures.left in
    let begun = so-many-begun g.R.Reporter.reporting look device course at.now _ c.args.drawn c.stretches.drawn c.stretches.begun c.stretches.world at.told same at.there c.stretches.invariant.all in
    let one = c.run_events.ensures.ran course at.now c.next.new.self at.told begun (subst (λ (es : List Event). StandsBefore look device course.setup es c.stretches.world at.now) (sym joins) at.there) in
    let p = err_from_is_err_and c.from_residual-in_err-run_events.result c.from_residual-in_err-run_events.ensures.1 in
    fault-reaches g.R.Reporter.reporting course _ _ c.run_events.result c.from_residual-in_err-run_events.result p.0 _ (c.in_err-run_events.was ∙ ap (λ e. Err e) (sym p.2)) p.1 one

pub stretches-preserved : goal.stretches-preserved
stretches-preserved g c =
    let given = c.deref.ensures.value ∙ c.in_ok-events.ensures.given in
    record {
      all = omega (arith, stretch-length 1000 c.stretches.drawn c.in_ok-events.events.items c.next.new.self c.in_ok-events.ensures.given c.in_ok-events.ensures.left, c.stretches.invariant.all, c.len.ensures, c.in_ok-events.events.ok);
      range = left-all EventInRange 1000 c.stretches.drawn c.next.new.self c.in_ok-events.ensures.left c.stretches.invariant.range;
      world = c.in_ok-run_events.ensures.world;
      so_far = λ course m told same stands.
          let at = c.stretches.invariant.so_far course m told same stands in
          let joins = stretch-joins 1000 c.stretches.drawn c.deref.result.now c.next.new.self given c.in_ok-events.ensures.left in
          let begun = so-many-begun g.R.Reporter.reporting look device course at.now _ c.args.drawn c.stretches.drawn c.stretches.begun c.stretches.world at.told same at.there c.stretches.invariant.all in
          let one = c.run_events.ensures.ran course at.now c.next.new.self at.told begun (subst (λ (es : List Event). StandsBefore look device course.setup es c.stretches.world at.now) (sym joins) at.there) in
          one.whole c.in_ok-run_events.field-0 c.in_ok-run_events.was;
    }

pub returns-clause-ran : goal.returns-clause-ran
returns-clause-ran g c = λ course m told same stands.
    let at = c.stretches.invariant.so_far course m told same stands in
    let none = drop-past c.stretches.drawn 0 (omega (arith, c.left.ensures, c.stretches-test.false)) in
    there-reaches g.R.Reporter.reporting course _ _ _ (record { now = at.now; told = at.told; there = subst (λ (es : List Event). StandsBefore look device course.setup es c.stretches.world at.now) none at.there })
