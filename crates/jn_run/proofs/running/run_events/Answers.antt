use Rattle.jn_run.proofs.Common.{◌≡◌, ◌+◌, ◌++◌, [], List, drop, ap, sym, ◌∙◌, Err, subst, arith, err_from_is_err_and, Event, StandsBefore}
use Rattle.jn_run.proofs.Stores.{look, device}
use Rattle.jn_run.proofs.Told.{next-number, fault-reaches, there-reaches, drop-here, drop-past}
use Rattle.jn_run.proofs.running.run_events.Goals as goal

pub returns-in_err-run_event-clause-ran : goal.returns-in_err-run_event-clause-ran
returns-in_err-run_event-clause-ran g c = λ course m rest told began stands.
    let xs = c.args.events.now in
    let i = c.loop-event.event-index in
    let at = c.loop-event.invariant.so_far course m rest told began stands in
    let next = ap (λ (es : List Event). es ++ rest) (drop-here xs i c.event-item.result c.loop-event-test.true c.event-item.is) in
    let number = next-number g.R.Reporter.reporting look device course m _ at.now _ _ c.loop-event.world xs rest i c.args.begun c.loop-event.number told began stands at.told at.there c.loop-event-test.true c.loop-event.invariant.number in
    let one = c.run_event.ensures.ran course at.now (drop (i + 1) xs ++ rest) at.told (subst (λ (es : List Event). StandsBefore look device course.setup es c.loop-event.world at.now) next at.there) number in
    let p = err_from_is_err_and c.from_residual.result c.from_residual.ensures.1 in
    fault-reaches g.R.Reporter.reporting course _ _ c.run_event.result c.from_residual.result p.0 _ (c.in_err-run_event.was ∙ ap (λ e. Err e) (sym p.2)) p.1 one

pub loop-event-preserved : goal.loop-event-preserved
loop-event-preserved g c = record {
  number = omega (arith, c.loop-event.invariant.number);
  world = c.in_ok-run_event.ensures.world;
  so_far = λ course m rest told began stands.
      let xs = c.args.events.now in
      let i = c.loop-event.event-index in
      let at = c.loop-event.invariant.so_far course m rest told began stands in
      let next = ap (λ (es : List Event). es ++ rest) (drop-here xs i c.event-item.result c.loop-event-test.true c.event-item.is) in
      let number = next-number g.R.Reporter.reporting look device course m _ at.now _ _ c.loop-event.world xs rest i c.args.begun c.loop-event.number told began stands at.told at.there c.loop-event-test.true c.loop-event.invariant.number in
      let one = c.run_event.ensures.ran course at.now (drop (i + 1) xs ++ rest) at.told (subst (λ (es : List Event). StandsBefore look device course.setup es c.loop-event.world at.now) next at.there) number in
      one.whole c.in_ok-run_event.field-0 c.in_ok-run_event.was;
}

pub returns-clause-ran : goal.returns-clause-ran
returns-clause-ran g c = λ course m rest told began stands.
    let xs = c.args.events.now in
    let at = c.loop-event.invariant.so_far course m rest told began stands in
    let none : drop c.loop-event.event-index xs ≡ [] = drop-past xs c.loop-event.event-index (omega (arith, c.loop-event-test.false)) in
    there-reaches g.R.Reporter.reporting course _ _ _ (record { now = at.now; told = at.told; there = subst (λ (es : List Event). StandsBefore look device course.setup (es ++ rest) c.loop-event.world at.now) none at.there })
