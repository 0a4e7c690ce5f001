use Rattle.jn_run.proofs.Common.{List, rules, refl, subst, sym, Event, word_lines, IsSchedule, sink_state, keeper_state}
use Rattle.jn_schedule.proofs.Ranges.{lines_in_range}
use Rattle.jn_run.proofs.Outcomes.{line-ends, long-ends, memory-ends}
use Rattle.jn_run.proofs.run_text.Goals as goal

pub run_schedule-requires-clause-range : goal.run_schedule-requires-clause-range
run_schedule-requires-clause-range g c =
    let found = rw c.in-Ok-Some.field-0-is at c.in-Ok-Some.ensures.found in
    lines_in_range (word_lines c.args.text.now) c.deref.result.now (subst (λ (es : List Event). IsSchedule c.args.text.now es) (sym c.deref.ensures.value) found.0)

pub returns-in-Ok-Some : goal.returns-in-Ok-Some
returns-in-Ok-Some g c =
    let found = rw c.in-Ok-Some.field-0-is at c.in-Ok-Some.ensures.found in
    record { ran = c.run_schedule.ensures.ran c.args.text.now (subst (λ (es : List Event). IsSchedule c.args.text.now es) (sym c.deref.ensures.value) found.0) }

pub returns-in-Ok-None : goal.returns-in-Ok-None
returns-in-Ok-None g c =
    let found = rw c.in-Ok-None.field-0-is at c.in-Ok-None.ensures.found in
    record { ran = long-ends c.args.options.now c.args.text.now _ _ found }

pub returns-in-Err-Syntax : goal.returns-in-Err-Syntax
returns-in-Err-Syntax g c = record {
  ran = line-ends c.args.options.now c.args.text.now _ _
      (sink_state g.K.Sink.taken g.K.Sink.faults c.args.sink.now) (keeper_state g.I.Keeper.kept g.I.Keeper.faults c.args.keeper.now) c.refuse_line.result
      (sink_state g.K.Sink.taken g.K.Sink.faults c.refuse_line.new.sink)
      (c.parse_up_to.ensures.fault _ _ (search rules)) c.refuse_line.ensures.refused;
}

pub returns-in-Err-Memory : goal.returns-in-Err-Memory
returns-in-Err-Memory g c = record {
  ran = let sink = sink_state g.K.Sink.taken g.K.Sink.faults c.args.sink.now in
      let keeper = keeper_state g.I.Keeper.kept g.I.Keeper.faults c.args.keeper.now in
      memory-ends c.args.options.now c.args.text.now sink sink keeper keeper refl refl;
}
