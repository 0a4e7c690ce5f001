use Rattle.jn_run.proofs.Common.{◌∙◌, ℕ, List, Err, None, ap, refl, subst, is_ok, FailsToWrite, Writes, sink_state, trial_at_limit, trial_done, trial_no_memory, trial_not_written}
use Rattle.jn_writing.specs.Writing.{Took, TookFront}
use Rattle.jn_run.proofs.Summed.{written-so}
use Rattle.jn_run.proofs.run_trial.Goals as goal

pub returns-in-Ok-write_all : goal.returns-in-Ok-write_all
returns-in-Ok-write_all g c =
    let sink = sink_state g.K.Sink.taken g.K.Sink.faults c.args.sink.now in
    let sink' = sink_state g.K.Sink.taken g.K.Sink.faults c.write_all.new.sink in
    let wrote = c.write_all.ensures.wrote in
    let ok = ap is_ok c.in-Ok-write_all.is in
    let took = subst (λ (bytes : List ℕ). Took sink.taken sink'.taken bytes) c.deref.ensures.value (wrote.whole ok) in
    record { outcome = λ kept. trial_done (written-so c.args.trial.now kept (λ text. Writes text sink sink') c.in-Ok.line.items ((c.sum_up.ensures.told kept).line c.in-Ok.line c.in-Ok.is) (record { took = took; faults = wrote.no_fault ok })) }

pub returns-in-Ok : goal.returns-in-Ok
returns-in-Ok g c =
    let sink = sink_state g.K.Sink.taken g.K.Sink.faults c.args.sink.now in
    let sink' = sink_state g.K.Sink.taken g.K.Sink.faults c.write_all.new.sink in
    let wrote = c.write_all.ensures.wrote in
    let failed = ap is_ok c.in-Err.is in
    let took = subst (λ (bytes : List ℕ). TookFront sink.taken sink'.taken bytes) c.deref.ensures.value (wrote.front failed) in
    record { outcome = λ kept. trial_not_written (written-so c.args.trial.now kept (λ text. FailsToWrite text sink sink') c.in-Ok.line.items ((c.sum_up.ensures.told kept).line c.in-Ok.line c.in-Ok.is) (record { took = took; rose = wrote.rose failed })) }

pub returns-in-Err-Limit : goal.returns-in-Err-Limit
returns-in-Err-Limit g c = record { outcome = λ kept. trial_at_limit ((c.sum_up.ensures.told kept).limit (c.in-Err-Limit.is ∙ ap (λ e. Err e) c.in-Err-Limit.field-0-is)) refl }

pub returns : goal.returns
returns g c = record { outcome = λ kept. trial_no_memory refl }

pub unreachable-requires : goal.unreachable-requires
unreachable-requires g c = (c.sum_up.ensures.told None).no_write (c.in-Err-Write.is ∙ ap (λ e. Err e) c.in-Err-Write.field-0-is)
