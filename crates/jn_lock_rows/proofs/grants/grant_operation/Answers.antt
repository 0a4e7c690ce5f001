use Rattle.jn_lock_rows.proofs.Common.{◌∙◌, ap, table, Active, with_phase, after_breaks}
use Rattle.jn_lock_rows.proofs.Together.{operation_grants, operation_refused}
use Rattle.jn_lock_rows.proofs.grants.grant_operation.Goals as goal

pub returns-in-Ok-clause-granted : goal.returns-in-Ok-clause-granted
returns-in-Ok-clause-granted c = (operation_grants c.args.works.now (table c.args.locks.now) c.args.tid c.args.name c.args.op.now c.args.is_fit c.requires.matches c.args.next c.requires.becomes
    c.as_slice.result.now c.in-Ok.granted (table c.ask.new.self) c.set_phase.new.works (c.as_slice.ensures ∙ c.operation_wants-wants.ensures) c.in-Ok.ensures.granted
    (c.set_phase.ensures ∙ ap (with_phase c.args.name (Active c.args.next)) (c.break_works.ensures ∙ ap (λ bs. after_breaks c.args.tid bs c.args.works.now) c.broken.ensures))).0

pub returns-in-Ok-clause-matches : goal.returns-in-Ok-clause-matches
returns-in-Ok-clause-matches c = (operation_grants c.args.works.now (table c.args.locks.now) c.args.tid c.args.name c.args.op.now c.args.is_fit c.requires.matches c.args.next c.requires.becomes
    c.as_slice.result.now c.in-Ok.granted (table c.ask.new.self) c.set_phase.new.works (c.as_slice.ensures ∙ c.operation_wants-wants.ensures) c.in-Ok.ensures.granted
    (c.set_phase.ensures ∙ ap (with_phase c.args.name (Active c.args.next)) (c.break_works.ensures ∙ ap (λ bs. after_breaks c.args.tid bs c.args.works.now) c.broken.ensures))).1

pub returns-in-Err-clause-refused : goal.returns-in-Err-clause-refused
returns-in-Err-clause-refused c = operation_refused c.args.works.now (table c.args.locks.now) c.args.tid c.args.name c.args.op.now c.args.is_fit c.requires.matches
    c.as_slice.result.now c.in-Err.fault c.told_as.result (c.as_slice.ensures ∙ c.operation_wants-wants.ensures) c.in-Err.ensures.refused c.told_as.ensures
