use Rattle.jn_lock_rows.proofs.Common.{◌∙◌, ap, table, after_breaks, rephased, stored}
use Rattle.jn_lock_rows.proofs.Together.{storing_grants, storing_refused}
use Rattle.jn_lock_rows.proofs.grants.grant_storing.Goals as goal

pub returns-in-Ok-clause-granted : goal.returns-in-Ok-clause-granted
returns-in-Ok-clause-granted c = λ a b. (storing_grants c.args.works.now (table c.args.locks.now) c.args.tid c.args.name a c.requires.matches b c.in-Ok.granted (table c.to_commit.new.self) c.store_work.new.works c.in-Ok.ensures.granted
    (c.store_work.ensures ∙ ap (rephased c.args.name stored) (c.break_works.ensures ∙ ap (λ bs. after_breaks c.args.tid bs c.args.works.now) c.broken.ensures))).0

pub returns-in-Ok-clause-matches : goal.returns-in-Ok-clause-matches
returns-in-Ok-clause-matches c = (storing_grants c.args.works.now (table c.args.locks.now) c.args.tid c.args.name c.requires.active.0 c.requires.matches c.requires.active.1 c.in-Ok.granted (table c.to_commit.new.self) c.store_work.new.works c.in-Ok.ensures.granted
    (c.store_work.ensures ∙ ap (rephased c.args.name stored) (c.break_works.ensures ∙ ap (λ bs. after_breaks c.args.tid bs c.args.works.now) c.broken.ensures))).1

pub returns-in-Err-clause-refused : goal.returns-in-Err-clause-refused
returns-in-Err-clause-refused c = λ a b. storing_refused c.args.works.now (table c.args.locks.now) c.args.tid c.args.name a c.requires.matches b c.in-Err.fault c.told_as.result c.in-Err.ensures.refused c.told_as.ensures
