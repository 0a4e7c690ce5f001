use Rattle.jn_lock_rows.proofs.Common.{sym, table}
use Rattle.jn_lock_rows.proofs.Together.{storing_free, storing_told, storing_told_all}
use Rattle.jn_lock_rows.proofs.grants.test_storing.Goals as goal

pub returns-in-Ok : goal.returns-in-Ok
returns-in-Ok c = λ T a b. sym (storing_free c.args.works.now (table c.args.locks.now) T c.args.name a c.requires.matches b c.in-Ok.ensures)

pub returns-in-Held : goal.returns-in-Held
returns-in-Held c = λ T a b. storing_told c.args.works.now (table c.args.locks.now) T c.args.name a c.requires.matches b c.in-Err.fault c.told_as.result c.in-Held.unit c.in-Held.tid c.in-Err.ensures c.told_as.ensures c.in-Held.is

pub returns-in-Memory : goal.returns-in-Memory
returns-in-Memory c = λ T a b. storing_told_all c.args.works.now (table c.args.locks.now) T c.args.name a c.requires.matches b c.in-Err.fault c.told_as.result c.in-Err.ensures c.told_as.ensures c.in-Memory.is
