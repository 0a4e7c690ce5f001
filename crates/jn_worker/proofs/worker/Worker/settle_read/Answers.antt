use Rattle.jn_worker.proofs.Common.{subst, ap, length, Ok, Err, OnlyReads, asks_now}
use Rattle.jn_worker.proofs.Fetched.{granted_active, refused_settles, granted_settles, granted_reads, served-unless-stopped, taken_back}
use Rattle.jn_worker.proofs.Voted.{found_active}
use Rattle.jn_worker.proofs.worker.Worker.settle_read.Goals as goal

pub read_granted-requires-clause-active : goal.read_granted-requires-clause-active
read_granted-requires-clause-active g c = let f = found_active c.args.self.now.table c.args.name c.requires.active in
    granted_active c.args.self.now c.settle.new.self f.0 c.args.name f.1 c.args.op.now c.in_ok-refusal.field-0 c.args.out.now c.settle.new.out f.2 c.in_default.is (c.in_ok-refusal.ensures.settled f.0 f.1 f.2 (c.requires.next f.0 f.1 f.2))

pub returns-in-Some-clause-settled : goal.returns-in-Some-clause-settled
returns-in-Some-clause-settled g c = λ T a i. refused_settles c.args.self.now c.settle.new.self (g.W.Storage.view c.args.store.now) T c.args.name a c.args.op.now c.in_ok-refusal.field-0 c.in-Some.refusal c.args.out.now c.settle.new.out (c.requires.unknown T a i) c.in-Some.is (c.in_ok-refusal.ensures.settled T a i (c.requires.next T a i))

pub returns-in-Ok-clause-settled : goal.returns-in-Ok-clause-settled
returns-in-Ok-clause-settled g c = λ T a i. granted_settles c.args.self.now c.settle.new.self c.read_granted.new.self (g.W.Storage.view c.args.store.now) (g.W.Storage.view c.read_granted.new.store) T c.args.name a c.args.op.now c.in_ok-refusal.field-0 c.in-Ok.answer c.args.number c.args.out.now c.settle.new.out i (c.requires.next T a i) (c.requires.unknown T a i) c.in_default.is
    (c.in_ok-refusal.ensures.settled T a i (c.requires.next T a i)) c.in-Ok.ensures.viewed c.in-Ok.ensures.kept

pub returns-in-Ok-clause-reads : goal.returns-in-Ok-clause-reads
returns-in-Ok-clause-reads g c = λ T a i. granted_reads c.args.self.now c.settle.new.self (g.W.Storage.view c.args.store.now) (g.W.Storage.view c.read_granted.new.store) T c.args.name a c.args.op.now c.in_ok-refusal.field-0 (Ok c.in-Ok.answer) c.args.out.now c.settle.new.out i (c.requires.unknown T a i) c.in_default.is
    (c.in_ok-refusal.ensures.settled T a i (c.requires.next T a i)) c.in-Ok.ensures.viewed

pub returns-in-Err-clause-reads : goal.returns-in-Err-clause-reads
returns-in-Err-clause-reads g c = λ T a i. subst (λ b. OnlyReads (asks_now c.args.self.now.table (g.W.Storage.view c.args.store.now) c.args.name a c.args.op.now) (g.W.Storage.view c.args.store.now) b (g.W.Storage.view c.read_granted.new.store)) (served-unless-stopped c.in-Err.fault)
    (granted_reads c.args.self.now c.settle.new.self (g.W.Storage.view c.args.store.now) (g.W.Storage.view c.read_granted.new.store) T c.args.name a c.args.op.now c.in_ok-refusal.field-0 (Err c.in-Err.fault) c.args.out.now c.settle.new.out i (c.requires.unknown T a i) c.in_default.is
    (c.in_ok-refusal.ensures.settled T a i (c.requires.next T a i)) c.in-Err.ensures.viewed)

pub returns-in-Err-clause-silent : goal.returns-in-Err-clause-silent
returns-in-Err-clause-silent g c = λ _. let f = found_active c.args.self.now.table c.args.name c.requires.active in let s = c.in_ok-refusal.ensures.settled f.0 f.1 f.2 (c.requires.next f.0 f.1 f.2) in
    taken_back c.args.out.now c.settle.new.out c.truncate.new.self _ _ _ s.sent s.noted (ap length c.messages.ensures) (ap length c.notes.ensures) c.truncate.ensures
