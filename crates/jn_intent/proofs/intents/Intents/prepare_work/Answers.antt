use Rattle.jn_intent.proofs.Common.{sym, ap, subst, refl, ◌∙◌, true, false, true≢false, arith, err_from_is_err_and, Ok, Err, IsRecoverable, Stops, WorkPrepared, shortage, view_of, accounts_of, memory_of}
use Rattle.jn_intent.proofs.Readying.{promising, given, begun, list_few, list_short, its_reads, stopped_list, insert_there, insert_left, prepare_stopped, prepare_recovers, prepare_kept, prepare_done, works_listed, refused_by, lacks_said, lacks_length}
use Rattle.jn_intent.proofs.StoringPool.{free_slot}
use Rattle.jn_intent.proofs.intents.Intents.prepare_work.Goals as goal

pub need-need-requires-clause-length : goal.need-need-requires-clause-length
need-need-requires-clause-length g c = list_short (view_of c.args.self.now.1 (g.S.StableStore.view c.args.self.now.0)) c.args.head.now c.args.list.now c.args.reads.now c.requires.may

pub returns-in_err-test_room : goal.returns-in_err-test_room
returns-in_err-test_room g c =
    let err = err_from_is_err_and c.from_residual.result c.from_residual.ensures.1 in
    record {
      prepared = refused_by (view_of c.args.self.now.1 (g.S.StableStore.view c.args.self.now.0)) c.args.head.now c.args.list.now c.args.reads.now c.in_err-test_room.field-0.0
          (ap (λ n. shortage (accounts_of c.args.self.now.1) n) (sym c.need-need.ensures) ∙ c.in_err-test_room.ensures) c.from_residual.result err.0 err.1 err.2;
    }

pub store_all-requires-clause-begins : goal.store_all-requires-clause-begins
store_all-requires-clause-begins g c =
    let h = given (λ s. g.S.StableStore.view s) c.self.inside.store (memory_of c.self.inside) c.args.self.now c.self.view_is c.self.invariant.kept c.args.head.now c.args.list.now c.args.reads.now c.requires.serving c.requires.may c.need-need.result c.need-need.ensures c.in_ok-test_room.ensures in
    let lacks = lacks_said (λ s. g.S.StableStore.view s) c.self.inside.store (memory_of c.self.inside) c.args.self.now c.self.view_is c.args.list.now c.deref.result.now c.in_ok-lacks.lacks.items c.deref.ensures.value c.in_ok-lacks.ensures in
    (promising (memory_of c.self.inside) c.need-need.result.heads, g.S.StableStore.view c.self.inside.store, begun (memory_of c.self.inside) (g.S.StableStore.view c.self.inside.store) c.args.head.now c.args.list.now c.args.reads.now c.need-need.result.heads h c.deref.result.now lacks c.promise.new.table c.promise.ensures.promised c.promise.ensures.table)

pub store_all-requires-clause-flags : goal.store_all-requires-clause-flags
store_all-requires-clause-flags g c = lacks_length (accounts_of c.args.self.now.1).maps c.args.list.now c.deref.result.now (c.deref.ensures.value ∙ c.in_ok-lacks.ensures)

pub overflow_cast-record : goal.overflow_cast-record
overflow_cast-record g c =
    let h = given (λ s. g.S.StableStore.view s) c.self.inside.store (memory_of c.self.inside) c.args.self.now c.self.view_is c.self.invariant.kept c.args.head.now c.args.list.now c.args.reads.now c.requires.serving c.requires.may c.need-need.result c.need-need.ensures c.in_ok-test_room.ensures in
    let few = list_few (memory_of c.self.inside) (g.S.StableStore.view c.self.inside.store) c.args.head.now c.args.list.now c.args.reads.now c.need-need.result.heads h in omega (arith, few)

pub invariant_of-self-in_default : goal.invariant_of-self-in_default
invariant_of-self-in_default g c =
    let h = given (λ s. g.S.StableStore.view s) c.self.inside.store (memory_of c.self.inside) c.args.self.now c.self.view_is c.self.invariant.kept c.args.head.now c.args.list.now c.args.reads.now c.requires.serving c.requires.may c.need-need.result c.need-need.ensures c.in_ok-test_room.ensures in
    let lacks = lacks_said (λ s. g.S.StableStore.view s) c.self.inside.store (memory_of c.self.inside) c.args.self.now c.self.view_is c.args.list.now c.deref.result.now c.in_ok-lacks.lacks.items c.deref.ensures.value c.in_ok-lacks.ensures in
    let begin = begun (memory_of c.self.inside) (g.S.StableStore.view c.self.inside.store) c.args.head.now c.args.list.now c.args.reads.now c.need-need.result.heads h c.deref.result.now lacks c.promise.new.table c.promise.ensures.promised c.promise.ensures.table in
    let stored = c.in_default.ensures (promising (memory_of c.self.inside) c.need-need.result.heads) (g.S.StableStore.view c.self.inside.store) begin in
    let s = stored.stopped refl in
    record { kept = λ power. absurd (true≢false (sym power ∙ s.stop.dark)); recoverable = subst (λ n. IsRecoverable (memory_of c.self.inside).server n (g.S.StableStore.view c.store_all.new.store)) (sym s.counts) s.recoverable; flags_room = c.self.invariant.flags_room; rooms = c.self.invariant.rooms }

pub returns-in_default : goal.returns-in_default
returns-in_default g c =
    let h = given (λ s. g.S.StableStore.view s) c.self.inside.store (memory_of c.self.inside) c.args.self.now c.self.view_is c.self.invariant.kept c.args.head.now c.args.list.now c.args.reads.now c.requires.serving c.requires.may c.need-need.result c.need-need.ensures c.in_ok-test_room.ensures in
    let lacks = lacks_said (λ s. g.S.StableStore.view s) c.self.inside.store (memory_of c.self.inside) c.args.self.now c.self.view_is c.args.list.now c.deref.result.now c.in_ok-lacks.lacks.items c.deref.ensures.value c.in_ok-lacks.ensures in
    let begin = begun (memory_of c.self.inside) (g.S.StableStore.view c.self.inside.store) c.args.head.now c.args.list.now c.args.reads.now c.need-need.result.heads h c.deref.result.now lacks c.promise.new.table c.promise.ensures.promised c.promise.ensures.table in
    let stored = c.in_default.ensures (promising (memory_of c.self.inside) c.need-need.result.heads) (g.S.StableStore.view c.self.inside.store) begin in
    record {
      prepared = subst (λ s. WorkPrepared {A = Unit {0}} (view_of s.1 (g.S.StableStore.view s.0)) c.args.head.now c.args.list.now c.args.reads.now (Err Stops) (view_of (memory_of (record c.self.inside { sets = c.store_all.new.sets; table = c.store_all.new.table; works = c.reserve.new.self })) (g.S.StableStore.view c.store_all.new.store))) c.self.view_is
          (stopped_list (memory_of c.self.inside) (g.S.StableStore.view c.self.inside.store) c.args.head.now c.args.list.now c.args.reads.now c.need-need.result.heads h c.deref.result.now lacks c.store_all.new.stored.items c.store_all.new.sets c.store_all.new.table (g.S.StableStore.view c.store_all.new.store) false stored refl (memory_of (record c.self.inside { sets = c.store_all.new.sets; table = c.store_all.new.table; works = c.reserve.new.self })) refl refl);
    }

pub insert-requires-clause-there : goal.insert-requires-clause-there
insert-requires-clause-there g c =
    let h = given (λ s. g.S.StableStore.view s) c.self.inside.store (memory_of c.self.inside) c.args.self.now c.self.view_is c.self.invariant.kept c.args.head.now c.args.list.now c.args.reads.now c.requires.serving c.requires.may c.need-need.result c.need-need.ensures c.in_ok-test_room.ensures in
    let lacks = lacks_said (λ s. g.S.StableStore.view s) c.self.inside.store (memory_of c.self.inside) c.args.self.now c.self.view_is c.args.list.now c.deref.result.now c.in_ok-lacks.lacks.items c.deref.ensures.value c.in_ok-lacks.ensures in
    let begin = begun (memory_of c.self.inside) (g.S.StableStore.view c.self.inside.store) c.args.head.now c.args.list.now c.args.reads.now c.need-need.result.heads h c.deref.result.now lacks c.promise.new.table c.promise.ensures.promised c.promise.ensures.table in
    let stored = c.in-Ok.ensures (promising (memory_of c.self.inside) c.need-need.result.heads) (g.S.StableStore.view c.self.inside.store) begin in
    insert_there (memory_of c.self.inside) (g.S.StableStore.view c.self.inside.store) c.args.head.now c.args.list.now c.args.reads.now c.need-need.result.heads h c.deref.result.now lacks c.store_all.new.stored.items c.store_all.new.sets c.store_all.new.table (g.S.StableStore.view c.store_all.new.store) true stored refl

pub insert-requires-clause-page : goal.insert-requires-clause-page
insert-requires-clause-page g c =
    let h = given (λ s. g.S.StableStore.view s) c.self.inside.store (memory_of c.self.inside) c.args.self.now c.self.view_is c.self.invariant.kept c.args.head.now c.args.list.now c.args.reads.now c.requires.serving c.requires.may c.need-need.result c.need-need.ensures c.in_ok-test_room.ensures in
    its_reads (memory_of c.self.inside) (g.S.StableStore.view c.self.inside.store) c.args.head.now c.args.list.now c.args.reads.now c.need-need.result.heads h c.from_vec.result (c.from_vec.ensures ∙ c.in_ok-room.ensures.reads)

pub invariant_of-self-in_default-insert : goal.invariant_of-self-in_default-insert
invariant_of-self-in_default-insert g c =
    let h = given (λ s. g.S.StableStore.view s) c.self.inside.store (memory_of c.self.inside) c.args.self.now c.self.view_is c.self.invariant.kept c.args.head.now c.args.list.now c.args.reads.now c.requires.serving c.requires.may c.need-need.result c.need-need.ensures c.in_ok-test_room.ensures in
    let lacks = lacks_said (λ s. g.S.StableStore.view s) c.self.inside.store (memory_of c.self.inside) c.args.self.now c.self.view_is c.args.list.now c.deref.result.now c.in_ok-lacks.lacks.items c.deref.ensures.value c.in_ok-lacks.ensures in
    let begin = begun (memory_of c.self.inside) (g.S.StableStore.view c.self.inside.store) c.args.head.now c.args.list.now c.args.reads.now c.need-need.result.heads h c.deref.result.now lacks c.promise.new.table c.promise.ensures.promised c.promise.ensures.table in
    let stored = c.in-Ok.ensures (promising (memory_of c.self.inside) c.need-need.result.heads) (g.S.StableStore.view c.self.inside.store) begin in
    let at = free_slot c.store_all.new.sets (insert_left (memory_of c.self.inside) (g.S.StableStore.view c.self.inside.store) c.args.head.now c.args.list.now c.args.reads.now c.need-need.result.heads h c.deref.result.now lacks c.store_all.new.stored.items c.store_all.new.sets c.store_all.new.table (g.S.StableStore.view c.store_all.new.store) true stored refl) in
    record {
      kept = λ power. absurd (true≢false (sym power ∙ ((c.in_default-insert.ensures.puts at.0 at.1).put.stop refl).dark));
      recoverable = prepare_recovers (memory_of c.self.inside) (g.S.StableStore.view c.self.inside.store) c.args.head.now c.args.list.now c.args.reads.now c.need-need.result.heads h c.deref.result.now lacks c.store_all.new.stored.items c.store_all.new.sets c.store_all.new.table (g.S.StableStore.view c.store_all.new.store) true stored refl c.from_vec.result (c.from_vec.ensures ∙ c.in_ok-room.ensures.reads) c.record_fits.ensures at.0 at.1 false c.insert.new.self (g.S.StableStore.view c.insert.new.store)
          (c.in_default-insert.ensures.puts at.0 at.1);
      flags_room = c.self.invariant.flags_room;
      rooms = c.self.invariant.rooms;
    }

pub returns-in_default-insert : goal.returns-in_default-insert
returns-in_default-insert g c =
    let h = given (λ s. g.S.StableStore.view s) c.self.inside.store (memory_of c.self.inside) c.args.self.now c.self.view_is c.self.invariant.kept c.args.head.now c.args.list.now c.args.reads.now c.requires.serving c.requires.may c.need-need.result c.need-need.ensures c.in_ok-test_room.ensures in
    let lacks = lacks_said (λ s. g.S.StableStore.view s) c.self.inside.store (memory_of c.self.inside) c.args.self.now c.self.view_is c.args.list.now c.deref.result.now c.in_ok-lacks.lacks.items c.deref.ensures.value c.in_ok-lacks.ensures in
    let begin = begun (memory_of c.self.inside) (g.S.StableStore.view c.self.inside.store) c.args.head.now c.args.list.now c.args.reads.now c.need-need.result.heads h c.deref.result.now lacks c.promise.new.table c.promise.ensures.promised c.promise.ensures.table in
    let stored = c.in-Ok.ensures (promising (memory_of c.self.inside) c.need-need.result.heads) (g.S.StableStore.view c.self.inside.store) begin in
    let at = free_slot c.store_all.new.sets (insert_left (memory_of c.self.inside) (g.S.StableStore.view c.self.inside.store) c.args.head.now c.args.list.now c.args.reads.now c.need-need.result.heads h c.deref.result.now lacks c.store_all.new.stored.items c.store_all.new.sets c.store_all.new.table (g.S.StableStore.view c.store_all.new.store) true stored refl) in
    record {
      prepared = subst (λ s. WorkPrepared {A = Unit {0}} (view_of s.1 (g.S.StableStore.view s.0)) c.args.head.now c.args.list.now c.args.reads.now (Err Stops) (view_of (memory_of (record c.self.inside { sets = c.insert.new.self; table = c.store_all.new.table; works = c.reserve.new.self })) (g.S.StableStore.view c.insert.new.store))) c.self.view_is
          (prepare_stopped (memory_of c.self.inside) (g.S.StableStore.view c.self.inside.store) c.args.head.now c.args.list.now c.args.reads.now c.need-need.result.heads h c.deref.result.now lacks c.store_all.new.stored.items c.store_all.new.sets c.store_all.new.table (g.S.StableStore.view c.store_all.new.store) true stored refl c.from_vec.result (c.from_vec.ensures ∙ c.in_ok-room.ensures.reads) c.record_fits.ensures at.0 at.1 false c.insert.new.self (g.S.StableStore.view c.insert.new.store)
          (c.in_default-insert.ensures.puts at.0 at.1) refl (memory_of (record c.self.inside { sets = c.insert.new.self; table = c.store_all.new.table; works = c.reserve.new.self })) refl refl);
    }

pub invariant_of-self-2 : goal.invariant_of-self-2
invariant_of-self-2 g c =
    let h = given (λ s. g.S.StableStore.view s) c.self.inside.store (memory_of c.self.inside) c.args.self.now c.self.view_is c.self.invariant.kept c.args.head.now c.args.list.now c.args.reads.now c.requires.serving c.requires.may c.need-need.result c.need-need.ensures c.in_ok-test_room.ensures in
    let lacks = lacks_said (λ s. g.S.StableStore.view s) c.self.inside.store (memory_of c.self.inside) c.args.self.now c.self.view_is c.args.list.now c.deref.result.now c.in_ok-lacks.lacks.items c.deref.ensures.value c.in_ok-lacks.ensures in
    let begin = begun (memory_of c.self.inside) (g.S.StableStore.view c.self.inside.store) c.args.head.now c.args.list.now c.args.reads.now c.need-need.result.heads h c.deref.result.now lacks c.promise.new.table c.promise.ensures.promised c.promise.ensures.table in
    let stored = c.in-Ok.ensures (promising (memory_of c.self.inside) c.need-need.result.heads) (g.S.StableStore.view c.self.inside.store) begin in
    let now = prepare_kept (memory_of c.self.inside) (g.S.StableStore.view c.self.inside.store) c.args.head.now c.args.list.now c.args.reads.now c.need-need.result.heads h c.deref.result.now lacks c.store_all.new.stored.items c.store_all.new.sets c.store_all.new.table (g.S.StableStore.view c.store_all.new.store) true stored refl c.from_vec.result (c.from_vec.ensures ∙ c.in_ok-room.ensures.reads) c.record_fits.ensures c.in-Ok-insert._slot c.in-Ok-insert.ensures.lowest true c.insert.new.self (g.S.StableStore.view c.insert.new.store)
    (c.in-Ok-insert.ensures.puts c.in-Ok-insert._slot c.in-Ok-insert.ensures.lowest) c.push_reserved.new.self.items
    (works_listed c.push_reserved.new.self.items c.reserve.new.self.items c.self.inside.works.items c.args.head.now c.from_vec-2.result c.store_all.new.stored.items c.from_vec-3.result c.args.reads.now c.push_reserved.ensures.items c.reserve.ensures.items c.from_vec-2.ensures (c.from_vec-3.ensures ∙ c.in_ok-room.ensures.listed)) refl in
    record {
      kept = λ power. now;
      recoverable = now.standing.recoverable;
      flags_room = c.self.invariant.flags_room;
      rooms = c.self.invariant.rooms;
    }

pub returns : goal.returns
returns g c =
    let h = given (λ s. g.S.StableStore.view s) c.self.inside.store (memory_of c.self.inside) c.args.self.now c.self.view_is c.self.invariant.kept c.args.head.now c.args.list.now c.args.reads.now c.requires.serving c.requires.may c.need-need.result c.need-need.ensures c.in_ok-test_room.ensures in
    let lacks = lacks_said (λ s. g.S.StableStore.view s) c.self.inside.store (memory_of c.self.inside) c.args.self.now c.self.view_is c.args.list.now c.deref.result.now c.in_ok-lacks.lacks.items c.deref.ensures.value c.in_ok-lacks.ensures in
    let begin = begun (memory_of c.self.inside) (g.S.StableStore.view c.self.inside.store) c.args.head.now c.args.list.now c.args.reads.now c.need-need.result.heads h c.deref.result.now lacks c.promise.new.table c.promise.ensures.promised c.promise.ensures.table in
    let stored = c.in-Ok.ensures (promising (memory_of c.self.inside) c.need-need.result.heads) (g.S.StableStore.view c.self.inside.store) begin in
    record {
      prepared = subst (λ s. WorkPrepared {A = Unit {0}} (view_of s.1 (g.S.StableStore.view s.0)) c.args.head.now c.args.list.now c.args.reads.now (Ok tt) (view_of (memory_of (record c.self.inside { sets = c.insert.new.self; table = c.store_all.new.table; works = c.push_reserved.new.self })) (g.S.StableStore.view c.insert.new.store))) c.self.view_is
          (prepare_done (memory_of c.self.inside) (g.S.StableStore.view c.self.inside.store) c.args.head.now c.args.list.now c.args.reads.now c.need-need.result.heads h c.deref.result.now lacks c.store_all.new.stored.items c.store_all.new.sets c.store_all.new.table (g.S.StableStore.view c.store_all.new.store) true stored refl c.from_vec.result (c.from_vec.ensures ∙ c.in_ok-room.ensures.reads) c.record_fits.ensures c.in-Ok-insert._slot c.in-Ok-insert.ensures.lowest true c.insert.new.self (g.S.StableStore.view c.insert.new.store)
          (c.in-Ok-insert.ensures.puts c.in-Ok-insert._slot c.in-Ok-insert.ensures.lowest) c.push_reserved.new.self.items
          (works_listed c.push_reserved.new.self.items c.reserve.new.self.items c.self.inside.works.items c.args.head.now c.from_vec-2.result c.store_all.new.stored.items c.from_vec-3.result c.args.reads.now c.push_reserved.ensures.items c.reserve.ensures.items c.from_vec-2.ensures (c.from_vec-3.ensures ∙ c.in_ok-room.ensures.listed)) refl);
    }
