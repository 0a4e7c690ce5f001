use Rattle.std.proofs.Common.{ℕ, List, Vec, Global, Bor}
use Rattle.jn_base.specs.declared.names.WorkId.{WorkId}
use Rattle.std.proofs.lemmas.Result.{err_from_is_err_and}
use Rattle.jn_wire.specs.Fields.{works_from}
use Rattle.jn_wire.proofs.Works.{goes_on, fails}
use Rattle.jn_wire.proofs.fields.works_from.Goals as goal

pub returns-in_err-first : goal.returns-in_err-first
returns-in_err-first c =
    let p = err_from_is_err_and c.from_residual-in_err-first.result c.from_residual-in_err-first.ensures.1 in
    rw (p.1, p.2) (fails {X = Vec WorkId Global × Bor (List ℕ)} {Y = WorkId × Bor (List ℕ)} (λ r. (r.0.items, r.1.now)) (λ r. (r.0, r.1.now)) c.loop.items.items c.args.count c.loop.counter c.loop.rest.now (works_from c.args.count c.args.bytes.now) c.in_err-first.field-0.0 c.loop-test.true c.in_err-first.ensures c.loop.invariant)

pub loop-preserved : goal.loop-preserved
loop-preserved c =
    rw c.in_ok-push.ensures.items
    (goes_on c.loop.items.items c.args.count c.loop.counter c.loop.rest.now c.in_ok-first.first c.in_ok-first.behind.now (works_from c.args.count c.args.bytes.now) c.loop-test.true c.in_ok-first.ensures c.loop.invariant)
