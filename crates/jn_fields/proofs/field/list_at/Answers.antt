use Rattle.jn_fields.specs.Reading.{list_at}
use Rattle.jn_fields.proofs.Lists.{goes_on, ends, is_done}
use Rattle.jn_fields.proofs.field.list_at.Goals as goal

pub returns-in_default : goal.returns-in_default
returns-in_default g c = ends g.F.Field.read c.loop.list.items c.args.count c.loop.counter c.loop.rest.now (list_at g.F.Field.read c.args.count c.args.bytes.now) c.loop-test.true c.in_default.ensures c.loop.invariant

pub loop-preserved : goal.loop-preserved
loop-preserved g c =
    rw c.in_ok-push.ensures.items
    (goes_on g.F.Field.read c.loop.list.items c.args.count c.loop.counter c.loop.rest.now c.in-Some.field c.in-Some.after.now (list_at g.F.Field.read c.args.count c.args.bytes.now) c.loop-test.true c.in-Some.ensures c.loop.invariant)

pub returns : goal.returns
returns g c = is_done g.F.Field.read c.loop.list.items c.args.count c.loop.counter c.loop.rest.now (list_at g.F.Field.read c.args.count c.args.bytes.now) c.loop-test.false c.loop.invariant
