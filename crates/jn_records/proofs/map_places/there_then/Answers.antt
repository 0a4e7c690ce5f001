use Rattle.std.proofs.Common.{sym, ◌∙◌}
use Rattle.jn_records.proofs.MapPlaces.{then-at, none-left}
use Rattle.jn_records.proofs.map_places.there_then.Goals as goal

pub returns : goal.returns
returns c = λ places e. sym (none-left c.args.list.now c.loop-intention.intention-index c.args.file c.args.map c.loop-intention.found c.loop-intention-test.false)
    ∙ c.loop-intention.invariant ∙ sym (then-at c.args.list.now c.args.file c.args.map c.args.there places e)
