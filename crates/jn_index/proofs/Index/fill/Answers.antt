use Rattle.std.proofs.Common.{rules}
use Rattle.jn_index.proofs.Indexed.{is_filled}
use Rattle.jn_index.proofs.Index.fill.Goals as goal

pub invariant_of-self : goal.invariant_of-self
invariant_of-self c =
    let its = c.deref.ensures.value in
    is_filled c.self.inside.numbers.items c.self.inside.entries.items _ c.self.invariant c.args.new c.place_of-place.result c.insert.new.self.items _
    (search rules) (search rules)
    (rw (← its) c.place_of-place.ensures.bound)
    (rw (← its) c.place_of-place.ensures.before)
    (rw (← its) c.place_of-place.ensures.after)
    c.in-Ok.ensures.items c.insert.ensures.capacity
