use Rattle.std.proofs.Common.{arith, rules}
use Rattle.jn_index.proofs.Indexed.{is_cleared}
use Rattle.jn_index.proofs.Editing.{place_is}
use Rattle.jn_index.proofs.Index.clear.Goals as goal

pub invariant_of-self : goal.invariant_of-self
invariant_of-self c =
    let its = c.deref.ensures.value in
    let place = place_is c.self.inside.numbers.items c.self.inside.entries.items c.self.invariant.entries c.args.old c.place_of-place.result (search rules)
    (rw (← its) c.place_of-place.ensures.before)
    (rw (← its) c.place_of-place.ensures.after) in
    is_cleared c.self.inside.numbers.items c.self.inside.entries.items _ c.self.invariant c.args.old c.place_of-place.result c.remove.new.self.items _
    (search rules) place.0 place.1 c.remove.ensures.items (omega (arith, c.remove.ensures.capacity))
