use Rattle.std.proofs.Common.{rules, arith}
use Rattle.jn_index.proofs.Indexed.{is_renumbered}
use Rattle.jn_index.proofs.Editing.{place_is}
use Rattle.jn_index.proofs.Index.renumber.Goals as goal

pub invariant_of-self : goal.invariant_of-self
invariant_of-self c =
    let its = c.deref.ensures.value in
    let later = c.deref-2.ensures.value in
    let from = c.place_of-from.result in
    let to = c.place_without-to.result in
    let new = c.args.new in
    let place = place_is c.self.inside.numbers.items c.self.inside.entries.items c.self.invariant.entries c.args.old from (search rules)
    (rw (← its) c.place_of-from.ensures.before)
    (rw (← its) c.place_of-from.ensures.after) in
    is_renumbered c.self.inside.numbers.items c.self.inside.entries.items _ c.self.invariant c.args.old new from to c.turn.new.entries.items _ (search rules) c.requires.slot place.0 place.1
    (rw (← later) c.place_without-to.ensures.bound)
    (rw (← later) c.place_without-to.ensures.before)
    (rw (← later) c.place_without-to.ensures.after)
    c.turn.ensures.turned (omega (arith, c.turn.ensures.capacity))
