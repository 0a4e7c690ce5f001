use Rattle.jn_index.proofs.Common.{◌≡◌, ◌<◌, rules, sym, ◌∙◌, length, get_or_default, entry, entry_at}
use Rattle.jn_index.proofs.Editing.{least_above, none_above, low_slots}
use Rattle.jn_index.proofs.Index.number_above.Goals as goal

pub place_above-place-requires-clause-slots : goal.place_above-place-requires-clause-slots
place_above-place-requires-clause-slots c =
    rw c.deref.ensures.value (low_slots c.self.inside.numbers.items c.self.inside.entries.items c.self.invariant.entries c.self.invariant.few)

pub returns-then-place-len-clause-found : goal.returns-then-place-len-clause-found
returns-then-place-len-clause-found c =
    let its = c.deref.ensures.value in
    let here : c.place_above-place.result < length c.self.inside.entries.items = search rules in
    let found : entry_at c.self.inside.entries.items c.place_above-place.result ≡ c.index.result.now = get_or_default c.self.inside.entries.items c.place_above-place.result (entry 0 0) c.index.result.now here ∙ sym c.index.ensures in
    let at = least_above c.self.inside.numbers.items c.self.inside.entries.items c.self.invariant.entries c.args.after c.place_above-place.result
    (rw (← its) c.place_above-place.ensures.before) c.index.result.now here found
    (rw (← its) c.place_above-place.ensures.after) in
    search rules

pub returns-clause-none : goal.returns-clause-none
returns-clause-none c =
    let its = c.deref.ensures.value in
    rw (← c.self.view_is)
    (none_above c.self.inside.numbers.items c.self.inside.entries.items c.self.invariant.entries c.args.after c.place_above-place.result
    (rw (← its) c.place_above-place.ensures.before)
    (search rules))
