use Rattle.jn_locks.proofs.Common.{List, ◌++◌, length, sym, ap, ◌∙◌, arith, append-nil, Holder, at}
use Rattle.jn_locks.proofs.Listing.{all_locks, holders_are}
use Rattle.jn_locks.proofs.Steps.{drop_past}
use Rattle.jn_locks.proofs.held.Held.holders.Goals as goal

pub returns : goal.returns
returns c =
    let hs = at c.args.self.now.units c.args.unit in
    let end = drop_past c.loop-h.h-index hs (omega (arith, ap (λ (xs : List Holder). length xs) c.at-h-items.ensures)) in
    holders_are c.args.self.now c.args.unit c.loop-h.locks.items c.requires
    (sym (append-nil c.loop-h.locks.items) ∙ sym (ap (λ (xs : List Holder). c.loop-h.locks.items ++ all_locks xs) end) ∙ c.loop-h.invariant)
