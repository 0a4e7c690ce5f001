use Rattle.std.proofs.Common.{◌≤◌, List, Bool, length, ap, subst, arith, rules}
use Rattle.jn_alloc.specs.Free.{FreeNumbers, IsBelowAll, free_count}
use Rattle.jn_alloc.proofs.Counting.{all_clear}
use Rattle.jn_alloc.proofs.FreeList.first.Goals as goal

pub returns-clause-found : goal.returns-clause-found
returns-clause-found c =
    let flags = c.self.inside.is_free.items in
    let end : length flags ≤ c.next_set-a.result = search rules in
    let none = all_clear flags c.next_set-a.result end (subst (λ (l : List Bool). IsBelowAll l c.next_set-a.result) c.deref.ensures.value c.next_set-a.ensures.below) in
    let same = ap (λ (v : FreeNumbers). free_count v) c.self.view_is in
    (λ e. absurd (cc e), λ some. absurd (omega (arith, none, same, some)))
