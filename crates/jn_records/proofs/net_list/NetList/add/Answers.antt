use Rattle.jn_records.proofs.Common.{◌≡◌, ◌<◌, true, List, Some, Result, Ok, Err, length, filter, sym, subst, ap, ◌∙◌, arith, false≢true, IsOk, OnOk, vec_len, vec_capacity, and_then, effect, Intention, InOrder, blocks_below, net_of, added, net_change, stays, intention_for, list_after, in_its_place, with_intention}
use Rattle.jn_records.proofs.NetLemmas.{list-net, added-change}
use Rattle.jn_records.proofs.EditLemmas.{edited-in_order, edited-net, edited-length, edited-blocks, unchanged-length}
use Rattle.jn_records.proofs.net_list.NetList.add.Goals as goal

pub returns-in_default-clause-length : goal.returns-in_default-clause-length
returns-in_default-clause-length c = rw (← c.self.view_is) (unchanged-length c.args.op.now c.self.inside.items.items (ap (λ (l : List Intention). intention_for l c.args.op.now) (sym c.deref.ensures.value) ∙ sym c.in_default.ensures))

on_ok : {T E P : Type 0} (r : Result T E) → P → OnOk r P
on_ok (Ok x) p = p
on_ok (Err e) p = tt

given : {T E P : Type 0} (r : Result T E) → IsOk r → OnOk r P → P
given (Ok x) o p = p
given (Err e) o p = absurd (false≢true o)

finds : (c : goal.After-put_in_its_place) → intention_for c.self.inside.items.items c.args.op.now ≡ Some c.in-Some.new
finds c = ap (λ (l : List Intention). intention_for l c.args.op.now) (sym c.deref.ensures.value) ∙ sym c.intention_for.ensures ∙ c.in-Some.is

has_room : (c : goal.After-put_in_its_place) → vec_len c.drop_replaced.new.items < vec_capacity c.drop_replaced.new.items
has_room c = omega (arith, c.in_ok-reserve.ensures.ok, c.in_ok-reserve.ensures.len, c.drop_replaced.ensures.fewer, c.drop_replaced.ensures.capacity)

edited : (c : goal.After-put_in_its_place) → c.put_in_its_place.new.items.items ≡ with_intention c.args.op.now c.self.inside.items.items c.in-Some.new
edited c =
    given c.put_in_its_place.result (c.put_in_its_place.ensures.room (has_room c)) c.put_in_its_place.ensures.ok
    ∙ ap (λ (l : List Intention). in_its_place c.in-Some.new l) (c.drop_replaced.ensures.items ∙ ap (λ (l : List Intention). filter (λ (i : Intention). stays c.args.op.now i) l) c.in_ok-reserve.ensures.items)

net : (c : goal.After-put_in_its_place) → net_of c.put_in_its_place.new.items.items ≡ added (net_of c.self.inside.items.items) c.args.op.now
net c = ap net_of (edited c) ∙ edited-net c.args.op.now c.self.inside.items.items c.in-Some.new (finds c)

pub invariant_of-self-2 : goal.invariant_of-self-2
invariant_of-self-2 c = subst InOrder (sym (edited c)) (edited-in_order c.args.op.now c.self.inside.items.items c.in-Some.new (finds c) c.self.invariant)

pub returns-clause-net : goal.returns-clause-net
returns-clause-net c = rw (← c.self.view_is) (on_ok c.put_in_its_place.result (net c))

pub returns-clause-change : goal.returns-clause-change
returns-clause-change c = rw (← c.self.view_is) (on_ok c.put_in_its_place.result (
    list-net c.put_in_its_place.new.items.items (invariant_of-self-2 c).order
    ∙ ap net_change (net c)
    ∙ added-change (net_of c.self.inside.items.items) c.args.op.now
    ∙ ap (λ a. and_then a (effect c.args.op.now)) (sym (list-net c.self.inside.items.items c.self.invariant.order))))

pub returns-in_default-clause-edited : goal.returns-in_default-clause-edited
returns-in_default-clause-edited c = rw (← c.self.view_is) (sym (ap (λ o. list_after o c.args.op.now c.self.inside.items.items) (ap (λ (l : List Intention). intention_for l c.args.op.now) (sym c.deref.ensures.value) ∙ sym c.in_default.ensures)))

pub returns-clause-edited : goal.returns-clause-edited
returns-clause-edited c = rw (← c.self.view_is) (on_ok c.put_in_its_place.result (edited c ∙ sym (ap (λ o. list_after o c.args.op.now c.self.inside.items.items) (finds c))))

pub returns-clause-length : goal.returns-clause-length
returns-clause-length c = rw (← c.self.view_is) (on_ok c.put_in_its_place.result (ap (λ (l : List Intention). length l) (edited c) ∙ edited-length c.args.op.now c.self.inside.items.items c.in-Some.new (finds c)))

pub returns-clause-blocks : goal.returns-clause-blocks
returns-clause-blocks c = rw (← c.self.view_is) (λ n small h. on_ok c.put_in_its_place.result (subst (λ (l : List Intention). blocks_below n l ≡ true) (sym (edited c)) (edited-blocks n c.args.op.now c.self.inside.items.items c.in-Some.new (finds c) small h)))
