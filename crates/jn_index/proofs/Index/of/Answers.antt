use Rattle.jn_index.proofs.Common.{◌≡◌, ◌<◌, length, sym, ◌∙◌, arith, get_or_default}
use Rattle.jn_index.proofs.Taking.{pair_at, slot_within, takes_one, has_all}
use Rattle.jn_index.proofs.Index.of.Goals as goal

pub set-requires : goal.set-requires
set-requires c =
    let pairs = c.in_ok-order.order.items in
    let lt = c.loop-i-test.true in
    let end = c.len-i-end.ensures in
    let below : c.loop-i.i < length pairs = omega (arith, lt, end) in
    let is : c.index-in-loop-i.result.now ≡ pair_at pairs c.loop-i.i = sym (get_or_default pairs c.loop-i.i (0, 0) c.index-in-loop-i.result.now below ∙ sym c.index-in-loop-i.ensures) in
    slot_within c.args.numbers.now pairs c.in_ok-order.ensures c.loop-i.index c.loop-i.i c.index-in-loop-i.result.now below is c.loop-i.invariant

pub loop-i-preserved : goal.loop-i-preserved
loop-i-preserved c =
    let pairs = c.in_ok-order.order.items in
    let lt = c.loop-i-test.true in
    let end = c.len-i-end.ensures in
    let below : c.loop-i.i < length pairs = omega (arith, lt, end) in
    let is : c.index-in-loop-i.result.now ≡ pair_at pairs c.loop-i.i = sym (get_or_default pairs c.loop-i.i (0, 0) c.index-in-loop-i.result.now below ∙ sym c.index-in-loop-i.ensures) in
    rw c.set.ensures
    (takes_one c.args.numbers.now pairs c.in_ok-order.ensures c.loop-i.index c.loop-i.i c.index-in-loop-i.result.now below is c.loop-i.invariant)

pub returns : goal.returns
returns c =
    let past = c.loop-i-test.false in
    let end = c.len-i-end.ensures in
    has_all c.args.numbers.now c.in_ok-order.order.items c.in_ok-order.ensures c.loop-i.index c.loop-i.i (omega (arith, past, end)) c.loop-i.invariant
