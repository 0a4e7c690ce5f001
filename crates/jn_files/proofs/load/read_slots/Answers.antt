use Rattle.jn_files.proofs.Common.{◌≡◌, ◌+◌, ℕ, subst, refl, arith, true, counts_of, head_place, head_in, IsHeadAt}
use Rattle.jn_files.proofs.Loading.{head_stands, reads_more}
use Rattle.jn_files.proofs.load.read_slots.Goals as goal

pub read_slot-requires-clause-readable : goal.read_slot-requires-clause-readable
read_slot-requires-clause-readable g c =
    let n = c.loop-slot.slot in
    let heads = c.requires.loadable.0 in
    let place : head_place (counts_of c.args.root.now) c.loop-slot.slot ≡ 1 + c.from.result + c.from-in-loop-slot.result = omega arith in (
      head_in heads n,
      subst (λ (k : ℕ). IsHeadAt (g.S.StableStore.view c.loop-slot.store) k c.args.root.now.leaves (head_in heads n)) place
          (head_stands (counts_of c.args.root.now) (g.S.StableStore.view c.args.store.now) (g.S.StableStore.view c.loop-slot.store) n c.loop-slot.slots.items c.loop-slot.invariant c.loop-slot-test.true heads c.requires.loadable.1),
    )

pub loop-slot-preserved : goal.loop-slot-preserved
loop-slot-preserved g c =
    let n = c.loop-slot.slot in
    let place : head_place (counts_of c.args.root.now) c.loop-slot.slot ≡ 1 + c.from.result + c.from-in-loop-slot.result = omega arith in
    reads_more (counts_of c.args.root.now) (g.S.StableStore.view c.args.store.now) (g.S.StableStore.view c.loop-slot.store) n c.loop-slot.slots.items c.loop-slot.invariant c.loop-slot-test.true
    (g.S.StableStore.view c.read_slot.new.store) c.push.new.self.items c.in_ok-head.head c.in_ok-push.ensures.items
    (λ h at. c.in_ok-head.ensures.found h (subst (λ (k : ℕ). IsHeadAt (g.S.StableStore.view c.loop-slot.store) k c.args.root.now.leaves h) place at))
    c.in_ok-head.ensures.read (c.in_ok-head.ensures.served (refl {a = true}))
