use Rattle.jn_disks.proofs.Common.{inr, true, subst, arith, List, ℕ, StorePut}
use Rattle.jn_disks.proofs.NewStores.{new_is, same_device}
use Rattle.jn_disks.proofs.put_root.Goals as goal

pub encode-requires : goal.encode-requires
encode-requires g c = inr c.requires.version

pub returns-clause-new : goal.returns-clause-new
returns-clause-new g c =
    let r = c.args.root in
    new_is r _ _ c.requires.blank (subst (λ (page : List ℕ). StorePut (g.S.StableStore.view c.args.store.now) 0 page true (g.S.StableStore.view c.put.new.self)) c.encode.ensures c.in-Ok.ensures.put)
    c.requires.version (omega arith) (record { server_fits = omega arith; pool = omega arith; heads = omega arith; leaves = omega arith })

pub returns-clause-device : goal.returns-clause-device
returns-clause-device g c = same_device _ _ c.in-Ok.ensures.put.later

pub returns-clause-calls : goal.returns-clause-calls
returns-clause-calls g c = let none = c.requires.blank.calls in let few = c.in-Ok.ensures.put.calls in omega (arith, none, few)
