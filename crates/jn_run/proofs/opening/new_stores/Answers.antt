use Rattle.jn_run.proofs.Common.{length, ◌∙◌, ◌≡◌, ◌+◌, ℕ, refl, sym, subst, arith, common_steps, AreStores, IsDisk, AreDisks, IsStore}
use Rattle.jn_run.proofs.Stores.{look, one-more-store, one-more-disk}
use Rattle.jn_run.proofs.opening.new_stores.Goals as goal

zero-plus : (n : ℕ) → 0 + n ≡ n
zero-plus n = omega arith

pub loop-server-preserved : goal.loop-server-preserved
loop-server-preserved c =
    let g = c.args.geometry in
    let place : c.loop-server.server ≡ 0 + length c.loop-server.stores.items = omega (arith, c.loop-server.invariant.count) in
    let here = subst (λ (k : ℕ). IsStore look k (c.in_ok-new_disk.field-0, record { pool = g.pool; heads = g.heads; leaves = g.leaves })) place c.in_ok-new_disk.ensures.store in
    let disk = subst (λ (k : ℕ). IsDisk look g k (c.in_ok-new_disk.field-0, record { pool = g.pool; heads = g.heads; leaves = g.leaves })) (place ∙ zero-plus (length c.loop-server.stores.items)) (record { counts = refl; new = c.in_ok-new_disk.ensures.new; device = c.in_ok-new_disk.ensures.device }) in
    record {
      new = subst (λ xs. AreDisks look g xs) (sym c.in_ok-push.ensures.items) (one-more-disk look g c.loop-server.stores.items _ c.loop-server.invariant.new disk);
      stores = subst (λ xs. AreStores look 0 xs) (sym c.in_ok-push.ensures.items) (one-more-store look 0 c.loop-server.stores.items _ c.loop-server.invariant.stores here);
      count = grind (arith, common_steps, c.loop-server.invariant.count);
    }
