use Rattle.jn_image_files.proofs.Common.{◌≡◌, ◌+◌, ◌<◌, ◌∙◌, ℕ, Err, Some, ap, sym, subst, slice_get, length, refl, arith, length_push, err_from_is_err_and, PageCounts, get_or, is_ok, true≢false}
use Rattle.std.proofs.lemmas.Iterator.Adapters.{YieldsList-from_vec}
use Rattle.std.proofs.lemmas.Iterator.Consumers.{YieldsList-turn}
use Rattle.jn_image_files.proofs.Disks.{device}
use Rattle.std.proofs.lemmas.Option.{slice_get-get_or}
use Rattle.jn_image_files.proofs.Kept.{fails-all, saved-more, get-some}
use Rattle.jn_image_files.proofs.saving.save_images.Goals as goal

pub save_image-requires-clause-closed : goal.save_image-requires-clause-closed
save_image-requires-clause-closed g c =
    let xs = c.args.stores.items in
    let gives = c.into_iter-store-iterator.ensures.into_iter_gives in
    let long = c.args.stores.ok.0 in
    let t = YieldsList-turn (YieldsList-from_vec {s = c.into_iter-store-iterator.result} xs (cc) (cc)) c.loop-store.yielded c.loop-store.store-iterator c.loop-store.yielded_by c.next.result c.next.new.self c.in-Some.store c.in-Some.is c.next.ensures.steps in
    let n = c.loop-store.server in
    let many = c.loop-store.invariant.count in
    let lt : n < length xs = subst (λ (k : ℕ). k < length xs) many t.0 in
    let d : PageCounts = record { pool = 0; heads = 0; leaves = 0 } in
    let place : c.from.result ≡ n = c.from.ensures in
    c.requires.closed (record { 0 = n }) c.in-Some.store (get_or c.args.counts.now c.from.result d) (get-some xs n c.in-Some.store lt (subst (λ (k : ℕ). c.in-Some.store ≡ get_or xs k c.in-Some.store) many t.1))
    (subst (λ (k : ℕ). slice_get c.args.counts.now k ≡ Some (get_or c.args.counts.now c.from.result d)) place (slice_get-get_or c.args.counts.now c.from.result d (omega (arith, lt, long, c.requires.counts, place))))

pub save_image-requires-clause-server : goal.save_image-requires-clause-server
save_image-requires-clause-server g c =
    let xs = c.args.stores.items in
    let gives = c.into_iter-store-iterator.ensures.into_iter_gives in
    let t = YieldsList-turn (YieldsList-from_vec {s = c.into_iter-store-iterator.result} xs (cc) (cc)) c.loop-store.yielded c.loop-store.store-iterator c.loop-store.yielded_by c.next.result c.next.new.self c.in-Some.store c.in-Some.is c.next.ensures.steps in
    let lt : c.loop-store.server < length xs = subst (λ (k : ℕ). k < length xs) c.loop-store.invariant.count t.0 in
    omega (arith, lt, c.args.stores.ok.0, c.requires.few)

pub returns-in_err-save_image : goal.returns-in_err-save_image
returns-in_err-save_image g c =
    let xs = c.args.stores.items in
    let gives = c.into_iter-store-iterator.ensures.into_iter_gives in
    let long = c.args.stores.ok.0 in
    let t = YieldsList-turn (YieldsList-from_vec {s = c.into_iter-store-iterator.result} xs (cc) (cc)) c.loop-store.yielded c.loop-store.store-iterator c.loop-store.yielded_by c.next.result c.next.new.self c.in-Some.store c.in-Some.is c.next.ensures.steps in
    let p = err_from_is_err_and c.from_residual.result c.from_residual.ensures.1 in
    record {
      saved = fails-all device c.args.name.now xs c.args.counts.now (g.I.Keeper.kept c.args.keeper.now) c.loop-store.server _ _ _ (g.I.Keeper.faults c.args.keeper.now) (g.I.Keeper.kept c.loop-store.keeper) (g.I.Keeper.faults c.loop-store.keeper) _ _ c.save_image.result c.from_residual.result p.0
          (subst (λ (n : ℕ). n < length xs) c.loop-store.invariant.count t.0) c.loop-store.invariant.faults c.loop-store.invariant.saved c.save_image.ensures.saved (c.in_err-save_image.was ∙ ap (λ e. Err e) (sym p.2)) p.1;
    }

pub loop-store-preserved : goal.loop-store-preserved
loop-store-preserved g c =
    let xs = c.args.stores.items in
    let gives = c.into_iter-store-iterator.ensures.into_iter_gives in
    let long = c.args.stores.ok.0 in
    let t = YieldsList-turn (YieldsList-from_vec {s = c.into_iter-store-iterator.result} xs (cc) (cc)) c.loop-store.yielded c.loop-store.store-iterator c.loop-store.yielded_by c.next.result c.next.new.self c.in-Some.store c.in-Some.is c.next.ensures.steps in
    let n = c.loop-store.server in
    let many = c.loop-store.invariant.count in
    let lt : n < length xs = subst (λ (k : ℕ). k < length xs) many t.0 in
    let one = c.save_image.ensures.saved in
    let d : PageCounts = record { pool = 0; heads = 0; leaves = 0 } in
    let own = get_or c.args.counts.now c.from.result d in
    let place : c.from.result ≡ n = c.from.ensures in
    let its : slice_get c.args.counts.now n ≡ Some own = subst (λ (k : ℕ). slice_get c.args.counts.now k ≡ Some (get_or c.args.counts.now c.from.result d)) place (slice_get-get_or c.args.counts.now c.from.result d (omega (arith, lt, long, c.requires.counts, place))) in
    record {
      count = length_push c.loop-store.yielded c.in-Some.store ∙ ap (λ (k : ℕ). k + 1) many;
      faults = one.no_fault (λ failed. true≢false (sym (ap is_ok c.in_ok-save_image.was) ∙ ap is_ok failed)) ∙ c.loop-store.invariant.faults;
      saved = saved-more device c.args.name.now xs c.args.counts.now (g.I.Keeper.kept c.args.keeper.now) n c.in-Some.store own (record { 0 = n }) (g.I.Keeper.kept c.loop-store.keeper) (g.I.Keeper.kept c.save_image.new.keeper) (g.I.Keeper.faults c.loop-store.keeper) (g.I.Keeper.faults c.save_image.new.keeper) c.save_image.result refl (omega (arith, lt, long, c.requires.few))
          (get-some xs n c.in-Some.store lt (subst (λ (k : ℕ). c.in-Some.store ≡ get_or xs k c.in-Some.store) many t.1)) its c.loop-store.invariant.saved one (ap is_ok c.in_ok-save_image.was);
    }
