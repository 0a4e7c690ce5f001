use Rattle.jn_image_files.proofs.Common.{◌∙◌, List, Err, length, sym, ap, subst, arith, err_from_is_err_and, AreStoresOf, found_at}
use Rattle.std.proofs.lemmas.Grind.{common_steps}
use Rattle.jn_image_files.proofs.Disks.{look, device}
use Rattle.jn_image_files.proofs.Stores.{first-refused, next-store}
use Rattle.jn_image_files.proofs.examining.examine.Goals as goal

pub returns-in_err-examine_image-clause-refused : goal.returns-in_err-examine_image-clause-refused
returns-in_err-examine_image-clause-refused c = λ r is.
    let p = err_from_is_err_and c.from_residual.result c.from_residual.ensures.1 in
    first-refused look device c.args.found.now c.loop-content.stores.items c.loop-content.content-index c.len.result (grind (arith, c.len.ensures, c.loop-content.stores.ok.0)) c.content-item.result c.examine_image.result c.from_residual.result p.0 r c.loop-content-test.true c.loop-content.invariant.count c.content-item.is c.loop-content.invariant.stores
    (c.in_err-examine_image.was ∙ ap (λ e. Err e) (sym p.2)) p.1 is c.examine_image.ensures.refused

pub loop-content-preserved : goal.loop-content-preserved
loop-content-preserved c = record {
  count = ap length c.in_ok-push.ensures.items ∙ grind (arith, common_steps, c.loop-content.invariant.count);
  stores = subst (λ (xs : List _). AreStoresOf look device (found_at c.args.found.now) xs) (sym c.in_ok-push.ensures.items)
      (next-store look device c.args.found.now c.loop-content.stores.items c.loop-content.content-index c.len.result (grind (arith, c.len.ensures, c.loop-content.stores.ok.0)) c.content-item.result c.in_ok-examine_image.field-0 c.loop-content-test.true c.loop-content.invariant.count c.content-item.is c.loop-content.invariant.stores c.in_ok-examine_image.ensures.store);
}
