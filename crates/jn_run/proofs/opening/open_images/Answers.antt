use Rattle.jn_run.proofs.Common.{◌≡◌, ◌<◌, ◌∙◌, ℕ, List, Option, Vec, ap, length, subst, sym, Global, Has, found_at, image_name}
use Rattle.jn_run.proofs.Stores.{look, device, stores-of-images}
use Rattle.jn_run.proofs.opening.open_images.Goals as goal

pub returns-in-Ok-examine-clause-stores : goal.returns-in-Ok-examine-clause-stores
returns-in-Ok-examine-clause-stores g c = stores-of-images look device (found_at c.deref.result.now) c.in-Ok-examine.stores.items c.in-Ok-examine.ensures.stores

pub returns-in-Ok-examine-clause-opened : goal.returns-in-Ok-examine-clause-opened
returns-in-Ok-examine-clause-opened g c =
    let kept = g.I.Keeper.kept c.args.keeper.now in
    let many : length c.in-Ok-examine.stores.items ≡ c.args.servers = sym c.in-Ok-examine.stores.ok.0 ∙ c.in-Ok-examine.ensures.count ∙ ap (λ (xs : List (Option (Vec ℕ Global))). length xs) c.deref.ensures.value ∙ c.in-Ok.ensures.loaded.count in (
      found_at c.deref.result.now,
      λ n lt. subst (λ (xs : List (Option (Vec ℕ Global))). Has kept (image_name c.args.name.now n) (found_at xs n)) (sym c.deref.ensures.value) (c.in-Ok.ensures.loaded.each n (subst (λ (k : ℕ). n < k) many lt)),
      c.in-Ok-examine.ensures.stores,
    )
