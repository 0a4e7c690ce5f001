use Rattle.std.proofs.Common.{ap, sym}
use Rattle.jn_store.specs.Store.{StoreView}
use Rattle.jn_run_tests.proofs.Examined.{image-on}
use Rattle.jn_run_tests.proofs.images.scrubbed.Goals as goal

pub returns-in-Ok-clause-image : goal.returns-in-Ok-clause-image
returns-in-Ok-clause-image g c =
    let look : g.row.S.Denot → StoreView = λ s. g.S.StableStore.view s in
    image-on _ _ _ _ _ (ap look (sym c.into_store.ensures.same)) (c.in-Ok.ensures.scrubbed.image c.requires.calm c.requires.idle)
