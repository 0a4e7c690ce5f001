use Rattle.std.proofs.Common.{◌<◌, ◌∙◌, ap, subst}
use Rattle.jn_base.specs.Counts.{bumped}
use Rattle.jn_store.proofs.TwoPuts.{array_stored}
use Rattle.jn_store.proofs.array.ArrayStoreStableStore.put.Goals as goal

pub returns : goal.returns
returns c = record { put = array_stored _ _ _ _ _ _ (subst (λ n. c.args.i < n) c.args.self.now.pages.ok.0 c.requires) (c.bump-self.ensures ∙ ap bumped c.bump.ensures) }
