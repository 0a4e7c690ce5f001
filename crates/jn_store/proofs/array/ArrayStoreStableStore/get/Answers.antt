use Rattle.std.proofs.lemmas.List.{get_or_read_under}
use Rattle.jn_store.proofs.TwoPuts.{array_got}
use Rattle.jn_store.proofs.array.ArrayStoreStableStore.get.Goals as goal

pub returns : goal.returns
returns c = record { got = array_got _ _ _ _ _ (get_or_read_under _ _ _ _ _ c.index.ensures c.requires c.args.self.now.pages.ok.0) }
