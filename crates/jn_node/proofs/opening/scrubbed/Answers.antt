use Rattle.jn_store.specs.Store.{StoreView}
use Rattle.jn_server.specs.Seen.{view_with}
use Rattle.jn_node.proofs.Closed.{leaves-scrubbed}
use Rattle.jn_node.proofs.opening.scrubbed.Goals as goal

pub returns : goal.returns
returns g c =
    let look : g.row.S.Denot → StoreView = λ s. g.S.StableStore.view s in
    let e = c.in-Ok.ensures in
    leaves-scrubbed (view_with look c.args.server) (view_with look c.scrub.new.self) (look c.crash.result) e.scrubbed c.crash.ensures.left c.requires.calm
