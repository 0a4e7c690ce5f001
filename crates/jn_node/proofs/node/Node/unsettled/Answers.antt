use Rattle.std.proofs.Common.{subst}
use Rattle.std.specs.Prelude.{◌↔◌, IsFalse}
use Rattle.jn_rows.specs.Stable.{StableState}
use Rattle.jn_server.specs.Settled.{IsSettledState}
use Rattle.jn_store.specs.Store.{StoreView}
use Rattle.jn_node.specs.Nodes.{counts_at, view_at}
use Rattle.jn_node.proofs.Moments.{same-state, sees-at}
use Rattle.jn_node.proofs.node.Node.unsettled.Goals as goal

pub unsettled-requires : goal.unsettled-requires
unsettled-requires g c = record { serves = c.requires.node.runs.serves }

pub returns : goal.returns
returns g c =
    let look : g.row.S.Denot → StoreView = λ s. g.S.StableStore.view s in
    let n = c.args.self.now in
    record { settled = subst (λ (x : StableState). IsFalse c.unsettled.result ↔ IsSettledState x) (same-state (counts_at n) (view_at look n) (sees-at look n.running (counts_at n) c.requires.node.runs.counts)) c.unsettled.ensures.settled }
