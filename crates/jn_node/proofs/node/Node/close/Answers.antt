use Rattle.std.proofs.Common.{subst, sym}
use Rattle.jn_server.specs.Seen.{view_with}
use Rattle.jn_store.specs.Store.{StoreView, IsCalm}
use Rattle.jn_node.specs.Nodes.{counts_at, view_at}
use Rattle.jn_node.proofs.Closed.{closed-to, left-recoverable}
use Rattle.jn_node.proofs.Moments.{sees-at}
use Rattle.jn_node.proofs.node.Node.close.Goals as goal

pub scrubbed-requires-clause-serves : goal.scrubbed-requires-clause-serves
scrubbed-requires-clause-serves g c =
    let look : g.row.S.Denot → StoreView = λ s. g.S.StableStore.view s in
    let n = c.args.self in
    let runs = c.requires.node.runs in
    let at = sees-at look n.running (counts_at n) runs.counts in
    let e = c.in_ok-server.ensures in
    let r = e.up n.server (left-recoverable n.server (counts_at n) (view_at look n) runs at c.requires.settled (look c.crash.result) c.crash.ensures.left) in
    r.serves

pub scrubbed-requires-clause-calm : goal.scrubbed-requires-clause-calm
scrubbed-requires-clause-calm g c =
    let look : g.row.S.Denot → StoreView = λ s. g.S.StableStore.view s in
    let n = c.args.self in
    let runs = c.requires.node.runs in
    let at = sees-at look n.running (counts_at n) runs.counts in
    let e = c.in_ok-server.ensures in
    let r = e.up n.server (left-recoverable n.server (counts_at n) (view_at look n) runs at c.requires.settled (look c.crash.result) c.crash.ensures.left) in
    r.loaded.recovering.later.calm (subst IsCalm (sym c.crash.ensures.left.same) runs.moment.calm)

pub returns-clause-closed : goal.returns-clause-closed
returns-clause-closed g c =
    let look : g.row.S.Denot → StoreView = λ s. g.S.StableStore.view s in
    let n = c.args.self in
    let runs = c.requires.node.runs in
    let at = sees-at look n.running (counts_at n) runs.counts in
    let e = c.in_ok-server.ensures in
    let r = e.up n.server (left-recoverable n.server (counts_at n) (view_at look n) runs at c.requires.settled (look c.crash.result) c.crash.ensures.left) in
    closed-to n.server (counts_at n) (view_at look n) runs at c.requires.settled (look c.crash.result) c.crash.ensures.left c.in_ok-server._found (view_with look c.in_ok-server.server) r (look c.scrubbed.result) c.scrubbed.ensures
