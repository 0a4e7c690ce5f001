use Rattle.std.proofs.Common.{refl}
use Rattle.jn_store.specs.Store.{StoreView}
use Rattle.jn_node.specs.Nodes.{counts_at}
use Rattle.jn_node.proofs.Doing.{timed-memory, timed-runs, timed-tickets}
use Rattle.jn_node.proofs.node.Node.time_out.Goals as goal

pub returns : goal.returns
returns g c =
    let look : g.row.S.Denot → StoreView = λ s. g.S.StableStore.view s in
    let n = c.args.self.now in
    let q = c.timeout-live.new.self in
    let e = c.timeout-live.ensures in
    record {
      runs = record { runs = timed-runs look n.server (counts_at n) n.running q c.requires.runs.runs c.args.tid c.timeout-live.result e.times_out e.storage c.counts_pages.ensures c.reads_pages.ensures.room c.reads_pages.ensures.order; own = c.requires.runs.own };
      others = refl;
      memory = timed-memory look n.server (counts_at n) n.running q c.requires.runs.runs c.args.tid c.timeout-live.result e.times_out e.storage c.counts_pages.ensures c.reads_pages.ensures.room c.reads_pages.ensures.order;
      tickets = timed-tickets look n.server (counts_at n) n.running q c.requires.runs.runs c.args.tid c.timeout-live.result e.times_out e.storage c.counts_pages.ensures c.reads_pages.ensures.room c.reads_pages.ensures.order;
    }
