use Rattle.std.proofs.Common.{refl, ap}
use Rattle.jn_recovery.specs.Counts.{counts_by}
use Rattle.jn_server.specs.Seen.{view_with}
use Rattle.jn_store.specs.Store.{StoreView}
use Rattle.jn_system.specs.WholeSystem.World.{Memory}
use Rattle.jn_node.proofs.Moments.{sees-at}
use Rattle.jn_node.proofs.Opened.{came-counts, came-open, came-runs}
use Rattle.jn_node.proofs.opening.open.Goals as goal

pub reads_pages-requires : goal.reads_pages-requires
reads_pages-requires g c = let e = c.in_ok-running.ensures in let r = e.up c.args.server c.requires.recoverable in record { serves = r.serves }

pub returns-clause-node : goal.returns-clause-node
returns-clause-node g c =
    let look : g.row.S.Denot → StoreView = λ s. g.S.StableStore.view s in
    let k = counts_by c.args.counts in
    let w = view_with look c.in_ok-running.running in
    let e = c.in_ok-running.ensures in
    let r = e.up c.args.server c.requires.recoverable in
    record {
      runs = came-runs c.args.server k (look c.args.store) c.in_ok-running._found w r c.requires.calm c.requires.told c.requires.there c.requires.names
          (sees-at look c.in_ok-running.running k (came-counts c.args.server k (look c.args.store) c.in_ok-running._found w r)) c.counts_pages.ensures c.reads_pages.ensures.room c.reads_pages.ensures.order;
      rests = c.new.ensures.items;
    }

pub returns-clause-open : goal.returns-clause-open
returns-clause-open g c =
    let look : g.row.S.Denot → StoreView = λ s. g.S.StableStore.view s in
    let k = counts_by c.args.counts in
    let w = view_with look c.in_ok-running.running in
    let e = c.in_ok-running.ensures in
    let r = e.up c.args.server c.requires.recoverable in
    came-open c.args.server k (look c.args.store) c.in_ok-running._found w r c.requires.calm c.requires.told c.requires.there c.requires.names
    (sees-at look c.in_ok-running.running k (came-counts c.args.server k (look c.args.store) c.in_ok-running._found w r)) c.counts_pages.ensures c.reads_pages.ensures.room c.reads_pages.ensures.order

pub returns-clause-fresh : goal.returns-clause-fresh
returns-clause-fresh g c =
    let e = c.in_ok-running.ensures in
    let r = e.up c.args.server c.requires.recoverable in
    (refl, refl, ap (λ (m : Memory). m.tickets.next) r.remembers, c.new-2.ensures.items)
