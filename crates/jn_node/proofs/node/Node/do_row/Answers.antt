use Rattle.std.proofs.Common.{ap}
use Rattle.jn_msgs.specs.Collected.{Collected}
use Rattle.jn_store.specs.Store.{StoreView}
use Rattle.jn_node.specs.Nodes.{counts_at}
use Rattle.jn_node.proofs.Doing.{taken-runs, taken-row, taken-sends}
use Rattle.jn_node.proofs.node.Node.do_row.Goals as goal

pub returns-in-Ok-clause-runs : goal.returns-in-Ok-clause-runs
returns-in-Ok-clause-runs g c =
    let look : g.row.S.Denot → StoreView = λ s. g.S.StableStore.view s in
    let n = c.args.self.now in
    let h = c.in-Ok.ensures in
    taken-runs look n.server (counts_at n) n.running c.handle.new.self c.requires.runs c.args.message.now c.requires.near c.new-out.result c.handle.new.out h.does c.counts_pages.ensures c.reads_pages.ensures.room c.reads_pages.ensures.order h.holds

pub returns-in-Ok-clause-taken : goal.returns-in-Ok-clause-taken
returns-in-Ok-clause-taken g c =
    let look : g.row.S.Denot → StoreView = λ s. g.S.StableStore.view s in
    let n = c.args.self.now in
    let h = c.in-Ok.ensures in
    taken-row look n.server (counts_at n) n.running c.handle.new.self c.requires.runs c.args.message.now c.requires.near c.new-out.result c.handle.new.out h.does c.counts_pages.ensures c.reads_pages.ensures.room c.reads_pages.ensures.order h.holds h.beside

pub returns-in-Ok-clause-sends : goal.returns-in-Ok-clause-sends
returns-in-Ok-clause-sends g c =
    let look : g.row.S.Denot → StoreView = λ s. g.S.StableStore.view s in
    let n = c.args.self.now in
    let h = c.in-Ok.ensures in
    taken-sends look n.server (counts_at n) n.running c.handle.new.self c.requires.runs c.args.message.now c.new-out.result c.handle.new.out h.does (ap (λ (x : Collected). x.messages) c.new-out.ensures)
