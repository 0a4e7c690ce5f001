use Rattle.std.proofs.Common.{ap}
use Rattle.jn_msgs.specs.Collected.{Collected}
use Rattle.jn_store.specs.Store.{StoreView}
use Rattle.jn_node.specs.Nodes.{counts_at}
use Rattle.jn_node.proofs.Doing.{does, stepped-runs, stepped-by}
use Rattle.jn_node.proofs.node.Node.do_step.Goals as goal

pub reads_pages-requires : goal.reads_pages-requires
reads_pages-requires g c =
    let look : g.row.S.Denot → StoreView = λ s. g.S.StableStore.view s in
    let n = c.args.self.now in
    let h = c.in-Ok.ensures in
    let one = does look n.server (counts_at n) n.running c.step.new.self c.requires.runs c.new-out.result c.step.new.out c.in-Ok._done h.steps c.requires.work in
    record { serves = one.done.serves }

pub returns-in-Ok-clause-runs : goal.returns-in-Ok-clause-runs
returns-in-Ok-clause-runs g c =
    let look : g.row.S.Denot → StoreView = λ s. g.S.StableStore.view s in
    let n = c.args.self.now in
    let h = c.in-Ok.ensures in
    let one = does look n.server (counts_at n) n.running c.step.new.self c.requires.runs c.new-out.result c.step.new.out c.in-Ok._done h.steps c.requires.work in
    stepped-runs look n.server (counts_at n) n.running c.step.new.self c.requires.runs c.new-out.result c.step.new.out c.in-Ok._done one c.counts_pages.ensures c.reads_pages.ensures.room c.reads_pages.ensures.order h.holds

pub returns-in-Ok-clause-works : goal.returns-in-Ok-clause-works
returns-in-Ok-clause-works g c =
    let look : g.row.S.Denot → StoreView = λ s. g.S.StableStore.view s in
    let n = c.args.self.now in
    let h = c.in-Ok.ensures in
    let one = does look n.server (counts_at n) n.running c.step.new.self c.requires.runs c.new-out.result c.step.new.out c.in-Ok._done h.steps c.requires.work in
    stepped-by look n.server (counts_at n) n.running c.step.new.self c.requires.runs c.new-out.result c.step.new.out c.in-Ok._done one c.counts_pages.ensures c.reads_pages.ensures.room c.reads_pages.ensures.order h.holds (h.left one.did_is)
    (ap (λ (x : Collected). x.messages) c.new-out.ensures)

pub returns-in-Ok-clause-less : goal.returns-in-Ok-clause-less
returns-in-Ok-clause-less g c =
    let look : g.row.S.Denot → StoreView = λ s. g.S.StableStore.view s in
    let n = c.args.self.now in
    let h = c.in-Ok.ensures in
    let one = does look n.server (counts_at n) n.running c.step.new.self c.requires.runs c.new-out.result c.step.new.out c.in-Ok._done h.steps c.requires.work in
    h.less one.did_is
