use Rattle.jn_store.specs.Store.{StoreView}
use Rattle.jn_node.proofs.Beginning.{at-work, begins-message, begins-nudge, begins-timeout, may-message}
use Rattle.jn_node.proofs.Posting.{on-ok}
use Rattle.jn_node.proofs.node.Node.begin.Goals as goal

pub handle-requires : goal.handle-requires
handle-requires g c =
    let look : g.row.S.Denot → StoreView = λ s. g.S.StableStore.view s in
    let may = may-message c.args.body.now c.in-Message.message c.in-Message.is c.requires.may in
    let next = c.requires.next in
    record { runs = at-work look c.args.self.now c.requires.node; taken = may.0; near = may.1; next = next }

pub nudge-requires : goal.nudge-requires
nudge-requires g c = let look : g.row.S.Denot → StoreView = λ s. g.S.StableStore.view s in record { runs = at-work look c.args.self.now c.requires.node }

pub time_out-requires : goal.time_out-requires
time_out-requires g c = let look : g.row.S.Denot → StoreView = λ s. g.S.StableStore.view s in record { runs = at-work look c.args.self.now c.requires.node }

pub returns-in-Message-clause-begins : goal.returns-in-Message-clause-begins
returns-in-Message-clause-begins g c =
    let look : g.row.S.Denot → StoreView = λ s. g.S.StableStore.view s in
    on-ok c.handle.result (λ h. begins-message look c.args.self.now c.requires.node c.handle.new.self c.args.body.now c.in-Message.message c.in-Message.is h) c.handle.ensures.handles

pub returns-in-Nudge-clause-begins : goal.returns-in-Nudge-clause-begins
returns-in-Nudge-clause-begins g c =
    let look : g.row.S.Denot → StoreView = λ s. g.S.StableStore.view s in
    on-ok c.nudge.result (λ h. begins-nudge look c.args.self.now c.requires.node c.nudge.new.self c.args.body.now c.in-Nudge.is c.nudge.ensures.others h) c.nudge.ensures.posts

pub returns-in-Timeout-clause-begins : goal.returns-in-Timeout-clause-begins
returns-in-Timeout-clause-begins g c =
    let look : g.row.S.Denot → StoreView = λ s. g.S.StableStore.view s in
    begins-timeout look c.args.self.now c.requires.node c.time_out.new.self c.args.body.now c.in-Timeout.tid c.in-Timeout.is c.time_out.ensures.others c.time_out.ensures.memory
