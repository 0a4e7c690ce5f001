use Rattle.std.proofs.Common.{◌≡◌, true, List, ap, subst, sym}
use Rattle.jn_msgs.specs.Collected.{Collected}
use Rattle.jn_row_ranges.specs.Taking.{are_from_server}
use Rattle.jn_rows.specs.Outcomes.{Sent}
use Rattle.jn_store.specs.Store.{StoreView}
use Rattle.jn_node.specs.Calls.{PostsAll}
use Rattle.jn_node.proofs.Beginning.{again-own, again-work, asks-are}
use Rattle.jn_node.proofs.Posting.{on-ok}
use Rattle.jn_node.proofs.node.Node.nudge.Goals as goal

pub post-requires : goal.post-requires
post-requires g c =
    let look : g.row.S.Denot → StoreView = λ s. g.S.StableStore.view s in
    let n = c.args.self.now in
    let again = c.in_ok-again.ensures in
    let are = asks-are look n c.requires.runs c.new-out.result c.again.new.out (ap (λ (x : Collected). x.messages) c.new-out.ensures) again.sent in
    record { from_server = subst (λ (l : List Sent). are_from_server l ≡ true) (sym are) (again-own look n c.requires.runs) }

pub returns : goal.returns
returns g c =
    let look : g.row.S.Denot → StoreView = λ s. g.S.StableStore.view s in
    let n = c.args.self.now in
    let m = c.post.new.self in
    let again = c.in_ok-again.ensures in
    let are = asks-are look n c.requires.runs c.new-out.result c.again.new.out (ap (λ (x : Collected). x.messages) c.new-out.ensures) again.sent in
    record {
      runs = on-ok c.post.result (λ posts. again-work look n c.requires.runs m c.post.ensures.others (subst (λ (l : List Sent). PostsAll n l m) are posts)) c.post.ensures.posts;
      posts = on-ok c.post.result (λ posts. subst (λ (l : List Sent). PostsAll n l m) are posts) c.post.ensures.posts;
      others = c.post.ensures.others;
    }
