-- The frame itself.
use Rattle.std.proofs.Common.{◌≡◌, true, List, [], ◌++◌, refl, sym, ◌∙◌, ap, subst}
use Rattle.std.proofs.lemmas.List.{append-nil}
use Rattle.jn_base.specs.declared.names.Tid.{Tid}
use Rattle.jn_msgs.specs.Ranges.{CanBeTaken, names_near}
use Rattle.jn_msgs.specs.declared.message.Message.{Message}
use Rattle.jn_row_ranges.specs.Taking.{are_from_server}
use Rattle.jn_row_ranges.proofs.ServerRows.{again-requests, again-within}
use Rattle.jn_rows.specs.Outcomes.{Sent}
use Rattle.jn_msgs.specs.Collected.{Collected}
use Rattle.jn_rows.specs.Stable.{StableState}
use Rattle.jn_server.specs.Seen.{memory_of}
use Rattle.jn_storage.specs.Calls.{state}
use Rattle.jn_transactions.specs.Telling.{added}
use Rattle.jn_store.specs.Store.{StoreView}
use Rattle.jn_system.specs.WholeSystem.Servers.{server_again, server_timeout}
use Rattle.jn_wire.specs.Taking.{MayCome}
use Rattle.jn_wire.specs.declared.frame.Body.{Body}
use Rattle.jn_wire.specs.declared.frame.Body.TheVariants as bodies
use Rattle.jn_node.specs.declared.node.Node.{Node}
use Rattle.jn_node.specs.Calls.{BeginsBy, HandlesMessage, PostsAll}
use Rattle.jn_node.specs.Nodes.{IsAtWork, IsNode, IsRunning, are_own, counts_at, desk_at, running_at, view_at}
use Rattle.jn_node.specs.Running.{Running, state_of}
use Rattle.jn_node.specs.Serving.{Begins, Nudges, Takes, TimesOut, row_for, to_itself, to_others}
use Rattle.jn_node.proofs.Moments.{same-state, sees-at}
use Rattle.jn_node.proofs.Own.{own-both, own-itself}

module _ {S : Type 0} (look : S → StoreView) (n : Node S) (node : IsNode look n) where
  pub at-work : IsAtWork look n
  at-work = record { runs = node.runs; own = subst (λ (l : List Message). are_own l ≡ true) (sym node.rests) refl }

  -- what waits then, where these messages are sent
  own-is : (m : Node S) (sent : List Sent) → PostsAll n sent m → m.own.items ≡ to_itself n.server sent
  own-is m sent posts = posts.own ∙ ap (λ (l : List Message). l ++ to_itself n.server sent) node.rests

  module _ (m : Node S) (body : Body) where
    pub begins-message : (message : Message) → body ≡ bodies.Message message → HandlesMessage look n message m → BeginsBy look n body m
    begins-message message is h = record {
      more = to_others n.server sent;
      answers = h.posts.answers;
      begins = subst (λ (b : Body). Begins n.server (counts_at n) (running_at look n) b (desk_at look m (to_others n.server sent))) (sym is)
          (subst (λ (own : List Message). Begins n.server (counts_at n) (running_at look n) (bodies.Message message) (record { running = running_at look m; own = own; sent = to_others n.server sent })) (sym (own-is m sent h.posts))
          (Takes message (running_at look m) h.made));
    }
      where
        sent : List Sent
        sent = (row_for (counts_at n) (running_at look n) message).messages

    pub begins-nudge : body ≡ bodies.Nudge → m ≡ record n { own = m.own; answers = m.answers } → PostsAll n (server_again (running_at look n).memory (state_of (counts_at n) (running_at look n))) m → BeginsBy look n body m
    begins-nudge is same posts = record {
      more = to_others n.server sent;
      answers = posts.answers;
      begins = subst (λ (b : Body). Begins n.server (counts_at n) (running_at look n) b (desk_at look m (to_others n.server sent))) (sym is)
          (subst (λ (x : Running). Begins n.server (counts_at n) (running_at look n) bodies.Nudge (record { running = x; own = m.own.items; sent = to_others n.server sent })) (sym (ap (running_at look) same))
          (subst (λ (own : List Message). Begins n.server (counts_at n) (running_at look n) bodies.Nudge (record { running = running_at look n; own = own; sent = to_others n.server sent })) (sym (own-is m sent posts)) Nudges));
    }
      where
        sent : List Sent
        sent = server_again (running_at look n).memory (state_of (counts_at n) (running_at look n))

    pub begins-timeout : (T : Tid) → body ≡ bodies.Timeout T → m ≡ record n { running = m.running } → running_at look m ≡ record (running_at look n) { memory = server_timeout (running_at look n).memory T } → BeginsBy look n body m
    begins-timeout T is same memory = record {
      more = [];
      answers = ap (λ (x : Node S). x.answers.items) same ∙ sym (append-nil n.answers.items);
      begins = subst (λ (b : Body). Begins n.server (counts_at n) (running_at look n) b (desk_at look m [])) (sym is)
          (subst (λ (x : Running). Begins n.server (counts_at n) (running_at look n) (bodies.Timeout T) (record { running = x; own = m.own.items; sent = [] })) (sym memory)
          (subst (λ (own : List Message). Begins n.server (counts_at n) (running_at look n) (bodies.Timeout T) (record { running = record (running_at look n) { memory = server_timeout (running_at look n).memory T }; own = own; sent = [] }))
          (sym (ap (λ (x : Node S). x.own.items) same ∙ node.rests)) (TimesOut T)));
    }

-- ---- what is sent once more

module _ {S : Type 0} (look : S → StoreView) (n : Node S) (work : IsAtWork look n) where
  abbrev asks : List Sent
  asks = server_again (running_at look n).memory (state_of (counts_at n) (running_at look n))

  pub asks-are : (before after : Collected) → before.messages ≡ [] → after ≡ added before (server_again (memory_of (view_at look n)) (state (view_at look n).storage)) [] → after.messages ≡ asks
  asks-are before after empty is = ap (λ (c : Collected). c.messages) is ∙ ap (λ (l : List Sent). l ++ server_again (memory_of (view_at look n)) (state (view_at look n).storage)) empty
      ∙ ap (λ (x : StableState). server_again (memory_of (view_at look n)) x) (same-state (counts_at n) (view_at look n) (sees-at look n.running (counts_at n) work.runs.counts))

  pub again-own : are_from_server asks ≡ true
  again-own = again-requests (running_at look n).memory (state_of (counts_at n) (running_at look n))

  pub again-work : (m : Node S) → m ≡ record n { own = m.own; answers = m.answers } → PostsAll n asks m → IsAtWork look m
  again-work m same posts = record {
    runs = subst (λ (x : Node S). IsRunning x.server (counts_at x) (view_at look x)) (sym same) work.runs;
    own = subst (λ (l : List Message). are_own l ≡ true) (sym posts.own)
        (own-both n.own.items (to_itself n.server asks) work.own (own-itself n.server asks again-own
        (again-within 8 n.server (running_at look n).memory work.runs.within (state_of (counts_at n) (running_at look n)))));
  }

-- ---- a message that may come

pub may-message : (body : Body) (message : Message) → body ≡ bodies.Message message → MayCome body → CanBeTaken message × (names_near 8 message ≡ true)
may-message body message is h = subst MayCome is h
