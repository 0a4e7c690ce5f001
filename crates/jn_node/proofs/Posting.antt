-- A call of a node in two parts: the server below does a row, and what that sends is posted.
use Rattle.std.proofs.Common.{◌≡◌, ◌≤◌, ◌<◌, ℕ, true, false, List, [], sym, ◌∙◌, ap, subst, arith}
use Rattle.std.specs.Prelude.{◌+◌, Result, Ok, Err, OnOk}
use Rattle.jn_base.specs.declared.names.Tickets.{Tickets}
use Rattle.jn_msgs.specs.Ranges.{names_near}
use Rattle.jn_msgs.specs.Weights.{weight}
use Rattle.jn_msgs.specs.declared.message.Message.{Message}
use Rattle.jn_row_ranges.specs.Drawing.{draws}
use Rattle.jn_row_ranges.specs.Naming.{are_within}
use Rattle.jn_row_ranges.specs.Taking.{are_from_server, is_from_server}
use Rattle.jn_row_ranges.specs.Weighing.{goings, weigh_all}
use Rattle.jn_rows.specs.Outcomes.{Sent}
use Rattle.jn_server.specs.Remaining.{steps_left}
use Rattle.jn_store.specs.Store.{StoreView}
use Rattle.jn_node.specs.declared.node.Node.{Node}
use Rattle.jn_node.specs.Calls.{IsSameNode, PostsAll, HandlesMessage, WorksBy, GoesOn}
use Rattle.jn_node.specs.Nodes.{IsAtWork, IsRunning, are_own, counts_at, left_to_take, running_at, view_at, weigh_own}
use Rattle.jn_node.specs.Running.{Running, state_of}
use Rattle.jn_node.specs.Serving.{IsTaken, row_for, to_itself}
use Rattle.jn_node.proofs.Following.{goes-step}
use Rattle.jn_node.proofs.Measures.{falls}
use Rattle.jn_node.proofs.Moments.{Sees, sees-at}
use Rattle.jn_node.proofs.Own.{own-both, own-itself, own-small}
use Rattle.jn_node.proofs.Rows.{lighter, next-most, no-heavier, sent-near, sent-own, step-near, step-own, step-undrawn, undrawn}

-- a result is handed on
pub on-ok : {A E P Q : Type 0} (r : Result A E) → (P → Q) → OnOk r P → OnOk r Q
on-ok (Ok a) f h = f h
on-ok (Err e) f h = tt

pub any-ok : {A E P : Type 0} (r : Result A E) → P → OnOk r P
any-ok (Ok a) p = p
any-ok (Err e) p = tt

-- what a row sends comes from a server
pub message-own : {S : Type 0} (look : S → StoreView) (n : Node S) → IsAtWork look n → (message : Message) (messages : List Sent) → messages ≡ (row_for (counts_at n) (running_at look n) message).messages → are_from_server messages ≡ true
message-own look n work message messages sends = subst (λ (l : List Sent). are_from_server l ≡ true) (sym sends)
    (sent-own n.server (counts_at n) (view_at look n) work.runs (sees-at look n.running (counts_at n) work.runs.counts) message)

pub step-from : {S : Type 0} (look : S → StoreView) (n : Node S) → IsAtWork look n → (messages : List Sent) (y : Running) → WorksBy n.server (counts_at n) (running_at look n) messages y → are_from_server messages ≡ true
step-from look n work messages y works = step-own n.server (counts_at n) (view_at look n) work.runs (sees-at look n.running (counts_at n) work.runs.counts) messages y works

module _ {S : Type 0} (look : S → StoreView) (n k m : Node S) (first : k ≡ record n { running = k.running }) (then' : m ≡ record k { own = m.own; answers = m.answers }) where
  pub same-node : IsSameNode n m
  same-node = (ap (λ (x : Node S). x.server) then' ∙ ap (λ (x : Node S). x.server) first, ap (λ (x : Node S). x.counts) then' ∙ ap (λ (x : Node S). x.counts) first)

  pub runs-here : IsRunning n.server (counts_at n) (view_at look k) → IsRunning m.server (counts_at m) (view_at look m)
  runs-here h = subst (λ (x : Node S). IsRunning x.server (counts_at x) (view_at look x)) (sym then') (subst (λ (x : Node S). IsRunning x.server (counts_at x) (view_at look k)) (sym first) h)

  pub running-here : running_at look m ≡ running_at look k
  running-here = ap (running_at look) then'

  pub steps-here : (most : ℕ) → steps_left (view_at look k) < most → steps_left (view_at look m) < most
  steps-here most h = subst (λ (x : Node S). steps_left (view_at look x) < most) (sym then') h

  pub tickets-here : m.running.tickets ≡ k.running.tickets
  tickets-here = ap (λ (x : Node S). x.running.tickets) then'

  module _ (messages : List Sent) (posts : PostsAll k messages m) where
    pub posts-here : PostsAll n messages m
    posts-here = let there = subst (λ (x : Node S). PostsAll x messages m) first posts in record { own = there.own; answers = there.answers }

    pub own-here : are_own n.own.items ≡ true → are_from_server messages ≡ true → are_within 8 messages ≡ true → are_own m.own.items ≡ true
    own-here old own near = subst (λ (l : List Message). are_own l ≡ true) (sym posts-here.own) (own-both n.own.items (to_itself n.server messages) old (own-itself n.server messages own near))

    pub left-here : (less more : ℕ) → weigh_all messages + goings (state_of (counts_at n) (running_at look k)).works (running_at look k).memory.worker + less ≤ goings (state_of (counts_at n) (running_at look n)).works (running_at look n).memory.worker + more
        → left_to_take look m + less ≤ left_to_take look n + more
    left-here less more light = subst (λ (i : ℕ). i + less ≤ left_to_take look n + more) (sym (at-second ∙ at-first))
        (falls n.own.items m.own.items n.server messages (goings (state_of (counts_at n) (running_at look n)).works (running_at look n).memory.worker) (goings (state_of (counts_at n) (running_at look k)).works (running_at look k).memory.worker) less more posts-here.own light)
      where
        at-second : left_to_take look m ≡ weigh_own m.own.items + goings (state_of (counts_at k) (running_at look k)).works (running_at look k).memory.worker
        at-second = ap (λ (x : Node S). weigh_own m.own.items + goings (state_of (counts_at x) (running_at look x)).works (running_at look x).memory.worker) then'

        at-first : weigh_own m.own.items + goings (state_of (counts_at k) (running_at look k)).works (running_at look k).memory.worker ≡ weigh_own m.own.items + goings (state_of (counts_at n) (running_at look k)).works (running_at look k).memory.worker
        at-first = ap (λ (x : Node S). weigh_own m.own.items + goings (state_of (counts_at x) (running_at look k)).works (running_at look k).memory.worker) first

  -- ---- a message

  module _ (work : IsAtWork look n) (message : Message) (near : names_near 8 message ≡ true) (messages : List Sent) (sends : messages ≡ (row_for (counts_at n) (running_at look n) message).messages)
      (on : IsRunning n.server (counts_at n) (view_at look k)) (taken : IsTaken n.server (counts_at n) message (running_at look n) (running_at look k)) where
    at : Sees (counts_at n) (view_at look n)
    at = sees-at look n.running (counts_at n) work.runs.counts

    own-message : are_from_server messages ≡ true
    own-message = message-own look n work message messages sends

    pub handled-work : PostsAll k messages m → IsAtWork look m
    handled-work posts = record {
      runs = runs-here on;
      own = own-here messages posts work.own own-message (subst (λ (l : List Sent). are_within 8 l ≡ true) (sym sends) (sent-near n.server (counts_at n) (view_at look n) work.runs at message near));
    }

    pub handled-so : PostsAll k messages m → HandlesMessage look n message m
    handled-so posts = record {
      made = subst (λ (y : Running). IsTaken n.server (counts_at n) message (running_at look n) y) (sym running-here) taken;
      posts = subst (λ (l : List Sent). PostsAll n l m) sends (posts-here messages posts);
    }

    pub handled-less : is_from_server message ≡ true → PostsAll k messages m → left_to_take look m < left_to_take look n + weight message
    handled-less own posts = by _ _ (left-here messages posts 1 (weight message)
        (subst (λ (l : List Sent). weigh_all l + goings (state_of (counts_at n) (running_at look k)).works (running_at look k).memory.worker + 1 ≤ goings (state_of (counts_at n) (running_at look n)).works (running_at look n).memory.worker + weight message) (sym sends)
        (lighter n.server (counts_at n) (view_at look n) work.runs at message (running_at look k) taken (own-small message own))))
      where
        by : (a b : ℕ) → a + 1 ≤ b → a < b
        by a b h = omega (arith, h)

    pub handled-undrawn : draws message ≡ false → m.running.tickets ≡ n.running.tickets
    handled-undrawn none = tickets-here ∙ undrawn n.server (counts_at n) (view_at look n) work.runs at message (running_at look k) taken none

    pub handled-next : m.running.tickets.next ≤ n.running.tickets.next + 1
    handled-next = subst (λ (t : Tickets). t.next ≤ n.running.tickets.next + 1) (sym tickets-here) (next-most n.server (counts_at n) (view_at look n) work.runs at message (running_at look k) taken)

  -- ---- a step

  module _ (work : IsAtWork look n) (none : n.own.items ≡ []) (messages : List Sent) (on : IsRunning n.server (counts_at n) (view_at look k)) (works : WorksBy n.server (counts_at n) (running_at look n) messages (running_at look k)) where
    at-step : Sees (counts_at n) (view_at look n)
    at-step = sees-at look n.running (counts_at n) work.runs.counts

    own-step : are_from_server messages ≡ true
    own-step = step-from look n work messages (running_at look k) works

    pub made-work : PostsAll k messages m → IsAtWork look m
    made-work posts = record {
      runs = runs-here on;
      own = own-here messages posts work.own own-step (step-near n.server (counts_at n) (view_at look n) work.runs at-step messages (running_at look k) works);
    }

    pub made-so : PostsAll k messages m → GoesOn look n m
    made-so posts = goes-step look n k m messages first none works posts running-here

    pub made-left : PostsAll k messages m → left_to_take look m ≤ left_to_take look n
    made-left posts = by _ _ (left-here messages posts 0 0 (no-heavier n.server (counts_at n) (view_at look n) work.runs at-step messages (running_at look k) works))
      where
        by : (a b : ℕ) → a + 0 ≤ b + 0 → a ≤ b
        by a b h = omega (arith, h)

    pub made-tickets : m.running.tickets ≡ n.running.tickets
    made-tickets = tickets-here ∙ step-undrawn n.server (counts_at n) (view_at look n) work.runs at-step messages (running_at look k) works
