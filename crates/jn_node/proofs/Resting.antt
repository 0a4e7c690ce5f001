-- Steps until a message of its own waits, and then the oldest one.
use Rattle.std.proofs.Common.{◌≡◌, ◌≤◌, ◌<◌, Bool, true, false, Option, Some, None, true≢false, refl, sym, ◌∙◌, ap, subst}
use Rattle.std.specs.Prelude.{is_some, Result, Ok, Err, OnOk, IfOk}
use Rattle.jn_server.specs.Seen.{memory_of, room_of}
use Rattle.jn_storage.specs.Calls.{state}
use Rattle.jn_system.specs.WholeSystem.Servers.{server_step}
use Rattle.jn_store.specs.Store.{StoreView}
use Rattle.jn_node.specs.declared.node.Node.{Node}
use Rattle.jn_node.specs.Calls.{IsSameNode, GoesOn, FindsNone, IsAtRest, RestsBy, RestsUnlessOwn}
use Rattle.jn_node.specs.Nodes.{IsAtWork, counts_at, left_to_take, running_at, view_at}
use Rattle.jn_node.specs.Serving.{step_of}
use Rattle.jn_node.proofs.Following.{goes-then}
use Rattle.jn_node.proofs.Measures.{less-than}
use Rattle.jn_node.proofs.Moments.{sees-at}
use Rattle.jn_node.proofs.Rows.{same-step}

module _ {S E : Type 0} (look : S → StoreView) where
  pub goes-both : (n k m : Node S) (r : Result Bool E) → IsSameNode n k → GoesOn look n k → OnOk r (GoesOn look k m) → OnOk r (GoesOn look n m)
  goes-both n k m (Ok b) same a h = goes-then look n k m same a h
  goes-both n k m (Err e) same a h = tt

  pub less-both : (n k m : Node S) (r : Result Bool E) → left_to_take look k ≤ left_to_take look n → IfOk r (λ took. took ≡ true → left_to_take look m < left_to_take look k) → IfOk r (λ took. took ≡ true → left_to_take look m < left_to_take look n)
  less-both n k m (Ok b) most h = λ took. less-than (left_to_take look m) (left_to_take look k) (left_to_take look n) (h took) most
  less-both n k m (Err e) most h = tt

  pub rests-both : (k m : Node S) (r : Result Bool E) → RestsUnlessOwn look k → IfOk r (λ took. took ≡ false → FindsNone k m) → IfOk r (λ took. took ≡ false → IsAtRest look m)
  rests-both k m (Ok b) rests h = λ took. let found = h took in record { own = found.own; steps = subst (RestsBy look) (sym found.same) (rests found.none) }
  rests-both k m (Err e) rests h = tt

  pub tickets-both : (n k m : Node S) (r : Result Bool E) → k.running.tickets ≡ n.running.tickets → OnOk r (m.running.tickets ≡ k.running.tickets) → OnOk r (m.running.tickets ≡ n.running.tickets)
  tickets-both n k m (Ok b) a h = h ∙ a
  tickets-both n k m (Err e) a h = tt

-- ---- whether there is a step

none-there : {A : Type 0} (o : Option A) → is_some o ≡ false → o ≡ None
none-there None h = refl
none-there (Some a) h = absurd (true≢false h)

module _ {S : Type 0} (look : S → StoreView) (n : Node S) (work : IsAtWork look n) (b : Bool) (is : b ≡ is_some (server_step (memory_of (view_at look n)) (state (view_at look n).storage) (room_of (view_at look n).storage))) where
  told-step : b ≡ is_some (step_of (counts_at n) (running_at look n))
  told-step = is ∙ ap is_some (same-step n.server (counts_at n) (view_at look n) work.runs (sees-at look n.running (counts_at n) work.runs.counts))

  pub rests-here : b ≡ false → RestsBy look n
  rests-here no-work = none-there (step_of (counts_at n) (running_at look n)) (sym told-step ∙ no-work)

  pub works-here : b ≡ true → is_some (step_of (counts_at n) (running_at look n)) ≡ true
  works-here goes = sym told-step ∙ goes
