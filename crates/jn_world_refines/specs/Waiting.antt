-- The messages that wait in a network, as the whole system has them.
use Rattle.std.specs.Prelude.{◌≡◌, ◌≤◌, ℕ, ◌+◌, Bool, true, not, ◌&&◌, if◌then◌else◌, List, [], ◌∷◌, map, length, drop}
use Rattle.jn_net.specs.declared.Sent.{Sent as Posted}
use Rattle.jn_net.specs.Carried.{Carried, with_delivered}
use Rattle.jn_rows.specs.Outcomes.{Sent}
use Rattle.jn_system.specs.WholeSystem.Steps.{Step, Deliver, StopDelivery}
use Rattle.jn_system.specs.WholeSystem.Course.{Course}

-- of messages of which the first has this number, the numbers of those that were never delivered
abbrev pub undelivered : ℕ → List Posted → List ℕ
undelivered k [] = []
undelivered k (m ∷ ms) = if m.delivered then undelivered (k + 1) ms else k ∷ undelivered (k + 1) ms

-- the messages that were neither delivered nor forgotten
abbrev pub waiting_numbers : Carried → List ℕ
waiting_numbers n = undelivered n.forgotten (drop n.forgotten n.sent)

-- who sent a message is for no one but the lines
abbrev pub sent_of : List Posted → List Sent
sent_of ms = map (λ (m : Posted). (m.to, m.message)) ms

abbrev pub are_new : List Posted → Bool
are_new [] = true
are_new (m ∷ ms) = not m.delivered && are_new ms

-- the network has what the course has
pub record Carries (n : Carried) (c : Course) : Type 0 where
  pub forgotten : n.forgotten ≤ length n.sent
  pub sent : c.world.sent ≡ sent_of n.sent
  pub waiting : c.waiting ≡ waiting_numbers n

-- the messages once a step has handed one over
abbrev pub delivered_by : Step → List Posted → List Posted
delivered_by (Deliver k room) sent = with_delivered k sent
delivered_by (StopDelivery k room made) sent = with_delivered k sent
delivered_by step sent = sent
