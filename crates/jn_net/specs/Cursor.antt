-- Where the messages that wait begin.
use Rattle.std.specs.Prelude.{◌≡◌, ℕ, Bool, not, ◌≤◌, ◌<◌, true, false, List, length, slice_get}
use Rattle.std.specs.Option.{option_map_or}
use Rattle.jn_net.specs.declared.Sent.{Sent}

-- whether a message was sent and never delivered
abbrev pub waits_at : List Sent → ℕ → Bool
waits_at sent k = option_map_or (λ (m : Sent). not m.delivered) (slice_get sent k) false

-- no message from the first number to the cursor waits
abbrev pub NoneWaits : ℕ → ℕ → List Sent → Type 0
NoneWaits first cursor sent = (k : ℕ) → first ≤ k → k < cursor → waits_at sent k ≡ false

pub record IsCursor (forgotten cursor : ℕ) (sent : List Sent) : Type 0 where
  pub after_forgotten : forgotten ≤ cursor
  pub within : cursor ≤ length sent
  pub none_before : NoneWaits forgotten cursor sent
  pub waits : cursor < length sent → waits_at sent cursor ≡ true
