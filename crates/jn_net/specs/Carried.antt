-- What a network has carried.
use Rattle.std.specs.Prelude.{ℕ, zero, suc, true, not, List, [], ◌∷◌, drop, Option}
use Rattle.std.specs.List.{position_from}
use Rattle.jn_net.specs.declared.Sent.{Sent}

-- every message that was ever sent, and how many of the first of them were forgotten
pub record Carried : Type 0 where
  pub sent : List Sent
  pub forgotten : ℕ

-- the least message that was neither delivered nor forgotten
abbrev pub waiting : Carried → Option ℕ
waiting n = position_from (λ (m : Sent). not m.delivered) n.forgotten (drop n.forgotten n.sent)

-- the messages once this one is delivered
abbrev pub with_delivered : ℕ → List Sent → List Sent
with_delivered k [] = []
with_delivered zero (m ∷ ms) = record m { delivered = true } ∷ ms
with_delivered (suc k) (m ∷ ms) = m ∷ with_delivered k ms
