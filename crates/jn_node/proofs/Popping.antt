-- The oldest own message is taken from those that wait.
use Rattle.std.proofs.Common.{◌≡◌, ◌<◌, ℕ, true, List, ◌∷◌, sym, ap, subst, arith}
use Rattle.std.specs.Prelude.{◌+◌}
use Rattle.jn_msgs.specs.Ranges.{names_near}
use Rattle.jn_msgs.specs.Weights.{weight}
use Rattle.jn_msgs.specs.declared.message.Message.{Message}
use Rattle.jn_row_ranges.specs.Taking.{is_from_server}
use Rattle.jn_store.specs.Store.{StoreView}
use Rattle.jn_node.specs.declared.node.Node.{Node}
use Rattle.jn_node.specs.Nodes.{IsAtWork, IsRunning, are_own, counts_at, goings_at, left_to_take, view_at, weigh_own}
use Rattle.jn_node.proofs.Own.{own-head}

-- what is left is what waited without the first
module _ {S : Type 0} (look : S → StoreView) (n n' : Node S) (message : Message) (same : n' ≡ record n { own = n'.own }) (front : n.own.items ≡ message ∷ n'.own.items) where
  pub popped-head : IsAtWork look n → (is_from_server message ≡ true) × (names_near 8 message ≡ true) × (are_own n'.own.items ≡ true)
  popped-head work = own-head message n'.own.items (subst (λ (l : List Message). are_own l ≡ true) front work.own)

  pub popped-work : IsAtWork look n → IsAtWork look n'
  popped-work work = record {
    runs = subst (λ (x : Node S). IsRunning x.server (counts_at x) (view_at look x)) (sym same) work.runs;
    own = (popped-head work).2;
  }

  pub popped-left : left_to_take look n' + weight message ≡ left_to_take look n
  popped-left = by _ _ _ _ _ (ap weigh_own front) (ap (goings_at look) same)
    where
      by : (a b c x y : ℕ) → a ≡ b + c → y ≡ x → c + y + b ≡ a + x
      by a b c x y e f = omega (arith, e, f)

  pub popped-falls : (i : ℕ) → i < left_to_take look n' + weight message → i < left_to_take look n
  popped-falls i h = subst (λ (k : ℕ). i < k) popped-left h
