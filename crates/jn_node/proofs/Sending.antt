-- Messages are sent one after another.
use Rattle.std.proofs.Common.{◌≡◌, ◌<◌, ℕ, zero, suc, Bool, true, false, List, [], ◌∷◌, ◌++◌, length, get_or, refl, sym, ◌∙◌, ap, subst, arith, append_assoc}
use Rattle.std.specs.Prelude.{◌&&◌, if◌then◌else◌}
use Rattle.jn_base.specs.declared.names.ServerNo.{ServerNo}
use Rattle.jn_msgs.specs.declared.message.Message.{Message}
use Rattle.jn_row_ranges.specs.Taking.{are_from_server, is_from_server}
use Rattle.jn_rows.specs.Outcomes.{Sent}
use Rattle.jn_node.specs.declared.node.Node.{Node}
use Rattle.jn_node.specs.Calls.{PostsAll}
use Rattle.jn_node.specs.Serving.{is_own, sent_bytes, to_itself, to_others}
use Rattle.jn_node.proofs.Following.{bytes-both}

first-of : (a b : Bool) → (a && b) ≡ true → a ≡ true
first-of a b h = grind arith

second-of : (a b : Bool) → (a && b) ≡ true → b ≡ true
second-of a b h = grind arith

no-less : (n : ℕ) → n < 0 → ⊥
no-less n h = omega (arith, h)

less-by-one : (n m : ℕ) → suc n < suc m → n < m
less-by-one n m h = omega (arith, h)

pub from-server-at : (all : List Sent) (k : ℕ) (x : Sent) → are_from_server all ≡ true → k < length all → x ≡ get_or all k x → is_from_server x.1 ≡ true
from-server-at [] k x h less e = absurd (no-less k less)
from-server-at (y ∷ ys) zero x h less e = subst (λ (z : Sent). is_from_server z.1 ≡ true) (sym e) (first-of (is_from_server y.1) (are_from_server ys) h)
from-server-at (y ∷ ys) (suc k) x h less e = from-server-at ys k x (second-of (is_from_server y.1) (are_from_server ys) h) (less-by-one k (length ys) less) e

pub itself-both : (s : ServerNo) (xs ys : List Sent) → to_itself s (xs ++ ys) ≡ to_itself s xs ++ to_itself s ys
itself-both s [] ys = refl
itself-both s (x ∷ xs) ys = by (is_own s x.0) (itself-both s xs ys)
  where
    by : (b : Bool) → to_itself s (xs ++ ys) ≡ to_itself s xs ++ to_itself s ys → (if b then x.1 ∷ to_itself s (xs ++ ys) else to_itself s (xs ++ ys)) ≡ (if b then x.1 ∷ to_itself s xs else to_itself s xs) ++ to_itself s ys
    by true e = ap (λ (l : List Message). x.1 ∷ l) e
    by false e = e

pub others-both : (s : ServerNo) (xs ys : List Sent) → to_others s (xs ++ ys) ≡ to_others s xs ++ to_others s ys
others-both s [] ys = refl
others-both s (x ∷ xs) ys = by (is_own s x.0) (others-both s xs ys)
  where
    by : (b : Bool) → to_others s (xs ++ ys) ≡ to_others s xs ++ to_others s ys → (if b then to_others s (xs ++ ys) else x ∷ to_others s (xs ++ ys)) ≡ (if b then to_others s xs else x ∷ to_others s xs) ++ to_others s ys
    by true e = e
    by false e = ap (λ (l : List Sent). x ∷ l) e

pub posts-then : {S : Type 0} (n k m : Node S) (xs ys : List Sent) → k.server ≡ n.server → PostsAll n xs k → PostsAll k ys m → PostsAll n (xs ++ ys) m
posts-then n k m xs ys same a b = record {
  own = subst (λ s. m.own.items ≡ k.own.items ++ to_itself s ys) same b.own ∙ ap (λ (l : List Message). l ++ to_itself n.server ys) a.own ∙ append_assoc n.own.items (to_itself n.server xs) (to_itself n.server ys)
      ∙ ap (λ (l : List Message). n.own.items ++ l) (sym (itself-both n.server xs ys));
  answers = subst (λ s. m.answers.items ≡ k.answers.items ++ sent_bytes s (to_others s ys)) same b.answers ∙ ap (λ (l : List ℕ). l ++ sent_bytes n.server (to_others n.server ys)) a.answers
      ∙ append_assoc n.answers.items (sent_bytes n.server (to_others n.server xs)) (sent_bytes n.server (to_others n.server ys))
      ∙ ap (λ (l : List ℕ). n.answers.items ++ l) (sym (ap (sent_bytes n.server) (others-both n.server xs ys) ∙ bytes-both n.server (to_others n.server xs) (to_others n.server ys)));
}
