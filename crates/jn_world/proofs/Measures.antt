-- What a step leaves: the messages that were handed over, and the steps that servers have still to make.
use Rattle.jn_world.proofs.Common.{same_Some, Party, Carried, with_delivered, Posted, Place, Sent, StoreView, posted_by, ◌≡◌, ℕ, ◌+◌, arith, [], ◌∷◌, ◌++◌, refl, ◌∙◌, ap, Ok, Err, ◌<◌, Some, zero, suc, true≢false, sym, subst, set, List, if◌then◌else◌, Result, OnOk, is_some, slice_get}
use Rattle.jn_place.specs.Remaining.{steps_at}
use Rattle.jn_world.specs.Counting.{handed, steps_of_all}

plus-more : (a b c d : ℕ) → b ≡ c + d → a + b ≡ a + c + d
plus-more a b c d e = omega (arith, e)

handed-append : (ms ns : List Posted) → handed (ms ++ ns) ≡ handed ms + handed ns
handed-append [] ns = grind arith
handed-append (m ∷ ms) ns = plus-more (if m.delivered then 1 else 0) (handed (ms ++ ns)) (handed ms) (handed ns) (handed-append ms ns)

-- those that were just sent weren't
handed-new : (from : Party) (messages : List Sent) → handed (posted_by from messages) ≡ 0
handed-new from [] = refl
handed-new from (m ∷ ms) = let rest = handed-new from ms in omega (arith, rest)

plus-none : (a b c : ℕ) → a ≡ b + c → c ≡ 0 → a ≡ b
plus-none a b c e none = omega (arith, e, none)

handed-sent : (ms ns : List Posted) (from : Party) (messages : List Sent) → ns ≡ ms ++ posted_by from messages → handed ns ≡ handed ms
handed-sent ms ns from messages e = plus-none (handed ns) (handed ms) (handed (posted_by from messages)) (ap handed e ∙ handed-append ms (posted_by from messages)) (handed-new from messages)

-- a step sends messages
pub hands-none : {A E : Type 0} (r : Result A E) (ms ns : List Posted) (from : Party) (messages : List Sent) → OnOk r (ns ≡ ms ++ posted_by from messages) → OnOk r (handed ns ≡ handed ms)
hands-none (Ok a) ms ns from messages h = handed-sent ms ns from messages h
hands-none (Err e) ms ns from messages h = tt

-- the message of this number is handed over
pub hands-one : (a n : Carried) (k : ℕ) → n ≡ record a { sent = with_delivered k a.sent } → handed n.sent ≡ handed (with_delivered k a.sent)
hands-one a n k e = ap (λ (c : Carried). handed c.sent) e

-- and messages are sent for it
pub hands-on : {A E : Type 0} (r : Result A E) (a n : Carried) (k : ℕ) (ns : List Posted) (from : Party) (messages : List Sent) → n ≡ record a { sent = with_delivered k a.sent } → OnOk r (ns ≡ n.sent ++ posted_by from messages)
    → OnOk r (handed ns ≡ handed (with_delivered k a.sent))
hands-on (Ok x) a n k ns from messages e h = handed-sent n.sent ns from messages h ∙ hands-one a n k e
hands-on (Err x) a n k ns from messages e h = tt

-- ---- steps

less-here : (a b c : ℕ) → a < b → a + c < b + c
less-here a b c h = omega (arith, h)

less-there : (a b c : ℕ) → b < c → a + b < a + c
less-there a b c h = omega (arith, h)

-- where one server has fewer steps to make, so have all
fewer-steps : {S : Type 0} (look : S → StoreView) (ps : List (Place S)) (i : ℕ) (p q : Place S) → slice_get ps i ≡ Some p → steps_at look q.slot < steps_at look p.slot → steps_of_all look (set ps i q) < steps_of_all look ps
fewer-steps look [] zero p q at less = absurd (true≢false (sym (ap is_some at)))
fewer-steps look [] (suc i) p q at less = absurd (true≢false (sym (ap is_some at)))
fewer-steps {S} look (x ∷ xs) zero p q at less = less-here (steps_at look q.slot) (steps_at look x.slot) (steps_of_all look xs) (subst (λ (y : Place S). steps_at look q.slot < steps_at look y.slot) (sym (same_Some x p at)) less)
fewer-steps look (x ∷ xs) (suc i) p q at less = less-there (steps_at look x.slot) (steps_of_all look (set xs i q)) (steps_of_all look xs) (fewer-steps look xs i p q at less)

-- a step leaves these places
pub steps-less : {S A E : Type 0} (r : Result A E) (look : S → StoreView) (ps qs : List (Place S)) (n i : ℕ) (p q : Place S) → i ≡ n → slice_get ps n ≡ Some p → qs ≡ set ps i q → steps_at look q.slot < steps_at look p.slot → OnOk r (steps_of_all look qs < steps_of_all look ps)
steps-less (Err e) look ps qs n i p q index at same less = tt
steps-less {S} (Ok a) look ps qs n i p q index at same less =
    subst (λ (xs : List (Place S)). steps_of_all look xs < steps_of_all look ps) (sym (same ∙ ap (λ (k : ℕ). set ps k q) index)) (fewer-steps look ps n p q at less)
