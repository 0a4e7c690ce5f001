-- The message that waits is one that was sent.
use Rattle.jn_events.proofs.Common.{same_Some, Carried, waiting, Sent, ◌≡◌, ℕ, Some, ◌≤◌, ◌<◌, ◌+◌, Bool, true, false, cond, [], ◌∷◌, length, true≢false, sym, ap, arith, length-drop, Option, None, refl, ◌∙◌, position_from, List, is_some, drop, not}

position-within : {X : Type 0} (p : X → Bool) (n : ℕ) (xs : List X) (k : ℕ) → position_from p n xs ≡ Some k → (n ≤ k) × (k < n + length xs)
position-within p n [] k e = absurd (true≢false (sym (ap is_some e)))
position-within {X} p n (x ∷ xs) k e = by (p x) e (λ r. position-within p (n + 1) xs k r)
  where
    by : (b : Bool) → cond b (Some n) (position_from p (n + 1) xs) ≡ Some k → (position_from p (n + 1) xs ≡ Some k → (n + 1 ≤ k) × (k < n + 1 + length xs)) → (n ≤ k) × (k < n + length (x ∷ xs))
    by true e again = let same = same_Some n k e in (omega arith, omega arith)
    by false e again = let rest = again e in let low = rest.0 in let high = rest.1 in (omega arith, omega arith)

pub waiting-below : (c : Carried) (k : ℕ) → Some k ≡ waiting c → k < length c.sent
waiting-below c k e =
    let within = position-within (λ (m : Sent). not m.delivered) c.forgotten (drop c.forgotten c.sent) k (sym e) in
    let low = within.0 in
    let high = within.1 in
    let rest = length-drop c.forgotten c.sent in
    omega arith

-- where it isn't so that some message waits, none does
pub none-waits : (c : Carried) (found : Option ℕ) (b : Bool) → found ≡ waiting c → b ≡ is_some found → b ≡ false → waiting c ≡ None
none-waits c found b is e not-so = by (waiting c) (sym e ∙ not-so) is
  where
    by : (o : Option ℕ) → is_some found ≡ false → found ≡ o → o ≡ None
    by None f same = refl
    by (Some k) f same = absurd (true≢false (sym (ap is_some same) ∙ f))
