-- What falls at each turn of a rest: the messages still to be handed over.
use Rattle.jn_events.proofs.Common.{same_Some, with_delivered, Carried, waiting, Posted, handed, ◌≤◌, ℕ, suc, ◌+◌, ◌-◌, Bool, true, false, arith, [], ◌∷◌, length, ◌≡◌, true≢false, sym, zero, refl, Some, cond, ap, ◌∙◌, subst, ◌<◌, position_from, if◌then◌else◌, List, not, drop, is_some}
use Rattle.jn_net.specs.Cursor.{waits_at}

-- ---- messages

one-most : (b : Bool) (n m : ℕ) → n ≤ m → (if b then 1 else 0) + n ≤ suc m
one-most true n m h = omega (arith, h)
one-most false n m h = omega (arith, h)

pub handed-most : (ms : List Posted) → handed ms ≤ length ms
handed-most [] = omega arith
handed-most (m ∷ ms) = one-most m.delivered (handed ms) (length ms) (handed-most ms)

-- ---- the message that waits

one-more : (b : Bool) (n : ℕ) → not b ≡ true → 1 + n ≡ suc ((if b then 1 else 0) + n)
one-more true n h = absurd (true≢false (sym h))
one-more false n h = omega arith

counts-more : (k : ℕ) (ms : List Posted) → waits_at ms k ≡ true → handed (with_delivered k ms) ≡ suc (handed ms)
counts-more zero [] h = absurd (true≢false (sym h))
counts-more (suc k) [] h = absurd (true≢false (sym h))
counts-more zero (m ∷ ms) h = one-more m.delivered (handed ms) h
counts-more (suc k) (m ∷ ms) h = next (if m.delivered then 1 else 0) (counts-more k ms h)
  where
    next : (n : ℕ) → handed (with_delivered k ms) ≡ suc (handed ms) → n + handed (with_delivered k ms) ≡ suc (n + handed ms)
    next n e = omega (arith, e)

waits-drop : (n : ℕ) (ms : List Posted) (k : ℕ) → waits_at (drop n ms) k ≡ waits_at ms (n + k)
waits-drop zero [] k = refl
waits-drop (suc n) [] k = refl
waits-drop zero (m ∷ ms) k = grind arith
waits-drop (suc n) (m ∷ ms) k = grind (arith, waits-drop n ms k)

-- where the first one stands that waits
record IsFound (n k : ℕ) (ms : List Posted) : Type 0 where
  at : ℕ
  is : n + at ≡ k
  waits : waits_at ms at ≡ true

found-at : (n k : ℕ) (ms : List Posted) → position_from (λ (m : Posted). not m.delivered) n ms ≡ Some k → IsFound n k ms
found-at n k [] e = absurd (true≢false (sym (ap is_some e)))
found-at n k (m ∷ ms) e = by (not m.delivered) refl e (λ later. found-at (n + 1) k ms later)
  where
    by : (b : Bool) → not m.delivered ≡ b → cond b (Some n) (position_from (λ (m : Posted). not m.delivered) (n + 1) ms) ≡ Some k
        → (position_from (λ (m : Posted). not m.delivered) (n + 1) ms ≡ Some k → IsFound (n + 1) k ms) → IsFound n k (m ∷ ms)
    by true is e rest = record { at = 0; is = (let same = same_Some n k e in omega (arith, same)); waits = is }
    by false is e rest = let found = rest e in record { at = suc found.at; is = (let same = found.is in omega (arith, same)); waits = found.waits }

pub hands-more : (c : Carried) (k : ℕ) → Some k ≡ waiting c → handed (with_delivered k c.sent) ≡ suc (handed c.sent)
hands-more c k e =
    let found = found-at c.forgotten k (drop c.forgotten c.sent) (sym e) in
    counts-more k c.sent (subst (λ (j : ℕ). waits_at c.sent j ≡ true) found.is (sym (waits-drop c.forgotten c.sent found.at) ∙ found.waits))

-- so there are fewer left that may be handed over
pub fewer-left : (was now many : ℕ) → now ≡ suc was → now ≤ many → many ≤ 1000000 → 1000000 - now < 1000000 - was
fewer-left was now many more most few = omega (arith, more, most, few)
