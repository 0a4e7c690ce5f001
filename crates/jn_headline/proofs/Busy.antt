-- Which server works next, where rubbish counts and where it doesn't.
use Rattle.jn_headline.proofs.Common.{◌≡◌, ℕ, zero, suc, ◌+◌, ◌<◌, ◌≤◌, Bool, true, false, List, [], ◌∷◌, Option, Some, None, refl, sym, subst, arith, nat_tests, ◌&&◌, ◌||◌, if◌then◌else◌, nat_lt, ServerNo, RowOutcome, StableState, Change, stable, World, Memory, servers_from, Room, server_step, Work, after, has_going, is_busy, is_busy_with, first_busy}
use Rattle.jn_system.proofs.WholeSystem.BusyServers.{goes, nothing, erased-same}

-- ---- the first of them

pub record IsFirst (rubbish : ServerNo → Bool) (w : World) (from n : ℕ) (q : ServerNo) : Type 0 where
  pub busy : is_busy rubbish w q ≡ true
  pub low : from ≤ q.0
  pub high : q.0 < from + n
  pub before : (p : ServerNo) → from ≤ p.0 → p.0 < q.0 → is_busy rubbish w p ≡ false

pub first-busy-is : (rubbish : ServerNo → Bool) (w : World) (from n : ℕ) (q : ServerNo) → first_busy rubbish w (servers_from from n) ≡ Some q → IsFirst rubbish w from n q
first-busy-is rubbish w from zero q e = absurd (cc e)
first-busy-is rubbish w from (suc n) q e = by (is_busy rubbish w (record { 0 = from })) refl e (first-busy-is rubbish w (from + 1) n q)
  where
    one : ServerNo
    one = record { 0 = from }

    same : Some one ≡ Some q → one ≡ q
    same k = cc

    least : (a : ℕ) → a ≤ a
    least a = omega arith

    most : (a c : ℕ) → a < a + suc c
    most a c = omega arith

    none-below : (a p : ℕ) → a ≤ p → p < a → ⊥
    none-below a p h k = omega (arith, h, k)

    by : (b : Bool) → is_busy rubbish w (record { 0 = from }) ≡ b → (if b then Some (record { 0 = from }) else first_busy rubbish w (servers_from (from + 1) n)) ≡ Some q
        → (first_busy rubbish w (servers_from (from + 1) n) ≡ Some q → IsFirst rubbish w (from + 1) n q) → IsFirst rubbish w from (suc n) q
    by true b k again = subst (λ (z : ServerNo). IsFirst rubbish w from (suc n) z) (same k) (record { busy = b; low = least from; high = most from n; before = λ p l h. absurd (none-below from p.0 l h) })
    by false b k again = let r = again k in record { busy = r.busy; low = lower from q.0 r.low; high = higher from q.0 n r.high; before = λ p l h. at p l h r (nat_lt from p.0) refl }
      where
        lower : (a c : ℕ) → a + 1 ≤ c → a ≤ c
        lower a c h = omega (arith, h)

        higher : (a c n : ℕ) → c < a + 1 + n → c < a + suc n
        higher a c n h = omega (arith, h)

        next : (a c : ℕ) → nat_lt a c ≡ true → a + 1 ≤ c
        next a c h = grind (arith, nat_tests, h)

        equal : (a c : ℕ) → a ≤ c → nat_lt a c ≡ false → c ≡ a
        equal a c l h = grind (arith, nat_tests, l, h)

        at : (p : ServerNo) → from ≤ p.0 → p.0 < q.0 → IsFirst rubbish w (from + 1) n q → (c : Bool) → nat_lt from p.0 ≡ c → is_busy rubbish w p ≡ false
        at p l h r true z = r.before p (next from p.0 z) h
        at p l h r false z = subst (λ (i : ℕ). is_busy rubbish w (record { 0 = i }) ≡ false) (sym (equal from p.0 l z)) b

pub none-busy : (rubbish : ServerNo → Bool) (w : World) (from n : ℕ) → first_busy rubbish w (servers_from from n) ≡ None → (p : ServerNo) → from ≤ p.0 → p.0 < from + n → is_busy rubbish w p ≡ false
none-busy rubbish w from zero e p l h = absurd (empty from p.0 l h)
  where
    empty : (a p : ℕ) → a ≤ p → p < a + 0 → ⊥
    empty a p l h = omega (arith, l, h)
none-busy rubbish w from (suc n) e p l h = by (is_busy rubbish w (record { 0 = from })) refl e (none-busy rubbish w (from + 1) n)
  where
    next : (a c : ℕ) → nat_lt a c ≡ true → a + 1 ≤ c
    next a c z = grind (arith, nat_tests, z)

    equal : (a c : ℕ) → a ≤ c → nat_lt a c ≡ false → c ≡ a
    equal a c k z = grind (arith, nat_tests, k, z)

    within : (a c n : ℕ) → c < a + suc n → c < a + 1 + n
    within a c n k = omega (arith, k)

    one : ServerNo
    one = record { 0 = from }

    clash : Some one ≡ None → ⊥
    clash z = cc

    by : (b : Bool) → is_busy rubbish w (record { 0 = from }) ≡ b → (if b then Some (record { 0 = from }) else first_busy rubbish w (servers_from (from + 1) n)) ≡ None
        → (first_busy rubbish w (servers_from (from + 1) n) ≡ None → (s : ServerNo) → from + 1 ≤ s.0 → s.0 < from + 1 + n → is_busy rubbish w s ≡ false) → is_busy rubbish w p ≡ false
    by true b k again = absurd (clash k)
    by false b k again = at (nat_lt from p.0) refl
      where
        at : (c : Bool) → nat_lt from p.0 ≡ c → is_busy rubbish w p ≡ false
        at true z = again k p (next from p.0 z) (within from p.0 n h)
        at false z = subst (λ (i : ℕ). is_busy rubbish w (record { 0 = i }) ≡ false) (sym (equal from p.0 l z)) b

-- ---- with rubbish and without

-- one with nothing to do at all has no work that goes
pub idle-goes-not : (x : StableState) (o : Option Memory) (rubbish : Bool) → is_busy_with x o rubbish ≡ false → has_going x o ≡ false
idle-goes-not x None rubbish e = refl
idle-goes-not x (Some m) rubbish e = first (has_going x (Some m)) rubbish e
  where
    first : (a b : Bool) → (true && (a || b)) ≡ false → a ≡ false
    first a b h = grind arith

-- and one of which no work goes has rubbish
has-rubbish : (a b : Bool) → (true && (a || b)) ≡ true → a ≡ false → b ≡ true
has-rubbish a b h k = grind arith

-- so its step erases
pub erases : (w : World) (q : ServerNo) (m : Memory) (room : Room) → w.memory q ≡ Some m → is_busy_with (stable (w.found q)) (Some m) room.rubbish ≡ true → has_going (stable (w.found q)) (Some m) ≡ false → after (Work q room) w ≡ w
erases w q m room up busy idle = by (server_step m (stable (w.found q)) room) refl
  where
    clash : {b : Bool} → b ≡ true → b ≡ false → ⊥
    clash h k = cc

    at : (row : RowOutcome Memory) → server_step m (stable (w.found q)) room ≡ Some row → (changes : List Change) → row.changes ≡ changes → after (Work q room) w ≡ w
    at row e [] k = erased-same w q m up room row e k
    at row e (c ∷ changes) k = absurd (clash (goes m (stable (w.found q)) room row c changes e k) idle)

    by : (o : Option (RowOutcome Memory)) → server_step m (stable (w.found q)) room ≡ o → after (Work q room) w ≡ w
    by None e = absurd (clash (has-rubbish (has_going (stable (w.found q)) (Some m)) room.rubbish busy idle) (nothing m (stable (w.found q)) room e).1)
    by (Some row) e = at row e row.changes refl
