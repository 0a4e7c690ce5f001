-- What a step does to the weight of what waits and goes.
use Rattle.jn_system_settling.proofs.Common.{◌≡◌, ◌≢◌, ◌⊎◌, inl, inr, ◌≤◌, ◌<◌, ℕ, zero, suc, ◌+◌, Bool, true, false, List, [], ◌∷◌, ◌++◌, length, length-append, append-nil, append_assoc, Option, Some, None, refl, sym, ap, subst, arith, if◌then◌else◌, slice_get, nat_lt, ◌&&◌, nat_tests, ServerNo, ClientNo, Client, Server, server_eq, server_tells, Taken, Pick, stable, made_all, RowOutcome, Sent, ClientTable, take_row, World, Memory, servers_from, Room, server_row, server_step, ends, done, stopped, at_memory, handed, took, sent_now, LockFacts, is_busy, first_busy, weight, weight_at, weigh, goings_at, sum_over, going_works, numbered, Sizes, IsSmall, holds-of, Left, left_of, weigh_all, weighs-some}
use Rattle.jn_rows.specs.declared.client.Taken.TheVariants as taken
use Rattle.jn_system_settling.proofs.Settling.SizeSteps.{RowSizes}
use Rattle.jn_system_settling.proofs.Settling.WorldSizes.{row-at, step-at}
use Rattle.jn_system_settling.proofs.Settling.ClientFits.{sent_with, take-light}

-- ---- what waits

abbrev pub are_below : ℕ → List ℕ → Bool
are_below n [] = true
are_below n (k ∷ ks) = nat_lt k n && are_below n ks

pub get-more : (xs ys : List Sent) (k : ℕ) → k < length xs → slice_get (xs ++ ys) k ≡ slice_get xs k
get-more [] ys k h = absurd (omega (arith, h))
get-more (x ∷ xs) ys zero h = refl
get-more (x ∷ xs) ys (suc k) h = get-more xs ys k (omega (arith, h))

pub get-next : (xs : List Sent) (y : Sent) (ys : List Sent) → slice_get (xs ++ y ∷ ys) (length xs) ≡ Some y
get-next [] y ys = refl
get-next (x ∷ xs) y ys = get-next xs y ys

pub weigh-more : (xs ys : List Sent) (ks : List ℕ) → are_below (length xs) ks ≡ true → weigh (xs ++ ys) ks ≡ weigh xs ks
weigh-more xs ys [] h = refl
weigh-more xs ys (k ∷ ks) h = let again = weigh-more xs ys ks (grind (arith, h)) in let here = ap weight_at (get-more xs ys k (grind (arith, nat_tests, h))) in omega (arith, again, here)

pub weigh-both : (xs : List Sent) (a b : List ℕ) → weigh xs (a ++ b) ≡ weigh xs a + weigh xs b
weigh-both xs [] b = omega arith
weigh-both xs (k ∷ a) b = let again = weigh-both xs a b in omega (arith, again)

pub weigh-new : (xs ys : List Sent) → weigh (xs ++ ys) (numbered (length xs) ys) ≡ weigh_all ys
weigh-new xs [] = refl
weigh-new xs (y ∷ ys) = let here = ap weight_at (get-next xs y ys) in let again = weigh-new (xs ++ y ∷ []) ys in let l = length-append xs (y ∷ []) in
    let rest : weigh (xs ++ y ∷ ys) (numbered (length xs + 1) ys) ≡ weigh_all ys = subst (λ zs. weigh zs (numbered (length xs + 1) ys) ≡ weigh_all ys) (append_assoc xs (y ∷ []) ys) (subst (λ n. weigh ((xs ++ y ∷ []) ++ ys) (numbered n ys) ≡ weigh_all ys) l again) in omega (arith, here, rest)

pub below-both : (n : ℕ) (a b : List ℕ) → are_below n a ≡ true → are_below n b ≡ true → are_below n (a ++ b) ≡ true
below-both n [] b h k = k
below-both n (x ∷ a) b h k = let again = below-both n a b in grind (arith, h, k)

pub below-more : (n m : ℕ) (a : List ℕ) → n ≤ m → are_below n a ≡ true → are_below m a ≡ true
below-more n m [] l h = refl
below-more n m (k ∷ a) l h = let again = below-more n m a l in grind (arith, nat_tests, h)

pub below-new : (n : ℕ) (ys : List Sent) (m : ℕ) → n + length ys ≤ m → are_below m (numbered n ys) ≡ true
below-new n [] m h = refl
below-new n (y ∷ ys) m h = let again = below-new (n + 1) ys m (omega (arith, h)) in grind (arith, nat_tests, h)

-- ---- what goes, over all servers

module _ (f g : ServerNo → ℕ) (s : ServerNo) (same : (q : ServerNo) → server_eq s q ≡ false → g q ≡ f q) where
  other : (j : ℕ) → s.0 < j → g (record { 0 = j }) ≡ f (record { 0 = j })
  other j h = same (record { 0 = j }) (grind (arith, nat_tests, h))

  sum-later : (n j : ℕ) → s.0 < j → sum_over g (servers_from j n) ≡ sum_over f (servers_from j n)
  sum-later zero j h = refl
  sum-later (suc n) j h = let here = other j h in let again = sum-later n (j + 1) (omega (arith, h)) in omega (arith, here, again)

  -- one server's number changes, which is among them or has become no greater
  sum-changed : (a b : ℕ) → g s + a ≤ f s + b → (n j : ℕ) → (a ≤ b) ⊎ ((j ≤ s.0) × (s.0 < j + n)) → sum_over g (servers_from j n) + a ≤ sum_over f (servers_from j n) + b
  sum-changed a b now zero j (inl h) = omega (arith, h)
  sum-changed a b now zero j (inr h) = let l = h.0 in let k = h.1 in absurd (omega (arith, l, k))
  sum-changed a b now (suc n) j h = by (server_tells s (record { 0 = j })) (sum-changed a b now n (j + 1))
    where
      on : (s.0 ≡ j → ⊥) → (a ≤ b) ⊎ ((j ≤ s.0) × (s.0 < j + suc n)) → (a ≤ b) ⊎ ((j + 1 ≤ s.0) × (s.0 < j + 1 + n))
      on ne (inl l) = inl l
      on ne (inr l) = let one = l.0 in let two = l.1 in inr (grind (arith, ne), omega (arith, two))

      by : ((server_eq s (record { 0 = j }) ≡ true) × (s ≡ record { 0 = j })) ⊎ ((server_eq s (record { 0 = j }) ≡ false) × (s ≢ record { 0 = j }))
          → ((a ≤ b) ⊎ ((j + 1 ≤ s.0) × (s.0 < j + 1 + n)) → sum_over g (servers_from (j + 1) n) + a ≤ sum_over f (servers_from (j + 1) n) + b)
          → g (record { 0 = j }) + sum_over g (servers_from (j + 1) n) + a ≤ f (record { 0 = j }) + sum_over f (servers_from (j + 1) n) + b
      by (inl e) again = let later = sum-later n (j + 1) (let l = ap (λ (z : ServerNo). z.0) e.1 in omega (arith, l)) in let here = subst (λ (z : ServerNo). g z + a ≤ f z + b) e.1 now in omega (arith, later, here)
      by (inr e) again = let here = same (record { 0 = j }) e.0 in let rest = again (on (λ q. e.1 (whole q)) h) in omega (arith, here, rest)
        where
          whole : s.0 ≡ j → s ≡ record { 0 = j }
          whole q = ap (λ (z : ℕ). record { 0 = z }) q

-- ---- steps

-- what a world has sent beside another, and what that and the going works weigh
pub record Leads (n : ℕ) (w now : World) (less weight_of : ℕ) : Type 0 where
  pub new : List Sent
  pub sent : now.sent ≡ w.sent ++ new
  pub goes : weigh_all new + going_works now (servers_from 0 n) + less ≤ going_works w (servers_from 0 n) + weight_of

-- what goes at one server in a world where another's memory and stable states have changed
abbrev goings_in : World → ServerNo → ℕ
goings_in w q = goings_at (stable (w.found q)) (w.memory q)

module _ (n : ℕ) (at_most : n ≤ 8) (w : World) (sizes : Sizes n w) (locks : LockFacts w) where
  module _ (s : ServerNo) (m : Memory) (up : w.memory s ≡ Some m) where
    was : goings_in w s ≡ goings_at (stable (w.found s)) (Some m)
    was = ap (λ o. goings_at (stable (w.found s)) o) up

    itself : server_eq s s ≡ true
    itself = grind (arith, nat_tests)

    module _ (light less weight_of : ℕ) (row : RowOutcome Memory) (leaves : RowSizes n m (stable (w.found s)) light less weight_of row) (fit : (light ≡ weight_of) × (less ≡ 1) ⊎ ((0 ≤ s.0) × (s.0 < 0 + n))) where
      small : (weigh_all row.messages + less ≤ weight_of) ⊎ ((0 ≤ s.0) × (s.0 < 0 + n))
      small = by fit
        where
          by : (light ≡ weight_of) × (less ≡ 1) ⊎ ((0 ≤ s.0) × (s.0 < 0 + n)) → (weigh_all row.messages + less ≤ weight_of) ⊎ ((0 ≤ s.0) × (s.0 < 0 + n))
          by (inl e) = let sent = leaves.sent in let a = e.0 in let b = e.1 in inl (omega (arith, sent, a, b))
          by (inr l) = inr l

      done-leads : (k : Option ℕ) → Leads n w (done s k row w) less weight_of
      done-leads k = record {
        new = row.messages;
        sent = refl;
        goes = let sum = sum-changed (λ q. goings_in w q) (λ q. goings_in (done s k row w) q) s same (weigh_all row.messages + less) weight_of now n 0 small in omega (arith, sum);
      }
        where
          at : Bool → ServerNo → ℕ
          at b q = goings_at (stable (λ c. if b then made_all row.changes (w.found s c) else w.found q c)) (if b then Some row.table else w.memory q)

          same : (q : ServerNo) → server_eq s q ≡ false → goings_in (done s k row w) q ≡ goings_in w q
          same q e = ap (λ b. at b q) e

          now : goings_in (done s k row w) s + (weigh_all row.messages + less) ≤ goings_in w s + weight_of
          now = let here = ap (λ b. at b s) itself in let before = was in let goes = leaves.goes in omega (arith, here, before, goes)

    -- where it is stopped nothing goes there any more
    pub stopped-leads : (made : Pick → Left) (row : RowOutcome Memory) (less : ℕ) → less ≤ goings_at (stable (w.found s)) (Some m) → (less ≡ 0) ⊎ ((0 ≤ s.0) × (s.0 < 0 + n)) → Leads n w (stopped s made row w) less 0
    stopped-leads made row less some fit = record {
      new = [];
      sent = sym (append-nil w.sent);
      goes = let sum = sum-changed (λ q. goings_in w q) (λ q. goings_in (stopped s made row w) q) s same less 0 now n 0 (few fit) in omega (arith, sum);
    }
      where
        at : Bool → ServerNo → ℕ
        at b q = goings_at (stable (λ c. if b then left_of (made c) row.changes (w.found s c) else w.found q c)) (if b then None else w.memory q)

        same : (q : ServerNo) → server_eq s q ≡ false → goings_in (stopped s made row w) q ≡ goings_in w q
        same q e = ap (λ b. at b q) e

        now : goings_in (stopped s made row w) s + less ≤ goings_in w s + 0
        now = let here = ap (λ b. at b s) itself in let before = was in omega (arith, here, before, some)

        few : (less ≡ 0) ⊎ ((0 ≤ s.0) × (s.0 < 0 + n)) → (less ≤ 0) ⊎ ((0 ≤ s.0) × (s.0 < 0 + n))
        few (inl e) = inl (omega (arith, e))
        few (inr l) = inr l

  -- ---- a message is handed over

  more-weight : (now : World) (b : ℕ) → Leads n w now 0 0 → 1 ≤ b → Leads n w now 1 b
  more-weight now b h some = record { new = h.new; sent = h.sent; goes = let g = h.goes in omega (arith, g, some) }

  took-leads : (c : ClientNo) (k : ℕ) (t : ClientTable) (r : Taken) (weight_of : ℕ) → weigh_all (sent_with r) + 1 ≤ weight_of → Leads n w (took c k t r w) 1 weight_of
  took-leads c k t taken.Ignored weight_of light = record { new = []; sent = sym (append-nil w.sent); goes = omega (arith, light) }
  took-leads c k t (taken.Send to message) weight_of light = record { new = (to, message) ∷ []; sent = refl; goes = omega (arith, light) }
  took-leads c k t (taken.Told line answer) weight_of light = record { new = sent_now answer; sent = refl; goes = omega (arith, light) }

  pub handed-leads : (k : ℕ) (room : Room) (stop : Option (Pick → Left)) (x : Sent) → slice_get w.sent k ≡ Some x → Leads n w (handed k room stop (Some x) w) 1 (weight x.1)
  handed-leads k room stop (Client c, message) e = took-leads c k _ (take_row (w.clients c) message).1 (weight message) (take-light (w.clients c) message)
  handed-leads k room stop (Server s, message) e = by (w.memory s) refl
    where
      by : (o : Option Memory) → w.memory s ≡ o → Leads n w (at_memory s k room stop message o w) 1 (weight message)
      by None up = record { new = []; sent = sym (append-nil w.sent); goes = let some = weighs-some message in omega (arith, some) }
      by (Some m) up = ending stop
        where
          row : RowSizes n m (stable (w.found s)) (weight message) 1 (weight message) (server_row m (stable (w.found s)) room message)
          row = row-at n at_most w sizes locks s m room message up (holds-of (IsSmall n) w.sent k (Server s, message) sizes.sent e)

          ending : (stop : Option (Pick → Left)) → Leads n w (ends s (Some k) stop (server_row m (stable (w.found s)) room message) w) 1 (weight message)
          ending None = done-leads s m up (weight message) 1 (weight message) (server_row m (stable (w.found s)) room message) row (inl (refl, refl)) (Some k)
          ending (Some made) = more-weight (stopped s made (server_row m (stable (w.found s)) room message) w) (weight message) (stopped-leads s m up made (server_row m (stable (w.found s)) room message) 0 (omega arith) (inl refl)) (weighs-some message)

  -- ---- a background step

  pub work-leads : (s : ServerNo) (m : Memory) (room : Room) (row : RowOutcome Memory) → w.memory s ≡ Some m → server_step m (stable (w.found s)) room ≡ Some row → s.0 < n → Leads n w (done s None row w) 0 0
  work-leads s m room row up e l = done-leads s m up _ _ _ row (step-at n at_most w sizes locks s m room row up e) (inr (omega arith, omega (arith, l))) None

  pub halt-leads : (s : ServerNo) (m : Memory) (made : Pick → Left) (row : RowOutcome Memory) → w.memory s ≡ Some m → 1 ≤ goings_at (stable (w.found s)) (Some m) → s.0 < n → Leads n w (stopped s made row w) 1 0
  halt-leads s m made row up some l = stopped-leads s m up made row 1 some (inr (omega arith, omega (arith, l)))

-- ---- the first server that is busy

pub busy-within : (w : World) (n j : ℕ) (s : ServerNo) → first_busy w (servers_from j n) ≡ Some s → s.0 < j + n
busy-within w zero j s h = absurd (cc h)
busy-within w (suc n) j s h = by (is_busy (stable (w.found (record { 0 = j }))) (w.memory (record { 0 = j }))) h (busy-within w n (j + 1) s)
  where
    some : (a b : ServerNo) → Some a ≡ Some b → a.0 ≡ b.0
    some a b e = cc

    by : (b : Bool) → (if b then Some (record { 0 = j }) else first_busy w (servers_from (j + 1) n)) ≡ Some s → (first_busy w (servers_from (j + 1) n) ≡ Some s → s.0 < j + 1 + n) → s.0 < j + suc n
    by true e again = let l = some (record { 0 = j }) s e in omega (arith, l)
    by false e again = let l = again e in omega (arith, l)

pub busy-is : (w : World) (n j : ℕ) (s : ServerNo) → first_busy w (servers_from j n) ≡ Some s → is_busy (stable (w.found s)) (w.memory s) ≡ true
busy-is w zero j s h = absurd (cc h)
busy-is w (suc n) j s h = by (is_busy (stable (w.found (record { 0 = j }))) (w.memory (record { 0 = j }))) refl h (busy-is w n (j + 1) s)
  where
    some : (a b : ServerNo) → Some a ≡ Some b → a ≡ b
    some a b e = cc

    by : (b : Bool) → is_busy (stable (w.found (record { 0 = j }))) (w.memory (record { 0 = j })) ≡ b → (if b then Some (record { 0 = j }) else first_busy w (servers_from (j + 1) n)) ≡ Some s
        → (first_busy w (servers_from (j + 1) n) ≡ Some s → is_busy (stable (w.found s)) (w.memory s) ≡ true) → is_busy (stable (w.found s)) (w.memory s) ≡ true
    by true is e again = subst (λ (z : ServerNo). is_busy (stable (w.found z)) (w.memory z) ≡ true) (some (record { 0 = j }) s e) is
    by false is e again = again e
