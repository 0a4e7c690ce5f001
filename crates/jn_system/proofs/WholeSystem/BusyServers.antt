-- Which servers have something to do, and that an erasure changes nothing.
use Rattle.jn_system.proofs.Common.{◌≡◌, ◌≢◌, inl, inr, ◌≤◌, ◌<◌, ℕ, zero, suc, ◌+◌, Bool, true, false, List, [], ◌∷◌, ◌++◌, append-nil, Option, Some, None, refl, sym, ◌∙◌, ap, subst, arith, if◌then◌else◌, slice_get, nat_tests, ServerNo, RowOutcome, Sent, quiet, StableState, Change, Pick, stable, made_all, Memory, at_server, servers_from, changed, Room, storage_of, server_step, of_worker, of_step, is_busy, done, work, works, server_eq, server_tells, Intention, Text, WorkEntry, going_work, going_row, carried_row, intentions_of, fun_ext}
use Rattle.std.specs.Prelude.{◌⊎◌, is_some}
use Rattle.jn_system.specs.WholeSystem.World.{World}
use Rattle.jn_system.specs.WholeSystem.Steps.{Work, after}
use Rattle.jn_system.specs.WholeSystem.Settle.{first_busy}

some : (a b : RowOutcome Memory) → Some a ≡ Some b → a ≡ b
some a b q = cc

no-change : (c : Change) (changes : List Change) → c ∷ changes ≡ [] → ⊥
no-change c changes e = cc

-- ---- a background step

module _ (m : Memory) (x : StableState) (room : Room) where
  abbrev step_of : Option WorkEntry → Option (RowOutcome Memory)
  step_of o = of_step m (going_row m.worker (storage_of m x room) m.tickets o)

  goes-of : (o : Option WorkEntry) (row : RowOutcome Memory) (c : Change) (changes : List Change) → step_of o ≡ Some row → row.changes ≡ c ∷ changes → is_some o ≡ true
  goes-of (Some v) row c changes e h = refl
  goes-of None row c changes e h = by room.rubbish e
    where
      by : (b : Bool) → of_step m (if b then Some (quiet m.worker m.tickets) else None) ≡ Some row → false ≡ true
      by true q = absurd (no-change c changes (sym h ∙ ap (λ (r : RowOutcome Memory). r.changes) (sym (some (of_worker m (quiet m.worker m.tickets)) row q))))
      by false q = absurd (cc q)

  erases-of : (o : Option WorkEntry) (row : RowOutcome Memory) → step_of o ≡ Some row → row.changes ≡ [] → (is_some o ≡ false) × (room.rubbish ≡ true) × (row ≡ of_worker m (quiet m.worker m.tickets))
  erases-of (Some v) row e h = absurd (by (slice_get (intentions_of (x.works v.name)) (m.next v.name)) e)
    where
      by : (o : Option Intention) → of_step m (Some (carried_row m.worker m.tickets v o)) ≡ Some row → ⊥
      by (Some i) q = no-change _ _ (ap (λ (r : RowOutcome Memory). r.changes) (some _ row q) ∙ h)
      by None q = no-change _ _ (ap (λ (r : RowOutcome Memory). r.changes) (some _ row q) ∙ h)
  erases-of None row e h = by room.rubbish e
    where
      by : (b : Bool) → of_step m (if b then Some (quiet m.worker m.tickets) else None) ≡ Some row → (false ≡ false) × (b ≡ true) × (row ≡ of_worker m (quiet m.worker m.tickets))
      by true q = (refl, refl, sym (some (of_worker m (quiet m.worker m.tickets)) row q))
      by false q = absurd (cc q)

  none-of : (o : Option WorkEntry) → step_of o ≡ None → (is_some o ≡ false) × (room.rubbish ≡ false)
  none-of (Some v) e = absurd (cc e)
  none-of None e = by room.rubbish e
    where
      by : (b : Bool) → of_step m (if b then Some (quiet m.worker m.tickets) else None) ≡ None → (false ≡ false) × (b ≡ false)
      by true q = absurd (cc q)
      by false q = (refl, refl)

pub goes : (m : Memory) (x : StableState) (room : Room) (row : RowOutcome Memory) (c : Change) (changes : List Change) → server_step m x room ≡ Some row → row.changes ≡ c ∷ changes → is_busy x (Some m) ≡ true
goes m x room = goes-of m x room (going_work x m.worker)

pub erases : (m : Memory) (x : StableState) (room : Room) (row : RowOutcome Memory) → server_step m x room ≡ Some row → row.changes ≡ [] → (is_busy x (Some m) ≡ false) × (room.rubbish ≡ true)
erases m x room row e h = let is = erases-of m x room (going_work x m.worker) row e h in (is.0, is.1)

pub nothing : (m : Memory) (x : StableState) (room : Room) → server_step m x room ≡ None → (is_busy x (Some m) ≡ false) × (room.rubbish ≡ false)
nothing m x room = none-of m x room (going_work x m.worker)

-- ---- an erasure

module _ (w : World) (s : ServerNo) (m : Memory) (up : w.memory s ≡ Some m) where
  memory-same : at_server w.memory s (Some m) ≡ w.memory
  memory-same = fun_ext (λ q. by q (server_tells s q))
    where
      by : (q : ServerNo) → ((server_eq s q ≡ true) × (s ≡ q)) ⊎ ((server_eq s q ≡ false) × (s ≢ q)) → at_server w.memory s (Some m) q ≡ w.memory q
      by q (inl t) = ap (λ (b : Bool). if b then Some m else w.memory q) t.0 ∙ sym up ∙ ap w.memory t.1
      by q (inr t) = ap (λ (b : Bool). if b then Some m else w.memory q) t.0

  found-same : changed w.found s (λ c. true) (made_all []) ≡ w.found
  found-same = fun_ext (λ q. fun_ext (λ c. grind arith))

  done-same : done s None (of_worker m (quiet m.worker m.tickets)) w ≡ w
  done-same = ap (λ (f : ServerNo → Option Memory). record w { memory = f; found = changed w.found s (λ c. true) (made_all []); sent = w.sent ++ []; lines = w.lines ++ [] }) memory-same
      ∙ ap (λ (f : ServerNo → Pick → StableState). record w { found = f; sent = w.sent ++ []; lines = w.lines ++ [] }) found-same
      ∙ ap (λ (xs : List Sent). record w { sent = xs; lines = w.lines ++ [] }) (append-nil w.sent)
      ∙ ap (λ (xs : List Text). record w { lines = xs }) (append-nil w.lines)

  pub erased-same : (room : Room) (row : RowOutcome Memory) → server_step m (stable (w.found s)) room ≡ Some row → row.changes ≡ [] → after (Work s room) w ≡ w
  erased-same room row e h = ap (λ o. work s room None o w) up ∙ ap (λ o. works s None o w) e ∙ ap (λ (r : RowOutcome Memory). done s None r w) ((erases-of m (stable (w.found s)) room (going_work (stable (w.found s)) m.worker) row e h).2) ∙ done-same

-- ---- the first that is busy

abbrev Busy : World → ServerNo → Bool → Type 0
Busy w s b = is_busy (stable (w.found s)) (w.memory s) ≡ b

past : (j : ℕ) (s : ServerNo) → j ≤ s.0 → server_eq s (record { 0 = j }) ≡ false → j < s.0
past j s l other = grind (arith, nat_tests, l, other)

first-from : (w : World) (n j : ℕ) (s : ServerNo) → j ≤ s.0 → s.0 < j + n → Busy w s true → ((q : ServerNo) → q.0 < s.0 → Busy w q false) → first_busy w (servers_from j n) ≡ Some s
first-from w zero j s l k is before = absurd (omega (arith, l, k))
first-from w (suc n) j s l k is before = by (server_tells s (record { 0 = j })) (first-from w n (j + 1) s)
  where
    by : ((server_eq s (record { 0 = j }) ≡ true) × (s ≡ record { 0 = j })) ⊎ ((server_eq s (record { 0 = j }) ≡ false) × (s ≢ record { 0 = j }))
        → (j + 1 ≤ s.0 → s.0 < j + 1 + n → Busy w s true → ((q : ServerNo) → q.0 < s.0 → Busy w q false) → first_busy w (servers_from (j + 1) n) ≡ Some s)
        → (if is_busy (stable (w.found (record { 0 = j }))) (w.memory (record { 0 = j })) then Some (record { 0 = j }) else first_busy w (servers_from (j + 1) n)) ≡ Some s
    by (inl t) again = ap (λ (b : Bool). if b then Some (record { 0 = j }) else first_busy w (servers_from (j + 1) n)) (subst (λ (z : ServerNo). Busy w z true) t.1 is) ∙ ap (λ (z : ServerNo). Some z) (sym t.1)
    by (inr t) again = let more = past j s l t.0 in ap (λ (b : Bool). if b then Some (record { 0 = j }) else first_busy w (servers_from (j + 1) n)) (before (record { 0 = j }) more) ∙ again (omega (arith, more)) (omega (arith, k)) is before

pub first-is : (w : World) (servers : ℕ) (s : ServerNo) → s.0 < servers → Busy w s true → ((q : ServerNo) → q.0 < s.0 → Busy w q false) → first_busy w (servers_from 0 servers) ≡ Some s
first-is w servers s k is before = first-from w servers 0 s (omega arith) (omega (arith, k)) is before

none-from : (w : World) (n j : ℕ) → ((q : ServerNo) → q.0 < j + n → Busy w q false) → first_busy w (servers_from j n) ≡ None
none-from w zero j idle = refl
none-from w (suc n) j idle = ap (λ (b : Bool). if b then Some (record { 0 = j }) else first_busy w (servers_from (j + 1) n)) (idle (record { 0 = j }) (omega arith)) ∙ none-from w n (j + 1) (λ q l. idle q (omega (arith, l)))

pub first-none : (w : World) (servers : ℕ) → ((q : ServerNo) → q.0 < servers → Busy w q false) → first_busy w (servers_from 0 servers) ≡ None
first-none w servers idle = none-from w servers 0 (λ q l. idle q (omega (arith, l)))
