-- A part of a settle hands over no more messages than its burden, and comes to rest.
use Rattle.jn_system_settling.proofs.Common.{◌≡◌, ◌≤◌, ◌<◌, ℕ, zero, suc, ◌+◌, true, List, [], ◌∷◌, length, Option, Some, None, is_some, true≢false, refl, sym, ◌∙◌, ap, subst, arith, if◌then◌else◌, slice_get, nat_tests, ServerNo, Intention, WorkEntry, StableState, Pick, stable, RowOutcome, Sent, WorkerTable, going_work, going_row, carried_row, intentions_of, World, Memory, servers_from, server_step, of_worker, of_step, storage_of, Step, after, ends, handed, work, works, Course, still_waiting, go, Chance, is_busy, first_busy, handing, working, next_step, onward, until_rest, weight, weight_at, weigh, goings, goings_at, burden, one_if_delivery, deliveries, Left}
use Rattle.jn_system_settling.proofs.Settling.Burdens.{are_below, Leads, handed-leads, work-leads, halt-leads, busy-within, busy-is}
use Rattle.jn_system_settling.proofs.Settling.Courses.{Sound, IsBalanced, go-sound, go-balance, burden-after, deliveries-more}

pub get-some : (xs : List Sent) (k : ℕ) → k < length xs → (x : Sent) × (slice_get xs k ≡ Some x)
get-some [] k h = absurd (omega (arith, h))
get-some (x ∷ xs) zero h = (x, refl)
get-some (x ∷ xs) (suc k) h = get-some xs k (omega (arith, h))

some-goings : (x : StableState) (t : WorkerTable) → is_some (going_work x t) ≡ true → 1 ≤ goings x.works t
some-goings x [] h = absurd (cc h)
some-goings x (w ∷ ws) h = let again = some-goings x ws in grind (arith, h)

module _ (n : ℕ) (at_most : n ≤ 8) (start : World) where
  -- ---- a message is handed over

  module _ (chance : Chance) (c : Course) (h : Sound n start c) (k : ℕ) (ks : List ℕ) (waits : c.waiting ≡ k ∷ ks) where
    abbrev it : Step
    it = handing k chance.room chance.stop

    there : k < length c.world.sent
    there = let below = subst (λ l. are_below (length c.world.sent) l ≡ true) waits h.below in grind (arith, nat_tests, below)

    leads : (stop : Option (Pick → Left)) (x : Sent) → slice_get c.world.sent k ≡ Some x → Leads n c.world (after (handing k chance.room stop) c.world) 1 (weight x.1)
    leads None x e = subst (λ o. Leads n c.world (handed k chance.room None o c.world) 1 (weight x.1)) (sym e) (handed-leads n at_most c.world h.sizes h.locks k chance.room None x e)
    leads (Some made) x e = subst (λ o. Leads n c.world (handed k chance.room (Some made) o c.world) 1 (weight x.1)) (sym e) (handed-leads n at_most c.world h.sizes h.locks k chance.room (Some made) x e)

    taken : (stop : Option (Pick → Left)) → still_waiting (handing k chance.room stop) (k ∷ ks) ≡ ks
    taken None = grind (arith, nat_tests)
    taken (Some made) = grind (arith, nat_tests)

    pub handing-sound : Sound n start (go it c)
    handing-sound = by chance.stop
      where
        by : (stop : Option (Pick → Left)) → Sound n start (go (handing k chance.room stop) c)
        by None = go-sound n at_most start c _ h tt
        by (Some made) = go-sound n at_most start c _ h tt

    pub handing-lowers : burden (servers_from 0 n) (go it c) + 1 ≤ burden (servers_from 0 n) c
    handing-lowers = let x = get-some c.world.sent k there in
        let after = burden-after n at_most start c it 1 (weight x.0.1) h (leads chance.stop x.0 x.1) in
        let left : weigh c.world.sent (still_waiting it c.waiting) ≡ weigh c.world.sent ks = ap (λ l. weigh c.world.sent (still_waiting it l)) waits ∙ ap (weigh c.world.sent) (taken chance.stop) in
        let before : weigh c.world.sent c.waiting ≡ weight_at (slice_get c.world.sent k) + weigh c.world.sent ks = ap (weigh c.world.sent) waits in
        let here : weight_at (slice_get c.world.sent k) ≡ weight x.0.1 = ap weight_at x.1 in omega (arith, after, left, before, here)

    pub one-handed : one_if_delivery it ≡ 1
    one-handed = by chance.stop
      where
        by : (stop : Option (Pick → Left)) → one_if_delivery (handing k chance.room stop) ≡ 1
        by None = refl
        by (Some made) = refl

  -- ---- a server makes a background step

  -- a busy server is up, and one of its works goes
  pub record Busy (x : StableState) (o : Option Memory) : Type 0 where
    pub memory : Memory
    pub up : o ≡ Some memory
    pub entry : WorkEntry
    pub goes : going_work x memory.worker ≡ Some entry

  pub busy-has : (x : StableState) (o : Option Memory) → is_busy x o ≡ true → Busy x o
  busy-has x None e = absurd (true≢false (sym e))
  busy-has x (Some m) e = by (going_work x m.worker) refl e
    where
      by : (g : Option WorkEntry) → going_work x m.worker ≡ g → is_some g ≡ true → Busy x (Some m)
      by None f e = absurd (true≢false (sym e))
      by (Some v) f e = record { memory = m; up = refl; entry = v; goes = f }

  module _ (chance : Chance) (c : Course) (h : Sound n start c) (s : ServerNo) (busy : first_busy c.world (servers_from 0 n) ≡ Some s) (m : Memory) (up : c.world.memory s ≡ Some m) (v : WorkEntry) (goes : going_work (stable (c.world.found s)) m.worker ≡ Some v) where
    abbrev x : StableState
    x = stable (c.world.found s)

    abbrev pub next_intention : Option Intention
    next_intention = slice_get (intentions_of (x.works v.name)) (m.next v.name)

    abbrev pub row_of : Option Intention → RowOutcome Memory
    row_of o = of_worker m (carried_row m.worker m.tickets v o)

    steps : server_step m x chance.room ≡ Some (row_of next_intention)
    steps = ap (λ o. of_step m (going_row m.worker (storage_of m x chance.room) m.tickets o)) goes

    -- the world after it
    pub works-as : (stop : Option (Pick → Left)) → after (working s chance.room stop) c.world ≡ ends s None stop (row_of next_intention) c.world
    works-as None = ap (λ o. work s chance.room None o c.world) up ∙ ap (λ o. works s None o c.world) steps
    works-as (Some made) = ap (λ o. work s chance.room (Some made) o c.world) up ∙ ap (λ o. works s (Some made) o c.world) steps

    within : s.0 < n
    within = let l = busy-within c.world n 0 s busy in omega (arith, l)

    some-goes : 1 ≤ goings_at x (Some m)
    some-goes = some-goings x m.worker (ap is_some goes)

    abbrev at_work : Step
    at_work = working s chance.room chance.stop

    leads-to : (stop : Option (Pick → Left)) → Leads n c.world (after (working s chance.room stop) c.world) (if is_some stop then 1 else 0) 0
    leads-to None = subst (λ z. Leads n c.world z 0 0) (sym (works-as None)) (work-leads n at_most c.world h.sizes h.locks s m chance.room (row_of next_intention) up steps within)
    leads-to (Some made) = subst (λ z. Leads n c.world z 1 0) (sym (works-as (Some made))) (halt-leads n at_most c.world h.sizes h.locks s m made (row_of next_intention) up some-goes within)

    still-waits : (stop : Option (Pick → Left)) → still_waiting (working s chance.room stop) c.waiting ≡ c.waiting
    still-waits None = refl
    still-waits (Some made) = refl

    pub working-sound : Sound n start (go at_work c)
    working-sound = by chance.stop
      where
        by : (stop : Option (Pick → Left)) → Sound n start (go (working s chance.room stop) c)
        by None = go-sound n at_most start c _ h tt
        by (Some made) = go-sound n at_most start c _ h tt

    pub working-lowers : burden (servers_from 0 n) (go at_work c) + (if is_some chance.stop then 1 else 0) ≤ burden (servers_from 0 n) c
    working-lowers = let after = burden-after n at_most start c at_work _ 0 h (leads-to chance.stop) in
        let left : weigh c.world.sent (still_waiting at_work c.waiting) ≡ weigh c.world.sent c.waiting = ap (weigh c.world.sent) (still-waits chance.stop) in omega (arith, after, left)

    pub none-handed : one_if_delivery at_work ≡ 0
    none-handed = by chance.stop
      where
        by : (stop : Option (Pick → Left)) → one_if_delivery (working s chance.room stop) ≡ 0
        by None = refl
        by (Some made) = refl

  -- ---- how many messages a part hands over

  pub record Bounded (c now : Course) : Type 0 where
    pub sound : Sound n start now
    pub few : deliveries now.steps + burden (servers_from 0 n) now ≤ deliveries c.steps + burden (servers_from 0 n) c
    pub balance : IsBalanced c now

  then-bounded : (a b d : Course) → Bounded a b → Bounded b d → Bounded a d
  then-bounded a b d h k = record { sound = k.sound; few = let one = h.few in let two = k.few in omega (arith, one, two); balance = let one = h.balance in let two = k.balance in omega (arith, one, two) }

  handing-bounded : (chance : Chance) (c : Course) → Sound n start c → (k : ℕ) (ks : List ℕ) → c.waiting ≡ k ∷ ks → Bounded c (go (handing k chance.room chance.stop) c)
  handing-bounded chance c h k ks e = record {
    sound = handing-sound chance c h k ks e;
    few = let more = deliveries-more c.steps (handing k chance.room chance.stop) in let one = one-handed chance c h k ks e in let lower = handing-lowers chance c h k ks e in omega (arith, more, one, lower);
    balance = let more = deliveries-more c.steps (handing k chance.room chance.stop) in let one = one-handed chance c h k ks e in let sent = go-balance n at_most start c (handing k chance.room chance.stop) in
        let left = ap length (ap (still_waiting (handing k chance.room chance.stop)) e ∙ taken chance c h k ks e chance.stop) in let before = ap length e in omega (arith, more, one, sent, left, before);
  }

  working-bounded : (chance : Chance) (c : Course) → Sound n start c → (s : ServerNo) → first_busy c.world (servers_from 0 n) ≡ Some s → Bounded c (go (working s chance.room chance.stop) c)
  working-bounded chance c h s e = let has = busy-has (stable (c.world.found s)) (c.world.memory s) (busy-is c.world n 0 s e) in record {
    sound = working-sound chance c h s e has.memory has.up has.entry has.goes;
    few = let more = deliveries-more c.steps (working s chance.room chance.stop) in let none = none-handed chance c h s e has.memory has.up has.entry has.goes in let lower = working-lowers chance c h s e has.memory has.up has.entry has.goes in omega (arith, more, none, lower);
    balance = let more = deliveries-more c.steps (working s chance.room chance.stop) in let none = none-handed chance c h s e has.memory has.up has.entry has.goes in let sent = go-balance n at_most start c (working s chance.room chance.stop) in
        let left = ap length (still-waits chance c h s e has.memory has.up has.entry has.goes chance.stop) in omega (arith, more, none, sent, left);
  }

  pub part-bounded : (steps : ℕ) (chances : ℕ → Chance) (c : Course) → Sound n start c → Bounded c (until_rest (servers_from 0 n) chances steps c)
  part-bounded zero chances c h = record { sound = h; few = omega arith; balance = refl }
  part-bounded (suc steps) chances c h = by c.waiting refl (first_busy c.world (servers_from 0 n)) refl (part-bounded steps (λ j. chances (j + 1)))
    where
      by : (waiting : List ℕ) → c.waiting ≡ waiting → (o : Option ServerNo) → first_busy c.world (servers_from 0 n) ≡ o → ((d : Course) → Sound n start d → Bounded d (until_rest (servers_from 0 n) (λ j. chances (j + 1)) steps d))
          → Bounded c (onward (next_step (chances 0) waiting o) c (until_rest (servers_from 0 n) (λ j. chances (j + 1)) steps))
      by (k ∷ ks) e o f again = let one = handing-bounded (chances 0) c h k ks e in then-bounded c _ _ one (again _ one.sound)
      by [] e (Some s) f again = let one = working-bounded (chances 0) c h s f in then-bounded c _ _ one (again _ one.sound)
      by [] e None f again = record { sound = h; few = omega arith; balance = refl }

  -- what comes next weighs no more, and less where a message is handed over
  pub next-lightens : (chance : Chance) (step : Step) (c : Course) → Sound n start c → next_step chance c.waiting (first_busy c.world (servers_from 0 n)) ≡ Some step
      → burden (servers_from 0 n) (go step c) + one_if_delivery step ≤ burden (servers_from 0 n) c
  next-lightens chance step c h e = by c.waiting refl (first_busy c.world (servers_from 0 n)) refl e
    where
      some : (a b : Step) → Some a ≡ Some b → a ≡ b
      some a b q = cc

      by : (waiting : List ℕ) → c.waiting ≡ waiting → (o : Option ServerNo) → first_busy c.world (servers_from 0 n) ≡ o → next_step chance waiting o ≡ Some step → burden (servers_from 0 n) (go step c) + one_if_delivery step ≤ burden (servers_from 0 n) c
      by (k ∷ ks) w o f q = subst (λ z. burden (servers_from 0 n) (go z c) + one_if_delivery z ≤ burden (servers_from 0 n) c) (some (handing k chance.room chance.stop) step q)
          (let lower = handing-lowers chance c h k ks w in let one = one-handed chance c h k ks w in omega (arith, lower, one))
      by [] w (Some s) f q = let has = busy-has (stable (c.world.found s)) (c.world.memory s) (busy-is c.world n 0 s f) in
          subst (λ z. burden (servers_from 0 n) (go z c) + one_if_delivery z ≤ burden (servers_from 0 n) c) (some (working s chance.room chance.stop) step q)
          (let lower = working-lowers chance c h s f has.memory has.up has.entry has.goes in let none = none-handed chance c h s f has.memory has.up has.entry has.goes in omega (arith, lower, none))
      by [] w None f q = absurd (cc q)
