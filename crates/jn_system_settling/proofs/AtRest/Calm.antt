-- A part of a settle at whose end all of so many servers are up: no step of it was stopped, so that it keeps what each message handed over
-- and each step of a server keeps.
use Rattle.jn_system_settling.proofs.Common.{length, length-append, append_assoc, ◌≡◌, ◌≢◌, ◌⊎◌, inl, inr, ◌≤◌, ◌<◌, ℕ, zero, suc, ◌+◌, Bool, true, false, List, [], ◌∷◌, ◌++◌, append-nil, Option, Some, None, is_some, true≢false, refl, sym, ◌∙◌, ap, subst, arith, ◌||◌, if◌then◌else◌, slice_get, nat_eq, map, list_any, nat_tests, ServerNo, ClientNo, Client, Server, client_eq, server_eq, client_tells, server_tells, Message, WorkEntry, StableState, Pick, stable, RowOutcome, Sent, going_work, going_row, carried_row, intentions_of, take_row, again_row, World, Memory, servers_from, Room, storage_of, of_worker, of_step, server_row, server_again, Step, Again, Deliver, Nudge, StopDelivery, StopWork, IsStep, after, sent_now, taken_by, done, at_memory, handed, work, works, nudge, Course, numbered, still_waiting, without_number, go, go_on, Chance, is_busy, first_busy, handing, working, next_step, onward, until_rest, ask_again, AreUp, Left}
use Rattle.jn_system.specs.WholeSystem.Steps.{Work}
use Rattle.jn_system_settling.proofs.Settling.Burdens.{are_below, busy-within, busy-is, get-more, get-next}
use Rattle.jn_system_settling.proofs.Settling.Courses.{Sound, waiting-is}
use Rattle.jn_system_settling.proofs.Settling.Parts.{get-some}
use Rattle.jn_system_settling.proofs.AtRest.Within.{Within, to-near}
use Rattle.jn_system_settling.proofs.AtRest.Ways.{Has, Waits, any-without, still-waits, now-waits, below-any, rest-down}

-- From one course to the next: this is the world then, what waited and wasn't taken waits on, and what is new waits.
pub record Comes (d now : Course) (taken : Option Sent) (w : World) : Type 0 where
  pub world : now.world ≡ w
  pub waits : (x : Sent) → Waits d.world.sent d.waiting x → (taken ≡ Some x) ⊎ Waits now.world.sent now.waiting x
  pub new : (more : List Sent) → w.sent ≡ d.world.sent ++ more → (x : Sent) → Has x more → Waits now.world.sent now.waiting x
  -- what waits then waited or is new
  pub back : (more : List Sent) → w.sent ≡ d.world.sent ++ more → (x : Sent) → Waits now.world.sent now.waiting x → Waits d.world.sent d.waiting x ⊎ Has x more
  -- what wasn't taken waits before what is new
  pub still : List ℕ
  pub numbers : (more : List Sent) → w.sent ≡ d.world.sent ++ more → now.waiting ≡ still ++ numbered (length d.world.sent) more

-- what a server does by its work that goes
abbrev pub carried : Memory → World → ServerNo → WorkEntry → RowOutcome Memory
carried m w s v = of_worker m (carried_row m.worker m.tickets v (slice_get (intentions_of ((stable (w.found s)).works v.name)) (m.next v.name)))

-- what a server sends once more
abbrev pub more_at : Option Memory → (Pick → StableState) → List Sent
more_at None found = []
more_at (Some m) found = server_again m (stable found)

pub nudged : (q : ServerNo) (w : World) (o : Option Memory) → nudge q o w ≡ record w { sent = w.sent ++ more_at o (w.found q) }
nudged q w None = ap (λ l. record w { sent = l }) (sym (append-nil w.sent))
nudged q w (Some m) = refl

-- what each client and server sends once more waits now, and nothing else changes
pub record Asked (clients : List ClientNo) (servers : List ServerNo) (d now : Course) : Type 0 where
  pub memory : now.world.memory ≡ d.world.memory
  pub found : now.world.found ≡ d.world.found
  pub tables : now.world.clients ≡ d.world.clients
  pub lines : now.world.lines ≡ d.world.lines
  pub waits : (x : Sent) → Waits d.world.sent d.waiting x → Waits now.world.sent now.waiting x
  pub from_client : (c : ClientNo) → list_any (λ e. client_eq e c) clients ≡ true → (x : Sent) → again_row (d.world.clients c) ≡ Some x → Waits now.world.sent now.waiting x
  pub from_server : (s : ServerNo) (m : Memory) → list_any (λ q. server_eq q s) servers ≡ true → d.world.memory s ≡ Some m → (x : Sent) → Has x (server_again m (stable (d.world.found s))) → Waits now.world.sent now.waiting x

pub any-either : (f : ℕ → Bool) (a b : List ℕ) → list_any f (a ++ b) ≡ true → (list_any f a ≡ true) ⊎ (list_any f b ≡ true)
any-either f [] b h = inr h
any-either f (k ∷ a) b h = by (f k) h (any-either f a b)
  where
    by : (c : Bool) → (c || list_any f (a ++ b)) ≡ true → (list_any f (a ++ b) ≡ true → (list_any f a ≡ true) ⊎ (list_any f b ≡ true)) → ((c || list_any f a) ≡ true) ⊎ (list_any f b ≡ true)
    by true q again = inl refl
    by false q again = again q

-- what still waits has waited
less-old : (j k : ℕ) (ks : List ℕ) → list_any (nat_eq j) (without_number k ks) ≡ true → list_any (nat_eq j) ks ≡ true
less-old j k [] h = h
less-old j k (i ∷ ks) h = let again = less-old j k ks in grind (arith, h)

still-old : (j : ℕ) (step : Step) (ks : List ℕ) → list_any (nat_eq j) (still_waiting step ks) ≡ true → list_any (nat_eq j) ks ≡ true
still-old j (Deliver k room) ks h = less-old j k ks h
still-old j (StopDelivery k room made) ks h = less-old j k ks h
still-old j step ks h = h

-- a new number is that of a new message
pub new-has : (xs ys : List Sent) (k : ℕ) (x : Sent) → list_any (nat_eq k) (numbered (length xs) ys) ≡ true → slice_get (xs ++ ys) k ≡ Some x → Has x ys
new-has xs [] k x h e = absurd (true≢false (sym h))
new-has xs (y ∷ ys) k x h e = by (nat_eq k (length xs)) refl h (new-has (xs ++ y ∷ []) ys k x)
  where
    same : Some y ≡ Some x → y ≡ x
    same q = cc

    by : (b : Bool) → nat_eq k (length xs) ≡ b → (b || list_any (nat_eq k) (numbered (length xs + 1) ys)) ≡ true
        → (list_any (nat_eq k) (numbered (length (xs ++ y ∷ [])) ys) ≡ true → slice_get ((xs ++ y ∷ []) ++ ys) k ≡ Some x → Has x ys) → Has x (y ∷ ys)
    by true q z again = inl (same (sym (get-next xs y ys) ∙ ap (slice_get (xs ++ y ∷ ys)) (grind (arith, nat_tests, q)) ∙ e))
    by false q z again = inr (again (subst (λ m. list_any (nat_eq k) (numbered m ys) ≡ true) (sym (length-append xs (y ∷ []))) z) (ap (λ l. slice_get l k) (append_assoc xs (y ∷ []) ys) ∙ e))

module _ (n : ℕ) (at_most : n ≤ 8) (start : World) where
  -- what waits after a step waited before it, or is new
  pub came-from : (d : Course) (step : Step) (more : List Sent) → Sound n start d → (after step d.world).sent ≡ d.world.sent ++ more → (x : Sent) → Waits (go step d).world.sent (go step d).waiting x → Waits d.world.sent d.waiting x ⊎ Has x more
  came-from d step more sound f x h = by (any-either (nat_eq h.number) (still_waiting step d.waiting) (numbered (length d.world.sent) more)
      (subst (λ ks. list_any (nat_eq h.number) ks ≡ true) (waiting-is n at_most start d step more f) h.waits))
    where
      by : (list_any (nat_eq h.number) (still_waiting step d.waiting) ≡ true) ⊎ (list_any (nat_eq h.number) (numbered (length d.world.sent) more) ≡ true) → Waits d.world.sent d.waiting x ⊎ Has x more
      by (inl k) = let old = still-old h.number step d.waiting k in
          inl (record { number = h.number; waits = old; is = sym (get-more d.world.sent more h.number (below-any (length d.world.sent) h.number d.waiting sound.below old)) ∙ ap (λ l. slice_get l h.number) (sym f) ∙ h.is })
      by (inr k) = inr (new-has d.world.sent more h.number x k (ap (λ l. slice_get l h.number) (sym f) ∙ h.is))

  step-comes : (d : Course) (step : Step) (taken : Option Sent) (w : World) → Sound n start d → after step d.world ≡ w
      → ((x : Sent) (h : Waits d.world.sent d.waiting x) → (taken ≡ Some x) ⊎ (list_any (nat_eq h.number) (still_waiting step d.waiting) ≡ true)) → Comes d (go step d) taken w
  step-comes d step taken w sound e on = record {
    world = e;
    waits = λ x h. by x h (on x h);
    new = λ more f x h. now-waits n at_most start d step more x (ap (λ (z : World). z.sent) e ∙ f) h;
    back = λ more f x h. came-from d step more sound (ap (λ (z : World). z.sent) e ∙ f) x h;
    still = still_waiting step d.waiting;
    numbers = λ more f. waiting-is n at_most start d step more (ap (λ (z : World). z.sent) e ∙ f);
  }
    where
      by : (x : Sent) (h : Waits d.world.sent d.waiting x) → (taken ≡ Some x) ⊎ (list_any (nat_eq h.number) (still_waiting step d.waiting) ≡ true) → (taken ≡ Some x) ⊎ Waits (go step d).world.sent (go step d).waiting x
      by x h (inl t) = inl t
      by x h (inr l) = inr (still-waits n at_most start d step x sound h l)

  -- this message is handed over
  hand-comes : (d : Course) (step : Step) (k : ℕ) (x : Sent) (w : World) → Sound n start d → still_waiting step d.waiting ≡ without_number k d.waiting → slice_get d.world.sent k ≡ Some x → after step d.world ≡ w → Comes d (go step d) (Some x) w
  hand-comes d step k x w sound still is e = step-comes d step (Some x) w sound e (λ y h. by y h (nat_eq h.number k) refl)
    where
      by : (y : Sent) (h : Waits d.world.sent d.waiting y) (b : Bool) → nat_eq h.number k ≡ b → (Some x ≡ Some y) ⊎ (list_any (nat_eq h.number) (still_waiting step d.waiting) ≡ true)
      by y h true q = inl (sym is ∙ ap (slice_get d.world.sent) (grind (arith, nat_tests, q)) ∙ h.is)
      by y h false q = inr (subst (λ l. list_any (nat_eq h.number) l ≡ true) (sym still) (any-without k h.number d.waiting h.waits q))

  -- nothing is handed over
  sends-on : (d : Course) (step : Step) (w : World) → Sound n start d → still_waiting step d.waiting ≡ d.waiting → after step d.world ≡ w → Comes d (go step d) None w
  sends-on d step w sound still e = step-comes d step None w sound e (λ x h. inr (subst (λ l. list_any (nat_eq h.number) l ≡ true) (sym still) h.waits))

  module _ (Good : Course → Type 0) (sound : (d : Course) → Good d → Sound n start d) (good : (d : Course) (step : Step) → Good d → IsStep step d.world → Good (go step d)) where
    -- ---- the asking

    pub nudge-comes : (q : ServerNo) (d : Course) → Good d → Comes d (go (Nudge q) d) None (record d.world { sent = d.world.sent ++ more_at (d.world.memory q) (d.world.found q) })
    nudge-comes q d h = sends-on d (Nudge q) _ (sound d h) refl (nudged q d.world (d.world.memory q))

    pub again-comes : (e : ClientNo) (d : Course) → Good d → Comes d (go (Again e) d) None (record d.world { sent = d.world.sent ++ sent_now (again_row (d.world.clients e)) })
    again-comes e d h = sends-on d (Again e) _ (sound d h) refl refl

    one-nudge : (q : ServerNo) (servers : List ServerNo) (d : Course) → Good d → Asked [] servers (go (Nudge q) d) (go_on (map (λ (q : ServerNo). Nudge q) servers) (go (Nudge q) d)) → Asked [] (q ∷ servers) d (go_on (map (λ (q : ServerNo). Nudge q) servers) (go (Nudge q) d))
    one-nudge q servers d h again = record {
      memory = again.memory ∙ ap (λ (z : World). z.memory) first.0;
      found = again.found ∙ ap (λ (z : World). z.found) first.0;
      tables = again.tables ∙ ap (λ (z : World). z.clients) first.0;
      lines = again.lines ∙ ap (λ (z : World). z.lines) first.0;
      waits = λ x w. again.waits x (first.1 x w);
      from_client = λ c a. absurd (true≢false (sym a));
      from_server = λ s m a up x has. by s m (server_tells q s) a up x has;
    }
      where
        more : Option Memory → List Sent
        more o = more_at o (d.world.found q)

        comes : Comes d (go (Nudge q) d) None (record d.world { sent = d.world.sent ++ more_at (d.world.memory q) (d.world.found q) })
        comes = nudge-comes q d h

        first : ((go (Nudge q) d).world ≡ record d.world { sent = d.world.sent ++ more_at (d.world.memory q) (d.world.found q) }) × ((x : Sent) → Waits d.world.sent d.waiting x → Waits (go (Nudge q) d).world.sent (go (Nudge q) d).waiting x)
        first = (comes.world, λ x w. on x (comes.waits x w))
          where
            on : (x : Sent) → (None ≡ Some x) ⊎ Waits (go (Nudge q) d).world.sent (go (Nudge q) d).waiting x → Waits (go (Nudge q) d).world.sent (go (Nudge q) d).waiting x
            on x (inl e) = absurd (cc e)
            on x (inr w) = w

        by : (s : ServerNo) (m : Memory) → ((server_eq q s ≡ true) × (q ≡ s)) ⊎ ((server_eq q s ≡ false) × (q ≢ s)) → list_any (λ z. server_eq z s) (q ∷ servers) ≡ true → d.world.memory s ≡ Some m → (x : Sent)
            → Has x (server_again m (stable (d.world.found s))) → Waits (go_on (map (λ (q : ServerNo). Nudge q) servers) (go (Nudge q) d)).world.sent (go_on (map (λ (q : ServerNo). Nudge q) servers) (go (Nudge q) d)).waiting x
        by s m (inl p) a up x has = again.waits x (comes.new (more (d.world.memory q)) refl x (subst (λ o. Has x (more o)) (sym (ap d.world.memory p.1 ∙ up)) (subst (λ (z : ServerNo). Has x (server_again m (stable (d.world.found z)))) (sym p.1) has)))
        by s m (inr p) a up x has = again.from_server s m (grind (arith, a, p.0)) (ap (λ (z : World). z.memory s) first.0 ∙ up) x (subst (λ (z : World). Has x (server_again m (stable (z.found s)))) (sym first.0) has)

    nudges-ask : (servers : List ServerNo) (d : Course) → Good d → Asked [] servers d (go_on (map (λ (q : ServerNo). Nudge q) servers) d)
    nudges-ask [] d h = record { memory = refl; found = refl; tables = refl; lines = refl; waits = λ x w. w; from_client = λ c a. absurd (true≢false (sym a)); from_server = λ s m a. absurd (true≢false (sym a)) }
    nudges-ask (q ∷ servers) d h = one-nudge q servers d h (nudges-ask servers (go (Nudge q) d) (good d (Nudge q) h tt))

    one-ask : (e : ClientNo) (clients : List ClientNo) (servers : List ServerNo) (d : Course) → Good d → Asked clients servers (go (Again e) d) (go_on (ask_again clients servers) (go (Again e) d)) → Asked (e ∷ clients) servers d (go_on (ask_again clients servers) (go (Again e) d))
    one-ask e clients servers d h again = record {
      memory = again.memory;
      found = again.found;
      tables = again.tables;
      lines = again.lines;
      waits = λ x w. again.waits x (on x (comes.waits x w));
      from_client = λ c a x is. by c (client_tells e c) a x is;
      from_server = again.from_server;
    }
      where
        comes : Comes d (go (Again e) d) None (record d.world { sent = d.world.sent ++ sent_now (again_row (d.world.clients e)) })
        comes = again-comes e d h

        on : (x : Sent) → (None ≡ Some x) ⊎ Waits (go (Again e) d).world.sent (go (Again e) d).waiting x → Waits (go (Again e) d).world.sent (go (Again e) d).waiting x
        on x (inl q) = absurd (cc q)
        on x (inr w) = w

        by : (c : ClientNo) → ((client_eq e c ≡ true) × (e ≡ c)) ⊎ ((client_eq e c ≡ false) × (e ≢ c)) → list_any (λ z. client_eq z c) (e ∷ clients) ≡ true → (x : Sent) → again_row (d.world.clients c) ≡ Some x
            → Waits (go_on (ask_again clients servers) (go (Again e) d)).world.sent (go_on (ask_again clients servers) (go (Again e) d)).waiting x
        by c (inl p) a x is = again.waits x (comes.new (sent_now (again_row (d.world.clients e))) refl x (subst (λ o. Has x (sent_now o)) (sym (ap (λ (z : ClientNo). again_row (d.world.clients z)) p.1 ∙ is)) (inl refl)))
        by c (inr p) a x is = again.from_client c (grind (arith, a, p.0)) x is

    pub ask-asks : (clients : List ClientNo) (servers : List ServerNo) (d : Course) → Good d → Asked clients servers d (go_on (ask_again clients servers) d)
    ask-asks [] servers d h = nudges-ask servers d h
    ask-asks (e ∷ clients) servers d h = one-ask e clients servers d h (ask-asks clients servers (go (Again e) d) (good d (Again e) h tt))

    -- ---- to rest

    module _ (inside : (d : Course) → Good d → Within n d.world) (P : Course → Type 0)
        (to_client : (d now : Course) (k : ℕ) (c : ClientNo) (message : Message) → Good d → slice_get d.world.sent k ≡ Some (Client c, message)
        → (comes : Comes d now (Some (Client c, message)) (taken_by c k (take_row (d.world.clients c) message) d.world)) → d.waiting ≡ k ∷ comes.still → P d → P now)
        (to_server : (d now : Course) (k : ℕ) (room : Room) (s : ServerNo) (message : Message) (m : Memory) → Good d → slice_get d.world.sent k ≡ Some (Server s, message) → d.world.memory s ≡ Some m
        → (comes : Comes d now (Some (Server s, message)) (done s (Some k) (server_row m (stable (d.world.found s)) room message) d.world)) → d.waiting ≡ k ∷ comes.still → P d → P now)
        (by_work : (d now : Course) (s : ServerNo) (m : Memory) (v : WorkEntry) → Good d → d.waiting ≡ [] → d.world.memory s ≡ Some m → going_work (stable (d.world.found s)) m.worker ≡ Some v
        → Comes d now None (done s None (carried m d.world s v) d.world) → P d → P now) where
      -- a server that is up at the end was never down
      never-down : (j : ℕ) (chances : ℕ → Chance) (d : Course) → AreUp n (until_rest (servers_from 0 n) chances j d).world → (s : ServerNo) → s.0 < n → d.world.memory s ≡ None → ⊥
      never-down j chances d up s near e = true≢false (sym (up s near) ∙ ap is_some (rest-down n s j chances d e))

      itself : (s : ServerNo) → server_eq s s ≡ true
      itself s = grind (arith, nat_tests)

      pub rest-calm : (j : ℕ) (chances : ℕ → Chance) (d : Course) → Good d → AreUp n (until_rest (servers_from 0 n) chances j d).world → P d → P (until_rest (servers_from 0 n) chances j d)
      unfolding hand-comes step-comes
      rest-calm zero chances d h up p = p
      rest-calm (suc j) chances d h up p = by d.waiting refl (first_busy d.world (servers_from 0 n)) refl up (rest-calm j later)
        where
          later : (ℕ → Chance)
          later i = chances (i + 1)

          handing-world : (k : ℕ) (stop : Option (Pick → Left)) → after (handing k (chances 0).room stop) d.world ≡ handed k (chances 0).room stop (slice_get d.world.sent k) d.world
          handing-world k None = refl
          handing-world k (Some made) = refl

          handing-still : (k : ℕ) (stop : Option (Pick → Left)) → still_waiting (handing k (chances 0).room stop) d.waiting ≡ without_number k d.waiting
          handing-still k None = refl
          handing-still k (Some made) = refl

          good-hand : (k : ℕ) (stop : Option (Pick → Left)) → Good (go (handing k (chances 0).room stop) d)
          good-hand k None = good d (Deliver k (chances 0).room) h tt
          good-hand k (Some made) = good d (StopDelivery k (chances 0).room made) h tt

          good-work : (s : ServerNo) (stop : Option (Pick → Left)) → Good (go (working s (chances 0).room stop) d)
          good-work s None = good d (Work s (chances 0).room) h tt
          good-work s (Some made) = good d (StopWork s (chances 0).room made) h tt

          -- it is the first one that waits
          rest-waits : (k : ℕ) (ks : List ℕ) → d.waiting ≡ k ∷ ks → (stop : Option (Pick → Left)) → d.waiting ≡ k ∷ still_waiting (handing k (chances 0).room stop) d.waiting
          rest-waits k ks e stop = e ∙ ap (λ l. k ∷ l) (sym (handing-still k stop ∙ ap (λ l. without_number k l) e ∙ ap (λ (b : Bool). if b then ks else k ∷ without_number k ks) (itself' k)))
            where
              itself' : (k : ℕ) → nat_eq k k ≡ true
              itself' k = grind (arith, nat_tests)

          to-server : (k : ℕ) (ks : List ℕ) (s : ServerNo) (message : Message) → d.waiting ≡ k ∷ ks → slice_get d.world.sent k ≡ Some (Server s, message) → (stop : Option (Pick → Left)) → AreUp n (until_rest (servers_from 0 n) (λ i. chances (i + 1)) j (go (handing k (chances 0).room stop) d)).world
              → P (go (handing k (chances 0).room stop) d)
          to-server k ks s message first is stop up = on (d.world.memory s) refl stop up
            where
              near : s.0 < n
              near = let g = sound d h in to-near n at_most d.world g.sizes g.locks (inside d h) k s message is

              leads : (stop : Option (Pick → Left)) (o : Option Memory) → d.world.memory s ≡ o → after (handing k (chances 0).room stop) d.world ≡ at_memory s k (chances 0).room stop message o d.world
              leads stop o e = handing-world k stop ∙ ap (λ z. handed k (chances 0).room stop z d.world) is ∙ ap (λ z. at_memory s k (chances 0).room stop message z d.world) e

              on : (o : Option Memory) → d.world.memory s ≡ o → (stop : Option (Pick → Left)) → AreUp n (until_rest (servers_from 0 n) (λ i. chances (i + 1)) j (go (handing k (chances 0).room stop) d)).world → P (go (handing k (chances 0).room stop) d)
              on None e stop up = absurd (never-down j (λ i. chances (i + 1)) (go (handing k (chances 0).room stop) d) up s near (ap (λ (z : World). z.memory s) (leads stop None e) ∙ e))
              on (Some m) e (Some made) up = absurd (never-down j (λ i. chances (i + 1)) (go (handing k (chances 0).room (Some made)) d) up s near (ap (λ (z : World). z.memory s) (leads (Some made) (Some m) e) ∙ ap (λ (b : Bool). if b then None else d.world.memory s) (itself s)))
              on (Some m) e None up = to_server d _ k (chances 0).room s message m h is e (hand-comes d (Deliver k (chances 0).room) k (Server s, message) _ (sound d h) refl is (leads None (Some m) e)) (rest-waits k ks first None) p

          hand : (k : ℕ) (ks : List ℕ) (x : Sent) → d.waiting ≡ k ∷ ks → slice_get d.world.sent k ≡ Some x → (stop : Option (Pick → Left)) → AreUp n (until_rest (servers_from 0 n) (λ i. chances (i + 1)) j (go (handing k (chances 0).room stop) d)).world → P (go (handing k (chances 0).room stop) d)
          hand k ks (Client c, message) first is stop up = to_client d _ k c message h is (hand-comes d (handing k (chances 0).room stop) k (Client c, message) _ (sound d h) (handing-still k stop) is
              (handing-world k stop ∙ ap (λ z. handed k (chances 0).room stop z d.world) is)) (rest-waits k ks first stop) p
          hand k ks (Server s, message) first is stop up = to-server k ks s message first is stop up

          work-on : (s : ServerNo) → first_busy d.world (servers_from 0 n) ≡ Some s → d.waiting ≡ [] → (stop : Option (Pick → Left)) → AreUp n (until_rest (servers_from 0 n) (λ i. chances (i + 1)) j (go (working s (chances 0).room stop) d)).world → P (go (working s (chances 0).room stop) d)
          work-on s busy none stop up = on (d.world.memory s) refl (busy-is d.world n 0 s busy)
            where
              on : (o : Option Memory) → d.world.memory s ≡ o → is_busy (stable (d.world.found s)) o ≡ true → P (go (working s (chances 0).room stop) d)
              on None e b = absurd (true≢false (sym b))
              on (Some m) e b = entry (going_work (stable (d.world.found s)) m.worker) refl b stop up
                where
                  entry : (o : Option WorkEntry) → going_work (stable (d.world.found s)) m.worker ≡ o → is_some o ≡ true → (stop : Option (Pick → Left)) → AreUp n (until_rest (servers_from 0 n) (λ i. chances (i + 1)) j (go (working s (chances 0).room stop) d)).world → P (go (working s (chances 0).room stop) d)
                  entry None f c stop up = absurd (true≢false (sym c))
                  entry (Some v) f c (Some made) up = absurd (never-down j (λ i. chances (i + 1)) (go (working s (chances 0).room (Some made)) d) up s (let near = busy-within d.world n 0 s busy in omega (arith, near))
                      (ap (λ (z : World). z.memory s) (ap (λ z. work s (chances 0).room (Some made) z d.world) e ∙ ap (λ z. works s (Some made) (of_step m (going_row m.worker (storage_of m (stable (d.world.found s)) (chances 0).room) m.tickets z)) d.world) f) ∙ ap (λ (b : Bool). if b then None else d.world.memory s) (itself s)))
                  entry (Some v) f c None up = by_work d _ s m v h none e f (sends-on d (Work s (chances 0).room) _ (sound d h) refl
                      (ap (λ z. work s (chances 0).room None z d.world) e ∙ ap (λ z. works s None (of_step m (going_row m.worker (storage_of m (stable (d.world.found s)) (chances 0).room) m.tickets z)) d.world) f)) p

          by : (waiting : List ℕ) → d.waiting ≡ waiting → (o : Option ServerNo) → first_busy d.world (servers_from 0 n) ≡ o → AreUp n (onward (next_step (chances 0) waiting o) d (until_rest (servers_from 0 n) (λ i. chances (i + 1)) j)).world
              → ((e : Course) → Good e → AreUp n (until_rest (servers_from 0 n) (λ i. chances (i + 1)) j e).world → P e → P (until_rest (servers_from 0 n) (λ i. chances (i + 1)) j e))
              → P (onward (next_step (chances 0) waiting o) d (until_rest (servers_from 0 n) (λ i. chances (i + 1)) j))
          by (k ∷ ks) e o f up again = again _ (good-hand k (chances 0).stop) up (here (get-some d.world.sent k (let below = subst (λ l. are_below (length d.world.sent) l ≡ true) e (sound d h).below in grind (arith, nat_tests, below))))
            where
              here : (x : Sent) × (slice_get d.world.sent k ≡ Some x) → P (go (handing k (chances 0).room (chances 0).stop) d)
              here x = hand k ks x.0 e x.1 (chances 0).stop up
          by [] e (Some s) f up again = again _ (good-work s (chances 0).stop) up (work-on s f e (chances 0).stop up)
          by [] e None f up again = p
