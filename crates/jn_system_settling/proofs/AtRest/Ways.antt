-- What a client waits for when a settle asks again is on its way until it is answered: its message waits, or a reply to it.
use Rattle.jn_system_settling.proofs.Common.{Text, at_server, server_timeout, ◌≡◌, ◌≢◌, ◌⊎◌, inl, inr, ◌≤◌, ◌<◌, ℕ, zero, suc, ◌+◌, Bool, true, false, List, [], ◌∷◌, ◌++◌, length, length-append, Option, Some, None, is_some, true≢false, append_assoc, refl, sym, ◌∙◌, ap, subst, arith, if◌then◌else◌, slice_get, nat_eq, map, list_any, nat_tests, ServerNo, ClientNo, Party, Client, Server, server_eq, client_eq, client_tells, Message, Taken, Pick, stable, Sent, ClientTable, take_row, again_row, World, Memory, at_client, servers_from, Room, server_row, Step, Tell, Again, Deliver, Nudge, StopDelivery, StopWork, Restart, Dismiss, IsStep, after, at_memory, handed, took, taken_by, sent_now, Course, numbered, still_waiting, without_number, go, go_on, Chance, first_busy, handing, working, next_step, onward, until_rest, ask_again, one-server, one-client, ClientRow, by_command, by_ignoring, by_answering, by_telling, StepCase, client_row, row_done, row_stopped, gone_late, gone_down, come_up, dismissed, step-case, Grows, grows, Left}
use Rattle.jn_rows.specs.declared.client.Taken.TheVariants as taken
use Rattle.jn_system.specs.WholeSystem.Steps.{Work}
use Rattle.jn_system_settling.proofs.Settling.Burdens.{are_below, get-more, get-next}
use Rattle.jn_system_settling.proofs.Settling.Courses.{Sound, waiting-is}
use Rattle.jn_system_settling.proofs.Settling.Parts.{get-some}
use Rattle.jn_system_settling.proofs.AtRest.Talk.{IsStill, take-still}
pub use Rattle.jn_system_settling.specs.AtRest.Calls.{Waits}

-- ---- messages that wait

abbrev pub Has : Sent → List Sent → Type 0
Has x [] = ⊥
Has x (y ∷ ys) = (y ≡ x) ⊎ Has x ys

pub any-left : {A : Type 0} → (f : A → Bool) (a b : List A) → list_any f a ≡ true → list_any f (a ++ b) ≡ true
any-left f [] b h = absurd (true≢false (sym h))
any-left f (x ∷ a) b h = let again = any-left f a b in grind (arith, h)

pub any-right : {A : Type 0} → (f : A → Bool) (a b : List A) → list_any f b ≡ true → list_any f (a ++ b) ≡ true
any-right f [] b h = h
any-right f (x ∷ a) b h = let again = any-right f a b h in grind arith

pub below-any : (n k : ℕ) (ks : List ℕ) → are_below n ks ≡ true → list_any (nat_eq k) ks ≡ true → k < n
below-any n k [] h e = absurd (true≢false (sym e))
below-any n k (j ∷ js) h e = let again = below-any n k js in grind (arith, nat_tests, h, e)

new-waits : (xs ys : List Sent) (x : Sent) → Has x ys → Waits (xs ++ ys) (numbered (length xs) ys) x
new-waits xs [] x h = absurd h
new-waits xs (y ∷ ys) x h = by h (new-waits (xs ++ y ∷ []) ys x)
  where
    by : (y ≡ x) ⊎ Has x ys → (Has x ys → Waits ((xs ++ y ∷ []) ++ ys) (numbered (length (xs ++ y ∷ [])) ys) x) → Waits (xs ++ y ∷ ys) (numbered (length xs) (y ∷ ys)) x
    by (inl e) again = record { number = length xs; waits = grind (arith, nat_tests); is = get-next xs y ys ∙ ap (λ z. Some z) e }
    by (inr k) again = let on = again k in record {
      number = on.number;
      waits = let same = length-append xs (y ∷ []) in let old = subst (λ z. list_any (nat_eq on.number) (numbered z ys) ≡ true) same on.waits in grind (arith, old);
      is = subst (λ zs. slice_get zs on.number ≡ Some x) (append_assoc xs (y ∷ []) ys) on.is;
    }

module _ (n : ℕ) (at_most : n ≤ 8) (start : World) where
  -- one that waits still, or is new, after a step
  pub still-waits : (d : Course) (step : Step) (x : Sent) → Sound n start d → (w : Waits d.world.sent d.waiting x) → list_any (nat_eq w.number) (still_waiting step d.waiting) ≡ true → Waits (go step d).world.sent (go step d).waiting x
  still-waits d step x h w still = by (grows d.world step)
    where
      by : Grows d.world (after step d.world) → Waits (go step d).world.sent (go step d).waiting x
      by g = record {
        number = w.number;
        waits = subst (λ ks. list_any (nat_eq w.number) ks ≡ true) (sym (waiting-is n at_most start d step g.new g.sent)) (any-left (nat_eq w.number) (still_waiting step d.waiting) _ still);
        is = subst (λ xs. slice_get xs w.number ≡ Some x) (sym g.sent) (get-more d.world.sent g.new w.number (below-any (length d.world.sent) w.number d.waiting h.below w.waits) ∙ w.is);
      }

  pub now-waits : (d : Course) (step : Step) (new : List Sent) (x : Sent) → (after step d.world).sent ≡ d.world.sent ++ new → Has x new → Waits (go step d).world.sent (go step d).waiting x
  now-waits d step new x e h = let w = new-waits d.world.sent new x h in record {
    number = w.number;
    waits = subst (λ ks. list_any (nat_eq w.number) ks ≡ true) (sym (waiting-is n at_most start d step new e)) (any-right (nat_eq w.number) (still_waiting step d.waiting) _ w.waits);
    is = subst (λ xs. slice_get xs w.number ≡ Some x) (sym e) w.is;
  }

-- ---- clients and servers

pub took-clients : (c : ClientNo) (k : ℕ) (t : ClientTable) (r : Taken) (w : World) → (took c k t r w).clients ≡ at_client w.clients c t
took-clients c k t taken.Ignored w = refl
took-clients c k t (taken.Send to message) w = refl
took-clients c k t (taken.Told line answer) w = refl

pub memory-clients : (s : ServerNo) (k : ℕ) (room : Room) (stop : Option (Pick → Left)) (message : Message) (o : Option Memory) (w : World) → (at_memory s k room stop message o w).clients ≡ w.clients
memory-clients s k room stop message None w = refl
memory-clients s k room None message (Some m) w = refl
memory-clients s k room (Some made) message (Some m) w = refl

-- no step but these changes a client
abbrev pub is_quiet : Step → Bool
is_quiet (Tell c command) = false
is_quiet (Deliver k room) = false
is_quiet (StopDelivery k room made) = false
is_quiet Dismiss = false
is_quiet step = true

pub quiet-clients : (step : Step) (w : World) → is_quiet step ≡ true → (after step w).clients ≡ w.clients
quiet-clients step w q = by step (after step w) (step-case w step) q
  where
    hands : (k : ℕ) (room : Room) (stop : Option (Pick → Left)) → is_quiet (handing k room stop) ≡ false
    hands k room None = refl
    hands k room (Some made) = refl

    speaks : (step : Step) (c : ClientNo) (t : ClientTable) (sent : List Sent) (lines : List Text) → ClientRow w c step t sent lines → is_quiet step ≡ false
    speaks _ c _ _ _ (by_command command t to message is) = refl
    speaks _ c _ _ _ (by_ignoring k room stop message t e is) = hands k room stop
    speaks _ c _ _ _ (by_answering k room stop message t to answer e is) = hands k room stop
    speaks _ c _ _ _ (by_telling k room stop message t line answer e is) = hands k room stop

    by : (step : Step) (now : World) → StepCase w step now → is_quiet step ≡ true → now.clients ≡ w.clients
    by step _ (client_row _ c t sent lines row) q = absurd (true≢false (sym q ∙ speaks step c t sent lines row))
    by _ _ dismissed q = absurd (true≢false (sym q))
    by _ _ is q = refl

-- a client takes what is handed to it, and nothing else
pub taken-still : (c d : ClientNo) (k : ℕ) (message : Message) (w : World) → IsStill (w.clients c) ((taken_by d k (take_row (w.clients d) message) w).clients c)
taken-still c d k message w = subst (λ f. IsStill (w.clients c) (f c)) (sym (took-clients d k (take_row (w.clients d) message).0 (take_row (w.clients d) message).1 w))
    (one-client (λ e z. IsStill (w.clients e) z) w.clients d (take_row (w.clients d) message).0 (take-still (w.clients d) message) (λ e other. inl refl) c)

pub handed-still : (c : ClientNo) (k : ℕ) (room : Room) (stop : Option (Pick → Left)) (y : Sent) (w : World) → IsStill (w.clients c) ((handed k room stop (Some y) w).clients c)
handed-still c k room stop (Client d, message) w = taken-still c d k message w
handed-still c k room stop (Server s, message) w = subst (λ f. IsStill (w.clients c) (f c)) (sym (memory-clients s k room stop message (w.memory s) w)) (inl refl)

-- what it takes
pub taken-taken : (c : ClientNo) (k : ℕ) (message : Message) (w : World) → (taken_by c k (take_row (w.clients c) message) w).clients c ≡ (take_row (w.clients c) message).0
taken-taken c k message w = ap (λ f. f c) (took-clients c k (take_row (w.clients c) message).0 (take_row (w.clients c) message).1 w) ∙ ap (λ (b : Bool). if b then (take_row (w.clients c) message).0 else w.clients c) itself
  where
    itself : client_eq c c ≡ true
    itself = grind (arith, nat_tests)

pub handed-taken : (c : ClientNo) (k : ℕ) (room : Room) (stop : Option (Pick → Left)) (message : Message) (w : World) → (handed k room stop (Some (Client c, message)) w).clients c ≡ (take_row (w.clients c) message).0
handed-taken c k room stop message w = taken-taken c k message w

pub took-memory : (c : ClientNo) (k : ℕ) (t : ClientTable) (r : Taken) (w : World) → (took c k t r w).memory ≡ w.memory
took-memory c k t taken.Ignored w = refl
took-memory c k t (taken.Send to message) w = refl
took-memory c k t (taken.Told line answer) w = refl

-- a server that is down stays down until it is started again
abbrev starts_none : Step → Bool
starts_none (Restart s pick Ws Ts) = false
starts_none step = true

down-still : (q : ServerNo) (step : Step) (w : World) → starts_none step ≡ true → w.memory q ≡ None → (after step w).memory q ≡ None
down-still q step w none down = by step (after step w) (step-case w step) none
  where
    clash : (m : Memory) → Some m ≡ None → ⊥
    clash m e = cc

    other : (s : ServerNo) (m : Memory) (o : Option Memory) → w.memory s ≡ Some m → at_server w.memory s o q ≡ None
    other s m o e = one-server (λ z x. z ≡ q → x ≡ None) w.memory s o (λ is. absurd (clash m (sym e ∙ ap w.memory is ∙ down))) (λ z apart is. ap w.memory is ∙ down) q refl

    by : (step : Step) (now : World) → StepCase w step now → starts_none step ≡ true → now.memory q ≡ None
    by step _ (row_done _ s m k row e is) none = other s m (Some row.table) e
    by step _ (row_stopped _ s m k row made e is) none = other s m None e
    by _ _ (gone_late s m T e) none = other s m (Some (server_timeout m T)) e
    by _ _ (gone_down s m e) none = other s m None e
    by _ _ (come_up s pick Ws Ts e) none = absurd (true≢false (sym none))
    by _ _ is none = down

pub rest-down : (n : ℕ) (q : ServerNo) (j : ℕ) (chances : ℕ → Chance) (d : Course) → d.world.memory q ≡ None → (until_rest (servers_from 0 n) chances j d).world.memory q ≡ None
rest-down n q zero chances d down = down
rest-down n q (suc j) chances d down = by d.waiting (first_busy d.world (servers_from 0 n)) (chances 0).stop (λ e. rest-down n q j (λ i. chances (i + 1)) e)
  where
    on : (o : Option ServerNo) (stop : Option (Pick → Left)) → ((e : Course) → e.world.memory q ≡ None → (until_rest (servers_from 0 n) (λ i. chances (i + 1)) j e).world.memory q ≡ None)
        → (onward (next_step (record { room = (chances 0).room; stop = stop }) [] o) d (until_rest (servers_from 0 n) (λ i. chances (i + 1)) j)).world.memory q ≡ None
    on None stop again = down
    on (Some s) None again = again (go (working s (chances 0).room None) d) (down-still q (Work s (chances 0).room) d.world refl down)
    on (Some s) (Some made) again = again (go (working s (chances 0).room (Some made)) d) (down-still q (StopWork s (chances 0).room made) d.world refl down)

    by : (waiting : List ℕ) (o : Option ServerNo) (stop : Option (Pick → Left)) → ((e : Course) → e.world.memory q ≡ None → (until_rest (servers_from 0 n) (λ i. chances (i + 1)) j e).world.memory q ≡ None)
        → (onward (next_step (record { room = (chances 0).room; stop = stop }) waiting o) d (until_rest (servers_from 0 n) (λ i. chances (i + 1)) j)).world.memory q ≡ None
    by [] o stop again = on o stop again
    by (k ∷ ks) o None again = again (go (handing k (chances 0).room None) d) (down-still q (Deliver k (chances 0).room) d.world refl down)
    by (k ∷ ks) o (Some made) again = again (go (handing k (chances 0).room (Some made)) d) (down-still q (StopDelivery k (chances 0).room made) d.world refl down)

-- ---- on its way

-- what ends a client's waiting
abbrev pub IsEnd : ClientTable → Message → Type 0
IsEnd t r = (take_row t r).0.outstanding ≡ None

pub record Reply (c : ClientNo) (t : ClientTable) (sent : List Sent) : Type 0 where
  pub message : Message
  pub has : Has (Client c, message) sent
  pub ends_it : IsEnd t message

two-parties : (c : ClientNo) (s : ServerNo) (m r : Message) (x : Option Sent) → x ≡ Some (Client c, m) → x ≡ Some (Server s, r) → ⊥
two-parties c s m r x e f = apart (ap to_of (sym e ∙ f))
  where
    to_of : Option Sent → Party
    to_of None = Client c
    to_of (Some y) = y.0

    apart : Client c ≡ Server s → ⊥
    apart q = cc

-- a reply that waits already
pub record Answering (c : ClientNo) (t : ClientTable) (d : Course) : Type 0 where
  pub message : Message
  pub waits : Waits d.world.sent d.waiting (Client c, message)
  pub ends_it : IsEnd t message

pub any-without : (j k : ℕ) (ks : List ℕ) → list_any (nat_eq k) ks ≡ true → nat_eq k j ≡ false → list_any (nat_eq k) (without_number j ks) ≡ true
any-without j k [] h e = absurd (true≢false (sym h))
any-without j k (i ∷ ks) h e = let again = any-without j k ks in grind (arith, nat_tests, h, e)

pub data Way (c : ClientNo) (t : ClientTable) (x : Sent) (d : Course) : Type 0 where
  answered : (d.world.clients c).outstanding ≡ None → Way c t x d
  asks : d.world.clients c ≡ t → Waits d.world.sent d.waiting x → Way c t x d
  answering : d.world.clients c ≡ t → (r : Message) → Waits d.world.sent d.waiting (Client c, r) → IsEnd t r → Way c t x d

-- a client that waits for nothing goes on so
pub none-still : (c : ClientNo) (t now : ClientTable) → IsStill t now → t.outstanding ≡ None → now.outstanding ≡ None
none-still c t now (inl e) h = ap (λ (z : ClientTable). z.outstanding) e ∙ h
none-still c t now (inr e) h = e

module _ (n : ℕ) (at_most : n ≤ 8) (start : World) (c : ClientNo) (t : ClientTable) (s : ServerNo) (message : Message)
    (Good : Course → Type 0) (sound : (d : Course) → Good d → Sound n start d) (good : (d : Course) (step : Step) → Good d → IsStep step d.world → Good (go step d))
    (replies : (d : Course) (m : Memory) (room : Room) → Good d → d.world.clients c ≡ t → d.world.memory s ≡ Some m → Reply c t (server_row m (stable (d.world.found s)) room message).messages ⊎ Answering c t d) where
  abbrev It : Course → Type 0
  It d = Way c t (Server s, message) d

  -- the message comes to its server, which stays up
  reaches : (chance : Chance) (d : Course) → Good d → d.world.clients c ≡ t → (k : ℕ) → slice_get d.world.sent k ≡ Some (Server s, message)
      → is_some ((go (handing k chance.room chance.stop) d).world.memory s) ≡ true → (go (handing k chance.room chance.stop) d).world.clients c ≡ t → It (go (handing k chance.room chance.stop) d)
  reaches chance d h same k is up still = by (d.world.memory s) refl chance.stop up still
    where
      world : (stop : Option (Pick → Left)) → (after (handing k chance.room stop) d.world) ≡ at_memory s k chance.room stop message (d.world.memory s) d.world
      world None = ap (λ o. handed k chance.room None o d.world) is
      world (Some made) = ap (λ o. handed k chance.room (Some made) o d.world) is

      itself : server_eq s s ≡ true
      itself = grind (arith, nat_tests)

      by : (o : Option Memory) → d.world.memory s ≡ o → (stop : Option (Pick → Left)) → is_some ((go (handing k chance.room stop) d).world.memory s) ≡ true → (go (handing k chance.room stop) d).world.clients c ≡ t → It (go (handing k chance.room stop) d)
      by None e stop up still = absurd (true≢false (sym up ∙ ap (λ (w : World). is_some (w.memory s)) (world stop ∙ ap (λ o. at_memory s k chance.room stop message o d.world) e) ∙ ap is_some e))
      by (Some m) e (Some made) up still = absurd (true≢false (sym up ∙ ap (λ (w : World). is_some (w.memory s)) (world (Some made) ∙ ap (λ o. at_memory s k chance.room (Some made) message o d.world) e) ∙ ap (λ (b : Bool). is_some (if b then None else d.world.memory s)) itself))
      by (Some m) e None up still = replied (replies d m chance.room h same e)
        where
          replied : Reply c t (server_row m (stable (d.world.found s)) chance.room message).messages ⊎ Answering c t d → It (go (handing k chance.room None) d)
          replied (inl reply) = answering still reply.message (now-waits n at_most start d (Deliver k chance.room) (server_row m (stable (d.world.found s)) chance.room message).messages (Client c, reply.message)
              (ap (λ (w : World). w.sent) (world None ∙ ap (λ o. at_memory s k chance.room None message o d.world) e)) reply.has) reply.ends_it
          replied (inr reply) = answering still reply.message (still-waits n at_most start d (Deliver k chance.room) (Client c, reply.message) (sound d h) reply.waits (any-without k reply.waits.number d.waiting reply.waits.waits (another (nat_eq reply.waits.number k) refl))) reply.ends_it
            where
              another : (b : Bool) → nat_eq reply.waits.number k ≡ b → nat_eq reply.waits.number k ≡ false
              another false q = q
              another true q = absurd (two-parties c s reply.message message (slice_get d.world.sent k) (subst (λ (i : ℕ). slice_get d.world.sent i ≡ Some (Client c, reply.message)) (grind (arith, nat_tests, q)) reply.waits.is) is)

  -- a message is handed over
  handing-way : (chance : Chance) (d : Course) → Good d → (k : ℕ) (ks : List ℕ) → d.waiting ≡ k ∷ ks → is_some ((go (handing k chance.room chance.stop) d).world.memory s) ≡ true → It d → It (go (handing k chance.room chance.stop) d)
  handing-way chance d h k ks waits up way = by (get-some d.world.sent k there) way
    where
      there : k < length d.world.sent
      there = let below = subst (λ l. are_below (length d.world.sent) l ≡ true) waits (sound d h).below in grind (arith, nat_tests, below)

      still : (stop : Option (Pick → Left)) (y : Sent) → slice_get d.world.sent k ≡ Some y → IsStill (d.world.clients c) ((go (handing k chance.room stop) d).world.clients c)
      still None y e = subst (λ o. IsStill (d.world.clients c) ((handed k chance.room None o d.world).clients c)) (sym e) (handed-still c k chance.room None y d.world)
      still (Some made) y e = subst (λ o. IsStill (d.world.clients c) ((handed k chance.room (Some made) o d.world).clients c)) (sym e) (handed-still c k chance.room (Some made) y d.world)

      takes : (stop : Option (Pick → Left)) (r : Message) → slice_get d.world.sent k ≡ Some (Client c, r) → ((go (handing k chance.room stop) d).world.clients c) ≡ (take_row (d.world.clients c) r).0
      takes None r e = ap (λ o. (handed k chance.room None o d.world).clients c) e ∙ handed-taken c k chance.room None r d.world
      takes (Some made) r e = ap (λ o. (handed k chance.room (Some made) o d.world).clients c) e ∙ handed-taken c k chance.room (Some made) r d.world

      -- another one waits on
      other : (x : Sent) (w : Waits d.world.sent d.waiting x) → nat_eq w.number k ≡ false → Waits (go (handing k chance.room chance.stop) d).world.sent (go (handing k chance.room chance.stop) d).waiting x
      other x w ne = still-waits n at_most start d (handing k chance.room chance.stop) x (sound d h) w (kept chance.stop)
        where
          left : list_any (nat_eq w.number) (without_number k d.waiting) ≡ true
          left = subst (λ l. list_any (nat_eq w.number) (without_number k l) ≡ true) (sym waits) (let old = subst (λ l. list_any (nat_eq w.number) l ≡ true) waits w.waits in grind (arith, nat_tests, old, ne))

          kept : (stop : Option (Pick → Left)) → list_any (nat_eq w.number) (still_waiting (handing k chance.room stop) d.waiting) ≡ true
          kept None = left
          kept (Some made) = left

      at : (j : ℕ) → nat_eq j k ≡ true → j ≡ k
      at j e = grind (arith, nat_tests, e)

      same-still : (now : ClientTable) → d.world.clients c ≡ t → IsStill (d.world.clients c) now → (now ≡ t) ⊎ (now.outstanding ≡ None)
      same-still now e (inl k) = inl (k ∙ e)
      same-still now e (inr k) = inr k

      asked : (y : Sent) → slice_get d.world.sent k ≡ Some y → d.world.clients c ≡ t → (w : Waits d.world.sent d.waiting (Server s, message)) → (b : Bool) → nat_eq w.number k ≡ b
          → ((go (handing k chance.room chance.stop) d).world.clients c ≡ t) ⊎ (((go (handing k chance.room chance.stop) d).world.clients c).outstanding ≡ None) → It (go (handing k chance.room chance.stop) d)
      asked y e same w b q (inr over) = answered over
      asked y e same w true q (inl on) = reaches chance d h same k (subst (λ j. slice_get d.world.sent j ≡ Some (Server s, message)) (at w.number q) w.is) up on
      asked y e same w false q (inl on) = asks on (other (Server s, message) w q)

      told : (y : Sent) → slice_get d.world.sent k ≡ Some y → d.world.clients c ≡ t → (r : Message) (w : Waits d.world.sent d.waiting (Client c, r)) → IsEnd t r → (b : Bool) → nat_eq w.number k ≡ b
          → ((go (handing k chance.room chance.stop) d).world.clients c ≡ t) ⊎ (((go (handing k chance.room chance.stop) d).world.clients c).outstanding ≡ None) → It (go (handing k chance.room chance.stop) d)
      told y e same r w end b q (inr over) = answered over
      told y e same r w end true q (inl on) = answered (ap (λ (z : ClientTable). z.outstanding) (takes chance.stop r (subst (λ j. slice_get d.world.sent j ≡ Some (Client c, r)) (at w.number q) w.is)) ∙ ap (λ (z : ClientTable). (take_row z r).0.outstanding) same ∙ end)
      told y e same r w end false q (inl on) = answering on r (other (Client c, r) w q) end

      by : (y : Sent) × (slice_get d.world.sent k ≡ Some y) → It d → It (go (handing k chance.room chance.stop) d)
      by y (answered e) = answered (none-still c (d.world.clients c) _ (still chance.stop y.0 y.1) e)
      by y (asks same w) = asked y.0 y.1 same w (nat_eq w.number k) refl (same-still _ same (still chance.stop y.0 y.1))
      by y (answering same r w end) = told y.0 y.1 same r w end (nat_eq w.number k) refl (same-still _ same (still chance.stop y.0 y.1))

  -- ---- to the end of a part

  nothing-waits : (d : Course) (x : Sent) → d.waiting ≡ [] → Waits d.world.sent d.waiting x → ⊥
  nothing-waits d x e w = true≢false (sym w.waits ∙ ap (λ l. list_any (nat_eq w.number) l) e)

  answered-at-rest : (d : Course) → d.waiting ≡ [] → It d → (d.world.clients c).outstanding ≡ None
  answered-at-rest d e (answered h) = h
  answered-at-rest d e (asks same w) = absurd (nothing-waits d (Server s, message) e w)
  answered-at-rest d e (answering same r w end) = absurd (nothing-waits d (Client c, r) e w)

  handing-good : (chance : Chance) (d : Course) (k : ℕ) → Good d → Good (go (handing k chance.room chance.stop) d)
  handing-good chance d k h = by chance.stop
    where
      by : (stop : Option (Pick → Left)) → Good (go (handing k chance.room stop) d)
      by None = good d (Deliver k chance.room) h tt
      by (Some made) = good d (StopDelivery k chance.room made) h tt

  working-good : (chance : Chance) (d : Course) (q : ServerNo) → Good d → Good (go (working q chance.room chance.stop) d)
  working-good chance d q h = by chance.stop
    where
      by : (stop : Option (Pick → Left)) → Good (go (working q chance.room stop) d)
      by None = good d (Work q chance.room) h tt
      by (Some made) = good d (StopWork q chance.room made) h tt

  working-clients : (chance : Chance) (d : Course) (q : ServerNo) → (go (working q chance.room chance.stop) d).world.clients ≡ d.world.clients
  working-clients chance d q = by chance.stop
    where
      by : (stop : Option (Pick → Left)) → (go (working q chance.room stop) d).world.clients ≡ d.world.clients
      by None = quiet-clients (Work q chance.room) d.world refl
      by (Some made) = quiet-clients (StopWork q chance.room made) d.world refl

  pub rest-answers : (j : ℕ) (chances : ℕ → Chance) (d : Course) → Good d → It d → is_some ((until_rest (servers_from 0 n) chances j d).world.memory s) ≡ true → (until_rest (servers_from 0 n) chances j d).waiting ≡ []
      → ((until_rest (servers_from 0 n) chances j d).world.clients c).outstanding ≡ None
  rest-answers zero chances d h way up rests = answered-at-rest d rests way
  rest-answers (suc j) chances d h way up rests = by d.waiting refl (first_busy d.world (servers_from 0 n)) up rests (rest-answers j (λ i. chances (i + 1)))
    where
      later : (ℕ → Chance)
      later i = chances (i + 1)

      -- a server that is up in the end is up now
      was-up : (e : Course) → is_some ((until_rest (servers_from 0 n) later j e).world.memory s) ≡ true → is_some (e.world.memory s) ≡ true
      was-up e h = by (e.world.memory s) refl
        where
          by : (o : Option Memory) → e.world.memory s ≡ o → is_some o ≡ true
          by (Some m) q = refl
          by None q = absurd (true≢false (sym h ∙ ap is_some (rest-down n s j later e q)))

      by : (waiting : List ℕ) → d.waiting ≡ waiting → (o : Option ServerNo) → is_some ((onward (next_step (chances 0) waiting o) d (until_rest (servers_from 0 n) later j)).world.memory s) ≡ true
          → (onward (next_step (chances 0) waiting o) d (until_rest (servers_from 0 n) later j)).waiting ≡ []
          → ((e : Course) → Good e → It e → is_some ((until_rest (servers_from 0 n) later j e).world.memory s) ≡ true → (until_rest (servers_from 0 n) later j e).waiting ≡ [] → ((until_rest (servers_from 0 n) later j e).world.clients c).outstanding ≡ None)
          → ((onward (next_step (chances 0) waiting o) d (until_rest (servers_from 0 n) later j)).world.clients c).outstanding ≡ None
      by (k ∷ ks) e o up rests again = again (go (handing k (chances 0).room (chances 0).stop) d) (handing-good (chances 0) d k h) (handing-way (chances 0) d h k ks e (was-up (go (handing k (chances 0).room (chances 0).stop) d) up) way) up rests
      by [] e (Some q) up rests again = again (go (working q (chances 0).room (chances 0).stop) d) (working-good (chances 0) d q h) (answered (ap (λ f. (f c).outstanding) (working-clients (chances 0) d q) ∙ answered-at-rest d e way)) up rests
      by [] e None up rests again = answered-at-rest d e way

  -- ---- the asking

  ask-way : (d : Course) (step : Step) → Good d → (go step d).world.clients ≡ d.world.clients → still_waiting step d.waiting ≡ d.waiting → It d → It (go step d)
  ask-way d step h same waits (answered e) = answered (ap (λ f. (f c).outstanding) same ∙ e)
  ask-way d step h same waits (asks e w) = asks (ap (λ f. f c) same ∙ e) (still-waits n at_most start d step (Server s, message) (sound d h) w (subst (λ l. list_any (nat_eq w.number) l ≡ true) (sym waits) w.waits))
  ask-way d step h same waits (answering e r w end) = answering (ap (λ f. f c) same ∙ e) r (still-waits n at_most start d step (Client c, r) (sound d h) w (subst (λ l. list_any (nat_eq w.number) l ≡ true) (sym waits) w.waits)) end

  pub record OnTheWay (d : Course) : Type 0 where
    pub so_far : Good d
    pub way : It d

  nudges-way : (servers : List ServerNo) (d : Course) → OnTheWay d → OnTheWay (go_on (map (λ (q : ServerNo). Nudge q) servers) d)
  nudges-way [] d h = h
  nudges-way (q ∷ servers) d h = nudges-way servers (go (Nudge q) d) (record { so_far = good d (Nudge q) h.so_far tt; way = ask-way d (Nudge q) h.so_far (quiet-clients (Nudge q) d.world refl) refl h.way })

  agains-way : (clients : List ClientNo) (servers : List ServerNo) (d : Course) → OnTheWay d → OnTheWay (go_on (ask_again clients servers) d)
  agains-way [] servers d h = nudges-way servers d h
  agains-way (e ∷ clients) servers d h = agains-way clients servers (go (Again e) d) (record { so_far = good d (Again e) h.so_far tt; way = ask-way d (Again e) h.so_far refl refl h.way })

  -- the client asks among them
  pub ask-on-the-way : (clients : List ClientNo) (servers : List ServerNo) (d : Course) → Good d → d.world.clients c ≡ t → again_row t ≡ Some (Server s, message) → list_any (λ e. client_eq e c) clients ≡ true
      → OnTheWay (go_on (ask_again clients servers) d)
  ask-on-the-way [] servers d h same is among = absurd (true≢false (sym among))
  ask-on-the-way (e ∷ clients) servers d h same is among = by (client_tells e c) (ask-on-the-way clients servers (go (Again e) d) (good d (Again e) h tt) same is)
    where
      by : ((client_eq e c ≡ true) × (e ≡ c)) ⊎ ((client_eq e c ≡ false) × (e ≢ c)) → (list_any (λ e. client_eq e c) clients ≡ true → OnTheWay (go_on (ask_again clients servers) (go (Again e) d))) → OnTheWay (go_on (ask_again clients servers) (go (Again e) d))
      by (inl q) again = agains-way clients servers (go (Again e) d) (record {
        so_far = good d (Again e) h tt;
        way = asks same (now-waits n at_most start d (Again e) (sent_now (again_row (d.world.clients e))) (Server s, message) refl
            (subst (λ o. Has (Server s, message) (sent_now o)) (sym (ap (λ z. again_row (d.world.clients z)) q.1 ∙ ap again_row same ∙ is)) (inl refl)));
      })
      by (inr q) again = again (grind (arith, among, q.0))
