-- A settle after the end, where all of so many servers are up in the end: its steps keep what holds, and none is stopped.
use Rattle.jn_system_settling.proofs.Common.{◌≡◌, ◌≢◌, ◌⊎◌, inl, inr, ◌≤◌, ◌<◌, ℕ, zero, suc, ◌+◌, Bool, true, false, List, [], ◌∷◌, ◌++◌, length, Option, Some, None, is_some, true≢false, refl, sym, ◌∙◌, ap, subst, arith, if◌then◌else◌, slice_get, ◌&&◌, not, map, nat_eq, list_any, nat_tests, ServerNo, ClientNo, Tid, WorkId, Party, Client, Server, server_eq, tid_eq, work_eq, server_tells, tid_tells, work_tells, AllFiles, Message, Work, Transaction, Stage, Open, Voting, Committed, Aborted, StableState, Prepared, Pick, stable, is_ready, is_going, RowOutcome, Sent, sent_again, WorkerTable, work_at, worker_again, transaction_at, is_work, besides, commits_of, told_again, coordinator_again, committed_to, run_atoms, opening_world, some_of, World, Memory, servers_from, Room, server_row, server_again, Step, Again, Deliver, WorkStep, Nudge, StopDelivery, StopWork, IsStep, after, at_memory, handed, done, nudge, sent_now, IsTrue, IsAddressed, Course, numbered, still_waiting, without_number, go, go_on, Chance, first_busy, next_step, onward, until_rest, ask_again, AreUp, next-reached, some-memory, holds-of, Left}
use Rattle.jn_msgs.specs.declared.message.Message.TheVariants as messages
use Rattle.jn_system_settling.proofs.Settling.Burdens.{are_below, busy-within, busy-is}
use Rattle.jn_system_settling.proofs.Settling.Courses.{go-sound, waiting-is}
use Rattle.jn_system_settling.proofs.Settling.Parts.{Busy, busy-has, get-some, next_intention, row_of, works-as}
use Rattle.jn_system_settling.proofs.AtRest.Within.{to-near, within-step}
use Rattle.jn_system_settling.proofs.AtRest.Requests.{has-new}
use Rattle.jn_system_settling.proofs.AtRest.Ways.{Has, Waits, still-waits, now-waits, rest-down, any-without}
use Rattle.jn_system_settling.proofs.Closing.Rows.{is_thanked, are_all, is_ours, are_ours, needs, needs_of, needs_in, RowTends, Takes, carried-tends, going-there}
use Rattle.jn_system_settling.proofs.Closing.Tends.{waiting_ours, ours_at, ours-more, ours-both, ours-new, stored, Needed, Asked, inquires, commits, drops, Stays, lives, told, carried, Ways, Tends, up-fact, takes, same-owner, row-tends, row-ways}

module _ (n : ℕ) (at_most : n ≤ 8) (start : World) (files : AllFiles) (epochs : ServerNo → ℕ) where
  abbrev It : Course → Type 0
  It d = Tends n at_most start files epochs d

  -- and the ways where they are asked for
  pub record Goes (b : Bool) (d : Course) : Type 0 where
    pub tends : It d
    pub ways : b ≡ true → Ways d

  -- ---- a message is handed over

  record Hands (d : Course) (k : ℕ) : Type 0 where
    server : ServerNo
    message : Message
    is : slice_get d.world.sent k ≡ Some (Server server, message)
    ours : is_ours (Server server, message) ≡ true

  hands : (d : Course) (k : ℕ) (ks : List ℕ) → It d → d.waiting ≡ k ∷ ks → Hands d k
  hands d k ks h waits = by (get-some d.world.sent k there)
    where
      there : k < length d.world.sent
      there = let below = subst (λ l. are_below (length d.world.sent) l ≡ true) waits h.sound.below in grind (arith, nat_tests, below)

      its : ours_at (slice_get d.world.sent k) ≡ true
      its = let all = subst (λ l. waiting_ours d.world.sent l ≡ true) waits h.ours in grind (arith, all)

      by : (x : Sent) × (slice_get d.world.sent k ≡ Some x) → Hands d k
      by ((Server s, message), e) = record { server = s; message = message; is = e; ours = subst (λ o. ours_at o ≡ true) e its }
      by ((Client c, message), e) = absurd (true≢false (sym (subst (λ o. ours_at o ≡ true) e its)))

  module _ (b : Bool) (d : Course) (h : Goes b d) where
    t : It d
    t = h.tends

    handed-goes : (k : ℕ) (ks : List ℕ) (room : Room) → d.waiting ≡ k ∷ ks → (x : Hands d k) (m : Memory) → d.world.memory x.server ≡ Some m → Goes b (go (Deliver k room) d)
    handed-goes k ks room waits x m up = record {
      tends = row-tends n at_most start files epochs d t (Deliver k room) tt x.server m up row (Some k) now its.tends (subst (λ l. waiting_ours d.world.sent l ≡ true) (sym left) (let all = subst (λ l. waiting_ours d.world.sent l ≡ true) waits t.ours in grind (arith, all)));
      ways = λ e. row-ways n at_most start files epochs d t (Deliver k room) tt x.server m up row (Some k) now its.tends it its.own moved (λ s message q. same-server s message q) (h.ways e);
    }
      where
        it : Sent
        it = (Server x.server, x.message)

        row : RowOutcome Memory
        row = server_row m (stable (d.world.found x.server)) room x.message

        now : after (Deliver k room) d.world ≡ done x.server (Some k) row d.world
        now = ap (λ o. handed k room None o d.world) x.is ∙ ap (λ o. at_memory x.server k room None x.message o d.world) up

        its : Takes m (stable (d.world.found x.server)) (Needed d.world) row it
        its = takes n at_most start files epochs d t x.server m room x.message up x.ours (holds-of (IsTrue (run_atoms t.known.atoms (opening_world files epochs))) d.world.sent k it t.known.mirrors.says x.is)
            (holds-of IsAddressed d.world.sent k it t.known.mirrors.addressed x.is)

        left : without_number k d.waiting ≡ ks
        left = ap (without_number k) waits ∙ grind (arith, nat_tests)

        same-server : (s : ServerNo) (message : Message) → (Server s, message) ≡ it → x.server ≡ s
        same-server s message q = sym (ap (λ (z : Sent). of z.0) q)
          where
            of : Party → ServerNo
            of (Server r) = r
            of (Client c) = s

        moved : (y : Sent) → Waits d.world.sent d.waiting y → Waits (go (Deliver k room) d).world.sent (go (Deliver k room) d).waiting y ⊎ (y ≡ it)
        moved y a = by (nat_eq a.number k) refl
          where
            some : Some y ≡ Some it → y ≡ it
            some q = cc

            by : (e : Bool) → nat_eq a.number k ≡ e → Waits (go (Deliver k room) d).world.sent (go (Deliver k room) d).waiting y ⊎ (y ≡ it)
            by true q = inr (some (sym a.is ∙ subst (λ j. slice_get d.world.sent j ≡ Some it) (grind (arith, nat_tests, q)) x.is))
            by false q = inl (still-waits n at_most start d (Deliver k room) y t.sound a (any-without k a.number d.waiting a.waits q))

    -- ---- a server makes a background step

    work-goes : (s : ServerNo) (room : Room) → first_busy d.world (servers_from 0 n) ≡ Some s → Goes b (go (WorkStep s room) d)
    work-goes s room busy = record {
      tends = row-tends n at_most start files epochs d t (WorkStep s room) tt s has.memory has.up row None now tends t.ours;
      ways = λ e. row-ways n at_most start files epochs d t (WorkStep s room) tt s has.memory has.up row None now tends nobody tt
          (λ y a. inl (still-waits n at_most start d (WorkStep s room) y t.sound a a.waits)) (λ q message e. absurd (no-server q message e)) (h.ways e);
    }
      where
        no-tid : Tid
        no-tid = record { server = s; epoch = 0; ticket = 0 }

        no-work : WorkId
        no-work = record { server = s; epoch = 0; ticket = 0 }

        nobody : Sent
        nobody = (Client (record { 0 = 0 }), messages.Inquire no-tid no-work)

        no-server : (q : ServerNo) (message : Message) → (Server q, message) ≡ nobody → ⊥
        no-server q message e = clash (ap (λ (z : Sent). z.0) e)
          where
            clash : Server q ≡ Client (record { 0 = 0 }) → ⊥
            clash z = cc

        has : Busy n at_most start (stable (d.world.found s)) (d.world.memory s)
        has = busy-has n at_most start (stable (d.world.found s)) (d.world.memory s) (busy-is d.world n 0 s busy)

        chance : Chance
        chance = record { room = room; stop = None }

        row : RowOutcome Memory
        row = row_of n at_most start chance d t.sound s busy has.memory has.up has.entry has.goes (next_intention n at_most start chance d t.sound s busy has.memory has.up has.entry has.goes)

        now : after (WorkStep s room) d.world ≡ done s None row d.world
        now = works-as n at_most start chance d t.sound s busy has.memory has.up has.entry has.goes None

        tends : RowTends has.memory (stable (d.world.found s)) (Needed d.world) row
        tends = carried-tends has.memory (stable (d.world.found s)) (Needed d.world) (t.kept s has.memory has.up) room (let f = up-fact n at_most start files epochs d t s has.memory has.up in f.table)
            (same-owner n at_most start files epochs d t s has.memory has.up) has.entry (going-there (stable (d.world.found s)) has.memory.worker has.entry has.goes) _

  -- ---- a part of a settle

  pub rest-goes : (b : Bool) (j : ℕ) (chances : ℕ → Chance) (d : Course) → Goes b d → AreUp n (until_rest (servers_from 0 n) chances j d).world → Goes b (until_rest (servers_from 0 n) chances j d)
  rest-goes b zero chances d h up = h
  rest-goes b (suc j) chances d h up = by d.waiting refl (first_busy d.world (servers_from 0 n)) refl (chances 0).stop up (rest-goes b j (λ i. chances (i + 1)))
    where
      later : ℕ → Chance
      later i = chances (i + 1)

      was-up : AreUp n d.world
      was-up s near = on (d.world.memory s) refl
        where
          on : (o : Option Memory) → d.world.memory s ≡ o → is_some o ≡ true
          on (Some m) e = refl
          on None e = absurd (true≢false (sym (up s near) ∙ ap is_some (rest-down n s (suc j) chances d e)))

      -- a stop would leave a server down
      no-stop : (s : ServerNo) → s.0 < n → (e : Course) → e.world.memory s ≡ None → AreUp n (until_rest (servers_from 0 n) later j e).world → ⊥
      no-stop s near e down last = true≢false (sym (last s near) ∙ ap is_some (rest-down n s j later e down))

      itself : (s : ServerNo) → server_eq s s ≡ true
      itself s = grind (arith, nat_tests)

      its-near : (k : ℕ) (x : Hands d k) → x.server.0 < n
      its-near k x = let t = h.tends in to-near n at_most d.world t.sound.sizes t.sound.locks t.within k x.server x.message x.is

      by : (waiting : List ℕ) → d.waiting ≡ waiting → (o : Option ServerNo) → first_busy d.world (servers_from 0 n) ≡ o → (stop : Option (Pick → Left))
          → AreUp n (onward (next_step (record { room = (chances 0).room; stop = stop }) waiting o) d (until_rest (servers_from 0 n) later j)).world
          → ((e : Course) → Goes b e → AreUp n (until_rest (servers_from 0 n) later j e).world → Goes b (until_rest (servers_from 0 n) later j e))
          → Goes b (onward (next_step (record { room = (chances 0).room; stop = stop }) waiting o) d (until_rest (servers_from 0 n) later j))
      by (k ∷ ks) e o f None up again = let x = hands d k ks h.tends e in let m = some_of (d.world.memory x.server) (was-up x.server (its-near k x)) in again _ (handed-goes b d h k ks (chances 0).room e x m.0 m.1) up
      by (k ∷ ks) e o f (Some made) up again = let x = hands d k ks h.tends e in let m = some_of (d.world.memory x.server) (was-up x.server (its-near k x)) in
          absurd (no-stop x.server (its-near k x) (go (StopDelivery k (chances 0).room made) d) (ap (λ (z : World). z.memory x.server) (ap (λ o. handed k (chances 0).room (Some made) o d.world) x.is ∙ ap (λ o. at_memory x.server k (chances 0).room (Some made) x.message o d.world) m.1)
          ∙ ap (λ (b : Bool). if b then None else d.world.memory x.server) (itself x.server)) up)
      by [] e (Some s) f None up again = again _ (work-goes b d h s (chances 0).room f) up
      by [] e (Some s) f (Some made) up again = absurd (no-stop s (let near = busy-within d.world n 0 s f in omega (arith, near)) (go (StopWork s (chances 0).room made) d) (down made) up)
        where
          down : (made : Pick → Left) → (go (StopWork s (chances 0).room made) d).world.memory s ≡ None
          down made = let has = busy-has n at_most start (stable (d.world.found s)) (d.world.memory s) (busy-is d.world n 0 s f) in
              ap (λ (z : World). z.memory s) (works-as n at_most start (record { room = (chances 0).room; stop = None }) d h.tends.sound s f has.memory has.up has.entry has.goes (Some made)) ∙ ap (λ (b : Bool). if b then None else d.world.memory s) (itself s)
      by [] e None f stop up again = h

  -- ---- the asking

  -- a step that only sends
  sends-tends : (d : Course) (step : Step) (new : List Sent) → It d → IsStep step d.world → (after step d.world).memory ≡ d.world.memory → (after step d.world).clients ≡ d.world.clients → (after step d.world).sent ≡ d.world.sent ++ new
      → are_ours new ≡ true → still_waiting step d.waiting ≡ d.waiting → It (go step d)
  sends-tends d step new h i memory clients sent ours waits = record {
    sound = go-sound n at_most start d step h.sound i;
    known = next-reached files epochs d.world step i h.known;
    within = within-step n at_most d.world h.sound.sizes h.sound.locks h.within step i;
    kept = λ s m e. h.kept s m (sym (ap (λ f. f s) memory) ∙ e);
    idle = λ c. ap (λ f. (f c).outstanding) clients ∙ h.idle c;
    ours = subst (λ xs. waiting_ours xs (go step d).waiting ≡ true) (sym sent) (subst (λ ks. waiting_ours (d.world.sent ++ new) ks ≡ true) (sym (waiting-is n at_most start d step new sent))
        (ours-both (d.world.sent ++ new) (still_waiting step d.waiting) (numbered (length d.world.sent) new)
        (subst (λ ks. waiting_ours (d.world.sent ++ new) ks ≡ true) (sym waits) (ours-more d.world.sent new d.waiting h.sound.below h.ours)) (ours-new d.world.sent new ours)));
  }

  pub again-tends : (d : Course) (c : ClientNo) → It d → It (go (Again c) d)
  again-tends d c h = sends-tends d (Again c) [] h tt refl refl (ap (λ o. d.world.sent ++ sent_now (sent_again o)) (h.idle c)) refl refl

  ours-join : (a b : List Sent) → are_ours a ≡ true → are_ours b ≡ true → are_ours (a ++ b) ≡ true
  ours-join [] b h k = k
  ours-join (x ∷ a) b h k = let again = ours-join a b in grind (arith, h, k)

  inquires-ours : (x : StableState) (t : WorkerTable) → are_ours (worker_again x t) ≡ true
  inquires-ours x [] = refl
  inquires-ours x (v ∷ vs) = let again = inquires-ours x vs in grind arith

  commits-ours : (T : Tid) (Ws : List WorkId) → are_ours (commits_of T Ws) ≡ true
  commits-ours T [] = refl
  commits-ours T (W ∷ Ws) = commits-ours T Ws

  told-ours : (x : Transaction) (s : Stage) → is_thanked s ≡ true → are_ours (told_again x s) ≡ true
  told-ours x (Committed c) h = ours-join (commits_of x.tid (besides c.works c.done)) _ (commits-ours x.tid (besides c.works c.done)) (subst (λ (b : Bool). are_ours (if b then [] else committed_to x ∷ []) ≡ true) (sym (first c.thanked _ h)) refl)
    where
      first : (a b : Bool) → (a && b) ≡ true → a ≡ true
      first a b e = grind (arith, e)
  told-ours x Open h = refl
  told-ours x (Voting b) h = refl
  told-ours x (Aborted cause) h = absurd (true≢false (sym h))

  again-ours : (xs : List Transaction) → are_all is_thanked xs ≡ true → are_ours (coordinator_again xs) ≡ true
  again-ours [] h = refl
  again-ours (x ∷ xs) h = ours-join (told_again x x.stage) (coordinator_again xs) (told-ours x x.stage (grind (arith, h))) (again-ours xs (grind (arith, h)))

  nudge-now : (d : Course) (s : ServerNo) (m : Memory) → d.world.memory s ≡ Some m → after (Nudge s) d.world ≡ nudge s (Some m) d.world
  nudge-now d s m up = ap (λ o. nudge s o d.world) up

  nudge-tends : (d : Course) (s : ServerNo) (m : Memory) → d.world.memory s ≡ Some m → It d → It (go (Nudge s) d)
  nudge-tends d s m up h = sends-tends d (Nudge s) (server_again m (stable (d.world.found s))) h tt (ap (λ (z : World). z.memory) (nudge-now d s m up)) (ap (λ (z : World). z.clients) (nudge-now d s m up)) (ap (λ (z : World). z.sent) (nudge-now d s m up))
      (let k = h.kept s m up in ours-join (worker_again (stable (d.world.found s)) m.worker) (coordinator_again m.coordinator.transactions) (inquires-ours (stable (d.world.found s)) m.worker) (again-ours m.coordinator.transactions k.transactions)) refl

  -- of the works and transactions of one server
  pub record WaysAt (d : Course) (s : ServerNo) : Type 0 where
    pub ready : (W : WorkId) → W.server ≡ s → is_ready (stored d.world W) ≡ true → Asked d W
    pub needed : (T : Tid) (W : WorkId) → T.server ≡ s → Needed d.world T W → Stays d T W

  has-left : (x : Sent) (a b : List Sent) → Has x a → Has x (a ++ b)
  has-left x [] b h = absurd h
  has-left x (y ∷ a) b (inl e) = inl e
  has-left x (y ∷ a) b (inr k) = inr (has-left x a b k)

  inquired : (x : StableState) (t : WorkerTable) (W : WorkId) (v : Work) → work_at W t ≡ Some v → is_going (x.works W) ≡ false → Has (Server v.tid.server, messages.Inquire v.tid W) (worker_again x t)
  inquired x [] W v e g = absurd (cc e)
  inquired x (u ∷ us) W v e g = by (work_tells u.name W) e (is_going (x.works u.name)) refl (inquired x us W v)
    where
      some : Some u ≡ Some v → u ≡ v
      some q = cc

      by : ((work_eq u.name W ≡ true) × (u.name ≡ W)) ⊎ ((work_eq u.name W ≡ false) × (u.name ≢ W)) → (if work_eq u.name W then Some u else work_at W us) ≡ Some v → (b : Bool) → is_going (x.works u.name) ≡ b
          → (work_at W us ≡ Some v → is_going (x.works W) ≡ false → Has (Server v.tid.server, messages.Inquire v.tid W) (worker_again x us))
          → Has (Server v.tid.server, messages.Inquire v.tid W) (if b then worker_again x us else (Server u.tid.server, messages.Inquire u.tid u.name) ∷ worker_again x us)
      by (inl q) e true f again = absurd (true≢false (sym f ∙ ap (λ (V : WorkId). is_going (x.works V)) q.1 ∙ g))
      by (inl q) e false f again = inl (ap (λ (V : WorkId). (Server u.tid.server, messages.Inquire u.tid V)) q.1 ∙ ap (λ (z : Work). (Server z.tid.server, messages.Inquire z.tid W)) (some (sym (ap (λ (b : Bool). if b then Some u else work_at W us) q.0) ∙ e)))
      by (inr q) e true f again = again (sym (ap (λ (b : Bool). if b then Some u else work_at W us) q.0) ∙ e) g
      by (inr q) e false f again = inr (again (sym (ap (λ (b : Bool). if b then Some u else work_at W us) q.0) ∙ e) g)

  commits-has : (T : Tid) (W : WorkId) (Vs Ws : List WorkId) → (is_work W Vs) ≡ true → is_work W Ws ≡ false → Has (Server W.server, messages.Commit T W) (commits_of T (besides Vs Ws))
  commits-has T W [] Ws h k = absurd (true≢false (sym h))
  commits-has T W (V ∷ Vs) Ws h k = by (work_tells V W) h (is_work V Ws) refl (commits-has T W Vs Ws)
    where
      by : ((work_eq V W ≡ true) × (V ≡ W)) ⊎ ((work_eq V W ≡ false) × (V ≢ W)) → is_work W (V ∷ Vs) ≡ true → (b : Bool) → is_work V Ws ≡ b → (is_work W Vs ≡ true → is_work W Ws ≡ false → Has (Server W.server, messages.Commit T W) (commits_of T (besides Vs Ws)))
          → Has (Server W.server, messages.Commit T W) (commits_of T (if not b then V ∷ besides Vs Ws else besides Vs Ws))
      by (inl q) h true f again = absurd (true≢false (sym f ∙ ap (λ (U : WorkId). is_work U Ws) q.1 ∙ k))
      by (inl q) h false f again = inl (ap (λ (U : WorkId). (Server U.server, messages.Commit T U)) q.1)
      by (inr q) h true f again = again (let z = q.0 in grind (arith, h, z)) k
      by (inr q) h false f again = inr (again (let z = q.0 in grind (arith, h, z)) k)

  told-has : (T : Tid) (W : WorkId) (xs : List Transaction) → needs xs T W ≡ true → Has (Server W.server, messages.Commit T W) (coordinator_again xs)
  told-has T W [] h = absurd (true≢false (sym h))
  told-has T W (x ∷ xs) h = by (tid_tells x.tid T) (told-has T W xs)
    where
      on : (s : Stage) → needs_in W s ≡ true → Has (Server W.server, messages.Commit x.tid W) (told_again x s)
      on (Committed c) k = has-left _ (commits_of x.tid (besides c.works c.done)) _ (commits-has x.tid W c.works c.done (grind (arith, k)) (grind (arith, k)))
      on Open k = absurd (true≢false (sym k))
      on (Voting b) k = absurd (true≢false (sym k))
      on (Aborted cause) k = absurd (true≢false (sym k))

      by : ((tid_eq x.tid T ≡ true) × (x.tid ≡ T)) ⊎ ((tid_eq x.tid T ≡ false) × (x.tid ≢ T)) → (needs xs T W ≡ true → Has (Server W.server, messages.Commit T W) (coordinator_again xs)) → Has (Server W.server, messages.Commit T W) (told_again x x.stage ++ coordinator_again xs)
      by (inl q) again = has-left _ (told_again x x.stage) _ (subst (λ (U : Tid). Has (Server W.server, messages.Commit U W) (told_again x x.stage)) q.1 (on x.stage (sym (ap (λ (b : Bool). needs_of W (if b then Some x else transaction_at T xs)) q.0) ∙ h)))
      by (inr q) again = has-new _ (told_again x x.stage) _ (again (sym (ap (λ (b : Bool). needs_of W (if b then Some x else transaction_at T xs)) q.0) ∙ h))

  -- a server asks for its own
  nudge-asks : (d : Course) (s : ServerNo) (m : Memory) → d.world.memory s ≡ Some m → It d → WaysAt (go (Nudge s) d) s
  nudge-asks d s m up h = record {
    ready = λ W e r. ready W e (sym (ap (λ (z : World). is_ready (stored z W)) (nudge-now d s m up)) ∙ r);
    needed = λ T W e need. told (now-waits n at_most start d (Nudge s) _ _ sent (has-new _ (worker_again (stable (d.world.found s)) m.worker) _ (told-has T W m.coordinator.transactions
        (subst (λ (z : Memory). needs z.coordinator.transactions T W ≡ true) (some-memory need.memory m (sym need.up ∙ ap (λ (z : World). z.memory T.server) (nudge-now d s m up) ∙ ap d.world.memory e ∙ up)) need.is))));
  }
    where
      sent : (after (Nudge s) d.world).sent ≡ d.world.sent ++ server_again m (stable (d.world.found s))
      sent = ap (λ (z : World). z.sent) (nudge-now d s m up)

      ready-some : (o : Option Prepared) → is_ready o ≡ true → (is_some o ≡ true) × (is_going o ≡ false)
      ready-some None r = absurd (true≢false (sym r))
      ready-some (Some p) r = (refl, grind (arith, r))

      ready : (W : WorkId) → W.server ≡ s → is_ready (stored d.world W) ≡ true → Asked (go (Nudge s) d) W
      ready W e r = let f = up-fact n at_most start files epochs d h s m up in let here = ready-some ((stable (d.world.found s)).works W) (subst (λ (q : ServerNo). is_ready ((stable (d.world.found q)).works W) ≡ true) e r) in
          let v = some_of (work_at W m.worker) (f.table.live W here.0) in
          inquires v.0.tid (now-waits n at_most start d (Nudge s) _ _ sent (has-left _ (worker_again (stable (d.world.found s)) m.worker) _ (inquired (stable (d.world.found s)) m.worker W v.0 v.1 here.1)))

  -- and another one's are kept
  nudge-keeps : (d : Course) (s q : ServerNo) (m : Memory) → d.world.memory s ≡ Some m → It d → WaysAt d q → WaysAt (go (Nudge s) d) q
  nudge-keeps d s q m up h ways = record {
    ready = λ W e r. ready W (ways.ready W e (sym (ap (λ (z : World). is_ready (stored z W)) (nudge-now d s m up)) ∙ r));
    needed = λ T W e need. needed T W (ways.needed T W e (record { memory = need.memory; up = sym (ap (λ (z : World). z.memory T.server) (nudge-now d s m up)) ∙ need.up; is = need.is }));
  }
    where
      on : (x : Sent) → Waits d.world.sent d.waiting x → Waits (go (Nudge s) d).world.sent (go (Nudge s) d).waiting x
      on x a = still-waits n at_most start d (Nudge s) x h.sound a a.waits

      ready : (W : WorkId) → Asked d W → Asked (go (Nudge s) d) W
      ready W (inquires T a) = inquires T (on _ a)
      ready W (commits T a) = commits T (on _ a)
      ready W (drops T a) = drops T (on _ a)

      needed : (T : Tid) (W : WorkId) → Stays d T W → Stays (go (Nudge s) d) T W
      needed T W (lives l) = lives (ap (λ (z : World). is_some (stored z W)) (nudge-now d s m up) ∙ l)
      needed T W (told a) = told (on _ a)
      needed T W (carried a) = carried (on _ a)

  nudges : (servers : List ServerNo) (d : Course) → It d → ((s : ServerNo) → list_any (server_eq s) servers ≡ true → is_some (d.world.memory s) ≡ true) → ((s : ServerNo) → WaysAt d s ⊎ (list_any (server_eq s) servers ≡ true)) → Goes true (go_on (map (λ (s : ServerNo). Nudge s) servers) d)
  nudges [] d h up ways = record { tends = h; ways = λ e. record { ready = λ W r. let at = mine W.server (ways W.server) in at.ready W refl r; needed = λ T W need. let at = mine T.server (ways T.server) in at.needed T W refl need } }
    where
      mine : (s : ServerNo) → WaysAt d s ⊎ (false ≡ true) → WaysAt d s
      mine s (inl a) = a
      mine s (inr e) = absurd (true≢false (sym e))
  nudges (q ∷ servers) d h up ways = let m = some_of (d.world.memory q) (up q (grind (arith, nat_tests))) in nudges servers (go (Nudge q) d) (nudge-tends d q m.0 m.1 h) (λ s among. ap (λ (z : World). is_some (z.memory s)) (nudge-now d q m.0 m.1) ∙ up s (grind (arith, among))) (λ s. by s m.0 m.1 (server_tells s q) (ways s))
    where
      by : (s : ServerNo) (m : Memory) → d.world.memory q ≡ Some m → ((server_eq s q ≡ true) × (s ≡ q)) ⊎ ((server_eq s q ≡ false) × (s ≢ q)) → WaysAt d s ⊎ (list_any (server_eq s) (q ∷ servers) ≡ true) → WaysAt (go (Nudge q) d) s ⊎ (list_any (server_eq s) servers ≡ true)
      by s m e (inl t) w = inl (subst (λ (z : ServerNo). WaysAt (go (Nudge q) d) z) (sym t.1) (nudge-asks d q m e h))
      by s m e (inr t) (inl a) = inl (nudge-keeps d q s m e h a)
      by s m e (inr t) (inr a) = inr (let z = t.0 in grind (arith, a, z))

  -- what was asked for after all have asked
  pub ask-goes : (clients : List ClientNo) (servers : List ServerNo) (d : Course) → It d → ((s : ServerNo) → list_any (server_eq s) servers ≡ true → is_some (d.world.memory s) ≡ true) → ((s : ServerNo) → list_any (server_eq s) servers ≡ false → (e : Course) → e.world.memory ≡ d.world.memory → e.world.found ≡ d.world.found → WaysAt e s)
      → Goes true (go_on (ask_again clients servers) d)
  ask-goes [] servers d h up beyond = nudges servers d h up (λ s. by s (list_any (server_eq s) servers) refl)
    where
      by : (s : ServerNo) (b : Bool) → list_any (server_eq s) servers ≡ b → WaysAt d s ⊎ (b ≡ true)
      by s true e = inr refl
      by s false e = inl (beyond s e d refl refl)
  ask-goes (c ∷ clients) servers d h up beyond = ask-goes clients servers (go (Again c) d) (again-tends d c h) up (λ s out e memory found. beyond s out e memory found)
