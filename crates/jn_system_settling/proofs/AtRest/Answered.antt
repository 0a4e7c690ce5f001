-- What a settle with all servers up answers.
use Rattle.jn_system_settling.proofs.Common.{Text, ◌≡◌, inl, inr, ◌≤◌, ◌<◌, ℕ, zero, suc, ◌+◌, Bool, true, false, List, [], ◌∷◌, ◌++◌, Option, Some, None, true≢false, refl, sym, ◌∙◌, ap, subst, arith, if◌then◌else◌, slice_get, nat_eq, nat_lt, ◌&&◌, ◌||◌, length, map, list_any, nat_tests, ServerNo, ClientNo, Tid, WorkId, Client, Command, client_eq, server_eq, tid_eq, client_tells, server_tells, Message, WorkEntry, Taken, Ignored, Outstanding, Pick, stable, Sent, sends_row, work_of, new_work, open_row, ClientTable, command_row, take_row, is_current, is_tid, opens, opened_row, if_waits, outcome_row, is_end_or_abort, over, after_command, World, Memory, servers_from, Room, server_row, Step, Again, Deliver, Nudge, StopDelivery, StopWork, IsStep, after, handed, works, UpFact, ServerFact, of-found, Course, go, go_on, Chance, clients_from, first_busy, handing, working, next_step, onward, until_rest, ask_again, AllFiles, Requested, tid_tells, Outcome, Transaction, Stage, Open, Voting, Committed, Aborted, transaction_at, abort_stage, abort_request, drops, besides, aborted_to, Opening, openings, HasOpening, Reached, next-reached, request_eq, one-client, ClientRow, by_command, by_ignoring, by_answering, by_telling, StepCase, client_row, dismissed, step-case, Left, found-name}
use Rattle.jn_base.specs.declared.op.Command.TheVariants as commands
use Rattle.jn_msgs.specs.declared.message.Message.TheVariants as messages
use Rattle.jn_rows.specs.Worker.{name_from}
use Rattle.jn_system.specs.WholeSystem.Steps.{Work}
use Rattle.jn_system_settling.proofs.Settling.Courses.{Sound, go-sound}
use Rattle.jn_msgs.specs.declared.message.Outcome.TheVariants as outcomes
use Rattle.jn_system_settling.proofs.AtRest.Owners.{owner_in, owned-found}
use Rattle.jn_system_settling.proofs.AtRest.Within.{Within, within-step}
use Rattle.jn_system_settling.proofs.AtRest.Talk.{IsStill, IsFitting, still-fits, command-fits, take-still}
use Rattle.jn_system_settling.proofs.AtRest.Ways.{Has, Reply, IsEnd, none-still, handed-still, quiet-clients}

-- an outcome after which its client waits for nothing
abbrev pub ends_outcome : Outcome → Bool
ends_outcome (outcomes.Waiting s u by) = false
ends_outcome outcome = true

-- ---- what holds of the clients

pub record Talks (c : ClientNo) (t : ClientTable) : Type 0 where
  pub name : t.client ≡ c
  pub fits : IsFitting t

same-client : (t : ClientTable) (j : ℕ) (c : Command) → (after_command (command_row t j c) t).client ≡ t.client
same-client t j (commands.Begin s) = grind arith
same-client t j (commands.Open s) = grind arith
same-client t j (commands.Do s op) = grind arith
same-client t j commands.End = grind arith
same-client t j commands.Abort = grind arith

taken-client : (t : ClientTable) (m : Message) → (take_row t m).0.client ≡ t.client
taken-client t (messages.Begun c request answer) = grind arith
taken-client t (messages.Opened c request T answer) = grind arith
taken-client t (messages.Answer c request answer) = grind arith
taken-client t (messages.Outcome c T outcome) = grind arith
taken-client t m = refl

module _ (w : World) (h : (c : ClientNo) → Talks c (w.clients c)) where
  taken-talks : (c : ClientNo) (message : Message) (row : ClientTable × Taken) → take_row (w.clients c) message ≡ row → Talks c row.0
  taken-talks c message row e = subst (λ (z : ClientTable × Taken). Talks c z.0) e
      (record { name = taken-client (w.clients c) message ∙ (h c).name; fits = still-fits (w.clients c) (take_row (w.clients c) message).0 (take-still (w.clients c) message) (h c).fits })

  row-talks : (c : ClientNo) (step : Step) (t : ClientTable) (sent : List Sent) (lines : List Text) → ClientRow w c step t sent lines → Talks c t
  row-talks c _ _ _ _ (by_command command t to message e) = subst (λ row. Talks c (after_command row (w.clients c))) e
      (record { name = same-client (w.clients c) w.event command ∙ (h c).name; fits = command-fits (w.clients c) w.event command (h c).fits })
  row-talks c _ _ _ _ (by_ignoring k room stop message t is e) = taken-talks c message _ e
  row-talks c _ _ _ _ (by_answering k room stop message t to answer is e) = taken-talks c message _ e
  row-talks c _ _ _ _ (by_telling k room stop message t line answer is e) = taken-talks c message _ e

  by-case : (step : Step) (now : World) → StepCase w step now → (c : ClientNo) → Talks c (now.clients c)
  by-case step _ (client_row _ c t sent lines row) = one-client Talks w.clients c t (row-talks c step t sent lines row) (λ d other. h d)
  by-case _ _ dismissed = λ c. record { name = (h c).name; fits = still-fits (w.clients c) (over (w.clients c)) (inr refl) (h c).fits }
  by-case _ _ is = h

module _ (n : ℕ) (at_most : n ≤ 8) (start : World) (files : AllFiles) (epochs : ServerNo → ℕ) where
  pub record Talking (d : Course) : Type 0 where
    pub sound : Sound n start d
    pub talks : (c : ClientNo) → Talks c (d.world.clients c)
    pub known : Reached files epochs d.world
    pub within : Within n d.world

  pub go-talking : (d : Course) (step : Step) → Talking d → IsStep step d.world → Talking (go step d)
  go-talking d step h i = record {
    sound = go-sound n at_most start d step h.sound i;
    talks = by-case d.world h.talks step (after step d.world) (step-case d.world step);
    known = next-reached files epochs d.world step i h.known;
    within = within-step n at_most d.world h.sound.sizes h.sound.locks h.within step i;
  }

  -- ---- an Open is answered

  opened-ends : (t : ClientTable) (o : Outstanding) (T : Tid) (s : ServerNo) (a : Option WorkId) → t.outstanding ≡ Some o → t.transaction ≡ Some T → o.command ≡ commands.Open s → opens a (commands.Open s) ≡ true
      → IsEnd t (messages.Opened t.client o.request T a)
  opened-ends t o T s a e current is fits = ap (λ z. (if_waits t z test row).0.outstanding) e ∙ ap (λ (b : Bool). (if b then row o.event else (t, Ignored)).0.outstanding) passes ∙ over a
    where
      test : Outstanding → Bool
      test p = client_eq t.client t.client && (request_eq p.request o.request && (is_current t T && opens a p.command))

      row : ℕ → ClientTable × Taken
      row j = opened_row t j a

      its : is_current t T ≡ true
      its = ap (λ z. is_tid T z) current ∙ grind (arith, nat_tests)

      passes : test o ≡ true
      passes = let same = ap (opens a) is ∙ fits in let now = its in grind (arith, nat_tests, same, now)

      over : (a : Option WorkId) → (opened_row t o.event a).0.outstanding ≡ None
      over (Some W) = refl
      over None = refl

  pub open-reply : (d : Course) (c : ClientNo) (t : ClientTable) (o : Outstanding) (s : ServerNo) (T : Tid) (m : Memory) (room : Room) → Talking d → Talks c t → t.outstanding ≡ Some o → o.command ≡ commands.Open s → t.transaction ≡ Some T
      → d.world.memory s ≡ Some m → Reply c t (server_row m (stable (d.world.found s)) room (messages.Open t.client o.request T)).messages
  open-reply d c t o s T m room h talk e is current up = by (work_of T m.worker) refl
    where
      fact : UpFact s m (d.world.found s)
      fact = subst (λ z. ServerFact s z (d.world.found s)) up (h.sound.locks s)

      to : (a : Option WorkId) → opens a (commands.Open s) ≡ true → Reply c t ((Client t.client, messages.Opened t.client o.request T a) ∷ [])
      to a fits = record { message = messages.Opened t.client o.request T a; has = inl (ap (λ z. (Client z, messages.Opened t.client o.request T a)) talk.name); ends_it = opened-ends t o T s a e current is fits }

      here : (W : WorkId) → W.server ≡ s → server_eq W.server s ≡ true
      here W q = let tells = server_tells W.server s in grind (arith, q)

      by : (w : Option WorkEntry) → work_of T m.worker ≡ w → Reply c t (open_row m.worker m.tickets t.client o.request T w).messages
      by (Some w) q = to (Some w.name) (here w.name (fact.table.place w.name w (of-found T m.worker w fact.table.rising q) ∙ fact.server))
      by None q = new (nat_lt (length m.worker) 64)
        where
          new : (b : Bool) → Reply c t (if b then sends_row (m.worker ++ new_work (name_from m.tickets) T ∷ []) (record m.tickets { next = m.tickets.next + 1 }) ((Client t.client, messages.Opened t.client o.request T (Some (name_from m.tickets))) ∷ [])
              else sends_row m.worker m.tickets ((Client t.client, messages.Opened t.client o.request T None) ∷ [])).messages
          new true = to (Some (name_from m.tickets)) (here (name_from m.tickets) fact.server)
          new false = to None refl

  -- ---- an Abort is answered

  has-last : (a : List Sent) (x : Sent) → Has x (a ++ x ∷ [])
  has-last [] x = inl refl
  has-last (y ∷ a) x = inr (has-last a x)

  pub owner-has : (os : List Opening) (c : ClientNo) (T : Tid) → owner_in os c T ≡ true → (a : Opening) × HasOpening a os × (a.client ≡ c) × (a.tid ≡ T)
  owner-has [] c T h = absurd (true≢false (sym h))
  owner-has (a ∷ os) c T h = by (client_eq a.client c) refl (tid_eq a.tid T) refl h (owner-has os c T)
    where
      the-client : client_eq a.client c ≡ true → a.client ≡ c
      the-client e = let t = client_tells a.client c in grind (arith, e)

      the-tid : tid_eq a.tid T ≡ true → a.tid ≡ T
      the-tid e = let t = tid_tells a.tid T in grind (arith, e)

      by : (p : Bool) → client_eq a.client c ≡ p → (q : Bool) → tid_eq a.tid T ≡ q → ((p && q) || owner_in os c T) ≡ true → (owner_in os c T ≡ true → (b : Opening) × HasOpening b os × (b.client ≡ c) × (b.tid ≡ T))
          → (b : Opening) × HasOpening b (a ∷ os) × (b.client ≡ c) × (b.tid ≡ T)
      by true e true f k again = (a, inl refl, the-client e, the-tid f)
      by true e false f k again = let x = again k in (x.0, inr x.1, x.2, x.3)
      by false e q f k again = let x = again k in (x.0, inr x.1, x.2, x.3)

  -- the client of a transaction is the one whose it is
  pub its-client : (d : Course) (c : ClientNo) (T : Tid) (m : Memory) (y : Transaction) → Talking d → (d.world.clients c).transaction ≡ Some T → d.world.memory T.server ≡ Some m → transaction_at T m.coordinator.transactions ≡ Some y → y.client ≡ c
  its-client d c T m y h current up found = let own = owner-has (openings d.world.sent) y.client y.tid (owned-found (owner_in (openings d.world.sent)) T m.coordinator.transactions y ((h.within.owned T.server).table m up) found) in
      let facts = h.known.facts in let began = (facts.clients c).current T current in
      let same = facts.unique own.0 (record { client = c; request = began.request; tid = T }) own.1 began.has (own.3 ∙ found-name T m.coordinator.transactions y found) in sym own.2 ∙ ap (λ (a : Opening). a.client) same

  pub outcome-ends : (t : ClientTable) (o : Outstanding) (T : Tid) → t.outstanding ≡ Some o → t.transaction ≡ Some T → is_end_or_abort o.command ≡ true → (outcome : Outcome) → ends_outcome outcome ≡ true → IsEnd t (messages.Outcome t.client T outcome)
  outcome-ends t o T e current waits outcome k = ap (λ (b : Bool). (if◌then◌else◌ {A = ClientTable × Taken} b (outcome_row t T outcome) (t, Ignored)).0.outstanding) itself ∙ by outcome k
    where
      itself : client_eq t.client t.client ≡ true
      itself = grind (arith, nat_tests)

      its : is_current t T ≡ true
      its = ap (λ z. is_tid T z) current ∙ grind (arith, nat_tests)

      over : (line : ℕ → Taken) → (if_waits t t.outstanding (λ p. is_end_or_abort p.command) (λ j. (record t { transaction = None; works = []; outstanding = None }, line j))).0.outstanding ≡ None
      over line = ap (λ z. (if_waits t z (λ p. is_end_or_abort p.command) (λ j. (record t { transaction = None; works = []; outstanding = None }, line j))).0.outstanding) e
          ∙ ap (λ (b : Bool). (if◌then◌else◌ {A = ClientTable × Taken} b (record t { transaction = None; works = []; outstanding = None }, line o.event) (t, Ignored)).0.outstanding) waits

      decided : (other : ClientTable × Taken) (line : ℕ → Taken) → (if is_current t T then if_waits t t.outstanding (λ p. is_end_or_abort p.command) (λ j. (record t { transaction = None; works = []; outstanding = None }, line j)) else other).0.outstanding ≡ None
      decided other line = ap (λ (b : Bool). (if b then if_waits t t.outstanding (λ p. is_end_or_abort p.command) (λ j. (record t { transaction = None; works = []; outstanding = None }, line j)) else other).0.outstanding) its ∙ over line

      by : (outcome : Outcome) → ends_outcome outcome ≡ true → (outcome_row t T outcome).0.outstanding ≡ None
      by outcomes.Committed k = decided _ _
      by (outcomes.Aborted cause) k = decided _ _
      by (outcomes.NotKnown s epoch) k = decided _ _
      by (outcomes.Waiting s u held) k = absurd (true≢false (sym k))

  pub abort-reply : (d : Course) (c : ClientNo) (o : Outstanding) (T : Tid) (works : List WorkId) (m : Memory) (room : Room) → Talking d → (d.world.clients c).outstanding ≡ Some o → is_end_or_abort o.command ≡ true → (d.world.clients c).transaction ≡ Some T
      → d.world.memory T.server ≡ Some m → Reply c (d.world.clients c) (server_row m (stable (d.world.found T.server)) room (messages.Abort (d.world.clients c).client o.request T works)).messages
  abort-reply d c o T works m room h e waits current up = by (transaction_at T m.coordinator.transactions) refl
    where
      t : ClientTable
      t = d.world.clients c

      name : (d.world.clients c).client ≡ c
      name = (h.talks c).name

      outcome : (x : Outcome) → ends_outcome x ≡ true → (sent : List Sent) → Has (Client (d.world.clients c).client, messages.Outcome (d.world.clients c).client T x) sent → Reply c (d.world.clients c) sent
      outcome x k sent has = record {
        message = messages.Outcome (d.world.clients c).client T x;
        has = subst (λ z. Has (Client z, messages.Outcome (d.world.clients c).client T x) sent) name has;
        ends_it = outcome-ends (d.world.clients c) o T e current waits x k;
      }

      told : (y : Transaction) (x : Outcome) → transaction_at T m.coordinator.transactions ≡ Some y → ends_outcome x ≡ true → (sent : List Sent) → Has (Client y.client, messages.Outcome y.client y.tid x) sent → Reply c (d.world.clients c) sent
      told y x is k sent has = outcome x k sent (subst (λ z. Has (Client z, messages.Outcome z T x) sent) (its-client d c T m y h current up is ∙ sym name)
          (subst (λ z. Has (Client y.client, messages.Outcome y.client z x) sent) (found-name T m.coordinator.transactions y is) has))

      stage : (y : Transaction) → transaction_at T m.coordinator.transactions ≡ Some y → (s : Stage) → Reply c (d.world.clients c) (abort_stage m.coordinator m.tickets y works s).messages
      stage y is Open = told y (outcomes.Aborted Requested) is refl _ (has-last (drops y.tid works) (aborted_to y Requested))
      stage y is (Voting b) = told y (outcomes.Aborted Requested) is refl _ (has-last (drops y.tid (b.works ++ besides works b.works)) (aborted_to y Requested))
      stage y is (Committed x) = told y outcomes.Committed is refl _ (inl refl)
      stage y is (Aborted cause) = told y (outcomes.Aborted cause) is refl _ (inl refl)

      by : (y : Option Transaction) → transaction_at T m.coordinator.transactions ≡ y → Reply c (d.world.clients c) (abort_request m.coordinator m.tickets (d.world.clients c).client T works y).messages
      by (Some y) is = stage y is y.stage
      by None is = outcome (outcomes.NotKnown m.tickets.server m.tickets.epoch) refl _ (inl refl)

  -- ---- along a settle

  -- whatever each step keeps
  module _ (Good : Course → Type 0) (good : (d : Course) (step : Step) → Good d → IsStep step d.world → Good (go step d)) where
    pub rest-keeps : (j : ℕ) (chances : ℕ → Chance) (d : Course) → Good d → Good (until_rest (servers_from 0 n) chances j d)
    rest-keeps zero chances d h = h
    rest-keeps (suc j) chances d h = by d.waiting (first_busy d.world (servers_from 0 n)) (chances 0).stop (rest-keeps j (λ i. chances (i + 1)))
      where
        by : (waiting : List ℕ) (o : Option ServerNo) (stop : Option (Pick → Left)) → ((e : Course) → Good e → Good (until_rest (servers_from 0 n) (λ i. chances (i + 1)) j e))
            → Good (onward (next_step (record { room = (chances 0).room; stop = stop }) waiting o) d (until_rest (servers_from 0 n) (λ i. chances (i + 1)) j))
        by (k ∷ ks) o None again = again _ (good d (Deliver k (chances 0).room) h tt)
        by (k ∷ ks) o (Some made) again = again _ (good d (StopDelivery k (chances 0).room made) h tt)
        by [] (Some s) None again = again _ (good d (Work s (chances 0).room) h tt)
        by [] (Some s) (Some made) again = again _ (good d (StopWork s (chances 0).room made) h tt)
        by [] None stop again = h

    nudges-keep : (servers : List ServerNo) (d : Course) → Good d → Good (go_on (map (λ (s : ServerNo). Nudge s) servers) d)
    nudges-keep [] d h = h
    nudges-keep (s ∷ servers) d h = nudges-keep servers (go (Nudge s) d) (good d (Nudge s) h tt)

    pub ask-keeps : (clients : List ClientNo) (servers : List ServerNo) (d : Course) → Good d → Good (go_on (ask_again clients servers) d)
    ask-keeps [] servers d h = nudges-keep servers d h
    ask-keeps (c ∷ clients) servers d h = ask-keeps clients servers (go (Again c) d) (good d (Again c) h tt)

  -- what a client waits for stays or is answered, as long as no client is told anything
  module _ (c : ClientNo) (t : ClientTable) where
    abbrev On : Course → Type 0
    On d = IsStill t (d.world.clients c)

    then-still : (a b : ClientTable) → IsStill t a → IsStill a b → IsStill t b
    then-still a b (inl e) h = subst (λ (z : ClientTable). IsStill z b) e h
    then-still a b (inr e) h = inr (none-still c a b h e)

    handing-on : (d : Course) (k : ℕ) (room : Room) (stop : Option (Pick → Left)) → On d → On (go (handing k room stop) d)
    handing-on d k room stop h = by (slice_get d.world.sent k) refl stop
      where
        by : (o : Option Sent) → slice_get d.world.sent k ≡ o → (stop : Option (Pick → Left)) → On (go (handing k room stop) d)
        by None e None = subst (λ o. IsStill t ((handed k room None o d.world).clients c)) (sym e) h
        by None e (Some made) = subst (λ o. IsStill t ((handed k room (Some made) o d.world).clients c)) (sym e) h
        by (Some y) e None = subst (λ o. IsStill t ((handed k room None o d.world).clients c)) (sym e) (then-still (d.world.clients c) _ h (handed-still c k room None y d.world))
        by (Some y) e (Some made) = subst (λ o. IsStill t ((handed k room (Some made) o d.world).clients c)) (sym e) (then-still (d.world.clients c) _ h (handed-still c k room (Some made) y d.world))

    working-on : (d : Course) (s : ServerNo) (room : Room) (stop : Option (Pick → Left)) → On d → On (go (working s room stop) d)
    working-on d s room None h = subst (λ f. IsStill t (f c)) (sym (quiet-clients (Work s room) d.world refl)) h
    working-on d s room (Some made) h = subst (λ f. IsStill t (f c)) (sym (quiet-clients (StopWork s room made) d.world refl)) h

    pub rest-on : (j : ℕ) (chances : ℕ → Chance) (d : Course) → On d → On (until_rest (servers_from 0 n) chances j d)
    rest-on zero chances d h = h
    rest-on (suc j) chances d h = by d.waiting (first_busy d.world (servers_from 0 n)) (rest-on j (λ i. chances (i + 1)))
      where
        by : (waiting : List ℕ) (o : Option ServerNo) → ((e : Course) → On e → On (until_rest (servers_from 0 n) (λ i. chances (i + 1)) j e))
            → On (onward (next_step (chances 0) waiting o) d (until_rest (servers_from 0 n) (λ i. chances (i + 1)) j))
        by (k ∷ ks) o again = again _ (handing-on d k (chances 0).room (chances 0).stop h)
        by [] (Some s) again = again _ (working-on d s (chances 0).room (chances 0).stop h)
        by [] None again = h

    nudges-on : (servers : List ServerNo) (d : Course) → On d → On (go_on (map (λ (s : ServerNo). Nudge s) servers) d)
    nudges-on [] d h = h
    nudges-on (s ∷ servers) d h = nudges-on servers (go (Nudge s) d) (subst (λ f. IsStill t (f c)) (sym (quiet-clients (Nudge s) d.world refl)) h)

    pub ask-on : (clients : List ClientNo) (servers : List ServerNo) (d : Course) → On d → On (go_on (ask_again clients servers) d)
    ask-on [] servers d h = nudges-on servers d h
    ask-on (e ∷ clients) servers d h = ask-on clients servers (go (Again e) d) h

  pub among-clients : (m c : ℕ) (e : ClientNo) → c ≤ e.0 → e.0 < c + m → list_any (λ z. client_eq z e) (clients_from c m) ≡ true
  among-clients zero c e l k = absurd (omega (arith, l, k))
  among-clients (suc m) c e l k = by (nat_eq c e.0) refl (among-clients m (c + 1) e)
    where
      by : (b : Bool) → nat_eq c e.0 ≡ b → (c + 1 ≤ e.0 → e.0 < c + 1 + m → list_any (λ z. client_eq z e) (clients_from (c + 1) m) ≡ true) → list_any (λ z. client_eq z e) (clients_from c (suc m)) ≡ true
      by true q again = grind (arith, nat_tests, q)
      by false q again = let on = again (grind (arith, nat_tests, q, l)) (omega (arith, k)) in grind (arith, nat_tests, on)
