-- Each step of the whole system keeps what is said of clients' requests.
use Rattle.jn_system_settling.proofs.Common.{◌≡◌, ◌≢◌, ◌⊎◌, inl, inr, ◌≤◌, ℕ, zero, suc, ◌+◌, Bool, true, false, List, [], ◌∷◌, ◌++◌, Option, Some, None, true≢false, append-nil, refl, sym, ◌∙◌, ap, subst, arith, ◌&&◌, if◌then◌else◌, nat_lt, slice_get, nat_tests, ServerNo, ClientNo, Tid, Party, Server, Command, client_eq, client_tells, Message, AllFiles, OpenWork, Outstanding, Taken, Transaction, StableState, FlagState, Pick, stable, made_all, RowOutcome, Sent, WorkerTable, work_of, timed_out, transaction_at, coordinator_row, close_clients_row, seen_in_flags, seen_in_flag, ClientTable, if_server, if_idle, if_transaction, if_no_transaction, if_open, if_not_open, with_operation, names_of, sends_command, Commanded, Refuses, Sends, command_row, take_row, again_row, sent_again, is_begin, over, with_epoch, World, Memory, at_client, Room, storage_of, server_row, server_again, of_coordinator, of_timeout, server_timeout, restored, Step, Tell, after, works, commanded, sent_now, UpFact, ServerFact, Opening, openings, openings-more, HasOpening, Course, go, request_of, operation_of, Text, ClientRow, by_command, by_ignoring, by_answering, by_telling, ServerRow, of_message, of_work, of_closing, Quiet, event_begins, none_changes, is_refused, client_repeats, server_repeats, is_lost, StepCase, client_row, row_done, row_stopped, gone_late, gone_down, come_up, found_anew, dismissed, quietly, step-case, memory-now, memory-gone, found-now, found-then, one-client, row-either, row-of-step, Left, left_of, worker-fits, step-fits, found-name}
use Rattle.jn_base.specs.declared.op.Command.TheVariants as commands
use Rattle.jn_msgs.specs.declared.message.Message.TheVariants as messages
use Rattle.jn_report.specs.declared.line.Refusal.TheVariants as refusals
use Rattle.jn_rows.specs.Client.{work_at}
use Rattle.jn_system_settling.proofs.Settling.ClientFits.{sent_with}
use Rattle.jn_system_settling.proofs.Settling.SizeSteps.{orderly}
use Rattle.jn_system_settling.proofs.Settling.WorldSizes.{up-sizes}
use Rattle.jn_system_settling.proofs.AtRest.Talk.{IsStill, FitsCommand, take-still}
use Rattle.jn_system_settling.proofs.AtRest.Ways.{Has}
use Rattle.jn_system_settling.proofs.AtRest.Owners.{owner_in, owned-found}
use Rattle.jn_system_settling.proofs.AtRest.Votes.{are_plain, Votings, StoredOf, votings-grown, prefix-of, all-changes-of, restored-votings, worker-plain, step-plain, again-plain, coordinator-votes, close-votes, EndOf, is_begin_message}
use Rattle.jn_system_settling.proofs.AtRest.Requests.{Clients, Past, MessageFits, SeenFits, GoesOn, waits_on, waits_not, waits_anew, past-on, has-in, message-on, seen-on, stays, plain-fits, RowRequests, worker-requests, other-requests, begin-requests}
use Rattle.jn_system_settling.proofs.AtRest.Answered.{Talks, Talking, go-talking, owner-has}

-- the outstanding request is the last one drawn
pub record Draws (t : ClientTable) : Type 0 where
  pub some : 1 ≤ t.next
  pub latest : (o : Outstanding) → t.outstanding ≡ Some o → (1 ≤ o.request.0) × (o.request.0 + 1 ≡ t.next)

pub record ServerRequests (f : Clients) (sent : List Sent) (o : Option Memory) (found : Pick → StableState) : Type 0 where
  pub votings : (m : Memory) → o ≡ Some m → Votings (Past false f) m.coordinator.transactions
  pub seen : (m : Memory) → o ≡ Some m → (c : ClientNo) → SeenFits f sent c (m.coordinator.seen c)
  pub flags : (k : Pick) → StoredOf (Past false f) (found k).flags

pub record Requests (r : World) : Type 0 where
  pub draws : (c : ClientNo) → Draws (r.clients c)
  pub sent : (x : Sent) → Has x r.sent → MessageFits r.clients (openings r.sent) x.1
  pub servers : (s : ServerNo) → ServerRequests r.clients r.sent (r.memory s) (r.found s)

-- ---- what holds goes on holding

module _ (r : World) (h : Requests r) (g : Clients) (on : (c : ClientNo) → GoesOn (r.clients c) (g c)) where
  server-on : (more : List Sent) (s : ServerNo) → ServerRequests g (r.sent ++ more) (r.memory s) (r.found s)
  server-on more s = record {
    votings = λ m e. votings-grown (Past false r.clients) (Past false g) (λ c q. past-on false r.clients g c q (on c)) m.coordinator.transactions ((h.servers s).votings m e);
    seen = λ m e c. seen-on r.clients g on r.sent more c (m.coordinator.seen c) ((h.servers s).seen m e c);
    flags = λ k T f e. past-on false r.clients g f.client f.request (on f.client) ((h.servers s).flags k T f e);
  }

  messages-on : (more : List Sent) → ((x : Sent) → Has x more → MessageFits g (openings (r.sent ++ more)) x.1) → (x : Sent) → Has x (r.sent ++ more) → MessageFits g (openings (r.sent ++ more)) x.1
  messages-on more fits x k = by (has-in x r.sent more k)
    where
      by : Has x r.sent ⊎ Has x more → MessageFits g (openings (r.sent ++ more)) x.1
      by (inl old) = subst (λ os. MessageFits g os x.1) (sym (openings-more r.sent more)) (message-on r.clients g on (openings r.sent) (openings more) x.1 (h.sent x old))
      by (inr new) = fits x new

  -- no server changes
  clients-step : (event : ℕ) (more sent : List Sent) (lines : List Text) → sent ≡ r.sent ++ more → ((c : ClientNo) → Draws (g c)) → ((x : Sent) → Has x more → MessageFits g (openings (r.sent ++ more)) x.1)
      → Requests (record r { event = event; clients = g; sent = sent; lines = lines })
  clients-step event more sent lines e draws fits = subst (λ sent. Requests (record r { event = event; clients = g; sent = sent; lines = lines })) (sym e) (record { draws = draws; sent = messages-on more fits; servers = server-on more })

pub has-at : (xs : List Sent) (k : ℕ) (x : Sent) → slice_get xs k ≡ Some x → Has x xs
has-at [] k x e = absurd (cc e)
has-at (y ∷ ys) zero x e = inl (some e)
  where
    some : Some y ≡ Some x → y ≡ x
    some q = cc
has-at (y ∷ ys) (suc k) x e = inr (has-at ys k x e)

pub take-next : (t : ClientTable) (m : Message) → (take_row t m).0.next ≡ t.next
take-next t (messages.Begun c request answer) = grind arith
take-next t (messages.Opened c request T answer) = grind arith
take-next t (messages.Answer c request answer) = grind arith
take-next t (messages.Outcome c T outcome) = grind arith
take-next t m = refl

pub take-plain : (t : ClientTable) (m : Message) → are_plain (sent_with (take_row t m).1) ≡ true
take-plain t (messages.Begun c request answer) = grind arith
take-plain t (messages.Opened c request T answer) = grind arith
take-plain t (messages.Answer c request answer) = grind arith
take-plain t (messages.Outcome c T outcome) = grind arith
take-plain t m = refl

pub still-on : (t now : ClientTable) → now.next ≡ t.next → IsStill t now → GoesOn t now
still-on t now e (inl q) = waits_on (omega (arith, e)) (ap (λ (z : ClientTable). z.outstanding) q)
still-on t now e (inr q) = waits_not (omega (arith, e)) q

still-draws : (t now : ClientTable) → now.next ≡ t.next → IsStill t now → Draws t → Draws now
still-draws t now e (inl q) h = subst (λ (z : ClientTable). Draws z) (sym q) h
still-draws t now e (inr q) h = record { some = let s = h.some in omega (arith, s, e); latest = λ o is. absurd (none o (sym q ∙ is)) }
  where
    none : (o : Outstanding) → None ≡ Some o → ⊥
    none o z = cc

-- a command's message and table
pub record Commands (u t : ClientTable) (to : Party) (m : Message) : Type 0 where
  pub waits : Outstanding
  pub outstanding : t.outstanding ≡ Some waits
  pub place : waits.to ≡ to
  pub message : waits.message ≡ m
  pub request : waits.request.0 ≡ u.next
  pub next : t.next ≡ u.next + 1

abbrev pub CommandsAs : ClientTable → Commanded → Type 0
CommandsAs u (Refuses refusal) = Unit {0}
CommandsAs u (Sends t to m) = Commands u t to m

server-as : (u : ClientTable) (s : ServerNo) (row : Commanded) → CommandsAs u row → CommandsAs u (if_server u s row)
server-as u s row h = by (nat_lt s.0 u.servers)
  where
    by : (b : Bool) → CommandsAs u (if b then row else Refuses refusals.NoSuchServer)
    by true = h
    by false = tt

idle-as : (u : ClientTable) (o : Option Outstanding) (row : Commanded) → CommandsAs u row → CommandsAs u (if_idle o row)
idle-as u None row h = h
idle-as u (Some o) row h = tt

transaction-as : (u : ClientTable) (o : Option Tid) (row : Tid → Commanded) → ((T : Tid) → CommandsAs u (row T)) → CommandsAs u (if_transaction o row)
transaction-as u None row h = tt
transaction-as u (Some T) row h = h T

no-transaction-as : (u : ClientTable) (o : Option Tid) (row : Commanded) → CommandsAs u row → CommandsAs u (if_no_transaction o row)
no-transaction-as u None row h = h
no-transaction-as u (Some T) row h = tt

open-as : (u : ClientTable) (o : Option OpenWork) (row : OpenWork → Commanded) → ((w : OpenWork) → CommandsAs u (row w)) → CommandsAs u (if_open o row)
open-as u None row h = tt
open-as u (Some w) row h = h w

not-open-as : (u : ClientTable) (o : Option OpenWork) (row : Commanded) → CommandsAs u row → CommandsAs u (if_not_open o row)
not-open-as u None row h = h
not-open-as u (Some w) row h = tt

sends-as : (u : ClientTable) (works : List OpenWork) (j : ℕ) (command : Command) (to : Party) (m : Message) → CommandsAs u (sends_command (record u { works = works }) j command to m)
sends-as u works j command to m = record { waits = record { event = j; request = request_of u.next; command = command; to = to; message = m }; outstanding = refl; place = refl; message = refl; request = refl; next = refl }

pub commands-as : (u : ClientTable) (j : ℕ) (command : Command) → CommandsAs u (command_row u j command)
commands-as u j (commands.Begin s) = server-as u s _ (idle-as u u.outstanding _ (no-transaction-as u u.transaction _ (sends-as u u.works j (commands.Begin s) (Server s) (messages.Begin u.client (request_of u.next)))))
commands-as u j (commands.Open s) = server-as u s _ (idle-as u u.outstanding _ (transaction-as u u.transaction _ (λ T. not-open-as u (work_at s u.works) _ (sends-as u u.works j (commands.Open s) (Server s) (messages.Open u.client (request_of u.next) T)))))
commands-as u j (commands.Do s op) = server-as u s _ (idle-as u u.outstanding _ (transaction-as u u.transaction _ (λ T. open-as u (work_at s u.works) _ (λ w. sends-as u (with_operation s u.works) j (commands.Do s op) (Server s) (messages.Op u.client (request_of u.next) w.work (operation_of (w.last + 1)) op)))))
commands-as u j commands.End = idle-as u u.outstanding _ (transaction-as u u.transaction _ (λ T. sends-as u u.works j commands.End (Server T.server) (messages.End u.client (request_of u.next) T (names_of u.works))))
commands-as u j commands.Abort = transaction-as u u.transaction _ (λ T. sends-as u u.works j commands.Abort (Server T.server) (messages.Abort u.client (request_of u.next) T (names_of u.works)))

-- ---- what a client waits for is said truly

module _ (n : ℕ) (at_most : n ≤ 8) (start : World) (files : AllFiles) (epochs : ServerNo → ℕ) where
  -- its current transaction is its own
  pub current-owned : (d : Course) (c : ClientNo) (T : Tid) → Talking n at_most start files epochs d → (d.world.clients c).transaction ≡ Some T → owner_in (openings d.world.sent) c T ≡ true
  current-owned d c T h e = let facts = h.known.facts in let began = (facts.clients c).current T e in has-owner (openings d.world.sent) (record { client = c; request = began.request; tid = T }) began.has
    where
      has-owner : (os : List Opening) (a : Opening) → HasOpening a os → owner_in os a.client a.tid ≡ true
      has-owner [] a k = absurd k
      has-owner (b ∷ os) a (inl q) = subst (λ (z : Opening). owner_in (z ∷ os) a.client a.tid ≡ true) (sym q) (grind (arith, nat_tests))
      has-owner (b ∷ os) a (inr k) = let again = has-owner os a k in grind arith

  waits-truly : (d : Course) (c : ClientNo) (o : Outstanding) → Talking n at_most start files epochs d → Draws (d.world.clients c) → (d.world.clients c).outstanding ≡ Some o → MessageFits d.world.clients (openings d.world.sent) o.message
  waits-truly d c o h draws e = by o.command refl (talk.fits o e)
    where
      talk : Talks c (d.world.clients c)
      talk = h.talks c

      past : (b : Bool) → is_begin o.command ≡ b → Past b d.world.clients (d.world.clients c).client o.request
      past b is = subst (λ z. Past b d.world.clients z o.request) (sym talk.name) (let l = (draws.latest o e).1 in omega (arith, l), λ p k at. subst (λ (z : Outstanding). is_begin z.command ≡ b) (some p (sym e ∙ k)) is)
        where
          some : (p : Outstanding) → Some o ≡ Some p → o ≡ p
          some p q = cc

      by : (command : Command) → o.command ≡ command → FitsCommand (d.world.clients c) o command → MessageFits d.world.clients (openings d.world.sent) o.message
      by (commands.Begin s) is fits = subst (λ z. MessageFits d.world.clients (openings d.world.sent) z) (sym fits.1) (past true (ap is_begin is))
      by (commands.Open s) is fits = subst (λ z. MessageFits d.world.clients (openings d.world.sent) z) (sym fits.3) tt
      by (commands.Do s op) is fits = subst (λ z. MessageFits d.world.clients (openings d.world.sent) z) (sym fits.2) tt
      by commands.End is fits = subst (λ z. MessageFits d.world.clients (openings d.world.sent) z) (sym fits.3)
          (past false (ap is_begin is), subst (λ z. owner_in (openings d.world.sent) z fits.0 ≡ true) (sym talk.name) (current-owned d c fits.0 h fits.1))
      by commands.Abort is fits = subst (λ z. MessageFits d.world.clients (openings d.world.sent) z) (sym fits.3) tt

  -- ---- a server's row

  module _ (d : Course) (h : Talking n at_most start files epochs d) (r : Requests d.world) where
    abbrev w : World
    w = d.world

    row-requests : (s : ServerNo) (m : Memory) (room : Room) (message : Message) → w.memory s ≡ Some m → MessageFits w.clients (openings w.sent) message → RowRequests w.clients w.sent (server_row m (stable (w.found s)) room message)
    row-requests s m room message up fits = row-either (RowRequests w.clients w.sent) m (stable (w.found s)) room message
        (let sizes = up-sizes n at_most w h.sound.sizes h.sound.locks s m up in let few = worker-fits (storage_of m (stable (w.found s)) room) m.tickets m.worker message (orderly fact.table) sizes.works in
        worker-requests w.clients w.sent m mine seen _ few.flags (worker-plain m.worker (storage_of m (stable (w.found s)) room) m.tickets message))
        (coordinated message fits (is_begin_message message) refl)
      where
        fact : UpFact s m (w.found s)
        fact = subst (λ o. ServerFact s o (w.found s)) up (h.sound.locks s)

        mine : Votings (Past false w.clients) m.coordinator.transactions
        mine = (r.servers s).votings m up

        seen : (c : ClientNo) → SeenFits w.clients w.sent c (m.coordinator.seen c)
        seen = (r.servers s).seen m up

        -- the End of a transaction is its client's
        end-of : (message : Message) → MessageFits w.clients (openings w.sent) message → EndOf (Past false w.clients) m.coordinator message
        end-of (messages.End c q T Ws) fits = λ y found. subst (λ z. Past false w.clients z q) (same y found) fits.0
          where
            same : (y : Transaction) → transaction_at T m.coordinator.transactions ≡ Some y → c ≡ y.client
            same y found = let a = owner-has n at_most start files epochs (openings w.sent) c T fits.1 in
                let own = owner-has n at_most start files epochs (openings w.sent) y.client y.tid (owned-found (owner_in (openings w.sent)) T m.coordinator.transactions y ((h.within.owned s).table m up) found) in
                let facts = h.known.facts in let one = facts.unique a.0 own.0 a.1 own.1 (a.3 ∙ sym (found-name T m.coordinator.transactions y found) ∙ sym own.3) in sym a.2 ∙ ap (λ (z : Opening). z.client) one ∙ own.2
        end-of (messages.Begin c q) fits = tt
        end-of (messages.Open c q T) fits = tt
        end-of (messages.Op c q W number op) fits = tt
        end-of (messages.Abort c q T Ws) fits = tt
        end-of (messages.Thanks c T) fits = tt
        end-of (messages.Begun c q a) fits = tt
        end-of (messages.Opened c q T W) fits = tt
        end-of (messages.Answer c q answer) fits = tt
        end-of (messages.Outcome c T outcome) fits = tt
        end-of (messages.Prepare T c W) fits = tt
        end-of (messages.Commit T W) fits = tt
        end-of (messages.Drop T W) fits = tt
        end-of (messages.Vote T W vote) fits = tt
        end-of (messages.Done T W) fits = tt
        end-of (messages.Inquire T W) fits = tt

        coordinated : (message : Message) → MessageFits w.clients (openings w.sent) message → (b : Bool) → is_begin_message message ≡ b → RowRequests w.clients w.sent (of_coordinator m (coordinator_row m.coordinator room.free.records m.tickets message))
        coordinated message fits false e = other-requests w.clients w.sent m mine seen _ (coordinator-votes (Past false w.clients) m.coordinator room.free.records m.tickets message mine (end-of message fits) e)
        coordinated message fits true e = begun message e fits
          where
            begun : (message : Message) → is_begin_message message ≡ true → MessageFits w.clients (openings w.sent) message → RowRequests w.clients w.sent (of_coordinator m (coordinator_row m.coordinator room.free.records m.tickets message))
            begun (messages.Begin c q) e fits = begin-requests w.clients w.sent m mine seen c q fits m.tickets
            begun _ e fits = absurd (true≢false (sym e))

    row-of : (s : ServerNo) (m : Memory) (stop : Option (Pick → Left)) (step : Step) (k : Option ℕ) (row : RowOutcome Memory) → w.memory s ≡ Some m → ServerRow w s m stop step k row → RowRequests w.clients w.sent row
    row-of s m _ _ _ _ up (of_message stop k room message is) = row-requests s m room message up (r.sent (Server s, message) (has-at w.sent k (Server s, message) is))
    row-of s m _ _ _ _ up (of_work stop room row is) = row-of-step (RowRequests w.clients w.sent) m (stable (w.found s)) room row is
        (λ z k. let sizes = up-sizes n at_most w h.sound.sizes h.sound.locks s m up in let few = step-fits (storage_of m (stable (w.found s)) room) m.tickets m.worker z sizes.works k in
        worker-requests w.clients w.sent m ((r.servers s).votings m up) ((r.servers s).seen m up) z few.flags (step-plain m.worker (storage_of m (stable (w.found s)) room) m.tickets z k))
    row-of s m _ _ _ _ up of_closing = let mine = (r.servers s).votings m up in
        other-requests w.clients w.sent m mine ((r.servers s).seen m up) (close_clients_row m.coordinator m.tickets) (close-votes (Past false w.clients) m.coordinator m.tickets mine)

    -- ---- one server changes

    abbrev Fits : List Sent → Memory → Type 0
    Fits sent m = Votings (Past false w.clients) m.coordinator.transactions × ((c : ClientNo) → SeenFits w.clients sent c (m.coordinator.seen c))

    abbrev StateFits : StableState → Type 0
    StateFits x = StoredOf (Past false w.clients) x.flags

    server-fits : (sent : List Sent) (o : Option Memory) (found : Pick → StableState) → ((m : Memory) → o ≡ Some m → Fits sent m) → ((k : Pick) → StateFits (found k)) → ServerRequests w.clients sent o found
    server-fits sent o found table flags = record { votings = λ m e. (table m e).0; seen = λ m e. (table m e).1; flags = flags }

    old : (q : ServerNo) (m : Memory) → w.memory q ≡ Some m → Fits w.sent m
    old q m e = ((r.servers q).votings m e, (r.servers q).seen m e)

    old-states : (q : ServerNo) (k : Pick) → StateFits (w.found q k)
    old-states q = (r.servers q).flags

    -- what flags have of a client's requests
    flags-seen : (x : StableState) (Ts : List Tid) (c : ClientNo) → StoredOf (Past false w.clients) x.flags → SeenFits w.clients w.sent c (seen_in_flags x Ts c)
    flags-seen x [] c stored = inl refl
    flags-seen x (T ∷ Ts) c stored = by (x.flags T) refl (flags-seen x Ts c stored)
      where
        by : (o : Option FlagState) → x.flags T ≡ o → SeenFits w.clients w.sent c (seen_in_flags x Ts c) → SeenFits w.clients w.sent c (seen_in_flag c o (seen_in_flags x Ts c))
        by None e again = again
        by (Some f) e again = on-flag (client_tells f.client c) (nat_lt (seen_in_flags x Ts c) f.request.0)
          where
            on-flag : ((client_eq f.client c ≡ true) × (f.client ≡ c)) ⊎ ((client_eq f.client c ≡ false) × (f.client ≢ c)) → (b : Bool) → SeenFits w.clients w.sent c (if client_eq f.client c && b then f.request.0 else seen_in_flags x Ts c)
            on-flag (inl t) true = subst (λ (z : Bool). SeenFits w.clients w.sent c (if z && true then f.request.0 else seen_in_flags x Ts c)) (sym t.0) (inr (inl (subst (λ z. Past false w.clients z f.request) t.1 (stored T f e))))
            on-flag (inl t) false = subst (λ (z : Bool). SeenFits w.clients w.sent c (if z && false then f.request.0 else seen_in_flags x Ts c)) (sym t.0) again
            on-flag (inr t) b = subst (λ (z : Bool). SeenFits w.clients w.sent c (if z && b then f.request.0 else seen_in_flags x Ts c)) (sym t.0) again

    -- ---- clients

    on : (c : ClientNo) → GoesOn (w.clients c) (w.clients c)
    on c = stays w.clients c

    client-step : (c : ClientNo) (t : ClientTable) (more sent : List Sent) (lines : List Text) → sent ≡ w.sent ++ more → GoesOn (w.clients c) t → Draws t → ((x : Sent) → Has x more → MessageFits (at_client w.clients c t) (openings (w.sent ++ more)) x.1)
        → Requests (record w { clients = at_client w.clients c t; sent = sent; lines = lines })
    client-step c t more sent lines e goes draws fits = clients-step w r (at_client w.clients c t) (one-client (λ e t. GoesOn (w.clients e) t) w.clients c t goes (λ d other. on d)) w.event more sent lines e (one-client (λ e t. Draws t) w.clients c t draws (λ d other. r.draws d)) fits

    -- what a client takes
    abbrev Takes : ClientNo → ClientTable × Taken → Type 0
    Takes c x = GoesOn (w.clients c) x.0 × (Draws x.0 × (are_plain (sent_with x.1) ≡ true))

    taken-requests : (c : ClientNo) (message : Message) (x : ClientTable × Taken) (sent : List Sent) (lines : List Text) → take_row (w.clients c) message ≡ x → sent ≡ w.sent ++ sent_with x.1
        → Requests (record w { clients = at_client w.clients c x.0; sent = sent; lines = lines })
    taken-requests c message x sent lines e is = client-step c x.0 (sent_with x.1) sent lines is takes.0 takes.1.0 (plain-fits (at_client w.clients c x.0) (openings (w.sent ++ sent_with x.1)) (sent_with x.1) takes.1.1)
      where
        takes : Takes c x
        takes = let next = take-next (w.clients c) message in let still = take-still (w.clients c) message in
            subst (Takes c) e (still-on (w.clients c) (take_row (w.clients c) message).0 next still, (still-draws (w.clients c) (take_row (w.clients c) message).0 next still (r.draws c), take-plain (w.clients c) message))

    commanded-requests : (c : ClientNo) (command : Command) (t : ClientTable) (to : Party) (m : Message) → command_row (w.clients c) w.event command ≡ Sends t to m → Requests (commanded c (Sends t to m) w)
    commanded-requests c command t to m e = client-step c t ((to, m) ∷ []) (w.sent ++ (to, m) ∷ []) w.lines refl (waits_anew (let l = shape.next in omega (arith, l)) shape.waits shape.outstanding shape.request) draws fits
      where
        shape : Commands (w.clients c) t to m
        shape = subst (CommandsAs (w.clients c)) e (commands-as (w.clients c) w.event command)

        some : (o : Outstanding) → Some shape.waits ≡ Some o → shape.waits ≡ o
        some o q = cc

        draws : Draws t
        draws = record {
          some = let l = shape.next in omega (arith, l);
          latest = λ o is. let one = ap (λ (z : Outstanding). z.request.0) (some o (sym shape.outstanding ∙ is)) in let two = shape.request in let next = shape.next in let least = (r.draws c).some in (omega (arith, one, two, least), omega (arith, one, two, next));
        }

        world : after (Tell c command) w ≡ commanded c (Sends t to m) w
        world = ap (λ z. commanded c z w) e

        itself : client_eq c c ≡ true
        itself = grind (arith, nat_tests)

        table : (after (Tell c command) w).clients c ≡ t
        table = ap (λ (z : World). z.clients c) world ∙ ap (λ (b : Bool). if b then t else w.clients c) itself

        truly : MessageFits (at_client w.clients c t) (openings (w.sent ++ (to, m) ∷ [])) shape.waits.message
        truly = subst (λ (z : World). MessageFits z.clients (openings z.sent) shape.waits.message) world
            (waits-truly (go (Tell c command) d) c shape.waits (go-talking n at_most start files epochs d (Tell c command) h tt) (subst (λ (z : ClientTable). Draws z) (sym table) draws) (ap (λ (z : ClientTable). z.outstanding) table ∙ shape.outstanding))

        fits : (x : Sent) → Has x ((to, m) ∷ []) → MessageFits (at_client w.clients c t) (openings (w.sent ++ (to, m) ∷ [])) x.1
        fits x (inl q) = subst (λ (z : Sent). MessageFits (at_client w.clients c t) (openings (w.sent ++ (to, m) ∷ [])) z.1) q (subst (λ z. MessageFits (at_client w.clients c t) (openings (w.sent ++ (to, m) ∷ [])) z) shape.message truly)
        fits x (inr q) = absurd q

    row-of-client : (c : ClientNo) (step : Step) (t : ClientTable) (sent : List Sent) (lines : List Text) → ClientRow w c step t sent lines → Requests (record w { clients = at_client w.clients c t; sent = sent; lines = lines })
    row-of-client c _ _ _ _ (by_command command t to m e) = commanded-requests c command t to m e
    row-of-client c _ _ _ _ (by_ignoring k room stop message t is e) = taken-requests c message _ _ _ e (sym (append-nil w.sent))
    row-of-client c _ _ _ _ (by_answering k room stop message t to answer is e) = taken-requests c message _ _ _ e refl
    row-of-client c _ _ _ _ (by_telling k room stop message t line answer is e) = taken-requests c message _ _ _ e refl

    -- ---- steps that leave every table and state

    again-fits : (c : ClientNo) (os : List Opening) (o : Option Outstanding) → (w.clients c).outstanding ≡ o → (x : Sent) → Has x (sent_now (sent_again o)) → MessageFits w.clients (openings w.sent ++ os) x.1
    again-fits c os None e x q = absurd q
    again-fits c os (Some o) e x (inl q) = subst (λ (z : Sent). MessageFits w.clients (openings w.sent ++ os) z.1) q (message-on w.clients w.clients on (openings w.sent) os o.message (waits-truly d c o h (r.draws c) e))
    again-fits c os (Some o) e x (inr q) = absurd q

    quiet-requests : (step : Step) (event : ℕ) (sent : List Sent) (lines : List Text) → Quiet w step event sent lines → Requests (record w { event = event; sent = sent; lines = lines })
    quiet-requests _ _ _ _ (client_repeats c) = let more = sent_now (again_row (w.clients c)) in clients-step w r w.clients on w.event more _ w.lines refl r.draws
        (λ x k. subst (λ os. MessageFits w.clients os x.1) (sym (openings-more w.sent more)) (again-fits c (openings more) (w.clients c).outstanding refl x k))
    quiet-requests _ _ _ _ (server_repeats s m e) = let more = server_again m (stable (w.found s)) in clients-step w r w.clients on w.event more _ w.lines refl r.draws
        (plain-fits w.clients (openings (w.sent ++ more)) more (again-plain (stable (w.found s)) m.worker m.coordinator.transactions))
    quiet-requests _ _ _ _ event_begins = record { draws = r.draws; sent = r.sent; servers = r.servers }
    quiet-requests _ _ _ _ (none_changes step) = record { draws = r.draws; sent = r.sent; servers = r.servers }
    quiet-requests _ _ _ _ (is_refused c command refusal e) = record { draws = r.draws; sent = r.sent; servers = r.servers }
    quiet-requests _ _ _ _ (is_lost k room stop s message is e) = record { draws = r.draws; sent = r.sent; servers = r.servers }

    -- ---- every step

    by-case : (step : Step) (now : World) → StepCase w step now → Requests now
    by-case step _ (client_row _ c t sent lines row) = row-of-client c step t sent lines row
    by-case step _ (row_done _ s m k row e is) = let rr = row-of s m None step k row e is in let still = server-on w r w.clients on row.messages in record {
      draws = r.draws;
      sent = messages-on w r w.clients on row.messages (rr.fits (openings (w.sent ++ row.messages)));
      servers = λ q. server-fits _ _ _ (memory-now (Fits (w.sent ++ row.messages)) w.memory (λ q m e. ((still q).votings m e, (still q).seen m e)) s row.table (rr.table, rr.seen) q)
          (found-now StateFits w old-states s (λ c. made_all row.changes (w.found s c)) (λ c. all-changes-of (Past false w.clients) row.changes (w.found s c) rr.flags (old-states s c)) q);
    }
    by-case step _ (row_stopped _ s m k row made e is) = let rr = row-of s m (Some made) step k row e is in record {
      draws = r.draws;
      sent = r.sent;
      servers = λ q. server-fits _ _ _ (memory-gone (Fits w.sent) w.memory old s q)
          (found-now StateFits w old-states s (λ c. left_of (made c) row.changes (w.found s c)) (λ c. prefix-of (Past false w.clients) row.changes (made c).whole (w.found s c) rr.flags (old-states s c)) q);
    }
    by-case _ _ (gone_late s m T e) = record { draws = r.draws; sent = r.sent; servers = λ q. server-fits _ _ _ (memory-now (Fits w.sent) w.memory old s (server_timeout m T) (kept (timed_out m.worker (work_of T m.worker))) q) (old-states q) }
      where
        kept : (o : Option WorkerTable) → Fits w.sent (of_timeout m o)
        kept None = old s m e
        kept (Some t) = old s m e
    by-case _ _ (gone_down s m e) = record { draws = r.draws; sent = r.sent; servers = λ q. server-fits _ _ _ (memory-gone (Fits w.sent) w.memory old s q) (old-states q) }
    by-case _ _ (come_up s pick Ws Ts e) = record {
      draws = r.draws;
      sent = r.sent;
      servers = λ q. server-fits _ _ _ (memory-now (Fits w.sent) w.memory old s (restored s (w.found s pick) Ws Ts) (restored-votings (Past false w.clients) (w.found s pick) Ts, λ c. flags-seen (w.found s pick) Ts c (old-states s pick)) q)
          (found-now StateFits w old-states s (λ c. with_epoch (w.found s pick)) (λ c. old-states s pick) q);
    }
    by-case step _ (found_anew _ s found lines e is) = record { draws = r.draws; sent = r.sent; servers = λ q. server-fits _ _ _ (old q) (found-then StateFits w old-states s (λ x h. h) step found lines is q) }
    by-case _ _ dismissed = clients-step w r (λ c. over (w.clients c)) (λ c. still-on (w.clients c) (over (w.clients c)) refl (inr refl)) w.event [] w.sent w.lines (sym (append-nil w.sent))
        (λ c. still-draws (w.clients c) (over (w.clients c)) refl (inr refl) (r.draws c)) (λ x q. absurd q)
    by-case step _ (quietly _ event sent lines is) = quiet-requests step event sent lines is

    pub requests-go : (step : Step) → Requests (after step w)
    requests-go step = by-case step (after step w) (step-case w step)
