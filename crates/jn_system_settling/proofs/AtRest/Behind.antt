-- Behind a settle's askings no client gets an answer by which it would go on.
use Rattle.jn_system_settling.proofs.Common.{◌≡◌, ◌⊎◌, inl, inr, ◌≤◌, ℕ, Bool, true, false, List, [], ◌∷◌, ◌++◌, append-nil, length, map, Option, Some, None, true≢false, refl, sym, ◌∙◌, ap, subst, arith, slice_get, nat_eq, nat_tests, list_any, All, of_coordinator, close_clients_row, ServerNo, ClientNo, WorkId, Client, Server, Command, Message, Text, AllFiles, Work, Phase, Active, Broken, Stored, Taken, Pick, Left, stable, RowOutcome, Sent, Outstanding, ClientTable, take_row, again_row, sent_again, is_operation, op_row, op_phase, AskedOp, Here, asked_for, asked_here, work_at, World, Memory, servers_from, clients_from, Room, server_row, server_again, storage_of, opening, Step, Tell, Again, Deliver, Nudge, StopDelivery, IsStep, after, handing, working, sent_now, Course, go, go_on, ask_again, next_step, first_busy, UpFact, ServerFact, LockFacts, IsAddressed, holds-of, active_in, working_of, working_in, ClientRow, by_command, by_ignoring, by_answering, by_telling, StepCase, client_row, row_done, quietly, ServerRow, of_message, of_work, of_closing, Quiet, client_repeats, server_repeats, step-case, row-of-step, Grows, grows, names_of, ComesNext, AreNext, asked, IsTrue, IsSilent, AreSilent, step-stays}
use Rattle.jn_base.specs.declared.op.Command.TheVariants as commands
use Rattle.jn_msgs.specs.declared.message.Message.TheVariants as messages
use Rattle.jn_system_reports.proofs.Telling.Rows.{row-stays, close-stays, server-again}
use Rattle.jn_system_settling.specs.AtRest.Calls.{gives, HasAnswered, ComesOrIsTold, comes, told, AreNextOrTold, IsOnItsWay, asks, answered, is_over, AreOnTheirWay}
use Rattle.jn_system_settling.proofs.Settling.Burdens.{get-more}
use Rattle.jn_system_settling.proofs.AtRest.Talk.{FitsCommand}
use Rattle.jn_system_settling.proofs.AtRest.Ways.{Has, Waits, below-any, quiet-clients}
use Rattle.jn_system_settling.proofs.Settling.ClientFits.{sent_with}
use Rattle.jn_system_settling.proofs.AtRest.Taking.{is_thanks, are_thanks, take-thanks, thanks-has}
use Rattle.jn_system_settling.proofs.AtRest.Calm.{came-from, nudged}
use Rattle.jn_system_settling.proofs.AtRest.Begins.{Good, good-go}
use Rattle.jn_system_settling.proofs.AtRest.Standing.{machine}
use Rattle.jn_system_settling.proofs.AtRest.Untaken.{next-untaken, untaken-is}

-- no operation that its work would take, and no answer that gives
abbrev pub GivesNothing : (ServerNo → Option Memory) → Sent → Type 0
GivesNothing memory (to, messages.Op c q W number op) = active_in (memory W.server) W ≡ None
GivesNothing memory (to, messages.Answer c q answer) = gives answer ≡ false
GivesNothing memory sent = Unit {0}

silent-nothing : (memory : ServerNo → Option Memory) (x : Sent) → IsSilent x → GivesNothing memory x
silent-nothing memory (to, messages.Op c q W number op) h = absurd h
silent-nothing memory (to, messages.Answer c q answer) h = absurd h
silent-nothing memory (to, _) h = tt

silent-has : (memory : ServerNo → Option Memory) (sent : List Sent) → AreSilent sent → (x : Sent) → Has x sent → GivesNothing memory x
silent-has memory [] h x k = absurd k
silent-has memory (y ∷ sent) h x (inl e) = subst (λ (z : Sent). GivesNothing memory z) e (silent-nothing memory y h.0)
silent-has memory (y ∷ sent) h x (inr k) = silent-has memory sent h.1 x k

thanks-nothing : (memory : ServerNo → Option Memory) (x : Sent) → is_thanks x.1 ≡ true → GivesNothing memory x
thanks-nothing memory (to, messages.Op c q W number op) h = absurd (true≢false (sym h))
thanks-nothing memory (to, messages.Answer c q answer) h = absurd (true≢false (sym h))
thanks-nothing memory (to, _) h = tt

taken-nothing : (memory : ServerNo → Option Memory) (t : ClientTable) (message : Message) (now : ClientTable) (r : Taken) → take_row t message ≡ (now, r) → (x : Sent) → Has x (sent_with r)
    → GivesNothing memory x
taken-nothing memory t message now r is x k = thanks-nothing memory x (thanks-has (sent_with r) x (subst (λ (z : ClientTable × Taken). are_thanks (sent_with z.1) ≡ true) is (take-thanks t message)) k)

-- a work that takes none answers by a refusal
op-nothing : (memory : ServerNo → Option Memory) (h : Here) (q : AskedOp) (W : WorkId) (o : Option Work) → working_of o ≡ None → (x : Sent) → Has x (op_row h q W o).messages → GivesNothing memory x
op-nothing memory h q W None e x (inl p) = subst (λ (z : Sent). GivesNothing memory z) p refl
op-nothing memory h q W None e x (inr k) = absurd k
op-nothing memory h q W (Some v) e x k = by v.phase e k
  where
    by : (p : Phase) → working_in p ≡ None → Has x (op_phase h q v p).messages → GivesNothing memory x
    by (Active a) e k = absurd (cc e)
    by (Broken u T) e (inl p) = subst (λ (z : Sent). GivesNothing memory z) p refl
    by (Broken u T) e (inr k) = absurd k
    by (Stored p) e (inl r) = subst (λ (z : Sent). GivesNothing memory z) r refl
    by (Stored p) e (inr k) = absurd k

-- ---- what a step sends

-- the message that a step hands over, and the client that asks again in it
abbrev handed_in : Step → Option ℕ
handed_in (Deliver k room) = Some k
handed_in (StopDelivery k room made) = Some k
handed_in step = None

abbrev asking_in : Step → Option ClientNo
asking_in (Again c) = Some c
asking_in step = None

abbrev is_tell : Step → Bool
is_tell (Tell c command) = true
is_tell step = false

handing-hands : (k : ℕ) (room : Room) (stop : Option (Pick → Left)) → handed_in (handing k room stop) ≡ Some k
handing-hands k room None = refl
handing-hands k room (Some made) = refl

sent-now-is : (o : Option Sent) (x : Sent) → Has x (sent_now o) → o ≡ Some x
sent-now-is None x k = absurd k
sent-now-is (Some y) x (inl e) = ap (λ (z : Sent). Some z) e
sent-now-is (Some y) x (inr k) = absurd k

module _ (w : World) (locks : LockFacts w) (addressed : All IsAddressed w.sent) where
  -- what it hands over, and what a client asks again in it, gives nothing
  abbrev Hands : Step → Type 0
  Hands step = (k : ℕ) (x : Sent) → handed_in step ≡ Some k → slice_get w.sent k ≡ Some x → GivesNothing w.memory x

  abbrev Asks : Step → Type 0
  Asks step = (c : ClientNo) (x : Sent) → asking_in step ≡ Some c → again_row (w.clients c) ≡ Some x → GivesNothing w.memory x

  record Sends (now : World) : Type 0 where
    more : List Sent
    sent : now.sent ≡ w.sent ++ more
    nothing : (x : Sent) → Has x more → GivesNothing now.memory x

  row-nothing : (memory : ServerNo → Option Memory) (step : Step) (c : ClientNo) (t : ClientTable) (sent : List Sent) (lines : List Text) → ClientRow w c step t sent lines → is_tell step ≡ false
      → (more : List Sent) × ((sent ≡ w.sent ++ more) × ((x : Sent) → Has x more → GivesNothing memory x))
  row-nothing memory _ c _ _ _ (by_command command t to message is) tell = absurd (true≢false tell)
  row-nothing memory _ c _ _ _ (by_ignoring k room stop message t at is) tell = ([], (sym (append-nil w.sent), λ x k. absurd k))
  row-nothing memory _ c _ _ _ (by_answering k room stop message t to answer at is) tell = ((to, answer) ∷ [], (refl, taken-nothing memory (w.clients c) message t _ is))
  row-nothing memory _ c _ _ _ (by_telling k room stop message t line answer at is) tell = (sent_now answer, (refl, taken-nothing memory (w.clients c) message t _ is))

  up-fact : (s : ServerNo) (m : Memory) → w.memory s ≡ Some m → UpFact s m (w.found s)
  up-fact s m up = subst (λ o. ServerFact s o (w.found s)) up (locks s)

  message-nothing : (memory : ServerNo → Option Memory) (s : ServerNo) (m : Memory) (up : w.memory s ≡ Some m) (room : Room) (message : Message) → GivesNothing w.memory (Server s, message)
      → IsAddressed (Server s, message)
      → (x : Sent) → Has x (server_row m (stable (w.found s)) room message).messages → GivesNothing memory x
  message-nothing memory s m up room (messages.Op c q W number op) none place x k = op-nothing memory (asked_here m.worker (stable (w.found s)).files m.tickets) (asked_for c q number op) W
      (work_at W m.worker)
      (sym (ap (λ o. active_in o W) (ap w.memory place ∙ up)) ∙ none) x k
  message-nothing memory s m up room message none place x k = silent-has memory (server_row m (stable (w.found s)) room message).messages
      (row-stays m (stable (w.found s)) room message (up-fact s m up).table refl).silent x k

  server-nothing : (memory : ServerNo → Option Memory) (s : ServerNo) (m : Memory) → w.memory s ≡ Some m → (step : Step) (k : Option ℕ) (row : RowOutcome Memory) → ServerRow w s m None step k row
      → Hands step
      → (x : Sent) → Has x row.messages → GivesNothing memory x
  server-nothing memory s m up _ _ _ (of_message stop k room message is) hands = message-nothing memory s m up room message (hands k (Server s, message) (handing-hands k room stop) is)
      (holds-of IsAddressed w.sent k (Server s, message) addressed is)
  server-nothing memory s m up _ _ _ (of_work stop room row is) hands = row-of-step (λ z. (x : Sent) → Has x z.messages → GivesNothing memory x) m (stable (w.found s)) room row is
      (λ z i. silent-has memory z.messages (step-stays m.worker m.tickets (stable (w.found s)).works (up-fact s m up).table (storage_of m (stable (w.found s)) room) z i).silent)
  server-nothing memory s m up _ _ _ of_closing hands = silent-has memory (of_coordinator m (close_clients_row m.coordinator m.tickets)).messages (close-stays m).silent

  quiet-nothing : (step : Step) (event : ℕ) (sent : List Sent) (lines : List Text) → Quiet w step event sent lines → Asks step
      → (more : List Sent) × ((sent ≡ w.sent ++ more) × ((x : Sent) → Has x more → GivesNothing w.memory x))
  quiet-nothing _ _ _ _ (client_repeats c) again = (sent_now (again_row (w.clients c)), (refl, λ x k. again c x refl (sent-now-is (again_row (w.clients c)) x k)))
  quiet-nothing _ _ _ _ (server_repeats s m up) again = (server_again m (stable (w.found s)), (refl, silent-has w.memory (server_again m (stable (w.found s))) (server-again m (stable (w.found s)))))
  quiet-nothing _ _ _ _ is again = ([], (sym (append-nil w.sent), λ x k. absurd k))

  sends-nothing : (step : Step) (now : World) → StepCase w step now → is_tell step ≡ false → Hands step → Asks step → Sends now
  sends-nothing step _ (client_row _ c t sent lines row) tell hands again = let x = row-nothing w.memory step c t sent lines row tell in record { more = x.0; sent = x.1.0; nothing = x.1.1 }
  sends-nothing step _ (row_done _ s m k row up of) tell hands again = record { more = row.messages; sent = refl; nothing = server-nothing _ s m up step k row of hands }
  sends-nothing step _ (quietly _ event sent lines is) tell hands again = let x = quiet-nothing step event sent lines is again in record { more = x.0; sent = x.1.0; nothing = x.1.1 }
  sends-nothing _ _ is tell hands again = record { more = []; sent = sym (append-nil w.sent); nothing = λ x k. absurd k }

-- ---- a step that comes next

pub data NextIs (c : Course) : Step → Type 0 where
  hands_over : (k : ℕ) (room : Room) (stop : Option (Pick → Left)) → list_any (nat_eq k) c.waiting ≡ true → NextIs c (handing k room stop)
  goes_on : (s : ServerNo) (room : Room) (stop : Option (Pick → Left)) → NextIs c (working s room stop)

pub next-is : (servers : List ServerNo) (c : Course) (step : Step) → ComesNext servers c step → NextIs c step
next-is servers c step h = by c.waiting refl (first_busy c.world servers) h.is_next
  where
    some : (p q : Step) → Some p ≡ Some q → p ≡ q
    some p q e = cc

    itself : (k : ℕ) (ks : List ℕ) → list_any (nat_eq k) (k ∷ ks) ≡ true
    itself k ks = grind (arith, nat_tests)

    by : (waiting : List ℕ) → c.waiting ≡ waiting → (o : Option ServerNo) → next_step h.chance waiting o ≡ Some step → NextIs c step
    by (k ∷ ks) e o q = subst (λ (z : Step). NextIs c z) (some (handing k h.chance.room h.chance.stop) step q) (hands_over k h.chance.room h.chance.stop (ap (list_any (nat_eq k)) e ∙ itself k ks))
    by [] e (Some s) q = subst (λ (z : Step). NextIs c z) (some (working s h.chance.room h.chance.stop) step q) (goes_on s h.chance.room h.chance.stop)
    by [] e None q = absurd (cc q)

pub next-may : (c : Course) (step : Step) → NextIs c step → IsStep step c.world
next-may c _ (hands_over k room None waits) = tt
next-may c _ (hands_over k room (Some made) waits) = tt
next-may c _ (goes_on s room None) = tt
next-may c _ (goes_on s room (Some made)) = tt

next-tells-none : (c : Course) (step : Step) → NextIs c step → is_tell step ≡ false
next-tells-none c _ (hands_over k room None waits) = refl
next-tells-none c _ (hands_over k room (Some made) waits) = refl
next-tells-none c _ (goes_on s room None) = refl
next-tells-none c _ (goes_on s room (Some made)) = refl

next-asks-none : (c : Course) (step : Step) → NextIs c step → asking_in step ≡ None
next-asks-none c _ (hands_over k room None waits) = refl
next-asks-none c _ (hands_over k room (Some made) waits) = refl
next-asks-none c _ (goes_on s room None) = refl
next-asks-none c _ (goes_on s room (Some made)) = refl

-- what it hands over waits
next-hands : (c : Course) (step : Step) → NextIs c step → (k : ℕ) → handed_in step ≡ Some k → list_any (nat_eq k) c.waiting ≡ true
next-hands c _ (hands_over j room stop waits) k e = subst (λ (i : ℕ). list_any (nat_eq i) c.waiting ≡ true) (some (sym (handing-hands j room stop) ∙ e)) waits
  where
    some : Some j ≡ Some k → j ≡ k
    some q = cc
next-hands c _ (goes_on s room stop) k e = absurd (by stop e)
  where
    by : (stop : Option (Pick → Left)) → handed_in (working s room stop) ≡ Some k → ⊥
    by None q = cc
    by (Some made) q = cc

-- ---- the last step

abbrev last_of : List Step → Option Step
last_of [] = None
last_of (step ∷ []) = Some step
last_of (step ∷ next ∷ steps) = last_of (next ∷ steps)

last-is : (steps : List Step) (step : Step) → last_of (steps ++ step ∷ []) ≡ Some step
last-is [] step = refl
last-is (x ∷ []) step = refl
last-is (x ∷ y ∷ steps) step = last-is (y ∷ steps) step

-- a client that has its answer has it by the last step
answered-by : (c : Course) (step : Step) (client : ClientNo) → (h : HasAnswered (go step c) client) → handed_in step ≡ Some h.number
answered-by c step client h = ap handed_in (some step (handing h.number h.room h.stop) (sym (last-is c.steps step) ∙ ap last_of h.is ∙ last-is h.before (handing h.number h.room h.stop)))
    ∙ handing-hands h.number h.room h.stop
  where
    some : (p q : Step) → Some p ≡ Some q → p ≡ q
    some p q e = cc

module _ (n : ℕ) (at_most : n ≤ 8) (files : AllFiles) (epochs : ServerNo → ℕ) where
  abbrev start : World
  start = opening n files epochs

  abbrev IsGood : Course → Type 0
  IsGood d = Good n at_most start files epochs d

  abbrev NothingGiven : Course → Type 0
  NothingGiven d = (x : Sent) → Waits d.world.sent d.waiting x → GivesNothing d.world.memory x

  -- what waits gives nothing after a step either
  step-nothing : (d : Course) (step : Step) (g : IsGood d) → IsStep step d.world → is_tell step ≡ false → Hands d.world g.talking.sound.locks g.talking.known.mirrors.addressed step
      → Asks d.world g.talking.sound.locks g.talking.known.mirrors.addressed step
      → NothingGiven d → NothingGiven (go step d)
  step-nothing d step g i tell hands again h x v = by (sends-nothing d.world g.talking.sound.locks g.talking.known.mirrors.addressed step (after step d.world)
      (step-case d.world step) tell hands again)
    where
      still : (x : Sent) → IsTrue (machine files epochs d.world g.talking.known) x → GivesNothing d.world.memory x → GivesNothing (after step d.world).memory x
      still (to, messages.Op c q W number op) says k = next-untaken files epochs d.world g.talking.known W says step i k
      still (to, messages.Answer c q answer) says k = k
      still (to, _) says k = tt

      by : Sends d.world g.talking.sound.locks g.talking.known.mirrors.addressed (after step d.world) → GivesNothing (after step d.world).memory x
      by new = on (came-from n at_most start d step new.more g.talking.sound new.sent x v)
        where
          on : Waits d.world.sent d.waiting x ⊎ Has x new.more → GivesNothing (after step d.world).memory x
          on (inl old) = still x (holds-of (IsTrue (machine files epochs d.world g.talking.known)) d.world.sent old.number x g.talking.known.mirrors.says old.is) (h x old)
          on (inr k) = new.nothing x k

  -- ---- the second part

  record IsQuiet (d : Course) : Type 0 where
    good : IsGood d
    nothing : NothingGiven d
    none : (client : ClientNo) → HasAnswered d client → ⊥

  next-quiet : (d : Course) (step : Step) → NextIs d step → IsQuiet d → IsQuiet (go step d)
  next-quiet d step is q = record {
    good = good-go n at_most start files epochs d step q.good (next-may d step is);
    nothing = step-nothing d step q.good (next-may d step is) (next-tells-none d step is) (λ k x e at. q.nothing x (record { number = k; waits = next-hands d step is k e; is = at }))
        (λ c x e at. absurd (no c (sym (next-asks-none d step is) ∙ e))) q.nothing;
    none = λ client h. not-given client h (next-hands d step is h.number (answered-by d step client h));
  }
    where
      no : (c : ClientNo) → None ≡ Some c → ⊥
      no c e = cc

      not-given : (client : ClientNo) (h : HasAnswered (go step d) client) → list_any (nat_eq h.number) d.waiting ≡ true → ⊥
      not-given client h waits = true≢false (sym h.given ∙ q.nothing (Client client, messages.Answer client h.request h.answer)
          (record { number = h.number; waits = waits; is = at (grows d.world step) }))
        where
          at : Grows d.world (after step d.world) → slice_get d.world.sent h.number ≡ Some (Client client, messages.Answer client h.request h.answer)
          at new = sym (get-more d.world.sent new.new h.number (below-any (length d.world.sent) h.number d.waiting q.good.talking.sound.below waits)) ∙ ap (λ l. slice_get l h.number) (sym new.sent)
              ∙ h.message

  only-next : (servers : List ServerNo) (more : List Step) (d : Course) → IsQuiet d → AreNextOrTold servers more d → AreNext servers more d
  only-next servers [] d q h = tt
  only-next servers (step ∷ more) d q h = by step h.0 h.1 (only-next servers more)
    where
      by : (step : Step) → ComesOrIsTold servers d step → AreNextOrTold servers more (go step d) → ((e : Course) → IsQuiet e → AreNextOrTold servers more e → AreNext servers more e)
          → AreNext servers (step ∷ more) d
      by _ (comes step x) k again = (x, again (go step d) (next-quiet d step (next-is servers d step x) q) k)
      by _ (told client s op a) k again = absurd (q.none client a)

  -- ---- the askings

  record AsksNothing (d : Course) : Type 0 where
    good : IsGood d
    nothing : NothingGiven d
    again : (c : ClientNo) (x : Sent) → again_row (d.world.clients c) ≡ Some x → GivesNothing d.world.memory x

  -- a client or a server asks
  asks-quiet : (d : Course) (step : Step) → IsStep step d.world → is_tell step ≡ false → handed_in step ≡ None → (after step d.world).memory ≡ d.world.memory
      → (after step d.world).clients ≡ d.world.clients → AsksNothing d
      → AsksNothing (go step d) × ((client : ClientNo) → HasAnswered (go step d) client → ⊥)
  asks-quiet d step i tell hands memory clients h = (
    record {
      good = good-go n at_most start files epochs d step h.good i;
      nothing = step-nothing d step h.good i tell (λ k x e at. absurd (no k (sym hands ∙ e))) (λ c x e at. h.again c x at) h.nothing;
      again = λ c x e. subst (λ f. GivesNothing f x) (sym memory) (h.again c x (ap (λ f. again_row (f c)) (sym clients) ∙ e));
    },
    λ client a. no a.number (sym hands ∙ answered-by d step client a),
  )
    where
      no : (k : ℕ) → None ≡ Some k → ⊥
      no k e = cc

  abbrev IsAsked : Course → Type 0
  IsAsked d = AsksNothing d × ((client : ClientNo) → HasAnswered d client → ⊥)

  again-asks : (c : ClientNo) (d : Course) → AsksNothing d → IsAsked (go (Again c) d)
  again-asks c d h = asks-quiet d (Again c) tt refl refl refl refl h

  nudge-asks : (s : ServerNo) (d : Course) → AsksNothing d → IsAsked (go (Nudge s) d)
  nudge-asks s d h = asks-quiet d (Nudge s) tt refl refl (ap (λ (z : World). z.memory) (nudged s d.world (d.world.memory s))) (quiet-clients (Nudge s) d.world refl) h

  nudges-ask : (servers : List ServerNo) (d : Course) → IsAsked d → IsAsked (go_on (map (λ (s : ServerNo). Nudge s) servers) d)
  nudges-ask [] d h = h
  nudges-ask (s ∷ servers) d h = nudges-ask servers (go (Nudge s) d) (nudge-asks s d h.0)

  agains-ask : (clients : List ClientNo) (servers : List ServerNo) (d : Course) → IsAsked d → IsAsked (go_on (ask_again clients servers) d)
  agains-ask [] servers d h = nudges-ask servers d h
  agains-ask (c ∷ clients) servers d h = agains-ask clients servers (go (Again c) d) (again-asks c d h.0)

  first-asks : (c : ClientNo) (clients : List ClientNo) (servers : List ServerNo) (d : Course) → AsksNothing d → IsAsked (go_on (ask_again (c ∷ clients) servers) d)
  first-asks c clients servers d h = agains-ask clients servers (go (Again c) d) (again-asks c d h)

  -- ---- at rest

  nothing-waits : (d : Course) (x : Sent) → d.waiting ≡ [] → Waits d.world.sent d.waiting x → ⊥
  nothing-waits d x e v = true≢false (sym v.waits ∙ ap (list_any (nat_eq v.number)) e)

  -- what a client asks again then gives nothing
  outstanding-nothing : (d : Course) → IsGood d → AreOnTheirWay d → d.waiting ≡ [] → (c : ClientNo) (o : Outstanding) → (d.world.clients c).outstanding ≡ Some o
      → GivesNothing d.world.memory (o.to, o.message)
  outstanding-nothing d g way rests c o e = by o.command refl ((g.talking.talks c).fits o e)
    where
      plain : (m : Message) → o.message ≡ m → GivesNothing d.world.memory (o.to, m) → GivesNothing d.world.memory (o.to, o.message)
      plain m q h = subst (λ (z : Message). GivesNothing d.world.memory (o.to, z)) (sym q) h

      over-it : IsOnItsWay d c o → GivesNothing d.world.memory (o.to, o.message)
      over-it (asks x) = absurd (nothing-waits d (o.to, o.message) rests x)
      over-it (answered a x) = absurd (nothing-waits d (Client c, messages.Answer c o.request a) rests x)
      over-it (is_over W number op q none) = plain (messages.Op c o.request W number op) q (untaken-is d.world W none)

      by : (command : Command) → o.command ≡ command → FitsCommand (d.world.clients c) o command → GivesNothing d.world.memory (o.to, o.message)
      by (commands.Begin s) is fits = plain (messages.Begin (d.world.clients c).client o.request) fits.1 tt
      by (commands.Open s) is fits = plain (messages.Open (d.world.clients c).client o.request fits.0) fits.3 tt
      by (commands.Do s op) is fits = over-it (way c o e (ap is_operation is))
      by commands.End is fits = plain (messages.End (d.world.clients c).client o.request fits.0 (names_of (d.world.clients c).works)) fits.3 tt
      by commands.Abort is fits = plain (messages.Abort (d.world.clients c).client o.request fits.0 (names_of (d.world.clients c).works)) fits.3 tt

  at-rest-asks : (d : Course) → IsGood d → AreOnTheirWay d → d.waiting ≡ [] → AsksNothing d
  at-rest-asks d g way rests = record {
    good = g;
    nothing = λ x v. absurd (nothing-waits d x rests v);
    again = λ c x e. by c x (d.world.clients c).outstanding refl e;
  }
    where
      by : (c : ClientNo) (x : Sent) (o : Option Outstanding) → (d.world.clients c).outstanding ≡ o → sent_again (d.world.clients c).outstanding ≡ Some x → GivesNothing d.world.memory x
      by c x None e q = absurd (no (sym (ap sent_again e) ∙ q))
        where
          no : None ≡ Some x → ⊥
          no z = cc
      by c x (Some o) e q = subst (λ (z : Sent). GivesNothing d.world.memory z) (some (sym (ap sent_again e) ∙ q)) (outstanding-nothing d g way rests c o e)
        where
          some : Some (o.to, o.message) ≡ Some x → (o.to, o.message) ≡ x
          some z = cc

  pub none-is-told : (d : Course) → IsGood d → AreOnTheirWay d → d.waiting ≡ [] → (servers : List ServerNo) (more : List Step) → AreNextOrTold servers more (asked n d)
      → AreNext servers more (asked n d)
  none-is-told d g way rests servers more h = let a = first-asks (record { 0 = 1 }) (clients_from 2 7) (servers_from 0 n) d (at-rest-asks d g way rests) in
      only-next servers more (asked n d) (record { good = a.0.good; nothing = a.0.nothing; none = a.1 }) h
