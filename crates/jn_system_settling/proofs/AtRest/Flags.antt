-- A transaction that has committed is forgotten in a settle: each of its works is carried out, and its client thanks.
use Rattle.jn_system_settling.proofs.Common.{◌≡◌, ◌≢◌, ◌⊎◌, inl, inr, ◌≤◌, ℕ, Bool, true, false, List, [], ◌∷◌, ◌++◌, append-nil, Option, Some, None, true≢false, refl, sym, ◌∙◌, ap, subst, arith, if◌then◌else◌, nat_eq, slice_get, list_any, nat_tests, ServerNo, ClientNo, Tid, WorkId, Cause, Client, Server, server_eq, client_eq, tid_eq, work_eq, server_tells, tid_tells, work_tells, AllFiles, Intention, Message, Text, Work, Outstanding, Taken, Transaction, Stage, Open, Voting, Committed, Aborted, Ballot, Commitment, stable, is_going, made_all, RowOutcome, Sent, work_at, worker_row, carried_row, intentions_of, going_work, worker_again, CoordinatorTable, transaction_at, is_work, besides, commits, committed_to, told_again, coordinator_again, coordinator_row, ClientTable, take_row, outcome_row, is_current, is_tid, is_end_or_abort, if_waits, over, Machine, Knows, not_both, World, Memory, opening, Room, storage_of, server_row, of_worker, of_coordinator, is_for_worker, took, taken_by, done, is_closing, IsStage, knowledge_in, Course, Reached, some-memory, tid-name}
use Rattle.jn_msgs.specs.declared.message.Message.TheVariants as messages
use Rattle.jn_msgs.specs.declared.message.Outcome.TheVariants as outcomes
use Rattle.jn_report.specs.declared.line.Text.TheVariants as says
use Rattle.jn_rows.specs.declared.client.Taken.TheVariants as taken
use Rattle.jn_system_settling.proofs.Settling.ClientFits.{sent_with}
use Rattle.jn_system_settling.proofs.AtRest.Ways.{Has, Waits, took-memory}
use Rattle.jn_system_settling.proofs.AtRest.Begins.{Good}
use Rattle.jn_system_settling.proofs.AtRest.Fates.{has-after, has-before, has-commit, Move, starts, notes_one, commits_now, aborts_now, finishes, Fate, stays, moves, forgets, closes, row-fate, row-new, done-leaves, thanks-leaves}
use Rattle.jn_system_settling.proofs.AtRest.Calm.{Comes, carried, Asked}
use Rattle.jn_system_settling.proofs.AtRest.Standing.{machine, its-stage, is-known, not-next, inv}
use Rattle.jn_system_settling.proofs.AtRest.Broken.{BrokenTold}
use Rattle.jn_system_settling.proofs.AtRest.Carrying.{goes_in, message-on, Led, over_now, goes_now, commit-leads}
use Rattle.jn_system_settling.proofs.AtRest.Ends.{IsIt, same-client, same-server, other-party, in-left}

-- ---- the client thanks

pub took-sent : (c : ClientNo) (k : ℕ) (t : ClientTable) (r : Taken) (w : World) → (took c k t r w).sent ≡ w.sent ++ sent_with r
took-sent c k t taken.Ignored w = sym (append-nil w.sent)
took-sent c k t (taken.Send to message) w = refl
took-sent c k t (taken.Told line answer) w = refl

pub took-found : (c : ClientNo) (k : ℕ) (t : ClientTable) (r : Taken) (w : World) → (took c k t r w).found ≡ w.found
took-found c k t taken.Ignored w = refl
took-found c k t (taken.Send to message) w = refl
took-found c k t (taken.Told line answer) w = refl

thanks-sent : (t : ClientTable) (e : ClientNo) (T : Tid) → t.client ≡ e → (is_current t T ≡ true → is_closing t.outstanding ≡ true) → Has (Server T.server, messages.Thanks e T) (sent_with (take_row t (messages.Outcome e T outcomes.Committed)).1)
thanks-sent t e T name closing = subst (λ (b : Bool). Has (Server T.server, messages.Thanks e T) (sent_with (if◌then◌else◌ {A = ClientTable × Taken} b (outcome_row t T outcomes.Committed) (t, taken.Ignored)).1)) (sym own) (on (is_current t T) refl)
  where
    own : client_eq e t.client ≡ true
    own = grind (arith, nat_tests, name)

    thanks : Has (Server T.server, messages.Thanks e T) ((Server T.server, messages.Thanks t.client T) ∷ [])
    thanks = inl (ap (λ (z : ClientNo). (Server T.server, messages.Thanks z T)) name)

    waits : (line : ℕ → Text) (o : Option Outstanding) → is_closing o ≡ true
        → Has (Server T.server, messages.Thanks e T) (sent_with (if_waits t o (λ p. is_end_or_abort p.command) (λ j. (over t, taken.Told (line j) (Some (Server T.server, messages.Thanks t.client T))))).1)
    waits line None h = absurd (true≢false (sym h))
    waits line (Some p) h = subst (λ (b : Bool). Has (Server T.server, messages.Thanks e T) (sent_with (if◌then◌else◌ {A = ClientTable × Taken} b (over t, taken.Told (line p.event) (Some (Server T.server, messages.Thanks t.client T))) (t, taken.Ignored)).1)) (sym h) thanks

    on : (b : Bool) → is_current t T ≡ b → Has (Server T.server, messages.Thanks e T) (sent_with (outcome_row t T outcomes.Committed).1)
    on true h = subst (λ (b : Bool). Has (Server T.server, messages.Thanks e T) (sent_with (if◌then◌else◌ {A = ClientTable × Taken} b (if_waits t t.outstanding (λ p. is_end_or_abort p.command) (λ j. (over t, taken.Told (says-line j) (Some (Server T.server, messages.Thanks t.client T))))) (t, taken.Send (Server T.server) (messages.Thanks t.client T))).1)) (sym h) (waits says-line t.outstanding (closing h))
      where
        says-line : ℕ → Text
        says-line j = says.Committed t.client j T
    on false h = subst (λ (b : Bool). Has (Server T.server, messages.Thanks e T) (sent_with (if◌then◌else◌ {A = ClientTable × Taken} b (if_waits t t.outstanding (λ p. is_end_or_abort p.command) (λ j. (over t, taken.Told (says-line j) (Some (Server T.server, messages.Thanks t.client T))))) (t, taken.Send (Server T.server) (messages.Thanks t.client T))).1)) (sym h) thanks
      where
        says-line : ℕ → Text
        says-line j = says.Committed t.client j T

-- ---- what is sent again

pub again-has : (T : Tid) (xs : List Transaction) (x : Transaction) (y : Sent) → transaction_at T xs ≡ Some x → Has y (told_again x x.stage) → Has y (coordinator_again xs)
again-has T [] x y e h = absurd (cc e)
again-has T (z ∷ xs) x y e h = by (tid_eq z.tid T) e (again-has T xs x y)
  where
    some : Some z ≡ Some x → z ≡ x
    some q = cc

    by : (b : Bool) → (if b then Some z else transaction_at T xs) ≡ Some x → (transaction_at T xs ≡ Some x → Has y (told_again x x.stage) → Has y (coordinator_again xs)) → Has y (told_again z z.stage ++ coordinator_again xs)
    by true q again = has-before (told_again z z.stage) (coordinator_again xs) y (subst (λ (v : Transaction). Has y (told_again v v.stage)) (sym (some q)) h)
    by false q again = has-after (told_again z z.stage) (coordinator_again xs) y (again q h)

-- ---- on its way

module _ (n : ℕ) (at_most : n ≤ 8) (files : AllFiles) (epochs : ServerNo → ℕ) (reached : (d : Course) → Good n at_most (opening n files epochs) files epochs d → Reached files epochs d.world)
    (broken : (d : Course) → Good n at_most (opening n files epochs) files epochs d → BrokenTold d.world) (T : Tid) where
  abbrev IsGood : Course → Type 0
  IsGood d = Good n at_most (opening n files epochs) files epochs d

  -- a work that isn't done has this on its way
  pub data Carries (d : Course) (W : WorkId) : Type 0 where
    to_commit : Waits d.world.sent d.waiting (Server W.server, messages.Commit T W) → Carries d W
    goes_on : goes_in (stable (d.world.found W.server)) W ≡ true → Carries d W
    to_finish : Waits d.world.sent d.waiting (Server T.server, messages.Done T W) → Carries d W

  pub data Thanking (d : Course) (e : ClientNo) : Type 0 where
    to_client : Waits d.world.sent d.waiting (Client e, messages.Outcome e T outcomes.Committed) → Thanking d e
    to_server : Waits d.world.sent d.waiting (Server T.server, messages.Thanks e T) → Thanking d e

  pub record Progress (d : Course) (x : Transaction) (cm : Commitment) : Type 0 where
    pub works : (W : WorkId) → is_work W cm.works ≡ true → (is_work W cm.done ≡ true) ⊎ Carries d W
    pub thanks : (cm.thanked ≡ true) ⊎ Thanking d x.client

  pub record FlagWay (d : Course) : Type 0 where
    pub each : (m : Memory) (x : Transaction) (cm : Commitment) → d.world.memory T.server ≡ Some m → transaction_at T m.coordinator.transactions ≡ Some x → x.stage ≡ Committed cm → Progress d x cm

  -- what is known of it
  module _ (d : Course) (g : IsGood d) (m : Memory) (x : Transaction) (cm : Commitment) (up : d.world.memory T.server ≡ Some m) (found : transaction_at T m.coordinator.transactions ≡ Some x) (stage : x.stage ≡ Committed cm) where
    abbrev w : Machine
    w = machine files epochs d.world (reached d g)

    known : IsStage w T (Committed cm)
    known = subst (λ (z : Stage). IsStage w T z) stage (its-stage files epochs d.world (reached d g) T m x up found)

    is-named : w.named T ≡ true
    is-named = (subst (λ (z : Stage). Knows w T (knowledge_in z)) stage (is-known files epochs d.world (reached d g) T m x up found)).0

    is-part : (W : WorkId) → is_work W cm.works ≡ true → w.part T W.server ≡ Some W
    is-part W work = known.1.each W work

    -- its client waits for the outcome, if it is still in it
    closing : (e : ClientNo) → is_current (d.world.clients e) T ≡ true → is_closing (d.world.clients e).outstanding ≡ true
    closing e h = by (is_closing (d.world.clients e).outstanding) refl
      where
        current : (o : Option Tid) → is_tid T o ≡ true → o ≡ Some T
        current None k = absurd (true≢false (sym k))
        current (Some U) k = ap (λ (z : Tid). Some z) (let tells = tid_tells T U in grind (arith, k))

        by : (b : Bool) → is_closing (d.world.clients e).outstanding ≡ b → is_closing (d.world.clients e).outstanding ≡ true
        by true q = q
        by false q = absurd (not_both (w.ended T) known.0 ((let R = reached d g in (R.facts.clients e).fresh T (current (d.world.clients e).transaction h) q)))

  -- ---- a client takes a message

  pub client-flags : (d now : Course) (k : ℕ) (e : ClientNo) (message : Message) → IsGood d → slice_get d.world.sent k ≡ Some (Client e, message)
      → Comes d now (Some (Client e, message)) (taken_by e k (take_row (d.world.clients e) message) d.world) → FlagWay d → FlagWay now
  client-flags d now k e message g is comes h = record { each = λ m x cm up found stage. on m x cm (ap (λ f. f T.server) (sym memory) ∙ up) found stage }
    where
      row : ClientTable × Taken
      row = take_row (d.world.clients e) message

      memory : now.world.memory ≡ d.world.memory
      memory = ap (λ (z : World). z.memory) comes.world ∙ took-memory e k (take_row (d.world.clients e) message).0 (take_row (d.world.clients e) message).1 d.world

      found-same : now.world.found ≡ d.world.found
      found-same = ap (λ (z : World). z.found) comes.world ∙ took-found e k (take_row (d.world.clients e) message).0 (take_row (d.world.clients e) message).1 d.world

      server-waits : (s : ServerNo) (r : Message) → Waits d.world.sent d.waiting (Server s, r) → Waits now.world.sent now.waiting (Server s, r)
      server-waits s r w = by (comes.waits (Server s, r) w)
        where
          by : IsIt (Client e, message) (Server s, r) ⊎ Waits now.world.sent now.waiting (Server s, r) → Waits now.world.sent now.waiting (Server s, r)
          by (inl q) = absurd (other-party e s message r q)
          by (inr w) = w

      carries-on : (W : WorkId) → Carries d W → Carries now W
      carries-on W (to_commit w) = to_commit (server-waits W.server (messages.Commit T W) w)
      carries-on W (goes_on q) = goes_on (ap (λ f. goes_in (stable (f W.server)) W) found-same ∙ q)
      carries-on W (to_finish w) = to_finish (server-waits T.server (messages.Done T W) w)

      on : (m : Memory) (x : Transaction) (cm : Commitment) → d.world.memory T.server ≡ Some m → transaction_at T m.coordinator.transactions ≡ Some x → x.stage ≡ Committed cm → Progress now x cm
      on m x cm up found stage = let p = h.each m x cm up found stage in record { works = λ W work. works W (p.works W work); thanks = thanks p.thanks }
        where
          works : (W : WorkId) → (is_work W cm.done ≡ true) ⊎ Carries d W → (is_work W cm.done ≡ true) ⊎ Carries now W
          works W (inl q) = inl q
          works W (inr c) = inr (carries-on W c)

          sent : IsIt (Client e, message) (Client x.client, messages.Outcome x.client T outcomes.Committed) → Waits now.world.sent now.waiting (Server T.server, messages.Thanks x.client T)
          sent q = let i = same-client e x.client message (messages.Outcome x.client T outcomes.Committed) q in
              comes.new (sent_with (take_row (d.world.clients e) message).1) (took-sent e k (take_row (d.world.clients e) message).0 (take_row (d.world.clients e) message).1 d.world) (Server T.server, messages.Thanks x.client T)
              (subst (λ (z : ClientNo). Has (Server T.server, messages.Thanks x.client T) (sent_with (take_row (d.world.clients z) message).1)) (sym i.0)
              (subst (λ z. Has (Server T.server, messages.Thanks x.client T) (sent_with (take_row (d.world.clients x.client) z).1)) (sym i.1)
              (thanks-sent (d.world.clients x.client) x.client T (g.talking.talks x.client).name (closing d g m x cm up found stage x.client))))

          thanks : (cm.thanked ≡ true) ⊎ Thanking d x.client → (cm.thanked ≡ true) ⊎ Thanking now x.client
          thanks (inl q) = inl q
          thanks (inr (to_server w)) = inr (to_server (server-waits T.server (messages.Thanks x.client T) w))
          thanks (inr (to_client w)) = by (comes.waits (Client x.client, messages.Outcome x.client T outcomes.Committed) w)
            where
              by : IsIt (Client e, message) (Client x.client, messages.Outcome x.client T outcomes.Committed) ⊎ Waits now.world.sent now.waiting (Client x.client, messages.Outcome x.client T outcomes.Committed) → (cm.thanked ≡ true) ⊎ Thanking now x.client
              by (inr w) = inr (to_client w)
              by (inl q) = inr (to_server (sent q))

  -- ---- a server takes one

  module _ (d now : Course) (k : ℕ) (room : Room) (s : ServerNo) (message : Message) (m : Memory) (g : IsGood d) (is : slice_get d.world.sent k ≡ Some (Server s, message)) (up : d.world.memory s ≡ Some m)
      (comes : Comes d now (Some (Server s, message)) (done s (Some k) (server_row m (stable (d.world.found s)) room message) d.world)) (h : FlagWay d) where
    abbrev row : RowOutcome Memory
    row = server_row m (stable (d.world.found s)) room message

    new-waits : (x : Sent) → Has x row.messages → Waits now.world.sent now.waiting x
    new-waits x h = comes.new row.messages refl x h

    abbrev Meets : ServerNo → Message → Type 0
    Meets q r = (s ≡ q) × (message ≡ r)

    -- a message to a server waits on, or it has come
    still-or : (q : ServerNo) (r : Message) → Waits d.world.sent d.waiting (Server q, r) → Meets q r ⊎ Waits now.world.sent now.waiting (Server q, r)
    still-or q r w = by (comes.waits (Server q, r) w)
      where
        by : IsIt (Server s, message) (Server q, r) ⊎ Waits now.world.sent now.waiting (Server q, r) → Meets q r ⊎ Waits now.world.sent now.waiting (Server q, r)
        by (inl e) = inl (same-server s q message r e)
        by (inr w) = inr w

    itself : (p q : ServerNo) → p ≡ q → server_eq p q ≡ true
    itself p q e = grind (arith, nat_tests, e)

    here-now : s ≡ T.server → now.world.memory T.server ≡ Some row.table
    here-now e = ap (λ (z : World). z.memory T.server) comes.world ∙ ap (λ (b : Bool). if b then Some row.table else d.world.memory T.server) (itself s T.server e)

    -- what goes at a server then
    found-now : (W : WorkId) → goes_in (stable (now.world.found W.server)) W ≡ goes_in (if server_eq s W.server then made_all row.changes (stable (d.world.found s)) else stable (d.world.found W.server)) W
    found-now W = ap (λ (z : World). goes_in (stable (z.found W.server)) W) comes.world ∙ by (server_eq s W.server)
      where
        by : (b : Bool) → is_going ((if b then made_all row.changes (d.world.found s (λ n. false)) else d.world.found W.server (λ n. false)).works W) ≡ goes_in (if b then made_all row.changes (stable (d.world.found s)) else stable (d.world.found W.server)) W
        by true = refl
        by false = refl

    goes-still : (W : WorkId) → goes_in (stable (d.world.found W.server)) W ≡ true → goes_in (stable (now.world.found W.server)) W ≡ true
    goes-still W q = found-now W ∙ by (server_tells s W.server)
      where
        by : ((server_eq s W.server ≡ true) × (s ≡ W.server)) ⊎ ((server_eq s W.server ≡ false) × (s ≢ W.server)) → goes_in (if server_eq s W.server then made_all row.changes (stable (d.world.found s)) else stable (d.world.found W.server)) W ≡ true
        by (inl p) = ap (λ (b : Bool). goes_in (if b then made_all row.changes (stable (d.world.found s)) else stable (d.world.found W.server)) W) p.0
            ∙ message-on files epochs d.world (reached d g) s m room message W up (ap (λ (z : ServerNo). goes_in (stable (d.world.found z)) W) p.1 ∙ q)
        by (inr p) = ap (λ (b : Bool). goes_in (if b then made_all row.changes (stable (d.world.found s)) else stable (d.world.found W.server)) W) p.0 ∙ q

    -- of a transaction that had committed, with what has come since
    module _ (m0 : Memory) (x : Transaction) (cm : Commitment) (up0 : d.world.memory T.server ≡ Some m0) (found : transaction_at T m0.coordinator.transactions ≡ Some x) (stage : x.stage ≡ Committed cm)
        (y : Transaction) (later : Commitment) (client : y.client ≡ x.client) (same : later.works ≡ cm.works) (more : (W : WorkId) → is_work W cm.done ≡ true → is_work W later.done ≡ true) (thanked : cm.thanked ≡ true → later.thanked ≡ true)
        (finished : (W : WorkId) → is_work W cm.works ≡ true → Meets T.server (messages.Done T W) → is_work W later.done ≡ true) (thanked-now : Meets T.server (messages.Thanks x.client T) → later.thanked ≡ true) where
      commit-comes : (W : WorkId) → is_work W cm.works ≡ true → Meets W.server (messages.Commit T W) → Carries now W
      commit-comes W work i = by (commit-leads files epochs d.world (reached d g) (broken d g) s m room T W (sym i.0) up (is-named d g m0 x cm up0 found stage) (is-part d g m0 x cm up0 found stage W work))
        where
          by : Led files epochs d.world (reached d g) s m room T W → Carries now W
          by (over_now none has) = to_finish (new-waits _ (subst (λ z. Has (Server T.server, messages.Done T W) (server_row m (stable (d.world.found s)) room z).messages) (sym i.1) has))
          by (goes_now q) = goes_on (found-now W ∙ ap (λ (b : Bool). goes_in (if b then made_all row.changes (stable (d.world.found s)) else stable (d.world.found W.server)) W) (itself s W.server i.0)
              ∙ ap (λ z. goes_in (made_all (server_row m (stable (d.world.found s)) room z).changes (stable (d.world.found s))) W) i.1 ∙ q)

      progress : Progress now y later
      progress = let p = h.each m0 x cm up0 found stage in record { works = λ W work. works W (subst (λ l. is_work W l ≡ true) same work) (p.works W (subst (λ l. is_work W l ≡ true) same work)); thanks = thanks p.thanks }
        where
          works : (W : WorkId) → is_work W cm.works ≡ true → (is_work W cm.done ≡ true) ⊎ Carries d W → (is_work W later.done ≡ true) ⊎ Carries now W
          works W work (inl q) = inl (more W q)
          works W work (inr (goes_on q)) = inr (goes_on (goes-still W q))
          works W work (inr (to_commit w)) = by (still-or W.server (messages.Commit T W) w)
            where
              by : Meets W.server (messages.Commit T W) ⊎ Waits now.world.sent now.waiting (Server W.server, messages.Commit T W) → (is_work W later.done ≡ true) ⊎ Carries now W
              by (inl i) = inr (commit-comes W work i)
              by (inr w) = inr (to_commit w)
          works W work (inr (to_finish w)) = by (still-or T.server (messages.Done T W) w)
            where
              by : Meets T.server (messages.Done T W) ⊎ Waits now.world.sent now.waiting (Server T.server, messages.Done T W) → (is_work W later.done ≡ true) ⊎ Carries now W
              by (inl i) = inl (finished W work i)
              by (inr w) = inr (to_finish w)

          thanks : (cm.thanked ≡ true) ⊎ Thanking d x.client → (later.thanked ≡ true) ⊎ Thanking now y.client
          thanks (inl q) = inl (thanked q)
          thanks (inr (to_client w)) = inr (subst (λ (z : ClientNo). Thanking now z) (sym client) (to_client (by (comes.waits (Client x.client, messages.Outcome x.client T outcomes.Committed) w))))
            where
              by : IsIt (Server s, message) (Client x.client, messages.Outcome x.client T outcomes.Committed) ⊎ Waits now.world.sent now.waiting (Client x.client, messages.Outcome x.client T outcomes.Committed) → Waits now.world.sent now.waiting (Client x.client, messages.Outcome x.client T outcomes.Committed)
              by (inl q) = absurd (other-party x.client s _ message (sym q))
              by (inr w) = w
          thanks (inr (to_server w)) = by (still-or T.server (messages.Thanks x.client T) w)
            where
              by : Meets T.server (messages.Thanks x.client T) ⊎ Waits now.world.sent now.waiting (Server T.server, messages.Thanks x.client T) → (later.thanked ≡ true) ⊎ Thanking now y.client
              by (inl i) = inl (thanked-now i)
              by (inr w) = inr (subst (λ (z : ClientNo). Thanking now z) (sym client) (to_server w))

    -- its coordinator's table is the same
    unmoved : (m0 : Memory) (x : Transaction) (cm : Commitment) → d.world.memory T.server ≡ Some m0 → transaction_at T m0.coordinator.transactions ≡ Some x → x.stage ≡ Committed cm
        → ((r : Message) → is_for_worker r ≡ false → Meets T.server r → ⊥) → Progress now x cm
    unmoved m0 x cm up0 found stage apart = progress m0 x cm up0 found stage x cm refl refl (λ W q. q) (λ q. q) (λ W work i. absurd (apart (messages.Done T W) refl i)) (λ i. absurd (apart (messages.Thanks x.client T) refl i))

    same-commit : (a b : Commitment) → Committed a ≡ Committed b → a ≡ b
    same-commit a b e = cc

    some-entry : (a b : Transaction) → Some a ≡ Some b → a ≡ b
    some-entry a b e = cc

    no-entry : (a : Transaction) → None ≡ Some a → ⊥
    no-entry a e = cc

    -- at its coordinator
    module _ (e : s ≡ T.server) where
      up-here : d.world.memory T.server ≡ Some m
      up-here = sym (ap d.world.memory e) ∙ up

      R : Reached files epochs d.world
      R = reached d g

      abbrev c-row : RowOutcome CoordinatorTable
      c-row = coordinator_row m.coordinator room.free.records m.tickets message

      by-fate : row ≡ of_coordinator m c-row → (x y : Transaction) (later : Commitment) → transaction_at T m.coordinator.transactions ≡ Some x → transaction_at T c-row.table.transactions ≡ Some y → y.stage ≡ Committed later
          → Fate T x m.coordinator message c-row → Progress now y later
      by-fate r x y later found then-found then-stage (forgets none u) = absurd (no-entry y (sym none ∙ then-found))
      by-fate r x y later found then-found then-stage (closes q f l u none) = absurd (no-entry y (sym none ∙ then-found))
      by-fate r x y later found then-found then-stage (stays f) = let eq = some-entry x y (sym f ∙ then-found) in at eq
        where
          at : x ≡ y → Progress now y later
          at eq = let stage = ap (λ (z : Transaction). z.stage) eq ∙ then-stage in
              progress m x later up-here found stage y later (ap (λ (z : Transaction). z.client) (sym eq)) refl (λ W q. q) (λ q. q)
              (λ W work i. done-leaves (machine files epochs d.world (reached d g)) T.server m.coordinator m.tickets ((let R = reached d g in R.mirrors.transactions T.server m up-here)) T x later found stage W work y later
              (sym (ap (λ z. transaction_at T (coordinator_row m.coordinator room.free.records m.tickets z).table.transactions) i.1) ∙ then-found) then-stage)
              (λ i. thanks-leaves (machine files epochs d.world (reached d g)) T.server m.coordinator m.tickets ((let R = reached d g in R.mirrors.transactions T.server m up-here)) T x later found stage x.client y later
              (sym (ap (λ z. transaction_at T (coordinator_row m.coordinator room.free.records m.tickets z).table.transactions) i.1) ∙ then-found) then-stage)
      by-fate r x y later found then-found then-stage (moves stage f move) = on stage f move
        where
          y-is : (z : Stage) → transaction_at T c-row.table.transactions ≡ Some (record x { stage = z }) → record x { stage = z } ≡ y
          y-is z f = some-entry (record x { stage = z }) y (sym f ∙ then-found)

          at-stage : (z : Stage) → transaction_at T c-row.table.transactions ≡ Some (record x { stage = z }) → z ≡ Committed later
          at-stage z f = ap (λ (v : Transaction). v.stage) (y-is z f) ∙ then-stage

          voting-no : (b : Ballot) → Voting b ≡ Committed later → ⊥
          voting-no b q = cc

          aborted-no : (cause : Cause) → Aborted cause ≡ Committed later → ⊥
          aborted-no cause q = cc

          its-tid : x.tid ≡ T
          its-tid = tid-name T m.coordinator.transactions x found

          -- it commits now
          fresh : (a : Commitment) → transaction_at T c-row.table.transactions ≡ Some (record x { stage = Committed a }) → Has (committed_to x) c-row.messages → ((W : WorkId) → is_work W a.works ≡ true → Has (Server W.server, messages.Commit x.tid W) c-row.messages) → Progress now y later
          fresh a f told commit = record {
            works = λ W work. inr (to_commit (new-waits _ (subst (λ (z : RowOutcome Memory). Has (Server W.server, messages.Commit T W) z.messages) (sym r)
                (subst (λ (z : Tid). Has (Server W.server, messages.Commit z W) c-row.messages) its-tid (commit W (subst (λ (z : Commitment). is_work W z.works ≡ true) (sym (same-commit a later (at-stage (Committed a) f))) work))))));
            thanks = inr (to_client (new-waits _ (subst (λ (z : RowOutcome Memory). Has (Client y.client, messages.Outcome y.client T outcomes.Committed) z.messages) (sym r)
                (subst (λ (z : ClientNo). Has (Client z, messages.Outcome z T outcomes.Committed) c-row.messages) (ap (λ (v : Transaction). v.client) (y-is (Committed a) f))
                (subst (λ (z : Tid). Has (Client x.client, messages.Outcome x.client z outcomes.Committed) c-row.messages) its-tid told)))));
          }

          -- it goes on
          further : (a b : Commitment) → x.stage ≡ Committed a → transaction_at T c-row.table.transactions ≡ Some (record x { stage = Committed b }) → b.works ≡ a.works → ((W : WorkId) → is_work W a.done ≡ true → is_work W b.done ≡ true) → (a.thanked ≡ true → b.thanked ≡ true) → Progress now y later
          further a b q f w' d' t' = let is-later = same-commit b later (at-stage (Committed b) f) in at is-later
            where
              at : b ≡ later → Progress now y later
              at eq = progress m x a up-here found q y later (ap (λ (v : Transaction). v.client) (sym (y-is (Committed b) f))) (ap (λ (z : Commitment). z.works) (sym eq) ∙ w')
                  (λ W k. subst (λ (z : Commitment). is_work W z.done ≡ true) eq (d' W k)) (λ k. subst (λ (z : Commitment). z.thanked ≡ true) eq (t' k))
                  (λ W work i. done-leaves (machine files epochs d.world (reached d g)) T.server m.coordinator m.tickets ((let R = reached d g in R.mirrors.transactions T.server m up-here)) T x a found q W work y later
                  (sym (ap (λ z. transaction_at T (coordinator_row m.coordinator room.free.records m.tickets z).table.transactions) i.1) ∙ then-found) then-stage)
                  (λ i. thanks-leaves (machine files epochs d.world (reached d g)) T.server m.coordinator m.tickets ((let R = reached d g in R.mirrors.transactions T.server m up-here)) T x a found q x.client y later
                  (sym (ap (λ z. transaction_at T (coordinator_row m.coordinator room.free.records m.tickets z).table.transactions) i.1) ∙ then-found) then-stage)

          on : (z : Stage) → transaction_at T c-row.table.transactions ≡ Some (record x { stage = z }) → Move x c-row.messages c-row.notes z → Progress now y later
          on z f (starts b q) = absurd (voting-no b (at-stage (Voting b) f))
          on z f (notes_one b W q) = absurd (voting-no _ (at-stage _ f))
          on z f (aborts_now cause u told) = absurd (aborted-no cause (at-stage (Aborted cause) f))
          on z f (commits_now a u note told commit) = fresh a f told commit
          on z f (finishes a b q w' d' t') = further a b q f w' d' t'

      by-coordinator : row ≡ of_coordinator m c-row → (y : Transaction) (later : Commitment) → transaction_at T c-row.table.transactions ≡ Some y → y.stage ≡ Committed later → Progress now y later
      by-coordinator r y later then-found then-stage = at (transaction_at T m.coordinator.transactions) refl
        where
          open-no : Open ≡ Committed later → ⊥
          open-no q = cc

          at : (o : Option Transaction) → transaction_at T m.coordinator.transactions ≡ o → Progress now y later
          at None q = absurd (open-no (sym (row-new m.coordinator room.free.records m.tickets T q message y then-found) ∙ then-stage))
          at (Some x) q = by-fate r x y later q then-found then-stage (row-fate (machine files epochs d.world (reached d g)) T.server m.coordinator room.free.records m.tickets ((let R = reached d g in R.mirrors.transactions T.server m up-here)) T x q
              (not-next files epochs d.world (reached d g) T m x up-here q) message)

      here : (n0 : Memory) (y : Transaction) (later : Commitment) → now.world.memory T.server ≡ Some n0 → transaction_at T n0.coordinator.transactions ≡ Some y → y.stage ≡ Committed later → Progress now y later
      here n0 y later up' found' stage' = by (is_for_worker message) refl
        where
          at-row : transaction_at T row.table.coordinator.transactions ≡ Some y
          at-row = ap (λ (z : Memory). transaction_at T z.coordinator.transactions) (some-memory row.table n0 (sym (here-now e) ∙ up')) ∙ found'

          by : (b : Bool) → is_for_worker message ≡ b → Progress now y later
          by true q = unmoved m y later up-here (sym (ap (λ (b : Bool). transaction_at T (if b then of_worker m (worker_row m.worker (storage_of m (stable (d.world.found s)) room) m.tickets message) else of_coordinator m (coordinator_row m.coordinator room.free.records m.tickets message)).table.coordinator.transactions) q) ∙ at-row) stage'
              (λ r f i. true≢false (sym q ∙ ap is_for_worker i.1 ∙ f))
          by false q = let r = ap (λ (b : Bool). if b then of_worker m (worker_row m.worker (storage_of m (stable (d.world.found s)) room) m.tickets message) else of_coordinator m (coordinator_row m.coordinator room.free.records m.tickets message)) q in
              by-coordinator r y later (sym (ap (λ (z : RowOutcome Memory). transaction_at T z.table.coordinator.transactions) r) ∙ at-row) stage'

    pub server-flags : FlagWay now
    server-flags = record { each = λ n0 y later up' found' stage'. by (server_tells s T.server) n0 y later up' found' stage' }
      where
        by : ((server_eq s T.server ≡ true) × (s ≡ T.server)) ⊎ ((server_eq s T.server ≡ false) × (s ≢ T.server)) → (n0 : Memory) (y : Transaction) (later : Commitment) → now.world.memory T.server ≡ Some n0 → transaction_at T n0.coordinator.transactions ≡ Some y
            → y.stage ≡ Committed later → Progress now y later
        by (inl p) n0 y later up' found' stage' = here p.1 n0 y later up' found' stage'
        by (inr p) n0 y later up' found' stage' = unmoved n0 y later (sym (ap (λ (z : World). z.memory T.server) comes.world ∙ ap (λ (b : Bool). if b then Some row.table else d.world.memory T.server) p.0) ∙ up') found' stage' (λ r f i. p.1 i.0)

  -- ---- a server works, where nothing waits

  nothing-waits : (d : Course) (x : Sent) → d.waiting ≡ [] → Waits d.world.sent d.waiting x → ⊥
  nothing-waits d x e w = true≢false (sym w.waits ∙ ap (λ l. list_any (nat_eq w.number) l) e)

  pub work-flags : (d now : Course) (s : ServerNo) (m : Memory) (v : Work) → IsGood d → d.waiting ≡ [] → d.world.memory s ≡ Some m → going_work (stable (d.world.found s)) m.worker ≡ Some v → work_at v.name m.worker ≡ Some v
      → Comes d now None (done s None (carried m d.world s v) d.world) → FlagWay d → FlagWay now
  work-flags d now s m v g e up goes there comes h = record { each = λ n0 x cm up' found stage. at n0 x cm (server_tells s T.server) up' found stage }
    where
      row : RowOutcome Memory
      row = carried m d.world s v

      coordinator : (o : Option Intention) → (of_worker m (carried_row m.worker m.tickets v o)).table.coordinator ≡ m.coordinator
      coordinator None = refl
      coordinator (Some i) = refl

      found-now : (W : WorkId) → goes_in (stable (now.world.found W.server)) W ≡ goes_in (if server_eq s W.server then made_all (carried m d.world s v).changes (stable (d.world.found s)) else stable (d.world.found W.server)) W
      found-now W = ap (λ (z : World). goes_in (stable (z.found W.server)) W) comes.world ∙ by (server_eq s W.server)
        where
          by : (b : Bool) → is_going ((if b then made_all (carried m d.world s v).changes (d.world.found s (λ n. false)) else d.world.found W.server (λ n. false)).works W) ≡ goes_in (if b then made_all (carried m d.world s v).changes (stable (d.world.found s)) else stable (d.world.found W.server)) W
          by true = refl
          by false = refl

      progress : (m0 : Memory) (x : Transaction) (cm : Commitment) → d.world.memory T.server ≡ Some m0 → transaction_at T m0.coordinator.transactions ≡ Some x → x.stage ≡ Committed cm → Progress now x cm
      progress m0 x cm up0 found stage = let p = h.each m0 x cm up0 found stage in record { works = λ W work. works W work (p.works W work); thanks = thanks p.thanks }
        where
          thanks : (cm.thanked ≡ true) ⊎ Thanking d x.client → (cm.thanked ≡ true) ⊎ Thanking now x.client
          thanks (inl q) = inl q
          thanks (inr (to_client w)) = absurd (nothing-waits d _ e w)
          thanks (inr (to_server w)) = absurd (nothing-waits d _ e w)

          tid : (W : WorkId) → is_work W cm.works ≡ true → v.name ≡ W → v.tid ≡ T
          tid W work q = let R = reached d g in sym ((R.mirrors.owner s m v.name v up there).1) ∙ ap (machine files epochs d.world R).owner q ∙ ((inv files epochs d.world R).core.parts T W.server W (is-part d g m0 x cm up0 found stage W work)).owner

          carries : (W : WorkId) → is_work W cm.works ≡ true → s ≡ W.server → goes_in (stable (d.world.found s)) W ≡ true → (o : Option Intention) → slice_get (intentions_of ((stable (d.world.found s)).works v.name)) (m.next v.name) ≡ o → Carries now W
          carries W work place q (Some i) f = goes_on (found-now W ∙ ap (λ (b : Bool). goes_in (if b then made_all (carried m d.world s v).changes (stable (d.world.found s)) else stable (d.world.found W.server)) W) (itself s W.server place)
              ∙ ap (λ z. goes_in (made_all (carried_row m.worker m.tickets v z).changes (stable (d.world.found s))) W) f ∙ q)
            where
              itself : (p q : ServerNo) → p ≡ q → server_eq p q ≡ true
              itself p q e = grind (arith, nat_tests, e)
          carries W work place q None f = on (work_tells v.name W)
            where
              itself : (p q : ServerNo) → p ≡ q → server_eq p q ≡ true
              itself p q e = grind (arith, nat_tests, e)

              on : ((work_eq v.name W ≡ true) × (v.name ≡ W)) ⊎ ((work_eq v.name W ≡ false) × (v.name ≢ W)) → Carries now W
              on (inl p) = to_finish (comes.new (carried m d.world s v).messages refl (Server T.server, messages.Done T W) (subst (λ z. Has (Server T.server, messages.Done T W) (carried_row m.worker m.tickets v z).messages) (sym f)
                  (inl (ap (λ (U : Tid). (Server U.server, messages.Done U v.name)) (tid W work p.1) ∙ ap (λ (V : WorkId). (Server T.server, messages.Done T V)) p.1))))
              on (inr p) = goes_on (found-now W ∙ ap (λ (b : Bool). goes_in (if b then made_all (carried m d.world s v).changes (stable (d.world.found s)) else stable (d.world.found W.server)) W) (itself s W.server place)
                  ∙ ap (λ z. goes_in (made_all (carried_row m.worker m.tickets v z).changes (stable (d.world.found s))) W) f
                  ∙ ap (λ (b : Bool). is_going (if b then None else (stable (d.world.found s)).works W)) p.0 ∙ q)

          works : (W : WorkId) → is_work W cm.works ≡ true → (is_work W cm.done ≡ true) ⊎ Carries d W → (is_work W cm.done ≡ true) ⊎ Carries now W
          works W work (inl q) = inl q
          works W work (inr (to_commit w)) = absurd (nothing-waits d _ e w)
          works W work (inr (to_finish w)) = absurd (nothing-waits d _ e w)
          works W work (inr (goes_on q)) = inr (on (server_tells s W.server))
            where
              on : ((server_eq s W.server ≡ true) × (s ≡ W.server)) ⊎ ((server_eq s W.server ≡ false) × (s ≢ W.server)) → Carries now W
              on (inl p) = carries W work p.1 (ap (λ (z : ServerNo). goes_in (stable (d.world.found z)) W) p.1 ∙ q) (slice_get (intentions_of ((stable (d.world.found s)).works v.name)) (m.next v.name)) refl
              on (inr p) = goes_on (found-now W ∙ ap (λ (b : Bool). goes_in (if b then made_all (carried m d.world s v).changes (stable (d.world.found s)) else stable (d.world.found W.server)) W) p.0 ∙ q)

      at : (n0 : Memory) (x : Transaction) (cm : Commitment) → ((server_eq s T.server ≡ true) × (s ≡ T.server)) ⊎ ((server_eq s T.server ≡ false) × (s ≢ T.server)) → now.world.memory T.server ≡ Some n0 → transaction_at T n0.coordinator.transactions ≡ Some x → x.stage ≡ Committed cm → Progress now x cm
      at n0 x cm (inl p) up' found stage = progress m x cm (sym (ap d.world.memory p.1) ∙ up) (ap (λ (z : CoordinatorTable). transaction_at T z.transactions) (sym (coordinator (slice_get (intentions_of ((stable (d.world.found s)).works v.name)) (m.next v.name))))
          ∙ ap (λ (z : Memory). transaction_at T z.coordinator.transactions) (some-memory (carried m d.world s v).table n0 (sym (ap (λ (z : World). z.memory T.server) comes.world ∙ ap (λ (b : Bool). if b then Some (carried m d.world s v).table else d.world.memory T.server) p.0) ∙ up')) ∙ found) stage
      at n0 x cm (inr p) up' found stage = progress n0 x cm (sym (ap (λ (z : World). z.memory T.server) comes.world ∙ ap (λ (b : Bool). if b then Some (carried m d.world s v).table else d.world.memory T.server) p.0) ∙ up') found stage

  -- ---- from the asking on

  pub ask-flags : (clients : List ClientNo) (servers : List ServerNo) (d now : Course) → IsGood d → Asked clients servers d now → list_any (λ q. server_eq q T.server) servers ≡ true → FlagWay now
  ask-flags clients servers d now g a among = record { each = λ m x cm up found stage. on m x cm (ap (λ f. f T.server) (sym a.memory) ∙ up) found stage }
    where
      on : (m : Memory) (x : Transaction) (cm : Commitment) → d.world.memory T.server ≡ Some m → transaction_at T m.coordinator.transactions ≡ Some x → x.stage ≡ Committed cm → Progress now x cm
      on m x cm up found stage = record { works = λ W work. works W work (is_work W cm.done) refl; thanks = thanks cm.thanked refl }
        where
          name : x.tid ≡ T
          name = tid-name T m.coordinator.transactions x found

          sent : (y : Sent) → Has y (told_again x (Committed cm)) → Waits now.world.sent now.waiting y
          sent y h = a.from_server T.server m among up y (has-after (worker_again (stable (d.world.found T.server)) m.worker) (coordinator_again m.coordinator.transactions) y
              (again-has T m.coordinator.transactions x y found (subst (λ (z : Stage). Has y (told_again x z)) (sym stage) h)))

          works : (W : WorkId) → is_work W cm.works ≡ true → (b : Bool) → is_work W cm.done ≡ b → (is_work W cm.done ≡ true) ⊎ Carries now W
          works W work true q = inl q
          works W work false q = inr (to_commit (sent _ (has-before (commits x.tid (besides cm.works cm.done)) _ _ (subst (λ (U : Tid). Has (Server W.server, messages.Commit U W) (commits x.tid (besides cm.works cm.done))) name (has-commit x.tid W (besides cm.works cm.done) (in-left W cm.works cm.done work q))))))

          thanks : (b : Bool) → cm.thanked ≡ b → (cm.thanked ≡ true) ⊎ Thanking now x.client
          thanks true q = inl q
          thanks false q = inr (to_client (sent _ (has-after (commits x.tid (besides cm.works cm.done)) _ _ (subst (λ (b : Bool). Has (Client x.client, messages.Outcome x.client T outcomes.Committed) (if b then [] else committed_to x ∷ [])) (sym q)
              (inl (ap (λ (U : Tid). (Client x.client, messages.Outcome x.client U outcomes.Committed)) name))))))
