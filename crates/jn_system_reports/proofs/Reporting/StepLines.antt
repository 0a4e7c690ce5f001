-- What holds of the lines that a step adds, where it holds of those that report an abort or a broken work.
use Rattle.jn_system_reports.proofs.Common.{◌≡◌, inl, inr, ℕ, ◌+◌, Bool, true, false, List, [], ◌∷◌, ◌++◌, append-nil, Option, Some, None, refl, sym, ◌∙◌, ap, subst, arith, ◌||◌, if◌then◌else◌, slice_get, list_any, ServerNo, ClientNo, Tid, LockUnit, Tickets, Cause, Client, Server, Intention, Message, Note, Text, Work, Taken, stable, RowOutcome, Sent, WorkerTable, WorkStorage, worker_row, worker_step, going_work, carried_row, intentions_of, going_row, coordinator_row, close_clients_row, ClientTable, Machine, World, Memory, at_client, has_line, Room, storage_of, of_worker, of_coordinator, line_of, lines_of, named_now, Step, after, done, Mirrors, IsTrue, holds-of, openings, Facts, ClientRow, by_command, by_ignoring, by_answering, by_telling, ServerRow, of_message, of_work, of_closing, by_narrowing, by_raising, Quiet, event_begins, none_changes, is_refused, client_repeats, server_repeats, is_lost, StepCase, client_row, row_done, row_stopped, gone_late, gone_down, come_up, found_anew, dismissed, quietly, step-case, row-either, row-of-step}
use Rattle.jn_msgs.specs.declared.message.Note.TheVariants as notes
use Rattle.jn_report.specs.declared.line.Text.TheVariants as says
use Rattle.jn_system_reports.proofs.Reporting.Lists.{In, Each, each-append, each-in, get-in}
use Rattle.jn_system_reports.proofs.Reporting.Past.{SaysPast}
use Rattle.jn_system_reports.proofs.Reporting.PastRows.{is_broke}
use Rattle.jn_system_reports.proofs.Reporting.PastSteps.{PastFacts}
use Rattle.jn_system_reports.proofs.Reporting.Outcomes.{IsTrueAbort, AbortsTruly, take-aborts}

-- lines that report neither, nor a server's files
abbrev pub IsPlainText : Text → Type 0
IsPlainText (says.Aborted c j T cause) = ⊥
IsPlainText (says.Broke s T u by) = ⊥
IsPlainText (says.File s f) = ⊥
IsPlainText (says.Page s f p bytes) = ⊥
IsPlainText (says.Locked s u T) = ⊥
IsPlainText text = Unit {0}

pub record AddsLines (P : Text → Type 0) (r q : World) : Type 0 where
  pub texts : List Text
  pub adds : q.lines ≡ r.lines ++ texts
  pub each : Each P texts

module _ (P : Text → Type 0) (plain : (text : Text) → IsPlainText text → P text) (r : World) where
  note-line : (s : ServerNo) (k : Option ℕ) (note : Note) → ((T : Tid) (u : LockUnit) (by : Tid) → note ≡ notes.Broke T u by → P (says.Broke s T u by)) → Each P (line_of s k note)
  note-line s k (notes.Commit T) h = (plain (says.Commit T) tt, tt)
  note-line s k (notes.Broke T u by) h = (h T u by refl, tt)
  note-line s (Some k) notes.Ignored h = (plain (says.Ignored k) tt, tt)
  note-line s None notes.Ignored h = tt

  notes-lines : (s : ServerNo) (k : Option ℕ) (told : List Note) → ((T : Tid) (u : LockUnit) (by : Tid) → In (notes.Broke T u by) told → P (says.Broke s T u by)) → Each P (lines_of s k told)
  notes-lines s k [] h = tt
  notes-lines s k (note ∷ told) h = each-append P (line_of s k note) (lines_of s k told) (note-line s k note (λ T u by e. h T u by (inl e))) (notes-lines s k told (λ T u by i. h T u by (inr i)))

  none-broke : (told : List Note) → list_any is_broke told ≡ false → (T : Tid) (u : LockUnit) (by : Tid) → In (notes.Broke T u by) told → ⊥
  none-broke [] h T u by i = absurd i
  none-broke (note ∷ told) h T u by (inl e) = both (is_broke note) (list_any is_broke told) h (ap is_broke e)
    where
      both : (a b : Bool) → (a || b) ≡ false → a ≡ true → ⊥
      both a b k l = grind arith
  none-broke (note ∷ told) h T u by (inr i) = none-broke told (second (is_broke note) (list_any is_broke told) h) T u by i
    where
      second : (a b : Bool) → (a || b) ≡ false → b ≡ false
      second a b k = grind arith

  now-lines : (Ts : List Tid) (lines : List Text) → Each P (named_now Ts lines)
  now-lines [] lines = tt
  now-lines (T ∷ Ts) lines = by (has_line T lines) (now-lines Ts lines)
    where
      by : (b : Bool) → Each P (named_now Ts lines) → Each P (if b then named_now Ts lines else says.Commit T ∷ named_now Ts lines)
      by true h = h
      by false h = (plain (says.Commit T) tt, h)

  one : (q : World) (text : Text) → q.lines ≡ r.lines ++ text ∷ [] → P text → AddsLines P r q
  one q text e h = record { texts = text ∷ []; adds = e; each = (h, tt) }

  none : (q : World) → q.lines ≡ r.lines → AddsLines P r q
  none q e = record { texts = []; adds = e ∙ sym (append-nil r.lines); each = tt }

  -- a worker that works reports nothing
  step-quiet : (t : WorkerTable) (s : WorkStorage) (k : Tickets) (row : RowOutcome WorkerTable) → worker_step t s k ≡ Some row → list_any is_broke row.notes ≡ false
  step-quiet t s k row h = by (going_work s.state t) h
    where
      some : {a b : RowOutcome WorkerTable} → Some a ≡ Some b → a ≡ b
      some q = cc

      nothing : None ≡ Some row → ⊥
      nothing z = cc

      carried : (x : Work) (o : Option Intention) → list_any is_broke (carried_row t k x o).notes ≡ false
      carried x (Some i) = refl
      carried x None = refl

      rest : (b : Bool) → (if b then Some (record { table = t; changes = []; messages = []; notes = []; tickets = k }) else None) ≡ Some row → list_any is_broke row.notes ≡ false
      rest true q = subst (λ (z : RowOutcome WorkerTable). list_any is_broke z.notes ≡ false) (some q) refl
      rest false q = absurd (nothing q)

      by : (o : Option Work) → going_row t s k o ≡ Some row → list_any is_broke row.notes ≡ false
      by (Some x) q = subst (λ (z : RowOutcome WorkerTable). list_any is_broke z.notes ≡ false) (some q) (carried x (slice_get (intentions_of (s.state.works x.name)) (s.next x.name)))
      by None q = rest s.rubbish q

  module _ (w : Machine) (Caused : ClientNo → Tid → Cause → Type 0) (mirrors : Mirrors r w) (facts : Facts r w) (past : PastFacts r.sent r.clients r.memory r.found w Caused) (After : World → Type 0)
      (told : (c : ClientNo) (text : Text) → IsTrueAbort (openings r.sent) r.clients w Caused c (facts.clients c).name text → P text)
      (broke : (s : ServerNo) (m : Memory) (is : r.memory s ≡ Some m) (k : ℕ) (room : Room) (message : Message) → In (Server s, message) r.sent → After (done s (Some k) (of_worker m (worker_row m.worker (storage_of m (stable (r.found s)) room) m.tickets message)) r)
      → (T : Tid) (u : LockUnit) (by : Tid) → In (notes.Broke T u by) (worker_row m.worker (storage_of m (stable (r.found s)) room) m.tickets message).notes → P (says.Broke s T u by))
      (silent : (s : ServerNo) (m : Memory) (is : r.memory s ≡ Some m) (room : Room) (message : Message) → In (Server s, message) r.sent → list_any is_broke (coordinator_row m.coordinator room.free.records m.tickets message).notes ≡ false) where
    client-lines : (c : ClientNo) (step : Step) (u : ClientTable) (sent : List Sent) (lines : List Text) → ClientRow r c step u sent lines → AddsLines P r (record r { clients = at_client r.clients c u; sent = sent; lines = lines })
    client-lines c _ _ _ _ (by_command command u to message e) = none _ refl
    client-lines c _ _ _ _ (by_ignoring k room stop message u i e) = one _ (says.Ignored k) refl (plain (says.Ignored k) tt)
    client-lines c _ _ _ _ (by_answering k room stop message u to answer i e) = none _ refl
    client-lines c _ _ _ _ (by_telling k room stop message u line answer i e) = one _ line refl (told c line (subst (λ (x : ClientTable × Taken). AbortsTruly (openings r.sent) r.clients w Caused c (facts.clients c).name x) e
        (take-aborts (openings r.sent) r.clients w Caused c (facts.clients c).name message (holds-of (IsTrue w) r.sent k (Client c, message) mirrors.says i) (each-in (SaysPast (openings r.sent) r.clients w Caused) r.sent (Client c, message) past.says (get-in r.sent k (Client c, message) i)))))

    -- a row that reports no broken work
    quiet-lines : (s : ServerNo) (k : Option ℕ) (row : RowOutcome Memory) → list_any is_broke row.notes ≡ false → AddsLines P r (done s k row r)
    quiet-lines s k row h = record { texts = lines_of s k row.notes; adds = refl; each = notes-lines s k row.notes (λ T u by i. absurd (none-broke row.notes h T u by i)) }

    row-lines : (s : ServerNo) (m : Memory) (step : Step) (k : Option ℕ) (row : RowOutcome Memory) → r.memory s ≡ Some m → ServerRow r s m None step k row → After (done s k row r) → AddsLines P r (done s k row r)
    row-lines s m _ _ _ is (of_message _ k room message e) l = row-either (λ (row : RowOutcome Memory). After (done s (Some k) row r) → AddsLines P r (done s (Some k) row r)) m (stable (r.found s)) room message
        (λ l. record { texts = lines_of s (Some k) (worker_row m.worker (storage_of m (stable (r.found s)) room) m.tickets message).notes; adds = refl; each = notes-lines s (Some k) _ (broke s m is k room message (get-in r.sent k (Server s, message) e) l) })
        (λ l. quiet-lines s (Some k) (of_coordinator m (coordinator_row m.coordinator room.free.records m.tickets message)) (silent s m is room message (get-in r.sent k (Server s, message) e))) l
    row-lines s m _ _ _ is (of_work _ room row e) l = row-of-step (λ (row : RowOutcome Memory). AddsLines P r (done s None row r)) m (stable (r.found s)) room row e (λ step f. quiet-lines s None (of_worker m step) (step-quiet m.worker (storage_of m (stable (r.found s)) room) m.tickets step f))
    row-lines s m _ _ _ is of_closing l = quiet-lines s None (of_coordinator m (close_clients_row m.coordinator m.tickets)) refl

    quietly-lines : (step : Step) (event : ℕ) (sent : List Sent) (lines : List Text) → Quiet r step event sent lines → AddsLines P r (record r { event = event; sent = sent; lines = lines })
    quietly-lines _ _ _ _ event_begins = none _ refl
    quietly-lines _ _ _ _ (none_changes step) = none _ refl
    quietly-lines _ _ _ _ (is_refused c command refusal e) = one _ (says.Refused c r.event refusal) refl (plain (says.Refused c r.event refusal) tt)
    quietly-lines _ _ _ _ (client_repeats c) = none _ refl
    quietly-lines _ _ _ _ (server_repeats s m e) = none _ refl
    quietly-lines _ _ _ _ (is_lost k room stop s message e f) = one _ (says.Lost k) refl (plain (says.Lost k) tt)

    by-case : (step : Step) (now : World) → StepCase r step now → After now → AddsLines P r now
    by-case step _ (client_row _ c u sent lines row) l = client-lines c step u sent lines row
    by-case step _ (row_done _ s m k row is how) l = row-lines s m step k row is how l
    by-case _ _ (row_stopped _ s m k row made is how) l = one _ (says.Stopped s) refl (plain (says.Stopped s) tt)
    by-case _ _ (gone_late s m T is) l = none _ refl
    by-case _ _ (gone_down s m is) l = one _ (says.Down s) refl (plain (says.Down s) tt)
    by-case _ _ (come_up s pick Ws Ts is) l = record { texts = says.Up s ((r.found s pick).epoch + 1) ∷ named_now Ts r.lines; adds = refl; each = (plain (says.Up s ((r.found s pick).epoch + 1)) tt, now-lines Ts r.lines) }
    by-case _ _ (found_anew _ s _ _ is (by_narrowing g)) l = none _ refl
    by-case _ _ (found_anew _ s _ _ is (by_raising raise)) l = one _ (says.Stopped s) refl (plain (says.Stopped s) tt)
    by-case _ _ dismissed l = none _ refl
    by-case step _ (quietly _ event sent lines is) l = quietly-lines step event sent lines is

    pub step-lines : (step : Step) → After (after step r) → AddsLines P r (after step r)
    step-lines step l = by-case step (after step r) (step-case r step) l
