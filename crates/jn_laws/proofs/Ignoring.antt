-- A message is reported as ignored only where it is stale.
use Rattle.jn_laws.proofs.Common.{◌≡◌, ℕ, Bool, true, false, List, [], ◌∷◌, ◌++◌, Option, Some, None, refl, sym, ◌∙◌, ap, ◌||◌, if◌then◌else◌, list_any, ServerNo, Tid, WorkId, Party, Client, Server, client_eq, Message, Text, Taken, RowOutcome, ignored, stable, ClientTable, take_row, if_waits, begun_row, opened_row, outcome_row, decided_row, is_current, CoordinatorTable, WorkerTable, WorkStorage, Wanted, break_notes, note_of, breaks_at, commit_wants, Memory, storage_of, of_worker, of_coordinator, lines_of, CoordinatorCase, is_ignored_by, coordinator-case, Setup, is_answer, Moment, tells_ignored, room_on, of_server, of_taken, its_answer, IsStale, LockUnit, its_wants, WorkerCase, none_done, performs_next, prepares_it, worker-case}
use Rattle.jn_msgs.specs.declared.message.Message.TheVariants as messages
use Rattle.jn_msgs.specs.declared.message.Outcome.{Outcome}
use Rattle.jn_msgs.specs.declared.message.Outcome.TheVariants.{Committed, Aborted, Waiting, NotKnown}
use Rattle.jn_report.specs.declared.line.Text.TheVariants as says
use Rattle.jn_rows.specs.declared.client.Outstanding.{Outstanding}
use Rattle.jn_rows.specs.declared.client.Taken.TheVariants as taken
use Rattle.jn_system.proofs.WholeSystem.ServerRows.{row-either}
use Rattle.jn_machine.proofs.Telling.{Tells, take-tells}

off : false ≡ true → ⊥
off e = cc

-- ---- servers

module _ (q : ServerNo) (k : ℕ) where
  breaks : (T : Tid) (W : WorkId) (wants : List Wanted) (t : WorkerTable) → list_any tells_ignored (lines_of q (Some k) (break_notes T W wants t)) ≡ false
  breaks T W wants [] = refl
  breaks T W wants (v ∷ vs) = by (breaks_at W wants v) (breaks T W wants vs)
    where
      by : (o : Option LockUnit) → list_any tells_ignored (lines_of q (Some k) (break_notes T W wants vs)) ≡ false → list_any tells_ignored (lines_of q (Some k) (note_of T o v ++ break_notes T W wants vs)) ≡ false
      by None h = h
      by (Some u) h = h

  module _ (m : Memory) where
    worker-only : (s : WorkStorage) (message : Message) (row : RowOutcome WorkerTable) → WorkerCase m.worker s m.tickets message row → list_any tells_ignored (lines_of q (Some k) row.notes) ≡ true → of_worker m row ≡ ignored m m.tickets
    worker-only s _ _ (none_done _) e = refl
    worker-only s _ _ (performs_next c r W n op w a at active number granted) e = absurd (off (sym (breaks w.tid w.name (its_wants s a op) m.worker) ∙ e))
    worker-only s _ _ (prepares_it T c W w a at active ready) e = absurd (off (sym (breaks w.tid w.name (commit_wants a.writes) m.worker) ∙ e))
    worker-only s _ _ case e = absurd (off e)

    coordinator-only : (free : ℕ) (message : Message) (row : RowOutcome CoordinatorTable) → CoordinatorCase m.coordinator free m.tickets message row → list_any tells_ignored (lines_of q (Some k) row.notes) ≡ true → of_coordinator m row ≡ ignored m m.tickets
    coordinator-only free _ _ (is_ignored_by _) e = refl
    coordinator-only free _ _ case e = absurd (off e)

-- ---- clients

module _ (t : ClientTable) where
  abbrev Stays : ClientTable × Taken → Type 0
  Stays (u, taken.Ignored) = u ≡ t
  Stays (u, what) = Unit {0}

  either : (b : Bool) (row other : ClientTable × Taken) → Stays row → Stays other → Stays (if b then row else other)
  either true row other h l = h
  either false row other h l = l

  waits : (o : Option Outstanding) (test : Outstanding → Bool) (row : ℕ → ClientTable × Taken) → ((j : ℕ) → Stays (row j)) → Stays (if_waits t o test row)
  waits None test row h = refl
  waits (Some x) test row h = either (test x) (row x.event) (t, taken.Ignored) (h x.event) refl

  begun : (j : ℕ) (o : Option Tid) → Stays (begun_row t j o)
  begun j (Some T) = tt
  begun j None = tt

  opened : (j : ℕ) (o : Option WorkId) → Stays (opened_row t j o)
  opened j (Some W) = tt
  opened j None = tt

  decided : (T : Tid) (line : ℕ → Text) → Stays (decided_row t T line)
  decided T line = either (is_current t T) _ _ (waits t.outstanding _ _ (λ j. tt)) tt

  outcome : (T : Tid) (what : Outcome) → Stays (outcome_row t T what)
  outcome T Committed = decided T _
  outcome T (Aborted cause) = decided T _
  outcome T (Waiting s u by) = either (is_current t T) _ _ (waits t.outstanding _ _ (λ j. tt)) refl
  outcome T (NotKnown s epoch) = either (is_current t T) _ _ (waits t.outstanding _ _ (λ j. tt)) refl

  stays : (m : Message) → Stays (take_row t m)
  stays (messages.Begun c request answer) = waits t.outstanding _ _ (λ j. begun j answer)
  stays (messages.Opened c request T answer) = waits t.outstanding _ _ (λ j. opened j answer)
  stays (messages.Answer c request answer) = waits t.outstanding _ _ (λ j. tt)
  stays (messages.Outcome c T what) = either (client_eq c t.client) _ _ (outcome T what) refl
  stays m = refl

  is-other : (line : Text) → is_answer line ≡ true → (tells_ignored line || false) ≡ true → ⊥
  is-other (says.Ignored k) e f = off e
  is-other line e f = off f

  client-only : (k : ℕ) (row : ClientTable × Taken) → Stays row → Tells row → list_any tells_ignored (of_taken k row.1).texts ≡ true → row ≡ (t, taken.Ignored)
  client-only k (u, taken.Ignored) h l e = ap (λ (v : ClientTable). (v, taken.Ignored)) h
  client-only k (u, taken.Send to message) h l e = absurd (off e)
  client-only k (u, taken.Told line answer) h l e = absurd (is-other line l e)

-- ---- each

pub only-stale : (x : Setup) (m : Moment) (k : ℕ) (to : Party) (message : Message) → list_any tells_ignored (its_answer x m k to message).texts ≡ true → IsStale x m to message
only-stale x m k (Client c) message e = let t = m.state.clients c in client-only t k (take_row t message) (stays t message) (take-tells t message) e
only-stale x m k (Server q) message e = by (m.state.course.world.memory q) refl e
  where
    by : (o : Option Memory) → m.state.course.world.memory q ≡ o → list_any tells_ignored (of_server x m k q message o).texts ≡ true → IsStale x m (Server q) message
    by None z f = absurd (off f)
    by (Some memory) z f = (
      memory,
      z,
      row-either (λ (row : RowOutcome Memory). list_any tells_ignored (lines_of q (Some k) row.notes) ≡ true → row ≡ ignored memory memory.tickets) memory (stable (m.state.course.world.found q)) (room_on x m q memory) message
          (worker-only q k memory (storage_of memory (stable (m.state.course.world.found q)) (room_on x m q memory)) message _ (worker-case memory.worker (storage_of memory (stable (m.state.course.world.found q)) (room_on x m q memory)) memory.tickets message))
          (coordinator-only q k memory (room_on x m q memory).free.records message _ (coordinator-case memory.coordinator (room_on x m q memory).free.records memory.tickets message)) f,
    )
