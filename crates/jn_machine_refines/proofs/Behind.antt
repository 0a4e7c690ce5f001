-- With lines of servers that came up before its own, a world goes the same way.
use Rattle.jn_machine_refines.proofs.Common.{◌≡◌, ℕ, ◌+◌, Bool, true, List, [], ◌∷◌, ◌++◌, append_assoc, Option, Some, None, refl, sym, ◌∙◌, ap, arith, ◌&&◌, if◌then◌else◌, slice_get, list_all, list_any, ServerNo, ClientNo, Tid, WorkId, Client, Server, tid_eq, Text, Taken, Pick, stable, RowOutcome, Sent, World, Memory, committed_in, commits_in, has_line, Room, server_row, server_step, of_coordinator, named_now, Step, Tell, Deliver, Work, Nudge, Timeout, StopDelivery, StopWork, Crash, Narrow, StopRestart, Restart, CloseClients, after, run, ends, at_memory, handed, work, works, nudge, timeout, crash, narrow, stop_restart, restart, close_clients, commanded, took, is_up, behind, Left}
use Rattle.jn_rows.specs.Coordinator.{close_clients_row}
use Rattle.jn_report.specs.declared.line.Text.TheVariants as says
use Rattle.jn_rows.specs.declared.client.Taken.TheVariants as taken
use Rattle.jn_rows.specs.Client.{ClientTable, Commanded, Refuses, Sends, command_row, take_row}
use Rattle.jn_system.specs.WholeSystem.Servers.{lines_of}

first-of : (a b : Bool) → (a && b) ≡ true → a ≡ true
first-of a b h = grind arith

second-of : (a b : Bool) → (a && b) ≡ true → b ≡ true
second-of a b h = grind arith

commits-append : (a b : List Text) → commits_in (a ++ b) ≡ commits_in a ++ commits_in b
commits-append [] b = refl
commits-append (text ∷ a) b = ap (λ (Ts : List Tid). committed_in text ++ Ts) (commits-append a b) ∙ sym (append_assoc (committed_in text) (commits_in a) (commits_in b))

up-names-none : (text : Text) → is_up text ≡ true → committed_in text ≡ []
up-names-none text h = grind arith

pub ups-name-none : (ups : List Text) → list_all is_up ups ≡ true → commits_in ups ≡ []
ups-name-none [] h = refl
ups-name-none (text ∷ ups) h = ap (λ (Ts : List Tid). Ts ++ commits_in ups) (up-names-none text (first-of _ _ h)) ∙ ups-name-none ups (second-of _ _ h)

module _ (ups : List Text) (mute : commits_in ups ≡ []) where
  same-line : (T : Tid) (ls : List Text) → has_line T (ups ++ ls) ≡ has_line T ls
  same-line T ls = ap (λ (Us : List Tid). list_any (λ U. tid_eq U T) Us) (commits-append ups ls ∙ ap (λ (Ts : List Tid). Ts ++ commits_in ls) mute)

  same-named : (Ts : List Tid) (ls : List Text) → named_now Ts (ups ++ ls) ≡ named_now Ts ls
  same-named [] ls = refl
  same-named (T ∷ Ts) ls = ap (λ (b : Bool). if b then named_now Ts (ups ++ ls) else says.Commit T ∷ named_now Ts (ups ++ ls)) (same-line T ls)
      ∙ ap (λ (rest : List Text). if has_line T ls then rest else says.Commit T ∷ rest) (same-named Ts ls)

  -- this world with more lines
  longer : (now : World) (ls texts : List Text) → record now { lines = (ups ++ ls) ++ texts } ≡ record now { lines = ups ++ (ls ++ texts) }
  longer now ls texts = ap (λ (all : List Text). record now { lines = all }) (append_assoc ups ls texts)

  module _ (w : World) where
    -- the same way where a server is down, and where it is up
    by-memory : (f : Option Memory → World → World) (o : Option Memory) → f None (behind ups w) ≡ behind ups (f None w) → ((m : Memory) → f (Some m) (behind ups w) ≡ behind ups (f (Some m) w)) → f o (behind ups w) ≡ behind ups (f o w)
    by-memory f None down up = down
    by-memory f (Some m) down up = up m

    commanded-behind : (c : ClientNo) (row : Commanded) → commanded c row (behind ups w) ≡ behind ups (commanded c row w)
    commanded-behind c (Refuses refusal) = longer w w.lines (says.Refused c w.event refusal ∷ [])
    commanded-behind c (Sends t to message) = refl

    took-behind : (c : ClientNo) (k : ℕ) (t : ClientTable) (what : Taken) → took c k t what (behind ups w) ≡ behind ups (took c k t what w)
    took-behind c k t taken.Ignored = longer (took c k t taken.Ignored w) w.lines (says.Ignored k ∷ [])
    took-behind c k t (taken.Send to message) = refl
    took-behind c k t (taken.Told line answer) = longer (took c k t (taken.Told line answer) w) w.lines (line ∷ [])

    ends-behind : (s : ServerNo) (k : Option ℕ) (stop : Option (Pick → Left)) (row : RowOutcome Memory) → ends s k stop row (behind ups w) ≡ behind ups (ends s k stop row w)
    ends-behind s k None row = longer (ends s k None row w) w.lines (lines_of s k row.notes)
    ends-behind s k (Some made) row = longer (ends s k (Some made) row w) w.lines (says.Stopped s ∷ [])

    handed-behind : (k : ℕ) (room : Room) (stop : Option (Pick → Left)) (o : Option Sent) → handed k room stop o (behind ups w) ≡ behind ups (handed k room stop o w)
    handed-behind k room stop None = refl
    handed-behind k room stop (Some (Client c, message)) = took-behind c k (take_row (w.clients c) message).0 (take_row (w.clients c) message).1
    handed-behind k room stop (Some (Server s, message)) = by-memory (at_memory s k room stop message) (w.memory s) (longer w w.lines (says.Lost k ∷ [])) (λ m. ends-behind s (Some k) stop (server_row m (stable (w.found s)) room message))

    works-behind : (s : ServerNo) (stop : Option (Pick → Left)) (o : Option (RowOutcome Memory)) → works s stop o (behind ups w) ≡ behind ups (works s stop o w)
    works-behind s stop None = refl
    works-behind s stop (Some row) = ends-behind s None stop row

    work-behind : (s : ServerNo) (room : Room) (stop : Option (Pick → Left)) → work s room stop (w.memory s) (behind ups w) ≡ behind ups (work s room stop (w.memory s) w)
    work-behind s room stop = by-memory (work s room stop) (w.memory s) refl (λ m. works-behind s stop (server_step m (stable (w.found s)) room))

    restart-behind : (s : ServerNo) (pick : Pick) (Ws : List WorkId) (Ts : List Tid) → restart s pick Ws Ts None (behind ups w) ≡ behind ups (restart s pick Ws Ts None w)
    restart-behind s pick Ws Ts = ap (λ (named : List Text). record (restart s pick Ws Ts None w) { lines = (ups ++ w.lines) ++ (says.Up s ((w.found s pick).epoch + 1) ∷ named) }) (same-named Ts w.lines)
        ∙ longer (restart s pick Ws Ts None w) w.lines (says.Up s ((w.found s pick).epoch + 1) ∷ named_now Ts w.lines)

    pub step-behind : (step : Step) → after step (behind ups w) ≡ behind ups (after step w)
    step-behind (Tell c command) = commanded-behind c (command_row (w.clients c) w.event command)
    step-behind (Deliver k room) = handed-behind k room None (slice_get w.sent k)
    step-behind (StopDelivery k room made) = handed-behind k room (Some made) (slice_get w.sent k)
    step-behind (Work s room) = work-behind s room None
    step-behind (StopWork s room made) = work-behind s room (Some made)
    step-behind (Nudge s) = by-memory (nudge s) (w.memory s) refl (λ m. refl)
    step-behind (Timeout s T) = by-memory (timeout s T) (w.memory s) refl (λ m. refl)
    step-behind (Crash s) = by-memory (crash s) (w.memory s) refl (λ m. longer (crash s (Some m) w) w.lines (says.Down s ∷ []))
    step-behind (Narrow s g) = by-memory (narrow s g) (w.memory s) refl (λ m. refl)
    step-behind (StopRestart s raised) = by-memory (stop_restart s raised) (w.memory s) (longer (stop_restart s raised None w) w.lines (says.Stopped s ∷ [])) (λ m. refl)
    step-behind (Restart s pick Ws Ts) = by-memory (restart s pick Ws Ts) (w.memory s) (restart-behind s pick Ws Ts) (λ m. refl)
    step-behind (CloseClients s) = by-memory (close_clients s) (w.memory s) refl (λ m. ends-behind s None None (of_coordinator m (close_clients_row m.coordinator m.tickets)))
    step-behind _ = refl

  pub run-behind : (steps : List Step) (w : World) → run steps (behind ups w) ≡ behind ups (run steps w)
  run-behind [] w = refl
  run-behind (step ∷ steps) w = ap (λ (v : World). run steps v) (step-behind w step) ∙ run-behind steps (after step w)
