-- The end of a run reports nothing that needs a cause or answers a client, as no client waits for anything.
use Rattle.jn_system_reports.proofs.Common.{◌≡◌, ℕ, ◌+◌, Bool, true, false, List, [], ◌∷◌, ◌++◌, append-nil, length, Option, Some, None, refl, sym, ◌∙◌, subst, arith, ◌&&◌, if◌then◌else◌, map, list_all, ServerNo, ClientNo, Tid, client_eq, AllFiles, Message, Note, Outcome, Event, Line, Text, Outstanding, Taken, Pick, RowOutcome, Sent, ClientTable, is_current, if_waits, decided_row, outcome_row, take_row, World, Memory, at_client, has_line, opening, servers_from, line_of, lines_of, named_now, Step, Tell, StopDelivery, StopWork, StopRestart, Dismiss, CloseClients, IsIdle, after, history_of, is_answer, Caused, Caused-lines, needs_cause, NeedNoCause, CausedFrom-plain, Printed, FileThere, PageStored, UnitLocked, text_printed, Does, Item, events_of, told_by, lines_of_items, world_of, IsReported, Comeback, Ending, restarts_from, steps_at_end, settles, IsEnding, told_by_steps, texts_from, at_end, lines_to_end, StableState, one-client, ClientRow, by_command, by_ignoring, by_answering, by_telling, ServerRow, of_message, of_work, FoundThen, by_narrowing, by_raising, Quiet, event_begins, none_changes, is_refused, client_repeats, server_repeats, is_lost, StepCase, client_row, row_done, row_stopped, gone_late, gone_down, come_up, found_anew, dismissed, quietly, step-case, Left}
use Rattle.jn_system.specs.WholeSystem.Steps.{Crash}
use Rattle.jn_msgs.specs.declared.message.Message.TheVariants as messages
use Rattle.jn_msgs.specs.declared.message.Note.TheVariants as notes
use Rattle.jn_msgs.specs.declared.message.Outcome.TheVariants as outcomes
use Rattle.jn_report.specs.declared.line.Text.TheVariants as says
use Rattle.jn_rows.specs.declared.client.Taken.TheVariants as taken
use Rattle.jn_system_reports.specs.Reporting.Ending.{counted}
use Rattle.jn_system_reports.proofs.Reporting.Lists.{Each, each-append}
use Rattle.jn_system_reports.proofs.Reporting.Hearing.{told-is}
use Rattle.jn_system_reports.proofs.Reporting.Prints.{each-print}
use Rattle.jn_system_reports.proofs.Causing.Causing.{run-causes}

-- neither an abort, a stop, a refused fault nor an answer
abbrev pub IsOfEnd : Text → Type 0
IsOfEnd text = (needs_cause text ≡ false) × (is_answer text ≡ false)

-- ---- steps by which no client is told to do anything, and no server is stopped

abbrev pub IsFinal : Step → Type 0
IsFinal (Tell c command) = ⊥
IsFinal (StopDelivery k room made) = ⊥
IsFinal (StopWork s room made) = ⊥
IsFinal (StopRestart s raised) = ⊥
IsFinal step = Unit {0}

all-final : {A : Type 0} (f : A → Step) → ((a : A) → IsFinal (f a)) → (xs : List A) → Each IsFinal (map f xs)
all-final f h [] = tt
all-final f h (x ∷ xs) = (h x, all-final f h xs)

restarts-final : (first : ℕ) (xs : List Comeback) → Each IsFinal (restarts_from first xs)
restarts-final first [] = tt
restarts-final first (x ∷ xs) = (tt, restarts-final (first + 1) xs)

settle-final : (step : Step) → settles step ≡ true → IsFinal step
settle-final (Tell c command) h = grind arith
settle-final (StopDelivery k room made) h = grind arith
settle-final (StopWork s room made) h = grind arith
settle-final (StopRestart s raised) h = grind arith
settle-final _ h = tt

settling-final : (steps : List Step) → list_all settles steps ≡ true → Each IsFinal steps
settling-final [] h = tt
settling-final (step ∷ steps) h = (settle-final step (first-of (settles step) (list_all settles steps) h), settling-final steps (second-of (settles step) (list_all settles steps) h))
  where
    first-of : (a b : Bool) → (a && b) ≡ true → a ≡ true
    first-of a b k = grind arith

    second-of : (a b : Bool) → (a && b) ≡ true → b ≡ true
    second-of a b k = grind arith

end-final : (servers : ℕ) (e : Ending) → list_all settles e.settling ≡ true → Each IsFinal (steps_at_end servers e)
end-final servers e h = let ss = servers_from 0 servers in let rs = restarts_from 0 e.comebacks in (
  tt,
  each-append IsFinal (map Crash ss ++ rs ++ map CloseClients ss) e.settling
      (each-append IsFinal (map Crash ss ++ rs) (map CloseClients ss) (each-append IsFinal (map Crash ss) rs (all-final Crash (λ s. tt) ss) (restarts-final 0 e.comebacks)) (all-final CloseClients (λ s. tt) ss)) (settling-final e.settling h),
)

-- ---- what they report

pub record TellsPlainly (w q : World) : Type 0 where
  pub new : List Text
  pub adds : q.lines ≡ w.lines ++ new
  pub each : Each IsOfEnd new
  pub idle : (c : ClientNo) → IsIdle (q.clients c)

lines-plain : (s : ServerNo) (k : Option ℕ) (told : List Note) → Each IsOfEnd (lines_of s k told)
lines-plain s k [] = tt
lines-plain s k (note ∷ told) = each-append IsOfEnd (line_of s k note) (lines_of s k told) (one k note) (lines-plain s k told)
  where
    one : (k : Option ℕ) (note : Note) → Each IsOfEnd (line_of s k note)
    one k (notes.Commit T) = ((refl, refl), tt)
    one k (notes.Broke T u by) = ((refl, refl), tt)
    one (Some j) notes.Ignored = ((refl, refl), tt)
    one None notes.Ignored = tt

now-plain : (Ts : List Tid) (lines : List Text) → Each IsOfEnd (named_now Ts lines)
now-plain [] lines = tt
now-plain (T ∷ Ts) lines = by (has_line T lines) (now-plain Ts lines)
  where
    by : (b : Bool) → Each IsOfEnd (named_now Ts lines) → Each IsOfEnd (if b then named_now Ts lines else says.Commit T ∷ named_now Ts lines)
    by true h = h
    by false h = ((refl, refl), h)

-- ---- an idle client

abbrev StaysIdle : ClientTable × Taken → Type 0
StaysIdle (u, taken.Told line answer) = ⊥
StaysIdle (u, what) = IsIdle u

module _ (t : ClientTable) (idle : IsIdle t) where
  waits-idle : (o : Option Outstanding) (test : Outstanding → Bool) (row : ℕ → ClientTable × Taken) → o ≡ None → StaysIdle (if_waits t o test row)
  waits-idle None test row e = idle
  waits-idle (Some x) test row e = absurd (some e)
    where
      some : Some x ≡ None → ⊥
      some q = cc

  either : (b : Bool) (p q : ClientTable × Taken) → StaysIdle p → StaysIdle q → StaysIdle (if b then p else q)
  either true p q h k = h
  either false p q h k = k

  decided-idle : (T : Tid) (line : ℕ → Text) → StaysIdle (decided_row t T line)
  decided-idle T line = either (is_current t T) _ _ (waits-idle t.outstanding _ _ idle.1) idle

  outcome-idle : (T : Tid) (outcome : Outcome) → StaysIdle (outcome_row t T outcome)
  outcome-idle T outcomes.Committed = decided-idle T _
  outcome-idle T (outcomes.Aborted cause) = decided-idle T _
  outcome-idle T (outcomes.Waiting s u by) = either (is_current t T) _ _ (waits-idle t.outstanding _ _ idle.1) idle
  outcome-idle T (outcomes.NotKnown s epoch) = either (is_current t T) _ _ (waits-idle t.outstanding _ _ idle.1) idle

  take-idle : (message : Message) → StaysIdle (take_row t message)
  take-idle (messages.Begun d q o) = waits-idle t.outstanding _ _ idle.1
  take-idle (messages.Opened d q T o) = waits-idle t.outstanding _ _ idle.1
  take-idle (messages.Answer d q answer) = waits-idle t.outstanding _ _ idle.1
  take-idle (messages.Outcome d T outcome) = either (client_eq d t.client) _ _ (outcome-idle T outcome) idle
  take-idle _ = idle

module _ (w : World) (idle : (c : ClientNo) → IsIdle (w.clients c)) where
  tells : (q : World) (new : List Text) → q.lines ≡ w.lines ++ new → q.clients ≡ w.clients → Each IsOfEnd new → TellsPlainly w q
  tells q new adds same h = record { new = new; adds = adds; each = h; idle = λ c. subst (λ f. IsIdle (f c)) (sym same) (idle c) }

  silent : (q : World) → q.lines ≡ w.lines → q.clients ≡ w.clients → TellsPlainly w q
  silent q lines same = tells q [] (lines ∙ sym (append-nil w.lines)) same tt

  one-tells : (c : ClientNo) (u : ClientTable) (sent : List Sent) (lines new : List Text) → lines ≡ w.lines ++ new → Each IsOfEnd new → IsIdle u → TellsPlainly w (record w { clients = at_client w.clients c u; sent = sent; lines = lines })
  one-tells c u sent lines new adds h now = record { new = new; adds = adds; each = h; idle = one-client (λ d t. IsIdle t) w.clients c u now (λ d other. idle d) }

  took-idle : (c : ClientNo) (message : Message) (row : ClientTable × Taken) → take_row (w.clients c) message ≡ row → StaysIdle row
  took-idle c message row e = subst StaysIdle e (take-idle (w.clients c) (idle c) message)

  client-plain : (c : ClientNo) (step : Step) (u : ClientTable) (sent : List Sent) (lines : List Text) → ClientRow w c step u sent lines → IsFinal step → TellsPlainly w (record w { clients = at_client w.clients c u; sent = sent; lines = lines })
  client-plain c _ _ _ _ (by_command command u to message e) h = absurd h
  client-plain c _ _ _ _ (by_ignoring k room stop message u is e) h = one-tells c u _ _ (says.Ignored k ∷ []) refl ((refl, refl), tt) (took-idle c message _ e)
  client-plain c _ _ _ _ (by_answering k room stop message u to answer is e) h = one-tells c u _ _ [] (sym (append-nil w.lines)) tt (took-idle c message _ e)
  client-plain c _ _ _ _ (by_telling k room stop message u line answer is e) h = absurd (took-idle c message _ e)

  never-stopped : (s : ServerNo) (m : Memory) (made : Pick → Left) (step : Step) (k : Option ℕ) (row : RowOutcome Memory) → ServerRow w s m (Some made) step k row → IsFinal step → ⊥
  never-stopped s m _ _ _ _ (of_message (Some made) k room message is) h = h
  never-stopped s m _ _ _ _ (of_work (Some made) room row is) h = h

  found-plain : (s : ServerNo) (step : Step) (found : Pick → StableState) (lines : List Text) → FoundThen w s step found lines → IsFinal step → lines ≡ w.lines
  found-plain s _ _ _ (by_narrowing g) h = refl
  found-plain s _ _ _ (by_raising raise) h = absurd h

  quiet-plain : (step : Step) (event : ℕ) (sent : List Sent) (lines : List Text) → Quiet w step event sent lines → IsFinal step → TellsPlainly w (record w { event = event; sent = sent; lines = lines })
  quiet-plain _ _ _ _ event_begins h = silent _ refl refl
  quiet-plain _ _ _ _ (none_changes step) h = silent _ refl refl
  quiet-plain _ _ _ _ (is_refused c command refusal e) h = absurd h
  quiet-plain _ _ _ _ (client_repeats c) h = silent _ refl refl
  quiet-plain _ _ _ _ (server_repeats s m e) h = silent _ refl refl
  quiet-plain _ _ _ _ (is_lost k room stop s message is e) h = tells _ (says.Lost k ∷ []) refl refl ((refl, refl), tt)

  by-case : (step : Step) (now : World) → StepCase w step now → IsFinal step → TellsPlainly w now
  by-case step _ (client_row _ c u sent lines row) h = client-plain c step u sent lines row h
  by-case _ _ (row_done step s m k row e is) h = tells _ (lines_of s k row.notes) refl refl (lines-plain s k row.notes)
  by-case step _ (row_stopped _ s m k row made e is) h = absurd (never-stopped s m made step k row is h)
  by-case _ _ (gone_late s m T e) h = silent _ refl refl
  by-case _ _ (gone_down s m e) h = tells _ (says.Down s ∷ []) refl refl ((refl, refl), tt)
  by-case _ _ (come_up s pick Ws Ts e) h = tells _ (says.Up s ((w.found s pick).epoch + 1) ∷ named_now Ts w.lines) refl refl ((refl, refl), now-plain Ts w.lines)
  by-case step _ (found_anew _ s found lines e is) h = silent _ (found-plain s step found lines is h) refl
  by-case _ _ dismissed h = record { new = []; adds = sym (append-nil w.lines); each = tt; idle = λ c. (refl, refl) }
  by-case step _ (quietly _ event sent lines is) h = quiet-plain step event sent lines is h

  step-plain : (step : Step) → IsFinal step → TellsPlainly w (after step w)
  step-plain step h = by-case step (after step w) (step-case w step) h

steps-plain : (steps : List Step) (w : World) → ((c : ClientNo) → IsIdle (w.clients c)) → Each IsFinal steps → Each IsOfEnd (told_by_steps steps w)
steps-plain [] w idle h = tt
steps-plain (step ∷ steps) w idle h = let p = step-plain w idle step h.0 in
    each-append IsOfEnd (told_by (Does step) w) (told_by_steps steps (after step w)) (subst (λ l. Each IsOfEnd l) (sym (told-is w step p.new p.adds)) p.each) (steps-plain steps (after step w) p.idle h.1)

-- once the clients are dismissed
pub dismissed-told : (steps : List Step) (w : World) → Each IsFinal steps → Each IsOfEnd (told_by_steps (Dismiss ∷ steps) w)
dismissed-told steps w h = each-append IsOfEnd (told_by (Does Dismiss) w) (told_by_steps steps (after Dismiss w)) (subst (λ l. Each IsOfEnd l) (sym (told-is w Dismiss [] (sym (append-nil w.lines)))) tt) (steps-plain steps (after Dismiss w) (λ c. (refl, refl)) h)

-- ---- the end

print-plain : (s : ServerNo) (x : Printed) → IsOfEnd (text_printed s x)
print-plain s (FileThere f) = (refl, refl)
print-plain s (PageStored f p bytes) = (refl, refl)
print-plain s (UnitLocked u T) = (refl, refl)

prints-plain : (first : ℕ) (prints : List (List Printed)) → Each IsOfEnd (texts_from first prints)
prints-plain first [] = tt
prints-plain first (x ∷ prints) = each-append IsOfEnd (map (text_printed (record { 0 = first })) x) (texts_from (first + 1) prints) (each-print IsOfEnd (record { 0 = first }) (print-plain (record { 0 = first })) x) (prints-plain (first + 1) prints)

end-plain : (texts : List Text) → Each IsOfEnd texts → NeedNoCause (at_end texts)
end-plain [] h = tt
end-plain (x ∷ texts) h = (h.0.0, end-plain texts h.1)

-- what needs no cause may follow a run
pub with-end : (files : AllFiles) (epochs : ServerNo → ℕ) (servers : ℕ) (items : List Item) (texts : List Text) → IsReported items (opening servers files epochs) → Each IsOfEnd texts → Caused (events_of items) (lines_of_items items (opening servers files epochs) ++ at_end texts)
with-end files epochs servers items texts h k = let start = opening servers files epochs in Caused-lines (events_of items) (lines_of_items items start) (at_end texts) (run-causes files epochs servers items h) (CausedFrom-plain (events_of items) (lines_of_items items start) (at_end texts) (end-plain texts k))

counted-causes : (es : List Event) (lines : List Line) → Caused es lines → Caused es (counted lines)
counted-causes es lines h = Caused-lines es lines (at_end (says.Commits (length (history_of lines)) ∷ [])) h (CausedFrom-plain es lines (at_end (says.Commits (length (history_of lines)) ∷ [])) (refl, tt))

-- what is reported and printed at the end
pub end-told : (servers : ℕ) (e : Ending) (w : World) → list_all settles e.settling ≡ true → Each IsOfEnd (told_by_steps (steps_at_end servers e) w ++ texts_from 0 e.prints)
end-told servers e w h = let ss = servers_from 0 servers in each-append IsOfEnd (told_by_steps (steps_at_end servers e) w) (texts_from 0 e.prints)
    (dismissed-told (map Crash ss ++ restarts_from 0 e.comebacks ++ map CloseClients ss ++ e.settling) w (end-final servers e h).1) (prints-plain 0 e.prints)

pub end-causes : (files : AllFiles) (epochs : ServerNo → ℕ) (servers : ℕ) (items : List Item) (e : Ending) → IsReported items (opening servers files epochs) → IsEnding servers e (world_of items (opening servers files epochs)) → Caused (events_of items) (lines_to_end servers items e (opening servers files epochs))
end-causes files epochs servers items e h k = let start = opening servers files epochs in counted-causes (events_of items) _ (with-end files epochs servers items (told_by_steps (steps_at_end servers e) (world_of items start) ++ texts_from 0 e.prints) h (end-told servers e (world_of items start) k.settling))
