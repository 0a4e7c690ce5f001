-- Each step of the whole system keeps what holds of the sizes of tables and messages.
use Rattle.jn_system_settling.proofs.Common.{Text, ◌≡◌, ◌≢◌, ◌⊎◌, inl, inr, ◌≤◌, ℕ, ◌+◌, Bool, true, false, List, [], ◌∷◌, ◌++◌, Option, Some, None, refl, sym, subst, arith, if◌then◌else◌, All, ServerNo, ClientNo, Tid, WorkId, Server, server_eq, server_tells, AllFiles, Message, WorkEntry, Transaction, Stage, Open, Voting, Committed, Aborted, Outstanding, Taken, StableState, FlagState, Pick, stable, made_all, is_going, RowOutcome, Sent, WorkerTable, timed_out, work_of, vulnerable, worker_again, commits, besides, told_again, coordinator_again, committed_to, ClientTable, take_row, sent_again, with_epoch, World, Memory, opening, at_server, Room, server_row, server_step, server_again, server_timeout, of_timeout, Step, IsStep, after, works, sent_now, UpFact, ServerFact, LockFacts, weight, IsSmall, ClientSizes, StoredSizes, TableSizes, ServerSizes, Sizes, is_small, sends_small, one-server, one-client, ClientRow, by_command, by_ignoring, by_answering, by_telling, ServerRow, of_message, of_work, of_closing, FoundThen, by_narrowing, by_raising, Quiet, client_repeats, server_repeats, StepCase, client_row, row_done, row_stopped, gone_late, gone_down, come_up, found_anew, dismissed, quietly, step-case, holds-of, Left, left_of, weigh_all, length-phase}
use Rattle.std.proofs.lemmas.List.Elements.{All-nil, All-cons, All-append}
use Rattle.jn_msgs.specs.declared.message.Message.TheVariants as messages
use Rattle.jn_rows.specs.declared.client.Taken.TheVariants as taken
use Rattle.jn_system_settling.proofs.Settling.SizeSteps.{RowSizes, row-sizes, step-sizes, close-sizes, restart-sizes, up-stored}
use Rattle.jn_system_settling.proofs.Settling.ClientFits.{CommandedSizes, command-sizes, sent_with, take-light, take-sizes}

-- ---- messages

one-small : (n : ℕ) (m : Message) (rest : ℕ) → weight m + rest ≤ 160 → is_small n m ≡ true
one-small n (messages.End c request T works) rest h = absurd (omega (arith, h))
one-small n (messages.Abort c request T works) rest h = absurd (omega (arith, h))
one-small n m rest h = refl

-- none of them is an End or an Abort, which weigh more
pub light-small : (n : ℕ) (sent : List Sent) → weigh_all sent ≤ 160 → All (IsSmall n) sent
light-small n [] h = All-nil (IsSmall n)
light-small n (x ∷ sent) h = All-cons (IsSmall n) x sent (one-small n x.1 (weigh_all sent) h) (light-small n sent (omega (arith, h)))

pub weighs : (m : Message) → weight m ≤ 161
weighs (messages.End c request T works) = omega arith
weighs (messages.Abort c request T works) = omega arith
weighs (messages.Prepare T c W) = omega arith
weighs (messages.Vote T W vote) = omega arith
weighs (messages.Inquire T W) = omega arith
weighs (messages.Begin c request) = omega arith
weighs (messages.Open c request T) = omega arith
weighs (messages.Op c request W number op) = omega arith
weighs (messages.Outcome c T outcome) = omega arith
weighs (messages.Commit T W) = omega arith
weighs m = omega arith

-- ---- rows

-- what holds of the server that changes, and of each other one
by-server : (s : ServerNo) (P : ServerNo → Bool → Type 0) → P s true → ((q : ServerNo) → P q false) → (q : ServerNo) → P q (server_eq s q)
by-server s P here others q = by (server_tells s q)
  where
    by : ((server_eq s q ≡ true) × (s ≡ q)) ⊎ ((server_eq s q ≡ false) × (s ≢ q)) → P q (server_eq s q)
    by (inl p) = subst (P q) (sym p.0) (subst (λ (z : ServerNo). P z true) p.1 here)
    by (inr p) = subst (P q) (sym p.0) (others q)

-- what a server's row leaves and sends
record Leaves (n : ℕ) (x : StableState) (row : RowOutcome Memory) : Type 0 where
  now : TableSizes n row.table (made_all row.changes x)
  stops : (l : Left) → StoredSizes n (left_of l row.changes x)
  sent : All (IsSmall n) row.messages

from-sizes : (n : ℕ) (m : Memory) (x : StableState) (light less weight_of : ℕ) (row : RowOutcome Memory) → light ≤ 161 → RowSizes n m x light less weight_of row → Leaves n x row
from-sizes n m x light less weight_of row small h = record { now = h.now; stops = λ l. let s = h.stops l.whole in record { works = s.works; flags = s.flags; small = s.small }; sent = light-small n row.messages (let l = h.sent in omega (arith, l, small)) }

module _ (n : ℕ) (at_most : n ≤ 8) (w : World) (sizes : Sizes n w) (locks : LockFacts w) where
  pub up-sizes : (s : ServerNo) (m : Memory) → w.memory s ≡ Some m → TableSizes n m (stable (w.found s))
  up-sizes s m e = subst (λ o. ServerSizes n o (w.found s)) e (sizes.tables s)

  down-sizes : (s : ServerNo) → w.memory s ≡ None → (c : Pick) → StoredSizes n (w.found s c)
  down-sizes s e = subst (λ o. ServerSizes n o (w.found s)) e (sizes.tables s)

  pub up-locks : (s : ServerNo) (m : Memory) → w.memory s ≡ Some m → UpFact s m (w.found s)
  up-locks s m e = subst (λ o. ServerFact s o (w.found s)) e (locks s)

  more-sent : (sent : List Sent) → All (IsSmall n) sent → All (IsSmall n) (w.sent ++ sent)
  more-sent sent h = All-append (IsSmall n) w.sent sent sizes.sent h

  pub row-at : (s : ServerNo) (m : Memory) (room : Room) (message : Message) → w.memory s ≡ Some m → is_small n message ≡ true → RowSizes n m (stable (w.found s)) (weight message) 1 (weight message) (server_row m (stable (w.found s)) room message)
  row-at s m room message e small = row-sizes n at_most m (stable (w.found s)) (up-sizes s m e) (up-locks s m e).table room message small

  pub step-at : (s : ServerNo) (m : Memory) (room : Room) (row : RowOutcome Memory) → w.memory s ≡ Some m → server_step m (stable (w.found s)) room ≡ Some row → RowSizes n m (stable (w.found s)) 2 0 0 row
  step-at s m room row e is = step-sizes n at_most m (stable (w.found s)) (up-sizes s m e) (up-locks s m e).table room row is

  row-leaves : (s : ServerNo) (m : Memory) (stop : Option (Pick → Left)) (step : Step) (k : Option ℕ) (row : RowOutcome Memory) → w.memory s ≡ Some m → ServerRow w s m stop step k row → Leaves n (stable (w.found s)) row
  row-leaves s m _ _ _ _ e (of_message stop k room message is) = from-sizes n m (stable (w.found s)) _ _ _ _ (weighs message) (row-at s m room message e (holds-of (IsSmall n) w.sent k (Server s, message) sizes.sent is))
  row-leaves s m _ _ _ _ e (of_work stop room row is) = from-sizes n m (stable (w.found s)) 2 0 0 row (omega arith) (step-at s m room row e is)
  row-leaves s m _ _ _ _ e of_closing = from-sizes n m (stable (w.found s)) 1 1 1 _ (omega arith) (close-sizes n at_most m (stable (w.found s)) (up-sizes s m e) (up-locks s m e).table)

  take-fits : (c : ClientNo) (message : Message) (t : ClientTable) (r : Taken) → take_row (w.clients c) message ≡ (t, r) → ClientSizes n t × All (IsSmall n) (sent_with r)
  take-fits c message t r is = subst (λ (z : ClientTable × Taken). ClientSizes n z.0 × All (IsSmall n) (sent_with z.1)) is
      (take-sizes n (w.clients c) message (sizes.clients c), light-small n _ (let l = take-light (w.clients c) message in let top = weighs message in omega (arith, l, top)))

  client-fits : (step : Step) (c : ClientNo) (t : ClientTable) (sent : List Sent) (lines : List Text) → ClientRow w c step t sent lines → ClientSizes n t × All (IsSmall n) sent
  client-fits _ c _ _ _ (by_command command t to message is) = let h = subst (CommandedSizes n) is (command-sizes n (w.clients c) w.event command (sizes.clients c)) in
      (h.0, more-sent ((to, message) ∷ []) (All-cons (IsSmall n) (to, message) [] h.1 (All-nil (IsSmall n))))
  client-fits _ c _ _ _ (by_ignoring k room stop message t e is) = ((take-fits c message t taken.Ignored is).0, sizes.sent)
  client-fits _ c _ _ _ (by_answering k room stop message t to answer e is) = let h = take-fits c message t (taken.Send to answer) is in (h.0, more-sent ((to, answer) ∷ []) h.1)
  client-fits _ c _ _ _ (by_telling k room stop message t line answer e is) = let h = take-fits c message t (taken.Told line answer) is in (h.0, more-sent (sent_now answer) h.1)

  timeout-is : (m : Memory) (T : Tid) (x : StableState) → TableSizes n m x → TableSizes n (server_timeout m T) x
  timeout-is m T x h = by (work_of T m.worker)
    where
      by : (o : Option WorkEntry) → TableSizes n (of_timeout m (timed_out m.worker o)) x
      by None = h
      by (Some v) = let l = length-phase v.name (vulnerable v.phase) m.worker in let few = h.works in
          record { works = omega (arith, l, few); transactions = h.transactions; stages = h.stages; flags = h.flags; small = h.small }

  -- ---- what is sent again

  abbrev Light : List Sent → Type 0
  Light sent = All (IsSmall n) sent

  inquires-small : (x : StableState) (t : WorkerTable) → Light (worker_again x t)
  inquires-small x [] = All-nil (IsSmall n)
  inquires-small x (v ∷ vs) = by (is_going (x.works v.name)) (inquires-small x vs)
    where
      by : (b : Bool) → Light (worker_again x vs) → Light (if b then worker_again x vs else (Server v.tid.server, messages.Inquire v.tid v.name) ∷ worker_again x vs)
      by true h = h
      by false h = All-cons (IsSmall n) _ (worker_again x vs) refl h

  commits-small : (T : Tid) (Ws : List WorkId) → Light (commits T Ws)
  commits-small T [] = All-nil (IsSmall n)
  commits-small T (W ∷ Ws) = All-cons (IsSmall n) _ (commits T Ws) refl (commits-small T Ws)

  told-small : (x : Transaction) (s : Stage) → Light (told_again x s)
  told-small x Open = All-nil (IsSmall n)
  told-small x (Voting b) = All-nil (IsSmall n)
  told-small x (Aborted cause) = All-cons (IsSmall n) _ [] refl (All-nil (IsSmall n))
  told-small x (Committed d) = All-append (IsSmall n) (commits x.tid (besides d.works d.done)) _ (commits-small x.tid (besides d.works d.done)) (by d.thanked)
    where
      by : (b : Bool) → Light (if b then [] else committed_to x ∷ [])
      by true = All-nil (IsSmall n)
      by false = All-cons (IsSmall n) _ [] refl (All-nil (IsSmall n))

  all-told-small : (xs : List Transaction) → Light (coordinator_again xs)
  all-told-small [] = All-nil (IsSmall n)
  all-told-small (x ∷ xs) = All-append (IsSmall n) (told_again x x.stage) (coordinator_again xs) (told-small x x.stage) (all-told-small xs)

  again-small : (o : Option Outstanding) → sends_small n o ≡ true → Light (sent_now (sent_again o))
  again-small None h = All-nil (IsSmall n)
  again-small (Some o) h = All-cons (IsSmall n) (o.to, o.message) [] h (All-nil (IsSmall n))

  -- ---- every step

  quiet-fits : (step : Step) (event : ℕ) (sent : List Sent) (lines : List Text) → Quiet w step event sent lines → Light sent
  quiet-fits _ _ _ _ (client_repeats c) = more-sent _ (again-small (w.clients c).outstanding (sizes.clients c).again)
  quiet-fits _ _ _ _ (server_repeats s m e) = more-sent (server_again m (stable (w.found s)))
      (All-append (IsSmall n) (worker_again (stable (w.found s)) m.worker) (coordinator_again m.coordinator.transactions) (inquires-small (stable (w.found s)) m.worker) (all-told-small m.coordinator.transactions))
  quiet-fits _ _ _ _ is = sizes.sent

  found-fits : (step : Step) (s : ServerNo) (found : Pick → StableState) (lines : List Text) → w.memory s ≡ None → FoundThen w s step found lines → (c : Pick) → StoredSizes n (found c)
  found-fits _ s _ _ e (by_narrowing g) c = down-sizes s e (g c)
  found-fits _ s _ _ e (by_raising raise) c = by (raise c)
    where
      by : (b : Bool) → StoredSizes n (if b then with_epoch (w.found s c) else w.found s c)
      by true = let h = down-sizes s e c in record { works = h.works; flags = h.flags; small = h.small }
      by false = down-sizes s e c

  -- one server changes, and what is found of it
  one : (s : ServerNo) (o : Option Memory) (found : Pick → StableState) → ServerSizes n o found → (q : ServerNo) → ServerSizes n (at_server w.memory s o q) (λ c. if server_eq s q then found c else w.found q c)
  one s o found now = by-server s (λ q b. ServerSizes n (if b then o else w.memory q) (λ c. if b then found c else w.found q c)) now sizes.tables

  by-case : (step : Step) (now : World) → StepCase w step now → IsStep step w → Sizes n now
  by-case step _ (client_row _ c t sent lines row) may = let h = client-fits step c t sent lines row in
      record { sent = h.1; clients = one-client (λ d z. ClientSizes n z) w.clients c t h.0 (λ d other. sizes.clients d); tables = sizes.tables }
  by-case step _ (row_done _ s m k row e is) may = let h = row-leaves s m None step k row e is in
      record { sent = more-sent row.messages h.sent; clients = sizes.clients; tables = one s (Some row.table) (λ c. made_all row.changes (w.found s c)) h.now }
  by-case step _ (row_stopped _ s m k row made e is) may = let h = row-leaves s m (Some made) step k row e is in record {
    sent = sizes.sent;
    clients = sizes.clients;
    tables = one s None (λ c. left_of (made c) row.changes (w.found s c)) (λ c. subst (λ x. StoredSizes n (left_of (made c) row.changes x)) (sym ((up-locks s m e).same c)) (h.stops (made c)));
  }
  by-case _ _ (gone_late s m T e) may = record {
    sent = sizes.sent;
    clients = sizes.clients;
    tables = one-server (λ q o. ServerSizes n o (w.found q)) w.memory s (Some (server_timeout m T)) (timeout-is m T (stable (w.found s)) (up-sizes s m e)) (λ q other. sizes.tables q);
  }
  by-case _ _ (gone_down s m e) may = let up = up-locks s m e in record {
    sent = sizes.sent;
    clients = sizes.clients;
    tables = one-server (λ q o. ServerSizes n o (w.found q)) w.memory s None (λ c. subst (λ x. StoredSizes n x) (sym (up.same c)) (up-stored n m (stable (w.found s)) (up-sizes s m e) up.table)) (λ q other. sizes.tables q);
  }
  by-case _ _ (come_up s pick Ws Ts e) may = let h = restart-sizes n s (w.found s pick) Ws Ts may.0 may.1 (down-sizes s e pick) in
      record { sent = sizes.sent; clients = sizes.clients; tables = one s _ (λ c. with_epoch (w.found s pick)) (record { works = h.works; transactions = h.transactions; stages = h.stages; flags = h.flags; small = h.small }) }
  by-case step _ (found_anew _ s found lines e is) may = record {
    sent = sizes.sent;
    clients = sizes.clients;
    tables = by-server s (λ q b. ServerSizes n (w.memory q) (λ c. if b then found c else w.found q c)) (subst (λ o. ServerSizes n o found) (sym e) (found-fits step s found lines e is)) sizes.tables;
  }
  by-case _ _ dismissed may = record { sent = sizes.sent; clients = λ c. record { client = record { works = refl; waits = refl }; servers_are = (sizes.clients c).servers_are; again = refl }; tables = sizes.tables }
  by-case step _ (quietly _ event sent lines is) may = record { sent = quiet-fits step event sent lines is; clients = sizes.clients; tables = sizes.tables }

  pub sizes-keep : (step : Step) → IsStep step w → Sizes n (after step w)
  sizes-keep step = by-case step (after step w) (step-case w step)

pub opening-sizes : (n : ℕ) (files : AllFiles) (epochs : ServerNo → ℕ) → Sizes n (opening n files epochs)
opening-sizes n files epochs = record {
  sent = All-nil (IsSmall n);
  clients = λ c. record { client = record { works = refl; waits = refl }; servers_are = refl; again = refl };
  tables = λ s. record { works = omega arith; transactions = omega arith; stages = refl; flags = λ T h. absurd (false-true h); small = λ T f h. absurd (none f h) };
}
  where
    false-true : false ≡ true → ⊥
    false-true e = grind arith

    none : (f : FlagState) → None ≡ Some f → ⊥
    none f e = cc
