-- Each step of the whole system leaves what is named at the servers that there are.
use Rattle.jn_row_ranges.proofs.Common.{◌≡◌, ◌<◌, ℕ, Bool, true, false, List, [], ◌∷◌, ◌++◌, zero, suc, Option, Some, None, refl, subst, arith, ◌&&◌, if◌then◌else◌, slice_get, nat_tests, ServerNo, ClientNo, server_eq, AllFiles, Message, Outstanding, Taken, ClientTable, take_row, sent_again, RowOutcome, Sent, StableState, Prepared, FlagState, Pick, made_all, stable, World, Memory, at_server, new_memory, opening, server_timeout, restored, Step, after, run, sent_now, sent_for, is_near, names_near, is_within, are_within, is_again_within, ClientWithin, CommandWithin, StateWithin, MemoryWithin, RowWithin, Within, Text, one-server, one-found, one-client, ClientRow, by_command, by_ignoring, by_answering, by_telling, ServerRow, of_message, of_work, of_closing, FoundThen, by_narrowing, by_raising, Quiet, client_repeats, server_repeats, StepCase, client_row, row_done, row_stopped, gone_late, gone_down, come_up, found_anew, dismissed, quietly, step-case, with_epoch, Left, left_of, Client, Server}
use Rattle.jn_rows.specs.declared.client.Taken.TheVariants as taken
use Rattle.jn_row_ranges.proofs.NamedByClients.{new-within, command-within, take-within, over-within}
use Rattle.jn_row_ranges.proofs.NamedByCoordinators.{sent-both}
use Rattle.jn_row_ranges.proofs.ServerRows.{row-within, step-row-within, again-within, timeout-memory-within, close-row-within, changes-within, all-changes-within, restored-within}

first-of : (a b : Bool) → (a && b) ≡ true → a ≡ true
first-of a b h = grind arith

second-of : (a b : Bool) → (a && b) ≡ true → b ≡ true
second-of a b h = grind arith

pub sent-at : (n : ℕ) (sent : List Sent) (k : ℕ) (x : Sent) → are_within n sent ≡ true → slice_get sent k ≡ Some x → is_within n x ≡ true
sent-at n [] k x h e = absurd (cc e)
sent-at n (y ∷ ys) zero x h e = grind (arith, h, e)
sent-at n (y ∷ ys) (suc k) x h e = sent-at n ys k x (second-of _ _ h) e

some : (a b : Memory) → Some a ≡ Some b → a ≡ b
some a b q = cc

module _ (n : ℕ) (w : World) (h : Within n w) where
  -- ---- one of them changes

  memory-one : (s : ServerNo) (o : Option Memory) → ((m : Memory) → o ≡ Some m → MemoryWithin n s m) → (q : ServerNo) (m : Memory) → at_server w.memory s o q ≡ Some m → MemoryWithin n q m
  memory-one s o now = one-server (λ q z. (m : Memory) → z ≡ Some m → MemoryWithin n q m) w.memory s o now (λ q other. h.memory q)

  memory-of : (s : ServerNo) (a : Memory) → MemoryWithin n s a → (q : ServerNo) (m : Memory) → at_server w.memory s (Some a) q ≡ Some m → MemoryWithin n q m
  memory-of s a l = memory-one s (Some a) (λ m e. subst (MemoryWithin n s) (some a m e) l)

  memory-gone : (s q : ServerNo) (m : Memory) → at_server w.memory s None q ≡ Some m → MemoryWithin n q m
  memory-gone s = memory-one s None (λ m e. absurd (cc e))

  found-one : (s : ServerNo) (f : Pick → StableState) → ((c : Pick) → StateWithin n (f c)) → (q : ServerNo) (c : Pick) → StateWithin n (if server_eq s q then f c else w.found q c)
  found-one s f now = one-found (λ q c x. StateWithin n x) w.found s f now (λ q other. h.found q)

  -- with its epoch raised
  raised : (s : ServerNo) (c : Pick) → StateWithin n (with_epoch (w.found s c))
  raised s c = let old = h.found s c in record { works = old.works; flags = old.flags }

  more : (sent : List Sent) → are_within n sent ≡ true → are_within n (w.sent ++ sent) ≡ true
  more sent l = sent-both n w.sent sent h.sent l

  -- ---- clients

  one-sent : (x : Sent) → is_within n x ≡ true → are_within n (x ∷ []) ≡ true
  one-sent x l = grind (arith, l)

  asked-again : (o : Option Outstanding) → is_again_within n o ≡ true → are_within n (sent_now (sent_again o)) ≡ true
  asked-again None l = refl
  asked-again (Some o) l = one-sent (o.to, o.message) l

  taken-within : (c : ClientNo) (k : ℕ) (message : Message) (t : ClientTable) (r : Taken) → slice_get w.sent k ≡ Some (Client c, message) → take_row (w.clients c) message ≡ (t, r) → ClientWithin n t × (are_within n (sent_for r) ≡ true)
  taken-within c k message t r e is = subst (λ (z : ClientTable × Taken). ClientWithin n z.0 × (are_within n (sent_for z.1) ≡ true)) is (take-within n (w.clients c) message (h.clients c) (sent-at n w.sent k (Client c, message) h.sent e))

  client-within : (step : Step) (c : ClientNo) (t : ClientTable) (sent : List Sent) (lines : List Text) → ClientRow w c step t sent lines → ClientWithin n t × (are_within n sent ≡ true)
  client-within _ c _ _ _ (by_command command t to message is) = let l = subst (CommandWithin n) is (command-within n (w.clients c) w.event command (h.clients c)) in (l.0, more ((to, message) ∷ []) (one-sent (to, message) l.1))
  client-within _ c _ _ _ (by_ignoring k room stop message t e is) = ((taken-within c k message t taken.Ignored e is).0, h.sent)
  client-within _ c _ _ _ (by_answering k room stop message t to answer e is) = let l = taken-within c k message t (taken.Send to answer) e is in (l.0, more ((to, answer) ∷ []) l.1)
  client-within _ c _ _ _ (by_telling k room stop message t line answer e is) = let l = taken-within c k message t (taken.Told line answer) e is in (l.0, more (sent_now answer) l.1)

  -- ---- servers

  of-row : (s : ServerNo) (m : Memory) (stop : Option (Pick → Left)) (step : Step) (k : Option ℕ) (row : RowOutcome Memory) → w.memory s ≡ Some m → ServerRow w s m stop step k row → RowWithin n s row
  of-row s m _ _ _ _ e (of_message stop k room message is) = let at = sent-at n w.sent k (Server s, message) h.sent is in row-within n s m (h.memory s m e) (stable (w.found s)) room message (first-of _ _ at) (second-of _ _ at)
  of-row s m _ _ _ _ e (of_work stop room row is) = step-row-within n s m (h.memory s m e) (stable (w.found s)) room row is
  of-row s m _ _ _ _ e of_closing = close-row-within n s m (h.memory s m e)

  found-within : (step : Step) (s : ServerNo) (found : Pick → StableState) (lines : List Text) → FoundThen w s step found lines → (c : Pick) → StateWithin n (found c)
  found-within _ s _ _ (by_narrowing g) c = h.found s (g c)
  found-within _ s _ _ (by_raising raise) c = by (raise c)
    where
      by : (b : Bool) → StateWithin n (if b then with_epoch (w.found s c) else w.found s c)
      by true = raised s c
      by false = h.found s c

  -- ---- every step

  quiet-within : (step : Step) (event : ℕ) (sent : List Sent) (lines : List Text) → Quiet w step event sent lines → are_within n sent ≡ true
  quiet-within _ _ _ _ (client_repeats c) = more _ (asked-again (w.clients c).outstanding (h.clients c).again)
  quiet-within _ _ _ _ (server_repeats s m e) = more _ (again-within n s m (h.memory s m e) (stable (w.found s)))
  quiet-within _ _ _ _ is = h.sent

  by-case : (step : Step) (now : World) → StepCase w step now → Within n now
  by-case step _ (client_row _ c t sent lines row) = let l = client-within step c t sent lines row in record { sent = l.1; clients = one-client (λ d. ClientWithin n) w.clients c t l.0 (λ d other. h.clients d); memory = h.memory; found = h.found }
  by-case step _ (row_done _ s m k row e is) = let l = of-row s m None step k row e is in record {
    sent = more row.messages l.sent;
    clients = h.clients;
    memory = memory-of s row.table l.memory;
    found = found-one s (λ c. made_all row.changes (w.found s c)) (λ c. all-changes-within n row.changes (w.found s c) l.changes (h.found s c));
  }
  by-case step _ (row_stopped _ s m k row made e is) = let l = of-row s m (Some made) step k row e is in record {
    sent = h.sent;
    clients = h.clients;
    memory = memory-gone s;
    found = found-one s (λ c. left_of (made c) row.changes (w.found s c)) (λ c. let k = changes-within n (made c).whole row.changes (w.found s c) l.changes (h.found s c) in record { works = k.works; flags = k.flags });
  }
  by-case _ _ (gone_late s m T e) = record { sent = h.sent; clients = h.clients; memory = memory-of s (server_timeout m T) (timeout-memory-within n s m (h.memory s m e) T); found = h.found }
  by-case _ _ (gone_down s m e) = record { sent = h.sent; clients = h.clients; memory = memory-gone s; found = h.found }
  by-case _ _ (come_up s pick Ws Ts e) = record {
    sent = h.sent;
    clients = h.clients;
    memory = memory-of s (restored s (w.found s pick) Ws Ts) (restored-within n s (w.found s pick) Ws Ts (h.found s pick));
    found = found-one s (λ c. with_epoch (w.found s pick)) (λ c. raised s pick);
  }
  by-case step _ (found_anew _ s found lines e is) = record { sent = h.sent; clients = h.clients; memory = h.memory; found = found-one s found (found-within step s found lines is) }
  by-case _ _ dismissed = record { sent = h.sent; clients = λ c. over-within n (w.clients c) (h.clients c); memory = h.memory; found = h.found }
  by-case step _ (quietly _ event sent lines is) = record { sent = quiet-within step event sent lines is; clients = h.clients; memory = h.memory; found = h.found }

  pub after-within : (step : Step) → Within n (after step w)
  after-within step = by-case step (after step w) (step-case w step)

pub run-within : (n : ℕ) (steps : List Step) (w : World) → Within n w → Within n (run steps w)
run-within n [] w h = h
run-within n (step ∷ steps) w h = run-within n steps (after step w) (after-within n w h step)

pub opening-within : (n : ℕ) (files : AllFiles) (epochs : ServerNo → ℕ) → Within n (opening n files epochs)
opening-within n files epochs = record {
  sent = refl;
  clients = new-within n;
  memory = λ s m e. subst (λ (z : Memory). MemoryWithin n s z) (some (new_memory s (epochs s)) m e) (record { own = refl; works = refl; transactions = refl });
  found = λ s c. record { works = λ W p e. absurd (none-prepared p e); flags = λ T f e. absurd (none-flagged f e) };
}
  where
    none-prepared : (p : Prepared) → None ≡ Some p → ⊥
    none-prepared p e = cc

    none-flagged : (f : FlagState) → None ≡ Some f → ⊥
    none-flagged f e = cc

-- a message is for one of these servers
pub sent-near : (n : ℕ) (w : World) → Within n w → (k : ℕ) (s : ServerNo) (message : Message) → slice_get w.sent k ≡ Some (Server s, message) → s.0 < n
sent-near n w h k s message e = let at = first-of (is_near n s) (names_near n message) (sent-at n w.sent k (Server s, message) h.sent e) in grind (arith, nat_tests, at)
