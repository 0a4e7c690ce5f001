-- The end of a run, and the settle after it.
use Rattle.jn_system_settling.proofs.Common.{◌≡◌, ◌≢◌, ◌⊎◌, inl, inr, ◌≤◌, ◌<◌, ℕ, zero, suc, ◌+◌, Bool, true, false, List, [], ◌∷◌, ◌++◌, append-nil, Option, Some, None, is_some, true≢false, refl, sym, ◌∙◌, ap, subst, arith, if◌then◌else◌, ◌&&◌, ◌||◌, nat_lt, nat_eq, map, list_any, nat_tests, ServerNo, ClientNo, Tid, WorkId, server_eq, server_tells, AllFiles, Transaction, Stage, Open, Voting, Committed, Aborted, Commitment, StableState, Prepared, FlagState, Pick, stable, is_ready, is_going, Sent, WorkerTable, work_at, restored_work, restored_worker, is_work, all_in, thanked, all_thanked, restored_transaction, restored_transactions, close_clients_row, run_atoms, opening_world, AreTransactions, none_unless, none_of, false_unless, some_of, clash, World, Memory, opening, servers_from, restored, of_coordinator, Step, Again, Nudge, Narrow, Restart, Dismiss, CloseClients, IsStep, IsRun, run, after, nudge, crash, restart, close_clients, UpFact, Course, still_waiting, opening_course, go, go_on, Chance, clients_from, until_rest, ask_again, settled, committed_at, NothingGoes, Ends, AreUp, Reached, next-reached, opening-reached, invariant, some-memory, one-server, none-memory, moves-in-order}
use Rattle.jn_system.specs.WholeSystem.Steps.{Crash}
use Rattle.jn_records.specs.MapPlaces.{no_maps}
use Rattle.jn_system.proofs.WholeSystem.Closes.{is_committed}
use Rattle.jn_system_order.specs.Ordering.Runs.{IsInOrder}
use Rattle.jn_system_settling.proofs.Settling.Courses.{Sound, go-sound, waiting-is}
use Rattle.jn_system_settling.proofs.Settling.Settling.{opening-sound, on-world, settle-ends}
use Rattle.jn_system_settling.proofs.Settling.WorldSizes.{up-sizes, up-locks}
use Rattle.jn_system_settling.proofs.AtRest.Owners.{all_owned}
use Rattle.jn_system_settling.proofs.AtRest.Within.{near_owner, table_near, Within, within-step, opening-within, tids-near}
use Rattle.jn_system_settling.proofs.AtRest.Ways.{Waits, quiet-clients, rest-down}
use Rattle.jn_system_settling.proofs.AtRest.Answered.{rest-keeps, ask-keeps}
use Rattle.jn_system_settling.specs.Closing.Ending.{Start, restarts, end_steps, without_messages, ended, IsEmpty, IsClosed, IsAsCommitted, Leaves}
use Rattle.jn_system_settling.proofs.Closing.Rows.{are_prepared, is_thanked, are_all, Kept, needs, needs_in, some-stored}
use Rattle.jn_system_settling.proofs.Closing.Tends.{stored, waiting_ours, Needed, Asked, inquires, commits, drops, Stays, lives, told, carried, Ways, Tends, up-fact}
use Rattle.jn_system_settling.proofs.Closing.Rests.{Goes, WaysAt, rest-goes, ask-goes}

-- ---- after a restart, and after the outcomes are thanked

-- what a server has before its outcomes are thanked
record Fresh (m : Memory) : Type 0 where
  works : are_prepared m.worker ≡ true
  transactions : are_all is_committed m.coordinator.transactions ≡ true

abbrev IfUp : (Memory → Type 0) → Option Memory → Type 0
IfUp P o = (m : Memory) → o ≡ Some m → P m

if-some : (P : Memory → Type 0) (m : Memory) → P m → IfUp P (Some m)
if-some P m h a e = subst P (some-memory m a e) h

if-none : (P : Memory → Type 0) → IfUp P None
if-none P m e = absurd (none-memory m e)

works-restored : (x : StableState) (Ws : List WorkId) → are_prepared (restored_worker x Ws) ≡ true
works-restored x [] = refl
works-restored x (W ∷ Ws) = by (x.works W) (works-restored x Ws)
  where
    by : (o : Option Prepared) → are_prepared (restored_worker x Ws) ≡ true → are_prepared (restored_work W o ++ restored_worker x Ws) ≡ true
    by None again = again
    by (Some p) again = again

transactions-restored : (x : StableState) (Ts : List Tid) → are_all is_committed (restored_transactions x Ts) ≡ true
transactions-restored x [] = refl
transactions-restored x (T ∷ Ts) = by (x.flags T) (transactions-restored x Ts)
  where
    by : (o : Option FlagState) → are_all is_committed (restored_transactions x Ts) ≡ true → are_all is_committed (restored_transaction T o ++ restored_transactions x Ts) ≡ true
    by None again = again
    by (Some f) again = again

thanked-all : (xs : List Transaction) → are_all is_committed xs ≡ true → are_all is_thanked (all_thanked xs) ≡ true
thanked-all [] h = refl
thanked-all (x ∷ xs) h = by x.stage (grind (arith, h)) (thanked-all xs (grind (arith, h)))
  where
    on : (d : Commitment) (b : Bool) → all_in d.works d.done ≡ b → are_all is_thanked (all_thanked xs) ≡ true → are_all is_thanked ((if b then [] else record x { stage = Committed (record d { thanked = true }) } ∷ []) ++ all_thanked xs) ≡ true
    on d true e again = again
    on d false e again = grind (arith, e, again)

    by : (s : Stage) → is_committed s ≡ true → are_all is_thanked (all_thanked xs) ≡ true → are_all is_thanked (thanked s x ++ all_thanked xs) ≡ true
    by (Committed d) k again = on d (all_in d.works d.done) refl again
    by Open k again = absurd (true≢false (sym k))
    by (Voting b) k again = absurd (true≢false (sym k))
    by (Aborted cause) k again = absurd (true≢false (sym k))

-- a work that isn't done
record Undone (d : Commitment) : Type 0 where
  work : WorkId
  is : needs_in work (Committed d) ≡ true

undone-in : (Vs Ws : List WorkId) → all_in Vs Ws ≡ false → (W : WorkId) × (is_work W Vs ≡ true) × (is_work W Ws ≡ false)
undone-in [] Ws h = absurd (true≢false h)
undone-in (V ∷ Vs) Ws h = by (is_work V Ws) refl h (undone-in Vs Ws)
  where
    itself : is_work V (V ∷ Vs) ≡ true
    itself = grind (arith, nat_tests)

    by : (b : Bool) → is_work V Ws ≡ b → (b && all_in Vs Ws) ≡ false → (all_in Vs Ws ≡ false → (W : WorkId) × (is_work W Vs ≡ true) × (is_work W Ws ≡ false)) → (W : WorkId) × (is_work W (V ∷ Vs) ≡ true) × (is_work W Ws ≡ false)
    by false e k again = (V, itself, e)
    by true e k again = let u = again k in (u.0, (let there = u.1 in grind (arith, there)), u.2)

undone : (d : Commitment) → is_thanked (Committed d) ≡ true → Undone d
undone d h = let u = undone-in d.works d.done (grind (arith, h)) in record { work = u.0; is = let a = u.1 in let b = u.2 in grind (arith, a, b) }

-- ---- servers by number

among-servers : (m c : ℕ) (s : ServerNo) → c ≤ s.0 → s.0 < c + m → list_any (server_eq s) (servers_from c m) ≡ true
among-servers zero c s l k = absurd (omega (arith, l, k))
among-servers (suc m) c s l k = by (server_tells s (record { 0 = c })) (among-servers m (c + 1) s)
  where
    by : ((server_eq s (record { 0 = c }) ≡ true) × (s ≡ record { 0 = c })) ⊎ ((server_eq s (record { 0 = c }) ≡ false) × (s ≢ record { 0 = c })) → (c + 1 ≤ s.0 → s.0 < c + 1 + m → list_any (server_eq s) (servers_from (c + 1) m) ≡ true) → list_any (server_eq s) (servers_from c (suc m)) ≡ true
    by (inl e) again = let q = e.0 in grind (arith, q)
    by (inr e) again = let q = e.0 in let on = again (grind (arith, nat_tests, l, q)) (omega (arith, k)) in grind (arith, on)

among-below : (m c : ℕ) (s : ServerNo) → list_any (server_eq s) (servers_from c m) ≡ true → s.0 < c + m
among-below zero c s h = absurd (true≢false (sym h))
among-below (suc m) c s h = by (server_tells s (record { 0 = c })) h (among-below m (c + 1) s)
  where
    by : ((server_eq s (record { 0 = c }) ≡ true) × (s ≡ record { 0 = c })) ⊎ ((server_eq s (record { 0 = c }) ≡ false) × (s ≢ record { 0 = c })) → list_any (server_eq s) (servers_from c (suc m)) ≡ true → (list_any (server_eq s) (servers_from (c + 1) m) ≡ true → s.0 < c + 1 + m) → s.0 < c + suc m
    by (inl e) h again = let q = ap (λ (z : ServerNo). z.0) e.1 in omega (arith, q)
    by (inr e) h again = let k = again (let q = e.0 in grind (arith, h, q)) in omega (arith, k)

pub not-among : (n : ℕ) (s : ServerNo) → list_any (server_eq s) (servers_from 0 n) ≡ false → n ≤ s.0
not-among n s h = by (nat_lt s.0 n) refl
  where
    by : (b : Bool) → nat_lt s.0 n ≡ b → n ≤ s.0
    by true e = absurd (true≢false (sym (among-servers n 0 s (omega arith) (grind (arith, nat_tests, e))) ∙ h))
    by false e = grind (arith, nat_tests, e)

-- ---- the steps of an end

abbrev is_of_end : Step → Bool
is_of_end Dismiss = true
is_of_end (Crash s) = true
is_of_end (Narrow s g) = true
is_of_end (Restart s pick Ws Ts) = true
is_of_end (CloseClients s) = true
is_of_end step = false

end-sends : (step : Step) (w : World) → is_of_end step ≡ true → (after step w).sent ≡ w.sent ++ []
end-sends Dismiss w h = sym (append-nil w.sent)
end-sends (Crash s) w h = grind (arith, append-nil w.sent)
end-sends (Narrow s g) w h = grind (arith, append-nil w.sent)
end-sends (Restart s pick Ws Ts) w h = grind (arith, append-nil w.sent)
end-sends (CloseClients s) w h = grind (arith, append-nil w.sent)
end-sends step w h = absurd (true≢false (sym h))

end-waits : (step : Step) → is_of_end step ≡ true → still_waiting step [] ≡ []
end-waits step h = grind arith

end-idle : (step : Step) (w : World) → is_of_end step ≡ true → ((c : ClientNo) → (w.clients c).outstanding ≡ None) → (c : ClientNo) → ((after step w).clients c).outstanding ≡ None
end-idle Dismiss w h idle c = refl
end-idle (Crash s) w h idle c = ap (λ f. (f c).outstanding) (quiet-clients (Crash s) w refl) ∙ idle c
end-idle (Narrow s g) w h idle c = ap (λ f. (f c).outstanding) (quiet-clients (Narrow s g) w refl) ∙ idle c
end-idle (Restart s pick Ws Ts) w h idle c = ap (λ f. (f c).outstanding) (quiet-clients (Restart s pick Ws Ts) w refl) ∙ idle c
end-idle (CloseClients s) w h idle c = ap (λ f. (f c).outstanding) (quiet-clients (CloseClients s) w refl) ∙ idle c
end-idle step w h idle c = absurd (true≢false (sym h))

-- what is true of a server's memory after a crash, a restart, and the thanks
crash-memory : (q s : ServerNo) (w : World) (P : Memory → Type 0) → (server_eq s q ≡ true) ⊎ IfUp P (w.memory s) → IfUp P ((after (Crash q) w).memory s)
crash-memory q s w P h = by (w.memory q) refl h
  where
    same : server_eq s q ≡ true → q ≡ s
    same k = grind (arith, server_tells s q, k)

    by : (o : Option Memory) → w.memory q ≡ o → (server_eq s q ≡ true) ⊎ IfUp P (w.memory s) → IfUp P ((crash q o w).memory s)
    by None e (inl k) = subst (λ o. IfUp P o) (sym e ∙ ap w.memory (same k)) (if-none P)
    by None e (inr k) = k
    by (Some m) e (inl k) = one-server (λ z o. q ≡ z → IfUp P o) w.memory q None (λ t. if-none P) (λ z other t. absurd (other t)) s (same k)
    by (Some m) e (inr k) = one-server (λ z o. IfUp P (w.memory z) → IfUp P o) w.memory q None (λ k. if-none P) (λ z other k. k) s k

narrow-memory : (q s : ServerNo) (g : Pick → Pick) (w : World) → (after (Narrow q g) w).memory s ≡ w.memory s
narrow-memory q s g w = grind arith

restart-memory : (q s : ServerNo) (pick : Pick) (Ws : List WorkId) (Ts : List Tid) (w : World) → IfUp Fresh (w.memory s) → IfUp Fresh ((after (Restart q pick Ws Ts) w).memory s)
restart-memory q s pick Ws Ts w h = by (w.memory q)
  where
    now : IfUp Fresh (Some (restored q (w.found q pick) Ws Ts))
    now = if-some Fresh _ (record { works = works-restored (w.found q pick) Ws; transactions = transactions-restored (w.found q pick) Ts })

    by : (o : Option Memory) → IfUp Fresh ((restart q pick Ws Ts o w).memory s)
    by None = one-server (λ z o. IfUp Fresh (w.memory z) → IfUp Fresh o) w.memory q (Some (restored q (w.found q pick) Ws Ts)) (λ k. now) (λ z other k. k) s h
    by (Some m) = h

abbrev Closing : ServerNo → List ServerNo → World → Type 0
Closing s servers w = IfUp Kept (w.memory s) ⊎ (IfUp Fresh (w.memory s) × (list_any (server_eq s) servers ≡ true))

close-memory : (q s : ServerNo) (servers : List ServerNo) (w : World) → Closing s (q ∷ servers) w → Closing s servers (after (CloseClients q) w)
close-memory q s servers w h = by (w.memory q) refl
  where
    now : Memory → Memory
    now m = (of_coordinator m (close_clients_row m.coordinator m.tickets)).table

    kept : (m : Memory) → w.memory q ≡ Some m → Closing q (q ∷ servers) w → Kept (now m)
    kept m e (inl k) = let a = k m e in record { works = a.works; transactions = thanked-all m.coordinator.transactions (thanked-committed m.coordinator.transactions a.transactions) }
      where
        one : (st : Stage) → is_thanked st ≡ true → is_committed st ≡ true
        one (Committed d) h = refl
        one Open h = absurd (true≢false (sym h))
        one (Voting b) h = absurd (true≢false (sym h))
        one (Aborted cause) h = absurd (true≢false (sym h))

        thanked-committed : (xs : List Transaction) → are_all is_thanked xs ≡ true → are_all is_committed xs ≡ true
        thanked-committed [] h = refl
        thanked-committed (x ∷ xs) h = let here = one x.stage (grind (arith, h)) in let again = thanked-committed xs (grind (arith, h)) in grind (arith, here, again)
    kept m e (inr k) = let a = k.0 m e in record { works = a.works; transactions = thanked-all m.coordinator.transactions a.transactions }

    later : (z : ServerNo) → q ≢ z → Closing z (q ∷ servers) w → Closing z servers w
    later z other (inl k) = inl k
    later z other (inr k) = inr (k.0, (let y = k.1 in grind (arith, server_tells z q, other, y)))

    by : (o : Option Memory) → w.memory q ≡ o → Closing s servers (close_clients q o w)
    by None e = at (server_tells q s)
      where
        at : ((server_eq q s ≡ true) × (q ≡ s)) ⊎ ((server_eq q s ≡ false) × (q ≢ s)) → Closing s servers w
        at (inl t) = inl (subst (λ o. IfUp Kept o) (sym e ∙ ap w.memory t.1) (if-none Kept))
        at (inr t) = later s t.1 h
    by (Some m) e = one-server (λ z o. Closing z (q ∷ servers) w → IfUp Kept o ⊎ (IfUp Fresh o × (list_any (server_eq z) servers ≡ true))) w.memory q (Some (now m)) (λ k. inl (if-some Kept (now m) (kept m e k))) later s h

module _ (n : ℕ) (at_most : n ≤ 8) (start : World) (files : AllFiles) (epochs : ServerNo → ℕ) where
  -- what every step keeps
  pub record Traced (d : Course) : Type 0 where
    pub sound : Sound n start d
    pub known : Reached files epochs d.world
    pub within : Within n d.world

  pub traced-go : (d : Course) (step : Step) → Traced d → IsStep step d.world → Traced (go step d)
  traced-go d step h i = record {
    sound = go-sound n at_most start d step h.sound i;
    known = next-reached files epochs d.world step i h.known;
    within = within-step n at_most d.world h.sound.sizes h.sound.locks h.within step i;
  }

  pub traced-on : (steps : List Step) (d : Course) → Traced d → IsRun steps d.world → Traced (go_on steps d)
  traced-on [] d h i = h
  traced-on (step ∷ steps) d h i = traced-on steps (go step d) (traced-go d step h i.0) i.1

  -- a server of a greater number has nothing
  blank : (d : Course) → Traced d → (s : ServerNo) (m : Memory) → n ≤ s.0 → d.world.memory s ≡ Some m → (m.worker ≡ []) × (m.coordinator.transactions ≡ [])
  blank d h s m l up = (works m.worker refl (h.within.near_all.works s m up), transactions m.coordinator.transactions (tids-near n at_most d.world h.sound.sizes h.sound.locks h.within s m up) (h.known.mirrors.transactions s m up))
    where
      fact : UpFact s m (d.world.found s)
      fact = up-locks n at_most d.world h.sound.sizes h.sound.locks s m up

      works : (t : WorkerTable) → m.worker ≡ t → table_near n t ≡ true → t ≡ []
      works [] e k = refl
      works (v ∷ vs) e k = absurd (let place = fact.table.place v.name v (ap (work_at v.name) e ∙ grind (arith, nat_tests)) ∙ fact.server in grind (arith, nat_tests, k, l, place))

      transactions : (xs : List Transaction) → all_owned (near_owner n) xs ≡ true → AreTransactions (run_atoms h.known.atoms (opening_world files epochs)) s xs → xs ≡ []
      transactions [] k a = refl
      transactions (x ∷ xs) k a = absurd (let first = a.0 in let place = first.place in grind (arith, nat_tests, k, l, place))

  far : (d : Course) → Traced d → (s : ServerNo) (c : Pick) (W : WorkId) (p : Prepared) → (d.world.found s c).works W ≡ Some p → n ≤ s.0 → ⊥
  far d h s c W p e l = let inv = invariant files epochs d.world h.known in let is = (inv.core.states s c).prepared W p (ap (λ x. x.works W) (h.known.mirrors.found s c) ∙ e) in
      let place = is.place in let near = h.within.near_all.stored s c W p e in grind (arith, nat_tests, near, l, place)

  abbrev servers : List ServerNo
  servers = servers_from 0 n

  -- while it ends
  pub record Ending (d : Course) : Type 0 where
    pub traced : Traced d
    pub waits : d.waiting ≡ []
    pub idle : (c : ClientNo) → (d.world.clients c).outstanding ≡ None

  ending-go : (d : Course) (step : Step) → is_of_end step ≡ true → Traced d → d.waiting ≡ [] → ((c : ClientNo) → ((after step d.world).clients c).outstanding ≡ None) → IsStep step d.world → Ending (go step d)
  ending-go d step of traced waits idle i = record {
    traced = traced-go d step traced i;
    waits = waiting-is n at_most start d step [] (end-sends step d.world of) ∙ append-nil (still_waiting step d.waiting) ∙ ap (still_waiting step) waits ∙ end-waits step of;
    idle = idle;
  }

  module _ (P : Course → Type 0) where
    crashed : (ss : List ServerNo) (more : List Step) (d : Course) → Ending d → ((s : ServerNo) → (list_any (server_eq s) ss ≡ true) ⊎ IfUp Fresh (d.world.memory s)) → IsRun (map (λ (s : ServerNo). Crash s) ss ++ more) d.world
        → ((e : Course) → Ending e → ((s : ServerNo) → IfUp Fresh (e.world.memory s)) → IsRun more e.world → P (go_on more e)) → P (go_on (map (λ (s : ServerNo). Crash s) ss ++ more) d)
    crashed [] more d h fresh i then' = then' d h (λ s. by s (fresh s)) i
      where
        by : (s : ServerNo) → (false ≡ true) ⊎ IfUp Fresh (d.world.memory s) → IfUp Fresh (d.world.memory s)
        by s (inl e) = absurd (true≢false (sym e))
        by s (inr k) = k
    crashed (q ∷ ss) more d h fresh i then' = crashed ss more (go (Crash q) d) (ending-go d (Crash q) refl h.traced h.waits (end-idle (Crash q) d.world refl h.idle) i.0) (λ s. by s (list_any (server_eq s) ss) refl (fresh s)) i.1 then'
      where
        either : (a b : Bool) → (a || b) ≡ true → b ≡ false → a ≡ true
        either a b e f = grind (arith, e, f)

        by : (s : ServerNo) (b : Bool) → list_any (server_eq s) ss ≡ b → (list_any (server_eq s) (q ∷ ss) ≡ true) ⊎ IfUp Fresh (d.world.memory s) → (b ≡ true) ⊎ IfUp Fresh ((go (Crash q) d).world.memory s)
        by s true e k = inl refl
        by s false e (inl k) = inr (crash-memory q s d.world Fresh (inl (either (server_eq s q) (list_any (server_eq s) ss) k e)))
        by s false e (inr k) = inr (crash-memory q s d.world Fresh (inr k))

    restarted : (starts : ServerNo → Start) (ss : List ServerNo) (more : List Step) (d : Course) → Ending d → ((s : ServerNo) → IfUp Fresh (d.world.memory s)) → IsRun (restarts starts ss ++ more) d.world
        → ((e : Course) → Ending e → ((s : ServerNo) → IfUp Fresh (e.world.memory s)) → IsRun more e.world → P (go_on more e)) → P (go_on (restarts starts ss ++ more) d)
    restarted starts [] more d h fresh i then' = then' d h fresh i
    restarted starts (q ∷ ss) more d h fresh i then' =
        let narrowed = ending-go d (Narrow q (starts q).narrowed) refl h.traced h.waits (end-idle (Narrow q (starts q).narrowed) d.world refl h.idle) i.0 in
        let up = ending-go (go (Narrow q (starts q).narrowed) d) (Restart q (starts q).pick (starts q).works (starts q).tids) refl narrowed.traced narrowed.waits (end-idle (Restart q (starts q).pick (starts q).works (starts q).tids) (go (Narrow q (starts q).narrowed) d).world refl narrowed.idle) i.1.0 in
        restarted starts ss more (go (Restart q (starts q).pick (starts q).works (starts q).tids) (go (Narrow q (starts q).narrowed) d)) up
        (λ s. restart-memory q s (starts q).pick (starts q).works (starts q).tids (go (Narrow q (starts q).narrowed) d).world (subst (λ o. IfUp Fresh o) (sym (narrow-memory q s (starts q).narrowed d.world)) (fresh s))) i.1.1 then'

  pub record Ended (d : Course) : Type 0 where
    pub ending : Ending d
    pub kept : (s : ServerNo) → IfUp Kept (d.world.memory s)

  closes : (ss : List ServerNo) (d : Course) → Ending d → ((s : ServerNo) → Closing s ss d.world) → IsRun (map (λ (s : ServerNo). CloseClients s) ss) d.world → Ended (go_on (map (λ (s : ServerNo). CloseClients s) ss) d)
  closes [] d h closing i = record { ending = h; kept = λ s. by s (closing s) }
    where
      by : (s : ServerNo) → Closing s [] d.world → IfUp Kept (d.world.memory s)
      by s (inl k) = k
      by s (inr k) = absurd (true≢false (sym k.1))
  closes (q ∷ ss) d h closing i = closes ss (go (CloseClients q) d) (ending-go d (CloseClients q) refl h.traced h.waits (end-idle (CloseClients q) d.world refl h.idle) i.0) (λ s. close-memory q s ss d.world (closing s)) i.1

  blank-fresh : (m : Memory) → (m.worker ≡ []) × (m.coordinator.transactions ≡ []) → Fresh m
  blank-fresh m b = record { works = ap are_prepared b.0; transactions = ap (are_all is_committed) b.1 }

  blank-kept : (m : Memory) → (m.worker ≡ []) × (m.coordinator.transactions ≡ []) → Kept m
  blank-kept m b = record { works = ap are_prepared b.0; transactions = ap (are_all is_thanked) b.1 }

  end-closes : (starts : ServerNo → Start) (d : Course) → Traced d → d.waiting ≡ [] → IsRun (end_steps starts servers) d.world → Ended (go_on (end_steps starts servers) d)
  end-closes starts d h waits i = crashed Ended servers (restarts starts servers ++ map (λ (s : ServerNo). CloseClients s) servers) (go Dismiss d) dismissed (λ s. fresh s (list_any (server_eq s) servers) refl) i.1
      (λ e ending fresh j. restarted Ended starts servers (map (λ (s : ServerNo). CloseClients s) servers) e ending fresh j (λ f ending fresh k. closes servers f ending (λ s. closing f ending fresh s (list_any (server_eq s) servers) refl) k))
    where
      dismissed : Ending (go Dismiss d)
      dismissed = ending-go d Dismiss refl h waits (λ c. refl) tt

      fresh : (s : ServerNo) (b : Bool) → list_any (server_eq s) servers ≡ b → (b ≡ true) ⊎ IfUp Fresh ((go Dismiss d).world.memory s)
      fresh s true e = inl refl
      fresh s false e = inr (λ m up. blank-fresh m (blank d h s m (not-among n s e) up))

      closing : (f : Course) → Ending f → ((s : ServerNo) → IfUp Fresh (f.world.memory s)) → (s : ServerNo) (b : Bool) → list_any (server_eq s) servers ≡ b → IfUp Kept (f.world.memory s) ⊎ (IfUp Fresh (f.world.memory s) × (b ≡ true))
      closing f ending fresh s true e = inr (fresh s, refl)
      closing f ending fresh s false e = inl (λ m up. blank-kept m (blank f ending.traced s m (not-among n s e) up))

  -- ---- at rest

  ask-memory : (cs : List ClientNo) (ss : List ServerNo) (d : Course) → (go_on (ask_again cs ss) d).world.memory ≡ d.world.memory
  ask-memory [] [] d = refl
  ask-memory [] (s ∷ ss) d = ask-memory [] ss (go (Nudge s) d) ∙ by (d.world.memory s)
    where
      by : (o : Option Memory) → (nudge s o d.world).memory ≡ d.world.memory
      by None = refl
      by (Some m) = refl
  ask-memory (c ∷ cs) ss d = ask-memory cs ss (go (Again c) d)

  module _ (d : Course) (h : Tends n at_most start files epochs d) (traced : Traced d) (ways : Ways d) (waits : d.waiting ≡ []) (quiet : NothingGoes n d.world) (up : AreUp n d.world) where
    none-waits : (x : Sent) → Waits d.world.sent d.waiting x → ⊥
    none-waits x a = true≢false (sym a.waits ∙ ap (λ l. list_any (nat_eq a.number) l) waits)

    not-ready : (W : WorkId) → is_ready (stored d.world W) ≡ true → ⊥
    not-ready W r = by (ways.ready W r)
      where
        by : Asked d W → ⊥
        by (inquires T a) = none-waits _ a
        by (commits T a) = none-waits _ a
        by (drops T a) = none-waits _ a

    one-of : (o : Option Prepared) (p : Prepared) → o ≡ Some p → is_going o ≡ false → is_ready o ≡ true
    one-of None p e g = absurd (cc e)
    one-of (Some q) p e g = grind (arith, g)

    none-stored-at : (W : WorkId) → stored d.world W ≡ None
    none-stored-at W = by (nat_lt W.server.0 n) refl
      where
        by : (b : Bool) → nat_lt W.server.0 n ≡ b → stored d.world W ≡ None
        by true l = none_unless (stored d.world W) (λ p e. let m = some_of (d.world.memory W.server) (up W.server (grind (arith, nat_tests, l))) in
            not-ready W (one-of (stored d.world W) p e (quiet W.server m.0 (λ k. false) W (grind (arith, nat_tests, l)) m.1)))
        by false l = none_unless (stored d.world W) (λ p e. far d traced W.server (λ k. false) W p e (grind (arith, nat_tests, l)))

    not-needed : (T : Tid) (W : WorkId) → Needed d.world T W → ⊥
    not-needed T W need = by (ways.needed T W need)
      where
        by : Stays d T W → ⊥
        by (lives l) = true≢false (sym l ∙ ap is_some (none-stored-at W))
        by (told a) = none-waits _ a
        by (carried a) = none-waits _ a

    module _ (s : ServerNo) (m : Memory) (is : d.world.memory s ≡ Some m) where
      fact : UpFact s m (d.world.found s)
      fact = up-fact n at_most start files epochs d h s m is

      no-works : m.worker ≡ []
      no-works = by m.worker refl
        where
          by : (t : WorkerTable) → m.worker ≡ t → t ≡ []
          by [] e = refl
          by (v ∷ vs) e = absurd (true≢false (sym there ∙ ap is_some (sym (ap (λ (q : ServerNo). (stable (d.world.found q)).works v.name) place) ∙ none-stored-at v.name)))
            where
              found : work_at v.name m.worker ≡ Some v
              found = ap (work_at v.name) e ∙ grind (arith, nat_tests)

              there : is_some ((stable (d.world.found s)).works v.name) ≡ true
              there = some-stored m (stable (d.world.found s)) (Needed d.world) (h.kept s m is) (record { free = record { records = 0; pages = 0; heads = 0 }; maps = no_maps; rubbish = false }) fact.table v.name v found

              place : v.name.server ≡ s
              place = fact.table.place v.name v found ∙ fact.server

      no-transactions : m.coordinator.transactions ≡ []
      no-transactions = by m.coordinator.transactions refl (let k = h.kept s m is in k.transactions)
        where
          on : (x : Transaction) (xs : List Transaction) → m.coordinator.transactions ≡ x ∷ xs → (stage : Stage) → x.stage ≡ stage → is_thanked stage ≡ true → ⊥
          on x xs e (Committed c) g k = let u = undone c k in let names = subst (λ l. AreTransactions (run_atoms h.known.atoms (opening_world files epochs)) s l) e (h.known.mirrors.transactions s m is) in
              not-needed x.tid u.work (record { memory = m; up = ap d.world.memory (let p = names.0 in p.place) ∙ is; is = ap (λ l. needs l x.tid u.work) e ∙ (let q = u.is in first u.work ∙ ap (needs_in u.work) g ∙ q) })
            where
              first : (W : WorkId) → needs (x ∷ xs) x.tid W ≡ needs_in W x.stage
              first W = grind (arith, nat_tests)
          on x xs e Open g k = absurd (true≢false (sym k))
          on x xs e (Voting b) g k = absurd (true≢false (sym k))
          on x xs e (Aborted cause) g k = absurd (true≢false (sym k))

          by : (l : List Transaction) → m.coordinator.transactions ≡ l → are_all is_thanked m.coordinator.transactions ≡ true → l ≡ []
          by [] e k = refl
          by (x ∷ xs) e k = absurd (on x xs e x.stage refl (let all = subst (λ l. are_all is_thanked l ≡ true) e k in grind (arith, all)))

      pub is-empty : IsEmpty m (d.world.found s)
      is-empty = record {
        works = no-works;
        transactions = no-transactions;
        stored = λ c W. ap (λ (x : StableState). x.works W) (fact.same c) ∙ none_of ((stable (d.world.found s)).works W) (false_unless (is_some ((stable (d.world.found s)).works W)) (λ k. true≢false (sym (fact.table.live W k) ∙ ap (λ t. is_some (work_at W t)) no-works)));
        flags = λ c T. ap (λ (x : StableState). x.flags T) (fact.same c) ∙ none_of ((stable (d.world.found s)).flags T) (false_unless (is_some ((stable (d.world.found s)).flags T)) (λ k. let sizes = up-sizes n at_most d.world h.sound.sizes h.sound.locks s m is in
            true≢false (sym (sizes.flags T k) ∙ ap (committed_at T) no-transactions)));
      }

  -- ---- the settle after it

  blank-ways : (d e : Course) (s : ServerNo) → Traced d → n ≤ s.0 → e.world.memory ≡ d.world.memory → e.world.found ≡ d.world.found → WaysAt n at_most start files epochs e s
  blank-ways d e s h l memory found = record {
    ready = λ W at r. absurd (true≢false (sym r ∙ ap is_ready (ap (λ (q : ServerNo). (stable (e.world.found q)).works W) at ∙ ap (λ f. (stable (f s)).works W) found ∙ none_unless ((stable (d.world.found s)).works W) (λ p e. far d h s (λ k. false) W p e l))));
    needed = λ T W at need. absurd (true≢false (sym need.is ∙ ap (λ xs. needs xs T W) (blank d h s need.memory l (ap (λ f. f s) (sym memory) ∙ ap e.world.memory (sym at) ∙ need.up)).1));
  }

  settled-traced : (first second : ℕ → Chance) (j : ℕ) (d : Course) → Traced d → Traced (settled n (record { first = first; second = second; steps = j }) d)
  settled-traced first second j d t = rest-keeps n at_most start files epochs Traced traced-go j second _ (ask-keeps n at_most start files epochs Traced traced-go (clients_from 1 8) servers _ (rest-keeps n at_most start files epochs Traced traced-go j first d t))

  pub leaves-nothing : (first second : ℕ → Chance) (d : Course) → Ended d → Leaves IsClosed n first second d
  leaves-nothing first second d h = record { steps = ends.steps; each = each }
    where
      t : Traced d
      t = let e = h.ending in e.traced

      ends : Ends n first second d
      ends = settle-ends n at_most start first second d t.sound

      each : (j : ℕ) → ends.steps ≤ j → AreUp n (settled n (record { first = first; second = second; steps = j }) d).world → IsClosed (settled n (record { first = first; second = second; steps = j }) d)
      each j l up = record {
        waits = ap (λ (z : Course). z.waiting) (ends.each j l) ∙ (let r = ends.rests in r.waits);
        servers = λ s m is. is-empty last g3.tends (settled-traced first second j d t) (g3.ways refl)
            (ap (λ (z : Course). z.waiting) (ends.each j l) ∙ (let r = ends.rests in r.waits)) (subst (λ (z : Course). NothingGoes n z.world) (sym (ends.each j l)) ends.quiet) up s m is;
      }
        where
          part : Course
          part = until_rest servers first j d

          middle : Course
          middle = go_on (ask_again (clients_from 1 8) servers) part

          last : Course
          last = until_rest servers second j middle

          same : middle.world.memory ≡ part.world.memory
          same = ask-memory (clients_from 1 8) servers part

          up1 : AreUp n part.world
          up1 s near = by (part.world.memory s) refl
            where
              by : (o : Option Memory) → part.world.memory s ≡ o → is_some o ≡ true
              by (Some m) e = refl
              by None e = absurd (true≢false (sym (up s near) ∙ ap is_some (rest-down n s j second middle (ap (λ f. f s) same ∙ e))))

          t1 : Traced part
          t1 = rest-keeps n at_most start files epochs Traced traced-go j first d t

          tends : Tends n at_most start files epochs d
          tends = let e = h.ending in record { sound = t.sound; known = t.known; within = t.within; kept = h.kept; idle = e.idle; ours = ap (waiting_ours d.world.sent) e.waits }

          g1 : Goes n at_most start files epochs false part
          g1 = rest-goes n at_most start files epochs false j first d (record { tends = tends; ways = λ e. absurd (true≢false (sym e)) }) up1

          g2 : Goes n at_most start files epochs true middle
          g2 = ask-goes n at_most start files epochs (clients_from 1 8) servers part g1.tends (λ s among. up1 s (let k = among-below n 0 s among in omega (arith, k))) (λ s out e memory found. blank-ways part e s t1 (not-among n s out) memory found)

          g3 : Goes n at_most start files epochs true last
          g3 = rest-goes n at_most start files epochs true j second middle g2 up

  -- what is found is what was committed
  as-committed : (d : Course) → Traced d → AreUp n d.world → IsClosed d → IsAsCommitted files d.world
  as-committed d h up closed = record {
    history = order.history;
    told = order.told;
    once = order.once;
    serial = order.serial;
    shown = λ s c u. order.shown s c u (λ W p e. absurd (clash ((d.world.found s c).works W) p e (none s c W (nat_lt s.0 n) refl)));
  }
    where
      none : (s : ServerNo) (c : Pick) (W : WorkId) (b : Bool) → nat_lt s.0 n ≡ b → (d.world.found s c).works W ≡ None
      none s c W true l = let m = some_of (d.world.memory s) (up s (grind (arith, nat_tests, l))) in let empty = closed.servers s m.0 m.1 in empty.stored c W
      none s c W false l = none_unless ((d.world.found s c).works W) (λ p e. far d h s c W p e (grind (arith, nat_tests, l)))

      order : IsInOrder files d.world
      order = moves-in-order files epochs d.world h.sound.locks (record { atoms = h.known.atoms; may = h.known.may; mirrors = h.known.mirrors })

  pub leaves-committed : (first second : ℕ → Chance) (d : Course) → Ended d → Leaves (λ c. IsAsCommitted files c.world) n first second d
  leaves-committed first second d h = record {
    steps = nothing.steps;
    each = λ j l up. as-committed _ (settled-traced first second j d (let e = h.ending in e.traced)) up (nothing.each j l up);
  }
    where
      nothing : Leaves IsClosed n first second d
      nothing = leaves-nothing first second d h

module _ (n : ℕ) (at_most : n ≤ 8) (files : AllFiles) (epochs : ServerNo → ℕ) (steps : List Step) (is : IsRun steps (opening n files epochs)) (starts : ServerNo → Start)
    (comes : IsRun (end_steps starts (servers_from 0 n)) (run steps (opening n files epochs))) where
  abbrev c : Course
  c = go_on steps (opening_course n files epochs)

  t : Traced n at_most (opening n files epochs) files epochs c
  t = traced-on n at_most (opening n files epochs) files epochs steps (opening_course n files epochs) (record { sound = opening-sound n files epochs; known = opening-reached files epochs n; within = opening-within n files epochs }) is

  it-ended : Ended n at_most (opening n files epochs) files epochs (ended n starts c)
  it-ended = end-closes n at_most (opening n files epochs) files epochs starts (without_messages c)
      (record { sound = record { course = record { is_run = t.sound.course.is_run; stands = t.sound.course.stands }; locks = t.sound.locks; sizes = t.sound.sizes; below = refl }; known = t.known; within = t.within }) refl (subst (λ (w : World). IsRun (end_steps starts (servers_from 0 n)) w) (sym (on-world steps (opening_course n files epochs))) comes)

  pub end-leaves-nothing : (first second : ℕ → Chance) → Leaves IsClosed n first second (ended n starts c)
  end-leaves-nothing first second = leaves-nothing n at_most (opening n files epochs) files epochs first second (ended n starts c) it-ended

  pub end-leaves-committed : (first second : ℕ → Chance) → Leaves (λ z. IsAsCommitted files z.world) n first second (ended n starts c)
  end-leaves-committed first second = leaves-committed n at_most (opening n files epochs) files epochs first second (ended n starts c) it-ended
