-- What holds of every table of a coordinator: no vote or commit in it is complete.
use Rattle.jn_system_settling.proofs.Common.{◌≡◌, ℕ, Bool, true, false, List, [], ◌∷◌, ◌++◌, length, Option, Some, None, refl, ◌∙◌, ap, arith, ◌&&◌, not, if◌then◌else◌, nat_lt, nat_eq, ServerNo, ClientNo, Tid, Tickets, client_eq, Message, Transaction, Stage, Open, Voting, Committed, Aborted, StableState, FlagState, stable, RowOutcome, all_thanked, thanked, CoordinatorTable, transaction_at, with_stage, all_in, closed, after_closing, begin_again, begun_by, end_row, abort_request, inquire_row, vote_row, done_row, thanks_row, coordinator_row, restored_transaction, restored_transactions, World, Memory, server_timeout, of_timeout, restored, WorkerTable, timeout_row, Step, after, run, ServerRow, of_message, of_work, of_closing, StepCase, row_done, row_stopped, gone_late, gone_down, come_up, step-case, memory-now, memory-gone, row-either, row-of-step}
use Rattle.jn_msgs.specs.declared.message.Message.TheVariants as messages
use Rattle.jn_rows.specs.Coordinator.{without}
use Rattle.jn_system_settling.proofs.AtRest.Fates.{is_unfinished, Kind, keeps, comes, goes, end-its, abort-stage-its, told-its, vote-its, done-its, thanks-its}

abbrev pub all_unfinished : List Transaction → Bool
all_unfinished [] = true
all_unfinished (x ∷ xs) = is_unfinished x.stage && all_unfinished xs

pub found-unfinished : (T : Tid) (xs : List Transaction) (y : Transaction) → all_unfinished xs ≡ true → transaction_at T xs ≡ Some y → is_unfinished y.stage ≡ true
found-unfinished T [] y h q = absurd (cc q)
found-unfinished T (x ∷ xs) y h q = let again = found-unfinished T xs y in grind (arith, h, q)

abbrev AreUnfinished : RowOutcome CoordinatorTable → Type 0
AreUnfinished row = all_unfinished row.table.transactions ≡ true

staged-unfinished : (T : Tid) (s : Stage) (xs : List Transaction) → is_unfinished s ≡ true → all_unfinished xs ≡ true → all_unfinished (with_stage T s xs) ≡ true
staged-unfinished T s [] k h = refl
staged-unfinished T s (x ∷ xs) k h = let again = staged-unfinished T s xs k in grind (arith, h, k)

less-unfinished : (T : Tid) (xs : List Transaction) → all_unfinished xs ≡ true → all_unfinished (without T xs) ≡ true
less-unfinished T [] h = refl
less-unfinished T (x ∷ xs) h = let again = less-unfinished T xs in grind (arith, h)

both-unfinished : (xs ys : List Transaction) → all_unfinished xs ≡ true → all_unfinished ys ≡ true → all_unfinished (xs ++ ys) ≡ true
both-unfinished [] ys h k = k
both-unfinished (x ∷ xs) ys h k = let again = both-unfinished xs ys in grind (arith, h, k)

closing-unfinished : (c : ClientNo) (xs : List Transaction) → all_unfinished xs ≡ true → all_unfinished (after_closing c xs) ≡ true
closing-unfinished c [] h = refl
closing-unfinished c (x ∷ xs) h = by (client_eq x.client c) (closing-unfinished c xs (grind (arith, h)))
  where
    one : (s : Stage) → all_unfinished (closed s x) ≡ true
    one Open = refl
    one (Voting b) = refl
    one (Aborted cause) = refl
    one (Committed d) = on (all_in d.works d.done) refl
      where
        on : (b : Bool) → all_in d.works d.done ≡ b → all_unfinished (if b then [] else record x { stage = Committed (record d { thanked = true }) } ∷ []) ≡ true
        on true e = refl
        on false e = ap (λ (z : Bool). not z && true) e

    by : (b : Bool) → all_unfinished (after_closing c xs) ≡ true → all_unfinished (if b then closed x.stage x ++ after_closing c xs else x ∷ after_closing c xs) ≡ true
    by true again = both-unfinished (closed x.stage x) (after_closing c xs) (one x.stage) again
    by false again = grind (arith, h)

-- those that are thanked all at once
thanked-unfinished : (xs : List Transaction) → all_unfinished xs ≡ true → all_unfinished (all_thanked xs) ≡ true
thanked-unfinished [] h = refl
thanked-unfinished (x ∷ xs) h = both-unfinished (thanked x.stage x) (all_thanked xs) (one x.stage refl) (thanked-unfinished xs (grind (arith, h)))
  where
    its : is_unfinished x.stage ≡ true
    its = grind (arith, h)

    one : (s : Stage) → x.stage ≡ s → all_unfinished (thanked s x) ≡ true
    one Open e = ap (λ (z : Stage). is_unfinished z && true) e
    one (Voting b) e = ap (λ (b : Bool). b && true) its
    one (Aborted cause) e = refl
    one (Committed d) e = on (all_in d.works d.done) refl
      where
        on : (b : Bool) → all_in d.works d.done ≡ b → all_unfinished (if b then [] else record x { stage = Committed (record d { thanked = true }) } ∷ []) ≡ true
        on true e = refl
        on false e = ap (λ z. not z && true) e

module _ (t : CoordinatorTable) (free : ℕ) (k : Tickets) (h : all_unfinished t.transactions ≡ true) where
  by-kind : (U : Tid) (y : Transaction) (row : RowOutcome CoordinatorTable) → Kind U y t row → AreUnfinished row
  by-kind U y row (keeps e) = ap all_unfinished e ∙ h
  by-kind U y row (comes stage e unfinished move) = ap all_unfinished e ∙ staged-unfinished U stage t.transactions unfinished h
  by-kind U y row (goes e u) = ap all_unfinished e ∙ less-unfinished U t.transactions h

  choose : (b : Bool) (p q : RowOutcome CoordinatorTable) → AreUnfinished p → AreUnfinished q → AreUnfinished (if b then p else q)
  choose true p q a b = a
  choose false p q a b = b

  -- a row on a transaction, if it is there
  on-one : (U : Tid) (f : Option Transaction → RowOutcome CoordinatorTable) → AreUnfinished (f None) → ((y : Transaction) → transaction_at U t.transactions ≡ Some y → Kind U y t (f (Some y))) → AreUnfinished (f (transaction_at U t.transactions))
  on-one U f none some = by (transaction_at U t.transactions) refl
    where
      by : (o : Option Transaction) → transaction_at U t.transactions ≡ o → AreUnfinished (f o)
      by None e = none
      by (Some y) e = by-kind U y (f (Some y)) (some y e)

  pub row-unfinished : (m : Message) → AreUnfinished (coordinator_row t free k m)
  row-unfinished (messages.Begin c q) = choose (nat_lt (t.seen c) q.0) _ _ (choose (nat_lt (length (after_closing c t.transactions)) 64) _ _ (both-unfinished (after_closing c t.transactions) _ (closing-unfinished c t.transactions h) refl) (closing-unfinished c t.transactions h))
      (choose (nat_eq (t.seen c) q.0) _ _ (again (begun_by c q t.transactions)) h)
    where
      again : (o : Option Transaction) → AreUnfinished (begin_again t k c q o)
      again None = h
      again (Some y) = h
  row-unfinished (messages.End c q U Ws) = on-one U (end_row t free k c q U Ws) h (λ y e. end-its t k U y e free q Ws y.stage refl)
  row-unfinished (messages.Abort c q U Ws) = on-one U (abort_request t k c U Ws) h (λ y e. abort-stage-its t k U y e Ws y.stage refl)
  row-unfinished (messages.Thanks c U) = on-one U (thanks_row t k U) h (λ y e. thanks-its t k U y e y.stage refl)
  row-unfinished (messages.Vote U W vote) = on-one U (vote_row t k U W vote) h (λ y e. vote-its t k U y e W vote y.stage refl)
  row-unfinished (messages.Done U W) = on-one U (done_row t k U W) h (λ y e. done-its t k U y e W y.stage refl)
  row-unfinished (messages.Inquire U W) = on-one U (inquire_row t k U W) h (λ y e. told-its t k U y e U W y.stage)
  row-unfinished m = h

abbrev IsUnfinished : Memory → Type 0
IsUnfinished m = all_unfinished m.coordinator.transactions ≡ true

abbrev pub Unfinished : World → Type 0
Unfinished w = (s : ServerNo) (m : Memory) → w.memory s ≡ Some m → IsUnfinished m

restored-unfinished : (x : StableState) (Ts : List Tid) → all_unfinished (restored_transactions x Ts) ≡ true
restored-unfinished x [] = refl
restored-unfinished x (T ∷ Ts) = both-unfinished (restored_transaction T (x.flags T)) (restored_transactions x Ts) (by (x.flags T)) (restored-unfinished x Ts)
  where
    by : (o : Option FlagState) → all_unfinished (restored_transaction T o) ≡ true
    by None = refl
    by (Some flag) = refl

module _ (w : World) (h : Unfinished w) where
  of-row : (s : ServerNo) (m : Memory) (step : Step) (k : Option ℕ) (row : RowOutcome Memory) → IsUnfinished m → ServerRow w s m None step k row → IsUnfinished row.table
  of-row s m _ _ _ old (of_message _ k room message is) = row-either (λ row. IsUnfinished row.table) m (stable (w.found s)) room message old (row-unfinished m.coordinator room.free.records m.tickets old message)
  of-row s m _ _ row old (of_work _ room _ is) = row-of-step (λ row. IsUnfinished row.table) m (stable (w.found s)) room row is (λ r e. old)
  of-row s m _ _ _ old of_closing = thanked-unfinished m.coordinator.transactions old

  late : (m : Memory) (o : Option WorkerTable) → IsUnfinished m → IsUnfinished (of_timeout m o)
  late m None old = old
  late m (Some t) old = old

  by-case : (step : Step) (now : World) → StepCase w step now → Unfinished now
  by-case step _ (row_done _ s m k row e is) = memory-now IsUnfinished w.memory h s row.table (of-row s m step k row (h s m e) is)
  by-case step _ (row_stopped _ s m k row made e is) = memory-gone IsUnfinished w.memory h s
  by-case _ _ (gone_late s m T e) = memory-now IsUnfinished w.memory h s (server_timeout m T) (late m (timeout_row m.worker T) (h s m e))
  by-case _ _ (gone_down s m e) = memory-gone IsUnfinished w.memory h s
  by-case _ _ (come_up s pick Ws Ts e) = memory-now IsUnfinished w.memory h s (restored s (w.found s pick) Ws Ts) (restored-unfinished (w.found s pick) Ts)
  by-case _ _ is = h

pub step-unfinished : (step : Step) (w : World) → Unfinished w → Unfinished (after step w)
step-unfinished step w h = by-case w h step (after step w) (step-case w step)

pub run-unfinished : (steps : List Step) (w : World) → Unfinished w → Unfinished (run steps w)
run-unfinished [] w h = h
run-unfinished (step ∷ steps) w h = run-unfinished steps (after step w) (step-unfinished step w h)
