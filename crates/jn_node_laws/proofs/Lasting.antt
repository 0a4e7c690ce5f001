-- What frames lead to by the books comes to an end: a message leaves less to do than it weighed, a step less of what goes, and of what is rubbish.
use Rattle.jn_node_laws.proofs.Common.{◌≡◌, ◌⊎◌, inl, inr, ⊎_elim, ℕ, zero, suc, ◌+◌, ◌≤◌, ◌<◌, Bool, true, false, List, [], ◌∷◌, ◌++◌, length, Option, Some, None, is_some, refl, sym, ◌∙◌, ap, subst, arith, true≢false, if◌then◌else◌, ◌&&◌, nat_lt, nat_tests, none-some, AllByRecursion, ServerNo, Tid, WorkId, work_tells, Message, Counts, RowOutcome, Sent, StableState, Prepared, made_all, epoch-all, quiet, going_row, going_work, Work, WorkerTable, CoordinatorTable, coordinator_row, timed_out, timeout_row, work_of, worker_row, vulnerable, Room, of_coordinator, of_step, of_timeout, of_worker, server_again, server_row, server_step, server_timeout, storage_of, Memory, Aside, coordinator-aside, flags-all, Framed, to_itself, to_others, slice_get, slice_get_within, Tickets, is_own, Files, IsFresh, only_files, found_on, CarryOut, is_going, WorkStorage, carried_row, list_of, StoreView, row-either, row-of-step, WorkerCase, WorkerStep, carries_out, erases_rubbish, is_over, marks_it, prepares_it, removes_it, worker-case, worker-step-case, MayCome, Body, AreListed, Books, BooksServe, BooksServeAll, BooksSettle, ServeMessage, ServeNone, ServeNudge, ServeOneMore, ServeTimeout, SettleByOwn, SettleByWork, SettleHere, first_books, row_by, room_by, step_by, taken_by, worked_by}
use Rattle.jn_msgs.specs.Ranges.{is_few, is_near, is_small, names_near}
use Rattle.jn_msgs.specs.Weights.{weight}
use Rattle.jn_msgs.specs.declared.message.Message.TheVariants as messages
use Rattle.jn_node.proofs.Measures.{falls}
use Rattle.jn_node.proofs.Own.{own-small}
use Rattle.jn_node.specs.Nodes.{weigh_own}
use Rattle.jn_records.specs.declared.intention.Intention.{Intention}
use Rattle.jn_row_ranges.proofs.ServerRows.{again-requests, row-requests, step-requests}
use Rattle.jn_row_ranges.proofs.CoordinatorFits.{CoordinatorFits, coordinator-fits}
use Rattle.jn_row_ranges.proofs.Lightening.{row-lightens, step-lightens}
use Rattle.jn_row_ranges.proofs.WorkerFits.{length-phase, step-fits, worker-fits}
use Rattle.jn_row_ranges.specs.Sizes.{AreFlagsOf, AreOrderly, HasSizes, are_small_stages}
use Rattle.jn_row_ranges.specs.Taking.{are_from_server, is_from_server}
use Rattle.jn_row_ranges.specs.Weighing.{goings}
use Rattle.jn_system.proofs.WholeSystem.Rows.{RowKeeps}
use Rattle.jn_system.proofs.WholeSystem.Tables.{drawn-keeps}
use Rattle.jn_system.proofs.WholeSystem.WorkerRows.{step-keeps, timeout-keeps, worker-keeps}
use Rattle.jn_system.specs.WholeSystem.LockFacts.{TableFact}
use Rattle.jn_wire.specs.declared.frame.Body.TheVariants as bodies
use Rattle.jn_node_laws.proofs.Listed.{listed-still, listed-taken, listed-worked}
use Rattle.jn_node_laws.proofs.Starts.{first-listed}

-- ---- messages that name few works

abbrev AreSmall : List Message → Type 0
AreSmall own = AllByRecursion (λ (m : Message). is_small 8 m ≡ true) own

near-small : (m : Message) → names_near 8 m ≡ true → is_small 8 m ≡ true
near-small (messages.End c q T works) h = by (is_near 8 T.server) (is_few 8 works) h
  where
    by : (a b : Bool) → (a && b) ≡ true → b ≡ true
    by a b h = grind (arith, h)
near-small (messages.Abort c q T works) h = by (is_near 8 T.server) (is_few 8 works) h
  where
    by : (a b : Bool) → (a && b) ≡ true → b ≡ true
    by a b h = grind (arith, h)
near-small m h = refl

small-both : (xs ys : List Message) → AreSmall xs → AreSmall ys → AreSmall (xs ++ ys)
small-both [] ys h k = k
small-both (m ∷ xs) ys h k = (h.0, small-both xs ys h.1 k)

small-itself : (s : ServerNo) (sent : List Sent) → are_from_server sent ≡ true → AreSmall (to_itself s sent)
small-itself s [] h = tt
small-itself s (x ∷ sent) h = by (is_own s x.0) (small-itself s sent (grind (arith, h)))
  where
    mine : is_from_server x.1 ≡ true
    mine = grind (arith, h)

    by : (b : Bool) → AreSmall (to_itself s sent) → AreSmall (if b then x.1 ∷ to_itself s sent else to_itself s sent)
    by true rest = (own-small x.1 mine, rest)
    by false rest = rest

-- ---- what each row keeps

-- its works stand in order and hold what goes together, and they and its transactions are few
pub record IsSized (m : Memory) (x : StableState) : Type 0 where
  pub table : TableFact m.worker m.tickets x.works
  pub works : length m.worker ≤ 64
  pub transactions : length m.coordinator.transactions ≤ 64
  pub stages : are_small_stages 8 m.coordinator.transactions ≡ true
  pub flags : AreFlagsOf m.coordinator.transactions x.flags

abbrev LeavesSized : StableState → RowOutcome Memory → Type 0
LeavesSized x row = IsSized row.table (made_all row.changes x)

module _ (m : Memory) (x : StableState) (h : IsSized m x) where
  orderly : AreOrderly m.worker m.tickets x.works
  orderly = let t = h.table in record { rising = t.rising; before = t.before; live = t.live }

  has-sizes : HasSizes 8 m x
  has-sizes = record { works = h.works; orderly = orderly; transactions = h.transactions; stages = h.stages; flags = h.flags }

  worker-sized : (row : RowOutcome WorkerTable) → RowKeeps x m.tickets row → length row.table ≤ 64 → (made_all row.changes x).flags ≡ x.flags → LeavesSized x (of_worker m row)
  worker-sized row keeps few same = record {
    table = keeps.table;
    works = few;
    transactions = h.transactions;
    stages = h.stages;
    flags = subst (λ f. AreFlagsOf m.coordinator.transactions f) (sym same) h.flags;
  }

  coordinator-sized : (n w : ℕ) (row : RowOutcome CoordinatorTable) → Aside n m.tickets row → CoordinatorFits 8 x m.coordinator w row → LeavesSized x (of_coordinator m row)
  coordinator-sized n w row aside fits = record {
    table = subst (λ f. TableFact m.worker row.tickets f) (sym (flags-all row.changes x aside.flags)) (by aside.tickets);
    works = h.works;
    transactions = fits.few;
    stages = fits.small;
    flags = fits.flags;
  }
    where
      by : (row.tickets ≡ m.tickets) ⊎ (row.tickets ≡ record m.tickets { next = m.tickets.next + 1 }) → TableFact m.worker row.tickets x.works
      by (inl e) = subst (λ (k : Tickets). TableFact m.worker k x.works) (sym e) h.table
      by (inr e) = subst (λ (k : Tickets). TableFact m.worker k x.works) (sym e) (drawn-keeps m.worker m.tickets x.works h.table)

  -- no row of a worker changes a flag
  worker-flags : (s : WorkStorage) (message : Message) (row : RowOutcome WorkerTable) → WorkerCase m.worker s m.tickets message row → (made_all row.changes x).flags ≡ x.flags
  worker-flags s _ _ (prepares_it T c W w a found f v) = refl
  worker-flags s _ _ (marks_it T W w p found f g) = refl
  worker-flags s _ _ (removes_it T W w p found f g) = refl
  worker-flags s message row case = refl

  step-flags : (s : WorkStorage) (row : RowOutcome WorkerTable) → WorkerStep m.worker s m.tickets row → (made_all row.changes x).flags ≡ x.flags
  step-flags s _ (carries_out w i going some) = refl
  step-flags s _ (is_over w going none) = refl
  step-flags s _ (erases_rubbish none rubbish) = refl

  row-sized : (room : Room) (message : Message) → is_small 8 message ≡ true → LeavesSized x (server_row m x room message)
  row-sized room message small = row-either (LeavesSized x) m x room message
      (let fits = worker-fits (storage_of m x room) m.tickets m.worker message orderly h.works in
      worker-sized (worker_row m.worker (storage_of m x room) m.tickets message) (worker-keeps (storage_of m x room) m.tickets m.worker h.table message) fits.few
      (worker-flags (storage_of m x room) message _ (worker-case m.worker (storage_of m x room) m.tickets message)))
      (coordinator-sized _ (weight message) (coordinator_row m.coordinator room.free.records m.tickets message) (coordinator-aside m.coordinator room.free.records m.tickets message)
      (coordinator-fits 8 (omega arith) x m.coordinator m.tickets h.transactions h.stages h.flags room.free.records message small))

  step-sized : (room : Room) (row : RowOutcome Memory) → server_step m x room ≡ Some row → LeavesSized x row
  step-sized room row is = row-of-step (LeavesSized x) m x room row is
      (λ r e. let fits = step-fits (storage_of m x room) m.tickets m.worker r h.works e in
      worker-sized r (step-keeps (storage_of m x room) m.tickets m.worker h.table r e) fits.few (step-flags (storage_of m x room) r (worker-step-case m.worker (storage_of m x room) m.tickets r e)))

  timeout-sized : (T : Tid) → IsSized (server_timeout m T) x
  timeout-sized T = by (timeout_row m.worker T) refl (few (work_of T m.worker))
    where
      few : (o : Option Work) → length (of_timeout m (timed_out m.worker o)).worker ≤ 64
      few None = h.works
      few (Some w) = let l = length-phase w.name (vulnerable w.phase) m.worker in let was = h.works in omega (arith, l, was)

      by : (o : Option WorkerTable) → timeout_row m.worker T ≡ o → length (of_timeout m o).worker ≤ 64 → IsSized (of_timeout m o) x
      by None e l = h
      by (Some t) e l = record { table = timeout-keeps m.worker t m.tickets x.works T h.table e; works = l; transactions = h.transactions; stages = h.stages; flags = h.flags }

-- So it is with the books, and all that they hold is listed.
pub record IsFit (b : Books) : Type 0 where
  pub listed : AreListed b
  pub sized : IsSized b.memory b.found

fit-timeout : (b : Books) (T : Tid) → IsFit b → IsFit (record b { memory = server_timeout b.memory T })
fit-timeout b T fit = record {
  listed = listed-still b (server_timeout b.memory T) b.beside.rubbish fit.listed;
  sized = timeout-sized b.memory b.found fit.sized T;
}

-- ---- what follows

module _ (s : ServerNo) (g : Counts) where
  abbrev left : Books → List Message → ℕ
  left b own = weigh_own own + goings b.found.works b.memory.worker

  record Ends (b : Books) (own : List Message) : Type 0 where
    sent : List Sent
    last : Books
    settles : BooksSettle s g b own sent last
    fit : IsFit last

  fit-taken : (b : Books) (m : Message) (fit : IsFit b) → is_small 8 m ≡ true → IsFit (taken_by b (row_by g b fit.listed m))
  fit-taken b m fit small = record {
    listed = listed-taken b (row_by g b fit.listed m) fit.listed;
    sized = row-sized b.memory b.found fit.sized (room_by g b fit.listed) m small;
  }

  fit-worked : (b : Books) (row : RowOutcome Memory) (fit : IsFit b) → step_by g b fit.listed ≡ Some row → IsFit (worked_by b row)
  fit-worked b row fit is = record {
    listed = listed-worked b row fit.listed;
    sized = step-sized b.memory b.found fit.sized (room_by g b fit.listed) row is;
  }

  -- where less is left to do, it comes to an end
  abbrev Below : ℕ → Type 0
  Below n = (b : Books) (own : List Message) → IsFit b → AreSmall own → left b own < n → Ends b own

  less-left : (now goings' w own goings n : ℕ) → now + goings' + 1 ≤ own + goings + w → w + own + goings ≤ n → now + goings' < n
  less-left now goings' w own goings n a b = omega (arith, a, b)

  module _ (n : ℕ) (less : Below n) where
    takes : (b : Books) (m : Message) (own : List Message) → IsFit b → AreSmall (m ∷ own) → left b (m ∷ own) ≤ n → Ends b (m ∷ own)
    takes b m own fit small most =
        let row = row_by g b fit.listed m in
        let light = row-lightens b.memory b.found (room_by g b fit.listed) m (has-sizes b.memory b.found fit.sized) small.0 in
        let later = less (taken_by b row) (own ++ to_itself s row.messages) (fit-taken b m fit small.0)
        (small-both own (to_itself s row.messages) small.1 (small-itself s row.messages (row-requests b.memory b.found (room_by g b fit.listed) m)))
        (less-left _ _ (weight m) (weigh_own own) (goings b.found.works b.memory.worker) n
        (falls own (own ++ to_itself s row.messages) s row.messages (goings b.found.works b.memory.worker) (goings (made_all row.changes b.found).works row.table.worker)
        1 (weight m) refl light) most) in
        record {
          sent = to_others s row.messages ++ later.sent;
          last = later.last;
          settles = SettleByOwn b later.last m own later.sent fit.listed later.settles;
          fit = later.fit;
        }

    -- once a work is over there is less to do, or a message of its own waits
    goes-on : (b : Books) (own : List Message) → IsFit b → AreSmall own → left b own ≤ n → left b [] < n → Ends b own
    goes-on b [] fit small most fewer = less b [] fit small fewer
    goes-on b (m ∷ own) fit small most fewer = takes b m own fit small most

    worked : (b : Books) (row : RowOutcome Memory) (fit : IsFit b) → step_by g b fit.listed ≡ Some row → Ends (worked_by b row) (to_itself s row.messages) → Ends b []
    worked b row fit is later = record {
      sent = to_others s row.messages ++ later.sent;
      last = later.last;
      settles = SettleByWork b later.last row later.sent fit.listed is later.settles;
      fit = later.fit;
    }

    -- ---- a work goes

    module _ (w : Work) where
      abbrev row-then : Books → Option Intention → RowOutcome Memory
      row-then b o = of_worker b.memory (carried_row b.memory.worker b.memory.tickets w o)

      abbrev next-of : Books → Option Intention
      next-of b = slice_get (list_of b.found w.name) (b.memory.next w.name)

      going-step : (b : Books) (l : AreListed b) (o : Option Intention) → going_work b.found b.memory.worker ≡ Some w → next-of b ≡ o → step_by g b l ≡ Some (row-then b o)
      going-step b l o going is = ap (λ (u : Option Work). of_step b.memory (going_row b.memory.worker (storage_of b.memory b.found (room_by g b l)) b.memory.tickets u)) going
          ∙ ap (λ (i : Option Intention). Some (row-then b i)) is

      ends-it : (b : Books) → IsFit b → left b [] ≤ n → going_work b.found b.memory.worker ≡ Some w → next-of b ≡ None → Ends b []
      ends-it b fit most going none =
          let row = row-then b None in
          let is = going-step b fit.listed None going none in
          let goes = step-lightens b.memory b.found (room_by g b fit.listed) row (has-sizes b.memory b.found fit.sized) is in
          let requests = step-requests b.memory b.found (room_by g b fit.listed) row is in
          worked b row fit is (goes-on (worked_by b row) (to_itself s row.messages) (fit-worked b row fit is) (small-itself s row.messages requests)
          (no-more _ _ _ n (falls [] (to_itself s row.messages) s row.messages (goings b.found.works b.memory.worker) (goings (made_all row.changes b.found).works row.table.worker)
          0 0 refl goes) most)
          (one-less _ _ n goes most))
        where
          no-more : (now goings' was n : ℕ) → now + goings' + 0 ≤ 0 + was + 0 → 0 + was ≤ n → now + goings' ≤ n
          no-more now goings' was n a b = omega (arith, a, b)

          one-less : (goings' was n : ℕ) → 1 + 0 + goings' + 0 ≤ was + 0 → 0 + was ≤ n → 0 + goings' < n
          one-less goings' was n a b = omega (arith, a, b)

      -- files alone are changed by an intention that is carried out
      still-going : (x y : StableState) (t : WorkerTable) → y.works ≡ x.works → going_work y t ≡ going_work x t
      still-going x y [] e = refl
      still-going x y (v ∷ vs) e = ap (λ (works : WorkId → Option Prepared). if is_going (works v.name) then Some v else going_work y vs) e
          ∙ ap (λ (o : Option Work). if is_going (x.works v.name) then Some v else o) (still-going x y vs e)

      one-more : (b : Books) (i : Intention) → (row-then b (Some i)).table.next w.name ≡ b.memory.next w.name + 1
      one-more b i = ap (λ (t : Bool). if t then b.memory.next w.name + 1 else b.memory.next w.name) (⊎_elim (λ t. t.0) (λ t. absurd (t.1 refl)) (work_tells w.name w.name))

      either : (b : Books) → ((i : Intention) → next-of b ≡ Some i → Ends b []) → (next-of b ≡ None → Ends b []) → Ends b []
      either b some none = by (next-of b) refl
        where
          by : (o : Option Intention) → next-of b ≡ o → Ends b []
          by (Some i) e = some i e
          by None e = none e

      goes-until : (k : ℕ) (b : Books) → IsFit b → left b [] ≤ n → going_work b.found b.memory.worker ≡ Some w → length (list_of b.found w.name) ≤ b.memory.next w.name + k → Ends b []
      goes-until zero b fit most going few = either b
          (λ i e. let within = slice_get_within (list_of b.found w.name) (b.memory.next w.name) i e in absurd (omega (arith, within, few)))
          (λ e. ends-it b fit most going e)
      goes-until (suc k) b fit most going few = either b
          (λ i e. let is = going-step b fit.listed (Some i) going e in let more = one-more b i in
          worked b (row-then b (Some i)) fit is
          (goes-until k (worked_by b (row-then b (Some i))) (fit-worked b (row-then b (Some i)) fit is) most
          (still-going b.found (made_all (CarryOut w.name i ∷ []) b.found) b.memory.worker refl ∙ going) (omega (arith, few, more))))
          (λ e. ends-it b fit most going e)

    -- ---- no work goes

    idle-step : (b : Books) (l : AreListed b) (t : Bool) → going_work b.found b.memory.worker ≡ None → nat_lt 0 b.beside.rubbish ≡ t
        → step_by g b l ≡ of_step b.memory (if t then Some (quiet b.memory.worker b.memory.tickets) else None)
    idle-step b l t none is = ap (λ (u : Option Work). of_step b.memory (going_row b.memory.worker (storage_of b.memory b.found (room_by g b l)) b.memory.tickets u)) none
        ∙ ap (λ (a : Bool). of_step b.memory (if a then Some (quiet b.memory.worker b.memory.tickets) else None)) is

    rests : (b : Books) → IsFit b → going_work b.found b.memory.worker ≡ None → nat_lt 0 b.beside.rubbish ≡ false → Ends b []
    rests b fit none is = record { sent = []; last = b; settles = SettleHere b fit.listed (idle-step b fit.listed false none is); fit = fit }

    erases-until : (k : ℕ) (b : Books) → IsFit b → going_work b.found b.memory.worker ≡ None → b.beside.rubbish ≤ k → Ends b []
    erases-until zero b fit none few = rests b fit none (grind (arith, nat_tests, few))
    erases-until (suc k) b fit none few = by (nat_lt 0 b.beside.rubbish) refl
        (λ e. let is = idle-step b fit.listed true none e in
        worked b (of_worker b.memory (quiet b.memory.worker b.memory.tickets)) fit is
        (erases-until k (worked_by b (of_worker b.memory (quiet b.memory.worker b.memory.tickets))) (fit-worked b (of_worker b.memory (quiet b.memory.worker b.memory.tickets)) fit is) none
        (omega (arith, few))))
      where
        by : (t : Bool) → nat_lt 0 b.beside.rubbish ≡ t → (nat_lt 0 b.beside.rubbish ≡ true → Ends b []) → Ends b []
        by true e erases = erases e
        by false e erases = rests b fit none e

    goes : (b : Books) (own : List Message) → IsFit b → AreSmall own → left b own ≤ n → Ends b own
    goes b (m ∷ own) fit small most = takes b m own fit small most
    goes b [] fit small most = by (going_work b.found b.memory.worker) refl
      where
        by : (o : Option Work) → going_work b.found b.memory.worker ≡ o → Ends b []
        by (Some w) e = goes-until w (length (list_of b.found w.name)) b fit most e (omega arith)
        by None e = erases-until b.beside.rubbish b fit e (omega arith)

  below : (n : ℕ) → Below n
  below zero b own fit small lt = absurd (omega (arith, lt))
  below (suc n) b own fit small lt = goes n (below n) b own fit small (omega (arith, lt))

  settles : (b : Books) (own : List Message) → IsFit b → AreSmall own → Ends b own
  settles b own fit small = below (left b own + 1) b own fit small (omega arith)

  -- ---- frames

  record Serves (b : Books) (body : Body) : Type 0 where
    sent : List Sent
    last : Books
    serves : BooksServe s g b body sent last
    fit : IsFit last

  frame-ends : (b : Books) (body : Body) → IsFit b → MayCome body → Serves b body
  frame-ends b (bodies.Message m) fit may = let e = settles b (m ∷ []) fit (near-small m may.1, tt) in
      record { sent = e.sent; last = e.last; serves = ServeMessage b e.last m e.sent e.settles; fit = e.fit }
  frame-ends b bodies.Nudge fit may =
      let e = settles b (to_itself s (server_again b.memory b.found)) fit (small-itself s (server_again b.memory b.found) (again-requests b.memory b.found)) in
      record { sent = to_others s (server_again b.memory b.found) ++ e.sent; last = e.last; serves = ServeNudge b e.last e.sent e.settles; fit = e.fit }
  frame-ends b (bodies.Timeout T) fit may = let e = settles (record b { memory = server_timeout b.memory T }) [] (fit-timeout b T fit) tt in
      record { sent = e.sent; last = e.last; serves = ServeTimeout b e.last T e.sent e.settles; fit = e.fit }

  pub record ServesAll (b : Books) (frames : List Framed) : Type 0 where
    pub sent : List Sent
    pub last : Books
    pub serves : BooksServeAll s g b frames sent last
    pub listed : AreListed last

  pub all-end : (frames : List Framed) (b : Books) → IsFit b → AllByRecursion (λ (f : Framed). MayCome f.body) frames → ServesAll b frames
  all-end [] b fit may = record { sent = []; last = b; serves = ServeNone b; listed = fit.listed }
  all-end (f ∷ fs) b fit may =
      let one = frame-ends b f.body fit may.0 in
      let all = all-end fs one.last one.fit may.1 in
      record { sent = one.sent ++ all.sent; last = all.last; serves = ServeOneMore b one.last all.last f fs one.sent all.sent one.serves all.serves; listed = all.listed }

  -- ---- the epoch stays

  settles-epoch : (b c : Books) (own : List Message) (sent : List Sent) → BooksSettle s g b own sent c → c.found.epoch ≡ b.found.epoch
  settles-epoch _ _ _ _ (SettleHere b l none) = refl
  settles-epoch _ _ _ _ (SettleByOwn b c m own sent l rest) = settles-epoch _ c _ sent rest ∙ epoch-all (row_by g b l m).changes b.found
  settles-epoch _ _ _ _ (SettleByWork b c row sent l is rest) = settles-epoch _ c _ sent rest ∙ epoch-all row.changes b.found

  serves-epoch : (b c : Books) (body : Body) (sent : List Sent) → BooksServe s g b body sent c → c.found.epoch ≡ b.found.epoch
  serves-epoch _ _ _ _ (ServeMessage b c m sent h) = settles-epoch b c _ sent h
  serves-epoch _ _ _ _ (ServeNudge b c sent h) = settles-epoch b c _ sent h
  serves-epoch _ _ _ _ (ServeTimeout b c T sent h) = settles-epoch _ c _ sent h

  pub all-epoch : (b c : Books) (frames : List Framed) (sent : List Sent) → BooksServeAll s g b frames sent c → c.found.epoch ≡ b.found.epoch
  all-epoch _ _ _ _ (ServeNone b) = refl
  all-epoch _ _ _ _ (ServeOneMore b c d f fs sent more h hs) = all-epoch c d fs more hs ∙ serves-epoch b c f.body sent h

-- ---- the first books

pub first-fit : (s : ServerNo) (g : Counts) (epoch : ℕ) (files : Files) (v : StoreView) → IsFresh s g epoch files v → IsFit (first_books s g v)
first-fit s g epoch files v fresh = record {
  listed = first-listed s g epoch files v fresh;
  sized = record {
    table = record {
      rising = refl;
      before = refl;
      place = λ W w e. absurd (none-some w e);
      sound = λ W w e. absurd (none-some w e);
      live = λ W h. absurd (true≢false (sym h ∙ ap (λ (z : StableState). is_some (z.works W)) alone));
      apart = λ V W v w e f ne. absurd (none-some v e);
    };
    works = omega arith;
    transactions = omega arith;
    stages = refl;
    flags = λ T h. absurd (true≢false (sym h ∙ ap (λ (z : StableState). is_some (z.flags T)) alone));
  };
}
  where
    alone : found_on g v (λ n. false) ≡ only_files epoch files
    alone = fresh.found (λ n. false)
