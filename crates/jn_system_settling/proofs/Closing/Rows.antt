-- What a server has once its outcomes are thanked, and what its rows do then.
use Rattle.jn_system_settling.proofs.Common.{◌≡◌, ◌≢◌, ◌⊎◌, inl, inr, Bool, true, false, List, [], ◌∷◌, ◌++◌, Option, Some, None, is_some, true≢false, refl, sym, ◌∙◌, ap, subst, arith, if◌then◌else◌, not, ◌&&◌, nat_tests, ServerNo, Tid, WorkId, Server, tid_eq, work_eq, tid_tells, work_tells, Intention, Note, Work, Phase, Active, Broken, Stored, Transaction, Stage, Open, Voting, Committed, Aborted, Commitment, StableState, Prepared, MarkGoing, RemoveWork, DropFlag, made_all, at_work, gone_on, is_ready, is_going, RowOutcome, Sent, WorkerTable, WorkStorage, work_at, without, commit_phase, drop_row, drop_phase, carried_row, going_work, CoordinatorTable, transaction_at, with_stage, without_tid, is_work, all_in, told_stage, inquire_row, done_row, done_stage, forget_row, Machine, at_work_here, some_is, none_of, false_unless, Memory, Room, storage_of, of_worker, of_coordinator, TableFact, IsSoundWork, AreTransactions, at-stage, in_stage, going-is}
use Rattle.jn_msgs.specs.declared.message.Message.TheVariants as messages
use Rattle.jn_msgs.specs.declared.message.Note.TheVariants as notes
use Rattle.jn_rows.specs.Worker.{commit_row}
use Rattle.jn_system_order.proofs.Mirroring.Transactions.{at-less}
use Rattle.jn_system_settling.proofs.AtRest.Ways.{Has}

-- ---- what a server has

abbrev pub is_prepared : Phase → Bool
is_prepared (Stored p) = true
is_prepared phase = false

abbrev pub are_prepared : WorkerTable → Bool
are_prepared [] = true
are_prepared (w ∷ ws) = is_prepared w.phase && are_prepared ws

-- committed and thanked, and some work isn't done yet
abbrev pub is_thanked : Stage → Bool
is_thanked (Committed d) = d.thanked && not (all_in d.works d.done)
is_thanked stage = false

abbrev pub are_all : (Stage → Bool) → List Transaction → Bool
are_all f [] = true
are_all f (x ∷ xs) = f x.stage && are_all f xs

pub record Kept (m : Memory) : Type 0 where
  pub works : are_prepared m.worker ≡ true
  pub transactions : are_all is_thanked m.coordinator.transactions ≡ true

-- the messages that there are then
abbrev pub is_ours : Sent → Bool
is_ours (Server s, messages.Commit T W) = true
is_ours (Server s, messages.Drop T W) = true
is_ours (Server s, messages.Inquire T W) = true
is_ours (Server s, messages.Done T W) = true
is_ours sent = false

abbrev pub are_ours : List Sent → Bool
are_ours [] = true
are_ours (x ∷ xs) = is_ours x && are_ours xs

-- the transaction waits for the work
abbrev pub needs_in : WorkId → Stage → Bool
needs_in W (Committed d) = is_work W d.works && not (is_work W d.done)
needs_in W stage = false

abbrev pub needs_of : WorkId → Option Transaction → Bool
needs_of W None = false
needs_of W (Some x) = needs_in W x.stage

abbrev pub needs : List Transaction → Tid → WorkId → Bool
needs xs T W = needs_of W (transaction_at T xs)

-- ---- lists

prepared-at : (t : WorkerTable) (W : WorkId) (w : Work) → are_prepared t ≡ true → work_at W t ≡ Some w → is_prepared w.phase ≡ true
prepared-at [] W w h e = absurd (cc e)
prepared-at (v ∷ vs) W w h e = by (work_eq v.name W) e (prepared-at vs W w)
  where
    by : (b : Bool) → (if b then Some v else work_at W vs) ≡ Some w → (are_prepared vs ≡ true → work_at W vs ≡ Some w → is_prepared w.phase ≡ true) → is_prepared w.phase ≡ true
    by true q again = subst (λ (z : Work). is_prepared z.phase ≡ true) (some_is v w q) (grind (arith, h))
    by false q again = again (grind (arith, h)) q

prepared-less : (W : WorkId) (t : WorkerTable) → are_prepared t ≡ true → are_prepared (without W t) ≡ true
prepared-less W [] h = refl
prepared-less W (v ∷ vs) h = let again = prepared-less W vs in grind (arith, h)

pub all-at : (f : Stage → Bool) (T : Tid) (xs : List Transaction) (x : Transaction) → are_all f xs ≡ true → transaction_at T xs ≡ Some x → f x.stage ≡ true
all-at f T [] x h e = absurd (cc e)
all-at f T (y ∷ ys) x h e = by (tid_eq y.tid T) e (all-at f T ys x)
  where
    by : (b : Bool) → (if b then Some y else transaction_at T ys) ≡ Some x → (are_all f ys ≡ true → transaction_at T ys ≡ Some x → f x.stage ≡ true) → f x.stage ≡ true
    by true q again = subst (λ (z : Transaction). f z.stage ≡ true) (some_is y x q) (grind (arith, h))
    by false q again = again (grind (arith, h)) q

all-staged : (f : Stage → Bool) (T : Tid) (s : Stage) (xs : List Transaction) → f s ≡ true → are_all f xs ≡ true → are_all f (with_stage T s xs) ≡ true
all-staged f T s [] k h = refl
all-staged f T s (x ∷ xs) k h = let again = all-staged f T s xs k in grind (arith, h, k)

all-less : (f : Stage → Bool) (T : Tid) (xs : List Transaction) → are_all f xs ≡ true → are_all f (without_tid T xs) ≡ true
all-less f T [] h = refl
all-less f T (x ∷ xs) h = let again = all-less f T xs in grind (arith, h)

work-more : (W V : WorkId) (Ws : List WorkId) → is_work V Ws ≡ true → is_work V (Ws ++ W ∷ []) ≡ true
work-more W V [] h = absurd (true≢false (sym h))
work-more W V (U ∷ Ws) h = let again = work-more W V Ws in grind (arith, h)

work-last : (W : WorkId) (Ws : List WorkId) → is_work W (Ws ++ W ∷ []) ≡ true
work-last W [] = grind (arith, nat_tests)
work-last W (U ∷ Ws) = let again = work-last W Ws in grind (arith, again)

going-some : (o : Option Prepared) → is_going o ≡ true → (is_ready o ≡ false) × (is_some o ≡ true)
going-some None h = absurd (true≢false (sym h))
going-some (Some p) h = (grind (arith, h), refl)

gone-not-ready : (o : Option Prepared) → is_ready (gone_on o) ≡ false
gone-not-ready None = refl
gone-not-ready (Some p) = refl

gone-some : (o : Option Prepared) → is_some (gone_on o) ≡ is_some o
gone-some None = refl
gone-some (Some p) = refl

pub going-there : (x : StableState) (t : WorkerTable) (w : Work) → going_work x t ≡ Some w → work_at w.name t ≡ Some w
going-there x [] w h = absurd (cc h)
going-there x (y ∷ ys) w h = by (is_going (x.works y.name)) refl h (going-there x ys w) (work_tells y.name w.name)
  where
    by : (b : Bool) → is_going (x.works y.name) ≡ b → (if b then Some y else going_work x ys) ≡ Some w → (going_work x ys ≡ Some w → work_at w.name ys ≡ Some w)
        → ((work_eq y.name w.name ≡ true) × (y.name ≡ w.name)) ⊎ ((work_eq y.name w.name ≡ false) × (y.name ≢ w.name)) → work_at w.name (y ∷ ys) ≡ Some w
    by true e k on t = subst (λ (z : Work). work_at z.name (y ∷ ys) ≡ Some z) (some_is y w k) (grind (arith, nat_tests))
    by false e k on (inl t) = absurd (true≢false (sym (going-is x ys w k) ∙ ap (λ (U : WorkId). is_going (x.works U)) (sym t.1) ∙ e))
    by false e k on (inr t) = ap (λ (b : Bool). if b then Some y else work_at w.name ys) t.0 ∙ on k

-- ---- what a row does

module _ (m : Memory) (x : StableState) (Needs : Tid → WorkId → Type 0) where
  pub record RowTends (row : RowOutcome Memory) : Type 0 where
    pub kept : Kept row.table
    pub ours : are_ours row.messages ≡ true
    pub ready : (W : WorkId) → is_ready ((made_all row.changes x).works W) ≡ true → is_ready (x.works W) ≡ true
    pub stays : (T : Tid) (W : WorkId) → Needs T W → is_some (x.works W) ≡ true → (is_some ((made_all row.changes x).works W) ≡ true) ⊎ Has (Server T.server, messages.Done T W) row.messages
    pub needed : (T : Tid) (W : WorkId) → needs row.table.coordinator.transactions T W ≡ true → needs m.coordinator.transactions T W ≡ true

  -- and what of its message
  abbrev pub Own : RowOutcome Memory → Sent → Type 0
  Own row (Server s, messages.Inquire T W) = Has (Server W.server, messages.Commit T W) row.messages ⊎ Has (Server W.server, messages.Drop T W) row.messages
  Own row (Server s, messages.Commit T W) = (is_ready ((made_all row.changes x).works W) ≡ false) × ((is_some ((made_all row.changes x).works W) ≡ true) ⊎ Has (Server T.server, messages.Done T W) row.messages)
  Own row (Server s, messages.Drop T W) = is_ready ((made_all row.changes x).works W) ≡ false
  Own row (Server s, messages.Done T W) = needs row.table.coordinator.transactions T W ≡ false
  Own row sent = Unit {0}

  pub record Takes (row : RowOutcome Memory) (sent : Sent) : Type 0 where
    pub tends : RowTends row
    pub own : Own row sent

  module _ (kept : Kept m) where
    -- nothing of it changes
    quiet-tends : (row : RowOutcome Memory) → row.table.worker ≡ m.worker → row.table.coordinator.transactions ≡ m.coordinator.transactions → (made_all row.changes x).works ≡ x.works → are_ours row.messages ≡ true → RowTends row
    quiet-tends row worker transactions works ours = record {
      kept = record { works = ap are_prepared worker ∙ kept.works; transactions = ap (are_all is_thanked) transactions ∙ kept.transactions };
      ours = ours;
      ready = λ W h. subst (λ f. is_ready (f W) ≡ true) works h;
      stays = λ T W need h. inl (subst (λ f. is_some (f W) ≡ true) (sym works) h);
      needed = λ T W h. subst (λ xs. needs xs T W ≡ true) transactions h;
    }

    -- ---- the worker

    module _ (room : Room) (fact : TableFact m.worker m.tickets x.works) where
      abbrev st : WorkStorage
      st = storage_of m x room

      pub none-stored : (W : WorkId) → work_at W m.worker ≡ None → x.works W ≡ None
      none-stored W e = none_of (x.works W) (false_unless (is_some (x.works W)) (λ h. true≢false (sym (fact.live W h) ∙ ap is_some e)))

      pub some-stored : (W : WorkId) (w : Work) → work_at W m.worker ≡ Some w → is_some (x.works W) ≡ true
      some-stored W w e = by w.phase (prepared-at m.worker W w kept.works e) (fact.sound W w e)
        where
          by : (p : Phase) → is_prepared p ≡ true → IsSoundWork (x.works W) w.tid p → is_some (x.works W) ≡ true
          by (Stored p) h s = ap is_some s.is
          by (Active a) h s = absurd (true≢false (sym h))
          by (Broken u held) h s = absurd (true≢false (sym h))

      -- a work goes on from ready, or is gone
      marked-tends : (W : WorkId) → is_some (x.works W) ≡ true → RowTends (of_worker m (record { table = m.worker; changes = MarkGoing W ∷ []; messages = []; notes = []; tickets = m.tickets }))
      marked-tends W is = record {
        kept = record { works = kept.works; transactions = kept.transactions };
        ours = refl;
        ready = λ V h. ready V (work_tells W V) h;
        stays = λ T V need h. inl (stays V (work_tells W V) h);
        needed = λ T V h. h;
      }
        where
          ready : (V : WorkId) → ((work_eq W V ≡ true) × (W ≡ V)) ⊎ ((work_eq W V ≡ false) × (W ≢ V)) → is_ready (at_work x.works W (gone_on (x.works W)) V) ≡ true → is_ready (x.works V) ≡ true
          ready V (inl e) h = absurd (true≢false (sym h ∙ ap (λ (b : Bool). is_ready (if b then gone_on (x.works W) else x.works V)) e.0 ∙ gone-not-ready (x.works W)))
          ready V (inr e) h = sym (ap (λ (b : Bool). is_ready (if b then gone_on (x.works W) else x.works V)) e.0) ∙ h

          stays : (V : WorkId) → ((work_eq W V ≡ true) × (W ≡ V)) ⊎ ((work_eq W V ≡ false) × (W ≢ V)) → is_some (x.works V) ≡ true → is_some (at_work x.works W (gone_on (x.works W)) V) ≡ true
          stays V (inl e) h = ap (λ (b : Bool). is_some (if b then gone_on (x.works W) else x.works V)) e.0 ∙ gone-some (x.works W) ∙ is
          stays V (inr e) h = ap (λ (b : Bool). is_some (if b then gone_on (x.works W) else x.works V)) e.0 ∙ h

      removed-tends : (W : WorkId) (sent : List Sent) → are_ours sent ≡ true → ((T : Tid) → Needs T W → is_some (x.works W) ≡ true → Has (Server T.server, messages.Done T W) sent)
          → RowTends (of_worker m (record { table = without W m.worker; changes = RemoveWork W ∷ []; messages = sent; notes = []; tickets = m.tickets }))
      removed-tends W sent ours done = record {
        kept = record { works = prepared-less W m.worker kept.works; transactions = kept.transactions };
        ours = ours;
        ready = λ V h. ready V (work_eq W V) h;
        stays = λ T V need h. stays T V (work_tells W V) need h;
        needed = λ T V h. h;
      }
        where
          ready : (V : WorkId) (b : Bool) → is_ready (if b then None else x.works V) ≡ true → is_ready (x.works V) ≡ true
          ready V true h = absurd (true≢false (sym h))
          ready V false h = h

          stays : (T : Tid) (V : WorkId) → ((work_eq W V ≡ true) × (W ≡ V)) ⊎ ((work_eq W V ≡ false) × (W ≢ V)) → Needs T V → is_some (x.works V) ≡ true → (is_some (at_work x.works W None V) ≡ true) ⊎ Has (Server T.server, messages.Done T V) sent
          stays T V (inl e) need h = inr (subst (λ (U : WorkId). Has (Server T.server, messages.Done T U) sent) e.1 (done T (subst (λ (U : WorkId). Needs T U) (sym e.1) need) (subst (λ (U : WorkId). is_some (x.works U) ≡ true) (sym e.1) h)))
          stays T V (inr e) need h = inl (ap (λ (b : Bool). is_some (if b then None else x.works V)) e.0 ∙ h)

      pub commit-takes : (s : ServerNo) (T : Tid) (W : WorkId) (o : Option Work) → work_at W m.worker ≡ o → Takes (of_worker m (commit_row m.worker st m.tickets T W o)) (Server s, messages.Commit T W)
      commit-takes s T W None e = record { tends = quiet-tends _ refl refl refl refl; own = (ap is_ready (none-stored W e), inr (inl refl)) }
      commit-takes s T W (Some w) e = by w.phase (prepared-at m.worker W w kept.works e)
        where
          is : is_some (x.works W) ≡ true
          is = some-stored W w e

          on : (b : Bool) → is_going (x.works W) ≡ b → Takes (of_worker m (if b then record { table = m.worker; changes = []; messages = []; notes = notes.Ignored ∷ []; tickets = m.tickets } else record { table = m.worker; changes = MarkGoing W ∷ []; messages = []; notes = []; tickets = m.tickets })) (Server s, messages.Commit T W)
          on true g = let h = going-some (x.works W) g in record { tends = quiet-tends _ refl refl refl refl; own = (h.0, inl is) }
          on false g = record { tends = marked-tends W is; own = (ap is_ready (at_work_here x.works W (gone_on (x.works W))) ∙ gone-not-ready (x.works W), inl (ap is_some (at_work_here x.works W (gone_on (x.works W))) ∙ gone-some (x.works W) ∙ is)) }

          by : (p : Phase) → is_prepared p ≡ true → Takes (of_worker m (commit_phase m.worker st m.tickets W p)) (Server s, messages.Commit T W)
          by (Stored p) h = on (is_going (x.works W)) refl
          by (Active a) h = absurd (true≢false (sym h))
          by (Broken u held) h = absurd (true≢false (sym h))

      -- a dropped work isn't needed
      pub drop-takes : (s : ServerNo) (T : Tid) (W : WorkId) → ((U : Tid) → Needs U W → is_some (x.works W) ≡ true → ⊥) → (o : Option Work) → work_at W m.worker ≡ o → Takes (of_worker m (drop_row m.worker st m.tickets W o)) (Server s, messages.Drop T W)
      drop-takes s T W free None e = record { tends = quiet-tends _ refl refl refl refl; own = ap is_ready (none-stored W e) }
      drop-takes s T W free (Some w) e = by w.phase (prepared-at m.worker W w kept.works e)
        where
          on : (b : Bool) → is_going (x.works W) ≡ b → Takes (of_worker m (if b then record { table = m.worker; changes = []; messages = []; notes = notes.Ignored ∷ []; tickets = m.tickets } else record { table = without W m.worker; changes = RemoveWork W ∷ []; messages = []; notes = []; tickets = m.tickets })) (Server s, messages.Drop T W)
          on true g = let h = going-some (x.works W) g in record { tends = quiet-tends _ refl refl refl refl; own = h.0 }
          on false g = record { tends = removed-tends W [] refl (λ U need h. absurd (free U need h)); own = ap is_ready (at_work_here x.works W None) }

          by : (p : Phase) → is_prepared p ≡ true → Takes (of_worker m (drop_phase m.worker st m.tickets W p)) (Server s, messages.Drop T W)
          by (Stored p) h = on (is_going (x.works W)) refl
          by (Active a) h = absurd (true≢false (sym h))
          by (Broken u held) h = absurd (true≢false (sym h))

      -- a background step of a going work
      pub carried-tends : ((W : WorkId) (w : Work) (T : Tid) → work_at W m.worker ≡ Some w → Needs T W → T ≡ w.tid) → (w : Work) → work_at w.name m.worker ≡ Some w → (o : Option Intention) → RowTends (of_worker m (carried_row m.worker m.tickets w o))
      carried-tends same w e (Some i) = quiet-tends _ refl refl refl refl
      carried-tends same w e None = removed-tends w.name _ refl (λ T need h. inl (ap (λ (U : Tid). (Server U.server, messages.Done U w.name)) (sym (same w.name w T e need))))

    -- ---- the coordinator

    abbrev t : CoordinatorTable
    t = m.coordinator

    pub inquire-answers : (s : ServerNo) (T : Tid) (W : WorkId) (o : Option Transaction) → transaction_at T t.transactions ≡ o → Takes (of_coordinator m (inquire_row t m.tickets T W o)) (Server s, messages.Inquire T W)
    inquire-answers s T W None e = record { tends = quiet-tends _ refl refl refl refl; own = inr (inl refl) }
    inquire-answers s T W (Some y) e = by y.stage (all-at is_thanked T t.transactions y kept.transactions e)
      where
        on : (b : Bool) → Takes (of_coordinator m (if b then record { table = t; changes = []; messages = (Server W.server, messages.Commit T W) ∷ []; notes = []; tickets = m.tickets } else record { table = t; changes = []; messages = (Server W.server, messages.Drop T W) ∷ []; notes = []; tickets = m.tickets })) (Server s, messages.Inquire T W)
        on true = record { tends = quiet-tends _ refl refl refl refl; own = inl (inl refl) }
        on false = record { tends = quiet-tends _ refl refl refl refl; own = inr (inl refl) }

        by : (stage : Stage) → is_thanked stage ≡ true → Takes (of_coordinator m (told_stage t m.tickets T W stage)) (Server s, messages.Inquire T W)
        by (Committed d) h = on (is_work W d.works && not (is_work W d.done))
        by (Aborted cause) h = absurd (true≢false (sym h))
        by Open h = absurd (true≢false (sym h))
        by (Voting b) h = absurd (true≢false (sym h))

    abbrev with_done : Commitment → WorkId → Commitment
    with_done d W = record d { done = d.done ++ W ∷ [] }

    module _ (w : Machine) (q : ServerNo) (names : AreTransactions w q m.coordinator.transactions) where
      pub done-answers : (s : ServerNo) (T : Tid) (W : WorkId) (o : Option Transaction) → transaction_at T t.transactions ≡ o → Takes (of_coordinator m (done_row t m.tickets T W o)) (Server s, messages.Done T W)
      done-answers s T W None e = record { tends = quiet-tends _ refl refl refl refl; own = ap (needs_of W) e }
      done-answers s T W (Some y) e = by y.stage refl
        where
          quiet : (n : List Note) → needs t.transactions T W ≡ false → Takes (of_coordinator m (record { table = t; changes = []; messages = []; notes = n; tickets = m.tickets })) (Server s, messages.Done T W)
          quiet n h = record { tends = quiet-tends _ refl refl refl refl; own = h }

          by : (stage : Stage) → y.stage ≡ stage → Takes (of_coordinator m (done_stage t m.tickets T W stage)) (Server s, messages.Done T W)
          by (Committed d) g = on (is_work W d.works && not (is_work W d.done)) refl
            where
              its : (V : WorkId) → needs t.transactions T V ≡ needs_in V (Committed d)
              its V = ap (needs_of V) e ∙ ap (needs_in V) g

              fewer : (V : WorkId) → needs_in V (Committed (with_done d W)) ≡ true → needs_in V (Committed d) ≡ true
              fewer V h = let more = work-more W V d.done in grind (arith, h)

              no-more : needs_in W (Committed (with_done d W)) ≡ false
              no-more = let last = work-last W d.done in grind (arith, last)

              thanked : d.thanked ≡ true
              thanked = let k = subst (λ (z : Stage). is_thanked z ≡ true) g (all-at is_thanked T t.transactions y kept.transactions e) in grind (arith, k)

              forgets : (b : Bool) → (d.thanked && all_in d.works (with_done d W).done) ≡ b → Takes (of_coordinator m (if b then record { table = record t { transactions = without_tid T t.transactions }; changes = DropFlag T ∷ []; messages = []; notes = []; tickets = m.tickets }
                  else record { table = record t { transactions = with_stage T (Committed (with_done d W)) t.transactions }; changes = []; messages = []; notes = []; tickets = m.tickets })) (Server s, messages.Done T W)
              forgets true f = record {
                tends = record {
                  kept = record { works = kept.works; transactions = all-less is_thanked T t.transactions kept.transactions };
                  ours = refl;
                  ready = λ V h. h;
                  stays = λ U V need h. inl h;
                  needed = λ U V h. other U V (tid_eq T U) (sym (ap (needs_of V) (at-less w q U T t.transactions names)) ∙ h);
                };
                own = ap (needs_of W) (at-less w q T T t.transactions names) ∙ grind (arith, nat_tests);
              }
                where
                  other : (U : Tid) (V : WorkId) (b : Bool) → needs_of V (if b then None else transaction_at U t.transactions) ≡ true → needs t.transactions U V ≡ true
                  other U V true h = absurd (true≢false (sym h))
                  other U V false h = h
              forgets false f = record {
                tends = record {
                  kept = record { works = kept.works; transactions = all-staged is_thanked T (Committed (with_done d W)) t.transactions (grind (arith, f, thanked)) kept.transactions };
                  ours = refl;
                  ready = λ V h. h;
                  stays = λ U V need h. inl h;
                  needed = λ U V h. other U V (tid_tells T U) h;
                };
                own = staged W ∙ no-more;
              }
                where
                  staged : (V : WorkId) → needs (with_stage T (Committed (with_done d W)) t.transactions) T V ≡ needs_in V (Committed (with_done d W))
                  staged V = ap (needs_of V) (at-stage T T (Committed (with_done d W)) t.transactions) ∙ ap (λ (b : Bool). needs_of V (if b then in_stage (Committed (with_done d W)) (transaction_at T t.transactions) else transaction_at T t.transactions)) itself ∙ ap (λ o. needs_of V (in_stage (Committed (with_done d W)) o)) e
                    where
                      itself : tid_eq T T ≡ true
                      itself = grind (arith, nat_tests)

                  other : (U : Tid) (V : WorkId) → ((tid_eq T U ≡ true) × (T ≡ U)) ⊎ ((tid_eq T U ≡ false) × (T ≢ U)) → needs (with_stage T (Committed (with_done d W)) t.transactions) U V ≡ true → needs t.transactions U V ≡ true
                  other U V (inl z) h = subst (λ (X : Tid). needs t.transactions X V ≡ true) z.1 (its V ∙ fewer V (sym (staged V) ∙ subst (λ (X : Tid). needs (with_stage T (Committed (with_done d W)) t.transactions) X V ≡ true) (sym z.1) h))
                  other U V (inr z) h = sym (ap (needs_of V) (at-stage U T (Committed (with_done d W)) t.transactions) ∙ ap (λ (b : Bool). needs_of V (if b then in_stage (Committed (with_done d W)) (transaction_at U t.transactions) else transaction_at U t.transactions)) z.0) ∙ h

              on : (b : Bool) → (is_work W d.works && not (is_work W d.done)) ≡ b → Takes (of_coordinator m (if b then forget_row t m.tickets T (with_done d W) else record { table = t; changes = []; messages = []; notes = notes.Ignored ∷ []; tickets = m.tickets })) (Server s, messages.Done T W)
              on true f = forgets (d.thanked && all_in d.works (with_done d W).done) refl
              on false f = quiet _ (its W ∙ f)
          by Open g = quiet _ (ap (needs_of W) e ∙ ap (needs_in W) g)
          by (Voting b) g = quiet _ (ap (needs_of W) e ∙ ap (needs_in W) g)
          by (Aborted cause) g = quiet _ (ap (needs_of W) e ∙ ap (needs_in W) g)
