-- What a worker's rows never do.
use Rattle.jn_worker.proofs.Common.{◌≡◌, ◌+◌, Bool, true, false, not, List, [], ◌∷◌, ◌++◌, length, Option, Some, None, if◌then◌else◌, refl, sym, ◌∙◌, ap, subst, arith, true≢false, inl, inr, ◌⊎◌, ◌&&◌, nat_eq, nat_lt, nat_tests, ClientNo, Client, Tickets, Tid, WorkId, Answer, work_eq, Files, answer_to, change, list_change, Vote, ActiveWork, Phase, Active, Broken, Stored, Work, ignored, quiet, sends, MarkGoing, RemoveWork, is_going, WorkerTable, WorkStorage, Wanted, wants_of, is_fit, counted, done, commit_wants, conflict, vote_of, shortage, need_in, work_at, work_of, with_phase, without, after_grant, broken_by, collision, gives_way, name_from, new_work, open_row, Asked, Here, op_row, op_phase, performed, repeated, granted_row, refusal_of, prepare_row, prepare_phase, prepared_row, voted, commit_row, commit_phase, drop_row, drop_phase, worker_row, timed_out, vulnerable, are_rising, work_is, found-name, at-less, at-phase, in_phase, at-grant, once_granted, is_stored, Message, RequestNo}
use Rattle.jn_msgs.specs.declared.message.Message.TheVariants as messages
use Rattle.jn_msgs.specs.declared.message.Vote.TheVariants as votes
use Rattle.jn_worker.proofs.Does.{nat_same}
use Rattle.jn_worker.proofs.Edits.{found_by_name}
use Rattle.jn_worker.specs.Laws.{MessagesKeepPrepared, TimeoutsKeepPrepared, SaysAgain, OldOperationsDoNothing}

found-more : (W : WorkId) (ws : List Work) (x w : Work) → work_at W ws ≡ Some w → work_at W (ws ++ x ∷ []) ≡ Some w
found-more W [] x w at = absurd (cc at)
found-more W (y ∷ ys) x w at = let again = found-more W ys x w in grind (arith, at)

module _ (t : WorkerTable) (W : WorkId) (w : Work) (at : work_at W t ≡ Some w) (stored : is_stored w.phase ≡ true) where
  abbrev Stays : WorkerTable → Type 0
  Stays u = (work_at W u ≡ Some w) ⊎ (work_at W u ≡ None)

  same_work : (V : WorkId) (x : Work) → work_at V t ≡ Some x → work_eq x.name W ≡ true → w ≡ x
  same_work V x there e = is (sym at ∙ (ap (λ n. work_at n t) (sym (work_is x.name W e) ∙ found-name V t x there) ∙ there))
    where
      is : Some w ≡ Some x → w ≡ x
      is e = cc e

  -- a work that isn't prepared is another
  other : (V : WorkId) (x : Work) → work_at V t ≡ Some x → is_stored x.phase ≡ false → work_eq x.name W ≡ false
  other V x there out = by (work_eq x.name W) refl
    where
      by : (b : Bool) → work_eq x.name W ≡ b → b ≡ false
      by false e = refl
      by true e = absurd (true≢false (sym stored ∙ (ap (λ (y : Work). is_stored y.phase) (same_work V x there e) ∙ out)))

  -- no grant breaks it
  granted : (T : Tid) (V : WorkId) (wants : List Wanted) → work_at W (after_grant T V wants t) ≡ Some w
  granted T V wants = at-grant T V wants W t ∙ (ap (λ o. once_granted T V wants o) at
      ∙ (ap (λ b. Some (broken_by T (if not (work_eq w.name V) && b then collision w.phase wants else None) w)) (stays w.phase stored) ∙ by (not (work_eq w.name V))))
    where
      stays : (phase : Phase) → is_stored phase ≡ true → gives_way phase ≡ false
      stays (Stored q) s = refl
      stays (Active a) s = absurd (cc s)
      stays (Broken u S) s = absurd (cc s)

      by : (b : Bool) → Some (broken_by T (if b && false then collision w.phase wants else None) w) ≡ Some w
      by true = refl
      by false = refl

  -- nor does another work's next phase
  rephased : (x : Work) (p : Phase) (u : WorkerTable) → work_eq x.name W ≡ false → work_at W u ≡ Some w → work_at W (with_phase x.name p u) ≡ Some w
  rephased x p u differs here = at-phase W x.name p u ∙ (ap (λ b. if b then in_phase p (work_at W u) else work_at W u) differs ∙ here)

  open_stays : (k : Tickets) (c : ClientNo) (request : RequestNo) (T : Tid) (o : Option Work) → Stays (open_row t k c request T o).table
  open_stays k c request T (Some x) = inl at
  open_stays k c request T None = by (nat_lt (length t) 64)
    where
      by : (b : Bool) → Stays (if b then sends (t ++ new_work (name_from k) T ∷ []) (record k { next = k.next + 1 }) ((Client c, messages.Opened c request T (Some (name_from k))) ∷ []) else sends t k ((Client c, messages.Opened c request T None) ∷ [])).table
      by true = inl (found-more W t (new_work (name_from k) T) w at)
      by false = inl at

  op_stays : (files : Files) (k : Tickets) (q : Asked) (V : WorkId) (o : Option Work) → work_at V t ≡ o → Stays (op_row (record { table = t; files = files; tickets = k }) q V o).table
  op_stays files k q V None there = inl at
  op_stays files k q V (Some x) there = by x.phase refl
    where
      here : Here
      here = record { table = t; files = files; tickets = k }

      by : (phase : Phase) → x.phase ≡ phase → Stays (op_phase here q x phase).table
      by (Broken u S) e = inl at
      by (Stored q) e = inl at
      by (Active a) e = number_is (nat_eq q.number.0 (a.last + 1)) (nat_eq q.number.0 a.last) a.kept
        where
          differs : work_eq x.name W ≡ false
          differs = other V x there (ap is_stored e)

          done_stays : (answer : Answer) (wants : List Wanted) (refusal : Option Answer) → Stays (granted_row here q x a answer wants refusal).table
          done_stays answer wants (Some refusal) = inl (rephased x (Active (counted a refusal)) t differs at)
          done_stays answer wants None = inl (rephased x (Active (done a q.op answer wants)) (after_grant x.tid x.name wants t) differs (granted x.tid x.name wants))

          number_is : (b last : Bool) (kept : Option Answer) → Stays (if b then performed here q x a (answer_to q.op (change (list_change a.list) files)) else (if last then repeated here q kept else ignored t k)).table
          number_is true last kept = let answer = answer_to q.op (change (list_change a.list) files) in done_stays answer (wants_of q.op (is_fit answer)) (refusal_of t x.name a q.op answer (wants_of q.op (is_fit answer)))
          number_is false true (Some answer) = inl at
          number_is false true None = inl at
          number_is false false kept = inl at

  prepare_stays : (s : WorkStorage) (k : Tickets) (T : Tid) (c : ClientNo) (V : WorkId) (o : Option Work) → work_at V t ≡ o → Stays (prepare_row t s k T c V o).table
  prepare_stays s k T c V None there = inl at
  prepare_stays s k T c V (Some x) there = by x.phase refl
    where
      votes_stay : (a : ActiveWork) (vote : Vote) → x.phase ≡ Active a → Stays (prepared_row t k T c x a vote).table
      votes_stay a votes.Ready e = inl (rephased x (Stored (record { reads = a.reads; writes = a.writes })) (after_grant x.tid x.name (commit_wants a.writes) t) (other V x there (ap is_stored e)) (granted x.tid x.name (commit_wants a.writes)))
      votes_stay a (votes.Full n free need) e = inl at
      votes_stay a (votes.Waiting u by) e = inl at
      votes_stay a (votes.Broken u by) e = inl at
      votes_stay a (votes.Lost m n) e = inl at

      by : (phase : Phase) → x.phase ≡ phase → Stays (prepare_phase t s k T c x phase).table
      by (Active a) e = votes_stay a (vote_of (conflict x.name (commit_wants a.writes) t) (shortage s.free (need_in s.maps s.state.files a.list))) e
      by (Broken u S) e = inl at
      by (Stored q) e = either (is_going (s.state.works x.name))
        where
          either : (b : Bool) → Stays (if b then ignored t k else voted t k T x.name votes.Ready).table
          either true = inl at
          either false = inl at

  commit_stays : (s : WorkStorage) (k : Tickets) (T : Tid) (V : WorkId) (o : Option Work) → Stays (commit_row t s k T V o).table
  commit_stays s k T V None = inl at
  commit_stays s k T V (Some x) = by x.phase
    where
      by : (phase : Phase) → Stays (commit_phase t s k V phase).table
      by (Active a) = inl at
      by (Broken u S) = inl at
      by (Stored q) = either (is_going (s.state.works V))
        where
          either : (b : Bool) → Stays (if b then ignored t k else record (quiet t k) { changes = MarkGoing V ∷ [] }).table
          either true = inl at
          either false = inl at

  -- one that goes is no more
  gone : (V : WorkId) → are_rising t ≡ true → Stays (without V t)
  gone V rising = by (work_eq V W) (at-less W V t rising)
    where
      by : (b : Bool) → work_at W (without V t) ≡ (if b then None else work_at W t) → Stays (without V t)
      by true e = inr e
      by false e = inl (e ∙ at)

  drop_stays : (s : WorkStorage) (k : Tickets) (V : WorkId) (o : Option Work) → are_rising t ≡ true → Stays (drop_row t s k V o).table
  drop_stays s k V None rising = inl at
  drop_stays s k V (Some x) rising = by x.phase
    where
      by : (phase : Phase) → Stays (drop_phase t s k V phase).table
      by (Active a) = gone V rising
      by (Broken u S) = gone V rising
      by (Stored q) = either (is_going (s.state.works V))
        where
          either : (b : Bool) → Stays (if b then ignored t k else record (quiet (without V t) k) { changes = RemoveWork V ∷ [] }).table
          either true = inl at
          either false = gone V rising

  message_stays : (s : WorkStorage) (k : Tickets) (m : Message) → are_rising t ≡ true → Stays (worker_row t s k m).table
  message_stays s k (messages.Open c request T) rising = open_stays k c request T (work_of T t)
  message_stays s k (messages.Op c request V number op) rising = op_stays s.state.files k (record { client = c; request = request; number = number; op = op }) V (work_at V t) refl
  message_stays s k (messages.Prepare T c V) rising = prepare_stays s k T c V (work_at V t) refl
  message_stays s k (messages.Commit T V) rising = commit_stays s k T V (work_at V t)
  message_stays s k (messages.Drop T V) rising = drop_stays s k V (work_at V t) rising
  message_stays s k m rising = inl at

  timeout_stays : (u : WorkerTable) (T : Tid) (o : Option Work) → work_of T t ≡ o → are_rising t ≡ true → timed_out t o ≡ Some u → Stays u
  timeout_stays u T None is rising e = absurd (cc e)
  timeout_stays u T (Some x) is rising e = inl (subst (λ l. work_at W l ≡ Some w) (table e) (by (work_eq x.name W) refl))
    where
      table : Some (with_phase x.name (vulnerable x.phase) t) ≡ Some u → with_phase x.name (vulnerable x.phase) t ≡ u
      table e = cc e

      there : work_at x.name t ≡ Some x
      there = found_by_name T t x rising is

      still : (phase : Phase) → is_stored phase ≡ true → vulnerable phase ≡ phase
      still (Stored q) s = refl
      still (Broken y S) s = refl
      still (Active a) s = absurd (cc s)

      by : (b : Bool) → work_eq x.name W ≡ b → work_at W (with_phase x.name (vulnerable x.phase) t) ≡ Some w
      by false e = rephased x (vulnerable x.phase) t e at
      by true e = at-phase W x.name (vulnerable x.phase) t ∙ (ap (λ b. if b then in_phase (vulnerable x.phase) (work_at W t) else work_at W t) e ∙ (ap (λ o. in_phase (vulnerable x.phase) o) at
          ∙ ap (λ phase. Some (record w { phase = phase })) (ap (λ (y : Work). vulnerable y.phase) (sym (same_work x.name x there e)) ∙ still w.phase stored)))

pub messages_keep_prepared : MessagesKeepPrepared
messages_keep_prepared t s k m rising W w at stored = message_stays t W w at stored s k m rising

pub timeouts_keep_prepared : TimeoutsKeepPrepared
timeouts_keep_prepared t u T rising e W w at stored = timeout_stays t W w at stored u T (work_of T t) refl rising e

-- ---- operations that were done

says_kept : (h : Here) (q : Asked) (a : ActiveWork) (b : Bool) (kept : Option Answer) → nat_eq q.number.0 a.last ≡ b → a.kept ≡ kept → SaysAgain h.table h.tickets q.client q.request a q.number (if b then repeated h q kept else ignored h.table h.tickets)
says_kept h q a true (Some x) e m = record {
  table = refl;
  changes = refl;
  tickets = refl;
  again = λ answer is said. ap (λ y. (Client q.client, messages.Answer q.client q.request y) ∷ []) (told x answer (sym m ∙ said));
  silent = λ other. absurd (other (grind (arith, nat_tests, e)));
}
  where
    told : (x y : Answer) → Some x ≡ Some y → x ≡ y
    told x y e = cc e
says_kept h q a true None e m = record { table = refl; changes = refl; tickets = refl; again = λ answer is said. absurd (none answer (sym m ∙ said)); silent = λ other. refl }
  where
    none : (x : Answer) → None ≡ Some x → ⊥
    none x e = cc e
says_kept h q a false kept e m = record { table = refl; changes = refl; tickets = refl; again = λ answer is said. absurd (true≢false (sym (nat_same q.number.0 a.last is) ∙ e)); silent = λ other. refl }

pub old_operations_do_nothing : OldOperationsDoNothing
old_operations_do_nothing t s k c request W number op T a i other = subst (λ row. SaysAgain t k c request a number row)
    (sym (ap (λ o. op_row here asked W o) i.found ∙ (ap (λ phase. op_phase here asked i.work phase) i.phase
    ∙ ap (λ b. if b then performed here asked i.work a (answer_to op (change (list_change a.list) s.state.files)) else (if nat_eq number.0 a.last then repeated here asked a.kept else ignored t k)) (differs (nat_eq number.0 (a.last + 1)) refl))))
    (says_kept here asked a (nat_eq number.0 a.last) a.kept refl refl)
  where
    here : Here
    here = record { table = t; files = s.state.files; tickets = k }

    asked : Asked
    asked = record { client = c; request = request; number = number; op = op }

    differs : (b : Bool) → nat_eq number.0 (a.last + 1) ≡ b → b ≡ false
    differs false e = refl
    differs true e = absurd (other (grind (arith, nat_tests, e)))
