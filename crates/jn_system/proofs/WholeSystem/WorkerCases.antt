-- What a worker's row does with each message, in nine cases, and without one, in three.
use Rattle.jn_system.proofs.Common.{◌≡◌, ◌+◌, Bool, true, false, List, [], ◌∷◌, ◌++◌, Option, Some, None, refl, sym, ap, subst, if◌then◌else◌, nat_lt, nat_eq, length, slice_get, Tid, WorkId, LockUnit, ClientNo, Tickets, Op, Answer, Files, change, answer_to, list_change, Intention, Message, Vote, RowOutcome, Sent, is_going, Work, Phase, Active, Broken, Stored, ActiveWork, WorkerTable, WorkStorage, Wanted, work_at, work_of, with_phase, without, name_from, open_row, Asked, Here, granted_row, repeated, op_phase, op_row, refusal_of, wants_of, is_fit, counted, vote_of, shortage, need_in, conflict, commit_wants, prepared_row, prepare_phase, prepare_row, commit_phase, work_commit_row, drop_phase, drop_row, worker_row, worker_step, going_work, going_row, intentions_of, carried_row, CarryOut, RemoveWork, MarkGoing, RequestNo, Client, Server, BrokenAnswer, LostAnswer, Closing, PreparedWork, quiet, ignored, sends, new_work}
use Rattle.jn_base.specs.declared.names.OperationNo.{OperationNo}
use Rattle.jn_base.specs.Limits.{most_works}
use Rattle.jn_msgs.specs.declared.message.Message.TheVariants as messages
use Rattle.jn_msgs.specs.declared.message.Vote.TheVariants as votes

-- the vote of an active work that is to be prepared
abbrev pub its_vote : WorkerTable → WorkStorage → Work → ActiveWork → Vote
its_vote t s w a = vote_of (conflict w.name (commit_wants a.writes) t) (shortage s.free (need_in s.maps s.state.files a.list))

-- what the files of a work answer an operation, and what it wants then
abbrev pub its_answer : WorkStorage → ActiveWork → Op → Answer
its_answer s a op = answer_to op (change (list_change a.list) s.state.files)

abbrev pub its_wants : WorkStorage → ActiveWork → Op → List Wanted
its_wants s a op = wants_of op (is_fit (its_answer s a op))

-- an operation that a client asks for, and what the worker has that answers it
abbrev pub asked_for : ClientNo → RequestNo → OperationNo → Op → Asked
asked_for c q n op = record { client = c; request = q; number = n; op = op }

abbrev pub asked_here : WorkerTable → Files → Tickets → Here
asked_here t files k = record { table = t; files = files; tickets = k }

abbrev pub is_stored : Phase → Bool
is_stored (Stored p) = true
is_stored phase = false

abbrev pub is_ready : Vote → Bool
is_ready votes.Ready = true
is_ready vote = false

-- a message that a row answers, with nothing changed
pub data Replies (t : WorkerTable) (s : WorkStorage) (k : Tickets) : Message → Sent → Type 0 where
  is_open_already : (c : ClientNo) (q : RequestNo) (T : Tid) (w : Work) → work_of T t ≡ Some w → Replies t s k (messages.Open c q T) (Client c, messages.Opened c q T (Some w.name))
  is_full : (c : ClientNo) (q : RequestNo) (T : Tid) → work_of T t ≡ None → nat_lt (length t) most_works ≡ false → Replies t s k (messages.Open c q T) (Client c, messages.Opened c q T None)
  is_repeated : (c : ClientNo) (q : RequestNo) (W : WorkId) (n : OperationNo) (op : Op) (w : Work) (a : ActiveWork) (answer : Answer) → work_at W t ≡ Some w → w.phase ≡ Active a → nat_eq n.0 a.last ≡ true
      → a.kept ≡ Some answer → Replies t s k (messages.Op c q W n op) (Client c, messages.Answer c q answer)
  is_broken_for : (c : ClientNo) (q : RequestNo) (W : WorkId) (n : OperationNo) (op : Op) (w : Work) (u : LockUnit) (by : Tid) → work_at W t ≡ Some w → w.phase ≡ Broken u by
      → Replies t s k (messages.Op c q W n op) (Client c, messages.Answer c q (BrokenAnswer u by))
  is_closing_for : (c : ClientNo) (q : RequestNo) (W : WorkId) (n : OperationNo) (op : Op) (w : Work) (p : PreparedWork) → work_at W t ≡ Some w → w.phase ≡ Stored p
      → Replies t s k (messages.Op c q W n op) (Client c, messages.Answer c q Closing)
  is_gone_for : (c : ClientNo) (q : RequestNo) (W : WorkId) (n : OperationNo) (op : Op) → work_at W t ≡ None → Replies t s k (messages.Op c q W n op) (Client c, messages.Answer c q (LostAnswer W.epoch k.epoch))
  votes_against : (T : Tid) (c : ClientNo) (W : WorkId) (w : Work) (a : ActiveWork) → work_at W t ≡ Some w → w.phase ≡ Active a → is_ready (its_vote t s w a) ≡ false
      → Replies t s k (messages.Prepare T c W) (Server T.server, messages.Vote T w.name (its_vote t s w a))
  votes_broken : (T : Tid) (c : ClientNo) (W : WorkId) (w : Work) (u : LockUnit) (by : Tid) → work_at W t ≡ Some w → w.phase ≡ Broken u by
      → Replies t s k (messages.Prepare T c W) (Server T.server, messages.Vote T w.name (votes.Broken u by))
  votes_again : (T : Tid) (c : ClientNo) (W : WorkId) (w : Work) (p : PreparedWork) → work_at W t ≡ Some w → w.phase ≡ Stored p → is_going (s.state.works w.name) ≡ false
      → Replies t s k (messages.Prepare T c W) (Server T.server, messages.Vote T w.name votes.Ready)
  votes_lost : (T : Tid) (c : ClientNo) (W : WorkId) → work_at W t ≡ None → Replies t s k (messages.Prepare T c W) (Server T.server, messages.Vote T W (votes.Lost W.epoch k.epoch))
  is_done_already : (T : Tid) (W : WorkId) → work_at W t ≡ None → Replies t s k (messages.Commit T W) (Server T.server, messages.Done T W)

pub data WorkerCase (t : WorkerTable) (s : WorkStorage) (k : Tickets) : Message → RowOutcome WorkerTable → Type 0 where
  none_done : (m : Message) → WorkerCase t s k m (ignored t k)
  replies_only : (m : Message) (x : Sent) → Replies t s k m x → WorkerCase t s k m (sends t k (x ∷ []))
  opens_anew : (c : ClientNo) (q : RequestNo) (T : Tid) → work_of T t ≡ None → nat_lt (length t) most_works ≡ true
      → WorkerCase t s k (messages.Open c q T) (sends (t ++ new_work (name_from k) T ∷ []) (record k { next = k.next + 1 }) ((Client c, messages.Opened c q T (Some (name_from k))) ∷ []))
  refuses_next : (c : ClientNo) (q : RequestNo) (W : WorkId) (n : OperationNo) (op : Op) (w : Work) (a : ActiveWork) (refusal : Answer) → work_at W t ≡ Some w → w.phase ≡ Active a → nat_eq n.0 (a.last + 1) ≡ true
      → refusal_of t w.name a op (its_answer s a op) (its_wants s a op) ≡ Some refusal → WorkerCase t s k (messages.Op c q W n op) (sends (with_phase w.name (Active (counted a refusal)) t) k ((Client c, messages.Answer c q refusal) ∷ []))
  performs_next : (c : ClientNo) (q : RequestNo) (W : WorkId) (n : OperationNo) (op : Op) (w : Work) (a : ActiveWork) → work_at W t ≡ Some w → w.phase ≡ Active a → nat_eq n.0 (a.last + 1) ≡ true
      → refusal_of t w.name a op (its_answer s a op) (its_wants s a op) ≡ None → WorkerCase t s k (messages.Op c q W n op) (granted_row (asked_here t s.state.files k) (asked_for c q n op) w a (its_answer s a op) (its_wants s a op) None)
  prepares_it : (T : Tid) (c : ClientNo) (W : WorkId) (w : Work) (a : ActiveWork) → work_at W t ≡ Some w → w.phase ≡ Active a → its_vote t s w a ≡ votes.Ready → WorkerCase t s k (messages.Prepare T c W) (prepared_row t k T c w a votes.Ready)
  marks_it : (T : Tid) (W : WorkId) (w : Work) (p : PreparedWork) → work_at W t ≡ Some w → w.phase ≡ Stored p → is_going (s.state.works W) ≡ false → WorkerCase t s k (messages.Commit T W) (record (quiet t k) { changes = MarkGoing W ∷ [] })
  drops_it : (T : Tid) (W : WorkId) (w : Work) → work_at W t ≡ Some w → is_stored w.phase ≡ false → WorkerCase t s k (messages.Drop T W) (quiet (without W t) k)
  removes_it : (T : Tid) (W : WorkId) (w : Work) (p : PreparedWork) → work_at W t ≡ Some w → w.phase ≡ Stored p → is_going (s.state.works W) ≡ false
      → WorkerCase t s k (messages.Drop T W) (record (quiet (without W t) k) { changes = RemoveWork W ∷ [] })

pub data WorkerStep (t : WorkerTable) (s : WorkStorage) (k : Tickets) : RowOutcome WorkerTable → Type 0 where
  carries_out : (w : Work) (i : Intention) → going_work s.state t ≡ Some w → slice_get (intentions_of (s.state.works w.name)) (s.next w.name) ≡ Some i → WorkerStep t s k (record (quiet t k) { changes = CarryOut w.name i ∷ [] })
  is_over : (w : Work) → going_work s.state t ≡ Some w → slice_get (intentions_of (s.state.works w.name)) (s.next w.name) ≡ None
      → WorkerStep t s k (record (sends (without w.name t) k ((Server w.tid.server, messages.Done w.tid w.name) ∷ [])) { changes = RemoveWork w.name ∷ [] })
  erases_rubbish : going_work s.state t ≡ None → s.rubbish ≡ true → WorkerStep t s k (quiet t k)

module _ (t : WorkerTable) (s : WorkStorage) (k : Tickets) where
  open-case : (c : ClientNo) (q : RequestNo) (T : Tid) (o : Option Work) → work_of T t ≡ o → WorkerCase t s k (messages.Open c q T) (open_row t k c q T o)
  open-case c q T (Some w) e = replies_only _ _ (is_open_already c q T w e)
  open-case c q T None e = by (nat_lt (length t) most_works) refl
    where
      by : (b : Bool) → nat_lt (length t) most_works ≡ b → WorkerCase t s k (messages.Open c q T)
          (if b then sends (t ++ new_work (name_from k) T ∷ []) (record k { next = k.next + 1 }) ((Client c, messages.Opened c q T (Some (name_from k))) ∷ []) else sends t k ((Client c, messages.Opened c q T None) ∷ []))
      by true l = opens_anew c q T e l
      by false l = replies_only _ _ (is_full c q T e l)

  module _ (c : ClientNo) (q : RequestNo) (W : WorkId) (n : OperationNo) (op : Op) where
    abbrev OpCase : RowOutcome WorkerTable → Type 0
    OpCase row = WorkerCase t s k (messages.Op c q W n op) row

    abbrev here : Here
    here = asked_here t s.state.files k

    abbrev asked : Asked
    asked = asked_for c q n op

    next-case : (w : Work) (a : ActiveWork) → work_at W t ≡ Some w → w.phase ≡ Active a → nat_eq n.0 (a.last + 1) ≡ true → (o : Option Answer) → refusal_of t w.name a op (its_answer s a op) (its_wants s a op) ≡ o
        → OpCase (granted_row here asked w a (its_answer s a op) (its_wants s a op) o)
    next-case w a e f l (Some refusal) r = refuses_next c q W n op w a refusal e f l r
    next-case w a e f l None r = performs_next c q W n op w a e f l r

    last-case : (w : Work) (a : ActiveWork) → work_at W t ≡ Some w → w.phase ≡ Active a → nat_eq n.0 a.last ≡ true → (o : Option Answer) → a.kept ≡ o → OpCase (repeated here asked o)
    last-case w a e f l (Some answer) r = replies_only _ _ (is_repeated c q W n op w a answer e f l r)
    last-case w a e f l None r = none_done _

    phase-case : (w : Work) → work_at W t ≡ Some w → (p : Phase) → w.phase ≡ p → OpCase (op_phase here asked w p)
    phase-case w e (Active a) f = by (nat_eq n.0 (a.last + 1)) refl (nat_eq n.0 a.last) refl
      where
        by : (b : Bool) → nat_eq n.0 (a.last + 1) ≡ b → (d : Bool) → nat_eq n.0 a.last ≡ d
            → OpCase (if b then granted_row here asked w a (its_answer s a op) (its_wants s a op) (refusal_of t w.name a op (its_answer s a op) (its_wants s a op)) else (if d then repeated here asked a.kept else ignored t k))
        by true l d m = next-case w a e f l (refusal_of t w.name a op (its_answer s a op) (its_wants s a op)) refl
        by false l true m = last-case w a e f m a.kept refl
        by false l false m = none_done _
    phase-case w e (Broken u by) f = replies_only _ _ (is_broken_for c q W n op w u by e f)
    phase-case w e (Stored p) f = replies_only _ _ (is_closing_for c q W n op w p e f)

    op-case : (o : Option Work) → work_at W t ≡ o → OpCase (op_row here asked W o)
    op-case (Some w) e = phase-case w e w.phase refl
    op-case None e = replies_only _ _ (is_gone_for c q W n op e)

  module _ (T : Tid) (c : ClientNo) (W : WorkId) where
    active-case : (w : Work) (a : ActiveWork) → work_at W t ≡ Some w → w.phase ≡ Active a → (vote : Vote) → its_vote t s w a ≡ vote → WorkerCase t s k (messages.Prepare T c W) (prepared_row t k T c w a vote)
    active-case w a e f votes.Ready v = prepares_it T c W w a e f v
    active-case w a e f vote v = subst (λ z. WorkerCase t s k (messages.Prepare T c W) (sends t k ((Server T.server, messages.Vote T w.name z) ∷ []))) v (replies_only _ _ (votes_against T c W w a e f (ap is_ready v)))

    stage-case : (w : Work) → work_at W t ≡ Some w → (p : Phase) → w.phase ≡ p → WorkerCase t s k (messages.Prepare T c W) (prepare_phase t s k T c w p)
    stage-case w e (Active a) f = active-case w a e f (its_vote t s w a) refl
    stage-case w e (Broken u by) f = replies_only _ _ (votes_broken T c W w u by e f)
    stage-case w e (Stored p) f = by (is_going (s.state.works w.name)) refl
      where
        by : (b : Bool) → is_going (s.state.works w.name) ≡ b → WorkerCase t s k (messages.Prepare T c W) (if b then ignored t k else sends t k ((Server T.server, messages.Vote T w.name votes.Ready) ∷ []))
        by true g = none_done _
        by false g = replies_only _ _ (votes_again T c W w p e f g)

    prepare-case : (o : Option Work) → work_at W t ≡ o → WorkerCase t s k (messages.Prepare T c W) (prepare_row t s k T c W o)
    prepare-case (Some w) e = stage-case w e w.phase refl
    prepare-case None e = replies_only _ _ (votes_lost T c W e)

  module _ (T : Tid) (W : WorkId) where
    commit-case : (o : Option Work) → work_at W t ≡ o → WorkerCase t s k (messages.Commit T W) (work_commit_row t s k T W o)
    commit-case None e = replies_only _ _ (is_done_already T W e)
    commit-case (Some w) e = by w.phase refl (is_going (s.state.works W)) refl
      where
        by : (p : Phase) → w.phase ≡ p → (b : Bool) → is_going (s.state.works W) ≡ b → WorkerCase t s k (messages.Commit T W) (commit_phase t s k W p)
        by (Active a) f b g = none_done _
        by (Broken u x) f b g = none_done _
        by (Stored p) f true g = subst (λ (b : Bool). WorkerCase t s k (messages.Commit T W) (if b then ignored t k else record (quiet t k) { changes = MarkGoing W ∷ [] })) (sym g) (none_done _)
        by (Stored p) f false g = subst (λ (b : Bool). WorkerCase t s k (messages.Commit T W) (if b then ignored t k else record (quiet t k) { changes = MarkGoing W ∷ [] })) (sym g) (marks_it T W w p e f g)

    drop-case : (o : Option Work) → work_at W t ≡ o → WorkerCase t s k (messages.Drop T W) (drop_row t s k W o)
    drop-case None e = none_done _
    drop-case (Some w) e = by w.phase refl (is_going (s.state.works W)) refl
      where
        by : (p : Phase) → w.phase ≡ p → (b : Bool) → is_going (s.state.works W) ≡ b → WorkerCase t s k (messages.Drop T W) (drop_phase t s k W p)
        by (Active a) f b g = drops_it T W w e (ap is_stored f)
        by (Broken u x) f b g = drops_it T W w e (ap is_stored f)
        by (Stored p) f true g = subst (λ (b : Bool). WorkerCase t s k (messages.Drop T W) (if b then ignored t k else record (quiet (without W t) k) { changes = RemoveWork W ∷ [] })) (sym g) (none_done _)
        by (Stored p) f false g = subst (λ (b : Bool). WorkerCase t s k (messages.Drop T W) (if b then ignored t k else record (quiet (without W t) k) { changes = RemoveWork W ∷ [] })) (sym g) (removes_it T W w p e f g)

  pub worker-case : (m : Message) → WorkerCase t s k m (worker_row t s k m)
  worker-case (messages.Open c q T) = open-case c q T (work_of T t) refl
  worker-case (messages.Op c q W n op) = op-case c q W n op (work_at W t) refl
  worker-case (messages.Prepare T c W) = prepare-case T c W (work_at W t) refl
  worker-case (messages.Commit T W) = commit-case T W (work_at W t) refl
  worker-case (messages.Drop T W) = drop-case T W (work_at W t) refl
  worker-case m = none_done m

  pub worker-step-case : (row : RowOutcome WorkerTable) → worker_step t s k ≡ Some row → WorkerStep t s k row
  worker-step-case row h = by (going_work s.state t) refl h
    where
      some : (a b : RowOutcome WorkerTable) → Some a ≡ Some b → a ≡ b
      some a b e = cc

      carried : (w : Work) → going_work s.state t ≡ Some w → (o : Option Intention) → slice_get (intentions_of (s.state.works w.name)) (s.next w.name) ≡ o → WorkerStep t s k (carried_row t k w o)
      carried w e (Some i) f = carries_out w i e f
      carried w e None f = is_over w e f

      rest : going_work s.state t ≡ None → (b : Bool) → s.rubbish ≡ b → (if b then Some (quiet t k) else None) ≡ Some row → WorkerStep t s k row
      rest e true f q = subst (λ (z : RowOutcome WorkerTable). WorkerStep t s k z) (some (quiet t k) row q) (erases_rubbish e f)
      rest e false f q = absurd (cc q)

      by : (o : Option Work) → going_work s.state t ≡ o → going_row t s k o ≡ Some row → WorkerStep t s k row
      by (Some w) e q = subst (λ (z : RowOutcome WorkerTable). WorkerStep t s k z) (some _ row q) (carried w e (slice_get (intentions_of (s.state.works w.name)) (s.next w.name)) refl)
      by None e q = rest e s.rubbish refl q
