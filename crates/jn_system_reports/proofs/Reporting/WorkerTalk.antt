-- What a worker answers can be the answer of what was asked, and so can what it keeps.
use Rattle.jn_system_reports.proofs.Common.{◌≡◌, ◌⊎◌, inl, inr, ◌≤◌, ℕ, ◌+◌, Bool, true, false, List, [], ◌∷◌, ◌++◌, Option, Some, None, refl, sym, ◌∙◌, ap, subst, arith, if◌then◌else◌, nat_eq, nat_lt, length, is_some, nat_tests, ClientNo, Tid, WorkId, Tickets, LockUnit, File, Block, Server, Op, Answer, tid_eq, work_eq, Files, change, answer_to, or_else, zeros, Intention, list_change, length_with, Message, Work, Phase, Active, Broken, Stored, ActiveWork, StableState, Prepared, is_going, RowOutcome, Sent, WorkerTable, WorkStorage, Wanted, Held, work_at, work_of, with_phase, without, after_grant, breaks_at, broken_by, units_for, with_units, is_fit, locked, first_of_two, refusal_of, conflict, commit_wants, worker_row, worker_step, worker_again, timed_out, timeout_row, vulnerable, restored_worker, restored_work, Read, found-name, work_is, operation_of, OperationNo, RequestNo, WorkerCase, replies_only, opens_anew, refuses_next, performs_next, prepares_it, drops_it, removes_it, Replies, is_repeated, is_broken_for, is_closing_for, is_gone_for, WorkerStep, is_over, its_answer, its_wants, worker-case, worker-step-case}
use Rattle.jn_records.specs.NetEdits.{list_after}
use Rattle.jn_base.specs.declared.op.Op.TheVariants as ops
use Rattle.jn_base.specs.declared.op.Answer.TheVariants as answers
use Rattle.jn_records.specs.NetEdits.{intention_for}
use Rattle.jn_records.proofs.EditLemmas.{edited-length, unchanged-length}
use Rattle.jn_msgs.specs.declared.message.Message.TheVariants as messages
use Rattle.jn_rows.specs.Worker.{done}
use Rattle.jn_system_reports.proofs.Reporting.Lists.{Each, each-append}
use Rattle.jn_system_reports.proofs.Reporting.Asking.{WasAsked, Asking, IsAsked, can_answer, Answers, IsAnswered, IsWorkers, IsKept, KeepsAnswer, KeepsPhase, KeepsWork}

-- ---- an operation's own answers

answer-fits : (op : Op) (files : Files) → can_answer op (answer_to op files) ≡ true
answer-fits (ops.Create f) files = by (is_some (files (File f)))
  where
    by : (b : Bool) → can_answer (ops.Create f) (if b then answers.Exists else answers.Did) ≡ true
    by true = refl
    by false = refl
answer-fits (ops.Remove f) files = by (is_some (files (File f)))
  where
    by : (b : Bool) → can_answer (ops.Remove f) (if b then answers.Did else answers.NoFile) ≡ true
    by true = refl
    by false = refl
answer-fits (ops.Cut f n) files = by (is_some (files (File f)))
  where
    by : (b : Bool) → can_answer (ops.Cut f n) (if b then answers.Did else answers.NoFile) ≡ true
    by true = refl
    by false = refl
answer-fits (ops.Read f p) files = by (is_some (files (File f)))
  where
    by : (b : Bool) → can_answer (ops.Read f p) (if b then answers.Read (or_else (files (Block f p)) zeros) else answers.NoFile) ≡ true
    by true = refl
    by false = refl
answer-fits (ops.Write f p bytes) files = by (is_some (files (File f)))
  where
    by : (b : Bool) → can_answer (ops.Write f p bytes) (if b then answers.Did else answers.NoFile) ≡ true
    by true = refl
    by false = refl

-- an operation that adds no intention isn't refused for too many
few-writes : (op : Op) (list : List Intention) (b : Bool) → length list ≤ 24 → nat_lt 24 (if b then length_with list op else length list) ≡ true → can_answer op answers.TooManyWrites ≡ true
few-writes (ops.Create f) list b few h = refl
few-writes (ops.Remove f) list b few h = refl
few-writes (ops.Cut f n) list b few h = refl
few-writes (ops.Write f p bytes) list b few h = refl
few-writes (ops.Read f p) list true few h = absurd (over (length_with list (ops.Read f p)) (subst (λ n. n ≤ 24) (unchanged-length (ops.Read f p) list refl) few) h)
  where
    over : (n : ℕ) → n ≤ 24 → nat_lt 24 n ≡ true → ⊥
    over n k e = grind (arith, nat_tests)
few-writes (ops.Read f p) list false few h = absurd (over (length list) few h)
  where
    over : (n : ℕ) → n ≤ 24 → nat_lt 24 n ≡ true → ⊥
    over n k e = grind (arith, nat_tests)

abbrev writes-with : ActiveWork → Op → Answer → ℕ
writes-with a op answer = if is_fit answer then length_with a.list op else length a.list

abbrev reads-with : ActiveWork → List Wanted → ℕ
reads-with a wants = length (with_units (units_for Read wants) a.reads)

refusal-fits : (t : WorkerTable) (W : WorkId) (a : ActiveWork) (op : Op) (answer : Answer) (wants : List Wanted) (refusal : Answer) → length a.list ≤ 24 → refusal_of t W a op answer wants ≡ Some refusal → can_answer op refusal ≡ true
refusal-fits t W a op answer wants refusal few h = by (nat_lt 40 (reads-with a wants)) (nat_lt 24 (writes-with a op answer)) refl (conflict W wants t) h
  where
    some : (x y : Answer) → Some x ≡ Some y → x ≡ y
    some x y e = cc

    is : (x : Answer) → can_answer op x ≡ true → Some x ≡ Some refusal → can_answer op refusal ≡ true
    is x k e = subst (λ (z : Answer). can_answer op z ≡ true) (some x refusal e) k

    none : None ≡ Some refusal → ⊥
    none e = cc

    by : (b c : Bool) → nat_lt 24 (writes-with a op answer) ≡ c → (o : Option Held) → first_of_two (if b then Some answers.TooManyReads else (if c then Some answers.TooManyWrites else None)) (locked o) ≡ Some refusal → can_answer op refusal ≡ true
    by true c e o k = is answers.TooManyReads refl k
    by false true e o k = is answers.TooManyWrites (few-writes op a.list (is_fit answer) few e) k
    by false false e (Some held) k = is (answers.Locked held.0 held.1) refl k
    by false false e None k = absurd (none k)

-- its list stays short
length-done : (o : Option Intention) (op : Op) (list : List Intention) → intention_for list op ≡ o → length (list_after o op list) ≡ length_with list op
length-done None op list e = unchanged-length op list e
length-done (Some new) op list e = edited-length op list new e

short-done : (t : WorkerTable) (W : WorkId) (a : ActiveWork) (op : Op) (answer : Answer) (wants : List Wanted) → length a.list ≤ 24 → refusal_of t W a op answer wants ≡ None → length (done a op answer wants).list ≤ 24
short-done t W a op answer wants few h = by (is_fit answer) (nat_lt 40 (length (with_units (units_for Read wants) a.reads))) (conflict W wants t) h
  where
    not-over : (n : ℕ) → nat_lt 24 n ≡ false → n ≤ 24
    not-over n e = grind (arith, nat_tests)

    below : (c d : Bool) (o : Option Held) → first_of_two (if c then Some answers.TooManyReads else (if d then Some answers.TooManyWrites else None)) (locked o) ≡ None → d ≡ false
    below true d o k = absurd (no k)
      where
        no : Some answers.TooManyReads ≡ None → ⊥
        no e = cc
    below false true o k = absurd (no k)
      where
        no : Some answers.TooManyWrites ≡ None → ⊥
        no e = cc
    below false false o k = refl

    by : (b c : Bool) (o : Option Held) → first_of_two (if c then Some answers.TooManyReads else (if nat_lt 24 (if b then length_with a.list op else length a.list) then Some answers.TooManyWrites else None)) (locked o) ≡ None
        → length (if b then list_after (intention_for a.list op) op a.list else a.list) ≤ 24
    by true c o k = subst (λ n. n ≤ 24) (sym (length-done (intention_for a.list op) op a.list refl)) (not-over (length_with a.list op) (below c (nat_lt 24 (length_with a.list op)) o k))
    by false c o k = few

-- ---- tables

pub each-phase : (P : Work → Type 0) (W : WorkId) (phase : Phase) (t : WorkerTable) → ((w : Work) → w.name ≡ W → P w → P (record w { phase = phase })) → Each P t → Each P (with_phase W phase t)
each-phase P W phase [] f h = tt
each-phase P W phase (w ∷ ws) f h = by (work_eq w.name W) refl (each-phase P W phase ws f h.1)
  where
    by : (b : Bool) → work_eq w.name W ≡ b → Each P (with_phase W phase ws) → Each P (if b then record w { phase = phase } ∷ ws else w ∷ with_phase W phase ws)
    by true e on = (f w (work_is w.name W e) h.0, h.1)
    by false e on = (h.0, on)

pub each-less : (P : Work → Type 0) (W : WorkId) (t : WorkerTable) → Each P t → Each P (without W t)
each-less P W [] h = tt
each-less P W (w ∷ ws) h = by (work_eq w.name W) (each-less P W ws h.1)
  where
    by : (b : Bool) → Each P (without W ws) → Each P (if b then ws else w ∷ without W ws)
    by true on = h.1
    by false on = (h.0, on)

pub each-work : (P : Work → Type 0) (W : WorkId) (t : WorkerTable) (w : Work) → Each P t → work_at W t ≡ Some w → P w
each-work P W [] w h k = absurd (none k)
  where
    none : None ≡ Some w → ⊥
    none e = cc
each-work P W (x ∷ xs) w h k = by (work_eq x.name W) k (each-work P W xs w h.1)
  where
    some : (x : Work) → Some x ≡ Some w → x ≡ w
    some x e = cc

    by : (b : Bool) → (if b then Some x else work_at W xs) ≡ Some w → (work_at W xs ≡ Some w → P w) → P w
    by true e on = subst P (some x e) h.0
    by false e on = on e

pub each-owned : (P : Work → Type 0) (T : Tid) (t : WorkerTable) (w : Work) → Each P t → work_of T t ≡ Some w → P w
each-owned P T [] w h k = absurd (none k)
  where
    none : None ≡ Some w → ⊥
    none e = cc
each-owned P T (x ∷ xs) w h k = by (tid_eq x.tid T) k (each-owned P T xs w h.1)
  where
    some : (x : Work) → Some x ≡ Some w → x ≡ w
    some x e = cc

    by : (b : Bool) → (if b then Some x else work_of T xs) ≡ Some w → (work_of T xs ≡ Some w → P w) → P w
    by true e on = subst P (some x e) h.0
    by false e on = on e

-- ---- rows

module _ (sent : List Sent) (once : (a b : Asking) → IsAsked sent a → IsAsked sent b → a.work ≡ b.work → a.number ≡ b.number → a ≡ b) where
  abbrev pub Talks : RowOutcome WorkerTable → Type 0
  Talks row = Each (IsWorkers sent) row.messages × Each (KeepsWork sent) row.table

  broken-keeps : (T : Tid) (o : Option LockUnit) (v : Work) → KeepsWork sent v → KeepsWork sent (broken_by T o v)
  broken-keeps T None v h = h
  broken-keeps T (Some u) v h = tt

  grant-keeps : (T : Tid) (W : WorkId) (wants : List Wanted) (t : WorkerTable) → Each (KeepsWork sent) t → Each (KeepsWork sent) (after_grant T W wants t)
  grant-keeps T W wants [] h = tt
  grant-keeps T W wants (v ∷ vs) h = (broken-keeps T (breaks_at W wants v) v h.0, grant-keeps T W wants vs h.1)

  module _ (t : WorkerTable) (k : Tickets) (keeps : Each (KeepsWork sent) t) where
    -- an answer to what was asked
    module _ (c : ClientNo) (q : RequestNo) (W : WorkId) (n : OperationNo) (op : Op) (asked : IsAsked sent (record { client = c; request = q; work = W; number = n; op = op })) where
      abbrev it : (answer : Answer) → can_answer op answer ≡ true → Answers sent answer
      it answer h = record { of = record { client = c; request = q; work = W; number = n; op = op }; asked = asked; fits = h }

      reply : (answer : Answer) → can_answer op answer ≡ true → IsAnswered sent c q answer
      reply answer h = record { by = it answer h; client = refl; request = refl }

      keep : (answer : Answer) (N : WorkId) (m : ℕ) → N ≡ W → n.0 ≡ m → can_answer op answer ≡ true → IsKept sent N m answer
      keep answer N m e f h = record { by = it answer h; work = sym e; number = f }

      was : {P : Type 0} → (N : WorkId) → N ≡ W → P ⊎ WasAsked sent N
      was N e = inr (record { of = record { client = c; request = q; work = W; number = n; op = op }; asked = asked; work = sym e })

      -- the answer that was kept is that of the same operation
      again : (N : WorkId) (last : ℕ) (answer : Answer) → N ≡ W → n.0 ≡ last → IsKept sent N last answer → IsAnswered sent c q answer
      again N last answer e f h = reply answer (ap (λ (a : Asking). can_answer a.op answer) (sym same) ∙ h.by.fits)
        where
          same : h.by.of ≡ record { client = c; request = q; work = W; number = n; op = op }
          same = once h.by.of _ h.by.asked asked (h.work ∙ e) (ap operation_of (h.number ∙ sym f))

    number-of : (a b : ℕ) → nat_eq a b ≡ true → a ≡ b
    number-of a b e = grind (arith, nat_tests)

    -- what a work that takes operations has kept
    its-kept : (W : WorkId) (w : Work) (a : ActiveWork) → work_at W t ≡ Some w → w.phase ≡ Active a → KeepsPhase sent w.name (Active a)
    its-kept W w a found e = subst (λ (p : Phase). KeepsPhase sent w.name p) e (each-work (KeepsWork sent) W t w keeps found)

    module _ (s : WorkStorage) where
      -- what is asked for was sent
      abbrev pub WasSent : Message → Type 0
      WasSent (messages.Op c q W n op) = IsAsked sent (record { client = c; request = q; work = W; number = n; op = op })
      WasSent message = Unit {0}

      replied : (m : Message) (x : Sent) → Replies t s k m x → WasSent m → IsWorkers sent x
      replied _ _ (is_repeated c q W n op w a answer found e l kept) h = again c q W n op h w.name a.last answer (found-name W t w found) (number-of n.0 a.last l) (subst (λ o. KeepsAnswer sent w.name a.last o) kept (its-kept W w a found e).1)
      replied _ _ (is_broken_for c q W n op w u by found e) h = reply c q W n op h (answers.Broken u by) refl
      replied _ _ (is_closing_for c q W n op w p found e) h = reply c q W n op h answers.Closing refl
      replied _ _ (is_gone_for c q W n op e) h = reply c q W n op h (answers.Lost W.epoch k.epoch) refl
      replied m x reply h = tt

      pub worker-talks : (message : Message) → WasSent message → Talks (worker_row t s k message)
      worker-talks message = row-talks message (worker_row t s k message) (worker-case t s k message)
        where
          short : 0 ≤ 24
          short = omega arith

          row-talks : (m : Message) (row : RowOutcome WorkerTable) → WorkerCase t s k m row → WasSent m → Talks row
          row-talks _ _ (replies_only m x reply) h = ((replied m x reply h, tt), keeps)
          row-talks _ _ (opens_anew c q T none room) h = ((tt, tt), each-append (KeepsWork sent) t _ keeps ((short, tt, inl (refl, refl)), tt))
          row-talks _ _ (refuses_next c q W n op w a refusal found e l r) h = let few = (its-kept W w a found e).0 in let fits = refusal-fits t w.name a op (its_answer s a op) (its_wants s a op) refusal few r in (
            (reply c q W n op h refusal fits, tt),
            each-phase (KeepsWork sent) w.name _ t (λ v g p. (few, keep c q W n op h refusal v.name (a.last + 1) (g ∙ found-name W t w found) (number-of n.0 (a.last + 1) l) fits, was c q W n op h v.name (g ∙ found-name W t w found))) keeps,
          )
          row-talks _ _ (performs_next c q W n op w a found e l r) h = let few = (its-kept W w a found e).0 in let fits = answer-fits op (change (list_change a.list) s.state.files) in (
            (reply c q W n op h (its_answer s a op) fits, tt),
            each-phase (KeepsWork sent) w.name _ (after_grant w.tid w.name (its_wants s a op) t)
                (λ v g p. (short-done t w.name a op (its_answer s a op) (its_wants s a op) few r, keep c q W n op h (its_answer s a op) v.name (a.last + 1) (g ∙ found-name W t w found) (number-of n.0 (a.last + 1) l) fits, was c q W n op h v.name (g ∙ found-name W t w found)))
                (grant-keeps w.tid w.name (its_wants s a op) t keeps),
          )
          row-talks _ _ (prepares_it T c W w a found e v) h = ((tt, tt), each-phase (KeepsWork sent) w.name _ (after_grant w.tid w.name (commit_wants a.writes) t) (λ y g p. tt) (grant-keeps w.tid w.name (commit_wants a.writes) t keeps))
          row-talks _ _ (drops_it T W w found f) h = (tt, each-less (KeepsWork sent) W t keeps)
          row-talks _ _ (removes_it T W w p found f g) h = (tt, each-less (KeepsWork sent) W t keeps)
          row-talks m row case h = (tt, keeps)

      pub step-talks : (row : RowOutcome WorkerTable) → worker_step t s k ≡ Some row → Talks row
      step-talks row h = by row (worker-step-case t s k row h)
        where
          by : (row : RowOutcome WorkerTable) → WorkerStep t s k row → Talks row
          by _ (is_over w e f) = ((tt, tt), each-less (KeepsWork sent) w.name t keeps)
          by row case = (tt, keeps)

    -- a timeout
    pub timeout-talks : (T : Tid) (now : WorkerTable) → timeout_row t T ≡ Some now → Each (KeepsWork sent) now
    timeout-talks T now h = by (work_of T t) refl h
      where
        some : {a b : WorkerTable} → Some a ≡ Some b → a ≡ b
        some e = cc

        weaker : (W : WorkId) (p : Phase) → KeepsPhase sent W p → KeepsPhase sent W (vulnerable p)
        weaker W (Active a) x = x
        weaker W (Broken u T) x = tt
        weaker W (Stored p) x = tt

        by : (o : Option Work) → work_of T t ≡ o → timed_out t o ≡ Some now → Each (KeepsWork sent) now
        by None e q = absurd (grind arith)
        by (Some w) e q = subst (λ (l : WorkerTable). Each (KeepsWork sent) l) (some q) (each-phase (KeepsWork sent) w.name (vulnerable w.phase) t
            (λ v g p. subst (λ (W : WorkId). KeepsPhase sent W (vulnerable w.phase)) (sym g) (weaker w.name w.phase (each-owned (KeepsWork sent) T t w keeps e))) keeps)

-- ---- a restart

pub restored-talks : (sent : List Sent) (x : StableState) (Ws : List WorkId) → Each (KeepsWork sent) (restored_worker x Ws)
restored-talks sent x [] = tt
restored-talks sent x (W ∷ Ws) = by (x.works W) (restored-talks sent x Ws)
  where
    by : (o : Option Prepared) → Each (KeepsWork sent) (restored_worker x Ws) → Each (KeepsWork sent) (restored_work W o ++ restored_worker x Ws)
    by None on = on
    by (Some p) on = (tt, on)

pub again-talks : (sent : List Sent) (x : StableState) (t : WorkerTable) → Each (IsWorkers sent) (worker_again x t)
again-talks sent x [] = tt
again-talks sent x (w ∷ ws) = by (is_going (x.works w.name)) (again-talks sent x ws)
  where
    by : (b : Bool) → Each (IsWorkers sent) (worker_again x ws) → Each (IsWorkers sent) (if b then worker_again x ws else (Server w.tid.server, messages.Inquire w.tid w.name) ∷ worker_again x ws)
    by true h = h
    by false h = (tt, h)
