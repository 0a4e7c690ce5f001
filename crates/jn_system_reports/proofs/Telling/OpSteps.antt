-- A server takes an operation: it performs the next one, or answers the last one again.
use Rattle.jn_system_reports.proofs.Common.{◌≡◌, ◌⊎◌, inl, inr, ℕ, ◌+◌, Bool, true, false, List, [], ◌∷◌, ◌++◌, append-nil, Option, Some, None, is_some, refl, sym, ◌∙◌, ap, subst, arith, if◌then◌else◌, nat_eq, nat_lt, length, slice_get, nat_tests, All-nil, All-cons, ServerNo, ClientNo, Tid, WorkId, LockUnit, Client, Server, Op, Answer, Files, change, answer_to, list_change, length_with, Read, Message, Note, Work, Phase, Active, Broken, Stored, ActiveWork, stable, RowOutcome, ignored, WorkerTable, Wanted, Held, work_at, with_phase, break_notes, wants_of, is_fit, units_for, with_units, refusal_of, past_limit, locked, first_of_two, conflict, counted, performed-work, granted_row, repeated, performed, op_phase, op_row, found-name, at-phase, in_phase, work_same, Answered, Machine, Atom, run_atoms, MayRun, Says, Invariant, has_committed, some_is, none_some, at_work_here, World, Memory, commits_in, has_line, of_worker, lines_of, done, LockFacts, UpFact, Regrants, Origin, Mine, Kept, Broke, phase_changed, by-name, no-lock, Mirrors, MovesTo, DoesRow, named_by, commits-more, lines-commit, mirrored, worker-does, committed-any, at_server, OperationNo, RequestNo, one-server, breaks-none, Asked, Here, asked_for, asked_here}
use Rattle.jn_base.specs.declared.op.Op.TheVariants as ops
use Rattle.jn_base.specs.declared.op.Answer.TheVariants as answers
use Rattle.jn_msgs.specs.declared.message.Message.TheVariants as messages
use Rattle.jn_msgs.specs.declared.message.Note.TheVariants as notes
use Rattle.jn_system_order.proofs.Mirroring.OpMoves.{atoms, performed-world, may-op, op-does, op-ran, g}
use Rattle.jn_system_reports.proofs.Telling.Tellings.{SaysAs, both-more}
use Rattle.jn_system_reports.proofs.Telling.Acting.{acting, acting_at, acting_of, acting_in, its-work, DidTheSame, same-did, none-new, TableNew, table-same}
use Rattle.jn_system_reports.proofs.Telling.Facts.{counts, IsKept, IsDrawn}
use Rattle.jn_system_reports.proofs.Telling.Quiet.{same-told, Moved, moved, Advances, IsServing, acting-says, of-quiet}
use Rattle.jn_system_reports.proofs.Telling.ServerSteps.{lines-dumb, not-stored, found-at, done-quiet}
use Rattle.jn_system_reports.proofs.Telling.Rows.{of-worker}

-- ---- answers

-- an answer of the files counts
pub files-count : (op : Op) (files : Files) → counts op (answer_to op files) ≡ record { op = op; answer = answer_to op files } ∷ []
files-count (ops.Create f) files = by (is_some (files _))
  where
    by : (b : Bool) → counts (ops.Create f) (if b then answers.Exists else answers.Did) ≡ record { op = ops.Create f; answer = if b then answers.Exists else answers.Did } ∷ []
    by true = refl
    by false = refl
files-count (ops.Remove f) files = by (is_some (files _))
  where
    by : (b : Bool) → counts (ops.Remove f) (if b then answers.Did else answers.NoFile) ≡ record { op = ops.Remove f; answer = if b then answers.Did else answers.NoFile } ∷ []
    by true = refl
    by false = refl
files-count (ops.Cut f n) files = by (is_some (files _))
  where
    by : (b : Bool) → counts (ops.Cut f n) (if b then answers.Did else answers.NoFile) ≡ record { op = ops.Cut f n; answer = if b then answers.Did else answers.NoFile } ∷ []
    by true = refl
    by false = refl
files-count (ops.Write f p bytes) files = by (is_some (files _))
  where
    by : (b : Bool) → counts (ops.Write f p bytes) (if b then answers.Did else answers.NoFile) ≡ record { op = ops.Write f p bytes; answer = if b then answers.Did else answers.NoFile } ∷ []
    by true = refl
    by false = refl
files-count (ops.Read f p) files = by (is_some (files _)) _
  where
    by : (b : Bool) (bytes : List ℕ) → counts (ops.Read f p) (if b then answers.Read bytes else answers.NoFile) ≡ record { op = ops.Read f p; answer = if b then answers.Read bytes else answers.NoFile } ∷ []
    by true bytes = refl
    by false bytes = refl

-- a refusal doesn't
refusal-counts : (op : Op) (reads intentions : ℕ) (held : Option Held) (refusal : Answer) → first_of_two (past_limit reads intentions) (locked held) ≡ Some refusal → counts op refusal ≡ []
refusal-counts op reads intentions held refusal = by (nat_lt 40 reads) (nat_lt 24 intentions) held
  where
    by : (b c : Bool) (held : Option Held) → first_of_two (if b then Some answers.TooManyReads else (if c then Some answers.TooManyWrites else None)) (locked held) ≡ Some refusal → counts op refusal ≡ []
    by true c held h = ap (counts op) (sym (some_is answers.TooManyReads refusal h))
    by false true held h = ap (counts op) (sym (some_is answers.TooManyWrites refusal h))
    by false false (Some x) h = ap (counts op) (sym (some_is (answers.Locked x.0 x.1) refusal h))
    by false false None h = absurd (none_some refusal h)

same-active : (a b : ActiveWork) → Active a ≡ Active b → a ≡ b
same-active a b e = cc

same-number : (a b : ℕ) → nat_eq a b ≡ true → a ≡ b
same-number a b e = grind (arith, nat_tests)

-- ---- the step

-- steps of the machine for a step that serves
pub record Serves (r r' : World) (w : Machine) : Type 0 where
  pub atoms : List Atom
  pub may : MayRun atoms w
  pub mirrors : Mirrors r' (run_atoms atoms w)
  pub ended : (run_atoms atoms w).ended ≡ w.ended
  pub serves : IsServing r r' w (run_atoms atoms w)

pub still-serves : (r r' : World) (w : Machine) (m : MovesTo r' w) → IsServing r r' w (run_atoms m.atoms w) → Serves r r' w
still-serves r r' w m h = record { atoms = m.atoms; may = m.may; mirrors = m.mirrors; ended = m.ended; serves = h }

module _ (r : World) (w : Machine) (mirrors : Mirrors r w) (locks : LockFacts r) (inv : Invariant w)
    (grow : (atoms : List Atom) → MayRun atoms w → (message : Message) → Says w message → Says (run_atoms atoms w) message)
    (told : (atoms : List Atom) → MayRun atoms w → (T : Tid) → (run_atoms atoms w).named T ≡ has_committed T (run_atoms atoms w).history) where
  -- the names of the lines are those of the machine
  pub named-so : (atoms : List Atom) → MayRun atoms w → (r' : World) → Mirrors r' (run_atoms atoms w) → (T : Tid) → (run_atoms atoms w).named T ≡ has_line T r'.lines
  named-so atoms may r' h T = told atoms may T ∙ committed-any T (run_atoms atoms w).history ∙ ap (λ l. Rattle.std.specs.List.list_any (λ (V : Tid). Rattle.jn_base.specs.Names.tid_eq V T) l) h.commits

  pub moved-by : (r' : World) (atoms : List Atom) → MayRun atoms w → Mirrors r' (run_atoms atoms w) → Moved r r' w (run_atoms atoms w)
  moved-by r' atoms may h = moved r r' w atoms may mirrors h inv (named-so [] tt r mirrors) (named-so atoms may r' h)

  module _ (s : ServerNo) (m : Memory) (is : r.memory s ≡ Some m) (up : UpFact s m (r.found s)) (k : ℕ) (d : ClientNo) (request : RequestNo) (W : WorkId) (number : OperationNo) (op : Op)
      (sent : slice_get r.sent k ≡ Some (Server s, messages.Op d request W number op)) (place : W.server ≡ s) (drawn : IsDrawn r (Server s, messages.Op d request W number op)) where
    here : (V : WorkId) → acting_at (r.memory s) V ≡ acting_of (work_at V m.worker)
    here V = ap (λ z. acting_at z V) is

    abbrev op-here : Here
    op-here = asked_here m.worker (stable (r.found s)).files m.tickets

    abbrev op-asked : Asked
    op-asked = asked_for d request number op

    at-its : (o : Option Memory) → at_server r.memory s o W.server ≡ o
    at-its o = one-server (λ q z. q ≡ W.server → z ≡ o) r.memory s o (λ e. refl) (λ q other e. absurd (other (sym (e ∙ place)))) W.server refl

    -- what the row makes of the world
    abbrev answers-with : WorkerTable → List Note → Answer → RowOutcome WorkerTable
    answers-with now notes answer = record { table = now; changes = []; messages = (Client d, messages.Answer d request answer) ∷ []; notes = notes; tickets = m.tickets }

    abbrev after-row : RowOutcome WorkerTable → World
    after-row row = done s (Some k) (of_worker m row) r

    module _ (now : WorkerTable) (notes : List Note) (answer : Answer) (v : Machine) (none : named_by notes ≡ [])
        (stays : (V : WorkId) (a b : ActiveWork) → acting_of (work_at V m.worker) ≡ Some a → acting_of (work_at V now) ≡ Some b → DidTheSame a b ⊎ Advances r w v V a b) (new : TableNew m.worker now)
        (kept : (b : ActiveWork) → acting_of (work_at W now) ≡ Some b → (b.last ≡ number.0) × (b.kept ≡ Some answer)) where
      abbrev r' : World
      r' = after-row (answers-with now notes answer)

      its-kept : (message : Message) → message ≡ messages.Op d request W number op → IsKept r' answer message
      its-kept message e = subst (λ z. IsKept r' answer z) (sym e) (λ b f. kept b (sym (ap (λ z. acting_at z W) (at-its (Some (of_worker m (answers-with now notes answer)).table))) ∙ f))

      pub answer-serves : IsServing r r' w v
      answer-serves = record {
        clients = refl;
        more = (Client d, messages.Answer d request answer) ∷ [];
        sent = refl;
        no_op = (tt, tt);
        replies = All-cons (IsDrawn r') (Client d, messages.Answer d request answer) [] (drawn.0, λ o e f. its-kept o.message (drawn.1 o e f)) (All-nil (IsDrawn r'));
        told = same-told r.lines (lines_of s (Some k) notes) (lines-dumb s (Some k) notes);
        same = λ V a b. one-server (λ q z. acting_at (r.memory q) V ≡ Some a → acting_at z V ≡ Some b → DidTheSame a b ⊎ Advances r w v V a b) r.memory s _ (λ e f. stays V a b (sym (here V) ∙ e) f) (λ q other e f. inl (same-did (acting_at (r.memory q) V) a b e f)) V.server;
        new = λ V b. one-server (λ q z. acting_at (r.memory q) V ≡ None → acting_at z V ≡ Some b → (b.last ≡ 0) × (b.list ≡ [])) r.memory s _ (λ e f. new V b (sym (here V) ∙ e) f) (λ q other e f. none-new (acting_at (r.memory q) V) b e f) V.server;
        found = found-at r locks s (r.found s) (λ V c p a e f. absurd (not-stored r locks s V a c p e f));
        quiet = inl (commits-more r.lines (lines_of s (Some k) notes) ∙ ap (λ z. commits_in r.lines ++ z) (lines-commit s (Some k) notes ∙ none) ∙ append-nil (commits_in r.lines));
      }

    -- the table stays, and what is answered is what the work has kept, if it takes operations
    replied : (answer : Answer) → ((b : ActiveWork) → acting_of (work_at W m.worker) ≡ Some b → (b.last ≡ number.0) × (b.kept ≡ Some answer)) → MovesTo (after-row (answers-with m.worker [] answer)) w → Serves r (after-row (answers-with m.worker [] answer)) w
    replied answer kept moves = still-serves r _ w moves (answer-serves m.worker [] answer (run_atoms moves.atoms w) refl (λ V a b e f. inl (same-did (acting_of (work_at V m.worker)) a b e f)) (λ V b e f. none-new (acting_of (work_at V m.worker)) b e f) kept)

    -- nothing is answered
    abbrev quiet-row : List Note → RowOutcome WorkerTable
    quiet-row notes = record { table = m.worker; changes = []; messages = []; notes = notes; tickets = m.tickets }

    ignored-serves : (notes : List Note) → named_by notes ≡ [] → MovesTo (after-row (quiet-row notes)) w → Serves r (after-row (quiet-row notes)) w
    ignored-serves notes none moves = still-serves r _ w moves (of-quiet r _ w (run_atoms moves.atoms w) (done-quiet r locks s m is (Some k) (of_worker m (quiet-row notes))
        (of-worker m (quiet-row notes) none (record { table = table-same m.worker; adds = tt; silent = tt }))))

    -- ---- a work that takes operations

    -- what the files that the work sees answer, and what it wants for that
    abbrev answer-of : ActiveWork → Answer
    answer-of a = answer_to op (change (list_change a.list) (stable (r.found s)).files)

    abbrev wants-of : ActiveWork → List Wanted
    wants-of a = wants_of op (is_fit (answer-of a))

    module _ (x : Work) (a : ActiveWork) (found : work_at x.name m.worker ≡ Some x) (active : x.phase ≡ Active a) (name : x.name ≡ W) where
      its-acting : acting_of (work_at W m.worker) ≡ Some a
      its-acting = subst (λ (U : WorkId). acting_of (work_at U m.worker) ≡ Some a) name (ap acting_of found ∙ ap acting_in active)

      here-acting : acting r W ≡ Some a
      here-acting = ap (λ (z : ServerNo). acting_at (r.memory z) W) place ∙ here W ∙ its-acting

      -- it has performed one operation more
      module _ (next : number.0 ≡ a.last + 1) (wants : List Wanted) (b : ActiveWork) (now : WorkerTable) (regrants : Regrants x.name wants (Active b) m.worker now) (answer : Answer)
          (last : b.last ≡ a.last + 1) (kept : b.kept ≡ Some answer) (v : Machine) (says : (told : List Answered) → SaysAs told (w.trace W) → SaysAs (told ++ counts op answer) (v.trace W)) where
        mine : (u : Work) (c : ActiveWork) → u.phase ≡ Active c → (y : Work) → u ≡ record y { phase = Active b } → b ≡ c
        mine u c p y e = same-active b c (sym (ap (λ (z : Work). z.phase) e) ∙ p)

        broken : (u y : Work) (c : ActiveWork) (l : LockUnit) (T : Tid) → u.phase ≡ Active c → u ≡ record y { phase = Broken l T } → ⊥
        broken u y c l T p e = clash (sym (ap (λ (z : Work). z.phase) e) ∙ p)
          where
            clash : Broken l T ≡ Active c → ⊥
            clash q = cc

        advances : Advances r w v W a b
        advances = record {
          to = Server s;
          client = d;
          request = request;
          number = number;
          op = op;
          answer = answer;
          index = k;
          sent = sent;
          next = next;
          last = last ∙ sym next;
          kept = kept;
          says = says;
        }

        performs-stays : (V : WorkId) (f c : ActiveWork) → acting_of (work_at V m.worker) ≡ Some f → acting_of (work_at V now) ≡ Some c → DidTheSame f c ⊎ Advances r w v V f c
        performs-stays V f c e h = let u = its-work (work_at V now) c h in by u.0 u.1.1 (regrants.origin V u.0 u.1.0)
          where
            by : (u : Work) → u.phase ≡ Active c → Origin x.name wants (Active b) m.worker V u → DidTheSame f c ⊎ Advances r w v V f c
            by u p (Mine same y l q) = inr (subst (λ (z : ActiveWork). Advances r w v V f z) (mine u c p y q)
                (subst (λ (z : ActiveWork). Advances r w v V z b) (some_is a f (sym its-acting ∙ subst (λ (U : WorkId). acting_of (work_at U m.worker) ≡ Some f) (sym same ∙ name) e)) (subst (λ (U : WorkId). Advances r w v U a b) (sym name ∙ same) advances)))
            by u p (Kept ne l clear) = inl (same-did (acting_of (work_at V m.worker)) f c e (ap acting_of l ∙ ap acting_in p))
            by u p (Broke ne y l way n T q) = absurd (broken u y c n T p q)

        performs-new : TableNew m.worker now
        performs-new V c e h = let u = its-work (work_at V now) c h in by u.0 u.1.1 (regrants.origin V u.0 u.1.0)
          where
            by : (u : Work) → u.phase ≡ Active c → Origin x.name wants (Active b) m.worker V u → (c.last ≡ 0) × (c.list ≡ [])
            by u p (Mine same y l q) = absurd (none_some a (sym e ∙ subst (λ (U : WorkId). acting_of (work_at U m.worker) ≡ Some a) (sym name ∙ same) its-acting))
            by u p (Kept ne l clear) = none-new (acting_of (work_at V m.worker)) c e (ap acting_of l ∙ ap acting_in p)
            by u p (Broke ne y l way n T q) = absurd (broken u y c n T p q)

        performs-kept : (c : ActiveWork) → acting_of (work_at W now) ≡ Some c → (c.last ≡ number.0) × (c.kept ≡ Some answer)
        performs-kept c h = let u = its-work (work_at W now) c h in by u.0 u.1.1 (regrants.origin W u.0 u.1.0)
          where
            by : (u : Work) → u.phase ≡ Active c → Origin x.name wants (Active b) m.worker W u → (c.last ≡ number.0) × (c.kept ≡ Some answer)
            by u p (Mine same y l q) = subst (λ (z : ActiveWork). (z.last ≡ number.0) × (z.kept ≡ Some answer)) (mine u c p y q) (last ∙ sym next, kept)
            by u p (Kept ne l clear) = absurd (ne name)
            by u p (Broke ne y l way n T q) = absurd (broken u y c n T p q)

        pub performs-serves : (notes : List Note) → named_by notes ≡ [] → IsServing r (after-row (answers-with now notes answer)) w v
        performs-serves notes none = answer-serves now notes answer v none performs-stays performs-new performs-kept

      -- it is refused
      refused : (refusal : Answer) → number.0 ≡ a.last + 1 → refusal_of m.worker x.name a op (answer-of a) (wants-of a) ≡ Some refusal
          → MovesTo (after-row (answers-with (with_phase x.name (Active (counted a refusal)) m.worker) [] refusal)) w → Serves r (after-row (answers-with (with_phase x.name (Active (counted a refusal)) m.worker) [] refusal)) w
      refused refusal next e moves = still-serves r _ w moves (performs-serves next [] (counted a refusal) _ regrants refusal refl refl (run_atoms moves.atoms w) says [] refl)
        where
          now : WorkerTable
          now = with_phase x.name (Active (counted a refusal)) m.worker

          regrants : Regrants x.name [] (Active (counted a refusal)) m.worker (with_phase x.name (Active (counted a refusal)) m.worker)
          regrants = phase_changed x.name (Active (counted a refusal)) m.worker

          acting-now : acting (after-row (answers-with (with_phase x.name (Active (counted a refusal)) m.worker) [] refusal)) W ≡ Some (counted a refusal)
          acting-now = ap (λ z. acting_at z W) (at-its _) ∙ its
            where
              its : acting_of (work_at W (with_phase x.name (Active (counted a refusal)) m.worker)) ≡ Some (counted a refusal)
              its = subst (λ (U : WorkId). acting_of (work_at U (with_phase x.name (Active (counted a refusal)) m.worker)) ≡ Some (counted a refusal)) name
                  (ap acting_of (at-phase x.name x.name (Active (counted a refusal)) m.worker) ∙ ap (λ (z : Bool). acting_of (if z then in_phase (Active (counted a refusal)) (work_at x.name m.worker) else work_at x.name m.worker)) (work_same x.name)
                  ∙ ap (λ z. acting_of (in_phase (Active (counted a refusal)) z)) found)

          counts-none : counts op refusal ≡ []
          counts-none = refusal-counts op (length (with_units (units_for Read (wants-of a)) a.reads)) (if is_fit (answer-of a) then length_with a.list op else length a.list) (conflict x.name (wants-of a) m.worker) refusal e

          says : (told : List Answered) → SaysAs told (w.trace W) → SaysAs (told ++ counts op refusal) ((run_atoms moves.atoms w).trace W)
          says told h = subst (λ z. SaysAs z ((run_atoms moves.atoms w).trace W)) (sym (append-nil told) ∙ ap (λ z. told ++ z) (sym counts-none))
              (acting-says r _ w (run_atoms moves.atoms w) (moved-by _ moves.atoms moves.may moves.mirrors) W a (counted a refusal) told here-acting acting-now refl h)

      -- it is performed
      granted : number.0 ≡ a.last + 1 → refusal_of m.worker x.name a op (answer-of a) (wants-of a) ≡ None → Serves r (after-row (granted_row op-here op-asked x a (answer-of a) (wants-of a) None)) w
      granted next e = record {
        atoms = its-atoms;
        may = may-op r w s m mirrors is up grow x a found active op free;
        mirrors = mirrored r w v s m (of_worker m row) (Some k) mirrors is (worker-does r w v s m row mirrors is none does);
        ended = does.ended;
        serves = performs-serves next (wants-of a) b _ (g r w s m mirrors is up grow x a found active op free) (answer-of a) refl refl v says (break_notes x.tid x.name (wants-of a) m.worker) none;
      }
        where
          free : conflict x.name (wants-of a) m.worker ≡ None
          free = no-lock (past_limit (length (with_units (units_for Read (wants-of a)) a.reads)) (if is_fit (answer-of a) then length_with a.list op else length a.list)) (conflict x.name (wants-of a) m.worker) e

          its-atoms : List Atom
          its-atoms = atoms r w s m mirrors is up grow x a found active op free

          v : Machine
          v = run_atoms (atoms r w s m mirrors is up grow x a found active op free) w

          b : ActiveWork
          b = performed-work a op (answer-of a) (wants-of a)

          row : RowOutcome WorkerTable
          row = granted_row op-here op-asked x a (answer-of a) (wants-of a) None

          none : named_by (break_notes x.tid x.name (wants-of a) m.worker) ≡ []
          none = breaks-none x.tid x.name (wants-of a) m.worker

          ran : run_atoms (atoms r w s m mirrors is up grow x a found active op free) w ≡ performed-world r w s m mirrors is up grow x a found active op free
          ran = op-ran r w s m mirrors is up grow x a found active op free

          does : DoesRow s m (granted_row op-here op-asked x a (answer-of a) (wants-of a) None) w (run_atoms (atoms r w s m mirrors is up grow x a found active op free) w)
          does = subst (λ (z : Machine). DoesRow s m (granted_row op-here op-asked x a (answer-of a) (wants-of a) None) w z) (sym ran) (op-does r w s m mirrors is up grow x a found active op free d request number)

          says : (told : List Answered) → SaysAs told (w.trace W) → SaysAs (told ++ counts op (answer-of a)) (v.trace W)
          says told h = subst (λ z. SaysAs (told ++ counts op (answer-of a)) z) (sym its-trace) (subst (λ z. SaysAs (told ++ z) (w.trace W ++ record { op = op; answer = (answer-of a) } ∷ [])) (sym (files-count op _)) (both-more told (w.trace W) (record { op = op; answer = (answer-of a) }) h))
            where
              its-trace : v.trace W ≡ w.trace W ++ record { op = op; answer = (answer-of a) } ∷ []
              its-trace = subst (λ (U : WorkId). v.trace U ≡ w.trace U ++ record { op = op; answer = (answer-of a) } ∷ []) name (ap (λ (z : Machine). z.trace x.name) ran ∙ at_work_here w.trace x.name _)

    -- ---- by the work's phase and the operation's number

    module _ (x : Work) (found : work_at x.name m.worker ≡ Some x) (name : x.name ≡ W) where
      its-phase : acting_of (work_at W m.worker) ≡ acting_in x.phase
      its-phase = subst (λ (U : WorkId). acting_of (work_at U m.worker) ≡ acting_in x.phase) name (ap acting_of found)

      performs : (a : ActiveWork) → x.phase ≡ Active a → number.0 ≡ a.last + 1 → (o : Option Answer) → refusal_of m.worker x.name a op (answer-of a) (wants-of a) ≡ o
          → MovesTo (after-row (granted_row op-here op-asked x a (answer-of a) (wants-of a) o)) w → Serves r (after-row (granted_row op-here op-asked x a (answer-of a) (wants-of a) o)) w
      performs a e next (Some refusal) k moves = refused x a found e name refusal next k moves
      performs a e next None k moves = granted x a found e name next k

      repeats : (a : ActiveWork) → x.phase ≡ Active a → number.0 ≡ a.last → (o : Option Answer) → a.kept ≡ o → MovesTo (after-row (repeated op-here op-asked o)) w → Serves r (after-row (repeated op-here op-asked o)) w
      repeats a e same (Some answer) k moves = replied answer (λ b f. subst (λ (z : ActiveWork). (z.last ≡ number.0) × (z.kept ≡ Some answer)) (some_is a b (sym (its-phase ∙ ap acting_in e) ∙ f)) (sym same, k)) moves
      repeats a e same None k moves = ignored-serves (notes.Ignored ∷ []) refl moves

      numbered : (a : ActiveWork) → x.phase ≡ Active a → (b c : Bool) → nat_eq number.0 (a.last + 1) ≡ b → nat_eq number.0 a.last ≡ c
          → MovesTo (after-row (if b then performed op-here op-asked x a (answer-of a) else (if c then repeated op-here op-asked a.kept else ignored m.worker m.tickets))) w
          → Serves r (after-row (if b then performed op-here op-asked x a (answer-of a) else (if c then repeated op-here op-asked a.kept else ignored m.worker m.tickets))) w
      numbered a e true c k l moves = performs a e (same-number number.0 (a.last + 1) k) (refusal_of m.worker x.name a op (answer-of a) (wants-of a)) refl moves
      numbered a e false true k l moves = repeats a e (same-number number.0 a.last l) a.kept refl moves
      numbered a e false false k l moves = ignored-serves (notes.Ignored ∷ []) refl moves

      by-phase : (p : Phase) → x.phase ≡ p → MovesTo (after-row (op_phase op-here op-asked x p)) w → Serves r (after-row (op_phase op-here op-asked x p)) w
      by-phase (Active a) e moves = numbered a e (nat_eq number.0 (a.last + 1)) (nat_eq number.0 a.last) refl refl moves
      by-phase (Broken u by) e moves = replied _ (λ b f. absurd (none_some b (sym (its-phase ∙ ap acting_in e) ∙ f))) moves
      by-phase (Stored p) e moves = replied _ (λ b f. absurd (none_some b (sym (its-phase ∙ ap acting_in e) ∙ f))) moves

    pub op-serves : (o : Option Work) → work_at W m.worker ≡ o → MovesTo (after-row (op_row op-here op-asked W o)) w → Serves r (after-row (op_row op-here op-asked W o)) w
    op-serves (Some x) h moves = by-phase x (by-name W m.worker x h) (found-name W m.worker x h) x.phase refl moves
    op-serves None h moves = replied _ (λ b f. absurd (none_some b (sym (ap acting_of h) ∙ f))) moves
