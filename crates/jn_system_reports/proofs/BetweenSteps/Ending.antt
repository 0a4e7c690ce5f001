-- Each step of the whole system as steps of the machine that end a transaction only where its End is sent.
use Rattle.jn_system_reports.proofs.Common.{◌≡◌, ◌≢◌, ◌⊎◌, inl, inr, ℕ, zero, suc, true, List, [], ◌∷◌, ◌++◌, append-nil, length, Option, Some, None, refl, sym, subst, slice_get, ServerNo, ClientNo, Tid, Server, Begin, Open, Do, End, Abort, AllFiles, Message, Refusal, Outstanding, stable, Sent, ClientTable, Refuses, names_of, if_idle, if_transaction, sends, again_row, Machine, Invariant, Says, Atom, Ends, run_atoms, opening_world, MayRun, run_grows, says_still, run_kept, opening_kept, at_tid_cases, World, server_again, Step, Tell, IsStep, after, commanded, sent_now, LockFacts, Mirrors, MovesTo, is_shown, quiet-line, stays-with, step-moves, Facts, step-facts, still-facts, parts_of, end-may, end-mirrors, end-facts, WasEnded, Text, request_of, ClientRow, by_command, by_ignoring, by_answering, by_telling, Quiet, event_begins, none_changes, is_refused, client_repeats, server_repeats, is_lost, StepCase, client_row, row_done, row_stopped, gone_late, gone_down, come_up, found_anew, dismissed, quietly, step-case}
use Rattle.jn_msgs.specs.declared.message.Message.TheVariants as messages
use Rattle.jn_report.specs.declared.line.Refusal.TheVariants as refusals
use Rattle.jn_report.specs.declared.line.Text.TheVariants as says

-- ---- what was sent stays sent

abbrev pub SendsMore : World → World → Type 0
SendsMore r q = (more : List Sent) × (q.sent ≡ r.sent ++ more)

module _ (r : World) where
  abbrev More : List Sent → Type 0
  More sent = (more : List Sent) × (sent ≡ r.sent ++ more)

  same : More r.sent
  same = ([], sym (append-nil r.sent))

  client-sends : (c : ClientNo) (step : Step) (t : ClientTable) (sent : List Sent) (lines : List Text) → ClientRow r c step t sent lines → More sent
  client-sends c _ _ _ _ (by_command command t to message e) = ((to, message) ∷ [], refl)
  client-sends c _ _ _ _ (by_ignoring k room stop message t is e) = same
  client-sends c _ _ _ _ (by_answering k room stop message t to answer is e) = ((to, answer) ∷ [], refl)
  client-sends c _ _ _ _ (by_telling k room stop message t line answer is e) = (sent_now answer, refl)

  quiet-sends : (step : Step) (event : ℕ) (sent : List Sent) (lines : List Text) → Quiet r step event sent lines → More sent
  quiet-sends _ _ _ _ (client_repeats c) = (sent_now (again_row (r.clients c)), refl)
  quiet-sends _ _ _ _ (server_repeats s m e) = (server_again m (stable (r.found s)), refl)
  quiet-sends _ _ _ _ event_begins = same
  quiet-sends _ _ _ _ (none_changes step) = same
  quiet-sends _ _ _ _ (is_refused c command refusal e) = same
  quiet-sends _ _ _ _ (is_lost k room stop s message is e) = same

  by-case : (step : Step) (now : World) → StepCase r step now → SendsMore r now
  by-case step _ (client_row _ c t sent lines row) = client-sends c step t sent lines row
  by-case step _ (row_done _ s m k row e is) = (row.messages, refl)
  by-case step _ (row_stopped _ s m k row made e is) = same
  by-case _ _ (gone_late s m T e) = same
  by-case _ _ (gone_down s m e) = same
  by-case _ _ (come_up s pick Ws Ts e) = same
  by-case step _ (found_anew _ s found lines e is) = same
  by-case _ _ dismissed = same
  by-case step _ (quietly _ event sent lines is) = quiet-sends step event sent lines is

  pub step-sends : (step : Step) → SendsMore r (after step r)
  step-sends step = by-case step (after step r) (step-case r step)

get-more : (xs ys : List Sent) (k : ℕ) (x : Sent) → slice_get xs k ≡ Some x → slice_get (xs ++ ys) k ≡ Some x
get-more [] ys k x e = absurd (none x e)
  where
    none : (x : Sent) → None ≡ Some x → ⊥
    none x q = cc
get-more (y ∷ xs) ys zero x e = e
get-more (y ∷ xs) ys (suc k) x e = get-more xs ys k x e

get-last : (xs : List Sent) (x : Sent) → slice_get (xs ++ x ∷ []) (length xs) ≡ Some x
get-last [] x = refl
get-last (y ∷ xs) x = get-last xs x

pub ended-still : (r q : World) → SendsMore r q → (T : Tid) → WasEnded r T → WasEnded q T
ended-still r q more T e = record {
  client = e.client;
  request = e.request;
  works = e.works;
  sent = record { to = e.sent.to; number = e.sent.number; is = subst (λ l. slice_get l e.sent.number ≡ Some (e.sent.to, messages.End e.client e.request T e.works)) (sym more.1) (get-more r.sent more.0 e.sent.number _ e.sent.is) };
}

-- ---- a step

-- the machine's steps for it, which end what is ended now
pub record NextEnds (r : World) (w : Machine) : Type 0 where
  pub atoms : List Atom
  pub may : MayRun atoms w
  pub mirrors : Mirrors r (run_atoms atoms w)
  pub facts : Facts r (run_atoms atoms w)
  pub ends : (T : Tid) → (run_atoms atoms w).ended T ≡ true → (w.ended T ≡ true) ⊎ WasEnded r T

module _ (files : AllFiles) (epochs : ServerNo → ℕ) (before : List Atom) (may : MayRun before (opening_world files epochs)) (r : World) (mirrors : Mirrors r (run_atoms before (opening_world files epochs)))
    (facts : Facts r (run_atoms before (opening_world files epochs))) (locks : LockFacts r) where
  abbrev w : Machine
  w = run_atoms before (opening_world files epochs)

  inv : Invariant (run_atoms before (opening_world files epochs))
  inv = run_kept before (opening_world files epochs) may (opening_kept files epochs)

  grow : (atoms : List Atom) → MayRun atoms w → (message : Message) → Says w message → Says (run_atoms atoms w) message
  grow atoms further message h = says_still w (run_atoms atoms w) (run_grows atoms w further inv) message h

  begun-on : (atoms : List Atom) → MayRun atoms w → (T : Tid) → w.begun T ≡ true → (run_atoms atoms w).begun T ≡ true
  begun-on atoms further T h = grow atoms further (messages.Open (record { 0 = 0 }) (record { 0 = 0 }) T) h

  ends-none : (q : World) (m : MovesTo q w) → Facts q (run_atoms m.atoms w) → NextEnds q w
  ends-none q m f = record { atoms = m.atoms; may = m.may; mirrors = m.mirrors; facts = f; ends = λ T e. inl (subst (λ g. g T ≡ true) m.ended e) }

  shown : (step : Step) → IsStep step r → is_shown step ≡ true → NextEnds (after step r) w
  shown step i s = let m = step-moves files epochs before r may mirrors locks step i s in ends-none (after step r) m (step-facts r w (run_atoms m.atoms w) mirrors facts inv m.ended (begun-on m.atoms m.may) locks step)

  refused : (c : ClientNo) (refusal : Refusal) → NextEnds (commanded c (Refuses refusal) r) w
  refused c refusal = let m = stays-with r w mirrors grow r.clients mirrors.clients r.sent mirrors.says mirrors.addressed (r.lines ++ says.Refused c r.event refusal ∷ []) (quiet-line r.lines (says.Refused c r.event refusal) refl) in
      ends-none _ m (still-facts r w (run_atoms m.atoms w) mirrors facts inv m.ended (begun-on m.atoms m.may) _ refl refl facts.tables)

  ended : (c : ClientNo) (o : Option Outstanding) (x : Option Tid) → (r.clients c).outstanding ≡ o → (r.clients c).transaction ≡ x
      → NextEnds (commanded c (if_idle o (if_transaction x (λ T. sends (r.clients c) r.event End (Server T.server) (messages.End (r.clients c).client (request_of (r.clients c).next) T (names_of (r.clients c).works))))) r) w
  ended c (Some o) x e f = refused c refusals.ClientBusy
  ended c None None e f = refused c refusals.NoTransaction
  ended c None (Some T) e f = record {
    atoms = Ends T (parts_of (r.clients c).works) ∷ [];
    may = end-may r w mirrors facts inv grow c T e f;
    mirrors = end-mirrors r w mirrors facts inv grow c T e f;
    facts = end-facts r w mirrors facts inv grow c T e f;
    ends = λ U g. by U (at_tid_cases w.ended T true U true g);
  }
    where
      q : World
      q = commanded c (sends (r.clients c) r.event End (Server T.server) (messages.End (r.clients c).client (request_of (r.clients c).next) T (names_of (r.clients c).works))) r

      now : WasEnded q T
      now = record { client = (r.clients c).client; request = request_of (r.clients c).next; works = names_of (r.clients c).works; sent = record { to = Server T.server; number = length r.sent; is = get-last r.sent _ } }

      by : (U : Tid) → ((T ≡ U) × (true ≡ true)) ⊎ ((T ≢ U) × (w.ended U ≡ true)) → (w.ended U ≡ true) ⊎ WasEnded q U
      by U (inl p) = inr (subst (λ (z : Tid). WasEnded q z) p.0 now)
      by U (inr p) = inl p.1

  pub next-ends : (step : Step) → IsStep step r → NextEnds (after step r) w
  next-ends (Tell c End) i = ended c (r.clients c).outstanding (r.clients c).transaction refl refl
  next-ends (Tell c (Begin s)) i = shown (Tell c (Begin s)) i refl
  next-ends (Tell c (Open s)) i = shown (Tell c (Open s)) i refl
  next-ends (Tell c (Do s op)) i = shown (Tell c (Do s op)) i refl
  next-ends (Tell c Abort) i = shown (Tell c Abort) i refl
  next-ends step i = shown step i refl
