-- An operation that a client waits for is answered: its work performs it next, has performed it last, or is closed for operations.
use Rattle.jn_system_settling.proofs.Common.{◌≡◌, ◌⊎◌, inl, inr, ℕ, ◌+◌, Bool, true, false, List, [], ◌∷◌, Option, Some, None, refl, sym, ◌∙◌, ap, subst, arith, ◌&&◌, if◌then◌else◌, nat_eq, nat_tests, ServerNo, ClientNo, WorkId, Client, Op, Answer, Command, Do, client_eq, work_eq, work_tells, Message, AllFiles, change, answer_to, list_change, Work, Phase, Active, Broken, Stored, ActiveWork, OpenWork, Outstanding, Taken, Ignored, stable, RowOutcome, Sent, ignored, WorkerTable, Wanted, work_at, granted_row, performed, repeated, by_number, op_phase, op_row, refusal_of, wants_of, is_fit, ClientTable, open_at, is_operation, is_end_or_abort, if_waits, told, idle, answer_line, Machine, run_atoms, opening_world, World, Memory, Room, server_row, IsCurrent, is_closing, operation_of, request_eq, RequestNo, AskedOp, Here, asked_for, asked_here, numberless, plain_client, BrokenAnswer, LostAnswer, Closing, acting_at, acting_of, acting_in}
use Rattle.jn_msgs.specs.declared.message.Message.TheVariants as messages
use Rattle.jn_system_order.proofs.Mirroring.ClientRows.{found-open}
use Rattle.jn_system_reports.proofs.Telling.Facts.{said, op_in, op_asked, IsOperation, IsAsking, Hears, IsRunningAt}
use Rattle.jn_system_settling.proofs.AtRest.Ways.{Has, Reply, IsEnd}
use Rattle.jn_system_settling.proofs.AtRest.Twins.{HasTwin}

-- what a client waits for, but for the number of its event
record SameWaits (o p : Outstanding) : Type 0 where
  request : p.request ≡ o.request
  command : p.command ≡ o.command
  message : p.message ≡ o.message

-- the twin of a client that waits
record WaitsAs (t u : ClientTable) (o : Outstanding) : Type 0 where
  waits : Outstanding
  is : u.outstanding ≡ Some waits
  same : SameWaits o waits

waits-as : (t u : ClientTable) (o : Outstanding) → plain_client t ≡ plain_client u → t.outstanding ≡ Some o → WaitsAs t u o
waits-as t u o e is = by u.outstanding refl
  where
    clash : (p : Outstanding) → Some p ≡ None → ⊥
    clash p k = cc

    same : (p q : Outstanding) → Some p ≡ Some q → p ≡ q
    same p q k = cc

    both : numberless (Some o) ≡ numberless u.outstanding
    both = ap numberless (sym is) ∙ ap (λ (z : ClientTable). z.outstanding) e

    by : (q : Option Outstanding) → u.outstanding ≡ q → WaitsAs t u o
    by None k = absurd (clash (record o { event = 0 }) (both ∙ ap numberless k))
    by (Some p) k = let one = same (record o { event = 0 }) (record p { event = 0 }) (both ∙ ap numberless k) in record {
      waits = p;
      is = k;
      same = record { request = ap (λ (z : Outstanding). z.request) (sym one); command = ap (λ (z : Outstanding). z.command) (sym one); message = ap (λ (z : Outstanding). z.message) (sym one) };
    }

-- its answer ends the waiting
pub answer-ends : (t : ClientTable) (o : Outstanding) (answer : Answer) → t.outstanding ≡ Some o → is_operation o.command ≡ true → IsEnd t (messages.Answer t.client o.request answer)
answer-ends t o answer e does = ap (λ z. (if_waits t z test row).0.outstanding) e ∙ ap (λ (b : Bool). (if b then row o.event else (t, Ignored)).0.outstanding) passes
  where
    test : Outstanding → Bool
    test p = client_eq t.client t.client && (request_eq p.request o.request && is_operation p.command)

    row : ℕ → ClientTable × Taken
    row j = told (idle t) (answer_line t.client j answer)

    passes : test o ≡ true
    passes = grind (arith, nat_tests, does)

-- what is sent for an operation answers it, and nothing else is sent
abbrev pub Answers : ClientNo → RequestNo → List Sent → Type 0
Answers c q sent = (answer : Answer) × (sent ≡ (Client c, messages.Answer c q answer) ∷ [])

module _ (h : Here) (q : AskedOp) (W : WorkId) where
  abbrev IsAnswered : RowOutcome WorkerTable → Type 0
  IsAnswered row = Answers q.client q.request row.messages

  granted-answers : (x : Work) (a : ActiveWork) (answer : Answer) (wants : List Wanted) (refusal : Option Answer) → IsAnswered (granted_row h q x a answer wants refusal)
  granted-answers x a answer wants (Some refusal) = (refusal, refl)
  granted-answers x a answer wants None = (answer, refl)

  -- its number is the next one, or that of the last one, whose answer is kept
  abbrev Fits : ActiveWork → Type 0
  Fits a = (q.number.0 ≡ a.last + 1) ⊎ ((q.number.0 ≡ a.last) × ((answer : Answer) × (a.kept ≡ Some answer)))

  numbered-answers : (x : Work) (a : ActiveWork) → Fits a → IsAnswered (by_number h q x a)
  numbered-answers x a f = by (nat_eq q.number.0 (a.last + 1)) refl (nat_eq q.number.0 a.last) refl f
    where
      answer : Answer
      answer = answer_to q.op (change (list_change a.list) h.files)

      repeats : (o : Option Answer) → (k : Answer) → o ≡ Some k → IsAnswered (repeated h q o)
      repeats (Some x) k e = (x, refl)
      repeats None k e = absurd (cc e)

      by : (b : Bool) → nat_eq q.number.0 (a.last + 1) ≡ b → (d : Bool) → nat_eq q.number.0 a.last ≡ d → Fits a → IsAnswered (if b then performed h q x a answer else (if d then repeated h q a.kept else ignored h.table h.tickets))
      by true e d f g = granted-answers x a answer (wants_of q.op (is_fit answer)) (refusal_of h.table x.name a q.op answer (wants_of q.op (is_fit answer)))
      by false e true f (inr k) = repeats a.kept k.1.0 k.1.1
      by false e d f (inl k) = absurd (grind (arith, nat_tests, k, e))
      by false e false f (inr k) = absurd (grind (arith, nat_tests, k.0, f))

  row-answers : (o : Option Work) → ((a : ActiveWork) → acting_of o ≡ Some a → Fits a) → IsAnswered (op_row h q W o)
  row-answers None f = (LostAnswer W.epoch h.tickets.epoch, refl)
  row-answers (Some x) f = by x.phase f
    where
      by : (p : Phase) → ((a : ActiveWork) → acting_in p ≡ Some a → Fits a) → IsAnswered (op_phase h q x p)
      by (Active a) f = numbered-answers x a (f a refl)
      by (Broken u T) f = (BrokenAnswer u T, refl)
      by (Stored p) f = (Closing, refl)

-- wherever the operation comes while it is waited for, it is answered
pub op-answers : (files : AllFiles) (epochs : ServerNo → ℕ) (r : World) → HasTwin files epochs r → (c : ClientNo) (o : Outstanding) (s : ServerNo) (op : Op) (m : Memory) (room : Room)
    → (r.clients c).outstanding ≡ Some o → o.command ≡ Do s op → r.memory s ≡ Some m → Answers c o.request (server_row m (stable (r.found s)) room o.message).messages
op-answers files epochs r has c o s op m room e does up = subst (λ (z : Message). Answers c o.request (server_row m (stable (r.found s)) room z).messages) (sym message) (row-answers here asks v.work (work_at v.work m.worker) numbers)
  where
    q : World
    q = has.is.twin

    w : Machine
    w = run_atoms has.is.stands.atoms (opening_world files epochs)

    twin-waits : WaitsAs (r.clients c) (q.clients c) o
    twin-waits = waits-as (r.clients c) (q.clients c) o (ap (λ (z : World). z.clients c) has.is.alike) e

    p : Outstanding
    p = twin-waits.waits

    its-command : p.command ≡ Do s op
    its-command = twin-waits.same.command ∙ does

    is : IsOperation has.events c (q.clients c) p s op
    is = subst (λ (z : Command). IsAsking has.events c (q.clients c) p z) its-command ((has.is.stands.talk.clients c).asking p twin-waits.is)

    v : OpenWork
    v = is.work

    here : Here
    here = asked_here m.worker (stable (r.found s)).files m.tickets

    asks : AskedOp
    asks = asked_for c o.request (operation_of v.last) op

    message : o.message ≡ messages.Op c o.request v.work (operation_of v.last) op
    message = sym twin-waits.same.message ∙ is.message ∙ ap (λ k. messages.Op c k v.work (operation_of v.last) op) twin-waits.same.request

    place : v.work.server ≡ s
    place = (found-open w is.tid s (q.clients c).works v (subst (λ z. IsCurrent w z (q.clients c).works) is.current (has.is.stands.mirrors.clients c).current).1 is.is).1

    running : IsRunningAt has.events q w is.tid (Some p) s (Some v)
    running = subst (λ z. IsRunningAt has.events q w is.tid (Some p) s z) is.is (subst (λ z. IsRunningAt has.events q w is.tid z s (open_at s (q.clients c).works)) twin-waits.is
        ((has.is.stands.talk.clients c).running is.tid is.current (ap is_closing twin-waits.is ∙ ap is_end_or_abort its-command) s))

    asked : op_asked (Some p) v.work ≡ Some op
    asked = ap (op_in v.work) is.message ∙ ap (λ (b : Bool). if b then Some op else None) itself
      where
        itself : work_eq v.work v.work ≡ true
        itself = grind (arith, work_tells v.work v.work)

    numbers : (a : ActiveWork) → acting_of (work_at v.work m.worker) ≡ Some a → (v.last ≡ a.last + 1) ⊎ ((v.last ≡ a.last) × ((answer : Answer) × (a.kept ≡ Some answer)))
    numbers a k = by (subst (λ z. Hears z v a (said has.events is.tid s q.lines) (w.trace v.work)) asked (running.1 a (ap (λ (f : ServerNo → Option Memory). acting_at (f v.work.server) v.work) (sym memory) ∙ ap (λ (z : ServerNo). acting_at (r.memory z) v.work) place ∙ ap (λ z. acting_at z v.work) up ∙ k)))
      where
        memory : r.memory ≡ q.memory
        memory = ap (λ (z : World). z.memory) has.is.alike

        by : Hears (Some op) v a (said has.events is.tid s q.lines) (w.trace v.work) → (v.last ≡ a.last + 1) ⊎ ((v.last ≡ a.last) × ((answer : Answer) × (a.kept ≡ Some answer)))
        by (inl h) = inl (sym h.0)
        by (inr h) = inr (sym h.0, (h.1.0, h.1.1.0))

pub op-reply : (files : AllFiles) (epochs : ServerNo → ℕ) (r : World) → HasTwin files epochs r → (c : ClientNo) (o : Outstanding) (s : ServerNo) (op : Op) (m : Memory) (room : Room) → (r.clients c).client ≡ c
    → (r.clients c).outstanding ≡ Some o → o.command ≡ Do s op → r.memory s ≡ Some m → Reply c (r.clients c) (server_row m (stable (r.found s)) room o.message).messages
op-reply files epochs r has c o s op m room name e does up = let x = op-answers files epochs r has c o s op m room e does up in record {
  message = messages.Answer c o.request x.0;
  has = subst (λ l. Has (Client c, messages.Answer c o.request x.0) l) (sym x.1) (inl refl);
  ends_it = subst (λ (z : ClientNo). IsEnd (r.clients c) (messages.Answer z o.request x.0)) name (answer-ends (r.clients c) o x.0 e (ap is_operation does));
}
