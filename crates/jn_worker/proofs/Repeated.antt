-- An operation of an active work that isn't its next one.
use Rattle.jn_worker.proofs.Common.{◌≡◌, ◌+◌, Bool, true, false, [], ◌∷◌, ◌++◌, Option, Some, None, refl, sym, ◌∙◌, ap, subst, Ok, nat_eq, if◌then◌else◌, append-nil, Client, Tid, Tickets, WorkId, Answer, Collected, Ignored, answer_to, change, list_change, ActiveWork, ignored, work_at, Asked, Here, op_row, op_phase, performed, repeated, replies, IsActive, StorageView, state, WorkerView, Fits, is_active, Takes}
use Rattle.jn_msgs.specs.declared.message.Message.TheVariants as messages
use Rattle.jn_worker.proofs.Exits.{without_change}
use Rattle.jn_worker.proofs.Voted.{found_active}

module _ (t : WorkerView) (v : StorageView) (before after : Collected) (k : Tickets) (q : Asked) (W : WorkId) (kept : Option Answer) (h : Fits t v) (active : is_active (work_at W t.table) ≡ true)
    (other : (T : Tid) (a : ActiveWork) → IsActive t.table T W a → nat_eq q.number.0 (a.last + 1) ≡ false) (last : (T : Tid) (a : ActiveWork) → IsActive t.table T W a → kept ≡ (if nat_eq q.number.0 a.last then a.kept else None)) where
  abbrev here : Here
  here = record { table = t.table; files = (state v).files; tickets = k }

  row : op_row here q W (work_at W t.table) ≡ repeated here q kept
  row = let f = found_active t.table W active in let i = f.2 in let a = f.1 in
      ap (λ o. op_row here q W o) i.found ∙ (ap (λ phase. op_phase here q i.work phase) i.phase
      ∙ (ap (λ b. if b then performed here q i.work a (answer_to q.op (change (list_change a.list) (state v).files)) else (if nat_eq q.number.0 a.last then repeated here q a.kept else ignored t.table k)) (other f.0 a i)
      ∙ (by (nat_eq q.number.0 a.last) a.kept ∙ ap (λ x. repeated here q x) (sym (last f.0 a i)))))
    where
      by : (b : Bool) (x : Option Answer) → (if b then repeated here q x else ignored t.table k) ≡ repeated here q (if b then x else None)
      by true x = refl
      by false x = refl

  pub repeat_told : (answer : Answer) → kept ≡ Some answer → after ≡ record { messages = before.messages ++ (Client q.client, messages.Answer q.client q.request answer) ∷ []; notes = before.notes }
      → Takes 784 (op_row here q W (work_at W t.table)) t v before k (Ok (tt {0})) t v after k
  repeat_told answer is sent = subst (λ row. Takes 784 row t v before k (Ok (tt {0})) t v after k) (sym (row ∙ ap (λ x. repeated here q x) is))
      (without_change (tt {0}) (replies here q answer) t t v before after k k refl refl (ap (λ (o : Collected). o.messages) sent) (ap (λ (o : Collected). o.notes) sent ∙ sym (append-nil before.notes)) refl h (λ x. x))

  pub repeat_ignored : kept ≡ None → after ≡ record { messages = before.messages; notes = before.notes ++ Ignored ∷ [] }
      → Takes 784 (op_row here q W (work_at W t.table)) t v before k (Ok (tt {0})) t v after k
  repeat_ignored is sent = subst (λ row. Takes 784 row t v before k (Ok (tt {0})) t v after k) (sym (row ∙ ap (λ x. repeated here q x) is))
      (without_change (tt {0}) (ignored t.table k) t t v before after k k refl refl (ap (λ (o : Collected). o.messages) sent ∙ sym (append-nil before.messages)) (ap (λ (o : Collected). o.notes) sent) refl h (λ x. x))
