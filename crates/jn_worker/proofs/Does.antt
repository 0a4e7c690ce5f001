-- An operation that is performed meets its row.
use Rattle.jn_worker.proofs.Common.{most_blocks, ◌≡◌, ◌<◌, ◌+◌, ℕ, true, [], ◌∷◌, ◌++◌, length, Option, Some, None, if◌then◌else◌, refl, sym, ◌∙◌, ap, subst, arith, nat_tests, Ok, nat_eq, Client, Tid, Tickets, WorkId, Answer, Collected, answer_to, change, list_change, length_with, block_of, Read, ActiveWork, Active, ignored, Prepared, work_at, with_phase, after_grant, Asked, Here, op_row, op_phase, performed, repeated, granted_row, refusal_of, past_limit, first_of_two, locked, conflict, wants_of, with_units, units_for, is_fit, counted, done, IsActive, found-name, StorageView, state, WorkerView, Fits, TicketsFit, WorkFits, PhaseFits, WorkListFits, ListFits, ActiveFits, Takes, Settles, settled, told_breaks, told_of}
use Rattle.jn_msgs.specs.declared.message.Message.TheVariants as messages
use Rattle.jn_worker.proofs.Exits.{without_change}
use Rattle.jn_worker.proofs.Fit.{fits_phase, tickets_phase}
use Rattle.jn_worker.proofs.Granted.{fits_broken, tickets_broken, granted_itself}
use Rattle.jn_worker.proofs.More.{active_after}

pub nat_same : (n m : ℕ) → n ≡ m → nat_eq n m ≡ true
nat_same n m e = grind (arith, nat_tests, e)

module _ (t : WorkerView) (v : StorageView) (k : Tickets) (q : Asked) (W : WorkId) (answer : Answer) (S : Tid) (a : ActiveWork) (i : IsActive t.table S W a) where
  abbrev here : Here
  here = record { table = t.table; files = (state v).files; tickets = k }

  row-table : (o : Option Answer) → (granted_row here q i.work a answer (wants_of q.op (is_fit answer)) o).table ≡ settled t.table S W a q.op answer o
  row-table (Some refusal) = ap (λ n. with_phase n (Active (counted a refusal)) t.table) (found-name W t.table i.work i.found)
  row-table None = ap (λ n. with_phase n (Active (done a q.op answer (wants_of q.op (is_fit answer)))) (after_grant i.work.tid n (wants_of q.op (is_fit answer)) t.table)) (found-name W t.table i.work i.found)
      ∙ ap (λ s. with_phase W (Active (done a q.op answer (wants_of q.op (is_fit answer)))) (after_grant s W (wants_of q.op (is_fit answer)) t.table)) i.tid

  row-notes : (o : Option Answer) → (granted_row here q i.work a answer (wants_of q.op (is_fit answer)) o).notes ≡ told_breaks t.table S W q.op answer o
  row-notes (Some refusal) = refl
  row-notes None = ap (λ n. told_breaks t.table i.work.tid n q.op answer None) (found-name W t.table i.work i.found) ∙ ap (λ s. told_breaks t.table s W q.op answer None) i.tid

  row-messages : (o : Option Answer) → (granted_row here q i.work a answer (wants_of q.op (is_fit answer)) o).messages ≡ (Client q.client, messages.Answer q.client q.request (told_of answer o)) ∷ []
  row-messages (Some refusal) = refl
  row-messages None = refl

  row-changes : (o : Option Answer) → (granted_row here q i.work a answer (wants_of q.op (is_fit answer)) o).changes ≡ []
  row-changes (Some refusal) = refl
  row-changes None = refl

  row-tickets : (o : Option Answer) → (granted_row here q i.work a answer (wants_of q.op (is_fit answer)) o).tickets ≡ k
  row-tickets (Some refusal) = refl
  row-tickets None = refl

  -- the works fit once the operation is settled
  fits_settled : (o : Option Answer) → Fits t v → (block_of q.op).0 < most_blocks → answer ≡ answer_to q.op (change (list_change a.list) (state v).files) → o ≡ refusal_of t.table W a q.op answer (wants_of q.op (is_fit answer)) → Fits (record { table = settled t.table S W a q.op answer o; going = t.going }) v
  fits_settled o h range is refused = by o refused
    where
      own : ActiveFits (state v).files a
      own = subst (λ phase. ListFits (state v).files phase) i.phase (subst (λ o. WorkListFits (state v).files o) i.found (h.lists W))

      none : (p : Option Prepared) → PhaseFits (Active a) i.work.tid p → (b : ActiveWork) → PhaseFits (Active b) i.work.tid p
      none None f b = f
      none (Some p) f b = absurd f

      empty : (b : ActiveWork) → PhaseFits (Active b) i.work.tid ((state v).works W)
      empty b = none ((state v).works W) (subst (λ phase. PhaseFits phase i.work.tid ((state v).works W)) i.phase (subst (λ o. WorkFits o ((state v).works W)) i.found (h.stored W))) b

      limit : (x y : Option Answer) → None ≡ first_of_two x y → x ≡ None
      limit None y e = refl
      limit (Some z) y e = absurd (cc e)

      by : (o : Option Answer) → o ≡ refusal_of t.table W a q.op answer (wants_of q.op (is_fit answer)) → Fits (record { table = settled t.table S W a q.op answer o; going = t.going }) v
      by (Some refusal) e = fits_phase t v W i.work (Active (counted a refusal)) h i.found (empty (counted a refusal)) (record { prepared = own.prepared; writes = own.writes })
      by None e = fits_phase (record { table = after_grant S W (wants_of q.op (is_fit answer)) t.table; going = t.going }) v W i.work (Active (done a q.op answer (wants_of q.op (is_fit answer)))) (fits_broken t v S W (wants_of q.op (is_fit answer)) h)
          (granted_itself S W (wants_of q.op (is_fit answer)) t.table i.work i.found) (empty (done a q.op answer (wants_of q.op (is_fit answer))))
          (active_after (state v).files a q.op own range answer is (limit (past_limit (length (with_units (units_for Read (wants_of q.op (is_fit answer))) a.reads)) (if is_fit answer then length_with a.list q.op else length a.list)) (locked (conflict W (wants_of q.op (is_fit answer)) t.table)) e))

  tickets_settled : (o : Option Answer) → TicketsFit t.table v k → TicketsFit (settled t.table S W a q.op answer o) v k
  tickets_settled (Some refusal) f = tickets_phase t.table v W (Active (counted a refusal)) k f
  tickets_settled None f = tickets_phase (after_grant S W (wants_of q.op (is_fit answer)) t.table) v W (Active (done a q.op answer (wants_of q.op (is_fit answer)))) k (tickets_broken t.table v S W (wants_of q.op (is_fit answer)) k f)

  -- the row of the next operation
  next-row : q.number.0 ≡ a.last + 1 → nat_eq q.number.0 (a.last + 1) ≡ true → answer ≡ answer_to q.op (change (list_change a.list) (state v).files) → op_row here q W (work_at W t.table)
      ≡ granted_row here q i.work a answer (wants_of q.op (is_fit answer)) (refusal_of t.table W a q.op answer (wants_of q.op (is_fit answer)))
  next-row count test is = ap (λ o. op_row here q W o) i.found ∙ (ap (λ phase. op_phase here q i.work phase) i.phase
      ∙ (ap (λ b. if b then performed here q i.work a (answer_to q.op (change (list_change a.list) (state v).files)) else (if nat_eq q.number.0 a.last then repeated here q a.kept else ignored t.table k)) test
      ∙ (ap (λ x. performed here q i.work a x) (sym is)
      ∙ ap (λ n. granted_row here q i.work a answer (wants_of q.op (is_fit answer)) (refusal_of t.table n a q.op answer (wants_of q.op (is_fit answer)))) (found-name W t.table i.work i.found))))

  pub perform_told : (u : WorkerView) (before mid last : Collected) (refusal : Option Answer) (told : Answer) → Fits t v → (block_of q.op).0 < most_blocks → q.number.0 ≡ a.last + 1 → nat_eq q.number.0 (a.last + 1) ≡ true → answer ≡ answer_to q.op (change (list_change a.list) (state v).files) → Settles t S W a q.op answer refusal before u mid
      → told ≡ told_of answer refusal → last ≡ record { messages = mid.messages ++ (Client q.client, messages.Answer q.client q.request told) ∷ []; notes = mid.notes } → Takes 784 (op_row here q W (work_at W t.table)) t v before k (Ok (tt {0})) u v last k
  perform_told u before mid last refusal told h range count test is s told_is sent = subst (λ row. Takes 784 row t v before k (Ok (tt {0})) u v last k)
      (sym (next-row count test is ∙ ap (λ o. granted_row here q i.work a answer (wants_of q.op (is_fit answer)) o) (sym s.refused)))
      (subst (λ (u : WorkerView). Takes 784 (granted_row here q i.work a answer (wants_of q.op (is_fit answer)) refusal) t v before k (Ok (tt {0})) u v last k) (sym s.works)
      (without_change (tt {0}) (granted_row here q i.work a answer (wants_of q.op (is_fit answer)) refusal) t (record t { table = settled t.table S W a q.op answer refusal }) v before last k k (row-changes refusal) (sym (row-table refusal))
      (ap (λ (o : Collected). o.messages) sent ∙ (ap (λ m. m ++ (Client q.client, messages.Answer q.client q.request told) ∷ []) s.sent ∙ (ap (λ x. before.messages ++ (Client q.client, messages.Answer q.client q.request x) ∷ []) told_is ∙ ap (λ l. before.messages ++ l) (sym (row-messages refusal)))))
      (ap (λ (o : Collected). o.notes) sent ∙ (s.noted ∙ ap (λ l. before.notes ++ l) (sym (row-notes refusal)))) (sym (row-tickets refusal)) (fits_settled refusal h range is s.refused) (tickets_settled refusal)))
