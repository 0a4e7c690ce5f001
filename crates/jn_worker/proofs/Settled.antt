-- An operation is done, or refused for a limit or for another work.
use Rattle.jn_worker.proofs.Common.{◌≡◌, ◌+◌, ℕ, Bool, List, length, Option, Some, None, if◌then◌else◌, refl, sym, ◌∙◌, ap, subst, append-nil, Tid, WorkId, LockUnit, Answer, Op, Collected, length_with, Read, Work, ActiveWork, Active, work_at, with_phase, conflict, locked, wants_of, with_units, units_for, is_fit, past_limit, first_of_two, IsActive, rephased, WorkerView, tallied, Granted, Settles, rephased-is, OperationNo}

is_work : (x y : Work) → Some x ≡ Some y → x ≡ y
is_work x y e = cc e

is_phase : (x y : ActiveWork) → Active x ≡ Active y → x ≡ y
is_phase x y e = cc e

-- there is but one active work of a name
pub one_active : (t : WorkerView) (ws found : List Work) (gs : List WorkId) (W : WorkId) (x : Work) (T : Tid) (a b : ActiveWork) → record { table = ws; going = gs } ≡ t → found ≡ ws → work_at W found ≡ Some x → x.phase ≡ Active b → IsActive t.table T W a → b ≡ a
one_active t ws found gs W x T a b view same look phase i = is_phase b a (sym phase ∙ (ap (λ (y : Work). y.phase) (is_work x i.work (sym at ∙ i.found)) ∙ i.phase))
  where
    at : work_at W t.table ≡ Some x
    at = subst (λ (t : WorkerView). work_at W t.table ≡ Some x) view (subst (λ l. work_at W l ≡ Some x) same look)

-- what the limits say
pub limit_is : (op : Op) (answer : Answer) (fit : Bool) (a b : ActiveWork) (reads : List LockUnit) (n m : ℕ) (o : Option Answer) → fit ≡ is_fit answer → b ≡ a → reads ≡ with_units (units_for Read (wants_of op fit)) b.reads → n ≡ length reads → m ≡ (if fit then length_with b.list op else length b.list) → o ≡ past_limit n m
    → o ≡ past_limit (length (with_units (units_for Read (wants_of op (is_fit answer))) a.reads)) (if is_fit answer then length_with a.list op else length a.list)
limit_is op answer fit a b reads n m o fits same is count many limit = limit ∙ (ap (λ n. past_limit n m) (count ∙ ap (λ l. length l) is) ∙ (ap (λ m. past_limit (length (with_units (units_for Read (wants_of op fit)) b.reads)) m) many
    ∙ (ap (λ f. past_limit (length (with_units (units_for Read (wants_of op f)) b.reads)) (if f then length_with b.list op else length b.list)) fits
    ∙ ap (λ (c : ActiveWork). past_limit (length (with_units (units_for Read (wants_of op (is_fit answer))) c.reads)) (if is_fit answer then length_with c.list op else length c.list)) same)))

pub limit_settles : (t : WorkerView) (ws found after : List Work) (gs : List WorkId) (W : WorkId) (x : Work) (T : Tid) (a : ActiveWork) (op : Op) (answer refusal : Answer) (number : OperationNo) (o : Option Answer) (before : Collected) → record { table = ws; going = gs } ≡ t → found ≡ ws → work_at W found ≡ Some x → IsActive t.table T W a → number.0 ≡ a.last + 1
    → o ≡ past_limit (length (with_units (units_for Read (wants_of op (is_fit answer))) a.reads)) (if is_fit answer then length_with a.list op else length a.list) → o ≡ Some refusal → after ≡ rephased W (tallied number.0 refusal) ws
    → Settles t T W a op answer (Some refusal) before (record { table = after; going = gs }) before
limit_settles t ws found after gs W x T a op answer refusal number o before view same look i count limit some after_is =
    subst (λ (t : WorkerView). IsActive t.table T W a → Settles t T W a op answer (Some refusal) before (record { table = after; going = gs }) before) view core i
  where
    at : work_at W ws ≡ Some x
    at = subst (λ l. work_at W l ≡ Some x) same look

    core : IsActive ws T W a → Settles (record { table = ws; going = gs }) T W a op answer (Some refusal) before (record { table = after; going = gs }) before
    core i = record {
      refused = sym (ap (λ o. first_of_two o (locked (conflict W (wants_of op (is_fit answer)) ws))) (sym limit ∙ some));
      works = ap (λ (l : List Work). record { table = l; going = gs }) (after_is ∙ (rephased-is W (tallied number.0 refusal) ws x at ∙ (ap (λ p. with_phase W (tallied number.0 refusal p) ws) active ∙ ap (λ n. with_phase W (Active (record a { last = n; kept = Some refusal })) ws) count)));
      sent = refl;
      noted = sym (append-nil before.notes);
    }
      where
        active : x.phase ≡ Active a
        active = ap (λ (y : Work). y.phase) (is_work x i.work (sym at ∙ i.found)) ∙ i.phase

pub grant_settles : (t u : WorkerView) (T : Tid) (W : WorkId) (a : ActiveWork) (op : Op) (answer : Answer) (refusal o : Option Answer) (before after : Collected) → o ≡ past_limit (length (with_units (units_for Read (wants_of op (is_fit answer))) a.reads)) (if is_fit answer then length_with a.list op else length a.list) → o ≡ None
    → Granted t T W a op answer refusal before u after → Settles t T W a op answer refusal before u after
grant_settles t u T W a op answer refusal o before after limit none g = record {
  refused = g.refused ∙ sym (ap (λ o. first_of_two o (locked (conflict W (wants_of op (is_fit answer)) t.table))) (sym limit ∙ none));
  works = g.works;
  sent = g.sent;
  noted = g.noted;
}
