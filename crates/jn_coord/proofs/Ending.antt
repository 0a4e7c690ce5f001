-- How a transaction ends that was open.
use Rattle.jn_coord.proofs.Common.{◌≡◌, ℕ, true, false, not, nat_lt, nat_eq, ◌+◌, ◌-◌, ◌≤◌, ◌<◌, List, [], ◌∷◌, Option, Some, None, Result, Ok, Err, length, refl, sym, ◌∙◌, ap, subst, arith, nat_tests, Tid, WorkId, Tickets, Collected, Transaction, Open, Voting, Ballot, RowOutcome, CoordinatorTable, transaction_at, with_stage, prepares, end_promised, StorageView, with_promises, CallFault, Memory, Stopped, Remembered, table_of, added, FitsWith, stage_in, committed_at, Releases, Reaches, IsDone, IsStopped, Does, IsPromised, is_memory, ballot_row, RequestNo}
use Rattle.jn_coord.proofs.Tables.{at-named, for-found}
use Rattle.jn_coord.proofs.Fitting.{fits-staged, same-flags, committed-found}
use Rattle.jn_coord.proofs.Rows.{stays}

-- there is an open transaction
pub opened : (o : Option Transaction) → stage_in o ≡ Some Open → (x : Transaction) × (o ≡ Some x)
opened None e = absurd (cc e)
opened (Some x) e = (x, refl)

is-open : (o : Option Transaction) (x : Transaction) → stage_in o ≡ Some Open → o ≡ Some x → x.stage ≡ Open
is-open o x e at = let same : Some x.stage ≡ Some Open = sym (ap stage_in at) ∙ e in cc same

pub open-undecided : (T : Tid) (xs : List Transaction) → stage_in (transaction_at T xs) ≡ Some Open → committed_at T xs ≡ None
open-undecided T xs e = let o = opened (transaction_at T xs) e in committed-found T xs o.0 o.1 ∙ rw (is-open (transaction_at T xs) o.0 e o.1) refl

pub none-of : (Ws : List WorkId) → (nat_eq (length Ws) 0) ≡ true → Ws ≡ []
none-of [] e = refl
none-of (W ∷ Ws) e = absurd (grind (arith, nat_tests, e))

pub ended-with : (t : CoordinatorTable) (k : Tickets) (x : Transaction) (request : RequestNo) (Ws : List WorkId) → (nat_eq (length Ws) 0) ≡ false → end_promised t k x request Ws ≡ ballot_row t k x (record { request = request; works = Ws; ready = [] })
ended-with t k x request [] e = absurd (grind (arith, nat_tests, e))
ended-with t k x request (W ∷ Ws) e = refl

-- its works are to be prepared
pub ballot-opened : (r r' : Remembered) (v : StorageView) (T : Tid) (k : Tickets) (y x : Transaction) (b : Ballot) (before after : Collected)
    → FitsWith 1 r v → transaction_at T r.transactions ≡ Some y → transaction_at T r.transactions ≡ Some x → stage_in (transaction_at T r.transactions) ≡ Some Open → length b.works ≤ 8
    → after ≡ added before (prepares T y.client b.works) [] → r' ≡ record r { transactions = with_stage T (Voting b) r.transactions }
    → IsDone (ballot_row (table_of r) k x b) v before r' v after
ballot-opened r r' v T k y x b before after fits found at open' few sent ts = for-found T r.transactions (λ z. IsDone (ballot_row (table_of r) k z b) v before r' v after) y found
    (subst (λ q. IsDone (ballot_row (table_of r) k y b) v before q v after) (sym ts) (rw (at-named T r.transactions y found) (record {
      table = refl;
      sent = sent;
      made = fits.serving.up;
      fits = fits-staged 1 0 r v v T (Voting b) y fits found fits.serving refl refl (same-flags 1 r v T (Voting b) y fits found (rw is refl)) (rw is refl) ballot;
      accounts = refl;
      reaches = stays v;
      no_stop = refl;
    }))) x at
  where
    is : y.stage ≡ Open
    is = is-open (transaction_at T r.transactions) y open' found

    ballot : not (nat_lt 8 (length b.works)) ≡ true
    ballot = grind (arith, nat_tests, few)

-- ---- a promise that is given back where there is no memory

pub some-tickets : Tickets
some-tickets = record { server = record { 0 = 0 }; epoch = 0; next = 0 }

pub memory-kept : (row : RowOutcome CoordinatorTable) (r : Remembered) (v : StorageView) (before : Collected) (a : Result (Unit {0}) CallFault) (r' : Remembered) (w : StorageView) (after : Collected)
    → Does row r v before a r' w after → is_memory a ≡ true → w ≡ v
memory-kept row r v before (Ok x) r' w after d e = absurd (cc e)
memory-kept row r v before (Err Memory) r' w after d e = d.1
memory-kept row r v before (Err Stopped) r' w after d e = absurd (cc e)

pub promise-here : (r : Remembered) (v w : StorageView) → FitsWith 1 r v → w ≡ v → 0 < w.accounts.promised_records
promise-here r v w fits e = rw e (omega (arith, fits.promises))

abbrev promising : StorageView → StorageView
promising v = record v { accounts = with_promises v.accounts (v.accounts.promised_records + 1) }

reaches-promised : (v w : StorageView) (n : ℕ) → Reaches (promising v) n w → Reaches v n w
reaches-promised v w n p = record { later = record { server = p.later.server; pool = p.later.pool; heads = p.later.heads; leaves = p.later.leaves; store = p.later.store }; calls = p.calls }

pub with-promise : (row : RowOutcome CoordinatorTable) (r : Remembered) (v u : StorageView) (before : Collected) (a : Result (Unit {0}) CallFault) (r' : Remembered) (w w' : StorageView) (after : Collected)
    → IsPromised v u → Does row r u before a r' w after → Releases (is_memory a) w w' → Does row r v before a r' w' after
with-promise row r v u before (Ok x) r' w w' after p d e = subst (λ z. IsDone row v before r' z after) (sym e) (by (subst (λ z. IsDone row z before r' w after) p d))
  where
    by : IsDone row (promising v) before r' w after → IsDone row v before r' w after
    by d = record { table = d.table; sent = d.sent; made = d.made; fits = d.fits; accounts = d.accounts; reaches = reaches-promised v w (length row.changes) d.reaches; no_stop = d.no_stop }
with-promise row r v u before (Err Memory) r' w w' after p d e = (d.0, e.released ∙ ap (λ (z : StorageView). record z { accounts = with_promises z.accounts (z.accounts.promised_records - 1) }) (d.1 ∙ p) ∙ back, d.2)
  where
    back : record (promising v) { accounts = with_promises (promising v).accounts ((promising v).accounts.promised_records - 1) } ≡ v
    back = ap (λ n. record v { accounts = with_promises v.accounts n }) (let n : v.accounts.promised_records + 1 - 1 ≡ v.accounts.promised_records = omega arith in n)
with-promise row r v u before (Err Stopped) r' w w' after p d e = (subst (λ z. IsStopped row v z) (sym e) (by (subst (λ z. IsStopped row z w) p d.0)), d.1)
  where
    by : IsStopped row (promising v) w → IsStopped row v w
    by d = record { some = d.some; loadable = d.loadable; reaches = reaches-promised v w (length row.changes) d.reaches; stop = d.stop }
