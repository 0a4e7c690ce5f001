-- A server whose storage finds and counts the same still serves, and so does one whose work times out.
use Rattle.jn_server.proofs.Common.{◌≡◌, ℕ, Bool, true, false, Option, Some, None, is_some, refl, sym, ◌∙◌, ap, subst, arith, if◌then◌else◌, Result, Ok, Err, is_ok, OnOk, ServerNo, Tid, work_eq, StableState, Pick, is_going, is_in, IsGiven, flag_told, of_timeout, WorkerTable, work_at, timeout_row, Accounts, StorageView, IsServing, state, WorkerTimesOut, WorkerView, WorkFits, WorkListFits, Scrubbed, Befalls, TimesOut, ServerView, memory_of, IsServer}
use Rattle.jn_intent.specs.Events.{Befalls as StorageBefalls}

pub still-serves : (v : ServerView) (w : StorageView) → state w ≡ state v.storage → w.accounts ≡ v.storage.accounts → IsServing w → IsServer v → IsServer (record v { storage = w })
still-serves v w found same serving h = record {
  works = record {
    serving = serving;
    few = h.works.few;
    stored = λ W. subst (λ (x : StableState). WorkFits (work_at W v.worker.table) (x.works W)) (sym found) (h.works.stored W);
    going = λ W. h.works.going W ∙ sym (ap (λ (x : StableState). is_going (x.works W)) found);
    lists = λ W. subst (λ (x : StableState). WorkListFits x.files (work_at W v.worker.table)) (sym found) (h.works.lists W);
    names = λ W e. let n = h.works.names W e in record {
      given = given-on n.given;
      no_rubbish = ap (λ (a : Accounts). is_in work_eq W a.rubbish) same ∙ n.no_rubbish;
    };
  };
  transactions = record {
    serving = serving;
    clients = h.transactions.clients;
    few = h.transactions.few;
    rising = h.transactions.rising;
    flags = λ T. ap (λ (x : StableState). flag_told (x.flags T)) found ∙ h.transactions.flags T;
    promises = ap (λ (a : Accounts). a.promised_records) same ∙ h.transactions.promises;
    ballots = h.transactions.ballots;
    given = λ T e. given-on (h.transactions.given T e);
  };
  works_before = record {
    server = h.works_before.server ∙ sym server-same;
    epoch = h.works_before.epoch ∙ sym epoch-same;
    live = h.works_before.live;
    rubbish = λ W e. h.works_before.rubbish W (sym (ap (λ (a : Accounts). is_in work_eq W a.rubbish) same) ∙ e);
  };
  transactions_before = record { server = h.transactions_before.server ∙ sym server-same; epoch = h.transactions_before.epoch ∙ sym epoch-same; after = h.transactions_before.after };
}
  where
    server-same : w.accounts.server ≡ v.storage.accounts.server
    server-same = ap (λ (a : Accounts). a.server) same

    epoch-same : (state w).epoch ≡ (state v.storage).epoch
    epoch-same = ap (λ (x : StableState). x.epoch) found

    given-on : {of : ServerNo} {at : ℕ} → IsGiven v.storage.accounts.server (state v.storage).epoch of at → IsGiven w.accounts.server (state w).epoch of at
    given-on g = record { own = g.own ∙ sym server-same; past = let p = g.past in let e = epoch-same in omega (arith, p, e) }

-- a timeout changes the worker's table alone
pub timed-out : (T : Tid) (v : ServerView) (answer : Bool) (u : WorkerView) → IsServer v → WorkerTimesOut T v.worker answer u → TimesOut T v answer (record v { worker = u })
timed-out T v answer u h t = record {
  live = live answer (timeout_row v.worker.table T) t.row;
  memory = memory answer (timeout_row v.worker.table T) t.row (λ e. ap (λ (x : WorkerView). x.table) (t.same e));
  others = refl;
  same = λ e. ap (λ (x : WorkerView). record v { worker = x }) (t.same e);
  serves = record {
    works = t.fits v.storage h.works;
    transactions = h.transactions;
    works_before = t.tickets_fit v.storage v.tickets h.works_before;
    transactions_before = h.transactions_before;
  };
}
  where
    live : (b : Bool) (o : Option WorkerTable) → o ≡ (if b then Some u.table else None) → b ≡ is_some o
    live true o e = sym (ap is_some e)
    live false o e = sym (ap is_some e)

    memory : (b : Bool) (o : Option WorkerTable) → o ≡ (if b then Some u.table else None) → (b ≡ false → u.table ≡ v.worker.table) → memory_of (record v { worker = u }) ≡ of_timeout (memory_of v) o
    memory true o e same = sym (ap (of_timeout (memory_of v)) e)
    memory false o e same = ap (λ (t : WorkerTable). record (memory_of v) { worker = t }) (same refl) ∙ sym (ap (of_timeout (memory_of v)) e)

-- what befalls the device below the storage befalls the server
pub befallen : (v : ServerView) (w : StorageView) → StorageBefalls v.storage w → Befalls v (record v { storage = w })
befallen v w h = record {
  storage = h;
  tables = refl;
  serves = λ s. still-serves v w (ap (λ (f : Pick → StableState). f (λ n. false)) h.found) h.same (h.serving s.works.serving) s;
}

-- a storage that was scrubbed serves as before
pub scrubbed-serves : (v : ServerView) (w : StorageView) → Scrubbed v.storage true w → IsServer v → IsServer (record v { storage = w })
scrubbed-serves v w h s = still-serves v w (h.unchanged (λ n. false)) h.same (h.called.serving refl) s

pub scrub-serves : {A E : Type 0} (answer : Result A E) (v : ServerView) (w : StorageView) → Scrubbed v.storage (is_ok answer) w → IsServer v → OnOk answer (IsServer (record v { storage = w }))
scrub-serves (Ok x) v w h s = scrubbed-serves v w h s
scrub-serves (Err e) v w h s = tt
