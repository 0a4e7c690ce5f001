-- What a step of a coordinator comes to, row by row.
use Rattle.jn_coord.proofs.Common.{◌≢◌, not, nat_lt, ◌&&◌, ◌-◌, Result, Ok, Err, ◌≡◌, ℕ, Bool, true, false, ◌+◌, ◌≤◌, if◌then◌else◌, List, [], ◌∷◌, ◌++◌, Option, Some, None, length, refl, sym, ◌∙◌, ap, subst, arith, nat_tests, ClientNo, Tid, tid_eq, Cause, WorkId, Tickets, Client, Vote, Collected, Transaction, Stage, Open, Voting, Committed, Aborted, Commitment, Ballot, FlagState, Change, Changed, AddFlag, DropFlag, made_by, RowOutcome, ignored, sends, CoordinatorTable, transaction_at, with_stage, without, is_voting, drops, commits, all_in, abort_row, commit_row, forget_row, noted, thanks_row, thanks_stage, vote_stage, told_stage, inquire_row, dropped, is_work, StorageView, state, PromiseReleased, Called, FlagPut, FlagDropped, storage_refl, is_aborted, Remembered, table_of, CallFault, Memory, Stopped, added, Adds, Longer, flag_told, committed_as, committed_at, works_in, voting_in, spare_of, FitsStorage, FitsWith, ballot_in, ballot_of, ballot_fits, ballots_fit, waiting_row, Releases, Reaches, IsDone, IsStopped, Does, added_none, longer_same, RequestNo}
use Rattle.jn_msgs.specs.declared.message.Message.TheVariants as messages
use Rattle.jn_msgs.specs.declared.message.Outcome.{Outcome}
use Rattle.jn_msgs.specs.declared.message.Outcome.TheVariants as outcomes
use Rattle.jn_msgs.specs.declared.message.Note.TheVariants as notes
use Rattle.jn_rows.specs.declared.coordinator.Stage.TheVariants as stages
use Rattle.jn_coord.proofs.Tables.{at-named, for-found, counted}
use Rattle.jn_coord.proofs.Fitting.{votes, fits-staged, fits-without, same-flags, committed-found, flags-without, promise_held, spare-one, has-promise, no-votes}

pub stays : (v : StorageView) → Reaches v 0 v
stays v = record { later = storage_refl v; calls = omega arith }

pub released-reaches : (v w : StorageView) → PromiseReleased v w → Reaches v 0 w
released-reaches v w p = subst (λ u. Reaches v 0 u) (sym p.released) (record { later = record { server = refl; pool = refl; heads = refl; leaves = refl; store = (storage_refl v).store }; calls = omega arith })

pub aborted : (r r' : Remembered) (v w : StorageView) (T : Tid) (k : Tickets) (x : Transaction) (cause : Cause) (works : List WorkId) (before after : Collected)
    → FitsStorage r v → transaction_at T r.transactions ≡ Some x → committed_as x.client x.stage ≡ None → Releases (is_voting x.stage) v w
    → after ≡ added before (abort_row (table_of r) k x cause works).messages []
    → r' ≡ record r { transactions = with_stage T (stages.Aborted cause) r.transactions }
    → IsDone (abort_row (table_of r) k x cause works) v before r' w after
aborted r r' v w T k x cause works before after fits at undecided p sent ts = subst (λ s. IsDone (abort_row (table_of r) k x cause works) v before s w after) (sym ts) (by (is_voting x.stage) refl p)
  where
    by : (b : Bool) → is_voting x.stage ≡ b → Releases b v w → IsDone (abort_row (table_of r) k x cause works) v before (record r { transactions = with_stage T (stages.Aborted cause) r.transactions }) w after
    by false still e = subst (λ u. IsDone (abort_row (table_of r) k x cause works) v before (record r { transactions = with_stage T (stages.Aborted cause) r.transactions }) u after) (sym e) (record {
      table = rw (at-named T r.transactions x at) refl;
      sent = sent;
      made = fits.serving.up;
      fits = fits-staged 0 0 r v v T (stages.Aborted cause) x fits at fits.serving refl refl (same-flags 0 r v T (stages.Aborted cause) x fits at (sym undecided)) (rw still refl) refl;
      accounts = refl;
      reaches = stays v;
      no_stop = refl;
    })
    by true voting p = record {
      table = rw (at-named T r.transactions x at) refl;
      sent = sent;
      made = λ c. ap (λ u. u.found c) p.released ∙ fits.serving.up c;
      fits = fits-staged 0 0 r v w T (stages.Aborted cause) x fits at p.serving (ap (λ u. u.accounts.server) p.released) (ap (λ u. (state u).epoch) p.released)
          (λ U. ap (λ u. flag_told ((state u).flags U)) p.released ∙ same-flags 0 r v T (stages.Aborted cause) x fits at (sym undecided) U)
          (rw voting (let less = ap (λ u. u.accounts.promised_records) p.released in let held = promise_held T r.transactions x at voting in omega (arith, less, held, fits.promises))) refl;
      accounts = counted v.accounts w.accounts _ _ (ap (λ u. u.accounts) p.released);
      reaches = released-reaches v w p;
      no_stop = ap (λ u. u.store.stops) p.released;
    }

-- where y is the transaction that was found
pub aborted-found : (r r' : Remembered) (v w : StorageView) (T : Tid) (k : Tickets) (y x : Transaction) (cause : Cause) (works : List WorkId) (before after : Collected)
    → FitsStorage r v → transaction_at T r.transactions ≡ Some y → transaction_at T r.transactions ≡ Some x → committed_as x.client x.stage ≡ None → Releases (is_voting y.stage) v w
    → after ≡ added before (drops T works ++ (Client y.client, messages.Outcome y.client T (outcomes.Aborted cause)) ∷ []) []
    → r' ≡ record r { transactions = with_stage T (stages.Aborted cause) r.transactions }
    → IsDone (abort_row (table_of r) k x cause works) v before r' w after
aborted-found r r' v w T k y x cause works before after fits found at undecided p sent ts = for-found T r.transactions
    (λ z. committed_as z.client z.stage ≡ None → IsDone (abort_row (table_of r) k z cause works) v before r' w after) y found
    (λ u. aborted r r' v w T k y cause works before after fits found u p (rw (at-named T r.transactions y found) sent) ts) x at undecided

-- ---- calls that change nothing

pub gave_up : (row : RowOutcome CoordinatorTable) (r : Remembered) (v : StorageView) (before : Collected) (a : Result (Unit {0}) CallFault) → a ≡ Err Memory → Does row r v before a r v before
gave_up row r v before a e = subst (λ b. Does row r v before b r v before) (sym e) (refl, refl, longer_same before before refl)

-- ---- calls of the store with one change

stopped-at : (row : RowOutcome CoordinatorTable) (v w : StorageView) (step : Change) → row.changes ≡ step ∷ [] → Called v 16 false w → Changed (state v) step false w.found → IsStopped row v w
stopped-at row v w step one called changed = record {
  some = λ c. rw one (changed.stop refl c);
  loadable = called.loadable;
  reaches = record { later = called.later; calls = rw one called.calls };
  stop = called.stop refl;
}

-- ---- a committed transaction comes on

record Stands (T : Tid) (xs : List Transaction) (works : List WorkId) : Type 0 where
  one : Transaction
  at : transaction_at T xs ≡ Some one
  told : committed_as one.client one.stage ≡ Some (one.client, works)
  quiet : is_voting one.stage ≡ false

stands : (T : Tid) (xs : List Transaction) (works : List WorkId) → works_in (committed_at T xs) ≡ Some works → Stands T xs works
stands T [] works e = absurd (cc e)
stands T (y ∷ ys) works e = by (tid_eq y.tid T) refl e (stands T ys works)
  where
    here : (s : Stage) → works_in (committed_as y.client s) ≡ Some works → (committed_as y.client s ≡ Some (y.client, works)) × (is_voting s ≡ false)
    here Open e = absurd (cc e)
    here (Voting b) e = absurd (cc e)
    here (Aborted cause) e = absurd (cc e)
    here (Committed d) e = (let same : d.works ≡ works = cc e in rw same refl, refl)

    by : (b : Bool) → tid_eq y.tid T ≡ b → works_in (if b then committed_as y.client y.stage else committed_at T ys) ≡ Some works → (works_in (committed_at T ys) ≡ Some works → Stands T ys works) → Stands T (y ∷ ys) works
    by true f e again = record { one = y; at = rw f refl; told = (here y.stage e).0; quiet = (here y.stage e).1 }
    by false f e again = let s = again e in record { one = s.one; at = rw f s.at; told = s.told; quiet = s.quiet }

pub settled : (r r' : Remembered) (v : StorageView) (T : Tid) (k : Tickets) (d : Commitment) (before : Collected)
    → FitsStorage r v → works_in (committed_at T r.transactions) ≡ Some d.works → (d.thanked && all_in d.works d.done) ≡ false
    → r' ≡ record r { transactions = with_stage T (stages.Committed d) r.transactions }
    → IsDone (forget_row (table_of r) k T d) v before r' v before
settled r r' v T k d before fits same waits ts = let s = stands T r.transactions d.works same in subst (λ q. IsDone (forget_row (table_of r) k T d) v before q v before) (sym ts) (rw waits (record {
  table = refl;
  sent = added_none before;
  made = fits.serving.up;
  fits = fits-staged 0 0 r v v T (stages.Committed d) s.one fits s.at fits.serving refl refl (same-flags 0 r v T (stages.Committed d) s.one fits s.at (sym s.told)) (rw s.quiet refl) refl;
  accounts = refl;
  reaches = stays v;
  no_stop = refl;
}))

pub told-but : (b : Bool) (o p : Option FlagState) → flag_told (if b then p else o) ≡ (if b then flag_told p else flag_told o)
told-but true o p = refl
told-but false o p = refl

pub forgotten : (r r' : Remembered) (v w : StorageView) (T : Tid) (k : Tickets) (d : Commitment) (before : Collected) (ok : Bool)
    → FitsStorage r v → works_in (committed_at T r.transactions) ≡ Some d.works → (d.thanked && all_in d.works d.done) ≡ true
    → FlagDropped v T ok w → ok ≡ true → r' ≡ record r { transactions = without T r.transactions }
    → IsDone (forget_row (table_of r) k T d) v before r' w before
forgotten r r' v w T k d before ok fits same over put went ts = let s = stands T r.transactions d.works same in let p = subst (λ b. FlagDropped v T b w) went put in let at = p.change.done refl (λ n. false) in
    subst (λ q. IsDone (forget_row (table_of r) k T d) v before q w before) (sym ts) (rw over (record {
      table = refl;
      sent = added_none before;
      made = p.change.done refl;
      fits = fits-without r v w T s.one fits s.at (p.called.serving refl) p.called.later.server (ap (λ x. x.epoch) at)
          (λ U. ap (λ x. flag_told (x.flags U)) at ∙ told-but (tid_eq T U) ((state v).flags U) None) (no-votes v _ s.one.stage s.quiet (ap (λ a. a.promised_records) (p.accounts refl)));
      accounts = counted v.accounts w.accounts _ _ (p.accounts refl);
      reaches = record { later = p.called.later; calls = p.called.calls };
      no_stop = p.called.no_stop refl;
    }))

pub not-forgotten : (r : Remembered) (v w : StorageView) (T : Tid) (k : Tickets) (d : Commitment) (before : Collected) (ok : Bool)
    → (d.thanked && all_in d.works d.done) ≡ true → FlagDropped v T ok w → ok ≡ false
    → IsStopped (forget_row (table_of r) k T d) v w × Longer before before
not-forgotten r v w T k d before ok over put fell = let p = subst (λ b. FlagDropped v T b w) fell put in
    (rw over (stopped-at _ v w (DropFlag T) refl p.called p.change), longer_same before before refl)

-- ---- a transaction commits

pub committed : (r r' : Remembered) (v w : StorageView) (T : Tid) (k : Tickets) (y x : Transaction) (request : RequestNo) (works : List WorkId) (before after : Collected) (ok : Bool)
    → FitsWith (spare_of (transaction_at T r.transactions)) r v → transaction_at T r.transactions ≡ Some y → transaction_at T r.transactions ≡ Some x
    → FlagPut v (record { tid = T; client = y.client; request = request; works = works }) ok w → ok ≡ true
    → after ≡ added before (commits T works ++ (Client y.client, messages.Outcome y.client T outcomes.Committed) ∷ []) (notes.Commit T ∷ [])
    → r' ≡ record r { transactions = with_stage T (stages.Committed (record { works = works; done = []; thanked = false })) r.transactions }
    → IsDone (commit_row (table_of r) k x request works) v before r' w after
committed r r' v w T k y x request works before after ok fits found at put went sent ts = for-found T r.transactions (λ z. IsDone (commit_row (table_of r) k z request works) v before r' w after) y found
    (subst (λ q. IsDone (commit_row (table_of r) k y request works) v before q w after) (sym ts) done) x at
  where
    new : Stage
    new = stages.Committed (record { works = works; done = []; thanked = false })

    p : FlagPut v (record { tid = T; client = y.client; request = request; works = works }) true w
    p = subst (λ b. FlagPut v (record { tid = T; client = y.client; request = request; works = works }) b w) went put

    named : y.tid ≡ T
    named = at-named T r.transactions y found

    is : state w ≡ made_by (AddFlag (record { tid = T; client = y.client; request = request; works = works })) (state v)
    is = p.change.done refl (λ n. false)

    used : w.accounts.promised_records ≡ v.accounts.promised_records - 1
    used = ap (λ a. a.promised_records) (p.accounts refl)

    spare : spare_of (transaction_at T r.transactions) + votes y.stage ≡ 1
    spare = ap (λ o. spare_of o + votes y.stage) found ∙ spare-one y

    done : IsDone (commit_row (table_of r) k y request works) v before (record r { transactions = with_stage T new r.transactions }) w after
    done = rw named (record {
      table = refl;
      sent = sent;
      made = p.change.done refl;
      fits = fits-staged (spare_of (transaction_at T r.transactions)) 0 r v w T new y fits found (p.called.serving refl) p.called.later.server (ap (λ x. x.epoch) is)
          (λ U. ap (λ x. flag_told (x.flags U)) is ∙ told-but (tid_eq T U) ((state v).flags U) _) (let held = has-promise T r v y fits found in omega (arith, used, spare, held)) refl;
      accounts = counted v.accounts w.accounts _ _ (p.accounts refl);
      reaches = record { later = p.called.later; calls = p.called.calls };
      no_stop = p.called.no_stop refl;
    })

pub not-committed : (r : Remembered) (v w : StorageView) (T : Tid) (k : Tickets) (y x : Transaction) (request : RequestNo) (works : List WorkId) (before after : Collected) (ok : Bool)
    → transaction_at T r.transactions ≡ Some y → transaction_at T r.transactions ≡ Some x
    → FlagPut v (record { tid = T; client = y.client; request = request; works = works }) ok w → ok ≡ false
    → after ≡ added before (commits T works ++ (Client y.client, messages.Outcome y.client T outcomes.Committed) ∷ []) (notes.Commit T ∷ [])
    → IsStopped (commit_row (table_of r) k x request works) v w × Longer before after
not-committed r v w T k y x request works before after ok found at put fell sent = for-found T r.transactions (λ z. IsStopped (commit_row (table_of r) k z request works) v w × Longer before after) y found (
  stopped-at _ v w (AddFlag (record { tid = y.tid; client = y.client; request = request; works = works })) refl p.called
      (subst (λ U. Changed (state v) (AddFlag (record { tid = U; client = y.client; request = request; works = works })) false w.found) (sym (at-named T r.transactions y found)) p.change),
  record { more_messages = _; more_notes = _; is = sent },
) x at
  where
    p : FlagPut v (record { tid = T; client = y.client; request = request; works = works }) false w
    p = subst (λ b. FlagPut v (record { tid = T; client = y.client; request = request; works = works }) b w) fell put

-- ---- what stands at a name

pub works-found : (T : Tid) (xs : List Transaction) (y : Transaction) (d : Commitment) → transaction_at T xs ≡ Some y → y.stage ≡ Committed d → works_in (committed_at T xs) ≡ Some d.works
works-found T xs y d at is = ap works_in (committed-found T xs y at) ∙ rw is refl

pub voting-undecided : (T : Tid) (xs : List Transaction) → voting_in (transaction_at T xs) ≡ true → committed_at T xs ≡ None
voting-undecided T xs voting = by (transaction_at T xs) refl voting
  where
    undecided : (c : ClientNo) (s : Stage) → is_voting s ≡ true → committed_as c s ≡ None
    undecided c Open e = absurd (cc e)
    undecided c (Voting b) e = refl
    undecided c (Committed d) e = absurd (cc e)
    undecided c (Aborted cause) e = absurd (cc e)

    by : (o : Option Transaction) → transaction_at T xs ≡ o → voting_in o ≡ true → committed_at T xs ≡ None
    by None e v = absurd (cc v)
    by (Some x) e v = committed-found T xs x e ∙ undecided x.client x.stage v

-- ---- a ballot that comes on

pub counted-on : (r r' : Remembered) (v : StorageView) (T : Tid) (k : Tickets) (x : Transaction) (b : Ballot) (before : Collected)
    → FitsStorage r v → voting_in (transaction_at T r.transactions) ≡ true → transaction_at T r.transactions ≡ Some x → length b.works ≤ 8 → all_in b.works b.ready ≡ false
    → r' ≡ record r { transactions = with_stage T (stages.Voting b) r.transactions }
    → IsDone (noted (table_of r) k x b) v before r' v before
counted-on r r' v T k x b before fits voting at few waits ts = subst (λ q. IsDone (noted (table_of r) k x b) v before q v before) (sym ts) (rw (waits, at-named T r.transactions x at) (record {
  table = refl;
  sent = added_none before;
  made = fits.serving.up;
  fits = fits-staged 0 0 r v v T (stages.Voting b) x fits at fits.serving refl refl (same-flags 0 r v T (stages.Voting b) x fits at (sym (sym (committed-found T r.transactions x at) ∙ voting-undecided T r.transactions voting))) (rw is refl) ballot;
  accounts = refl;
  reaches = stays v;
  no_stop = refl;
}))
  where
    is : is_voting x.stage ≡ true
    is = sym (ap voting_in at) ∙ voting

    ballot : not (nat_lt 8 (length b.works)) ≡ true
    ballot = grind (arith, nat_tests, few)

-- ---- thanks

pub aborted-gone : (r r' : Remembered) (v : StorageView) (T : Tid) (k : Tickets) (y : Transaction) (before : Collected)
    → FitsStorage r v → transaction_at T r.transactions ≡ Some y → is_aborted y.stage ≡ true → r' ≡ record r { transactions = without T r.transactions }
    → IsDone (thanks_row (table_of r) k T (transaction_at T r.transactions)) v before r' v before
aborted-gone r r' v T k y before fits at is ts = subst (λ q. IsDone (thanks_row (table_of r) k T (transaction_at T r.transactions)) v before q v before) (sym ts) (rw at (by y.stage refl is))
  where
    gone : (s : Stage) → is_aborted s ≡ true → (committed_as y.client s ≡ None) × (is_voting s ≡ false)
    gone Open e = absurd (cc e)
    gone (Voting b) e = absurd (cc e)
    gone (Committed d) e = absurd (cc e)
    gone (Aborted cause) e = (refl, refl)

    by : (s : Stage) → y.stage ≡ s → is_aborted s ≡ true → IsDone (thanks_stage (table_of r) k T s) v before (record r { transactions = without T r.transactions }) v before
    by Open e f = absurd (cc f)
    by (Voting b) e f = absurd (cc f)
    by (Committed d) e f = absurd (cc f)
    by (Aborted cause) e f = record {
      table = refl;
      sent = added_none before;
      made = fits.serving.up;
      fits = fits-without r v v T y fits at fits.serving refl refl (flags-without r v T y fits at (gone y.stage is).0) (no-votes v _ y.stage (gone y.stage is).1 refl);
      accounts = refl;
      reaches = stays v;
      no_stop = refl;
    }

pub known-now : (t : CoordinatorTable) (T : Tid) (k : Tickets) (o : Option Transaction) (y : Transaction) (d : Commitment) → o ≡ Some y → y.stage ≡ Committed d → d.thanked ≡ false
    → thanks_row t k T o ≡ forget_row t k T (record d { thanked = true })
known-now t T k o y d at is not-yet = rw (at, is, not-yet) refl

-- ---- what is only told

pub tells : (row : RowOutcome CoordinatorTable) (r : Remembered) (v : StorageView) (before after : Collected) (a : Result (Unit {0}) CallFault) → row.table ≡ table_of r → row.changes ≡ [] → FitsStorage r v → Adds row.messages row.notes before a after → Does row r v before a r v after
tells row r v before after (Ok x) table changes fits sent = record {
  table = sym table;
  sent = sent;
  made = λ c. rw changes (fits.serving.up c);
  fits = fits;
  accounts = refl;
  reaches = rw changes (stays v);
  no_stop = refl;
}
tells row r v before after (Err Memory) table changes fits sent = (refl, refl, sent)
tells row r v before after (Err Stopped) table changes fits sent = absurd sent

-- ---- votes

pub decided-vote : (t : CoordinatorTable) (k : Tickets) (x : Transaction) (W : WorkId) (vote : Vote) (s : Stage) → s ≢ Open → ((b : Ballot) → s ≢ Voting b) → vote_stage t k x W vote s ≡ told_stage t k x.tid W s
decided-vote t k x W vote Open o v = absurd (o refl)
decided-vote t k x W vote (Voting b) o v = absurd (v b refl)
decided-vote t k x W vote (Committed d) o v = refl
decided-vote t k x W vote (Aborted cause) o v = refl

pub told-still : (t : CoordinatorTable) (k : Tickets) (T : Tid) (W : WorkId) (s : Stage) → ((told_stage t k T W s).table ≡ t) × ((told_stage t k T W s).changes ≡ [])
told-still t k T W Open = (refl, refl)
told-still t k T W (Voting b) = (refl, refl)
told-still t k T W (Committed d) = by (is_work W d.works && not (is_work W d.done))
  where
    by : (b : Bool) → ((if b then sends t k (commits T (W ∷ [])) else dropped t k T W).table ≡ t) × ((if b then sends t k (commits T (W ∷ [])) else dropped t k T W).changes ≡ [])
    by true = (refl, refl)
    by false = (refl, refl)
told-still t k T W (Aborted cause) = (refl, refl)

pub inquire-still : (t : CoordinatorTable) (k : Tickets) (T : Tid) (W : WorkId) (o : Option Transaction) → ((inquire_row t k T W o).table ≡ t) × ((inquire_row t k T W o).changes ≡ [])
inquire-still t k T W None = (refl, refl)
inquire-still t k T W (Some x) = told-still t k T W x.stage

pub waiting-still : (t : CoordinatorTable) (k : Tickets) (x : Transaction) (b : Ballot) (W : WorkId) (what : Outcome) → ((waiting_row t k x b W what).table ≡ t) × ((waiting_row t k x b W what).changes ≡ [])
waiting-still t k x b W what = by (is_work W b.ready)
  where
    by : (c : Bool) → ((if c then ignored t k else sends t k ((Client x.client, messages.Outcome x.client x.tid what) ∷ [])).table ≡ t) × ((if c then ignored t k else sends t k ((Client x.client, messages.Outcome x.client x.tid what) ∷ [])).changes ≡ [])
    by true = (refl, refl)
    by false = (refl, refl)

pub same-ballot : (o : Option Transaction) (x : Transaction) (c b : Ballot) → Some c ≡ ballot_in o → o ≡ Some x → x.stage ≡ Voting b → c ≡ b
same-ballot o x c b found at is = let e : Some c ≡ Some b = found ∙ ap ballot_in at ∙ ap ballot_of is in cc e

pub ballot-few : (T : Tid) (xs : List Transaction) (b : Ballot) → ballots_fit xs ≡ true → Some b ≡ ballot_in (transaction_at T xs) → length b.works ≤ 8
ballot-few T [] b h e = absurd (cc e)
ballot-few T (y ∷ ys) b h e = by (tid_eq y.tid T) e (ballot-few T ys b (grind (arith, h)))
  where
    here : (s : Stage) → ballot_fits s ≡ true → Some b ≡ ballot_of s → length b.works ≤ 8
    here Open f e = absurd (cc e)
    here (Voting c) f e = let same : b ≡ c = cc e in rw same (grind (arith, nat_tests, f))
    here (Committed d) f e = absurd (cc e)
    here (Aborted cause) f e = absurd (cc e)

    by : (c : Bool) → Some b ≡ ballot_in (if c then Some y else transaction_at T ys) → (Some b ≡ ballot_in (transaction_at T ys) → length b.works ≤ 8) → length b.works ≤ 8
    by true e again = here y.stage (grind (arith, h)) e
    by false e again = again e
