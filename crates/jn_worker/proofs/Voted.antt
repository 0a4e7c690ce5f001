-- The exits of a call that prepares an active work.
use Rattle.jn_worker.proofs.Common.{◌≡◌, ℕ, Bool, true, false, List, [], ◌∷◌, ◌++◌, Option, Some, None, refl, sym, ◌∙◌, ap, subst, arith, Result, Ok, Err, nat_lt, if◌then◌else◌, append-nil, ClientNo, Server, Tid, Tickets, WorkId, BrokenAt, Collected, Vote, Work, Phase, ActiveWork, Active, Broken, Stored, RowOutcome, AddReady, WorkerTable, Held, work_at, with_phase, after_grant, break_notes, commit_wants, conflict, prepare_row, prepare_phase, prepared_row, voted, vote_of, need_in, shortage, IsActive, Grants, notes_of, stored, found-name, StorageView, needed, state, WorkPrepared, reached, first_short, storage_shortage, CallFault, Memory, WorkerView, Fits, seen, is_active, Takes, Stores, head_of}
use Rattle.jn_records.specs.declared.net_list.Need.{Need}
use Rattle.jn_base.specs.declared.names.Resource.TheVariants as resources
use Rattle.jn_msgs.specs.declared.message.Message.TheVariants as messages
use Rattle.jn_msgs.specs.declared.message.Vote.TheVariants as votes
use Rattle.jn_storage.specs.declared.faults.PrepareFault.{PrepareFault}
use Rattle.jn_storage.specs.declared.faults.PrepareFault.TheVariants.{Records, Pages, Heads, Stopped as NotServed, Memory as NoMemory}
use Rattle.jn_base.specs.declared.fault.CallFault.TheVariants.{Stopped}
use Rattle.jn_worker.specs.Calls.{refusal_of}
use Rattle.jn_worker.proofs.Counts.{counts_ready, none_carried, filled}
use Rattle.jn_worker.proofs.Exits.{without_memory, without_change, one_stopped, one_untold, one_made}
use Rattle.jn_worker.proofs.Granted.{fits_broken, tickets_broken, granted_itself}
use Rattle.jn_worker.proofs.Storing.{here, fits_stored, tickets_stored}

is_work : (x y : Work) → Some x ≡ Some y → x ≡ y
is_work x y e = cc e

pub some_active : (t : WorkerTable) (W : WorkId) (x : Work) → work_at W t ≡ Some x → is_active (work_at W t) ≡ true → (a : ActiveWork) × IsActive t x.tid W a
some_active t W x at active = by x.phase refl (sym (ap is_active at) ∙ active)
  where
    by : (phase : Phase) → x.phase ≡ phase → is_active (Some (record x { phase = phase })) ≡ true → (a : ActiveWork) × IsActive t x.tid W a
    by (Active a) e s = (a, record { work = x; found = at; tid = refl; phase = e })
    by (Broken u S) e s = absurd (cc s)
    by (Stored q) e s = absurd (cc s)

-- an active work is found
pub found_active : (t : WorkerTable) (W : WorkId) → is_active (work_at W t) ≡ true → (T : Tid) × (a : ActiveWork) × IsActive t T W a
found_active t W active = by (work_at W t) refl active
  where
    by : (o : Option Work) → work_at W t ≡ o → is_active o ≡ true → (T : Tid) × (a : ActiveWork) × IsActive t T W a
    by None e s = absurd (cc s)
    by (Some x) e s = let k = some_active t W x e active in (x.tid, k.0, k.1)

pub grant_active : (t : WorkerView) (ws found taken : List Work) (gs : List WorkId) (W : WorkId) (x : Work) → record { table = ws; going = gs } ≡ t → found ≡ ws → work_at W found ≡ Some x → taken ≡ ws → is_active (work_at W t.table) ≡ true → (a : ActiveWork) × IsActive taken x.tid W a
grant_active t ws found taken gs W x view same look is active = subst (λ l. (a : ActiveWork) × IsActive l x.tid W a) (ap (λ (t : WorkerView). t.table) (sym view) ∙ sym is) (some_active t.table W x (here t ws found gs W x view same look) active)

pub ready_stores : (t : WorkerView) (ws found taken after kept shown : List Work) (gs : List WorkId) (W : WorkId) (x : Work) (T S : Tid) (a : ActiveWork) (bs told : List BrokenAt) (before middle last : Collected) → record { table = ws; going = gs } ≡ t → found ≡ ws → work_at W found ≡ Some x → taken ≡ ws → IsActive t.table T W a
    → ((a : ActiveWork) → IsActive taken x.tid W a → Grants taken x.tid W (commit_wants a.writes) (stored (Active a)) bs after) → kept ≡ after → shown ≡ kept → told ≡ bs → middle.messages ≡ before.messages → middle.notes ≡ before.notes ++ notes_of x.tid told shown
    → last ≡ record { messages = middle.messages ++ (Server S.server, messages.Vote S W votes.Ready) ∷ []; notes = middle.notes } → Stores t T W a S before (record { table = kept; going = gs }) last
ready_stores t ws found taken after kept shown gs W x T S a bs told before middle last view same look is i grants same_kept same_shown same_told mid mid_notes sent =
    subst (λ (t : WorkerView). IsActive t.table T W a → Stores t T W a S before (record { table = kept; going = gs }) last) view core i
  where
    core : IsActive ws T W a → Stores (record { table = ws; going = gs }) T W a S before (record { table = kept; going = gs }) last
    core i = record {
      works = ap (λ (l : List Work). record { table = l; going = gs }) (same_kept ∙ g.works);
      sent = ap (λ (o : Collected). o.messages) sent ∙ ap (λ m. m ++ (Server S.server, messages.Vote S W votes.Ready) ∷ []) mid;
      noted = ap (λ (o : Collected). o.notes) sent ∙ (mid_notes ∙ ap (λ l. before.notes ++ l) (ap (λ s. notes_of s told shown) tid ∙ (ap (λ b. notes_of T b shown) same_told ∙ (ap (λ s. notes_of T bs s) (same_shown ∙ same_kept) ∙ g.notes))));
    }
      where
        tid : x.tid ≡ T
        tid = ap (λ (y : Work). y.tid) (is_work x i.work (sym (subst (λ l. work_at W l ≡ Some x) same look) ∙ i.found)) ∙ i.tid

        g : Grants ws T W (commit_wants a.writes) (stored (Active a)) bs after
        g = subst (λ s. Grants ws s W (commit_wants a.writes) (stored (Active a)) bs after) tid
            (subst (λ l. (a : ActiveWork) → IsActive l x.tid W a → Grants l x.tid W (commit_wants a.writes) (stored (Active a)) bs after) is grants a (subst (λ s. IsActive ws s W a) (sym tid) i))

-- ---- the row

-- it is as a vote by the conflict and what is short
prepared-as : (t : WorkerView) (v : StorageView) (k : Tickets) (T S : Tid) (c : ClientNo) (W : WorkId) (a : ActiveWork) (i : IsActive t.table S W a) (o : Option Held) (s : Option Vote) → conflict W (commit_wants a.writes) t.table ≡ o → shortage (seen v).free (need_in v.accounts.maps (state v).files a.list) ≡ s
    → prepare_row t.table (seen v) k T c W (work_at W t.table) ≡ prepared_row t.table k T c i.work a (vote_of o s)
prepared-as t v k T S c W a i o s free short = ap (λ o. prepare_row t.table (seen v) k T c W o) i.found ∙ (ap (λ phase. prepare_phase t.table (seen v) k T c i.work phase) i.phase
    ∙ (ap (λ n. prepared_row t.table k T c i.work a (vote_of (conflict n (commit_wants a.writes) t.table) (shortage (seen v).free (need_in v.accounts.maps (state v).files a.list)))) (found-name W t.table i.work i.found)
    ∙ (ap (λ o. prepared_row t.table k T c i.work a (vote_of o (shortage (seen v).free (need_in v.accounts.maps (state v).files a.list)))) free ∙ ap (λ s. prepared_row t.table k T c i.work a (vote_of o s)) short)))

abbrev ready_row : WorkerTable → Tickets → Tid → ClientNo → WorkId → Tid → ActiveWork → RowOutcome WorkerTable
ready_row t k T c W S a = record {
  table = with_phase W (stored (Active a)) (after_grant S W (commit_wants a.writes) t);
  changes = AddReady (head_of W S c) a.list a.reads ∷ [];
  messages = (Server T.server, messages.Vote T W votes.Ready) ∷ [];
  notes = break_notes S W (commit_wants a.writes) t;
  tickets = k;
}

ready-as : (t : WorkerView) (v : StorageView) (k : Tickets) (T S : Tid) (c : ClientNo) (W : WorkId) (a : ActiveWork) → IsActive t.table S W a → conflict W (commit_wants a.writes) t.table ≡ None → shortage (seen v).free (need_in v.accounts.maps (state v).files a.list) ≡ None
    → prepare_row t.table (seen v) k T c W (work_at W t.table) ≡ ready_row t.table k T c W S a
ready-as t v k T S c W a i free enough = prepared-as t v k T S c W a i None None free enough ∙ (ap (λ n. ready_row t.table k T c n i.work.tid a) (found-name W t.table i.work i.found) ∙ ap (λ s. ready_row t.table k T c W s a) i.tid)

-- what is short, as a vote
abbrev short_vote : Option PrepareFault → Option Vote
short_vote None = None
short_vote (Some (Records s)) = Some (votes.Full resources.Records s.free s.need)
short_vote (Some (Pages s)) = Some (votes.Full resources.Pages s.free s.need)
short_vote (Some (Heads s)) = Some (votes.Full resources.Heads s.free s.need)
short_vote (Some NotServed) = None
short_vote (Some NoMemory) = None

short-same : (r p h : ℕ) (need : Need) → shortage (record { records = r; heads = h; pages = p }) need ≡ short_vote (first_short r p h need)
short-same r p h need = by (nat_lt r need.records) (nat_lt p need.pages) (nat_lt h need.heads)
  where
    by : (a b c : Bool) → (if a then Some (votes.Full resources.Records r need.records) else (if b then Some (votes.Full resources.Pages p need.pages) else (if c then Some (votes.Full resources.Heads h need.heads) else None)))
        ≡ short_vote (if a then Some (Records (record { free = r; need = need.records })) else if b then Some (Pages (record { free = p; need = need.pages })) else if c then Some (Heads (record { free = h; need = need.heads })) else None)
    by true b c = refl
    by false true c = refl
    by false false true = refl
    by false false false = refl

short-here : (v : StorageView) (a : ActiveWork) (o : Option PrepareFault) → storage_shortage v.accounts (needed v.accounts.maps (state v) a.list) ≡ o → shortage (seen v).free (need_in v.accounts.maps (state v).files a.list) ≡ short_vote o
short-here v a o e = short-same _ _ _ (needed v.accounts.maps (state v) a.list) ∙ ap short_vote e

abbrev refusal_ok : Vote → Result Vote CallFault
refusal_ok vote = Ok vote

abbrev refusal_err : CallFault → Result Vote CallFault
refusal_err fault = Err fault

-- where nothing changes, the storage was left alone
pub prepare_kept : (t : WorkerView) (v w : StorageView) (k : Tickets) (T : Tid) (c : ClientNo) (W : WorkId) (answer : Result (Unit {0}) PrepareFault) → is_active (work_at W t.table) ≡ true → ((S : Tid) (a : ActiveWork) → IsActive t.table S W a → conflict W (commit_wants a.writes) t.table ≡ None)
    → ((S : Tid) (a : ActiveWork) → IsActive t.table S W a → WorkPrepared {A = Unit {0}} v (head_of W S c) a.list a.reads answer w) → (prepare_row t.table (seen v) k T c W (work_at W t.table)).changes ≡ [] → w ≡ v
prepare_kept t v w k T c W answer active free prepared none = by (reached answer) refl
  where
    f : (T : Tid) × (a : ActiveWork) × IsActive t.table T W a
    f = found_active t.table W active

    p : WorkPrepared {A = Unit {0}} v (head_of W f.0 c) f.1.list f.1.reads answer w
    p = prepared f.0 f.1 f.2

    by : (b : Bool) → reached answer ≡ b → w ≡ v
    by false r = p.kept r
    by true r = absurd (filled (sym (ap (λ (row : RowOutcome WorkerTable). row.changes) (ready-as t v k T f.0 c W f.1 f.2 (free f.0 f.1 f.2) (short-here v f.1 None (p.enough r)))) ∙ none))

-- ---- the exits

-- another work stands in the way
pub waiting_sent : (t : WorkerView) (ws found : List Work) (gs : List WorkId) (v : StorageView) (before after : Collected) (k : Tickets) (T : Tid) (c : ClientNo) (W : WorkId) (held : Held) (test : Option Held) → Fits t v → is_active (work_at W t.table) ≡ true → record { table = ws; going = gs } ≡ t → found ≡ ws
    → ((S : Tid) (a : ActiveWork) → IsActive found S W a → test ≡ conflict W (commit_wants a.writes) found) → test ≡ Some held → after ≡ record { messages = before.messages ++ (Server T.server, messages.Vote T W (votes.Waiting held.0 held.1)) ∷ []; notes = before.notes }
    → Takes 784 (prepare_row t.table (seen v) k T c W (work_at W t.table)) t v before k (Ok (tt {0})) t v after k
waiting_sent t ws found gs v before after k T c W held test h active view same tests is sent = let f = found_active t.table W active in let i = f.2 in
    subst (λ row. Takes 784 row t v before k (Ok (tt {0})) t v after k)
    (sym (prepared-as t v k T f.0 c W f.1 i (Some held) _ (sym (subst (λ l. (S : Tid) (a : ActiveWork) → IsActive l S W a → test ≡ conflict W (commit_wants a.writes) l) (same ∙ ap (λ (t : WorkerView). t.table) view) tests f.0 f.1 i) ∙ is) refl
    ∙ ap (λ n. voted t.table k T n (votes.Waiting held.0 held.1)) (found-name W t.table i.work i.found)))
    (without_change (tt {0}) (voted t.table k T W (votes.Waiting held.0 held.1)) t t v before after k k refl refl (ap (λ (o : Collected). o.messages) sent) (ap (λ (o : Collected). o.notes) sent ∙ sym (append-nil before.notes)) refl h (λ x. x))

-- nothing stands in the way
pub is_free : (t : WorkerView) (ws found : List Work) (gs : List WorkId) (W : WorkId) (test : Option Held) → record { table = ws; going = gs } ≡ t → found ≡ ws → ((S : Tid) (a : ActiveWork) → IsActive found S W a → test ≡ conflict W (commit_wants a.writes) found) → test ≡ None
    → (S : Tid) (a : ActiveWork) → IsActive t.table S W a → conflict W (commit_wants a.writes) t.table ≡ None
is_free t ws found gs W test view same tests is S a i = sym (subst (λ l. (S : Tid) (a : ActiveWork) → IsActive l S W a → test ≡ conflict W (commit_wants a.writes) l) (same ∙ ap (λ (t : WorkerView). t.table) view) tests S a i) ∙ is

-- something is short
pub full_sent : (t : WorkerView) (v w : StorageView) (before after : Collected) (k : Tickets) (T : Tid) (c : ClientNo) (W : WorkId) (fault : PrepareFault) (vote : Vote) → Fits t v → is_active (work_at W t.table) ≡ true → ((S : Tid) (a : ActiveWork) → IsActive t.table S W a → conflict W (commit_wants a.writes) t.table ≡ None)
    → ((S : Tid) (a : ActiveWork) → IsActive t.table S W a → WorkPrepared {A = Unit {0}} v (head_of W S c) a.list a.reads (Err fault) w) → refusal_of fault ≡ Ok vote → after ≡ record { messages = before.messages ++ (Server T.server, messages.Vote T W vote) ∷ []; notes = before.notes }
    → Takes 784 (prepare_row t.table (seen v) k T c W (work_at W t.table)) t v before k (Ok (tt {0})) t w after k
full_sent t v w before after k T c W fault vote h active free prepared told sent = by fault (prepared f.0 f.1 i) told
  where
    f : (T : Tid) × (a : ActiveWork) × IsActive t.table T W a
    f = found_active t.table W active

    i : IsActive t.table f.0 W f.1
    i = f.2

    short : (o : PrepareFault) → storage_shortage v.accounts (needed v.accounts.maps (state v) f.1.list) ≡ Some o → short_vote (Some o) ≡ Some vote → w ≡ v → Takes 784 (prepare_row t.table (seen v) k T c W (work_at W t.table)) t v before k (Ok (tt {0})) t w after k
    short o e s kept = subst (λ w. Takes 784 (prepare_row t.table (seen v) k T c W (work_at W t.table)) t v before k (Ok (tt {0})) t w after k) (sym kept)
        (subst (λ row. Takes 784 row t v before k (Ok (tt {0})) t v after k)
        (sym (prepared-as t v k T f.0 c W f.1 i None (Some vote) (free f.0 f.1 i) (short-here v f.1 (Some o) e ∙ s) ∙ (not_ready vote o s ∙ ap (λ n. voted t.table k T n vote) (found-name W t.table i.work i.found))))
        (without_change (tt {0}) (voted t.table k T W vote) t t v before after k k refl refl (ap (λ (o : Collected). o.messages) sent) (ap (λ (o : Collected). o.notes) sent ∙ sym (append-nil before.notes)) refl h (λ x. x)))
      where
        not_ready : (vote : Vote) (o : PrepareFault) → short_vote (Some o) ≡ Some vote → prepared_row t.table k T c i.work f.1 vote ≡ voted t.table k T i.work.name vote
        not_ready (votes.Full n free need) o s = refl
        not_ready (votes.Waiting u by) o s = refl
        not_ready (votes.Broken u by) o s = refl
        not_ready (votes.Lost a b) o s = refl
        not_ready votes.Ready (Records r) s = absurd (cc s)
        not_ready votes.Ready (Pages r) s = absurd (cc s)
        not_ready votes.Ready (Heads r) s = absurd (cc s)
        not_ready votes.Ready NotServed s = absurd (cc s)
        not_ready votes.Ready NoMemory s = absurd (cc s)

    is_vote : (x y : Vote) → refusal_ok x ≡ refusal_ok y → Some x ≡ Some y
    is_vote x y e = cc e

    by : (fault : PrepareFault) → WorkPrepared {A = Unit {0}} v (head_of W f.0 c) f.1.list f.1.reads (Err fault) w → refusal_of fault ≡ Ok vote → Takes 784 (prepare_row t.table (seen v) k T c W (work_at W t.table)) t v before k (Ok (tt {0})) t w after k
    by (Records s) p e = short (Records s) (p.refused (Records s) refl refl) (is_vote _ vote e) (p.kept refl)
    by (Pages s) p e = short (Pages s) (p.refused (Pages s) refl refl) (is_vote _ vote e) (p.kept refl)
    by (Heads s) p e = short (Heads s) (p.refused (Heads s) refl refl) (is_vote _ vote e) (p.kept refl)
    by NotServed p e = absurd (cc e)
    by NoMemory p e = absurd (cc e)

-- without memory for the vote
pub full_untold : (t u : WorkerView) (row : RowOutcome WorkerTable) (v w : StorageView) (before after : Collected) (k : Tickets) (c : ClientNo) (W : WorkId) (fault : PrepareFault) (vote : Vote) (answer : Result (Unit {0}) CallFault) → Fits t v → is_active (work_at W t.table) ≡ true
    → ((S : Tid) (a : ActiveWork) → IsActive t.table S W a → WorkPrepared {A = Unit {0}} v (head_of W S c) a.list a.reads (Err fault) w) → refusal_of fault ≡ Ok vote → answer ≡ Err Memory → Takes 784 row t v before k answer u w after k
full_untold t u row v w before after k c W fault vote answer h active prepared told same = subst (λ answer. Takes 784 row t v before k answer u w after k) (sym same)
    (subst (λ w. Takes {A = Unit {0}} 784 row t v before k (Err Memory) u w after k) (sym (by fault (prepared f.0 f.1 f.2) told)) (without_memory row t u v before after k k h.serving))
  where
    f : (T : Tid) × (a : ActiveWork) × IsActive t.table T W a
    f = found_active t.table W active

    by : (fault : PrepareFault) → WorkPrepared {A = Unit {0}} v (head_of W f.0 c) f.1.list f.1.reads (Err fault) w → refusal_of fault ≡ Ok vote → w ≡ v
    by (Records s) p e = p.kept refl
    by (Pages s) p e = p.kept refl
    by (Heads s) p e = p.kept refl
    by NotServed p e = absurd (cc e)
    by NoMemory p e = absurd (cc e)

-- stopped, or without memory, before anything else happens
pub not_stored : (t : WorkerView) (v w : StorageView) (before : Collected) (k : Tickets) (T : Tid) (c : ClientNo) (W : WorkId) (fault : PrepareFault) (told : CallFault) (answer : Result (Unit {0}) CallFault) → Fits t v → is_active (work_at W t.table) ≡ true → ((S : Tid) (a : ActiveWork) → IsActive t.table S W a → conflict W (commit_wants a.writes) t.table ≡ None)
    → ((S : Tid) (a : ActiveWork) → IsActive t.table S W a → WorkPrepared {A = Unit {0}} v (head_of W S c) a.list a.reads (Err fault) w) → refusal_of fault ≡ Err told → answer ≡ Err told
    → Takes 784 (prepare_row t.table (seen v) k T c W (work_at W t.table)) t v before k answer t w before k
not_stored t v w before k T c W fault told answer h active free prepared is same = subst (λ answer. Takes 784 (prepare_row t.table (seen v) k T c W (work_at W t.table)) t v before k answer t w before k) (sym same) (by fault (prepared f.0 f.1 i) is)
  where
    f : (T : Tid) × (a : ActiveWork) × IsActive t.table T W a
    f = found_active t.table W active

    i : IsActive t.table f.0 W f.1
    i = f.2

    is_fault : (x y : CallFault) → refusal_err x ≡ refusal_err y → x ≡ y
    is_fault x y e = cc e

    by : (fault : PrepareFault) → WorkPrepared {A = Unit {0}} v (head_of W f.0 c) f.1.list f.1.reads (Err fault) w → refusal_of fault ≡ Err told → Takes {A = Unit {0}} 784 (prepare_row t.table (seen v) k T c W (work_at W t.table)) t v before k (Err told) t w before k
    by (Records s) p e = absurd (cc e)
    by (Pages s) p e = absurd (cc e)
    by (Heads s) p e = absurd (cc e)
    by NotServed p e = subst (λ told. Takes {A = Unit {0}} 784 (prepare_row t.table (seen v) k T c W (work_at W t.table)) t v before k (Err told) t w before k) (is_fault Stopped told e)
        (subst (λ row. Takes {A = Unit {0}} 784 row t v before k (Err Stopped) t w before k) (sym (ready-as t v k T f.0 c W f.1 i (free f.0 f.1 i) (short-here v f.1 None (p.enough refl))))
        (one_stopped (ready_row t.table k T c W f.0 f.1) t t v w before before k k (AddReady (head_of W f.0 c) f.1.list f.1.reads) 784 refl (omega arith) (p.called refl) (p.change refl) refl))
    by NoMemory p e = subst (λ told. Takes {A = Unit {0}} 784 (prepare_row t.table (seen v) k T c W (work_at W t.table)) t v before k (Err told) t w before k) (is_fault Memory told e)
        (subst (λ w. Takes {A = Unit {0}} 784 (prepare_row t.table (seen v) k T c W (work_at W t.table)) t v before k (Err Memory) t w before k) (sym (p.kept refl)) (without_memory _ t t v before before k k h.serving))

-- stored, but without memory for the rest
pub ready_untold : (t u : WorkerView) (v w : StorageView) (before after : Collected) (k : Tickets) (T : Tid) (c : ClientNo) (W : WorkId) (answer : Result (Unit {0}) CallFault) → is_active (work_at W t.table) ≡ true → ((S : Tid) (a : ActiveWork) → IsActive t.table S W a → conflict W (commit_wants a.writes) t.table ≡ None)
    → ((S : Tid) (a : ActiveWork) → IsActive t.table S W a → WorkPrepared {A = Unit {0}} v (head_of W S c) a.list a.reads (Ok (tt {0})) w) → answer ≡ Err Memory → Takes 784 (prepare_row t.table (seen v) k T c W (work_at W t.table)) t v before k answer u w after k
ready_untold t u v w before after k T c W answer active free prepared same = let f = found_active t.table W active in let i = f.2 in let p = prepared f.0 f.1 i in
    subst (λ answer. Takes 784 (prepare_row t.table (seen v) k T c W (work_at W t.table)) t v before k answer u w after k) (sym same)
    (subst (λ row. Takes {A = Unit {0}} 784 row t v before k (Err Memory) u w after k) (sym (ready-as t v k T f.0 c W f.1 i (free f.0 f.1 i) (short-here v f.1 None (p.enough refl))))
    (one_untold (ready_row t.table k T c W f.0 f.1) t u v w before after k k (AddReady (head_of W f.0 c) f.1.list f.1.reads) 784 refl (omega arith) (p.called refl) (p.change refl)))

-- it is prepared
pub ready_told : (t u : WorkerView) (v w : StorageView) (before after : Collected) (k : Tickets) (T : Tid) (c : ClientNo) (W : WorkId) → Fits t v → is_active (work_at W t.table) ≡ true → ((S : Tid) (a : ActiveWork) → IsActive t.table S W a → conflict W (commit_wants a.writes) t.table ≡ None)
    → ((S : Tid) (a : ActiveWork) → IsActive t.table S W a → WorkPrepared {A = Unit {0}} v (head_of W S c) a.list a.reads (Ok (tt {0})) w) → ((S : Tid) (a : ActiveWork) → IsActive t.table S W a → Stores t S W a T before u after)
    → Takes 784 (prepare_row t.table (seen v) k T c W (work_at W t.table)) t v before k (Ok (tt {0})) u w after k
ready_told t u v w before after k T c W h active free prepared stores = subst (λ row. Takes 784 row t v before k (Ok (tt {0})) u w after k) (sym (ready-as t v k T f.0 c W f.1 i (free f.0 f.1 i) (short-here v f.1 None (p.enough refl))))
    (subst (λ (u : WorkerView). Takes 784 (ready_row t.table k T c W f.0 f.1) t v before k (Ok (tt {0})) u w after k) (sym s.works)
    (one_made (tt {0}) (ready_row t.table k T c W f.0 f.1) t _ v w before after k k (AddReady (head_of W f.0 c) f.1.list f.1.reads) 784 refl (omega arith) (p.called refl) (p.change refl) refl s.sent s.noted refl
    (fits_stored (record { table = after_grant f.0 W (commit_wants f.1.writes) t.table; going = t.going }) v w W i.work f.1 f.0 c (fits_broken t v f.0 W (commit_wants f.1.writes) h) (granted_itself f.0 W (commit_wants f.1.writes) t.table i.work i.found) i.tid i.phase p)
    (λ x. tickets_stored (after_grant f.0 W (commit_wants f.1.writes) t.table) v w W f.1 (head_of W f.0 c) k p (tickets_broken t.table v f.0 W (commit_wants f.1.writes) k x))
    (counts_ready (state v) (head_of W f.0 c) f.1.list f.1.reads v.accounts w.accounts (none_carried t v f.0 W f.1 h i) (p.accounts refl))))
  where
    f : (T : Tid) × (a : ActiveWork) × IsActive t.table T W a
    f = found_active t.table W active

    i : IsActive t.table f.0 W f.1
    i = f.2

    p : WorkPrepared {A = Unit {0}} v (head_of W f.0 c) f.1.list f.1.reads (Ok (tt {0})) w
    p = prepared f.0 f.1 i

    s : Stores t f.0 W f.1 T before u after
    s = stores f.0 f.1 i
