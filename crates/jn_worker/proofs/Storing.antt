-- An active work is prepared.
use Rattle.jn_worker.proofs.Common.{◌≡◌, Bool, true, false, List, Option, Some, None, refl, sym, ◌∙◌, ap, subst, arith, ClientNo, Tid, WorkId, LockUnit, Intention, WorkHead, Table, IsCompatible, Work, ActiveWork, Active, Ok, is_some, if◌then◌else◌, Tickets, work_eq, work_tells, Prepared, AddReady, made_by, at_work, ready_work, is_going, WorkerTable, work_at, with_phase, commit_wants, conflict, name_from, IsActive, stored, at-phase, in_phase, is_in, LocksMatch, Accounts, StorageView, state, MayPrepare, WorkPrepared, WorkerView, Fits, TicketsFit, WorkFits, PhaseFits, WorkListFits, ListFits, head_of}
use Rattle.jn_worker.proofs.Apart.{may_prepare}
use Rattle.jn_worker.proofs.Fit.{name-later, length-phase, after-phase}

-- the active work that was found
pub here : (t : WorkerView) (ws found : List Work) (gs : List WorkId) (W : WorkId) (w : Work) → record { table = ws; going = gs } ≡ t → found ≡ ws → work_at W found ≡ Some w → work_at W t.table ≡ Some w
here t ws found gs W w view same look = subst (λ (t : WorkerView). work_at W t.table ≡ Some w) view (subst (λ ws. work_at W ws ≡ Some w) same look)

pub is_here : (t : WorkerTable) (W : WorkId) (w : Work) (a : ActiveWork) → work_at W t ≡ Some w → w.phase ≡ Active a → IsActive t w.tid W a
is_here t W w a at active = record { work = w; found = at; tid = refl; phase = active }

pub may_store : (t : WorkerView) (ws found : List Work) (gs : List WorkId) (v : StorageView) (l : Table) (W : WorkId) (w : Work) (a : ActiveWork) (list : List Intention) (reads : List LockUnit) (c : ClientNo) → Fits t v → LocksMatch ws l → IsCompatible l → record { table = ws; going = gs } ≡ t → found ≡ ws → work_at W found ≡ Some w → w.phase ≡ Active a
    → ((T : Tid) (a : ActiveWork) → IsActive t.table T W a → conflict W (commit_wants a.writes) t.table ≡ None) → list ≡ a.list → reads ≡ a.reads → MayPrepare v (head_of W w.tid c) list reads
may_store t ws found gs v l W w a list reads c h locks compatible view same look active free is_list is_reads = subst (λ list. MayPrepare v (head_of W w.tid c) list reads) (sym is_list) (subst (λ reads. MayPrepare v (head_of W w.tid c) a.list reads) (sym is_reads)
    (may_prepare t v l W w a h (subst (λ (t : WorkerView). LocksMatch t.table l) view locks) compatible at active (free w.tid a (is_here t.table W w a at active)) (head_of W w.tid c) refl))
  where
    at : work_at W t.table ≡ Some w
    at = here t ws found gs W w view same look

-- ---- an active work is stored

pub fits_stored : (t : WorkerView) (v w : StorageView) (W : WorkId) (x : Work) (a : ActiveWork) (T : Tid) (c : ClientNo) → Fits t v → work_at W t.table ≡ Some x → x.tid ≡ T → x.phase ≡ Active a → WorkPrepared {A = Unit {0}} v (head_of W T c) a.list a.reads (Ok (tt {0})) w
    → Fits (record { table = with_phase W (stored (Active a)) t.table; going = t.going }) w
fits_stored t v w W x a T c h at tid active m = record {
  serving = (m.called refl).serving refl;
  few = omega (arith, h.few, length-phase W (stored (Active a)) t.table);
  stored = λ V. subst (λ s. WorkFits (work_at V (with_phase W (stored (Active a)) t.table)) (s.works V)) (sym now) (subst (λ o. WorkFits o (at_work (state v).works W (Some ready) V)) (sym (at-phase V W (stored (Active a)) t.table)) (stays V (work_eq W V) refl));
  going = λ V. h.going V ∙ (goes V (work_eq W V) refl ∙ ap (λ s. is_going (s.works V)) (sym now));
  lists = λ V. subst (λ s. WorkListFits s.files (work_at V (with_phase W (stored (Active a)) t.table))) (sym now) (subst (λ o. WorkListFits (state v).files o) (sym (at-phase V W (stored (Active a)) t.table)) (listed (work_eq W V) (work_at V t.table) (h.lists V)));
  names = λ V s. let live = h.names V (alive (work_eq W V) (work_at V t.table) (ap is_some (sym (at-phase V W (stored (Active a)) t.table)) ∙ s)) in
      name-later v w (m.called refl).later.server (ap (λ s. s.epoch) now) V (ap (λ r. is_in work_eq V r) (ap (λ (b : Accounts). b.rubbish) (m.accounts refl)) ∙ live.no_rubbish) live;
}
  where
    ready : Prepared
    ready = ready_work (head_of W T c) a.list a.reads

    now : state w ≡ made_by (AddReady (head_of W T c) a.list a.reads) (state v)
    now = (m.change refl).done refl (λ n. false)

    own : ListFits (state v).files (Active a)
    own = subst (λ phase. ListFits (state v).files phase) active (subst (λ o. WorkListFits (state v).files o) at (h.lists W))

    same : (V : WorkId) → work_eq W V ≡ true → W ≡ V
    same V e = let t = work_tells W V in grind (arith, e)

    stays : (V : WorkId) (b : Bool) → work_eq W V ≡ b → WorkFits (if b then in_phase (stored (Active a)) (work_at V t.table) else work_at V t.table) (if b then Some ready else (state v).works V)
    stays V true e = subst (λ o. WorkFits (in_phase (stored (Active a)) o) (Some ready)) (sym (subst (λ U. work_at U t.table ≡ Some x) (same V e) at)) (record { tid = sym tid; reads = refl; writes = own.writes })
    stays V false e = h.stored V

    none : is_going ((state v).works W) ≡ false
    none = by ((state v).works W) (subst (λ phase. PhaseFits phase x.tid ((state v).works W)) active (subst (λ o. WorkFits o ((state v).works W)) at (h.stored W)))
      where
        by : (p : Option Prepared) → PhaseFits (Active a) x.tid p → is_going p ≡ false
        by None f = refl
        by (Some p) f = absurd f

    goes : (V : WorkId) (b : Bool) → work_eq W V ≡ b → is_going ((state v).works V) ≡ is_going (if b then Some ready else (state v).works V)
    goes V true e = subst (λ U. is_going ((state v).works U) ≡ false) (same V e) none
    goes V false e = refl

    listed : (b : Bool) (o : Option Work) → WorkListFits (state v).files o → WorkListFits (state v).files (if b then in_phase (stored (Active a)) o else o)
    listed true None f = f
    listed true (Some y) f = tt
    listed false o f = f

    alive : (b : Bool) (o : Option Work) → is_some (if b then in_phase (stored (Active a)) o else o) ≡ true → is_some o ≡ true
    alive true None s = absurd (cc s)
    alive true (Some y) s = refl
    alive false o s = s

pub tickets_stored : (t : WorkerTable) (v w : StorageView) (W : WorkId) (a : ActiveWork) (head : WorkHead) (k : Tickets) → WorkPrepared {A = Unit {0}} v head a.list a.reads (Ok (tt {0})) w → TicketsFit t v k → TicketsFit (with_phase W (stored (Active a)) t) w k
tickets_stored t v w W a head k m h = record {
  server = h.server ∙ sym (m.called refl).later.server;
  epoch = h.epoch ∙ sym (ap (λ s. s.epoch) ((m.change refl).done refl (λ n. false)));
  live = after-phase (name_from k) W (stored (Active a)) t ∙ h.live;
  rubbish = λ V e. h.rubbish V (sym (ap (λ r. is_in work_eq V r) (ap (λ (b : Accounts). b.rubbish) (m.accounts refl))) ∙ e);
}
