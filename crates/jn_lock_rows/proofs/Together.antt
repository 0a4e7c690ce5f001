-- A call of the lock table and what is then done to the works are one row.
use Rattle.jn_lock_rows.proofs.Common.{◌≡◌, Bool, List, Option, Some, None, sym, ◌∙◌, ap, subst, ◌&&◌, not, if◌then◌else◌, Tid, WorkId, LockUnit, Op, BrokenAt, Conflict, Want, table_wants, Table, wanted, Asks, Commits, NoConflict, IsConflict, IsConflictFault, IsRefusal, ActiveWork, Phase, Active, Work, Wanted, work_at, with_phase, wants_of, commit_wants, after_grant, conflict, broken_by, gives_way, collision, LocksMatch, want_list, FindsConflict, BreaksAs, Grants, IsRefused, Becomes, IsActive, stored, rephased, refused_by, held_as, after_breaks, notes_of}
use Rattle.jn_locks.specs.declared.words.LockFault.{LockFault}
use Rattle.jn_locks.specs.declared.words.LockFault.TheVariants.{Conflict as Conflicts, Memory as NoMemory}
use Rattle.jn_lock_rows.specs.declared.grants.Refused.{Refused}
use Rattle.jn_lock_rows.specs.declared.grants.Refused.TheVariants.{Held, Memory}
use Rattle.jn_lock_rows.proofs.Works.{found-name, work_same, once_granted, at-grant}
use Rattle.jn_lock_rows.proofs.Edits.{rephased-is}
use Rattle.jn_lock_rows.proofs.Granting.{operation_conflict, match_next, breaks_next, commit_free, commit_conflict, match_stored, breaks_stored}

-- the works broken one by one, and then the work in its phase
pub grants-from : (works after : List Work) (T : Tid) (W : WorkId) (wants : List Wanted) (phase : Phase) (bs : List BrokenAt) → BreaksAs works T W wants bs → after ≡ with_phase W phase (after_breaks T bs works) → Grants works T W wants phase bs after
grants-from works after T W wants phase bs b e = record {
  free = b.free;
  works = is;
  notes = ap (λ ws. notes_of T bs ws) is ∙ b.notes_after phase;
}
  where
    is : after ≡ with_phase W phase (after_grant T W wants works)
    is = e ∙ ap (with_phase W phase) b.after

pub refused-from : (works : List Work) (W : WorkId) (wants : List Wanted) (c : Conflict) → FindsConflict works W wants c → IsRefused works W wants (refused_by works (Conflicts c))
refused-from works W wants c f = subst (λ (o : Option Work). IsRefused works W wants (held_as c.unit o)) (sym f.found) f.is

module _ (works : List Work) (t : Table) (T : Tid) (W : WorkId) (op : Op) (fit : Bool) (h : LocksMatch works t) where
  pub operation_refused : (q : List Want) (fault : LockFault) (told : Refused) → q ≡ want_list (wants_of op fit) → IsRefusal t W (wanted q) fault → told ≡ refused_by works fault → IsRefused works W (wants_of op fit) told
  operation_refused q fault told e r is = subst (IsRefused works W (wants_of op fit)) (sym is) (by fault (subst (λ (l : List Want). IsRefusal t W (wanted l) fault) e r))
    where
      by : (fault : LockFault) → IsRefusal t W (wanted (want_list (wants_of op fit))) fault → IsRefused works W (wants_of op fit) (refused_by works fault)
      by (Conflicts c) r = refused-from works W (wants_of op fit) c (operation_conflict works t W op fit c h r)
      by NoMemory r = tt

  module _ (next : ActiveWork) (b : Becomes works T W op fit next) (q : List Want) (bs : List BrokenAt) (now : Table) (after : List Work) where
    abbrev Does : WorkId → Tid → Type 0
    Does n s = work_at n works ≡ Some b.work → Asks t n (wanted (want_list (wants_of op fit))) bs now → after ≡ with_phase n (Active next) (after_breaks s bs works)
        → Grants works s n (wants_of op fit) (Active next) bs after × LocksMatch after now

    does : Does b.work.name b.work.tid
    does found asks e =
        let k = breaks_next works b.work b.active t h found b.phase op fit next b.reads b.writes b.vulnerable bs now asks in
        let g = grants-from works after b.work.tid b.work.name (wants_of op fit) (Active next) bs k e in
        (g, subst (λ (ws : List Work). LocksMatch ws now) (sym g.works) (match_next works b.work b.active t h found b.phase op fit next b.reads b.writes b.vulnerable bs now asks))

    pub operation_grants : q ≡ want_list (wants_of op fit) → Asks t W (wanted q) bs now → after ≡ with_phase W (Active next) (after_breaks T bs works) → Grants works T W (wants_of op fit) (Active next) bs after × LocksMatch after now
    operation_grants e asks is = subst (λ (n : WorkId). Does n T) (found-name W works b.work b.found) (subst (λ (s : Tid). Does b.work.name s) b.tid does)
        b.found (subst (λ (l : List Want). Asks t W (wanted l) bs now) e asks) is

-- ---- a work that is stored

kept-itself : (works : List Work) (w : Work) (wants : List Wanted) → work_at w.name works ≡ Some w → work_at w.name (after_grant w.tid w.name wants works) ≡ Some w
kept-itself works w wants found = at-grant w.tid w.name wants w.name works ∙ ap (once_granted w.tid w.name wants) found
    ∙ ap (λ b. Some (broken_by w.tid (if (not b && gives_way w.phase) then collision w.phase wants else None) w)) (work_same w.name)

module _ (works : List Work) (t : Table) (T : Tid) (W : WorkId) (a : ActiveWork) (h : LocksMatch works t) (b : IsActive works T W a) where
  named : b.work.name ≡ W
  named = found-name W works b.work b.found

  here : work_at b.work.name works ≡ Some b.work
  here = subst (λ (n : WorkId). work_at n works ≡ Some b.work) (sym named) b.found

  pub storing_free : NoConflict t W (table_wants t W) → conflict W (commit_wants a.writes) works ≡ None
  storing_free = subst (λ (n : WorkId). NoConflict t n (table_wants t n) → conflict n (commit_wants a.writes) works ≡ None) named (commit_free works b.work a t h here b.phase)

  pub storing_conflict : (c : Conflict) → IsConflict t W (table_wants t W) c → FindsConflict works W (commit_wants a.writes) c
  storing_conflict c = subst (λ (n : WorkId). IsConflict t n (table_wants t n) c → FindsConflict works n (commit_wants a.writes) c) named (commit_conflict works b.work a t h here b.phase c)

  pub storing_refused : (fault : LockFault) (told : Refused) → IsRefusal t W (table_wants t W) fault → told ≡ refused_by works fault → IsRefused works W (commit_wants a.writes) told
  storing_refused fault told r is = subst (IsRefused works W (commit_wants a.writes)) (sym is) (by fault r)
    where
      by : (fault : LockFault) → IsRefusal t W (table_wants t W) fault → IsRefused works W (commit_wants a.writes) (refused_by works fault)
      by (Conflicts c) r = refused-from works W (commit_wants a.writes) c (storing_conflict c r)
      by NoMemory r = tt

  -- what a test is told
  pub storing_told : (fault : LockFault) (told : Refused) (u : LockUnit) (by : Tid) → IsConflictFault t W (table_wants t W) fault → told ≡ refused_by works fault → told ≡ Held u by → Some (u, by) ≡ conflict W (commit_wants a.writes) works
  storing_told (Conflicts c) told u by r is e = sym (subst (IsRefused works W (commit_wants a.writes)) (sym is ∙ e) (refused-from works W (commit_wants a.writes) c (storing_conflict c r)))
  storing_told NoMemory told u by r is e = absurd r

  pub storing_told_all : (fault : LockFault) (told : Refused) → IsConflictFault t W (table_wants t W) fault → told ≡ refused_by works fault → told ≡ Memory → None ≡ conflict W (commit_wants a.writes) works
  storing_told_all (Conflicts c) told r is e = let f = storing_conflict c r in absurd (wrong (sym (ap (held_as c.unit) f.found) ∙ sym is ∙ e))
    where
      wrong : {u : LockUnit} {by : Tid} → Held u by ≡ Memory → ⊥
      wrong q = cc q
  storing_told_all NoMemory told r is e = absurd r

  module _ (bs : List BrokenAt) (now : Table) (after : List Work) where
    abbrev Stores : WorkId → Tid → Type 0
    Stores n s = Commits t n (table_wants t n) bs now → after ≡ rephased n stored (after_breaks s bs works) → Grants works s n (commit_wants a.writes) (stored (Active a)) bs after × LocksMatch after now

    stores : Stores b.work.name b.work.tid
    stores asks e =
        let k = breaks_stored works b.work a t h here b.phase bs now asks in
        let there : work_at b.work.name (after_breaks b.work.tid bs works) ≡ Some b.work = ap (work_at b.work.name) k.after ∙ kept-itself works b.work (commit_wants a.writes) here in
        let is : after ≡ with_phase b.work.name (stored (Active a)) (after_breaks b.work.tid bs works) =
        e ∙ rephased-is b.work.name stored (after_breaks b.work.tid bs works) b.work there ∙ ap (λ p. with_phase b.work.name (stored p) (after_breaks b.work.tid bs works)) b.phase in
        let g = grants-from works after b.work.tid b.work.name (commit_wants a.writes) (stored (Active a)) bs k is in
        (g, subst (λ (ws : List Work). LocksMatch ws now) (sym g.works) (match_stored works b.work a t h here b.phase bs now asks))

    pub storing_grants : Stores W T
    storing_grants = subst (λ (n : WorkId). Stores n T) named (subst (λ (s : Tid). Stores b.work.name s) b.tid stores)
