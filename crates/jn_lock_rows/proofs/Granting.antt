-- What a grant leaves is what its row says.
use Rattle.jn_lock_rows.proofs.Common.{◌≡◌, Bool, true, false, List, [], ◌∷◌, ◌++◌, Some, None, refl, sym, ◌∙◌, ap, subst, arith, fun_ext, nat_tests, ◌&&◌, ◌||◌, not, if◌then◌else◌, Tid, WorkId, LockUnit, Op, work_eq, Mode, Read, IntentionWrite, Commit, Want, Conflict, BrokenAt, Table, Wants, is_unit, unit_eq, unit_before, or_active, wanted, table_wants, NoConflict, IsConflict, AreBroken, Asks, Commits, also, committed, is_broken, unit_before-transitive, unit_before-total, unit_same, unit_is, Work, ActiveWork, Phase, Active, Stored, Wanted, has_mode, holds, gives_way, work_at, with_phase, with_unit, with_units, units_for, wants_of, commit_wants, counted, new_work, conflict, LocksMatch, held_in, standing_in, standing_of, is_ordered, is_after, want_list, units_of_mode, units_rise, is_unit_before, FindsConflict, BreaksAs, broken_if, broken_list, granted}
use Rattle.jn_lock_rows.proofs.Asking.{wants_in, units_in, wanted-same}
use Rattle.jn_base.specs.declared.op.Op.TheVariants as ops
use Rattle.jn_base.specs.declared.op.Answer.{Answer}
use Rattle.jn_locks.specs.declared.words.Standing.TheVariants as standings
use Rattle.jn_lock_rows.proofs.Works.{none-front}
use Rattle.jn_lock_rows.proofs.Keeping.{match-more, match_kept, match-granted, found-ordered}
use Rattle.jn_lock_rows.proofs.Blocking.{no_conflict, finds_conflict}
use Rattle.jn_lock_rows.proofs.Breaking.{breaks_as, broken-is, list-is}

-- ---- units in their places

is_unit-with_unit : (u : LockUnit) (vs : List LockUnit) (x : LockUnit) → is_unit (with_unit u vs) x ≡ (unit_eq u x || is_unit vs x)
is_unit-with_unit u [] x = refl
is_unit-with_unit u (v ∷ vs) x = grind (arith, is_unit-with_unit u vs x, unit_is u v)

is_unit-with_units : (us vs : List LockUnit) (x : LockUnit) → is_unit (with_units us vs) x ≡ (is_unit us x || is_unit vs x)
is_unit-with_units [] vs x = refl
is_unit-with_units (u ∷ us) vs x = is_unit-with_units us (with_unit u vs) x ∙ grind (arith, is_unit-with_unit u vs x)

is_unit-units_for : (m : Mode) (wants : List Wanted) (x : LockUnit) → is_unit (units_for m wants) x ≡ wants_in wants x m
is_unit-units_for m [] x = refl
is_unit-units_for m (want ∷ wants) x = grind (arith, is_unit-units_for m wants x)

before-with_unit : (u v : LockUnit) (vs : List LockUnit) → unit_before u v ≡ true → is_unit_before u vs ≡ true → is_unit_before u (with_unit v vs) ≡ true
before-with_unit u v [] h k = grind arith
before-with_unit u v (w ∷ ws) h k = grind (arith, before-with_unit u v ws h)

before-onward : (u v : LockUnit) (vs : List LockUnit) → unit_before u v ≡ true → is_unit_before v vs ≡ true → is_unit_before u vs ≡ true
before-onward u v [] h k = refl
before-onward u v (w ∷ ws) h k = grind (arith, before-onward u v ws h, unit_before-transitive u v w h)

rise-with_unit : (u : LockUnit) (vs : List LockUnit) → units_rise vs ≡ true → units_rise (with_unit u vs) ≡ true
rise-with_unit u [] h = refl
rise-with_unit u (v ∷ vs) h = by (unit_before u v) refl (unit_eq u v) refl (rise-with_unit u vs (grind (arith, h)))
  where
    after : unit_before u v ≡ false → unit_eq u v ≡ false → unit_before v u ≡ true
    after e f = turn (unit_before v u) refl
      where
        turn : (b : Bool) → unit_before v u ≡ b → unit_before v u ≡ true
        turn true g = g
        turn false g = absurd (wrong (sym f ∙ subst (λ (x : LockUnit). unit_eq u x ≡ true) (unit_before-total u v e g) (unit_same u)))
          where
            wrong : false ≡ true → ⊥
            wrong q = cc q

    by : (b : Bool) → unit_before u v ≡ b → (c : Bool) → unit_eq u v ≡ c → units_rise (with_unit u vs) ≡ true
        → units_rise (if b then u ∷ v ∷ vs else (if c then v ∷ vs else v ∷ with_unit u vs)) ≡ true
    by true e c f rest = let l = before-onward u v vs e in grind (arith, e, h, l)
    by false e true f rest = h
    by false e false f rest = let l = before-with_unit v u vs (after e f) in grind (arith, h, l, rest)

pub rise-with_units : (us vs : List LockUnit) → units_rise vs ≡ true → units_rise (with_units us vs) ≡ true
rise-with_units [] vs h = h
rise-with_units (u ∷ us) vs h = rise-with_units us (with_unit u vs) (rise-with_unit u vs h)

-- ---- what operations want

pub wants-rise : (op : Op) (fit : Bool) → units_rise (units_in (wants_of op fit)) ≡ true
unfolding unit_before
wants-rise op false = refl
wants-rise (ops.Read f p) true = grind (arith, nat_tests)
wants-rise (ops.Write f p bytes) true = grind (arith, nat_tests)
wants-rise op true = refl

-- the units that are wanted in a mode
same-units : (op : Op) (fit : Bool) (m : Mode) → units_of_mode m (want_list (wants_of op fit)) ≡ units_for m (wants_of op fit)
same-units op false Read = refl
same-units op false IntentionWrite = refl
same-units op false Commit = refl
same-units (ops.Read f p) true Read = refl
same-units (ops.Read f p) true IntentionWrite = refl
same-units (ops.Read f p) true Commit = refl
same-units (ops.Write f p bytes) true Read = refl
same-units (ops.Write f p bytes) true IntentionWrite = refl
same-units (ops.Write f p bytes) true Commit = refl
same-units (ops.Create f) true Read = refl
same-units (ops.Create f) true IntentionWrite = refl
same-units (ops.Create f) true Commit = refl
same-units (ops.Remove f) true Read = refl
same-units (ops.Remove f) true IntentionWrite = refl
same-units (ops.Remove f) true Commit = refl
same-units (ops.Cut f p) true Read = refl
same-units (ops.Cut f p) true IntentionWrite = refl
same-units (ops.Cut f p) true Commit = refl

pub units_wanted : (op : Op) (fit : Bool) (m : Mode) (wants : List Want) (held : List LockUnit) → wants ≡ want_list (wants_of op fit) → with_units (units_of_mode m wants) held ≡ with_units (units_for m (wants_of op fit)) held
units_wanted op fit m wants held e = ap (λ us. with_units us held) (ap (units_of_mode m) e ∙ same-units op fit m)

-- none wants to hold for commit
pub no-commit : (op : Op) (fit : Bool) (u : LockUnit) → wants_in (wants_of op fit) u Commit ≡ false
no-commit op false u = grind arith
no-commit (ops.Read f p) true u = grind arith
no-commit (ops.Write f p bytes) true u = grind arith
no-commit op true u = grind arith

joined : {a b c d e : Bool} → a ≡ b → d ≡ c → e ≡ (d || b) → (a || c) ≡ e
joined p q r = by _ _ _ _ _ p q r
  where
    by : (a b c d e : Bool) → a ≡ b → d ≡ c → e ≡ (d || b) → (a || c) ≡ e
    by a b c d e p q r = grind arith

neither : {a b : Bool} → a ≡ false → b ≡ false → (a || b) ≡ false
neither p q = by _ _ p q
  where
    by : (a b : Bool) → a ≡ false → b ≡ false → (a || b) ≡ false
    by a b p q = grind arith

-- ---- an active work

module _ (works : List Work) (w : Work) (a : ActiveWork) (t : Table) (h : LocksMatch works t) (found : work_at w.name works ≡ Some w) (active : w.phase ≡ Active a) where
  held-by : (u : LockUnit) (m : Mode) → t.holds w.name u m ≡ holds (Active a) u m
  held-by u m = h.locks w.name u m ∙ ap (λ o. held_in o u m) found ∙ ap (λ p. holds p u m) active

  stands-as : t.standing w.name ≡ standing_in (Active a)
  stands-as = h.standing w.name ∙ ap standing_of found ∙ ap standing_in active

  writes-rise : units_rise a.writes ≡ true
  writes-rise = subst (λ (p : Phase). is_ordered p ≡ true) active (found-ordered w.name works w h.ordered found)

  -- an operation is counted, and its locks stay
  pub match_counted : (answer : Answer) → LocksMatch (with_phase w.name (Active (counted a answer)) works) t
  match_counted answer = match_kept w.name works w (Active (counted a answer)) t h found writes-rise (λ u m. same u m ∙ sym (ap (λ p. holds p u m) active)) (sym (ap standing_in active))
    where
      same : (u : LockUnit) (m : Mode) → holds (Active (counted a answer)) u m ≡ holds (Active a) u m
      same u Read = refl
      same u IntentionWrite = refl
      same u Commit = refl

  module _ (op : Op) (fit : Bool) (next : ActiveWork) (reads : next.reads ≡ with_units (units_for Read (wants_of op fit)) a.reads)
      (writes : next.writes ≡ with_units (units_for IntentionWrite (wants_of op fit)) a.writes) (vulnerable : next.vulnerable ≡ a.vulnerable)
      (bs : List BrokenAt) (now : Table) (g : Asks t w.name (wanted (want_list (wants_of op fit))) bs now) where
    asks : Asks t w.name (wants_in (wants_of op fit)) bs now
    asks = subst (λ (q : Wants). Asks t w.name q bs now) (wanted-same (wants_of op fit)) g

    mine : (u : LockUnit) (m : Mode) → also (λ u m. t.holds w.name u m) (wants_in (wants_of op fit)) u m ≡ holds (Active next) u m
    mine u Read = joined (held-by u Read) (is_unit-units_for Read (wants_of op fit) u) (is_unit-with_units (units_for Read (wants_of op fit)) a.reads u) ∙ sym (ap (λ us. is_unit us u) reads)
    mine u IntentionWrite = joined (held-by u IntentionWrite) (is_unit-units_for IntentionWrite (wants_of op fit) u) (is_unit-with_units (units_for IntentionWrite (wants_of op fit)) a.writes u)
        ∙ sym (ap (λ us. is_unit us u) writes)
    mine u Commit = neither (held-by u Commit) (no-commit op fit u)

    pub match_next : LocksMatch (granted w (wants_of op fit) (Active next) works) now
    match_next = match-granted w.tid w.name (wants_of op fit) works w (Active next) t now h found bs
        (broken-is works t h w.tid w.name (wants_of op fit) (wants-rise op fit) bs asks.broken)
        (also (λ u m. t.holds w.name u m) (wants_in (wants_of op fit))) (or_active (t.standing w.name)) asks.grants mine
        (ap (λ o. Some (or_active o)) stands-as ∙ ap (λ v. Some (if v then standings.Vulnerable else standings.Active)) (sym vulnerable))
        (subst (λ (us : List LockUnit). units_rise us ≡ true) (sym writes) (rise-with_units (units_for IntentionWrite (wants_of op fit)) a.writes writes-rise))

    pub breaks_next : BreaksAs works w.tid w.name (wants_of op fit) bs
    breaks_next = breaks_as works t h w.tid w.name (wants_of op fit) (wants-rise op fit) bs asks.broken (no_conflict works t h w.name (wants_of op fit) (wants-rise op fit) asks.free)

  -- ---- to commit

  units-in : (us : List LockUnit) → units_in (commit_wants us) ≡ us
  units-in [] = refl
  units-in (u ∷ us) = ap (λ (vs : List LockUnit). u ∷ vs) (units-in us)

  wants-in : (us : List LockUnit) (u : LockUnit) (m : Mode) → wants_in (commit_wants us) u m ≡ (is_unit us u && has_mode m (Commit ∷ []))
  wants-in [] u m = refl
  wants-in (v ∷ us) u m = grind (arith, wants-in us u m)

  rising : units_rise (units_in (commit_wants a.writes)) ≡ true
  rising = subst (λ (us : List LockUnit). units_rise us ≡ true) (sym (units-in a.writes)) writes-rise

  commit-same : table_wants t w.name ≡ wants_in (commit_wants a.writes)
  commit-same = fun_ext (λ u. fun_ext (λ m. at u m ∙ sym (wants-in a.writes u m)))
    where
      never : (b : Bool) → false ≡ (b && false)
      never b = grind arith

      always : (b : Bool) → b ≡ (b && true)
      always b = grind arith

      at : (u : LockUnit) (m : Mode) → table_wants t w.name u m ≡ (is_unit a.writes u && has_mode m (Commit ∷ []))
      at u Read = never (is_unit a.writes u)
      at u IntentionWrite = never (is_unit a.writes u)
      at u Commit = held-by u IntentionWrite ∙ always (is_unit a.writes u)

  -- nothing is in the way
  pub commit_free : NoConflict t w.name (table_wants t w.name) → conflict w.name (commit_wants a.writes) works ≡ None
  commit_free n = no_conflict works t h w.name (commit_wants a.writes) rising (subst (λ (q : Wants). NoConflict t w.name q) commit-same n)

  pub commit_conflict : (c : Conflict) → IsConflict t w.name (table_wants t w.name) c → FindsConflict works w.name (commit_wants a.writes) c
  commit_conflict c is = finds_conflict works t h w.name (commit_wants a.writes) rising c (subst (λ (q : Wants). IsConflict t w.name q c) commit-same is)

  module _ (bs : List BrokenAt) (now : Table) (g : Commits t w.name (table_wants t w.name) bs now) where
    broken-now : AreBroken t w.name (wants_in (commit_wants a.writes)) bs
    broken-now = subst (λ (q : Wants). AreBroken t w.name q bs) commit-same g.broken

    pub breaks_stored : BreaksAs works w.tid w.name (commit_wants a.writes) bs
    breaks_stored = breaks_as works t h w.tid w.name (commit_wants a.writes) rising bs broken-now (commit_free g.free)

    pub match_stored : LocksMatch (granted w (commit_wants a.writes) (Stored (record { reads = a.reads; writes = a.writes })) works) now
    match_stored = match-granted w.tid w.name (commit_wants a.writes) works w (Stored (record { reads = a.reads; writes = a.writes })) t now h found bs
        (broken-is works t h w.tid w.name (commit_wants a.writes) rising bs broken-now)
        (committed (λ u m. t.holds w.name u m)) standings.Prepared g.grants same refl refl
      where
        same : (u : LockUnit) (m : Mode) → committed (λ u m. t.holds w.name u m) u m ≡ holds (Stored (record { reads = a.reads; writes = a.writes })) u m
        same u Read = held-by u Read
        same u IntentionWrite = refl
        same u Commit = let c = held-by u Commit in let i = held-by u IntentionWrite in grind (arith, c, i)

-- ---- an operation's conflict

pub operation_conflict : (works : List Work) (t : Table) (W : WorkId) (op : Op) (fit : Bool) (c : Conflict) → LocksMatch works t → IsConflict t W (wanted (want_list (wants_of op fit))) c → FindsConflict works W (wants_of op fit) c
operation_conflict works t W op fit c h is = finds_conflict works t h W (wants_of op fit) (wants-rise op fit) c (subst (λ (q : Wants). IsConflict t W q c) (wanted-same (wants_of op fit)) is)

-- ---- a work that is opened

nothing-broken : (W : WorkId) (ws : List Work) → broken_list W [] ws ≡ []
nothing-broken W [] = refl
nothing-broken W (v ∷ vs) = by (not (work_eq v.name W) && gives_way v.phase) (nothing-broken W vs)
  where
    by : (b : Bool) → broken_list W [] vs ≡ [] → broken_if v.name (if b then None else None) ++ broken_list W [] vs ≡ []
    by true e = e
    by false e = e

module _ (works : List Work) (t now : Table) (W : WorkId) (T : Tid) (bs : List BrokenAt) (h : LocksMatch works t) (last : is_after W works ≡ true) (g : Asks t W (wanted []) bs now) where
  pub opens_nothing : bs ≡ []
  opens_nothing = list-is works t h T W [] refl bs (subst (λ (q : Wants). AreBroken t W q bs) (wanted-same []) g.broken) ∙ nothing-broken W works

  pub match_opened : LocksMatch (works ++ new_work W T ∷ []) now
  match_opened = match-more (new_work W T) works t now h last refl (λ V u m. g.grants.locks V u m ∙ locks V u m (work_eq W V)) (λ V. g.grants.standing V ∙ stands V (work_eq W V))
    where
      unbroken : (V : WorkId) → is_broken bs V ≡ false
      unbroken V = ap (λ (cs : List BrokenAt). is_broken cs V) opens_nothing

      free : (u : LockUnit) (m : Mode) → (t.holds W u m || false) ≡ holds (new_work W T).phase u m
      free u m = ap (λ b. b || false) (h.locks W u m ∙ ap (λ o. held_in o u m) (none-front W works last)) ∙ sym (none m)
        where
          none : (m : Mode) → holds (new_work W T).phase u m ≡ false
          none Read = refl
          none IntentionWrite = refl
          none Commit = refl

      locks : (V : WorkId) (u : LockUnit) (m : Mode) (b : Bool) → (if b then also (λ u m. t.holds W u m) (wanted []) u m else (if is_broken bs V then false else t.holds V u m)) ≡ (if b then holds (new_work W T).phase u m else t.holds V u m)
      locks V u m true = free u m
      locks V u m false = ap (λ c. if c then false else t.holds V u m) (unbroken V)

      stands : (V : WorkId) (b : Bool) → (if b then Some (or_active (t.standing W)) else (if is_broken bs V then None else t.standing V)) ≡ (if b then standing_in (new_work W T).phase else t.standing V)
      stands V true = ap (λ o. Some (or_active o)) (h.standing W ∙ ap standing_of (none-front W works last))
      stands V false = ap (λ c. if c then None else t.standing V) (unbroken V)
