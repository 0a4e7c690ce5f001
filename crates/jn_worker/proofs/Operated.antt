-- An operation is granted, or refused.
use Rattle.jn_worker.proofs.Common.{◌≡◌, ◌+◌, Bool, true, false, List, [], ◌∷◌, ◌++◌, Option, Some, None, if◌then◌else◌, refl, sym, ◌∙◌, ap, subst, Ok, Result, append-nil, Tid, WorkId, LockUnit, Answer, Locked, Op, work_eq, Collected, Broke, Intention, intention_for, list_after, BrokenAt, Read, IntentionWrite, Work, Phase, ActiveWork, Active, work_at, with_phase, after_grant, break_notes, conflict, locked, counted, done, wants_of, with_units, units_for, is_fit, IsActive, Becomes, Grants, IsRefused, note_if, notes_of, rephased, at-phase, in_phase, work_same, CallFault, WorkerView, relisted, tallied, Granted, locked_by, rephased-is, OperationNo}
use Rattle.jn_lock_rows.specs.declared.grants.Refused.{Refused}
use Rattle.jn_lock_rows.specs.declared.grants.Refused.TheVariants.{Held as HeldBy, Memory as NotGranted}
use Rattle.jn_works.specs.Changing.{list_of}
use Rattle.jn_worker.proofs.Performed.{conflict_own, grant_own, notes_own, phase_twice}
use Rattle.jn_worker.proofs.Granted.{granted_itself}

at-rephased : (W : WorkId) (f : Phase → Phase) (ws : List Work) (x : Work) → work_at W ws ≡ Some x → work_at W (rephased W f ws) ≡ Some (record x { phase = f x.phase })
at-rephased W f ws x at = ap (λ l. work_at W l) (rephased-is W f ws x at) ∙ (at-phase W W (f x.phase) ws ∙ (ap (λ b. if b then in_phase (f x.phase) (work_at W ws) else work_at W ws) (work_same W) ∙ ap (λ o. in_phase (f x.phase) o) at))

pub at-with : (W : WorkId) (p : Phase) (ws : List Work) (x : Work) → work_at W ws ≡ Some x → work_at W (with_phase W p ws) ≡ Some (record x { phase = p })
at-with W p ws x at = at-phase W W p ws ∙ (ap (λ b. if b then in_phase p (work_at W ws) else work_at W ws) (work_same W) ∙ ap (λ o. in_phase p o) at)

pub grant_becomes : (t : WorkerView) (ws found given taken : List Work) (gs : List WorkId) (W : WorkId) (x : Work) (a : ActiveWork) (op : Op) (answer : Answer) (fit : Bool) (empty : List Intention) (reads writes : List LockUnit) (next : ActiveWork) → record { table = ws; going = gs } ≡ t → found ≡ ws → work_at W found ≡ Some x → x.phase ≡ Active a
    → given ≡ rephased W (relisted empty) ws → taken ≡ given → fit ≡ is_fit answer
    → ((T : Tid) (a : ActiveWork) → IsActive t.table T W a → reads ≡ with_units (units_for Read (wants_of op (is_fit answer))) a.reads) → ((T : Tid) (a : ActiveWork) → IsActive t.table T W a → writes ≡ with_units (units_for IntentionWrite (wants_of op (is_fit answer))) a.writes)
    → next.reads ≡ reads → next.writes ≡ writes → next.vulnerable ≡ a.vulnerable → Becomes taken x.tid W op fit next
grant_becomes t ws found given taken gs W x a op answer fit empty reads writes next view same look active swapped taken_is fits is_reads is_writes next_reads next_writes next_vulnerable = record {
  work = record x { phase = relisted empty x.phase };
  found = ap (λ l. work_at W l) (taken_is ∙ swapped) ∙ at-rephased W (relisted empty) ws x at;
  tid = refl;
  active = record a { list = empty };
  phase = ap (λ p. relisted empty p) active;
  reads = next_reads ∙ (is_reads x.tid a i ∙ ap (λ b. with_units (units_for Read (wants_of op b)) a.reads) (sym fits));
  writes = next_writes ∙ (is_writes x.tid a i ∙ ap (λ b. with_units (units_for IntentionWrite (wants_of op b)) a.writes) (sym fits));
  vulnerable = next_vulnerable;
}
  where
    at : work_at W ws ≡ Some x
    at = subst (λ l. work_at W l ≡ Some x) same look

    i : IsActive t.table x.tid W a
    i = record { work = x; found = subst (λ (t : WorkerView). work_at W t.table ≡ Some x) view at; tid = refl; phase = active }

is_work : (x y : Work) → Some x ≡ Some y → x ≡ y
is_work x y e = cc e

is_phase : (x y : ActiveWork) → Active x ≡ Active y → x ≡ y
is_phase x y e = cc e

abbrev told_ok : Answer → Result Answer CallFault
told_ok answer = Ok answer

-- another work stands in the way
pub grant_refused : (t : WorkerView) (ws found given taken kept back after : List Work) (gs : List WorkId) (W : WorkId) (x : Work) (T : Tid) (a : ActiveWork) (op : Op) (answer refusal : Answer) (fit : Bool) (number : OperationNo) (empty list : List Intention) (refused : Refused) (before : Collected) → record { table = ws; going = gs } ≡ t → found ≡ ws → work_at W found ≡ Some x
    → IsActive t.table T W a → number.0 ≡ a.last + 1 → given ≡ rephased W (relisted empty) ws → list ≡ list_of empty (work_at W ws) → taken ≡ given → fit ≡ is_fit answer → IsRefused taken W (wants_of op fit) refused → kept ≡ taken → back ≡ rephased W (relisted list) kept → locked_by refused ≡ Ok refusal → after ≡ rephased W (tallied number.0 refusal) back
    → Granted t T W a op answer (Some refusal) before (record { table = after; going = gs }) before
grant_refused t ws found given taken kept back after gs W x T a op answer refusal fit number empty list refused before view same look i count swapped is_list taken_is fits how kept_is back_is told after_is =
    subst (λ (t : WorkerView). IsActive t.table T W a → Granted t T W a op answer (Some refusal) before (record { table = after; going = gs }) before) view core i
  where
    at : work_at W ws ≡ Some x
    at = subst (λ l. work_at W l ≡ Some x) same look

    core : IsActive ws T W a → Granted (record { table = ws; going = gs }) T W a op answer (Some refusal) before (record { table = after; going = gs }) before
    core i = record {
      refused = by refused told how;
      works = ap (λ (l : List Work). record { table = l; going = gs }) now;
      sent = refl;
      noted = sym (append-nil before.notes);
    }
      where
        same_work : x ≡ i.work
        same_work = is_work x i.work (sym at ∙ i.found)

        active : x.phase ≡ Active a
        active = ap (λ (y : Work). y.phase) same_work ∙ i.phase

        emptied : taken ≡ with_phase W (Active (record a { list = empty })) ws
        emptied = taken_is ∙ (swapped ∙ (rephased-is W (relisted empty) ws x at ∙ ap (λ p. with_phase W (relisted empty p) ws) active))

        old : list ≡ a.list
        old = is_list ∙ (ap (λ o. list_of empty o) at ∙ ap (λ p. list_of empty (Some (record x { phase = p }))) active)

        x1 : Work
        x1 = record x { phase = Active (record a { list = empty }) }

        at1 : work_at W kept ≡ Some x1
        at1 = ap (λ l. work_at W l) (kept_is ∙ emptied) ∙ at-with W (Active (record a { list = empty })) ws x at

        back_with : back ≡ with_phase W (Active (record a { list = list })) ws
        back_with = back_is ∙ (rephased-is W (relisted list) kept x1 at1 ∙ (ap (λ l. with_phase W (Active (record a { list = list })) l) (kept_is ∙ emptied) ∙ phase_twice W (Active (record a { list = list })) (Active (record a { list = empty })) ws))

        x2 : Work
        x2 = record x { phase = Active (record a { list = list }) }

        at2 : work_at W back ≡ Some x2
        at2 = ap (λ l. work_at W l) back_with ∙ at-with W (Active (record a { list = list })) ws x at

        now : after ≡ with_phase W (Active (counted a refusal)) ws
        now = after_is ∙ (rephased-is W (tallied number.0 refusal) back x2 at2 ∙ (ap (λ l. with_phase W (Active (record a { list = list; last = number.0; kept = Some refusal })) l) back_with ∙ (phase_twice W (Active (record a { list = list; last = number.0; kept = Some refusal })) (Active (record a { list = list })) ws
            ∙ (ap (λ l. with_phase W (Active (record a { list = l; last = number.0; kept = Some refusal })) ws) old ∙ ap (λ n. with_phase W (Active (record a { last = n; kept = Some refusal })) ws) count))))

        is_answer : (y z : Answer) → told_ok y ≡ told_ok z → y ≡ z
        is_answer y z e = cc e

        free : conflict W (wants_of op fit) taken ≡ conflict W (wants_of op (is_fit answer)) ws
        free = ap (λ l. conflict W (wants_of op fit) l) emptied ∙ (conflict_own T W (wants_of op fit) (Active (record a { list = empty })) (wants_of op fit) ws ∙ ap (λ b. conflict W (wants_of op b) ws) fits)

        by : (refused : Refused) → locked_by refused ≡ Ok refusal → IsRefused taken W (wants_of op fit) refused → Some refusal ≡ locked (conflict W (wants_of op (is_fit answer)) ws)
        by (HeldBy u S) e h = ap (λ y. Some y) (sym (is_answer (Locked u S) refusal e)) ∙ sym (ap locked (sym free ∙ h))
        by NotGranted e h = absurd (cc e)

note-rephased : (T : Tid) (V W : WorkId) (u : LockUnit) (f : Phase → Phase) (ws : List Work) → note_if T u (work_at V (rephased W f ws)) ≡ note_if T u (work_at V ws)
note-rephased T V W u f [] = refl
note-rephased T V W u f (w ∷ ws) = by (work_eq w.name W) (note-rephased T V W u f ws)
  where
    pick : (c : Bool) (o p : Option Work) (x y : Work) → x.tid ≡ y.tid → note_if T u o ≡ note_if T u p → note_if T u (if c then Some x else o) ≡ note_if T u (if c then Some y else p)
    pick true o p x y e g = ap (λ t. Broke t u T ∷ []) e
    pick false o p x y e g = g

    by : (b : Bool) → note_if T u (work_at V (rephased W f ws)) ≡ note_if T u (work_at V ws) → note_if T u (work_at V (if b then record w { phase = f w.phase } ∷ ws else w ∷ rephased W f ws)) ≡ note_if T u (if work_eq w.name V then Some w else work_at V ws)
    by true again = pick (work_eq w.name V) (work_at V ws) (work_at V ws) (record w { phase = f w.phase }) w refl refl
    by false again = pick (work_eq w.name V) (work_at V (rephased W f ws)) (work_at V ws) w w refl again

notes-rephased : (T : Tid) (W : WorkId) (f : Phase → Phase) (bs : List BrokenAt) (ws : List Work) → notes_of T bs (rephased W f ws) ≡ notes_of T bs ws
notes-rephased T W f [] ws = refl
notes-rephased T W f (b ∷ bs) ws = ap (λ l. l ++ notes_of T bs (rephased W f ws)) (note-rephased T b.work W b.unit f ws) ∙ ap (λ l. note_if T b.unit (work_at b.work ws) ++ l) (notes-rephased T W f bs ws)

-- its wants are granted
pub grant_done : (t : WorkerView) (ws found given taken kept after shown full : List Work) (gs : List WorkId) (W : WorkId) (x : Work) (T : Tid) (a b next : ActiveWork) (op : Op) (answer : Answer) (fit : Bool) (number : OperationNo) (empty list longer : List Intention) (bs told : List BrokenAt) (before last : Collected) → record { table = ws; going = gs } ≡ t → found ≡ ws → work_at W found ≡ Some x → x.phase ≡ Active b
    → IsActive t.table T W a → number.0 ≡ a.last + 1 → given ≡ rephased W (relisted empty) ws → list ≡ list_of empty (work_at W ws) → taken ≡ given → fit ≡ is_fit answer → Grants taken x.tid W (wants_of op fit) (Active next) bs kept → full ≡ kept
    → next.reads ≡ with_units (units_for Read (wants_of op (is_fit answer))) a.reads → next.writes ≡ with_units (units_for IntentionWrite (wants_of op (is_fit answer))) a.writes → next.vulnerable ≡ b.vulnerable → next.last ≡ number.0 → next.kept ≡ Some answer
    → longer ≡ (if fit then list_after (intention_for list op) op list else list) → after ≡ rephased W (relisted longer) full → shown ≡ after → told ≡ bs → last.messages ≡ before.messages → last.notes ≡ before.notes ++ notes_of x.tid told shown
    → Granted t T W a op answer None before (record { table = after; going = gs }) last
grant_done t ws found given taken kept after shown full gs W x T a b next op answer fit number empty list longer bs told before last view same look phase i count swapped is_list taken_is fits grants full_is reads writes vulnerable number_is kept_answer longer_is after_is shown_is told_is sent notes =
    subst (λ (t : WorkerView). IsActive t.table T W a → Granted t T W a op answer None before (record { table = after; going = gs }) last) view core i
  where
    at : work_at W ws ≡ Some x
    at = subst (λ l. work_at W l ≡ Some x) same look

    core : IsActive ws T W a → Granted (record { table = ws; going = gs }) T W a op answer None before (record { table = after; going = gs }) last
    core i = record {
      refused = sym (ap locked (sym free ∙ grants.free));
      works = ap (λ (l : List Work). record { table = l; going = gs }) now;
      sent = sent;
      noted = notes ∙ ap (λ l. before.notes ++ l) (ap (λ b. notes_of x.tid b shown) told_is ∙ (ap (λ l. notes_of x.tid bs l) shown_is ∙ (notes_same ∙ (grants.notes ∙ broken))));
    }
      where
        same_work : x ≡ i.work
        same_work = is_work x i.work (sym at ∙ i.found)

        active : x.phase ≡ Active a
        active = ap (λ (y : Work). y.phase) same_work ∙ i.phase

        tid : x.tid ≡ T
        tid = ap (λ (y : Work). y.tid) same_work ∙ i.tid

        notes_same : notes_of x.tid bs after ≡ notes_of x.tid bs kept
        notes_same = ap (λ l. notes_of x.tid bs l) (after_is ∙ ap (λ l. rephased W (relisted longer) l) full_is) ∙ notes-rephased x.tid W (relisted longer) bs kept

        emptied : taken ≡ with_phase W (Active (record a { list = empty })) ws
        emptied = taken_is ∙ (swapped ∙ (rephased-is W (relisted empty) ws x at ∙ ap (λ p. with_phase W (relisted empty p) ws) active))

        old : list ≡ a.list
        old = is_list ∙ (ap (λ o. list_of empty o) at ∙ ap (λ p. list_of empty (Some (record x { phase = p }))) active)

        free : conflict W (wants_of op fit) taken ≡ conflict W (wants_of op (is_fit answer)) ws
        free = ap (λ l. conflict W (wants_of op fit) l) emptied ∙ (conflict_own T W (wants_of op fit) (Active (record a { list = empty })) (wants_of op fit) ws ∙ ap (λ b. conflict W (wants_of op b) ws) fits)

        broken : break_notes x.tid W (wants_of op fit) taken ≡ break_notes T W (wants_of op (is_fit answer)) ws
        broken = ap (λ l. break_notes x.tid W (wants_of op fit) l) emptied ∙ (notes_own x.tid W (wants_of op fit) (Active (record a { list = empty })) ws ∙ (ap (λ s. break_notes s W (wants_of op fit) ws) tid ∙ ap (λ b. break_notes T W (wants_of op b) ws) fits))

        granted_at : (p : Phase) → with_phase W p kept ≡ with_phase W p (after_grant T W (wants_of op (is_fit answer)) ws)
        granted_at p = ap (λ l. with_phase W p l) grants.works ∙ (phase_twice W p (Active next) (after_grant x.tid W (wants_of op fit) taken) ∙ (ap (λ l. with_phase W p (after_grant x.tid W (wants_of op fit) l)) emptied
            ∙ (ap (λ l. with_phase W p l) (grant_own x.tid W (wants_of op fit) (Active (record a { list = empty })) ws) ∙ (phase_twice W p (Active (record a { list = empty })) (after_grant x.tid W (wants_of op fit) ws)
            ∙ (ap (λ s. with_phase W p (after_grant s W (wants_of op fit) ws)) tid ∙ ap (λ b. with_phase W p (after_grant T W (wants_of op b) ws)) fits)))))

        found_next : (y : Work) × (work_at W kept ≡ Some y) × (y.phase ≡ Active next)
        found_next = there (work_at W (after_grant x.tid W (wants_of op fit) taken)) refl
          where
            there : (o : Option Work) → work_at W (after_grant x.tid W (wants_of op fit) taken) ≡ o → (y : Work) × (work_at W kept ≡ Some y) × (y.phase ≡ Active next)
            there (Some y) e = (record y { phase = Active next }, ap (λ l. work_at W l) grants.works ∙ at-with W (Active next) (after_grant x.tid W (wants_of op fit) taken) y e, refl)
            there None e = absurd (lost e)
              where
                lost : work_at W (after_grant x.tid W (wants_of op fit) taken) ≡ None → ⊥
                lost e = cc (sym e ∙ granted_itself x.tid W (wants_of op fit) taken (record x { phase = Active (record a { list = empty }) }) (ap (λ l. work_at W l) emptied ∙ at-with W (Active (record a { list = empty })) ws x at))

        lists : longer ≡ (if is_fit answer then list_after (intention_for a.list op) op a.list else a.list)
        lists = longer_is ∙ (ap (λ b. if b then list_after (intention_for list op) op list else list) fits ∙ ap (λ l. if is_fit answer then list_after (intention_for l op) op l else l) old)

        next_is : record next { list = longer } ≡ done a op answer (wants_of op (is_fit answer))
        next_is = λ j. record { list = lists j; reads = reads j; writes = writes j; last = (number_is ∙ count) j; kept = kept_answer j; vulnerable = (vulnerable ∙ ap (λ (z : ActiveWork). z.vulnerable) (is_phase b a (sym phase ∙ active))) j }

        now : after ≡ with_phase W (Active (done a op answer (wants_of op (is_fit answer)))) (after_grant T W (wants_of op (is_fit answer)) ws)
        now = after_is ∙ (ap (λ l. rephased W (relisted longer) l) full_is ∙ (rephased-is W (relisted longer) kept found_next.0 found_next.1 ∙ (ap (λ p. with_phase W (relisted longer p) kept) found_next.2
            ∙ (granted_at (Active (record next { list = longer })) ∙ ap (λ n. with_phase W (Active n) (after_grant T W (wants_of op (is_fit answer)) ws)) next_is))))
