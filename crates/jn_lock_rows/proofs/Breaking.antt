-- The works that a grant breaks are those of the rows.
use Rattle.jn_lock_rows.proofs.Common.{◌≡◌, Bool, true, false, List, [], ◌∷◌, ◌++◌, Option, Some, None, refl, sym, ◌∙◌, ap, subst, arith, ◌&&◌, ◌||◌, not, if◌then◌else◌, is_some, MatchOption, list_all, Tid, WorkId, LockUnit, work_eq, BrokenAt, Table, unit_before, work_before, is_vulnerable, AreBroken, broken_at, is_broken, is_rising, unit_before-total, work_before-transitive, work_before-total, Work, Phase, Broken, Wanted, holds, gives_way, work_at, with_phase, collision, breaks_at, broken_by, note_of, after_grant, break_notes, conflict, LocksMatch, held_in, standing_in, standing_of, are_rising, is_before, units_rise, BreaksAs, broken_if, broken_list, after_breaks, notes_of, note_if}
use Rattle.jn_lock_rows.proofs.Asking.{wants_in, units_in, clash, clash-free, no_collision, collision-first}
use Rattle.jn_msgs.specs.declared.message.Note.{Note}
use Rattle.jn_msgs.specs.declared.message.Note.TheVariants.{Broke}
use Rattle.jn_lock_rows.proofs.Works.{not_both, work_same, work_is, not-before, work_eq-sym, found-name, none-behind, in_phase, at-phase, once_granted, at-grant}
use Rattle.jn_lock_rows.proofs.Blocking.{matched, vulnerable-is}
use Rattle.jn_lock_rows.proofs.Keeping.{breaks_of}

-- ---- where one work breaks

-- the first unit that passes, if one does
abbrev FirstBy : (LockUnit → Bool) → Option LockUnit → Type 0
FirstBy test o = MatchOption o ((u : LockUnit) → test u ≡ false) (λ (at : LockUnit). (test at ≡ true) × ((u : LockUnit) → test u ≡ true → unit_before u at ≡ false))

one-first : (test : LockUnit → Bool) (a b : Option LockUnit) → FirstBy test a → FirstBy test b → a ≡ b
one-first test None None h k = refl
one-first test None (Some v) h k = not_both (sym k.0 ∙ h v)
one-first test (Some u) None h k = not_both (sym h.0 ∙ k u)
one-first test (Some u) (Some v) h k = ap Some (unit_before-total u v (k.1 u h.0) (h.1 v k.0))

module _ (works : List Work) (W : WorkId) (wants : List Wanted) (rise : units_rise (units_in wants) ≡ true) where
  abbrev breaks_for : WorkId → Option Work → LockUnit → Bool
  breaks_for V o u = (not (work_eq V W) && clash (wants_in wants u) (held_in o u)) && is_vulnerable (standing_of o)

  breaks-first : (V : WorkId) (o : Option Work) → ((v : Work) → o ≡ Some v → v.name ≡ V) → FirstBy (breaks_for V o) (breaks_of W wants o)
  breaks-first V None named = λ u. none (not (work_eq V W)) (clash (wants_in wants u) (λ n. false)) (clash-free (wants_in wants u) (λ n. false) refl)
    where
      none : (a b : Bool) → b ≡ false → ((a && b) && false) ≡ false
      none a b e = grind arith
  breaks-first V (Some v) named = by (not (work_eq v.name W)) (gives_way v.phase) refl refl
    where
      other : not (work_eq v.name W) ≡ not (work_eq V W)
      other = ap (λ (x : WorkId). not (work_eq x W)) (named v refl)

      never : (a b c : Bool) → (a && c) ≡ false → ((a && b) && c) ≡ false
      never a b c e = grind (arith, e)

      always : (a b c : Bool) → (a && c) ≡ true → ((a && b) && c) ≡ b
      always a b c e = grind (arith, e)

      nowhere : (not (work_eq V W) && is_vulnerable (standing_in v.phase)) ≡ false → FirstBy (breaks_for V (Some v)) None
      nowhere e = λ u. never (not (work_eq V W)) (clash (wants_in wants u) (holds v.phase u)) (is_vulnerable (standing_in v.phase)) e

      somewhere : (not (work_eq V W) && is_vulnerable (standing_in v.phase)) ≡ true → (c : Option LockUnit) → collision v.phase wants ≡ c → FirstBy (breaks_for V (Some v)) c
      somewhere e None k = λ u. always (not (work_eq V W)) (clash (wants_in wants u) (holds v.phase u)) (is_vulnerable (standing_in v.phase)) e ∙ no_collision v.phase wants rise k u
      somewhere e (Some at) k = let r = collision-first v.phase wants at rise k in (
        always (not (work_eq V W)) (clash (wants_in wants at) (holds v.phase at)) (is_vulnerable (standing_in v.phase)) e ∙ r.stands,
        λ u c. r.first u (sym (always (not (work_eq V W)) (clash (wants_in wants u) (holds v.phase u)) (is_vulnerable (standing_in v.phase)) e) ∙ c),
      )

      both : (a b : Bool) → not (work_eq v.name W) ≡ a → gives_way v.phase ≡ b → (not (work_eq V W) && is_vulnerable (standing_in v.phase)) ≡ (a && b)
      both a b e f = ap (λ x. x && is_vulnerable (standing_in v.phase)) (sym other ∙ e) ∙ ap (λ x. a && x) (vulnerable-is v.phase ∙ f)

      by : (a b : Bool) → not (work_eq v.name W) ≡ a → gives_way v.phase ≡ b → FirstBy (breaks_for V (Some v)) (if (a && b) then collision v.phase wants else None)
      by true true e f = somewhere (both true true e f) (collision v.phase wants) refl
      by true false e f = nowhere (both true false e f)
      by false b e f = nowhere (both false b e f)

  pub broken-as : (t : Table) (bs : List BrokenAt) → LocksMatch works t → AreBroken t W (wants_in wants) bs → (V : WorkId) → broken_at bs V ≡ breaks_of W wants (work_at V works)
  broken-as t bs h b V = one-first (breaks_for V (work_at V works)) (broken_at bs V) (breaks_of W wants (work_at V works))
      ((subst (λ (z : Table). AreBroken z W (wants_in wants) bs) (matched works t h) b).each V)
      (breaks-first V (work_at V works) (λ v e. found-name V works v e))

-- ---- lists of broken works

pub is_broken-at : (bs : List BrokenAt) (V : WorkId) → is_broken bs V ≡ is_some (broken_at bs V)
is_broken-at [] V = refl
is_broken-at (b ∷ bs) V = by (work_eq b.work V) (is_broken-at bs V)
  where
    by : (c : Bool) → is_broken bs V ≡ is_some (broken_at bs V) → (c || is_broken bs V) ≡ is_some (if c then Some b.unit else broken_at bs V)
    by true e = refl
    by false e = e

absent : (V : WorkId) (cs : List BrokenAt) → list_all (λ (c : BrokenAt). work_before V c.work) cs ≡ true → broken_at cs V ≡ None
absent V [] h = refl
absent V (c ∷ cs) h = grind (arith, absent V cs, not-before V c.work, work_eq-sym V c.work)

all-onward : (V W : WorkId) (cs : List BrokenAt) → work_before V W ≡ true → list_all (λ (c : BrokenAt). work_before W c.work) cs ≡ true → list_all (λ (c : BrokenAt). work_before V c.work) cs ≡ true
all-onward V W [] h k = refl
all-onward V W (c ∷ cs) h k = grind (arith, all-onward V W cs h, work_before-transitive V W c.work h)

first-at : (b : BrokenAt) (bs : List BrokenAt) → broken_at (b ∷ bs) b.work ≡ Some b.unit
first-at b bs = ap (λ c. if c then Some b.unit else broken_at bs b.work) (work_same b.work)

-- a rising list that names a work first names it at its head
not-later : (x y : BrokenAt) (xs ys : List BrokenAt) → is_rising (y ∷ ys) ≡ true → ((V : WorkId) → broken_at (x ∷ xs) V ≡ broken_at (y ∷ ys) V) → work_before x.work y.work ≡ false
not-later x y xs ys rise same = by (work_before x.work y.work) refl
  where
    by : (b : Bool) → work_before x.work y.work ≡ b → work_before x.work y.work ≡ false
    by false e = e
    by true e = absurd (wrong (sym (first-at x xs) ∙ same x.work ∙ absent x.work (y ∷ ys) (both e (all-onward x.work y.work ys e (grind (arith, rise))))))
      where
        both : work_before x.work y.work ≡ true → list_all (λ (c : BrokenAt). work_before x.work c.work) ys ≡ true → list_all (λ (c : BrokenAt). work_before x.work c.work) (y ∷ ys) ≡ true
        both p q = grind (arith, p, q)

        wrong : Some x.unit ≡ None → ⊥
        wrong q = cc q

pub same-list : (xs ys : List BrokenAt) → is_rising xs ≡ true → is_rising ys ≡ true → ((V : WorkId) → broken_at xs V ≡ broken_at ys V) → xs ≡ ys
same-list [] [] h k same = refl
same-list [] (y ∷ ys) h k same = absurd (wrong (same y.work ∙ first-at y ys))
  where
    wrong : None ≡ Some y.unit → ⊥
    wrong q = cc q
same-list (x ∷ xs) [] h k same = absurd (wrong (sym (same x.work) ∙ first-at x xs))
  where
    wrong : None ≡ Some x.unit → ⊥
    wrong q = cc q
same-list (x ∷ xs) (y ∷ ys) h k same = joined head (same-list xs ys (grind (arith, h)) (grind (arith, k)) rest)
  where
    name : x.work ≡ y.work
    name = work_before-total x.work y.work (not-later x y xs ys k same) (not-later y x ys xs h (λ V. sym (same V)))

    some : Some x.unit ≡ Some y.unit → x.unit ≡ y.unit
    some q = cc q

    head : x ≡ y
    head = let u = some (sym (first-at x xs) ∙ same x.work ∙ subst (λ (z : WorkId). broken_at (y ∷ ys) z ≡ Some y.unit) (sym name) (first-at y ys)) in
        λ i. record { work = name i; unit = u i }

    joined : x ≡ y → xs ≡ ys → (x ∷ xs) ≡ (y ∷ ys)
    joined p q = cc

    rest : (V : WorkId) → broken_at xs V ≡ broken_at ys V
    rest V = by (work_eq x.work V) refl
      where
        by : (b : Bool) → work_eq x.work V ≡ b → broken_at xs V ≡ broken_at ys V
        by true e = let v = work_is x.work V e in subst (λ (z : WorkId). broken_at xs z ≡ broken_at ys z) v
            (absent x.work xs (grind (arith, h)) ∙ sym (subst (λ (z : WorkId). broken_at ys z ≡ None) (sym name) (absent y.work ys (grind (arith, k)))))
        by false e = sym (ap (λ b. if b then Some x.unit else broken_at xs V) e) ∙ same V
            ∙ ap (λ b. if b then Some y.unit else broken_at ys V) (subst (λ (z : WorkId). work_eq z V ≡ false) name e)

-- ---- the list of the rows

module _ (W : WorkId) (wants : List Wanted) where
  all-behind : (V : WorkId) (ws : List Work) → is_before V ws ≡ true → list_all (λ (c : BrokenAt). work_before V c.work) (broken_list W wants ws) ≡ true
  all-behind V [] h = refl
  all-behind V (w ∷ ws) h = by (breaks_at W wants w) (all-behind V ws (grind (arith, h)))
    where
      by : (o : Option LockUnit) → list_all (λ (c : BrokenAt). work_before V c.work) (broken_list W wants ws) ≡ true → list_all (λ (c : BrokenAt). work_before V c.work) (broken_if w.name o ++ broken_list W wants ws) ≡ true
      by None e = e
      by (Some u) e = grind (arith, e, h)

  list-rises : (ws : List Work) → are_rising ws ≡ true → is_rising (broken_list W wants ws) ≡ true
  list-rises [] h = refl
  list-rises (w ∷ ws) h = by (breaks_at W wants w) (all-behind w.name ws (grind (arith, h))) (list-rises ws (grind (arith, h)))
    where
      by : (o : Option LockUnit) → list_all (λ (c : BrokenAt). work_before w.name c.work) (broken_list W wants ws) ≡ true → is_rising (broken_list W wants ws) ≡ true → is_rising (broken_if w.name o ++ broken_list W wants ws) ≡ true
      by None a e = e
      by (Some u) a e = grind (arith, a, e)

  list-at : (V : WorkId) (ws : List Work) → are_rising ws ≡ true → broken_at (broken_list W wants ws) V ≡ breaks_of W wants (work_at V ws)
  list-at V [] h = refl
  list-at V (w ∷ ws) h = by (list-at V ws (grind (arith, h))) (breaks_at W wants w) refl (work_eq w.name V) refl
    where
      behind : work_eq w.name V ≡ true → work_at V ws ≡ None
      behind e = subst (λ (z : WorkId). work_at z ws ≡ None) (work_is w.name V e) (none-behind w.name ws (grind (arith, h)))

      by : broken_at (broken_list W wants ws) V ≡ breaks_of W wants (work_at V ws) → (o : Option LockUnit) → breaks_at W wants w ≡ o → (b : Bool) → work_eq w.name V ≡ b
          → broken_at (broken_if w.name o ++ broken_list W wants ws) V ≡ breaks_of W wants (if b then Some w else work_at V ws)
      by rest None e true f = rest ∙ ap (breaks_of W wants) (behind f) ∙ sym e
      by rest None e false f = rest
      by rest (Some u) e true f = ap (λ c. if c then Some u else broken_at (broken_list W wants ws) V) f ∙ sym e
      by rest (Some u) e false f = ap (λ c. if c then Some u else broken_at (broken_list W wants ws) V) f ∙ rest

  -- ---- one by one

  module _ (T : Tid) where
    -- those that break behind a work leave it
    apart-breaks : (w : Work) (bs : List BrokenAt) (ws : List Work) → list_all (λ (c : BrokenAt). work_before w.name c.work) bs ≡ true → after_breaks T bs (w ∷ ws) ≡ w ∷ after_breaks T bs ws
    apart-breaks w [] ws h = refl
    apart-breaks w (b ∷ bs) ws h = ap (λ c. after_breaks T bs (if c then (record w { phase = Broken b.unit T }) ∷ ws else w ∷ with_phase b.work (Broken b.unit T) ws)) (not-before w.name b.work (grind (arith, h)))
        ∙ apart-breaks w bs (with_phase b.work (Broken b.unit T) ws) (grind (arith, h))

    apart-notes : (w : Work) (bs : List BrokenAt) (ws : List Work) → list_all (λ (c : BrokenAt). work_before w.name c.work) bs ≡ true → notes_of T bs (w ∷ ws) ≡ notes_of T bs ws
    apart-notes w [] ws h = refl
    apart-notes w (b ∷ bs) ws h = ap (λ c. note_if T b.unit (if c then Some w else work_at b.work ws) ++ notes_of T bs (w ∷ ws)) (not-before w.name b.work (grind (arith, h)))
        ∙ ap (λ (ns : List Note). note_if T b.unit (work_at b.work ws) ++ ns) (apart-notes w bs ws (grind (arith, h)))

    breaks-all : (ws : List Work) → are_rising ws ≡ true → after_breaks T (broken_list W wants ws) ws ≡ after_grant T W wants ws
    breaks-all [] h = refl
    breaks-all (w ∷ ws) h = by (breaks_at W wants w) (all-behind w.name ws (grind (arith, h))) (breaks-all ws (grind (arith, h)))
      where
        by : (o : Option LockUnit) → list_all (λ (c : BrokenAt). work_before w.name c.work) (broken_list W wants ws) ≡ true → after_breaks T (broken_list W wants ws) ws ≡ after_grant T W wants ws
            → after_breaks T (broken_if w.name o ++ broken_list W wants ws) (w ∷ ws) ≡ broken_by T o w ∷ after_grant T W wants ws
        by None a e = apart-breaks w (broken_list W wants ws) ws a ∙ ap (λ (xs : List Work). w ∷ xs) e
        by (Some u) a e = ap (λ c. after_breaks T (broken_list W wants ws) (if c then (record w { phase = Broken u T }) ∷ ws else w ∷ with_phase w.name (Broken u T) ws)) (work_same w.name)
            ∙ apart-breaks (record w { phase = Broken u T }) (broken_list W wants ws) ws a ∙ ap (λ (xs : List Work). (record w { phase = Broken u T }) ∷ xs) e

    notes-all : (ws : List Work) → are_rising ws ≡ true → notes_of T (broken_list W wants ws) ws ≡ break_notes T W wants ws
    notes-all [] h = refl
    notes-all (w ∷ ws) h = by (breaks_at W wants w) (all-behind w.name ws (grind (arith, h))) (notes-all ws (grind (arith, h)))
      where
        by : (o : Option LockUnit) → list_all (λ (c : BrokenAt). work_before w.name c.work) (broken_list W wants ws) ≡ true → notes_of T (broken_list W wants ws) ws ≡ break_notes T W wants ws
            → notes_of T (broken_if w.name o ++ broken_list W wants ws) (w ∷ ws) ≡ note_of T o w ++ break_notes T W wants ws
        by None a e = apart-notes w (broken_list W wants ws) ws a ∙ e
        by (Some u) a e = ap (λ c. note_if T u (if c then Some w else work_at w.name ws) ++ notes_of T (broken_list W wants ws) (w ∷ ws)) (work_same w.name)
            ∙ ap (λ (ns : List Note). note_if T u (Some w) ++ ns) (apart-notes w (broken_list W wants ws) ws a ∙ e)

-- ---- the notes need no more than the transactions of the works

abbrev tid_in : Option Work → Option Tid
tid_in None = None
tid_in (Some v) = Some v.tid

abbrev note_by : Tid → LockUnit → Option Tid → List Note
note_by T u None = []
note_by T u (Some by) = Broke by u T ∷ []

note-by : (T : Tid) (u : LockUnit) (o : Option Work) → note_if T u o ≡ note_by T u (tid_in o)
note-by T u None = refl
note-by T u (Some v) = refl

notes-same : (T : Tid) (bs : List BrokenAt) (xs ys : List Work) → ((V : WorkId) → tid_in (work_at V xs) ≡ tid_in (work_at V ys)) → notes_of T bs xs ≡ notes_of T bs ys
notes-same T [] xs ys same = refl
notes-same T (b ∷ bs) xs ys same = let here = note-by T b.unit (work_at b.work xs) ∙ ap (note_by T b.unit) (same b.work) ∙ sym (note-by T b.unit (work_at b.work ys)) in
    let rest = notes-same T bs xs ys same in cc

tid-phase : (V W : WorkId) (phase : Phase) (ws : List Work) → tid_in (work_at V (with_phase W phase ws)) ≡ tid_in (work_at V ws)
tid-phase V W phase ws = ap tid_in (at-phase V W phase ws) ∙ by (work_eq W V) (work_at V ws)
  where
    by : (b : Bool) (o : Option Work) → tid_in (if b then in_phase phase o else o) ≡ tid_in o
    by true None = refl
    by true (Some v) = refl
    by false o = refl

tid-grant : (T : Tid) (W : WorkId) (wants : List Wanted) (V : WorkId) (ws : List Work) → tid_in (work_at V (after_grant T W wants ws)) ≡ tid_in (work_at V ws)
tid-grant T W wants V ws = ap tid_in (at-grant T W wants V ws) ∙ by (work_at V ws)
  where
    same : (v : Work) (o : Option LockUnit) → Some (broken_by T o v).tid ≡ Some v.tid
    same v None = refl
    same v (Some u) = refl

    by : (o : Option Work) → tid_in (once_granted T W wants o) ≡ tid_in o
    by None = refl
    by (Some v) = same v (breaks_at W wants v)

-- ---- what a grant says

module _ (works : List Work) (t : Table) (h : LocksMatch works t) (T : Tid) (W : WorkId) (wants : List Wanted) (rise : units_rise (units_in wants) ≡ true) (bs : List BrokenAt) (b : AreBroken t W (wants_in wants) bs) where
  pub broken-is : (V : WorkId) → is_broken bs V ≡ is_some (breaks_of W wants (work_at V works))
  broken-is V = is_broken-at bs V ∙ ap is_some (broken-as works W wants rise t bs h b V)

  pub list-is : bs ≡ broken_list W wants works
  list-is = same-list bs (broken_list W wants works) b.rising (list-rises W wants works h.rising)
      (λ V. broken-as works W wants rise t bs h b V ∙ sym (list-at W wants V works h.rising))

  pub breaks_as : conflict W wants works ≡ None → BreaksAs works T W wants bs
  breaks_as free = record {
    free = free;
    broken = list-is;
    after = ap (λ (cs : List BrokenAt). after_breaks T cs works) list-is ∙ breaks-all W wants T works h.rising;
    notes = told;
    notes_after = λ phase. notes-same T bs (with_phase W phase (after_grant T W wants works)) works (λ V. tid-phase V W phase (after_grant T W wants works) ∙ tid-grant T W wants V works) ∙ told;
  }
    where
      told : notes_of T bs works ≡ break_notes T W wants works
      told = ap (λ (cs : List BrokenAt). notes_of T cs works) list-is ∙ notes-all W wants T works h.rising
