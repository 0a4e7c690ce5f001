-- What any steps of the machine leave of a work: what it did grows at its end, and where it doesn't go on it stays as it is.
use Rattle.jn_system_reports.proofs.Common.{◌≡◌, ◌≢◌, ◌⊎◌, inl, inr, Bool, true, false, List, [], ◌∷◌, ◌++◌, append-nil, Option, Some, None, if◌then◌else◌, refl, sym, ◌∙◌, ap, subst, ServerNo, WorkId, server_eq, work_eq, server_tells, work_tells, StableState, Prepared, Pick, Change, AddReady, MarkGoing, CarryOut, RemoveWork, AddFlag, DropFlag, at_work, gone_on, ready_work, made_by, Working, Answered, Invariant, NamesFact, Atom, Perform, Lose, Prepare, NoteReady, Make, Decide, RaiseEpoch, server_of, changed, with_epoch, MayMake, May, MayRun, not_both, at_work_other, at_work_cases, none_some, some_of, fresh_work, grows, step_kept, Narrow, Crash, Restart, CarryPart, carried_at}
use Rattle.jn_system.specs.SmallSteps.World.{World}
use Rattle.jn_system.specs.SmallSteps.Steps.{Open, after, run}

-- ---- what a work did

-- what it did is what it did before, and then these
pub record Extends (w v : World) (W : WorkId) : Type 0 where
  pub more : List Answered
  pub is : v.trace W ≡ w.trace W ++ more

append-append : (a b c : List Answered) → (a ++ b) ++ c ≡ a ++ (b ++ c)
append-append [] b c = refl
append-append (x ∷ a) b c = ap (λ z. x ∷ z) (append-append a b c)

one-extends : (a : Atom) (w : World) (W : WorkId) → Extends w (after a w) W
one-extends (Perform V answered b) w W = by (work_tells V W)
  where
    by : ((work_eq V W ≡ true) × (V ≡ W)) ⊎ ((work_eq V W ≡ false) × (V ≢ W)) → Extends w (after (Perform V answered b) w) W
    by (inl p) = record { more = answered ∷ []; is = ap (λ (c : Bool). if c then w.trace V ++ answered ∷ [] else w.trace W) p.0 ∙ ap (λ (U : WorkId). w.trace U ++ answered ∷ []) p.1 }
    by (inr p) = record { more = []; is = ap (λ (c : Bool). if c then w.trace V ++ answered ∷ [] else w.trace W) p.0 ∙ sym (append-nil (w.trace W)) }
one-extends _ w W = record { more = []; is = sym (append-nil (w.trace W)) }

pub extends : (atoms : List Atom) (w : World) (W : WorkId) → Extends w (run atoms w) W
extends [] w W = record { more = []; is = sym (append-nil (w.trace W)) }
extends (a ∷ atoms) w W = let one = one-extends a w W in let rest = extends atoms (after a w) W in record {
  more = one.more ++ rest.more;
  is = rest.is ∙ ap (λ z. z ++ rest.more) one.is ∙ append-append (w.trace W) one.more rest.more;
}

-- ---- a work that doesn't go on

-- a work that was opened, and isn't active
pub record IsStill (w : World) (W : WorkId) : Type 0 where
  pub opened : w.opened W ≡ true
  pub none : w.active W ≡ None

lost-none : (w : World) (V W : WorkId) → w.active W ≡ None → at_work w.active V None W ≡ None
lost-none w V W h = by (work_eq V W)
  where
    by : (b : Bool) → (if b then None else w.active W) ≡ None
    by true = refl
    by false = h

not-it : (w : World) (V W : WorkId) (a : Working) → w.active V ≡ Some a → w.active W ≡ None → V ≢ W
not-it w V W a e h q = none_some a (sym h ∙ ap w.active (sym q) ∙ e)

one-still : (a : Atom) (w : World) (W : WorkId) → May a w → NamesFact w → IsStill w W → ((after a w).active W ≡ None) × ((after a w).trace W ≡ w.trace W)
one-still (Open V T) w W may names h = (at_work_other w.active V (Some (record { list = []; reads = [] })) W (λ e. not_both (w.opened W) h.opened (subst (λ (U : WorkId). w.opened U ≡ false) e (fresh_work w V T names may))) ∙ h.none, refl)
one-still (Perform V answered b) w W may names h = let ne = not-it w V W may.before may.is h.none in
    (at_work_other w.active V (Some b) W ne ∙ h.none, at_work_other w.trace V (w.trace V ++ answered ∷ []) W ne)
one-still (Lose V) w W may names h = (lost-none w V W h.none, refl)
one-still (Prepare done head list reads) w W may names h = (lost-none w head.work W h.none, refl)
one-still (Crash s) w W may names h = (by (server_eq s W.server), refl)
  where
    by : (b : Bool) → (if b then None else w.active W) ≡ None
    by true = refl
    by false = h.none
one-still _ w W may names h = (h.none, refl)

-- it stays so, and what it did too
pub still : (atoms : List Atom) (w : World) (W : WorkId) → MayRun atoms w → Invariant w → IsStill w W → IsStill (run atoms w) W × ((run atoms w).trace W ≡ w.trace W)
still [] w W may inv h = (h, refl)
still (a ∷ atoms) w W may inv h = let one = one-still a w W may.0 inv.names h in
    let on = still atoms (after a w) W may.1 (step_kept a w may.0 inv) (record { opened = (grows a w may.0 inv.names).opened W h.opened; none = one.0 }) in
    (on.0, on.1 ∙ one.1)

-- ---- a work that is somewhere

-- a state that may be found has it
abbrev pub IsStored : World → WorkId → Type 0
IsStored w W = record {
  pick : Pick;
  work : Prepared;
  is : (w.found W.server pick).works W ≡ Some work;
}

-- it goes on, or may be found, or was ready once
abbrev pub IsPresent : World → WorkId → Type 0
IsPresent w W = ((a : Working) × (w.active W ≡ Some a)) ⊎ (IsStored w W ⊎ (w.was_ready W ≡ true))

-- a state that may be found after a change had it before, or it was active
put-back : (w : World) (s : ServerNo) (done : Pick → Bool) (f : StableState → StableState) (W : WorkId) (P : Type 0)
    → ((c : Pick) (p : Prepared) → (f (w.found s c)).works W ≡ Some p → ((q : Prepared) × ((w.found s c).works W ≡ Some q)) ⊎ P)
    → (c : Pick) (p : Prepared) → (changed w.found s done f W.server c).works W ≡ Some p → IsStored w W ⊎ P
put-back w s done f W P back c p = by (server_tells s W.server)
  where
    stored : s ≡ W.server → (q : Prepared) → (w.found s c).works W ≡ Some q → IsStored w W
    stored e q h = record { pick = c; work = q; is = subst (λ (z : ServerNo). (w.found z c).works W ≡ Some q) e h }

    on : s ≡ W.server → (b : Bool) → (if b then f (w.found s c) else w.found s c).works W ≡ Some p → IsStored w W ⊎ P
    on e true h = either (back c p h)
      where
        either : ((q : Prepared) × ((w.found s c).works W ≡ Some q)) ⊎ P → IsStored w W ⊎ P
        either (inl k) = inl (stored e k.0 k.1)
        either (inr k) = inr k
    on e false h = inl (stored e p h)

    by : ((server_eq s W.server ≡ true) × (s ≡ W.server)) ⊎ ((server_eq s W.server ≡ false) × (s ≢ W.server)) → (changed w.found s done f W.server c).works W ≡ Some p → IsStored w W ⊎ P
    by (inl t) h = on t.1 (done c) (subst (λ (b : Bool). (if b then (if done c then f (w.found s c) else w.found s c) else w.found W.server c).works W ≡ Some p) t.0 h)
    by (inr t) h = inl (record { pick = c; work = p; is = subst (λ (b : Bool). (if b then (if done c then f (w.found s c) else w.found s c) else w.found W.server c).works W ≡ Some p) t.0 h })

gone-back : (o : Option Prepared) (p : Prepared) → gone_on o ≡ Some p → (q : Prepared) × (o ≡ Some q)
gone-back (Some q) p h = (q, refl)
gone-back None p h = absurd (none_some p h)

make-back : (w : World) (W : WorkId) (x : StableState) (step : Change) (p : Prepared) → MayMake w x step → (made_by step x).works W ≡ Some p → (q : Prepared) × (x.works W ≡ Some q)
make-back w W x (AddReady head list reads) p may h = absurd may
make-back w W x (MarkGoing V) p may h = by (at_work_cases x.works V (gone_on (x.works V)) W (Some p) h)
  where
    by : ((V ≡ W) × (gone_on (x.works V) ≡ Some p)) ⊎ ((V ≢ W) × (x.works W ≡ Some p)) → (q : Prepared) × (x.works W ≡ Some q)
    by (inl k) = let g = gone-back (x.works V) p k.1 in (g.0, subst (λ (U : WorkId). x.works U ≡ Some g.0) k.0 g.1)
    by (inr k) = (p, k.1)
make-back w W x (CarryOut V i) p may h = (p, h)
make-back w W x (RemoveWork V) p may h = by (at_work_cases x.works V None W (Some p) h)
  where
    by : ((V ≡ W) × (None ≡ Some p)) ⊎ ((V ≢ W) × (x.works W ≡ Some p)) → (q : Prepared) × (x.works W ≡ Some q)
    by (inl k) = absurd (none_some p k.1)
    by (inr k) = (p, k.1)
make-back w W x (AddFlag flag) p may h = (p, h)
make-back w W x (DropFlag T) p may h = (p, h)

found-back : (w : World) (W : WorkId) → IsStored w W ⊎ ⊥ → IsPresent w W
found-back w W (inl h) = inr (inl h)
found-back w W (inr h) = absurd h

lost-back : (w : World) (V W : WorkId) (a : Working) → at_work w.active V None W ≡ Some a → w.active W ≡ Some a
lost-back w V W a h = by (at_work_cases w.active V None W (Some a) h)
  where
    by : ((V ≡ W) × (None ≡ Some a)) ⊎ ((V ≢ W) × (w.active W ≡ Some a)) → w.active W ≡ Some a
    by (inl k) = absurd (none_some a k.1)
    by (inr k) = k.1

one-back : (a : Atom) (w : World) (W : WorkId) → May a w → NamesFact w → w.opened W ≡ true → IsPresent (after a w) W → IsPresent w W
one-back (Open V T) w W may names opened (inl h) = by (at_work_cases w.active V (Some (record { list = []; reads = [] })) W (Some h.0) h.1)
  where
    by : ((V ≡ W) × (Some (record { list = []; reads = [] }) ≡ Some h.0)) ⊎ ((V ≢ W) × (w.active W ≡ Some h.0)) → IsPresent w W
    by (inl k) = absurd (not_both (w.opened W) opened (subst (λ (U : WorkId). w.opened U ≡ false) k.0 (fresh_work w V T names may)))
    by (inr k) = inl (h.0, k.1)
one-back (Open V T) w W may names opened (inr h) = inr h
one-back (Perform V answered b) w W may names opened (inl h) = by (at_work_cases w.active V (Some b) W (Some h.0) h.1)
  where
    by : ((V ≡ W) × (Some b ≡ Some h.0)) ⊎ ((V ≢ W) × (w.active W ≡ Some h.0)) → IsPresent w W
    by (inl k) = inl (may.before, subst (λ (U : WorkId). w.active U ≡ Some may.before) k.0 may.is)
    by (inr k) = inl (h.0, k.1)
one-back (Perform V answered b) w W may names opened (inr h) = inr h
one-back (Lose V) w W may names opened (inl h) = inl (h.0, lost-back w V W h.0 h.1)
one-back (Lose V) w W may names opened (inr h) = inr h
one-back (Prepare done head list reads) w W may names opened (inl h) = inl (h.0, lost-back w head.work W h.0 h.1)
one-back (Prepare done head list reads) w W may names opened (inr (inr h)) = inr (inr h)
one-back (Prepare done head list reads) w W may names opened (inr (inl h)) = by (put-back w head.work.server done (made_by (AddReady head list reads)) W (w.active W ≡ Some (record { list = list; reads = reads })) back h.pick h.work h.is)
  where
    back : (c : Pick) (p : Prepared) → (made_by (AddReady head list reads) (w.found head.work.server c)).works W ≡ Some p → ((q : Prepared) × ((w.found head.work.server c).works W ≡ Some q)) ⊎ (w.active W ≡ Some (record { list = list; reads = reads }))
    back c p k = on (at_work_cases (w.found head.work.server c).works head.work (Some (ready_work head list reads)) W (Some p) k)
      where
        on : ((head.work ≡ W) × (Some (ready_work head list reads) ≡ Some p)) ⊎ ((head.work ≢ W) × ((w.found head.work.server c).works W ≡ Some p)) → ((q : Prepared) × ((w.found head.work.server c).works W ≡ Some q)) ⊎ (w.active W ≡ Some (record { list = list; reads = reads }))
        on (inl e) = inr (subst (λ (U : WorkId). w.active U ≡ Some (record { list = list; reads = reads })) e.0 (may c).active)
        on (inr e) = inl (p, e.1)

    by : IsStored w W ⊎ (w.active W ≡ Some (record { list = list; reads = reads })) → IsPresent w W
    by (inl k) = inr (inl k)
    by (inr k) = inl (record { list = list; reads = reads }, k)
one-back (NoteReady V) w W may names opened (inl h) = inl h
one-back (NoteReady V) w W may names opened (inr (inl h)) = inr (inl h)
one-back (NoteReady V) w W may names opened (inr (inr h)) = by (at_work_cases w.was_ready V true W true h)
  where
    by : ((V ≡ W) × (true ≡ true)) ⊎ ((V ≢ W) × (w.was_ready W ≡ true)) → IsPresent w W
    by (inl k) = let x = some_of ((w.found V.server (λ n. false)).works V) (may (λ n. false)) in
        inr (inl (subst (λ (U : WorkId). IsStored w U) k.0 (record { pick = λ n. false; work = x.0; is = x.1 })))
    by (inr k) = inr (inr k.1)
one-back (Make done step) w W may names opened (inl h) = inl h
one-back (Make done step) w W may names opened (inr (inr h)) = inr (inr h)
one-back (Make done step) w W may names opened (inr (inl h)) = found-back w W (put-back w (server_of step) done (made_by step) W ⊥ (λ c p k. inl (make-back w W (w.found (server_of step) c) step p (may c) k)) h.pick h.work h.is)
one-back (CarryPart V i is) w W may names opened (inl h) = inl h
one-back (CarryPart V i is) w W may names opened (inr (inr h)) = inr (inr h)
one-back (CarryPart V i is) w W may names opened (inr (inl h)) = inr (inl (by (server_tells V.server W.server) h.is))
  where
    by : ((server_eq V.server W.server ≡ true) × (V.server ≡ W.server)) ⊎ ((server_eq V.server W.server ≡ false) × (V.server ≢ W.server))
        → (if server_eq V.server W.server then carried_at (is h.pick) i (w.found V.server h.pick) else w.found W.server h.pick).works W ≡ Some h.work → IsStored w W
    by (inl t) k = record { pick = h.pick; work = h.work; is = subst (λ (z : ServerNo). (w.found z h.pick).works W ≡ Some h.work) t.1 (subst (λ (b : Bool). (if b then carried_at (is h.pick) i (w.found V.server h.pick) else w.found W.server h.pick).works W ≡ Some h.work) t.0 k) }
    by (inr t) k = record { pick = h.pick; work = h.work; is = subst (λ (b : Bool). (if b then carried_at (is h.pick) i (w.found V.server h.pick) else w.found W.server h.pick).works W ≡ Some h.work) t.0 k }
one-back (Decide flag) w W may names opened (inl h) = inl h
one-back (Decide flag) w W may names opened (inr (inr h)) = inr (inr h)
one-back (Decide flag) w W may names opened (inr (inl h)) = found-back w W (put-back w flag.tid.server (λ c. true) (made_by (AddFlag flag)) W ⊥ (λ c p k. inl (p, k)) h.pick h.work h.is)
one-back (Narrow s g) w W may names opened (inl h) = inl h
one-back (Narrow s g) w W may names opened (inr (inr h)) = inr (inr h)
one-back (Narrow s g) w W may names opened (inr (inl h)) = inr (inl (by (server_tells s W.server) h.is))
  where
    by : ((server_eq s W.server ≡ true) × (s ≡ W.server)) ⊎ ((server_eq s W.server ≡ false) × (s ≢ W.server)) → (if server_eq s W.server then w.found s (g h.pick) else w.found W.server h.pick).works W ≡ Some h.work → IsStored w W
    by (inl t) k = record { pick = g h.pick; work = h.work; is = subst (λ (z : ServerNo). (w.found z (g h.pick)).works W ≡ Some h.work) t.1 (subst (λ (b : Bool). (if b then w.found s (g h.pick) else w.found W.server h.pick).works W ≡ Some h.work) t.0 k) }
    by (inr t) k = record { pick = h.pick; work = h.work; is = subst (λ (b : Bool). (if b then w.found s (g h.pick) else w.found W.server h.pick).works W ≡ Some h.work) t.0 k }
one-back (RaiseEpoch s done) w W may names opened (inl h) = inl h
one-back (RaiseEpoch s done) w W may names opened (inr (inr h)) = inr (inr h)
one-back (RaiseEpoch s done) w W may names opened (inr (inl h)) = found-back w W (put-back w s done with_epoch W ⊥ (λ c p k. inl (p, k)) h.pick h.work h.is)
one-back (Crash s) w W may names opened (inl h) = inl (h.0, by (server_eq s W.server) h.1)
  where
    by : (b : Bool) → (if b then None else w.active W) ≡ Some h.0 → w.active W ≡ Some h.0
    by true k = absurd (none_some h.0 k)
    by false k = k
one-back (Crash s) w W may names opened (inr h) = inr h
one-back (Restart s x) w W may names opened (inl h) = inl h
one-back (Restart s x) w W may names opened (inr (inr h)) = inr (inr h)
one-back (Restart s x) w W may names opened (inr (inl h)) = found-back w W (put-back w s (λ c. true) with_epoch W ⊥ (λ c p k. inl (p, k)) h.pick h.work h.is)
one-back _ w W may names opened (inl h) = inl h
one-back _ w W may names opened (inr (inl h)) = inr (inl h)
one-back _ w W may names opened (inr (inr h)) = inr (inr h)

-- a work that was opened and is somewhere was somewhere before
pub present-back : (atoms : List Atom) (w : World) (W : WorkId) → MayRun atoms w → Invariant w → w.opened W ≡ true → IsPresent (run atoms w) W → IsPresent w W
present-back [] w W may inv opened h = h
present-back (a ∷ atoms) w W may inv opened h = one-back a w W may.0 inv.names opened
    (present-back atoms (after a w) W may.1 (step_kept a w may.0 inv) ((grows a w may.0 inv.names).opened W opened) h)
