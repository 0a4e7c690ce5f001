-- At a server that is up each flag is of a transaction that has committed.
use Rattle.jn_system.proofs.Common.{◌≡◌, ◌≢◌, ◌⊎◌, inl, inr, Bool, true, false, Some, is_some, if◌then◌else◌, sym, ◌∙◌, ap, subst, arith, ServerNo, Tid, server_eq, tid_eq, server_tells, tid_tells, Flag, Change, StableState, Pick, AddReady, MarkGoing, CarryOut, RemoveWork, AddFlag, DropFlag, at_tid, made_by, flag_state, World, Prepare, lose, Atom, Make, Name, Decide, Narrow, RaiseEpoch, Crash, Restart, server_of, put, with_epoch, always, name_it, restart, after, MayMake, MayRestart, May, carried_at, CarryPart}
use Rattle.jn_system.proofs.SmallSteps.Invariant.{FlagFact}
use Rattle.jn_system.proofs.SmallSteps.Updates.{TellsServer, not_both, at_tid_here, at_tid_other}

-- a change that adds no flag
put_same : (w : World) (s : ServerNo) (done : Pick → Bool) (f : StableState → StableState) → ((x : StableState) (T : Tid) → is_some ((f x).flags T) ≡ true → is_some (x.flags T) ≡ true) → FlagFact w → FlagFact (put s done f w)
put_same w s done f few h q c T u e = by (server_tells s q)
  where
    under : (b : Bool) → is_some ((if b then f (w.found s c) else w.found s c).flags T) ≡ true → is_some ((w.found s c).flags T) ≡ true
    under true k = few (w.found s c) T k
    under false k = k

    by : TellsServer s q → w.named T ≡ true
    by (inl (t, p)) = h q c T u (subst (λ z. is_some ((w.found z c).flags T) ≡ true) p (under (done c) (subst (λ b. is_some ((if b then (if done c then f (w.found s c) else w.found s c) else w.found q c).flags T) ≡ true) t e)))
    by (inr (t, n)) = h q c T u (subst (λ b. is_some ((if b then (if done c then f (w.found s c) else w.found s c) else w.found q c).flags T) ≡ true) t e)

-- a flag that is put where the server is down
put_down : (w : World) (flag : Flag) (done : Pick → Bool) → w.up flag.tid.server ≡ false → FlagFact w → FlagFact (put flag.tid.server done (made_by (AddFlag flag)) w)
put_down w flag done down h q c U u e = by (server_tells flag.tid.server q)
  where
    by : TellsServer flag.tid.server q → w.named U ≡ true
    by (inl (t, p)) = absurd (not_both (w.up q) u (subst (λ z. w.up z ≡ false) p down))
    by (inr (t, n)) = h q c U u (subst (λ b. is_some ((if b then (if done c then made_by (AddFlag flag) (w.found flag.tid.server c) else w.found flag.tid.server c) else w.found q c).flags U) ≡ true) t e)

-- a flag that is put and named
decided : (w : World) (flag : Flag) → FlagFact w → FlagFact (name_it flag.tid (put flag.tid.server always (made_by (AddFlag flag)) w))
decided w flag h q c U u e = by (server_tells flag.tid.server q) (tid_tells flag.tid U)
  where
    by : TellsServer flag.tid.server q → (((tid_eq flag.tid U ≡ true) × (flag.tid ≡ U)) ⊎ ((tid_eq flag.tid U ≡ false) × (flag.tid ≢ U))) → at_tid w.named flag.tid true U ≡ true
    by _ (inl (t, p)) = subst (λ z. at_tid w.named flag.tid true z ≡ true) p (at_tid_here w.named flag.tid true)
    by (inl (t, p)) (inr (f, ne)) = at_tid_other w.named flag.tid true U ne ∙ h q c U u (subst (λ z. is_some ((w.found z c).flags U) ≡ true) p
        (subst (λ o. is_some o ≡ true) (at_tid_other (w.found flag.tid.server c).flags flag.tid (Some (flag_state flag)) U ne)
        (subst (λ b. is_some ((if b then made_by (AddFlag flag) (w.found flag.tid.server c) else w.found q c).flags U) ≡ true) t e)))
    by (inr (t, n)) (inr (f, ne)) = at_tid_other w.named flag.tid true U ne ∙ h q c U u (subst (λ b. is_some ((if b then made_by (AddFlag flag) (w.found flag.tid.server c) else w.found q c).flags U) ≡ true) t e)

drops_few : (x : StableState) (T U : Tid) → is_some ((made_by (DropFlag T) x).flags U) ≡ true → is_some (x.flags U) ≡ true
drops_few x T U k = grind (arith, tid_tells)

made_flags : (w : World) (done : Pick → Bool) (step : Change) → ((c : Pick) → MayMake w (w.found (server_of step) c) step) → FlagFact w → FlagFact (put (server_of step) done (made_by step) w)
made_flags w done (AddReady head list reads) may h = absurd (may (λ n. false))
made_flags w done (MarkGoing W) may h = put_same w W.server done (made_by (MarkGoing W)) (λ x T k. k) h
made_flags w done (CarryOut W i) may h = put_same w W.server done (made_by (CarryOut W i)) (λ x T k. k) h
made_flags w done (RemoveWork W) may h = put_same w W.server done (made_by (RemoveWork W)) (λ x T k. k) h
made_flags w done (AddFlag flag) may h = put_down w flag done (may (λ n. false)).1 h
made_flags w done (DropFlag T) may h = put_same w T.server done (made_by (DropFlag T)) (λ x U k. drops_few x T U k) h

-- a server comes up where each flag is named
restart_flags : (w : World) (s : ServerNo) (x : StableState) → MayRestart w s x → FlagFact w → FlagFact (restart s x w)
restart_flags w s x may h q c T u e = by (server_tells s q)
  where
    by : TellsServer s q → w.named T ≡ true
    by (inl (t, p)) = may.all_named T (subst (λ (z : StableState). is_some (z.flags T) ≡ true) (ap (λ z. w.found z c) (sym p) ∙ may.one c) e)
    by (inr (t, n)) = h q c T (subst (λ b. (if b then true else w.up q) ≡ true) t u) e

pub flags_kept : (a : Atom) (w : World) → May a w → ((s : ServerNo) (x : StableState) → MayRestart w s x → MayRestart (put s always with_epoch w) s (with_epoch x)) → FlagFact w → FlagFact (after a w)
flags_kept (Prepare done head list reads) w may raised h = put_same (lose head.work w) head.work.server done (made_by (AddReady head list reads)) (λ x T k. k) h
flags_kept (Make done step) w may raised h = made_flags w done step may h
flags_kept (Name U) w may raised h = λ q c T u e. let k = h q c T u e in grind (arith, tid_tells)
flags_kept (Decide flag) w may raised h = decided w flag h
flags_kept (Narrow s g) w may raised h = λ q c T u e. by q c T u e (server_tells s q)
  where
    by : (q : ServerNo) (c : Pick) (T : Tid) → w.up q ≡ true → is_some ((if server_eq s q then w.found s (g c) else w.found q c).flags T) ≡ true → TellsServer s q → w.named T ≡ true
    by q c T u e (inl (t, p)) = h q (g c) T u (subst (λ z. is_some ((w.found z (g c)).flags T) ≡ true) p (subst (λ b. is_some ((if b then w.found s (g c) else w.found q c).flags T) ≡ true) t e))
    by q c T u e (inr (t, n)) = h q c T u (subst (λ b. is_some ((if b then w.found s (g c) else w.found q c).flags T) ≡ true) t e)
flags_kept (CarryPart W i is) w may raised h = λ q c T u e. by q c T u e (server_tells W.server q)
  where
    by : (q : ServerNo) (c : Pick) (T : Tid) → w.up q ≡ true → is_some ((if server_eq W.server q then carried_at (is c) i (w.found W.server c) else w.found q c).flags T) ≡ true → TellsServer W.server q → w.named T ≡ true
    by q c T u e (inl (t, p)) = h q c T u (subst (λ z. is_some ((w.found z c).flags T) ≡ true) p (subst (λ b. is_some ((if b then carried_at (is c) i (w.found W.server c) else w.found q c).flags T) ≡ true) t e))
    by q c T u e (inr (t, n)) = h q c T u (subst (λ b. is_some ((if b then carried_at (is c) i (w.found W.server c) else w.found q c).flags T) ≡ true) t e)
flags_kept (RaiseEpoch s done) w may raised h = put_same w s done with_epoch (λ x T k. k) h
flags_kept (Crash s) w may raised h = λ q c T u e. h q c T (grind (arith, server_tells)) e
flags_kept (Restart s x) w may raised h = restart_flags (put s always with_epoch w) s (with_epoch x) (raised s x may) (put_same w s always with_epoch (λ y T k. k) h)
flags_kept _ w may raised h = h
