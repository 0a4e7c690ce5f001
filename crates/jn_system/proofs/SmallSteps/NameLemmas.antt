-- Names are given once.
use Rattle.jn_system.proofs.Common.{◌≡◌, ◌≢◌, ◌⊎◌, inl, inr, ℕ, ◌+◌, ◌≤◌, ◌<◌, Bool, true, false, if◌then◌else◌, refl, sym, ◌∙◌, ap, subst, arith, ServerNo, Tid, WorkId, server_eq, server_tells, Change, StableState, Pick, AddReady, MarkGoing, CarryOut, RemoveWork, AddFlag, DropFlag, made_by, World, Prepare, lose, Atom, Begin, Open, Make, Decide, Narrow, RaiseEpoch, Crash, Restart, server_of, put, with_epoch, always, restart, after, MayBegin, MayOpen, MayRestart, May, carried_at, CarryPart, at_server}
use Rattle.jn_system.proofs.SmallSteps.Invariant.{IsGiven, NamesFact}
use Rattle.jn_system.proofs.SmallSteps.Updates.{TellsServer, not_both, false_unless, at_work_cases, at_tid_cases}

-- a new name was never given
pub fresh_work : (w : World) (W : WorkId) (T : Tid) → NamesFact w → MayOpen w W T → w.opened W ≡ false
fresh_work w W T names may = false_unless (w.opened W) (λ b. let h = (names.works W (λ n. false) b).1 may.up (may.epoch (λ n. false)) in let t = may.ticket in omega (arith, h, t))

pub fresh_tid : (w : World) (T : Tid) → NamesFact w → MayBegin w T → w.begun T ≡ false
fresh_tid w T names may = false_unless (w.begun T) (λ b. let h = (names.tids T (λ n. false) b).1 may.up (may.epoch (λ n. false)) in let t = may.ticket in omega (arith, h, t))

-- a change of stable states that keeps the epoch, or raises it where the server is down
put_names : (w : World) (s : ServerNo) (done : Pick → Bool) (f : StableState → StableState) → ((x : StableState) → ((f x).epoch ≡ x.epoch) ⊎ ((w.up s ≡ false) × (x.epoch ≤ (f x).epoch))) → NamesFact w → NamesFact (put s done f w)
put_names w s done f keeps h = record {
  works = λ W c b. at W.server c W.epoch W.ticket (λ d. h.works W d b) (server_tells s W.server);
  tids = λ T c b. at T.server c T.epoch T.ticket (λ d. h.tids T d b) (server_tells s T.server);
}
  where
    one : (q : ServerNo) (x : StableState) (epoch ticket : ℕ) → s ≡ q → IsGiven (w.up q) (w.ticket q) x.epoch epoch ticket → (((f x).epoch ≡ x.epoch) ⊎ ((w.up s ≡ false) × (x.epoch ≤ (f x).epoch))) → IsGiven (w.up q) (w.ticket q) (f x).epoch epoch ticket
    one q x epoch ticket e k (inl same) = subst (λ n. IsGiven (w.up q) (w.ticket q) n epoch ticket) (sym same) k
    one q x epoch ticket e k (inr (down, le)) = (omega (arith, k.0, le), λ u. absurd (not_both (w.up q) u (subst (λ z. w.up z ≡ false) e down)))

    on : (q : ServerNo) (c : Pick) (epoch ticket : ℕ) → s ≡ q → IsGiven (w.up q) (w.ticket q) (w.found s c).epoch epoch ticket → (b : Bool) → IsGiven (w.up q) (w.ticket q) (if b then f (w.found s c) else w.found s c).epoch epoch ticket
    on q c epoch ticket e k true = one q (w.found s c) epoch ticket e k (keeps (w.found s c))
    on q c epoch ticket e k false = k

    at : (q : ServerNo) (c : Pick) (epoch ticket : ℕ) → ((d : Pick) → IsGiven (w.up q) (w.ticket q) (w.found q d).epoch epoch ticket) → TellsServer s q → IsGiven (w.up q) (w.ticket q) ((put s done f w).found q c).epoch epoch ticket
    at q c epoch ticket k (inl (t, e)) = subst (λ b. IsGiven (w.up q) (w.ticket q) (if b then (if done c then f (w.found s c) else w.found s c) else w.found q c).epoch epoch ticket) (sym t)
        (on q c epoch ticket e (subst (λ z. IsGiven (w.up q) (w.ticket q) (w.found z c).epoch epoch ticket) (sym e) (k c)) (done c))
    at q c epoch ticket k (inr (t, ne)) = subst (λ b. IsGiven (w.up q) (w.ticket q) (if b then (if done c then f (w.found s c) else w.found s c) else w.found q c).epoch epoch ticket) (sym t) (k c)

-- a change that is no raising of the epoch
same_epoch : (step : Change) (x : StableState) → (made_by step x).epoch ≡ x.epoch
same_epoch (AddReady head list reads) x = refl
same_epoch (MarkGoing W) x = refl
same_epoch (CarryOut W i) x = refl
same_epoch (RemoveWork W) x = refl
same_epoch (AddFlag flag) x = refl
same_epoch (DropFlag T) x = refl

-- one more ticket
more : (w : World) (s : ServerNo) (q : ServerNo) (now epoch ticket : ℕ) → IsGiven (w.up q) (w.ticket q) now epoch ticket → IsGiven (w.up q) (at_server w.ticket s (w.ticket s + 1) q) now epoch ticket
more w s q now epoch ticket k = (k.0, λ u e. by (k.1 u e) (server_tells s q))
  where
    by : ticket < w.ticket q → TellsServer s q → ticket < at_server w.ticket s (w.ticket s + 1) q
    by h (inl (t, e)) = subst (λ b. ticket < (if b then w.ticket s + 1 else w.ticket q)) (sym t) (let k : w.ticket s ≡ w.ticket q = ap w.ticket e in omega (arith, h, k))
    by h (inr (t, ne)) = subst (λ b. ticket < (if b then w.ticket s + 1 else w.ticket q)) (sym t) h

-- the new name itself
new : (w : World) (s : ServerNo) (now epoch ticket : ℕ) → epoch ≡ now → ticket ≡ w.ticket s → IsGiven (w.up s) (at_server w.ticket s (w.ticket s + 1) s) now epoch ticket
new w s now epoch ticket e n = (omega (arith, e), λ u k. by (server_tells s s))
  where
    by : TellsServer s s → ticket < at_server w.ticket s (w.ticket s + 1) s
    by (inl (t, q)) = subst (λ b. ticket < (if b then w.ticket s + 1 else w.ticket s)) (sym t) (omega (arith, n))
    by (inr (t, ne)) = absurd (ne refl)

-- a server comes up in a later epoch than any name's
restart_names : (w : World) (s : ServerNo) (x : StableState) → ((c : Pick) → w.found s c ≡ x) → ((W : WorkId) → W.server ≡ s → w.opened W ≡ true → W.epoch < x.epoch) → ((T : Tid) → T.server ≡ s → w.begun T ≡ true → T.epoch < x.epoch)
    → NamesFact w → NamesFact (restart s x w)
restart_names w s x one works tids h = record {
  works = λ W c b. by W.server c W.epoch W.ticket (λ e. works W (sym e) b) (h.works W c b) (server_tells s W.server);
  tids = λ T c b. by T.server c T.epoch T.ticket (λ e. tids T (sym e) b) (h.tids T c b) (server_tells s T.server);
}
  where
    by : (q : ServerNo) (c : Pick) (epoch ticket : ℕ) → (s ≡ q → epoch < x.epoch) → IsGiven (w.up q) (w.ticket q) (w.found q c).epoch epoch ticket → TellsServer s q
        → IsGiven (at_server w.up s true q) (at_server w.ticket s 0 q) (w.found q c).epoch epoch ticket
    by q c epoch ticket lt k (inl (t, e)) = (k.0, λ u same. let m = lt e in let f : (w.found q c).epoch ≡ x.epoch = ap (λ z. (w.found z c).epoch) (sym e) ∙ ap (λ (z : StableState). z.epoch) (one c) in absurd (omega (arith, m, f, same)))
    by q c epoch ticket lt k (inr (t, ne)) = subst (λ b. IsGiven (if b then true else w.up q) (if b then 0 else w.ticket q) (w.found q c).epoch epoch ticket) (sym t) k

-- where one state is found, no name is of a later epoch
before : (w : World) (s : ServerNo) (x : StableState) → MayRestart w s x → (q : ServerNo) → q ≡ s → (up : Bool) (next epoch ticket : ℕ) → IsGiven up next (w.found q (λ n. false)).epoch epoch ticket → epoch < (with_epoch x).epoch
before w s x may q e up next epoch ticket k = let f : (w.found q (λ n. false)).epoch ≡ x.epoch = ap (λ z. (w.found z (λ n. false)).epoch) e ∙ ap (λ (z : StableState). z.epoch) (may.one (λ n. false)) in let le = k.0 in omega (arith, le, f)

pub names_kept : (a : Atom) (w : World) → May a w → ((s : ServerNo) (x : StableState) → MayRestart w s x → MayRestart (put s always with_epoch w) s (with_epoch x)) → NamesFact w → NamesFact (after a w)
names_kept (Begin T) w may raised h = record {
  works = λ W c b. more w T.server W.server (w.found W.server c).epoch W.epoch W.ticket (h.works W c b);
  tids = λ U c b. by U c (at_tid_cases w.begun T true U true b);
}
  where
    by : (U : Tid) (c : Pick) → (((T ≡ U) × (true ≡ true)) ⊎ ((T ≢ U) × (w.begun U ≡ true))) → IsGiven (w.up U.server) (at_server w.ticket T.server (w.ticket T.server + 1) U.server) (w.found U.server c).epoch U.epoch U.ticket
    by U c (inl (e, q)) = subst (λ (z : Tid). IsGiven (w.up z.server) (at_server w.ticket T.server (w.ticket T.server + 1) z.server) (w.found z.server c).epoch z.epoch z.ticket) e (new w T.server (w.found T.server c).epoch T.epoch T.ticket (may.epoch c) may.ticket)
    by U c (inr (ne, q)) = more w T.server U.server (w.found U.server c).epoch U.epoch U.ticket (h.tids U c q)
names_kept (Open W T) w may raised h = record {
  works = λ V c b. by V c (at_work_cases w.opened W true V true b);
  tids = λ U c b. more w W.server U.server (w.found U.server c).epoch U.epoch U.ticket (h.tids U c b);
}
  where
    by : (V : WorkId) (c : Pick) → (((W ≡ V) × (true ≡ true)) ⊎ ((W ≢ V) × (w.opened V ≡ true))) → IsGiven (w.up V.server) (at_server w.ticket W.server (w.ticket W.server + 1) V.server) (w.found V.server c).epoch V.epoch V.ticket
    by V c (inl (e, q)) = subst (λ (z : WorkId). IsGiven (w.up z.server) (at_server w.ticket W.server (w.ticket W.server + 1) z.server) (w.found z.server c).epoch z.epoch z.ticket) e (new w W.server (w.found W.server c).epoch W.epoch W.ticket (may.epoch c) may.ticket)
    by V c (inr (ne, q)) = more w W.server V.server (w.found V.server c).epoch V.epoch V.ticket (h.works V c q)
names_kept (Prepare done head list reads) w may raised h = put_names (lose head.work w) head.work.server done (made_by (AddReady head list reads)) (λ x. inl refl) (record { works = h.works; tids = h.tids })
names_kept (Make done step) w may raised h = put_names w (server_of step) done (made_by step) (λ x. inl (same_epoch step x)) h
names_kept (Decide flag) w may raised h = let k = put_names w flag.tid.server always (made_by (AddFlag flag)) (λ x. inl refl) h in record { works = k.works; tids = k.tids }
names_kept (RaiseEpoch s done) w may raised h = put_names w s done with_epoch (λ x. inr (may, omega arith)) h
names_kept (Narrow s g) w may raised h = record { works = λ W c b. at W.server c W.epoch W.ticket (λ d. h.works W d b) (server_tells s W.server); tids = λ T c b. at T.server c T.epoch T.ticket (λ d. h.tids T d b) (server_tells s T.server) }
  where
    at : (q : ServerNo) (c : Pick) (epoch ticket : ℕ) → ((d : Pick) → IsGiven (w.up q) (w.ticket q) (w.found q d).epoch epoch ticket) → TellsServer s q → IsGiven (w.up q) (w.ticket q) (if server_eq s q then w.found s (g c) else w.found q c).epoch epoch ticket
    at q c epoch ticket k (inl (t, e)) = subst (λ b. IsGiven (w.up q) (w.ticket q) (if b then w.found s (g c) else w.found q c).epoch epoch ticket) (sym t) (subst (λ z. IsGiven (w.up q) (w.ticket q) (w.found z (g c)).epoch epoch ticket) (sym e) (k (g c)))
    at q c epoch ticket k (inr (t, ne)) = subst (λ b. IsGiven (w.up q) (w.ticket q) (if b then w.found s (g c) else w.found q c).epoch epoch ticket) (sym t) (k c)
names_kept (CarryPart W i is) w may raised h = record { works = λ V c b. at V.server c V.epoch V.ticket (h.works V c b) (server_tells W.server V.server); tids = λ T c b. at T.server c T.epoch T.ticket (h.tids T c b) (server_tells W.server T.server) }
  where
    at : (q : ServerNo) (c : Pick) (epoch ticket : ℕ) → IsGiven (w.up q) (w.ticket q) (w.found q c).epoch epoch ticket → TellsServer W.server q → IsGiven (w.up q) (w.ticket q) (if server_eq W.server q then carried_at (is c) i (w.found W.server c) else w.found q c).epoch epoch ticket
    at q c epoch ticket k (inl (t, e)) = subst (λ b. IsGiven (w.up q) (w.ticket q) (if b then carried_at (is c) i (w.found W.server c) else w.found q c).epoch epoch ticket) (sym t) (subst (λ z. IsGiven (w.up q) (w.ticket q) (w.found z c).epoch epoch ticket) (sym e) k)
    at q c epoch ticket k (inr (t, ne)) = subst (λ b. IsGiven (w.up q) (w.ticket q) (if b then carried_at (is c) i (w.found W.server c) else w.found q c).epoch epoch ticket) (sym t) k
names_kept (Crash s) w may raised h = record { works = λ W c b. let k = h.works W c b in (k.0, λ u. k.1 (still W.server u)); tids = λ T c b. let k = h.tids T c b in (k.0, λ u. k.1 (still T.server u)) }
  where
    still : (q : ServerNo) → at_server w.up s false q ≡ true → w.up q ≡ true
    still q u = grind arith
names_kept (Restart s x) w may raised h = restart_names (put s always with_epoch w) s (with_epoch x) (raised s x may).one
    (λ W at b. before w s x may W.server at (w.up W.server) (w.ticket W.server) W.epoch W.ticket (h.works W (λ n. false) b)) (λ T at b. before w s x may T.server at (w.up T.server) (w.ticket T.server) T.epoch T.ticket (h.tids T (λ n. false) b))
    (put_names w s always with_epoch (λ y. inr (may.down, omega arith)) h)
names_kept _ w may raised h = record { works = h.works; tids = h.tids }
