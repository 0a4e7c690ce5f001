-- A settle with these servers up leaves no flag.
use Rattle.jn_system_settling.proofs.Common.{◌≡◌, ◌≢◌, ◌⊎◌, inl, inr, ◌≤◌, ◌<◌, ℕ, zero, suc, ◌+◌, Bool, true, false, List, [], ◌∷◌, Option, Some, None, is_some, true≢false, refl, sym, ◌∙◌, ap, subst, arith, ◌&&◌, not, if◌then◌else◌, nat_lt, nat_eq, length, list_any, nat_tests, ServerNo, Tid, WorkId, server_eq, tid_eq, work_eq, work_tells, AllFiles, Work, Transaction, Stage, Committed, Commitment, StableState, FlagState, stable, is_going, Sent, WorkerTable, work_at, going_work, transaction_at, is_work, all_in, World, Memory, opening, new_memory, servers_from, Course, Chance, clients_from, until_rest, is_few, are_near, is_small_stage, is_committed, committed_at, TableSizes, ServerSizes, IsAtRest, NothingGoes, AreUp, AreForgotten, going-is, opening-reached, some-memory}
use Rattle.jn_system_settling.proofs.AtRest.Within.{found-small, near-one}
use Rattle.jn_system_settling.proofs.AtRest.Ways.{Waits}
use Rattle.jn_system_settling.proofs.AtRest.Ends.{all-ready}
use Rattle.jn_system_settling.proofs.Settling.Settling.{nothing-goes}
use Rattle.jn_system_settling.proofs.AtRest.Begins.{Good, good-go}
use Rattle.jn_system_settling.proofs.AtRest.Answers.{rest-good}
use Rattle.jn_system_settling.proofs.AtRest.Fates.{is_unfinished}
use Rattle.jn_system_settling.proofs.AtRest.Memories.{found-unfinished}
use Rattle.jn_system_settling.proofs.AtRest.Broken.{BrokenTold, run-told}
use Rattle.jn_system_settling.proofs.AtRest.Calm.{rest-calm}
use Rattle.jn_system_settling.proofs.AtRest.Standing.{inv, up-at}
use Rattle.jn_system_settling.proofs.AtRest.Flags.{Carries, to_commit, goes_on, to_finish, Thanking, to_client, to_server, Progress, FlagWay, client-flags, server-flags, work-flags, ask-flags}
use Rattle.jn_system_settling.proofs.AtRest.Settling.{course-twin, first_part, asked_again, second_part}
use Rattle.jn_system_settling.proofs.AtRest.EndsWait.{inside, reached, unfinished, good, good-middle, asked}

-- ---- tables

pub going-found : (x : StableState) (t : WorkerTable) (v : Work) → going_work x t ≡ Some v → work_at v.name t ≡ Some v
going-found x [] v e = absurd (cc e)
going-found x (y ∷ ys) v e = by (is_going (x.works y.name)) refl e (going-found x ys v) (work_tells y.name v.name)
  where
    some : Some y ≡ Some v → y ≡ v
    some q = cc

    own : work_eq y.name y.name ≡ true
    own = grind (arith, work_tells y.name y.name)

    by : (b : Bool) → is_going (x.works y.name) ≡ b → (if b then Some y else going_work x ys) ≡ Some v → (going_work x ys ≡ Some v → work_at v.name ys ≡ Some v) → ((work_eq y.name v.name ≡ true) × (y.name ≡ v.name)) ⊎ ((work_eq y.name v.name ≡ false) × (y.name ≢ v.name))
        → (if work_eq y.name v.name then Some y else work_at v.name ys) ≡ Some v
    by true g q again p = subst (λ (z : Work). (if work_eq y.name z.name then Some y else work_at z.name ys) ≡ Some z) (some q) (ap (λ (b : Bool). if b then Some y else work_at y.name ys) own)
    by false g q again (inl p) = absurd (true≢false (sym (going-is x ys v q) ∙ ap (λ (V : WorkId). is_going (x.works V)) (sym p.1) ∙ g))
    by false g q again (inr p) = ap (λ (b : Bool). if b then Some y else work_at v.name ys) p.0 ∙ again q

committed-there : (T : Tid) (xs : List Transaction) → committed_at T xs ≡ true → (x : Transaction) × (cm : Commitment) × (transaction_at T xs ≡ Some x) × (x.stage ≡ Committed cm)
committed-there T [] h = absurd (true≢false (sym h))
committed-there T (y ∷ ys) h = by (tid_eq y.tid T) h (committed-there T ys)
  where
    its : (s : Stage) → y.stage ≡ s → is_committed s ≡ true → (cm : Commitment) × (y.stage ≡ Committed cm)
    its (Committed cm) e k = (cm, e)
    its s e k = absurd (true≢false (sym k))

    by : (b : Bool) → (if b then is_committed y.stage else committed_at T ys) ≡ true → (committed_at T ys ≡ true → (x : Transaction) × (cm : Commitment) × (transaction_at T ys ≡ Some x) × (x.stage ≡ Committed cm))
        → (x : Transaction) × (cm : Commitment) × ((if b then Some y else transaction_at T ys) ≡ Some x) × (x.stage ≡ Committed cm)
    by true k again = let c = its y.stage refl k in (y, c.0, refl, c.1)
    by false k again = again k

pub among-servers : (m s : ℕ) (q : ServerNo) → s ≤ q.0 → q.0 < s + m → list_any (λ z. server_eq z q) (servers_from s m) ≡ true
among-servers zero s q l k = absurd (omega (arith, l, k))
among-servers (suc m) s q l k = by (nat_eq s q.0) refl (among-servers m (s + 1) q)
  where
    by : (b : Bool) → nat_eq s q.0 ≡ b → (s + 1 ≤ q.0 → q.0 < s + 1 + m → list_any (λ z. server_eq z q) (servers_from (s + 1) m) ≡ true) → list_any (λ z. server_eq z q) (servers_from s (suc m)) ≡ true
    by true e again = grind (arith, nat_tests, e)
    by false e again = let on = again (grind (arith, nat_tests, e, l)) (omega (arith, k)) in grind (arith, nat_tests, on)

module _ (n : ℕ) (at_most : n ≤ 8) (files : AllFiles) (epochs : ServerNo → ℕ) where
  abbrev start : World
  start = opening n files epochs

  abbrev IsGood : Course → Type 0
  IsGood d = Good n at_most start files epochs d

  pub broken : (d : Course) → IsGood d → BrokenTold d.world
  broken d h = let c = h.talking.sound.course in subst (λ (z : World). BrokenTold z) c.stands (run-told files epochs d.steps start c.is_run (opening-reached files epochs n) none)
    where
      none : BrokenTold start
      none s m W v u by e f p = absurd (no (ap (λ (z : Memory). work_at W z.worker) (some-memory (new_memory s (epochs s)) m e) ∙ f))
        where
          no : None ≡ Some v → ⊥
          no q = cc

  module _ (first second : ℕ → Chance) (c : Course) (i k : ℕ) (h : IsGood c) (rests : IsAtRest n (second_part n at_most files epochs second k (first_part n at_most files epochs first i c)))
      (up : AreUp n (second_part n at_most files epochs second k (first_part n at_most files epochs first i c)).world) where
    abbrev middle : Course
    middle = asked_again n at_most files epochs (until_rest (servers_from 0 n) first i c)

    abbrev last : Course
    last = second_part n at_most files epochs second k (first_part n at_most files epochs first i c)

    pub good-last : IsGood last
    good-last = rest-good n at_most start files epochs (course-twin n at_most files epochs) k second middle (good-middle n at_most files epochs first second c i k h rests up)

    pub last-idle : NothingGoes n last.world
    last-idle = nothing-goes n start last good-last.talking.sound rests.idle

    pub last-flags : (T : Tid) → T.server.0 < n → FlagWay n at_most files epochs (reached n at_most files epochs) broken T last
    last-flags T near = rest-calm n at_most start IsGood (λ d h. h.talking.sound) (good-go n at_most start files epochs) (inside n at_most files epochs) (FlagWay n at_most files epochs (reached n at_most files epochs) broken T)
        (λ d now k e message g is comes first h. client-flags n at_most files epochs (reached n at_most files epochs) broken T d now k e message g is comes h)
        (λ d now k room s message m g is up comes first h. server-flags n at_most files epochs (reached n at_most files epochs) broken T d now k room s message m g is up comes h)
        (λ d now s m v g e up goes comes h. work-flags n at_most files epochs (reached n at_most files epochs) broken T d now s m v g e up goes (going-found (stable (d.world.found s)) m.worker v goes) comes h)
        k second middle (good-middle n at_most files epochs first second c i k h rests up) up
        (ask-flags n at_most files epochs (reached n at_most files epochs) broken T (clients_from 1 8) (servers_from 0 n) (until_rest (servers_from 0 n) first i c) middle (good n at_most files epochs first second c i k h rests up)
        (asked n at_most files epochs first second c i k h rests up) (among-servers n 0 T.server (omega arith) (omega (arith, near))))

    memory-at : (s : ServerNo) → s.0 < n → (m : Memory) × (last.world.memory s ≡ Some m)
    memory-at s near = by (last.world.memory s) refl
      where
        by : (o : Option Memory) → last.world.memory s ≡ o → (m : Memory) × (last.world.memory s ≡ Some m)
        by (Some m) e = (m, e)
        by None e = absurd (true≢false (sym (up s near) ∙ ap is_some e))

    sizes-at : (s : ServerNo) (m : Memory) → last.world.memory s ≡ Some m → TableSizes n m (stable (last.world.found s))
    sizes-at s m e = subst (λ o. ServerSizes n o (last.world.found s)) e (good-last.talking.sound.sizes.tables s)

    nothing-waits : (x : Sent) → Waits last.world.sent last.waiting x → ⊥
    nothing-waits x w = true≢false (sym w.waits ∙ ap (λ l. list_any (nat_eq w.number) l) rests.waits)

    -- none has committed
    none-left : (T : Tid) → T.server.0 < n → (m : Memory) (x : Transaction) (cm : Commitment) → last.world.memory T.server ≡ Some m → transaction_at T m.coordinator.transactions ≡ Some x → x.stage ≡ Committed cm → ⊥
    none-left T near m x cm is found stage = true≢false (sym (found-unfinished T m.coordinator.transactions x (unfinished n at_most files epochs last good-last T.server m is) found) ∙ ap is_unfinished stage ∙ finished)
      where
        p : Progress n at_most files epochs (reached n at_most files epochs) broken T last x cm
        p = (last-flags T near).each m x cm is found stage

        few : is_few n cm.works ≡ true
        few = subst (λ (z : Stage). is_small_stage n z ≡ true) stage (found-small n T m.coordinator.transactions x (sizes-at T.server m is).stages found)

        its-near : (W : WorkId) → is_work W cm.works ≡ true → W.server.0 < n
        its-near W work = let at = near-one n W cm.works (second-of (not (nat_lt n (length cm.works))) (are_near n cm.works) few) work in grind (arith, nat_tests, at)
          where
            second-of : (a b : Bool) → (a && b) ≡ true → b ≡ true
            second-of a b h = grind arith

        done-each : (W : WorkId) → is_work W cm.works ≡ true → (is_work W cm.done ≡ true) ⊎ Carries n at_most files epochs (reached n at_most files epochs) broken T last W → is_work W cm.done ≡ true
        done-each W work (inl q) = q
        done-each W work (inr (to_commit w)) = absurd (nothing-waits _ w)
        done-each W work (inr (to_finish w)) = absurd (nothing-waits _ w)
        done-each W work (inr (goes_on q)) = let at = memory-at W.server (its-near W work) in absurd (true≢false (sym q ∙ last-idle W.server at.0 (λ n. false) W (its-near W work) at.1))

        all : all_in cm.works cm.done ≡ true
        all = all-ready cm.works cm.done (λ W work. done-each W work (p.works W work))

        thanks : (cm.thanked ≡ true) ⊎ Thanking n at_most files epochs (reached n at_most files epochs) broken T last x.client → cm.thanked ≡ true
        thanks (inl q) = q
        thanks (inr (to_client w)) = absurd (nothing-waits _ w)
        thanks (inr (to_server w)) = absurd (nothing-waits _ w)

        finished : not (cm.thanked && all_in cm.works cm.done) ≡ false
        finished = let t = thanks p.thanks in let a = all in grind (arith, t, a)

    pub no-flags : AreForgotten n last.world
    no-flags s pick T near = by ((last.world.found s pick).flags T) refl
      where
        at : (m : Memory) × (last.world.memory s ≡ Some m)
        at = memory-at s near

        flagged : is_some ((last.world.found s pick).flags T) ≡ true → committed_at T at.0.coordinator.transactions ≡ true
        flagged e = (sizes-at s at.0 at.1).flags T (ap (λ (x : StableState). is_some (x.flags T)) (sym ((up-at files epochs last.world (reached n at_most files epochs last good-last) s at.0 at.1).same pick)) ∙ e)

        place : (f : FlagState) → (last.world.found s pick).flags T ≡ Some f → T.server ≡ s
        place f e = (((inv files epochs last.world (reached n at_most files epochs last good-last)).core.states s pick).flag T f (ap (λ x. x.flags T) ((let R = reached n at_most files epochs last good-last in R.mirrors.found s pick)) ∙ e)).place

        none : (f : FlagState) → (last.world.found s pick).flags T ≡ Some f → ⊥
        none f e = let x = committed-there T at.0.coordinator.transactions (flagged (ap is_some e)) in
            none-left T (subst (λ (z : ServerNo). z.0 < n) (sym (place f e)) near) at.0 x.0 x.1 (ap last.world.memory (place f e) ∙ at.1) x.2 x.3

        by : (o : Option FlagState) → (last.world.found s pick).flags T ≡ o → (last.world.found s pick).flags T ≡ None
        by None e = e
        by (Some f) e = absurd (none f e)
