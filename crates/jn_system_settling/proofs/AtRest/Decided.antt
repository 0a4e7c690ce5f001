-- A settle with these servers up leaves a live work only of a transaction that is undecided or was reported, or that it opened; and so
-- it settles.
use Rattle.jn_system_settling.proofs.Common.{◌≡◌, ◌≢◌, ◌⊎◌, inl, inr, ◌≤◌, ◌<◌, ℕ, Bool, true, false, List, [], ◌∷◌, length, Option, Some, None, is_some, true≢false, refl, sym, ◌∙◌, ap, subst, arith, ◌&&◌, ◌||◌, if◌then◌else◌, nat_eq, list_any, ServerNo, ClientNo, Tid, WorkId, Server, Command, Begin, OpenAt, Do, End, Abort, client_eq, tid_eq, work_eq, client_tells, tid_tells, work_tells, AllFiles, Outstanding, Work, StableState, stable, is_going, Sent, WorkerTable, work_at, worker_again, coordinator_again, ClientTable, is_tid, is_current, is_end_or_abort, sent_again, again_row, World, Memory, opening, servers_from, sent_now, is_closing, Course, Chance, clients_from, until_rest, IsAtRest, get-in, AreUp, entry_in, live_at, holds_undecided, tells_outcome, own_texts, AreDecided, IsSettled, LeavesBetween, some-memory}
use Rattle.jn_msgs.specs.declared.message.Message.TheVariants as messages
use Rattle.jn_system_settling.proofs.Settling.Settling.{nothing-goes}
use Rattle.jn_system_settling.proofs.AtRest.Ways.{Has}
use Rattle.jn_system_settling.proofs.AtRest.Talk.{FitsCommand}
use Rattle.jn_system_settling.proofs.AtRest.Begins.{Good, good-go}
use Rattle.jn_system_settling.proofs.AtRest.Fates.{has-before}
use Rattle.jn_system_settling.proofs.AtRest.Calm.{Asked, more_at, rest-calm}
use Rattle.jn_system_settling.proofs.AtRest.About.{is_about}
use Rattle.jn_system_settling.proofs.AtRest.Living.{NotLive, IsOld, live-old}
use Rattle.jn_system_settling.proofs.AtRest.Order.{Before, IsOff, ask-before, ask-off}
use Rattle.jn_system_settling.proofs.AtRest.Taking.{IsIn}
use Rattle.jn_system_settling.proofs.AtRest.Deciding.{HasOld, still-old, still-gone, took-same, server-old, server-gone, work-old, work-gone, Way, asks, drops_it, commits_it, goes_on, over, held, tells, Voice, nobody, its_client, OnWay, its-work, nothing-waits, nothing-before, client-decides, server-decides, work-decides}
use Rattle.jn_system_settling.proofs.AtRest.Settling.{first_part, asked_again, second_part, settles, all-answered}
use Rattle.jn_system_settling.proofs.AtRest.EndsWait.{inside, reached, good, good-middle, asked, up-first, long, ends-wait}
use Rattle.jn_system_settling.proofs.AtRest.Forgotten.{broken, going-found, among-servers, good-last, last-idle, no-flags}

-- a work that doesn't go asks
inquire-has : (x : StableState) (t : WorkerTable) (W : WorkId) (v : Work) → work_at W t ≡ Some v → is_going (x.works W) ≡ false → Has (Server v.tid.server, messages.Inquire v.tid W) (worker_again x t)
inquire-has x [] W v e h = absurd (cc e)
inquire-has x (y ∷ ys) W v e h = by (work_tells y.name W) e (inquire-has x ys W v)
  where
    some : Some y ≡ Some v → y ≡ v
    some q = cc

    rest : (b : Bool) → Has (Server v.tid.server, messages.Inquire v.tid W) (worker_again x ys) → Has (Server v.tid.server, messages.Inquire v.tid W) (if b then worker_again x ys else (Server y.tid.server, messages.Inquire y.tid y.name) ∷ worker_again x ys)
    rest true k = k
    rest false k = inr k

    by : ((work_eq y.name W ≡ true) × (y.name ≡ W)) ⊎ ((work_eq y.name W ≡ false) × (y.name ≢ W)) → (if work_eq y.name W then Some y else work_at W ys) ≡ Some v
        → (work_at W ys ≡ Some v → is_going (x.works W) ≡ false → Has (Server v.tid.server, messages.Inquire v.tid W) (worker_again x ys))
        → Has (Server v.tid.server, messages.Inquire v.tid W) (if is_going (x.works y.name) then worker_again x ys else (Server y.tid.server, messages.Inquire y.tid y.name) ∷ worker_again x ys)
    by (inl p) q again = subst (λ (b : Bool). Has (Server v.tid.server, messages.Inquire v.tid W) (if b then worker_again x ys else (Server y.tid.server, messages.Inquire y.tid y.name) ∷ worker_again x ys)) (sym (ap (λ (V : WorkId). is_going (x.works V)) p.1 ∙ h))
        (inl (ap (λ (z : Work). (Server z.tid.server, messages.Inquire z.tid y.name)) (some (sym (ap (λ (b : Bool). if b then Some y else work_at W ys) p.0) ∙ q)) ∙ ap (λ (V : WorkId). (Server v.tid.server, messages.Inquire v.tid V)) p.1))
    by (inr p) q again = rest (is_going (x.works y.name)) (again (sym (ap (λ (b : Bool). if b then Some y else work_at W ys) p.0) ∙ q) h)

-- ---- who asks about a transaction

abbrev asks_of : Tid → ClientTable → Bool
asks_of T t = is_current t T && is_closing t.outstanding

one-of : (f : ClientNo → Bool) (cs : List ClientNo) → list_any f cs ≡ true → (c : ClientNo) × (f c ≡ true)
one-of f [] h = absurd (true≢false (sym h))
one-of f (c ∷ cs) h = by (f c) refl h (one-of f cs)
  where
    by : (b : Bool) → f c ≡ b → (b || list_any f cs) ≡ true → (list_any f cs ≡ true → (d : ClientNo) × (f d ≡ true)) → (d : ClientNo) × (f d ≡ true)
    by true e q again = (c, e)
    by false e q again = again q

none-of : (f : ClientNo → Bool) (cs : List ClientNo) (c : ClientNo) → list_any f cs ≡ false → list_any (λ z. client_eq z c) cs ≡ true → f c ≡ false
none-of f [] c h k = absurd (true≢false (sym k))
none-of f (e ∷ cs) c h k = by (client_tells e c) (none-of f cs c)
  where
    by : ((client_eq e c ≡ true) × (e ≡ c)) ⊎ ((client_eq e c ≡ false) × (e ≢ c)) → (list_any f cs ≡ false → list_any (λ z. client_eq z c) cs ≡ true → f c ≡ false) → f c ≡ false
    by (inl p) again = ap f (sym p.1) ∙ grind (arith, h)
    by (inr p) again = again (grind (arith, h)) (grind (arith, k, p.0))

asks-in : (T : Tid) (t : ClientTable) → asks_of T t ≡ true → IsIn T t
asks-in T t h = by t.outstanding refl t.transaction refl (left (is_tid T t.transaction) (is_closing t.outstanding) h) (right (is_tid T t.transaction) (is_closing t.outstanding) h)
  where
    left : (a b : Bool) → (a && b) ≡ true → a ≡ true
    left a b h = grind arith

    right : (a b : Bool) → (a && b) ≡ true → b ≡ true
    right a b h = grind arith

    by : (o : Option Outstanding) → t.outstanding ≡ o → (c : Option Tid) → t.transaction ≡ c → is_tid T t.transaction ≡ true → is_closing t.outstanding ≡ true → IsIn T t
    by None e c f k l = absurd (true≢false (sym l ∙ ap is_closing e))
    by (Some o) e None f k l = absurd (true≢false (sym k ∙ ap (is_tid T) f))
    by (Some o) e (Some U) f k l = record { command = o; waits = e; closing = sym (ap is_closing e) ∙ l; current = f ∙ ap (λ (z : Tid). Some z) (same (sym (ap (is_tid T) f) ∙ k)) }
      where
        same : tid_eq T U ≡ true → U ≡ T
        same q = let tells = tid_tells T U in grind (arith, q)

-- who doesn't ask about it sends nothing about it
quiet-client : (T : Tid) (t : ClientTable) → ((o : Outstanding) → t.outstanding ≡ Some o → FitsCommand t o o.command) → asks_of T t ≡ false → (y : Sent) → Has y (sent_now (again_row t)) → is_about T y.1 ≡ false
quiet-client T t fits none y h = by t.outstanding refl (subst (λ z. Has y (sent_now (sent_again z))) refl h)
  where
    -- an End or an Abort is of its own transaction
    other : (o : Outstanding) → t.outstanding ≡ Some o → is_end_or_abort o.command ≡ true → (U : Tid) → t.transaction ≡ Some U → tid_eq U T ≡ false
    other o e k U f = by (tid_tells U T)
      where
        by : ((tid_eq U T ≡ true) × (U ≡ T)) ⊎ ((tid_eq U T ≡ false) × (U ≢ T)) → tid_eq U T ≡ false
        by (inr p) = p.0
        by (inl p) = absurd (true≢false (sym (both (is_current t T) (is_closing t.outstanding) (ap (is_tid T) f ∙ own) (ap is_closing e ∙ k)) ∙ none))
          where
            own : tid_eq T U ≡ true
            own = let q = p.1 in grind (arith, tid_tells T U, q)

            both : (a b : Bool) → a ≡ true → b ≡ true → (a && b) ≡ true
            both a b h k = grind arith

    message : (o : Outstanding) → t.outstanding ≡ Some o → (c : Command) → o.command ≡ c → FitsCommand t o c → is_about T o.message ≡ false
    message o e (Begin s) q f = ap (is_about T) f.1
    message o e (OpenAt s) q f = ap (is_about T) f.3
    message o e (Do s op) q f = ap (is_about T) f.2
    message o e End q f = ap (is_about T) f.3 ∙ other o e (ap is_end_or_abort q) f.0 f.1
    message o e Abort q f = ap (is_about T) f.3 ∙ other o e (ap is_end_or_abort q) f.0 f.1

    by : (o : Option Outstanding) → t.outstanding ≡ o → Has y (sent_now (sent_again t.outstanding)) → is_about T y.1 ≡ false
    by o e k = at o e (subst (λ z. Has y (sent_now (sent_again z))) e k)
      where
        at : (o : Option Outstanding) → t.outstanding ≡ o → Has y (sent_now (sent_again o)) → is_about T y.1 ≡ false
        at None e k = absurd k
        at (Some o) e (inl q) = ap (λ (z : Sent). is_about T z.1) (sym q) ∙ message o e o.command refl (fits o e)
        at (Some o) e (inr k) = absurd k

-- ---- what is live

-- its entry at its server
pub entry-of : (w : World) (W : WorkId) (v : Work) → live_at w W ≡ Some v → (m : Memory) × (w.memory W.server ≡ Some m) × (work_at W m.worker ≡ Some v)
entry-of w W v e = by (w.memory W.server) refl e
  where
    by : (o : Option Memory) → w.memory W.server ≡ o → entry_in o W ≡ Some v → (m : Memory) × (w.memory W.server ≡ Some m) × (work_at W m.worker ≡ Some v)
    by None q f = absurd (cc f)
    by (Some m) q f = (m, q, f)

-- it isn't there
pub not-there : (w : World) (W : WorkId) (v : Work) → live_at w W ≡ Some v → NotLive w W → ⊥
not-there w W v e q = no (sym q.none ∙ sym (ap (λ o. entry_in o W) q.up) ∙ e)
  where
    no : None ≡ Some v → ⊥
    no z = cc

-- ---- a settle

module _ (n : ℕ) (at_most : n ≤ 8) (files : AllFiles) (epochs : ServerNo → ℕ) where
  abbrev start : World
  start = opening n files epochs

  abbrev IsGood : Course → Type 0
  IsGood d = Good n at_most start files epochs d

  module _ (W : WorkId) where
    abbrev Old : Course → Type 0
    Old d = HasOld n at_most files epochs (reached n at_most files epochs) (broken n at_most files epochs) W d

    rest-old : (j : ℕ) (chances : ℕ → Chance) (d : Course) → IsGood d → AreUp n (until_rest (servers_from 0 n) chances j d).world → Old d → Old (until_rest (servers_from 0 n) chances j d)
    rest-old = rest-calm n at_most start IsGood (λ d h. h.talking.sound) (good-go n at_most start files epochs) (inside n at_most files epochs) Old
        (λ d now k c message g is comes first h. still-old n at_most files epochs (reached n at_most files epochs) (broken n at_most files epochs) W d now (took-same n at_most files epochs (reached n at_most files epochs) (broken n at_most files epochs) W d now k c message comes) h)
        (λ d now k room s message m g is up comes first h. server-old n at_most files epochs (reached n at_most files epochs) (broken n at_most files epochs) W d now k room s message m g up comes h)
        (λ d now s m v g e up goes comes h. work-old n at_most files epochs (reached n at_most files epochs) (broken n at_most files epochs) W d now s m v g up comes h)

    pub rest-gone : (j : ℕ) (chances : ℕ → Chance) (d : Course) → IsGood d → AreUp n (until_rest (servers_from 0 n) chances j d).world → NotLive d.world W → NotLive (until_rest (servers_from 0 n) chances j d).world W
    rest-gone = rest-calm n at_most start IsGood (λ d h. h.talking.sound) (good-go n at_most start files epochs) (inside n at_most files epochs) (λ d. NotLive d.world W)
        (λ d now k c message g is comes first h. still-gone n at_most files epochs (reached n at_most files epochs) (broken n at_most files epochs) W d now (took-same n at_most files epochs (reached n at_most files epochs) (broken n at_most files epochs) W d now k c message comes) h)
        (λ d now k room s message m g is up comes first h. server-gone n at_most files epochs (reached n at_most files epochs) (broken n at_most files epochs) W d now k room s message m g up comes h)
        (λ d now s m v g e up goes comes h. work-gone n at_most files epochs (reached n at_most files epochs) (broken n at_most files epochs) W d now s m v g up comes h)

  module _ (first second : ℕ → Chance) (c : Course) (i k : ℕ) (h : IsGood c) (rests-first : IsAtRest n (first_part n at_most files epochs first i c)) (rests : IsAtRest n (second_part n at_most files epochs second k (first_part n at_most files epochs first i c)))
      (up : AreUp n (second_part n at_most files epochs second k (first_part n at_most files epochs first i c)).world) where
    abbrev d : Course
    d = until_rest (servers_from 0 n) first i c

    abbrev middle : Course
    middle = asked_again n at_most files epochs (until_rest (servers_from 0 n) first i c)

    abbrev last : Course
    last = second_part n at_most files epochs second k (first_part n at_most files epochs first i c)

    good-d : IsGood d
    good-d = good n at_most files epochs first second c i k h rests up

    middle-good : IsGood middle
    middle-good = good-middle n at_most files epochs first second c i k h rests up

    last-good : IsGood last
    last-good = good-last n at_most files epochs first second c i k h rests up

    asked-so : Asked (clients_from 1 8) (servers_from 0 n) d middle
    asked-so = asked n at_most files epochs first second c i k h rests up

    up-d : AreUp n d.world
    up-d = up-first n at_most files epochs first second c i k h rests up

    -- one that was live when the servers asked
    module _ (W : WorkId) (near : W.server.0 < n) (v : Work) (m : Memory) (up-m : d.world.memory W.server ≡ Some m) (live : work_at W m.worker ≡ Some v) where
      abbrev T : Tid
      T = v.tid

      idle : is_going ((stable (d.world.found W.server)).works W) ≡ false
      idle = nothing-goes n start d good-d.talking.sound rests-first.idle W.server m (λ n. false) W near up-m

      before-asks : Before middle.world.sent middle.waiting (Server T.server, messages.Inquire T W)
      before-asks = ask-before n at_most start IsGood (λ d h. h.talking.sound) (good-go n at_most start files epochs) (clients_from 1 8) (servers_from 0 n) W.server d (Server T.server, messages.Inquire T W) good-d (among-servers n 0 W.server (omega arith) (omega (arith, near)))
          (subst (λ o. Has (Server T.server, messages.Inquire T W) (more_at o (d.world.found W.server))) (sym up-m) (has-before (worker_again (stable (d.world.found W.server)) m.worker) (coordinator_again m.coordinator.transactions) _ (inquire-has (stable (d.world.found W.server)) m.worker W v live idle)))

      nothing-yet : IsOff T d
      nothing-yet y w = absurd (true≢false (sym w.waits ∙ ap (λ l. list_any (nat_eq w.number) l) rests-first.waits))

      voice : Voice n at_most files epochs (reached n at_most files epochs) (broken n at_most files epochs) W T (length c.world.lines) middle
      voice = by (list_any (λ e. asks_of T (d.world.clients e)) (clients_from 1 8)) refl
        where
          by : (b : Bool) → list_any (λ e. asks_of T (d.world.clients e)) (clients_from 1 8) ≡ b → Voice n at_most files epochs (reached n at_most files epochs) (broken n at_most files epochs) W T (length c.world.lines) middle
          by true q = let one = one-of (λ e. asks_of T (d.world.clients e)) (clients_from 1 8) q in its_client one.0 (subst (λ f. IsIn T (f one.0)) (sym asked-so.tables) (asks-in T (d.world.clients one.0) one.1))
          by false q = nobody (ask-off n at_most start IsGood (λ d h. h.talking.sound) (good-go n at_most start files epochs) T (clients_from 1 8) (servers_from 0 n) d good-d
              (λ e among y has. quiet-client T (d.world.clients e) (good-d.talking.talks e).fits (none-of (λ e. asks_of T (d.world.clients e)) (clients_from 1 8) e q among) y has) nothing-yet)

      on-way : OnWay n at_most files epochs (reached n at_most files epochs) (broken n at_most files epochs) W T (length c.world.lines) last
      on-way = rest-calm n at_most start IsGood (λ d h. h.talking.sound) (good-go n at_most start files epochs) (inside n at_most files epochs) (OnWay n at_most files epochs (reached n at_most files epochs) (broken n at_most files epochs) W T (length c.world.lines))
          (λ d now k e message g is comes first h. client-decides n at_most files epochs (reached n at_most files epochs) (broken n at_most files epochs) W T (length c.world.lines) d now k e message g is comes first h)
          (λ d now k room s message m g is up comes first h. server-decides n at_most files epochs (reached n at_most files epochs) (broken n at_most files epochs) W T (length c.world.lines) d now k room s message m g is up comes first h)
          (λ d now s m v g e up goes comes h. work-decides n at_most files epochs (reached n at_most files epochs) (broken n at_most files epochs) W T (length c.world.lines) d now s m v g e up (going-found (stable (d.world.found s)) m.worker v goes) comes h)
          k second middle middle-good up (record {
            long = long n at_most files epochs first second c i k h rests up;
            asked = get-in middle.world.sent before-asks.number _ before-asks.is;
            state = inr (asks before-asks, voice);
          })

      module _ (z : Work) (there : live_at last.world W ≡ Some z) where
        same-tid : v.tid ≡ z.tid
        same-tid = let at = entry-of last.world W z there in sym (its-work n at_most files epochs (reached n at_most files epochs) (broken n at_most files epochs) W T (length c.world.lines) last last-good on-way.asked).1 ∙ ((reached n at_most files epochs last last-good).mirrors.owner W.server at.0 W z at.1 at.2).1

        decided : (holds_undecided (last.world.memory T.server) T ≡ true) ⊎ (list_any (tells_outcome T) (own_texts c.world last.world) ≡ true)
        decided = by on-way.state
          where
            way : Way n at_most files epochs (reached n at_most files epochs) (broken n at_most files epochs) W T (length c.world.lines) last → holds_undecided (last.world.memory T.server) T ≡ true
            way (asks b) = absurd (nothing-before n at_most files epochs (reached n at_most files epochs) (broken n at_most files epochs) W T (length c.world.lines) last _ rests.waits b)
            way (drops_it w) = absurd (nothing-waits n at_most files epochs (reached n at_most files epochs) (broken n at_most files epochs) W T (length c.world.lines) last _ rests.waits w)
            way (commits_it w) = absurd (nothing-waits n at_most files epochs (reached n at_most files epochs) (broken n at_most files epochs) W T (length c.world.lines) last _ rests.waits w)
            way (tells e cause j w) = absurd (nothing-waits n at_most files epochs (reached n at_most files epochs) (broken n at_most files epochs) W T (length c.world.lines) last _ rests.waits w)
            way (goes_on q) = let at = entry-of last.world W z there in absurd (true≢false (sym q ∙ last-idle n at_most files epochs first second c i k h rests up W.server at.0 (λ n. false) W near at.1))
            way (over q) = absurd (not-there last.world W z there q)
            way (held q none) = q

            by : (list_any (tells_outcome T) (own_texts c.world last.world) ≡ true) ⊎ (Way n at_most files epochs (reached n at_most files epochs) (broken n at_most files epochs) W T (length c.world.lines) last × Voice n at_most files epochs (reached n at_most files epochs) (broken n at_most files epochs) W T (length c.world.lines) last)
                → (holds_undecided (last.world.memory T.server) T ≡ true) ⊎ (list_any (tells_outcome T) (own_texts c.world last.world) ≡ true)
            by (inl q) = inr q
            by (inr p) = inl (way p.0)

    abbrev Decides : WorkId → Work → Type 0
    Decides W z = (holds_undecided (last.world.memory z.tid.server) z.tid ≡ true) ⊎ ((list_any (tells_outcome z.tid) (own_texts c.world last.world) ≡ true) ⊎ (live_at c.world W ≡ None))

    pub are-decided : AreDecided n c.world last.world
    are-decided W z near there = by (live_at c.world W) refl
      where
        old-then : (v : Work) → live_at c.world W ≡ Some v → Old W d
        old-then v e = let at = entry-of c.world W v e in rest-old W i first c h up-d
            (λ m q. subst (λ (y : Memory). IsOld W y.tickets) (some-memory at.0 m (sym at.1 ∙ q)) (live-old files epochs c.world (reached n at_most files epochs c h) W at.0 v at.1 at.2))

        memory-d : (m : Memory) × (d.world.memory W.server ≡ Some m)
        memory-d = by (d.world.memory W.server) refl
          where
            by : (o : Option Memory) → d.world.memory W.server ≡ o → (m : Memory) × (d.world.memory W.server ≡ Some m)
            by (Some m) e = (m, e)
            by None e = absurd (true≢false (sym (up-d W.server near) ∙ ap is_some e))

        then-live : (v : Work) → live_at c.world W ≡ Some v → (o : Option Work) → work_at W memory-d.0.worker ≡ o → Decides W z
        then-live v e None q = absurd (not-there last.world W z there (rest-gone W k second middle middle-good up (record { memory = memory-d.0; up = ap (λ f. f W.server) asked-so.memory ∙ memory-d.1; none = q; old = old-then v e memory-d.0 memory-d.1 })))
        then-live v e (Some u) q = on (decided W near u memory-d.0 memory-d.1 q z there)
          where
            same : u.tid ≡ z.tid
            same = same-tid W near u memory-d.0 memory-d.1 q z there

            on : (holds_undecided (last.world.memory u.tid.server) u.tid ≡ true) ⊎ (list_any (tells_outcome u.tid) (own_texts c.world last.world) ≡ true) → Decides W z
            on (inl a) = inl (subst (λ (U : Tid). holds_undecided (last.world.memory U.server) U ≡ true) same a)
            on (inr a) = inr (inl (subst (λ (U : Tid). list_any (tells_outcome U) (own_texts c.world last.world) ≡ true) same a))

        by : (o : Option Work) → live_at c.world W ≡ o → Decides W z
        by None e = inr (inr e)
        by (Some v) e = then-live v e (work_at W memory-d.0.worker) refl

  pub settle-settles : (first second : ℕ → Chance) (c : Course) → IsGood c → LeavesBetween n first second c (IsSettled n)
  settle-settles first second c h = settles n at_most files epochs first second c (IsSettled n) h (λ i k one two up. record {
    waits = two.waits;
    goes = last-idle n at_most files epochs first second c i k h two up;
    answers = all-answered n at_most files epochs first second c i k h two up;
    ends = ends-wait n at_most files epochs first second c i k h two up;
    flags = no-flags n at_most files epochs first second c i k h two up;
    works = are-decided first second c i k h one two up;
  })
