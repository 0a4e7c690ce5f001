-- A restart as steps of the machine: fewer states may be found, what its flags say is named, and the server comes up.
use Rattle.jn_system_order.proofs.Common.{◌≡◌, ◌≢◌, ◌⊎◌, inl, inr, ◌+◌, Bool, true, false, List, [], ◌∷◌, ◌++◌, Option, Some, None, is_some, refl, sym, ◌∙◌, ap, subst, arith, ◌&&◌, ◌||◌, if◌then◌else◌, list_any, list_all, nat_tests, ServerNo, Tid, WorkId, server_eq, tid_eq, server_tells, tid_tells, Message, Text, Work, Committed, StableState, FlagState, Pick, at_tid, work_at, restored_worker, transaction_at, restored_transaction, restored_transactions, Machine, Unknown, Finishes, MayBeFound, HasFlag, Invariant, Atom, Name, with_epoch, name_it, found_of, run, MayRun, MayName, MayRestart, Says, not_both, at_tid_here, at_tid_other, some_of, some_is, World, Memory, at_server, has_line, commits_in, restored, named_now, AreNames, tid_before, restart_with, Mirrors, MovesTo, IsTransaction, AreTransactions, commits_of, working_of, active_in, next_in, knowledge_of, known_in, restored-is, Narrow, Restart, narrow}
use Rattle.jn_system.specs.WholeSystem.Steps.{are_rising}
use Rattle.jn_msgs.specs.declared.message.Message.TheVariants as messages
use Rattle.jn_report.specs.declared.line.Text.TheVariants as says
use Rattle.jn_system_order.proofs.Mirroring.Losing.{run-append, may-append}
use Rattle.jn_system_order.proofs.Mirroring.Mirrored.{commits-more, append-append, transactions-still, client-still}

abbrev Is : ServerNo → ServerNo → Type 0
Is s q = ((server_eq s q ≡ true) × (s ≡ q)) ⊎ ((server_eq s q ≡ false) × (s ≢ q))

abbrev IsTid : Tid → Tid → Type 0
IsTid T U = ((tid_eq T U ≡ true) × (T ≡ U)) ⊎ ((tid_eq T U ≡ false) × (T ≢ U))

abbrev has_tid : List Tid → Tid → Bool
has_tid Ts T = list_any (λ (U : Tid). tid_eq U T) Ts

first-of : (a b : Bool) → (a && b) ≡ true → a ≡ true
first-of a b h = grind arith

second-of : (a b : Bool) → (a && b) ≡ true → b ≡ true
second-of a b h = grind arith

first-off : (a b : Bool) → (a || b) ≡ false → a ≡ false
first-off a b h = grind arith

second-off : (a b : Bool) → (a || b) ≡ false → b ≡ false
second-off a b h = grind arith

off : (a b : Bool) → a ≡ false → b ≡ false → (a || b) ≡ false
off a b h k = grind arith

on-first : (a b : Bool) → a ≡ true → (a || b) ≡ true
on-first a b h = grind arith

on-second : (a b : Bool) → b ≡ true → (a || b) ≡ true
on-second a b h = grind arith

-- ---- names in rising order stand once

before-other : (T U : Tid) → tid_before T U ≡ true → tid_eq U T ≡ false
before-other T U h = grind (arith, nat_tests)

not-behind : (T : Tid) (Ts : List Tid) → list_all (λ (b : Tid). tid_before T b) Ts ≡ true → has_tid Ts T ≡ false
not-behind T [] h = refl
not-behind T (U ∷ Ts) h = off (tid_eq U T) (has_tid Ts T) (before-other T U (first-of (tid_before T U) (list_all (λ (b : Tid). tid_before T b) Ts) h))
    (not-behind T Ts (second-of (tid_before T U) (list_all (λ (b : Tid). tid_before T b) Ts) h))

same-tid : (T : Tid) → tid_eq T T ≡ true
same-tid T = grind (arith, tid_tells T T)

-- ---- what is named at a restart

abbrev namings : List Tid → List Text → List Atom
namings [] lines = []
namings (T ∷ Ts) lines = if has_line T lines then namings Ts lines else Name T ∷ namings Ts lines

-- a flag of the state that is found, of a transaction that is named where it has a line
record MayBeNamed (s : ServerNo) (v : Machine) (lines : List Text) (T : Tid) : Type 0 where
  pub place : T.server ≡ s
  pub flagged : (c : Pick) → is_some ((v.found s c).flags T) ≡ true
  pub same : v.named T ≡ has_line T lines

abbrev Namable : ServerNo → Machine → List Text → List Tid → Type 0
Namable s v lines [] = Unit {0}
Namable s v lines (T ∷ Ts) = MayBeNamed s v lines T × (has_tid Ts T ≡ false) × Namable s v lines Ts

still-namable : (s : ServerNo) (v : Machine) (lines : List Text) (T : Tid) (Ts : List Tid) → has_tid Ts T ≡ false → Namable s v lines Ts → Namable s (name_it T v) lines Ts
still-namable s v lines T [] h k = tt
still-namable s v lines T (U ∷ Ts) h k = (
  record { place = k.0.place; flagged = k.0.flagged; same = at_tid_other v.named T true U other ∙ k.0.same },
  k.1,
  still-namable s v lines T Ts (second-off (tid_eq U T) (has_tid Ts T) h) k.2,
)
  where
    other : T ≢ U
    other e = not_both (tid_eq U T) (subst (λ (z : Tid). tid_eq U z ≡ true) (sym e) (same-tid U)) (first-off (tid_eq U T) (has_tid Ts T) h)

-- what the namings change
record Names (s : ServerNo) (lines : List Text) (Ts : List Tid) (v u : Machine) : Type 0 where
  pub up : u.up ≡ v.up
  pub found : u.found ≡ v.found
  pub active : u.active ≡ v.active
  pub next : u.next ≡ v.next
  pub ticket : u.ticket ≡ v.ticket
  pub knowledge : (T : Tid) → u.knowledge T ≡ v.knowledge T
  pub commits : commits_of u.history ≡ commits_of v.history ++ commits_in (named_now Ts lines)
  pub ended : u.ended ≡ v.ended
  pub keeps : (T : Tid) → v.named T ≡ true → u.named T ≡ true
  pub all : (T : Tid) → has_tid Ts T ≡ true → u.named T ≡ true
  pub may : MayRun (namings Ts lines) v

named-here : (T : Tid) (v : Machine) (U : Tid) → v.named U ≡ true → (name_it T v).named U ≡ true
named-here T v U h = grind (arith, tid_tells)

append-nothing : (a : List Tid) → a ≡ a ++ []
append-nothing [] = refl
append-nothing (x ∷ a) = ap (λ z. x ∷ z) (append-nothing a)

names-do : (s : ServerNo) (lines : List Text) (Ts : List Tid) (v : Machine) → v.up s ≡ false → ((T : Tid) → T.server ≡ s → v.knowledge T ≡ Unknown) → Namable s v lines Ts → Names s lines Ts v (run (namings Ts lines) v)
names-do s lines [] v down unknown h = record {
  up = refl;
  found = refl;
  active = refl;
  next = refl;
  ticket = refl;
  knowledge = λ T. refl;
  commits = append-nothing (commits_of v.history);
  ended = refl;
  keeps = λ T k. k;
  all = λ T k. absurd (no k);
  may = tt;
}
  where
    no : false ≡ true → ⊥
    no k = grind arith
names-do s lines (T ∷ Ts) v down unknown h = by (has_line T lines) refl (names-do s lines Ts v down unknown h.2) (names-do s lines Ts (name_it T v) down (λ U e. same-known U ∙ unknown U e) (still-namable s v lines T Ts h.1 h.2))
  where
    its-down : v.up T.server ≡ false
    its-down = ap v.up h.0.place ∙ down

    same-known : (U : Tid) → (name_it T v).knowledge U ≡ v.knowledge U
    same-known U = at (tid_tells T U)
      where
        at : IsTid T U → at_tid v.knowledge T (if v.up T.server then Finishes (λ W. false) else Unknown) U ≡ v.knowledge U
        at (inl p) = ap (λ (b : Bool). if b then (if v.up T.server then Finishes (λ W. false) else Unknown) else v.knowledge U) p.0
            ∙ ap (λ (b : Bool). if b then Finishes (λ W. false) else Unknown) its-down ∙ sym (unknown T h.0.place) ∙ ap v.knowledge p.1
        at (inr p) = ap (λ (b : Bool). if b then (if v.up T.server then Finishes (λ W. false) else Unknown) else v.knowledge U) p.0

    -- one of these is the first or a later one
    found-one : (U : Tid) (u : Machine) → u.named T ≡ true → (has_tid Ts U ≡ true → u.named U ≡ true) → (tid_eq T U || has_tid Ts U) ≡ true → u.named U ≡ true
    found-one U u first later k = at (tid_tells T U)
      where
        at : IsTid T U → u.named U ≡ true
        at (inl p) = subst (λ (z : Tid). u.named z ≡ true) p.1 first
        at (inr p) = later (subst (λ (b : Bool). (b || has_tid Ts U) ≡ true) p.0 k)

    by : (b : Bool) → has_line T lines ≡ b → Names s lines Ts v (run (namings Ts lines) v) → Names s lines Ts (name_it T v) (run (namings Ts lines) (name_it T v)) → Names s lines (T ∷ Ts) v (run (namings (T ∷ Ts) lines) v)
    by true e old new = subst (λ atoms. MayRun atoms v → Names s lines (T ∷ Ts) v (run atoms v)) (ap (λ (b : Bool). if b then namings Ts lines else Name T ∷ namings Ts lines) (sym e)) (λ may. record {
      up = old.up;
      found = old.found;
      active = old.active;
      next = old.next;
      ticket = old.ticket;
      knowledge = old.knowledge;
      commits = old.commits ∙ ap (λ (b : Bool). commits_of v.history ++ commits_in (if b then named_now Ts lines else says.Commit T ∷ named_now Ts lines)) (sym e);
      ended = old.ended;
      keeps = old.keeps;
      all = λ U k. found-one U (run (namings Ts lines) v) (old.keeps T (h.0.same ∙ e)) (old.all U) k;
      may = subst (λ more. MayRun more v) (ap (λ (b : Bool). if b then namings Ts lines else Name T ∷ namings Ts lines) (sym e)) old.may;
    }) (subst (λ more. MayRun more v) (ap (λ (b : Bool). if b then namings Ts lines else Name T ∷ namings Ts lines) (sym e)) old.may)
    by false e old new = subst (λ atoms. Names s lines (T ∷ Ts) v (run atoms v)) (ap (λ (b : Bool). if b then namings Ts lines else Name T ∷ namings Ts lines) (sym e)) record {
      up = new.up;
      found = new.found;
      active = new.active;
      next = new.next;
      ticket = new.ticket;
      knowledge = λ U. new.knowledge U ∙ same-known U;
      commits = new.commits ∙ append-append (commits_of v.history) (T ∷ []) (commits_in (named_now Ts lines))
          ∙ ap (λ (b : Bool). commits_of v.history ++ commits_in (if b then named_now Ts lines else says.Commit T ∷ named_now Ts lines)) (sym e);
      ended = new.ended;
      keeps = λ U k. new.keeps U (named-here T v U k);
      all = λ U k. found-one U (run (namings Ts lines) (name_it T v)) (new.keeps T (at_tid_here v.named T true)) (new.all U) k;
      may = subst (λ more. MayRun more v) (ap (λ (b : Bool). if b then namings Ts lines else Name T ∷ namings Ts lines) (sym e)) (may-name, new.may);
    }
      where
        may-name : MayName v T
        may-name = record { flagged = λ c. ap (λ (q : ServerNo). is_some ((v.found q c).flags T)) h.0.place ∙ h.0.flagged c; not_named = h.0.same ∙ e }

-- ---- the table of the flags

module _ (x : StableState) where
  known-restored : (Us : List Tid) (T : Tid) → knowledge_of (transaction_at T (restored_transactions x Us)) ≡ (if has_tid Us T then found_of x T else Unknown)
  known-restored [] T = refl
  known-restored (U ∷ Us) T = by (x.flags U) refl (tid_tells U T) (known-restored Us T)
    where
      unknown : (b : Bool) → x.flags T ≡ None → (if b then found_of x T else Unknown) ≡ Unknown
      unknown true e = ap (λ (o : Option FlagState). if is_some o then Finishes (λ W. false) else Unknown) e
      unknown false e = refl

      by : (o : Option FlagState) → x.flags U ≡ o → IsTid U T → knowledge_of (transaction_at T (restored_transactions x Us)) ≡ (if has_tid Us T then found_of x T else Unknown)
          → knowledge_of (transaction_at T (restored_transaction U o ++ restored_transactions x Us)) ≡ (if tid_eq U T || has_tid Us T then found_of x T else Unknown)
      by None e (inl p) h = h ∙ unknown (has_tid Us T) (subst (λ (z : Tid). x.flags z ≡ None) p.1 e) ∙ sym (unknown (tid_eq U T || has_tid Us T) (subst (λ (z : Tid). x.flags z ≡ None) p.1 e))
      by None e (inr p) h = h ∙ sym (ap (λ (b : Bool). if b || has_tid Us T then found_of x T else Unknown) p.0)
      by (Some flag) e (inl p) h = ap (λ (b : Bool). knowledge_of (if b then Some (record { tid = U; client = flag.client; begun = None; stage = Committed (record { works = flag.works; done = []; thanked = false }) }) else transaction_at T (restored_transactions x Us))) p.0
          ∙ sym (ap (λ (o : Option FlagState). if is_some o then Finishes (λ W. false) else Unknown) (subst (λ (z : Tid). x.flags z ≡ Some flag) p.1 e))
          ∙ sym (ap (λ (b : Bool). if b || has_tid Us T then found_of x T else Unknown) p.0)
      by (Some flag) e (inr p) h = ap (λ (b : Bool). knowledge_of (if b then Some (record { tid = U; client = flag.client; begun = None; stage = Committed (record { works = flag.works; done = []; thanked = false }) }) else transaction_at T (restored_transactions x Us))) p.0
          ∙ h ∙ sym (ap (λ (b : Bool). if b || has_tid Us T then found_of x T else Unknown) p.0)

  none-restored : (Us : List Tid) (T : Tid) → has_tid Us T ≡ false → transaction_at T (restored_transactions x Us) ≡ None
  none-restored [] T h = refl
  none-restored (U ∷ Us) T h = by (x.flags U) (none-restored Us T (second-off (tid_eq U T) (has_tid Us T) h))
    where
      by : (o : Option FlagState) → transaction_at T (restored_transactions x Us) ≡ None → transaction_at T (restored_transaction U o ++ restored_transactions x Us) ≡ None
      by None k = k
      by (Some flag) k = ap (λ (b : Bool). if b then Some (record { tid = U; client = flag.client; begun = None; stage = Committed (record { works = flag.works; done = []; thanked = false }) }) else transaction_at T (restored_transactions x Us))
          (first-off (tid_eq U T) (has_tid Us T) h) ∙ k

  are-restored : (w : Machine) (s : ServerNo) (Us : List Tid) → MayBeFound w s x → are_rising tid_before Us ≡ true → AreTransactions w s (restored_transactions x Us)
  are-restored w s [] f h = tt
  are-restored w s (U ∷ Us) f h = by (x.flags U) refl (are-restored w s Us f (second-of (list_all (λ (b : Tid). tid_before U b) Us) (are_rising tid_before Us) h))
    where
      by : (o : Option FlagState) → x.flags U ≡ o → AreTransactions w s (restored_transactions x Us) → AreTransactions w s (restored_transaction U o ++ restored_transactions x Us)
      by None e k = k
      by (Some flag) e k = (its (f.flag U flag e), none-restored Us U (not-behind U Us (first-of (list_all (λ (b : Tid). tid_before U b) Us) (are_rising tid_before Us) h)), k)
        where
          no : false ≡ true → ⊥
          no q = grind arith

          its : HasFlag w s U flag → IsTransaction w s (record { tid = U; client = flag.client; begun = None; stage = Committed (record { works = flag.works; done = []; thanked = false }) })
          its g = record { place = g.place; begun = g.begun; is = (g.ended, g.works, λ q. absurd (no q)) }

-- ---- the restart

module _ (r : World) (w : Machine) (h : Mirrors r w) (s : ServerNo) (down : r.memory s ≡ None) (grow : (atoms : List Atom) → MayRun atoms w → (message : Message) → Says w message → Says (run atoms w) message)
    (inv : Invariant w) (named : (T : Tid) → w.named T ≡ has_line T r.lines) (pick : Pick) (Ws : List WorkId) (Ts : List Tid)
    (tids : AreNames tid_eq tid_before (r.found s pick).flags Ts) where
  abbrev x : StableState
  x = r.found s pick

  here : MayBeFound w s x
  here = subst (λ (z : StableState). MayBeFound w s z) (h.found s pick) (inv.core.states s pick)

  abbrev narrowed : Machine
  narrowed = narrow s (λ c. pick) w

  one-state : (c : Pick) → narrowed.found s c ≡ x
  one-state c = by (server_tells s s)
    where
      by : Is s s → (if server_eq s s then w.found s pick else w.found s c) ≡ x
      by (inl p) = ap (λ (b : Bool). if b then w.found s pick else w.found s c) p.0 ∙ h.found s pick
      by (inr p) = absurd (p.1 refl)

  is-down : w.up s ≡ false
  is-down = h.up s ∙ ap is_some down

  namable : (Us : List Tid) → ((T : Tid) → has_tid Us T ≡ true → is_some (x.flags T) ≡ true) → are_rising tid_before Us ≡ true → Namable s narrowed r.lines Us
  namable [] flagged rising = tt
  namable (T ∷ Us) flagged rising = (
    record { place = (here.flag T its.0 its.1).place; flagged = λ c. ap (λ (z : StableState). is_some (z.flags T)) (one-state c) ∙ first; same = named T },
    not-behind T Us (first-of (list_all (λ (b : Tid). tid_before T b) Us) (are_rising tid_before Us) rising),
    namable Us (λ U k. flagged U (on-second (tid_eq T U) (has_tid Us U) k)) (second-of (list_all (λ (b : Tid). tid_before T b) Us) (are_rising tid_before Us) rising),
  )
    where
      first : is_some (x.flags T) ≡ true
      first = flagged T (on-first (tid_eq T T) (has_tid Us T) (same-tid T))

      its : (f : FlagState) × (x.flags T ≡ Some f)
      its = some_of (x.flags T) first

  abbrev now : Machine
  now = run (namings Ts r.lines) narrowed

  names : Names s r.lines Ts narrowed now
  names = names-do s r.lines Ts narrowed is-down (λ T e. inv.core.rest.down_knowledge T (ap w.up e ∙ is-down)) (namable Ts (λ T k. sym (tids.each T) ∙ k) tids.rising)

  may-restart : MayRestart now s x
  may-restart = record {
    down = ap (λ f. f s) names.up ∙ is-down;
    one = λ c. ap (λ f. f s c) names.found ∙ one-state c;
    all_named = λ T k. names.all T (tids.each T ∙ k);
  }

  abbrev atoms : List Atom
  atoms = Narrow s (λ c. pick) ∷ (namings Ts r.lines ++ Restart s x ∷ [])

  abbrev restarted : Machine
  restarted = run (Restart s x ∷ []) now

  ran : run atoms w ≡ restarted
  ran = run-append (namings Ts r.lines) (Restart s x ∷ []) narrowed

  may-all : MayRun atoms w
  may-all = (tt, may-append (namings Ts r.lines) (Restart s x ∷ []) narrowed names.may (may-restart, tt))

  grown : (message : Message) → Says w message → Says restarted message
  grown message k = subst (λ (v : Machine). Says v message) ran (grow atoms may-all message k)

  abbrev memory : Memory
  memory = restored s x Ws Ts

  -- memory at the server and elsewhere
  at-it : (q : ServerNo) → server_eq s q ≡ true → at_server r.memory s (Some memory) q ≡ Some memory
  at-it q e = ap (λ (b : Bool). if b then Some memory else r.memory q) e

  elsewhere : (q : ServerNo) → server_eq s q ≡ false → at_server r.memory s (Some memory) q ≡ r.memory q
  elsewhere q e = ap (λ (b : Bool). if b then Some memory else r.memory q) e

  is-up : (q : ServerNo) → Is s q → (if server_eq s q then true else now.up q) ≡ is_some (at_server r.memory s (Some memory) q)
  is-up q (inl p) = ap (λ (b : Bool). if b then true else now.up q) p.0 ∙ sym (ap is_some (at-it q p.0))
  is-up q (inr p) = ap (λ (b : Bool). if b then true else now.up q) p.0 ∙ ap (λ f. f q) names.up ∙ h.up q ∙ sym (ap is_some (elsewhere q p.0))

  is-found : (q : ServerNo) (c : Pick) → Is s q → (if server_eq s q then with_epoch (now.found s c) else now.found q c) ≡ (if server_eq s q then with_epoch x else r.found q c)
  is-found q c (inl p) = ap (λ (b : Bool). if b then with_epoch (now.found s c) else now.found q c) p.0 ∙ ap with_epoch (may-restart.one c) ∙ sym (ap (λ (b : Bool). if b then with_epoch x else r.found q c) p.0)
  is-found q c (inr p) = ap (λ (b : Bool). if b then with_epoch (now.found s c) else now.found q c) p.0 ∙ ap (λ f. f q c) names.found
      ∙ ap (λ (b : Bool). if b then w.found s pick else w.found q c) p.0 ∙ h.found q c ∙ sym (ap (λ (b : Bool). if b then with_epoch x else r.found q c) p.0)

  no-active : (W : WorkId) (o : Option Work) → work_at W (restored_worker x Ws) ≡ o → None ≡ working_of o
  no-active W None e = refl
  no-active W (Some v) e = let k = restored-is x Ws W v e in sym (ap (λ (z : Work). working_of (Some z)) k.1.1)

  is-active : (W : WorkId) → Is s W.server → now.active W ≡ active_in (at_server r.memory s (Some memory) W.server) W
  is-active W (inl p) = ap (λ f. f W) names.active ∙ h.active W ∙ ap (λ (q : ServerNo). active_in (r.memory q) W) (sym p.1) ∙ ap (λ o. active_in o W) down
      ∙ no-active W (work_at W (restored_worker x Ws)) refl ∙ sym (ap (λ o. active_in o W) (at-it W.server p.0))
  is-active W (inr p) = ap (λ f. f W) names.active ∙ h.active W ∙ sym (ap (λ o. active_in o W) (elsewhere W.server p.0))

  is-next : (W : WorkId) → Is s W.server → now.next W ≡ next_in (at_server r.memory s (Some memory) W.server) W
  is-next W (inl p) = ap (λ f. f W) names.next ∙ h.next W ∙ ap (λ (q : ServerNo). next_in (r.memory q) W) (sym p.1) ∙ ap (λ o. next_in o W) down
      ∙ sym (ap (λ o. next_in o W) (at-it W.server p.0))
  is-next W (inr p) = ap (λ f. f W) names.next ∙ h.next W ∙ sym (ap (λ o. next_in o W) (elsewhere W.server p.0))

  is-ticket : (q : ServerNo) (n : Memory) → Is s q → at_server r.memory s (Some memory) q ≡ Some n → (if server_eq s q then 0 else now.ticket q) ≡ n.tickets.next
  is-ticket q n (inl p) e = ap (λ (b : Bool). if b then 0 else now.ticket q) p.0 ∙ ap (λ (z : Memory). z.tickets.next) (some_is memory n (sym (at-it q p.0) ∙ e))
  is-ticket q n (inr p) e = ap (λ (b : Bool). if b then 0 else now.ticket q) p.0 ∙ ap (λ f. f q) names.ticket ∙ h.ticket q n (sym (elsewhere q p.0) ∙ e)

  known-found : (T : Tid) → found_of x T ≡ knowledge_of (transaction_at T (restored_transactions x Ts))
  known-found T = sym (known-restored x Ts T ∙ ap (λ (b : Bool). if b then found_of x T else Unknown) (tids.each T) ∙ by (is_some (x.flags T)))
    where
      by : (b : Bool) → (if b then (if b then Finishes (λ W. false) else Unknown) else Unknown) ≡ (if b then Finishes (λ W. false) else Unknown)
      by true = refl
      by false = refl

  is-known : (T : Tid) → Is s T.server → (if server_eq s T.server then found_of x T else now.knowledge T) ≡ known_in (at_server r.memory s (Some memory) T.server) T
  is-known T (inl p) = ap (λ (b : Bool). if b then found_of x T else now.knowledge T) p.0 ∙ known-found T ∙ sym (ap (λ o. known_in o T) (at-it T.server p.0))
  is-known T (inr p) = ap (λ (b : Bool). if b then found_of x T else now.knowledge T) p.0 ∙ names.knowledge T ∙ h.knowledge T ∙ sym (ap (λ o. known_in o T) (elsewhere T.server p.0))

  owner-here : (W : WorkId) (v : Work) → work_at W (restored_worker x Ws) ≡ Some v → Says w (messages.Inquire v.tid W)
  owner-here W v e = let k = restored-is x Ws W v e in let p = here.prepared W k.0 k.1.0 in (p.opened, sym (ap (λ (z : Work). z.tid) k.1.1 ∙ p.tid))

  is-owner : (q : ServerNo) (n : Memory) (W : WorkId) (v : Work) → Is s q → at_server r.memory s (Some memory) q ≡ Some n → work_at W n.worker ≡ Some v → Says restarted (messages.Inquire v.tid W)
  is-owner q n W v (inl p) e k = grown (messages.Inquire v.tid W) (owner-here W v (subst (λ (z : Memory). work_at W z.worker ≡ Some v) (sym (some_is memory n (sym (at-it q p.0) ∙ e))) k))
  is-owner q n W v (inr p) e k = grown (messages.Inquire v.tid W) (h.owner q n W v (sym (elsewhere q p.0) ∙ e) k)

  has-transactions : (q : ServerNo) (n : Memory) → Is s q → at_server r.memory s (Some memory) q ≡ Some n → AreTransactions restarted q n.coordinator.transactions
  has-transactions q n (inl p) e = subst (λ (z : ServerNo). AreTransactions restarted z n.coordinator.transactions) p.1
      (subst (λ (z : Memory). AreTransactions restarted s z.coordinator.transactions) (some_is memory n (sym (at-it q p.0) ∙ e))
      (transactions-still w restarted grown s (restored_transactions x Ts) (are-restored x w s Ts here tids.rising)))
  has-transactions q n (inr p) e = transactions-still w restarted grown q n.coordinator.transactions (h.transactions q n (sym (elsewhere q p.0) ∙ e))

  restart-mirrors : Mirrors (restart_with s x Ws Ts r) restarted
  restart-mirrors = record {
    up = λ q. is-up q (server_tells s q);
    found = λ q c. is-found q c (server_tells s q);
    active = λ W. is-active W (server_tells s W.server);
    next = λ W. is-next W (server_tells s W.server);
    ticket = λ q n e. is-ticket q n (server_tells s q) e;
    knowledge = λ T. is-known T (server_tells s T.server);
    owner = λ q n W v e k. is-owner q n W v (server_tells s q) e k;
    transactions = λ q n e. has-transactions q n (server_tells s q) e;
    clients = λ c. client-still w restarted grown (r.clients c) (h.clients c);
    commits = names.commits ∙ ap (λ z. z ++ commits_in (named_now Ts r.lines)) h.commits ∙ sym (commits-more r.lines (says.Up s (x.epoch + 1) ∷ named_now Ts r.lines));
    says = λ k d l. grown _ (h.says k d l);
    addressed = h.addressed;
  }

  pub restart-moves : MovesTo (restart_with s x Ws Ts r) w
  restart-moves = record { atoms = atoms; may = may-all; mirrors = subst (λ (v : Machine). Mirrors (restart_with s x Ws Ts r) v) (sym ran) restart-mirrors; ended = ap (λ (v : Machine). v.ended) ran ∙ names.ended }
