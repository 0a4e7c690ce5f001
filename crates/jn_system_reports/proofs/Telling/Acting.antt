-- The works that take operations: no row but that of an operation changes what they did, or sends an operation or an answer.
use Rattle.jn_system_reports.proofs.Common.{◌≡◌, ◌≢◌, ◌⊎◌, inl, inr, ℕ, zero, suc, Bool, true, false, List, [], ◌∷◌, ◌++◌, Option, Some, None, refl, sym, ◌∙◌, ap, subst, arith, if◌then◌else◌, take, ClientNo, Tid, WorkId, Tickets, Server, work_eq, change, Work, Phase, Active, Broken, Stored, ActiveWork, StableState, Prepared, Change, AddReady, MarkGoing, CarryOut, RemoveWork, AddFlag, DropFlag, gone_on, is_going, ready_work, made_by, made_all, RowOutcome, Sent, WorkerTable, WorkStorage, Wanted, work_at, work_of, with_phase, without, new_work, name_from, conflict, commit_wants, prepared_row, worker_step, worker_again, vulnerable, timed_out, timeout_row, are_rising, is_after, at-more, at-less, none-front, work_is, Working, some_is, none_some, at_work_cases, World, Memory, TableFact, Regrants, Origin, Mine, Kept, Broke, granted, phase_changed, by-name, of-found, active_in, working_in, working_of, WorkerCase, none_done, replies_only, opens_anew, refuses_next, performs_next, prepares_it, marks_it, drops_it, removes_it, Replies, is_repeated, is_broken_for, is_closing_for, is_gone_for, WorkerStep, carries_out, is_over, erases_rubbish, worker-case, worker-step-case, no-conflict, Message, worker_row}
use Rattle.jn_msgs.specs.declared.message.Message.TheVariants as messages
use Rattle.jn_msgs.specs.declared.message.Vote.TheVariants as votes

-- ---- works that take operations

abbrev pub acting_in : Phase → Option ActiveWork
acting_in (Active a) = Some a
acting_in phase = None

abbrev pub acting_of : Option Work → Option ActiveWork
acting_of None = None
acting_of (Some w) = acting_in w.phase

abbrev pub acting_at : Option Memory → WorkId → Option ActiveWork
acting_at None W = None
acting_at (Some m) W = acting_of (work_at W m.worker)

abbrev pub acting : World → WorkId → Option ActiveWork
acting r W = acting_at (r.memory W.server) W

abbrev pub working : ActiveWork → Working
working a = record { list = a.list; reads = a.reads }

-- the machine sees these works
phase-active : (p : Phase) (A : Working) → working_in p ≡ Some A → (a : ActiveWork) × ((acting_in p ≡ Some a) × (A ≡ working a))
phase-active (Active a) A h = (a, (refl, sym (some_is (working a) A h)))
phase-active (Broken u T) A h = absurd (none_some A h)
phase-active (Stored p) A h = absurd (none_some A h)

pub acting-of-active : (o : Option Memory) (W : WorkId) (A : Working) → active_in o W ≡ Some A → (a : ActiveWork) × ((acting_at o W ≡ Some a) × (A ≡ working a))
acting-of-active None W A h = absurd (none_some A h)
acting-of-active (Some m) W A h = by (work_at W m.worker) h
  where
    by : (o : Option Work) → working_of o ≡ Some A → (a : ActiveWork) × ((acting_of o ≡ Some a) × (A ≡ working a))
    by None k = absurd (none_some A k)
    by (Some w) k = phase-active w.phase A k

active-phase : (p : Phase) (a : ActiveWork) → acting_in p ≡ Some a → p ≡ Active a
active-phase (Active b) a h = ap Active (some_is b a h)
active-phase (Broken u T) a h = absurd (none_some a h)
active-phase (Stored p) a h = absurd (none_some a h)

-- a work of a table that takes operations
pub its-work : (o : Option Work) (a : ActiveWork) → acting_of o ≡ Some a → (w : Work) × ((o ≡ Some w) × (w.phase ≡ Active a))
its-work None a h = absurd (none_some a h)
its-work (Some w) a h = (w, (refl, active-phase w.phase a h))

pub active-of-acting : (o : Option Memory) (W : WorkId) (a : ActiveWork) → acting_at o W ≡ Some a → active_in o W ≡ Some (working a)
active-of-acting None W a h = absurd (none_some a h)
active-of-acting (Some m) W a h = let w = its-work (work_at W m.worker) a h in ap working_of w.1.0 ∙ ap working_in w.1.1

-- it has done the same
pub record DidTheSame (a b : ActiveWork) : Type 0 where
  pub list : b.list ≡ a.list
  pub last : b.last ≡ a.last
  pub kept : b.kept ≡ a.kept

pub same-did : (o : Option ActiveWork) (a b : ActiveWork) → o ≡ Some a → o ≡ Some b → DidTheSame a b
same-did o a b e f = let k = some_is a b (sym e ∙ f) in record { list = ap (λ (z : ActiveWork). z.list) (sym k); last = ap (λ (z : ActiveWork). z.last) (sym k); kept = ap (λ (z : ActiveWork). z.kept) (sym k) }

-- a work that takes operations before and after has done the same
abbrev pub TableStays : WorkerTable → WorkerTable → Type 0
TableStays t now = (W : WorkId) (a b : ActiveWork) → acting_of (work_at W t) ≡ Some a → acting_of (work_at W now) ≡ Some b → DidTheSame a b

-- a work that takes operations after and not before has done nothing
abbrev pub TableNew : WorkerTable → WorkerTable → Type 0
TableNew t now = (W : WorkId) (b : ActiveWork) → acting_of (work_at W t) ≡ None → acting_of (work_at W now) ≡ Some b → (b.last ≡ 0) × (b.list ≡ [])

abbrev pub TableGoes : WorkerTable → WorkerTable → Type 0
TableGoes t now = TableStays t now × TableNew t now

-- a work that takes none takes none
pub none-new : (o : Option ActiveWork) (b : ActiveWork) → o ≡ None → o ≡ Some b → (b.last ≡ 0) × (b.list ≡ [])
none-new o b e f = absurd (none_some b (sym e ∙ f))

pub table-same : (t : WorkerTable) → TableGoes t t
table-same t = (λ W a b e f. same-did (acting_of (work_at W t)) a b e f, λ W b e f. none-new (acting_of (work_at W t)) b e f)

table-less : (N : WorkId) (t : WorkerTable) → are_rising t ≡ true → TableGoes t (without N t)
table-less N t rising = (λ W a b e f. stays W a b e (work_eq N W) (left W b f), λ W b e f. new W b e (work_eq N W) (left W b f))
  where
    left : (W : WorkId) (b : ActiveWork) → acting_of (work_at W (without N t)) ≡ Some b → acting_of (if work_eq N W then None else work_at W t) ≡ Some b
    left W b f = sym (ap acting_of (at-less W N t rising)) ∙ f

    stays : (W : WorkId) (a b : ActiveWork) → acting_of (work_at W t) ≡ Some a → (c : Bool) → acting_of (if c then None else work_at W t) ≡ Some b → DidTheSame a b
    stays W a b e true k = absurd (none_some b k)
    stays W a b e false k = same-did (acting_of (work_at W t)) a b e k

    new : (W : WorkId) (b : ActiveWork) → acting_of (work_at W t) ≡ None → (c : Bool) → acting_of (if c then None else work_at W t) ≡ Some b → (b.last ≡ 0) × (b.list ≡ [])
    new W b e true k = absurd (none_some b k)
    new W b e false k = none-new (acting_of (work_at W t)) b e k

table-more : (N : WorkId) (T : Tid) (t : WorkerTable) → is_after N t ≡ true → TableGoes t (t ++ new_work N T ∷ [])
table-more N T t after = (λ W a b e f. stays W a b e (work_eq N W) refl (more W b f), λ W b e f. new W b e (work_eq N W) (more W b f))
  where
    more : (W : WorkId) (b : ActiveWork) → acting_of (work_at W (t ++ new_work N T ∷ [])) ≡ Some b → acting_of (if work_eq N W then Some (new_work N T) else work_at W t) ≡ Some b
    more W b f = sym (ap acting_of (at-more W t (new_work N T) after)) ∙ f

    stays : (W : WorkId) (a b : ActiveWork) → acting_of (work_at W t) ≡ Some a → (c : Bool) → work_eq N W ≡ c → acting_of (if c then Some (new_work N T) else work_at W t) ≡ Some b → DidTheSame a b
    stays W a b e true k g = absurd (none_some a (sym (ap acting_of (subst (λ (U : WorkId). work_at U t ≡ None) (work_is N W k) (none-front N t after))) ∙ e))
    stays W a b e false k g = same-did (acting_of (work_at W t)) a b e g

    new : (W : WorkId) (b : ActiveWork) → acting_of (work_at W t) ≡ None → (c : Bool) → acting_of (if c then Some (new_work N T) else work_at W t) ≡ Some b → (b.last ≡ 0) × (b.list ≡ [])
    new W b e true k = let g = some_is _ b k in (ap (λ (z : ActiveWork). z.last) (sym g), ap (λ (z : ActiveWork). z.list) (sym g))
    new W b e false k = none-new (acting_of (work_at W t)) b e k

-- a work gets another phase, in which it has done the same or takes no operations, and others break
table-regrants : (N : WorkId) (wants : List Wanted) (phase : Phase) (t now : WorkerTable) → Regrants N wants phase t now
    → ((v : Work) (b : ActiveWork) → work_at N t ≡ Some v → phase ≡ Active b → (a : ActiveWork) × ((v.phase ≡ Active a) × DidTheSame a b)) → TableGoes t now
table-regrants N wants phase t now g mine = (
  λ W a b e f. let v = its-work (work_at W now) b f in stays W a b e v.0 v.1.1 (g.origin W v.0 v.1.0),
  λ W b e f. let v = its-work (work_at W now) b f in new W b e v.0 v.1.1 (g.origin W v.0 v.1.0),
)
  where
    broken : (v y : Work) (u : _) (T : Tid) (b : ActiveWork) → v.phase ≡ Active b → v ≡ record y { phase = Broken u T } → ⊥
    broken v y u T b p k = no (sym (ap (λ (z : Work). z.phase) k) ∙ p)
      where
        no : Broken u T ≡ Active b → ⊥
        no q = cc

    its : (W : WorkId) (v y : Work) (b : ActiveWork) → v.phase ≡ Active b → N ≡ W → work_at N t ≡ Some y → v ≡ record y { phase = phase } → (a : ActiveWork) × ((acting_of (work_at W t) ≡ Some a) × DidTheSame a b)
    its W v y b p same l k = let h = mine y b l (sym (ap (λ (z : Work). z.phase) k) ∙ p) in
        (h.0, (subst (λ (U : WorkId). acting_of (work_at U t) ≡ Some h.0) same (ap acting_of l ∙ ap acting_in h.1.0), h.1.1))

    stays : (W : WorkId) (a b : ActiveWork) → acting_of (work_at W t) ≡ Some a → (v : Work) → v.phase ≡ Active b → Origin N wants phase t W v → DidTheSame a b
    stays W a b e v p (Mine same y l k) = let h = its W v y b p same l k in subst (λ (z : ActiveWork). DidTheSame z b) (some_is h.0 a (sym h.1.0 ∙ e)) h.1.1
    stays W a b e v p (Kept ne l clear) = same-did (acting_of (work_at W t)) a b e (ap acting_of l ∙ ap acting_in p)
    stays W a b e v p (Broke ne y l way u T k) = absurd (broken v y u T b p k)

    new : (W : WorkId) (b : ActiveWork) → acting_of (work_at W t) ≡ None → (v : Work) → v.phase ≡ Active b → Origin N wants phase t W v → (b.last ≡ 0) × (b.list ≡ [])
    new W b e v p (Mine same y l k) = let h = its W v y b p same l k in absurd (none_some h.0 (sym e ∙ h.1.0))
    new W b e v p (Kept ne l clear) = none-new (acting_of (work_at W t)) b e (ap acting_of l ∙ ap acting_in p)
    new W b e v p (Broke ne y l way u T k) = absurd (broken v y u T b p k)

-- ---- what a row may change and send

-- a work is prepared with what it did
abbrev pub AddsOne : WorkerTable → Change → Type 0
AddsOne t (AddReady head list reads) = (a : ActiveWork) × ((acting_of (work_at head.work t) ≡ Some a) × (a.list ≡ list))
AddsOne t change = Unit {0}

abbrev pub Adds : WorkerTable → List Change → Type 0
Adds t [] = Unit {0}
Adds t (c ∷ changes) = AddsOne t c × Adds t changes

-- neither an operation nor an answer
abbrev pub IsSilent : Sent → Type 0
IsSilent (to, messages.Op c request W number op) = ⊥
IsSilent (to, messages.Answer c request answer) = ⊥
IsSilent sent = Unit {0}

abbrev pub AreSilent : List Sent → Type 0
AreSilent [] = Unit {0}
AreSilent (x ∷ sent) = IsSilent x × AreSilent sent

pub silent-more : (a b : List Sent) → AreSilent a → AreSilent b → AreSilent (a ++ b)
silent-more [] b h k = k
silent-more (x ∷ a) b h k = (h.0, silent-more a b h.1 k)

-- a work that is found after the changes was found before with its list, or is prepared with what it did
abbrev pub FoundBack : StableState → WorkerTable → WorkId → Prepared → Type 0
FoundBack x t W p = ((q : Prepared) × ((x.works W ≡ Some q) × (q.list ≡ p.list))) ⊎ ((a : ActiveWork) × ((acting_of (work_at W t) ≡ Some a) × (a.list ≡ p.list)))

was-going : (o : Option Prepared) (p : Prepared) → gone_on o ≡ Some p → (q : Prepared) × ((o ≡ Some q) × (q.list ≡ p.list))
was-going (Some q) p k = (q, (refl, ap (λ (z : Prepared). z.list) (some_is (record q { going = true }) p k)))
was-going None p k = absurd (none_some p k)

one-back : (t : WorkerTable) (c : Change) (x : StableState) (W : WorkId) (p : Prepared) → AddsOne t c → (made_by c x).works W ≡ Some p → FoundBack x t W p
one-back t (AddReady head list reads) x W p h e = by (at_work_cases x.works head.work (Some (ready_work head list reads)) W (Some p) e)
  where
    by : ((head.work ≡ W) × (Some (ready_work head list reads) ≡ Some p)) ⊎ ((head.work ≢ W) × (x.works W ≡ Some p)) → FoundBack x t W p
    by (inl k) = inr (h.0, (subst (λ (U : WorkId). acting_of (work_at U t) ≡ Some h.0) k.0 h.1.0, h.1.1 ∙ ap (λ (z : Prepared). z.list) (some_is (ready_work head list reads) p k.1)))
    by (inr k) = inl (p, (k.1, refl))
one-back t (MarkGoing V) x W p h e = by (at_work_cases x.works V (gone_on (x.works V)) W (Some p) e)
  where
    by : ((V ≡ W) × (gone_on (x.works V) ≡ Some p)) ⊎ ((V ≢ W) × (x.works W ≡ Some p)) → FoundBack x t W p
    by (inl k) = let g = was-going (x.works V) p k.1 in inl (g.0, (subst (λ (U : WorkId). x.works U ≡ Some g.0) k.0 g.1.0, g.1.1))
    by (inr k) = inl (p, (k.1, refl))
one-back t (CarryOut V i) x W p h e = inl (p, (e, refl))
one-back t (RemoveWork V) x W p h e = by (at_work_cases x.works V None W (Some p) e)
  where
    by : ((V ≡ W) × (None ≡ Some p)) ⊎ ((V ≢ W) × (x.works W ≡ Some p)) → FoundBack x t W p
    by (inl k) = absurd (none_some p k.1)
    by (inr k) = inl (p, (k.1, refl))
one-back t (AddFlag flag) x W p h e = inl (p, (e, refl))
one-back t (DropFlag T) x W p h e = inl (p, (e, refl))

pub all-back : (t : WorkerTable) (changes : List Change) (x : StableState) (W : WorkId) (p : Prepared) → Adds t changes → (made_all changes x).works W ≡ Some p → FoundBack x t W p
all-back t [] x W p h e = inl (p, (e, refl))
all-back t (c ∷ changes) x W p h e = by (all-back t changes (made_by c x) W p h.1 e)
  where
    by : FoundBack (made_by c x) t W p → FoundBack x t W p
    by (inr k) = inr k
    by (inl k) = on (one-back t c x W k.0 h.0 k.1.0)
      where
        on : FoundBack x t W k.0 → FoundBack x t W p
        on (inl l) = inl (l.0, (l.1.0, l.1.1 ∙ k.1.1))
        on (inr l) = inr (l.0, (l.1.0, l.1.1 ∙ k.1.1))

pub adds-take : (t : WorkerTable) (n : ℕ) (changes : List Change) → Adds t changes → Adds t (take n changes)
adds-take t n [] h = subst (λ l. Adds t l) (sym (none n)) tt
  where
    none : (n : ℕ) → take {A = Change} n [] ≡ []
    none zero = refl
    none (suc n) = refl
adds-take t zero (c ∷ changes) h = tt
adds-take t (suc n) (c ∷ changes) h = subst (λ l. Adds t l) (sym (one c changes n)) (h.0, adds-take t n changes h.1)
  where
    one : (c : Change) (changes : List Change) (n : ℕ) → take (suc n) (c ∷ changes) ≡ c ∷ take n changes
    one c changes n = grind arith

-- ---- a worker's rows, but for that of an operation

pub record Stays (t : WorkerTable) (row : RowOutcome WorkerTable) : Type 0 where
  pub table : TableGoes t row.table
  pub adds : Adds t row.changes
  pub silent : AreSilent row.messages

module _ (t : WorkerTable) (k : Tickets) (stored : WorkId → Option Prepared) (fact : TableFact t k stored) where
  -- it sends something, and perhaps changes a work that is stable
  sends-only : (changes : List Change) (sent : List Sent) (told : _) → Adds t changes → AreSilent sent → Stays t (record { table = t; changes = changes; messages = sent; notes = told; tickets = k })
  sends-only changes sent told adds silent = record { table = table-same t; adds = adds; silent = silent }

  ready-stays : (T : Tid) (c : ClientNo) (w : Work) (a : ActiveWork) → work_at w.name t ≡ Some w → w.phase ≡ Active a → conflict w.name (commit_wants a.writes) t ≡ None → Stays t (prepared_row t k T c w a votes.Ready)
  ready-stays T c w a found e free = record {
    table = table-regrants w.name (commit_wants a.writes) _ t _ (granted w.tid w.name (commit_wants a.writes) (Stored (record { reads = a.reads; writes = a.writes })) t free) (λ v y l q. absurd (no y q));
    adds = ((a, (ap acting_of found ∙ ap acting_in e, refl)), tt);
    silent = (tt, tt);
  }
    where
      no : (y : ActiveWork) → Stored (record { reads = a.reads; writes = a.writes }) ≡ Active y → ⊥
      no y q = cc

  gone-stays : (W : WorkId) (changes : List Change) (sent : List Sent) → Adds t changes → AreSilent sent → Stays t (record { table = without W t; changes = changes; messages = sent; notes = []; tickets = k })
  gone-stays W changes sent adds silent = record { table = table-less W t fact.rising; adds = adds; silent = silent }

  abbrev pub IsNoOp : Message → Type 0
  IsNoOp (messages.Op c request W number op) = ⊥
  IsNoOp message = Unit {0}

  pub worker-stays : (s : WorkStorage) (m : Message) → IsNoOp m → Stays t (worker_row t s k m)
  worker-stays s m = by m (worker_row t s k m) (worker-case t s k m)
    where
      replied : (m : Message) (x : Sent) → Replies t s k m x → IsNoOp m → IsSilent x
      replied _ _ (is_repeated c q W n op w a answer found e l kept) h = h
      replied _ _ (is_broken_for c q W n op w u R found e) h = h
      replied _ _ (is_closing_for c q W n op w p found e) h = h
      replied _ _ (is_gone_for c q W n op e) h = h
      replied m x reply h = tt

      by : (m : Message) (row : RowOutcome WorkerTable) → WorkerCase t s k m row → IsNoOp m → Stays t row
      by _ _ (none_done m) h = sends-only [] _ _ tt tt
      by _ _ (replies_only m x reply) h = sends-only [] _ _ tt (replied m x reply h, tt)
      by _ _ (opens_anew c q T none room) h = record { table = table-more (name_from k) T t fact.before; adds = tt; silent = (tt, tt) }
      by _ _ (refuses_next c q W n op w a refusal found e l r) h = absurd h
      by _ _ (performs_next c q W n op w a found e l r) h = absurd h
      by _ _ (prepares_it T c W w a found e v) h = ready-stays T c w a (by-name W t w found) e (no-conflict _ _ v)
      by _ _ (marks_it T W w p found e g) h = sends-only (MarkGoing W ∷ []) _ _ (tt, tt) tt
      by _ _ (drops_it T W w found f) h = gone-stays W [] [] tt tt
      by _ _ (removes_it T W w p found e g) h = gone-stays W (RemoveWork W ∷ []) [] (tt, tt) tt

  -- a background step
  pub step-stays : (s : WorkStorage) (row : RowOutcome WorkerTable) → worker_step t s k ≡ Some row → Stays t row
  step-stays s row h = by row (worker-step-case t s k row h)
    where
      by : (row : RowOutcome WorkerTable) → WorkerStep t s k row → Stays t row
      by _ (carries_out w i e f) = sends-only (CarryOut w.name i ∷ []) _ _ (tt, tt) tt
      by _ (is_over w e f) = gone-stays w.name (RemoveWork w.name ∷ []) _ (tt, tt) (tt, tt)
      by _ (erases_rubbish e g) = sends-only [] _ _ tt tt

  -- a timeout
  pub timeout-stays : (T : Tid) (now : WorkerTable) → timeout_row t T ≡ Some now → TableGoes t now
  timeout-stays T now h = by (work_of T t) refl h
    where
      vulnerable-did : (p : Phase) (b : ActiveWork) → vulnerable p ≡ Active b → (a : ActiveWork) × ((p ≡ Active a) × DidTheSame a b)
      vulnerable-did (Active x) b f = let l = is (record x { vulnerable = true }) b f in
          (x, (refl, record { list = ap (λ (z : ActiveWork). z.list) (sym l); last = ap (λ (z : ActiveWork). z.last) (sym l); kept = ap (λ (z : ActiveWork). z.kept) (sym l) }))
        where
          is : (x y : ActiveWork) → Active x ≡ Active y → x ≡ y
          is x y q = cc
      vulnerable-did (Broken u U) b f = absurd (no f)
        where
          no : Broken u U ≡ Active b → ⊥
          no q = cc
      vulnerable-did (Stored p) b f = absurd (no f)
        where
          no : Stored p ≡ Active b → ⊥
          no q = cc

      by : (o : Option Work) → work_of T t ≡ o → timed_out t o ≡ Some now → TableGoes t now
      by None e q = absurd (none_some now q)
      by (Some x) e q = subst (λ (z : WorkerTable). TableGoes t z) (some_is (with_phase x.name (vulnerable x.phase) t) now q)
          (table-regrants x.name [] (vulnerable x.phase) t _ (phase_changed x.name (vulnerable x.phase) t)
          (λ v b l f. subst (λ (z : Work). (a : ActiveWork) × ((z.phase ≡ Active a) × DidTheSame a b)) (some_is x v (sym (of-found T t x fact.rising e) ∙ l)) (vulnerable-did x.phase b f)))

-- ---- what is sent again

pub works-again : (x : StableState) (t : WorkerTable) → AreSilent (worker_again x t)
works-again x [] = tt
works-again x (w ∷ ws) = by (is_going (x.works w.name)) (works-again x ws)
  where
    by : (b : Bool) → AreSilent (worker_again x ws) → AreSilent (if b then worker_again x ws else (Server w.tid.server, messages.Inquire w.tid w.name) ∷ worker_again x ws)
    by true h = h
    by false h = (tt, h)
