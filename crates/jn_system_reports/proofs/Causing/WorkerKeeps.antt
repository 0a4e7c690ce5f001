-- A worker's row: broken works have their lines, what it had it has, and its votes have causes.
use Rattle.jn_system_reports.proofs.Common.{◌≡◌, ◌≢◌, ◌⊎◌, inl, inr, ℕ, Bool, true, false, List, [], ◌∷◌, ◌++◌, Option, Some, None, is_some, refl, sym, ◌∙◌, ap, subst, arith, if◌then◌else◌, nat_lt, list_any, ServerNo, ClientNo, LockUnit, Tid, WorkId, Tickets, Cause, FullAt, Resource, work_eq, server_tells, tid_tells, work_tells, Message, Note, Vote, Text, Work, Phase, Active, Broken, Stored, Change, Prepared, is_going, StableState, RowOutcome, Sent, WorkerTable, WorkStorage, Wanted, Held, work_at, work_of, with_phase, without, after_grant, breaks_at, broken_by, note_of, break_notes, name_from, new_work, conflict, commit_wants, shortage, vote_of, need_in, worker_row, worker_step, vulnerable, timed_out, timeout_row, restored_work, restored_worker, ClientTable, are_rising, work_same, at-less, at-phase, in_phase, at-grant, once_granted, of-found, Machine, line_of, lines_of, Opening, unit_eq, breaks, RequestNo, going-is, WorkerCase, replies_only, opens_anew, refuses_next, performs_next, prepares_it, drops_it, removes_it, Replies, is_open_already, votes_against, votes_broken, votes_lost, WorkerStep, is_over, its_wants, worker-case, worker-step-case}
use Rattle.jn_base.specs.declared.names.Resource.TheVariants as resources
use Rattle.jn_records.specs.declared.net_list.Need.{Need}
use Rattle.jn_msgs.specs.declared.message.Message.TheVariants as messages
use Rattle.jn_msgs.specs.declared.message.Note.TheVariants as notes
use Rattle.jn_msgs.specs.declared.message.Vote.TheVariants as votes
use Rattle.jn_report.specs.declared.line.Text.TheVariants as says
use Rattle.jn_system_reports.proofs.Reporting.Lists.{In, in-second, Each, each-append, each-more}
use Rattle.jn_system_reports.proofs.Reporting.WorkerTalk.{each-phase, each-less}
use Rattle.jn_system_reports.proofs.Reporting.Past.{VoteFact, SaysPast}
use Rattle.jn_system_reports.proofs.Causing.Evidence.{any-more, any-last}

-- ---- lines of broken works

abbrev pub PhaseTold : ServerNo → List Text → Tid → Phase → Type 0
PhaseTold s lines T (Broken u by) = list_any (breaks s T u by) lines ≡ true
PhaseTold s lines T phase = Unit {0}

abbrev pub WorkTold : ServerNo → List Text → Work → Type 0
WorkTold s lines x = PhaseTold s lines x.tid x.phase

told-more : (s : ServerNo) (lines more : List Text) (x : Work) → WorkTold s lines x → WorkTold s (lines ++ more) x
told-more s lines more x h = by x.phase h
  where
    by : (p : Phase) → PhaseTold s lines x.tid p → PhaseTold s (lines ++ more) x.tid p
    by (Active a) k = tt
    by (Broken u R) k = any-more (breaks s x.tid u R) lines more k
    by (Stored p) k = tt

pub all-told : (s : ServerNo) (lines more : List Text) (t : WorkerTable) → Each (WorkTold s lines) t → Each (WorkTold s (lines ++ more)) t
all-told s lines more t h = each-more (WorkTold s lines) (WorkTold s (lines ++ more)) t (told-more s lines more) h

same-unit : (u : LockUnit) → unit_eq u u ≡ true
same-unit u = grind arith

breaks-it : (s : ServerNo) (T : Tid) (u : LockUnit) (by : Tid) → breaks s T u by (says.Broke s T u by) ≡ true
breaks-it s T u by = grind (arith, server_tells s s, tid_tells T T, tid_tells by by, same-unit u)

note-told : (s : ServerNo) (k : Option ℕ) (told : List Note) (T : Tid) (u : LockUnit) (by : Tid) → In (notes.Broke T u by) told → list_any (breaks s T u by) (lines_of s k told) ≡ true
note-told s k [] T u by i = absurd i
note-told s k (note ∷ told) T u by (inl e) = any-more (breaks s T u by) (line_of s k note) (lines_of s k told) (subst (λ (n : Note). list_any (breaks s T u by) (line_of s k n) ≡ true) (sym e) (first (breaks s T u by (says.Broke s T u by)) (breaks-it s T u by)))
  where
    first : (a : Bool) → a ≡ true → list_any (λ (b : Bool). b) (a ∷ []) ≡ true
    first a h = grind arith
note-told s k (note ∷ told) T u by (inr i) = any-last (breaks s T u by) (line_of s k note) (lines_of s k told) (note-told s k told T u by i)

-- ---- the works of a table

abbrev pub IsLive : WorkId → WorkerTable → Type 0
IsLive W t = is_some (work_at W t) ≡ true

live-more : (W : WorkId) (t : WorkerTable) (x : Work) → IsLive W t → IsLive W (t ++ x ∷ [])
live-more W [] x h = absurd (grind arith)
live-more W (y ∷ ys) x h = by (work_eq y.name W) h (live-more W ys x)
  where
    by : (b : Bool) → is_some (if b then Some y else work_at W ys) ≡ true → (IsLive W ys → IsLive W (ys ++ x ∷ [])) → is_some (if b then Some y else work_at W (ys ++ x ∷ [])) ≡ true
    by true k on = refl
    by false k on = on k

live-last : (t : WorkerTable) (x : Work) → IsLive x.name (t ++ x ∷ [])
live-last [] x = ap (λ (b : Bool). is_some (if b then Some x else None)) (work_same x.name)
live-last (y ∷ ys) x = by (work_eq y.name x.name) (live-last ys x)
  where
    by : (b : Bool) → IsLive x.name (ys ++ x ∷ []) → is_some (if b then Some y else work_at x.name (ys ++ x ∷ [])) ≡ true
    by true on = refl
    by false on = on

live-phase : (V W : WorkId) (phase : Phase) (t : WorkerTable) → IsLive V t → IsLive V (with_phase W phase t)
live-phase V W phase t h = ap is_some (at-phase V W phase t) ∙ by (work_eq W V) (work_at V t) h
  where
    by : (b : Bool) (o : Option Work) → is_some o ≡ true → is_some (if b then in_phase phase o else o) ≡ true
    by true (Some x) k = refl
    by true None k = k
    by false o k = k

live-grant : (R : Tid) (W : WorkId) (wants : List Wanted) (V : WorkId) (t : WorkerTable) → IsLive V t → IsLive V (after_grant R W wants t)
live-grant R W wants V t h = ap is_some (at-grant R W wants V t) ∙ by (work_at V t) h
  where
    by : (o : Option Work) → is_some o ≡ true → is_some (once_granted R W wants o) ≡ true
    by (Some x) k = refl
    by None k = k

live-less : (V W : WorkId) (t : WorkerTable) → are_rising t ≡ true → IsLive V t → IsLive V (without W t) ⊎ (W ≡ V)
live-less V W t rising h = by (work_tells W V)
  where
    by : ((work_eq W V ≡ true) × (W ≡ V)) ⊎ ((work_eq W V ≡ false) × (W ≢ V)) → IsLive V (without W t) ⊎ (W ≡ V)
    by (inl p) = inr p.1
    by (inr p) = inl (ap is_some (at-less V W t rising) ∙ ap (λ (b : Bool). is_some (if b then None else work_at V t)) p.0 ∙ h)

-- ---- rows

module _ (os : List Opening) (clients : ClientNo → ClientTable) (w : Machine) (Caused : ClientNo → Tid → Cause → Type 0) (full : (c : ClientNo) (T : Tid) (s : ServerNo) (n : Resource) (free need : ℕ) → nat_lt free need ≡ true → Caused c T (FullAt s n free need))
    (s : ServerNo) (n : Option ℕ) (lines : List Text) (t : WorkerTable) (k : Tickets) (rising : are_rising t ≡ true) (place : (W : WorkId) (x : Work) → work_at W t ≡ Some x → W.server ≡ k.server) (all : Each (WorkTold s lines) t) where
  -- a work that is told to be open is one of the table, and was asked for
  abbrev pub OpensFact : (ClientNo → RequestNo → Tid → Type 0) → WorkerTable → Sent → Type 0
  OpensFact Asks now (to, messages.Opened c q T (Some W)) = IsLive W now × (W.server ≡ k.server) × Asks c q T
  OpensFact Asks now (to, messages.Opened c q T None) = Unit {0}
  OpensFact Asks now (to, messages.Answer c q answer) = Unit {0}
  OpensFact Asks now (to, messages.Vote T W vote) = Unit {0}
  OpensFact Asks now (to, messages.Done T W) = Unit {0}
  OpensFact Asks now (to, messages.Inquire T W) = Unit {0}
  OpensFact Asks now (to, message) = ⊥

  pub record RowKeeps (Asks : ClientNo → RequestNo → Tid → Type 0) (Goes : WorkId → Type 0) (row : RowOutcome WorkerTable) : Type 0 where
    pub told : Each (WorkTold s (lines ++ lines_of s n row.notes)) row.table
    pub live : (W : WorkId) → IsLive W t → IsLive W row.table ⊎ Goes W
    pub says : Each (SaysPast os clients w Caused) row.messages
    pub opens : Each (OpensFact Asks row.table) row.messages

  module _ (Asks : ClientNo → RequestNo → Tid → Type 0) (Goes : WorkId → Type 0) where
    abbrev Keeps : RowOutcome WorkerTable → Type 0
    Keeps row = RowKeeps Asks Goes row

    stays : (changes : List Change) (sent : List Sent) (noted : List Note) → Each (SaysPast os clients w Caused) sent → Each (OpensFact Asks t) sent → Keeps (record { table = t; changes = changes; messages = sent; notes = noted; tickets = k })
    stays changes sent noted h o = record { told = all-told s lines _ t all; live = λ W l. inl l; says = h; opens = o }

    grant-told : (R : Tid) (W : WorkId) (wants : List Wanted) (more : List Text) (l : WorkerTable) → Each (WorkTold s lines) l → ((T : Tid) (u : LockUnit) (by : Tid) → In (notes.Broke T u by) (break_notes R W wants l) → list_any (breaks s T u by) more ≡ true)
        → Each (WorkTold s (lines ++ more)) (after_grant R W wants l)
    grant-told R W wants more [] h noted = tt
    grant-told R W wants more (v ∷ vs) h noted = (one (breaks_at W wants v) (λ T u by i. noted T u by i), grant-told R W wants more vs h.1 (λ T u by i. noted T u by (in-second (notes.Broke T u by) (note_of R (breaks_at W wants v) v) (break_notes R W wants vs) i)))
      where
        one : (o : Option LockUnit) → ((T : Tid) (u : LockUnit) (by : Tid) → In (notes.Broke T u by) (note_of R o v ++ break_notes R W wants vs) → list_any (breaks s T u by) more ≡ true) → WorkTold s (lines ++ more) (broken_by R o v)
        one None noted = told-more s lines more v h.0
        one (Some u) noted = any-last (breaks s v.tid u R) lines more (noted v.tid u R (inl refl))

    -- the works in the way break
    granted-told : (R : Tid) (W : WorkId) (wants : List Wanted) → Each (WorkTold s (lines ++ lines_of s n (break_notes R W wants t))) (after_grant R W wants t)
    granted-told R W wants = grant-told R W wants _ t all (note-told s n (break_notes R W wants t))

    grants : (changes : List Change) (sent : List Sent) (R : Tid) (W : WorkId) (wants : List Wanted) (phase : Phase) → ((T : Tid) → PhaseTold s (lines ++ lines_of s n (break_notes R W wants t)) T phase) → Each (SaysPast os clients w Caused) sent → Each (OpensFact Asks (with_phase W phase (after_grant R W wants t))) sent
        → Keeps (record { table = with_phase W phase (after_grant R W wants t); changes = changes; messages = sent; notes = break_notes R W wants t; tickets = k })
    grants changes sent R W wants phase fine h o = record {
      told = each-phase (WorkTold s (lines ++ lines_of s n (break_notes R W wants t))) W phase (after_grant R W wants t) (λ x e p. fine x.tid) (granted-told R W wants);
      live = λ V l. inl (live-phase V W phase (after_grant R W wants t) (live-grant R W wants V t l));
      says = h;
      opens = o;
    }

    goes : (W : WorkId) (changes : List Change) (sent : List Sent) → ((V : WorkId) → W ≡ V → Goes V) → Each (SaysPast os clients w Caused) sent → Each (OpensFact Asks (without W t)) sent → Keeps (record { table = without W t; changes = changes; messages = sent; notes = []; tickets = k })
    goes W changes sent may h o = record { told = each-less (WorkTold s (lines ++ [])) W t (all-told s lines [] t all); live = λ V l. by V (live-less V W t rising l); says = h; opens = o }
      where
        by : (V : WorkId) → IsLive V (without W t) ⊎ (W ≡ V) → IsLive V (without W t) ⊎ Goes V
        by V (inl l) = inl l
        by V (inr e) = inr (may V e)

  -- ---- every message

  abbrev pub Asked : Message → ClientNo → RequestNo → Tid → Type 0
  Asked message c q T = message ≡ messages.Open c q T

  abbrev pub Dropped : Message → WorkId → Type 0
  Dropped message W = (T : Tid) × (message ≡ messages.Drop T W)

  pub record Votes (message : Message) : Type 0 where
    pub lost : (T : Tid) (c : ClientNo) (W : WorkId) → message ≡ messages.Prepare T c W → work_at W t ≡ None → VoteFact os clients w Caused T W (votes.Lost W.epoch k.epoch)
    pub broken : (T : Tid) (c : ClientNo) (W : WorkId) (x : Work) (u : LockUnit) (by : Tid) → message ≡ messages.Prepare T c W → work_at W t ≡ Some x → x.phase ≡ Broken u by → VoteFact os clients w Caused T x.name (votes.Broken u by)

  -- a shortage is of something of which there is less than is needed
  abbrev IsShort : Option Vote → Type 0
  IsShort None = Unit {0}
  IsShort (Some vote) = (number : Resource) × (free : ℕ) × (need : ℕ) × (vote ≡ votes.Full number free need) × (nat_lt free need ≡ true)

  is-short : (free need : Need) → IsShort (shortage free need)
  is-short free need = by (nat_lt free.records need.records) refl (nat_lt free.pages need.pages) refl (nat_lt free.heads need.heads) refl
    where
      by : (a : Bool) → nat_lt free.records need.records ≡ a → (b : Bool) → nat_lt free.pages need.pages ≡ b → (c : Bool) → nat_lt free.heads need.heads ≡ c
          → IsShort (if a then Some (votes.Full resources.Records free.records need.records) else (if b then Some (votes.Full resources.Pages free.pages need.pages) else (if c then Some (votes.Full resources.Heads free.heads need.heads) else None)))
      by true e b f c g = (resources.Records, free.records, need.records, refl, e)
      by false e true f c g = (resources.Pages, free.pages, need.pages, refl, f)
      by false e false f true g = (resources.Heads, free.heads, need.heads, refl, g)
      by false e false f false g = tt

  vote-fact : (T : Tid) (W : WorkId) (held : Option Held) (short : Option Vote) → IsShort short → VoteFact os clients w Caused T W (vote_of held short)
  vote-fact T W (Some held) short h = tt
  vote-fact T W None None h = tt
  vote-fact T W None (Some vote) h = subst (λ (v : Vote). VoteFact os clients w Caused T W v) (sym h.3) (λ d. full d T W.server h.0 h.1 h.2 h.4)

  pub worker-keeps : (st : WorkStorage) (message : Message) → Votes message → RowKeeps (Asked message) (Dropped message) (worker_row t st k message)
  worker-keeps st message = by message (worker_row t st k message) (worker-case t st k message)
    where
      replied : (m : Message) (sent : Sent) → Replies t st k m sent → Votes m → SaysPast os clients w Caused sent × OpensFact (Asked m) t sent
      replied _ _ (is_open_already c q T x e) v = let found = of-found T t x rising e in (tt, (ap is_some found, place x.name x found, refl))
      replied _ _ (votes_against T c W x a e f g) v = (vote-fact T x.name (conflict x.name (commit_wants a.writes) t) (shortage st.free (need_in st.maps st.state.files a.list)) (is-short st.free (need_in st.maps st.state.files a.list)), tt)
      replied _ _ (votes_broken T c W x u R e f) v = (v.broken T c W x u R refl e f, tt)
      replied _ _ (votes_lost T c W e) v = (v.lost T c W refl e, tt)
      replied m sent reply v = (tt, tt)

      by : (m : Message) (row : RowOutcome WorkerTable) → WorkerCase t st k m row → Votes m → RowKeeps (Asked m) (Dropped m) row
      by _ _ (replies_only m sent reply) v = let h = replied m sent reply v in stays _ _ _ _ _ (h.0, tt) (h.1, tt)
      by _ _ (opens_anew c q T none room) v = record {
        told = each-append (WorkTold s (lines ++ [])) t _ (all-told s lines [] t all) (tt, tt);
        live = λ W l. inl (live-more W t (new_work (name_from k) T) l);
        says = (tt, tt);
        opens = ((live-last t (new_work (name_from k) T), refl, refl), tt);
      }
      by _ _ (refuses_next c q W number op x a refusal found e l r) v = record {
        told = each-phase (WorkTold s (lines ++ [])) x.name _ t (λ y f p. tt) (all-told s lines [] t all);
        live = λ V l. inl (live-phase V x.name _ t l);
        says = (tt, tt);
        opens = (tt, tt);
      }
      by _ _ (performs_next c q W number op x a found e l r) v = grants _ _ _ _ x.tid x.name (its_wants st a op) _ (λ T. tt) (tt, tt) (tt, tt)
      by _ _ (prepares_it T c W x a found e g) v = grants _ _ _ _ x.tid x.name (commit_wants a.writes) _ (λ U. tt) (tt, tt) (tt, tt)
      by _ _ (drops_it T W x found f) v = goes _ _ W _ _ (λ V e. (T, ap (λ (U : WorkId). messages.Drop T U) e)) tt tt
      by _ _ (removes_it T W x p found f g) v = goes _ _ W _ _ (λ V e. (T, ap (λ (U : WorkId). messages.Drop T U) e)) tt tt
      by m row case v = stays _ _ _ _ _ tt tt

  -- ---- without a message

  abbrev pub Forgets : WorkStorage → WorkId → Type 0
  Forgets st W = is_going (st.state.works W) ≡ true

  pub step-keeps : (st : WorkStorage) (row : RowOutcome WorkerTable) → worker_step t st k ≡ Some row → RowKeeps (λ c q T. ⊥) (Forgets st) row
  step-keeps st row h = by row (worker-step-case t st k row h)
    where
      by : (row : RowOutcome WorkerTable) → WorkerStep t st k row → RowKeeps (λ c q T. ⊥) (Forgets st) row
      by _ (is_over x e f) = goes _ _ x.name _ _ (λ V g. subst (λ (U : WorkId). is_going (st.state.works U) ≡ true) g (going-is st.state t x e)) (tt, tt) (tt, tt)
      by row case = stays _ _ _ _ _ tt tt

-- ---- a timeout and a restart

pub record StillThere (s : ServerNo) (lines : List Text) (t now : WorkerTable) : Type 0 where
  pub told : Each (WorkTold s lines) now
  pub live : (W : WorkId) → IsLive W t → IsLive W now

rest-rising : (y : Work) (ys : WorkerTable) → are_rising (y ∷ ys) ≡ true → are_rising ys ≡ true
rest-rising y ys r = grind arith

pub timeout-keeps : (s : ServerNo) (lines : List Text) (t : WorkerTable) (T : Tid) (now : WorkerTable) → are_rising t ≡ true → Each (WorkTold s lines) t → timeout_row t T ≡ Some now → StillThere s lines t now
timeout-keeps s lines t T now rising told h = by (work_of T t) refl h
  where
    some : {a b : WorkerTable} → Some a ≡ Some b → a ≡ b
    some e = cc

    none : None ≡ Some now → ⊥
    none e = cc

    weaker : (U : Tid) (p : Phase) → PhaseTold s lines U p → PhaseTold s lines U (vulnerable p)
    weaker U (Active a) k = tt
    weaker U (Broken u by) k = k
    weaker U (Stored p) k = tt

    by : (o : Option Work) → work_of T t ≡ o → timed_out t o ≡ Some now → StillThere s lines t now
    by None e q = absurd (none q)
    by (Some x) e q = subst (λ (l : WorkerTable). StillThere s lines t l) (some q) (record { told = phased t rising told (of-found T t x rising e); live = λ W l. live-phase W x.name (vulnerable x.phase) t l })
      where
        -- the phase is put at the work itself
        phased : (l : WorkerTable) → are_rising l ≡ true → Each (WorkTold s lines) l → work_at x.name l ≡ Some x → Each (WorkTold s lines) (with_phase x.name (vulnerable x.phase) l)
        phased [] r k f = tt
        phased (y ∷ ys) r k f = at (work_eq y.name x.name) f (phased ys (rest-rising y ys r) k.1)
          where
            one : Some y ≡ Some x → y ≡ x
            one e = cc

            at : (b : Bool) → (if b then Some y else work_at x.name ys) ≡ Some x → (work_at x.name ys ≡ Some x → Each (WorkTold s lines) (with_phase x.name (vulnerable x.phase) ys))
                → Each (WorkTold s lines) (if b then record y { phase = vulnerable x.phase } ∷ ys else y ∷ with_phase x.name (vulnerable x.phase) ys)
            at true g on = (subst (λ (z : Work). PhaseTold s lines y.tid (vulnerable z.phase)) (one g) (weaker y.tid y.phase k.0), k.1)
            at false g on = (k.0, on g)

pub restored-told : (s : ServerNo) (lines : List Text) (x : StableState) (Ws : List WorkId) → Each (WorkTold s lines) (restored_worker x Ws)
restored-told s lines x [] = tt
restored-told s lines x (W ∷ Ws) = by (x.works W) (restored-told s lines x Ws)
  where
    by : (o : Option Prepared) → Each (WorkTold s lines) (restored_worker x Ws) → Each (WorkTold s lines) (restored_work W o ++ restored_worker x Ws)
    by None on = on
    by (Some p) on = (tt, on)
