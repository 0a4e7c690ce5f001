-- A step keeps the talk in which no client changes and no client is told anything, and in which each work that takes operations does
-- as much as before, or performs the operation that comes next.
use Rattle.jn_system_reports.proofs.Common.{◌≡◌, ◌⊎◌, inl, inr, ℕ, ◌+◌, ◌≤◌, ◌<◌, Bool, true, false, List, [], ◌∷◌, ◌++◌, append-nil, Option, Some, None, refl, sym, ◌∙◌, ap, subst, arith, fun_ext, ◌||◌, if◌then◌else◌, All, get_or, slice_get, list_any, All-nil, All-cons, All-append, ServerNo, ClientNo, Tid, WorkId, Party, Command, Begin, Open, Do, End, Abort, Op, Answer, tid_eq, Event, list_change, Message, Text, ActiveWork, OpenWork, Outstanding, Prepared, Pick, Sent, is_end_or_abort, ClientTable, open_at, answered_by, begins_for, owner_after, Answered, effects, Machine, Working, Atom, run_atoms, MayRun, Invariant, Grows, run_grows, run_kept, not_both, false_unless, none_some, some_of, work_same, holds-of, World, commits_in, has_line, Mirrors, IsCurrent, IsOutstanding, found-open, Says, IsPart, openings, openings-more, Has, has-first, is_closing, any-append, at_place, operation_of, OperationNo, RequestNo}
use Rattle.jn_system_reports.proofs.Telling.TransactionLines.{ops_in, owner_in, begins_it, is_begun, begun_by}
use Rattle.jn_msgs.specs.declared.message.Message.TheVariants as messages
use Rattle.jn_report.specs.declared.line.Refusal.TheVariants as refusals
use Rattle.jn_report.specs.declared.line.Text.TheVariants as says
use Rattle.jn_system_order.proofs.Ordering.Facts.{opening}
use Rattle.jn_system_reports.proofs.Telling.Tellings.{first-false, second-false, SaysAs, trace-more, ops-more, owner-more, begun-more}
use Rattle.jn_system_reports.proofs.Telling.Atoms.{Extends, extends, IsStill, still, IsPresent, present-back}
use Rattle.jn_system_reports.proofs.Telling.Acting.{acting, working, acting-of-active, active-of-acting, DidTheSame, IsSilent, AreSilent}
use Rattle.jn_system_reports.proofs.Telling.Facts.{said, counts, op_in, op_asked, IsNumbered, Hears, IsRunningAt, IsAsking, IsTalking, IsPast, IsEndedAt, IsKept, IsDrawn, is_op_of, op_sent, IsOpenAt, IsKnown, IsStarted, Talk}

-- ---- lines that answer nothing and begin nothing

abbrev pub IsDumb : Text → Type 0
IsDumb (says.Did c j) = ⊥
IsDumb (says.Read c j bytes) = ⊥
IsDumb (says.Refused c j refusals.NoFile) = ⊥
IsDumb (says.Refused c j refusals.Exists) = ⊥
IsDumb (says.Begun c j T) = ⊥
IsDumb text = Unit {0}

abbrev pub AreDumb : List Text → Type 0
AreDumb [] = Unit {0}
AreDumb (text ∷ texts) = IsDumb text × AreDumb texts

pub record SameTold (before now : List Text) : Type 0 where
  pub ops : (events : List Event) (T : Tid) → ops_in events T None now ≡ ops_in events T None before
  pub said : (events : List Event) (T : Tid) (s : ServerNo) → said events T s now ≡ said events T s before
  pub owner : (T : Tid) → owner_in T None now ≡ owner_in T None before
  pub begun : (T : Tid) → is_begun T now ≡ is_begun T before
  pub by : (c : ClientNo) (T : Tid) → begun_by c T now ≡ begun_by c T before

dumb-answers : (events : List Event) (c : ClientNo) (text : Text) → IsDumb text → answered_by events (Some c) text ≡ []
dumb-answers events c (says.Did d j) h = absurd h
dumb-answers events c (says.Read d j bytes) h = absurd h
dumb-answers events c (says.Refused d j refusals.NoFile) h = absurd h
dumb-answers events c (says.Refused d j refusals.Exists) h = absurd h
dumb-answers events c _ h = refl

dumb-owner : (T : Tid) (o : Option ClientNo) (text : Text) → IsDumb text → owner_after T o text ≡ o
dumb-owner T o (says.Begun d j U) h = absurd h
dumb-owner T o _ h = refl

dumb-begun : (T : Tid) (text : Text) → IsDumb text → begins_it T text ≡ false
dumb-begun T (says.Begun d j U) h = absurd h
dumb-begun T _ h = refl

pub dumb-ops : (events : List Event) (T : Tid) (o : Option ClientNo) (texts : List Text) → AreDumb texts → ops_in events T o texts ≡ []
dumb-ops events T o [] h = refl
dumb-ops events T o (x ∷ texts) h = ap (λ z. z ++ ops_in events T (owner_after T o x) texts) (by o) ∙ dumb-ops events T (owner_after T o x) texts h.1
  where
    by : (o : Option ClientNo) → answered_by events o x ≡ []
    by None = refl
    by (Some c) = dumb-answers events c x h.0

pub dumb-owners : (T : Tid) (o : Option ClientNo) (texts : List Text) → AreDumb texts → owner_in T o texts ≡ o
dumb-owners T o [] h = refl
dumb-owners T o (x ∷ texts) h = ap (λ z. owner_in T z texts) (dumb-owner T o x h.0) ∙ dumb-owners T o texts h.1

dumb-begins : (T : Tid) (texts : List Text) → AreDumb texts → is_begun T texts ≡ false
dumb-begins T [] h = refl
dumb-begins T (x ∷ texts) h = ap (λ (b : Bool). b || is_begun T texts) (dumb-begun T x h.0) ∙ dumb-begins T texts h.1

pub dumb-by : (c : ClientNo) (T : Tid) (texts : List Text) → AreDumb texts → begun_by c T texts ≡ false
dumb-by c T [] h = refl
dumb-by c T (x ∷ texts) h = ap (λ (b : Bool). b || begun_by c T texts) (one x h.0) ∙ dumb-by c T texts h.1
  where
    one : (x : Text) → IsDumb x → begins_for c T x ≡ false
    one (says.Begun d j U) k = absurd k
    one _ k = refl

or-false : (b : Bool) → (b || false) ≡ b
or-false b = grind arith

pub same-told : (before more : List Text) → AreDumb more → SameTold before (before ++ more)
same-told before more h = record {
  ops = same;
  said = λ events T s. ap (λ z. at_place s z) (same events T);
  owner = λ T. owner-more T None before more ∙ dumb-owners T (owner_in T None before) more h;
  begun = λ T. begun-more T before more ∙ ap (λ z. is_begun T before || z) (dumb-begins T more h) ∙ or-false (is_begun T before);
  by = λ c T. any-append (begins_for c T) before more ∙ ap (λ z. begun_by c T before || z) (dumb-by c T more h) ∙ or-false (begun_by c T before);
}
  where
    same : (events : List Event) (T : Tid) → ops_in events T None (before ++ more) ≡ ops_in events T None before
    same events T = ops-more events T None before more ∙ ap (λ z. ops_in events T None before ++ z) (dumb-ops events T (owner_in T None before) more h) ∙ append-nil (ops_in events T None before)

pub told-same : (texts : List Text) → SameTold texts texts
told-same texts = record { ops = λ events T. refl; said = λ events T s. refl; owner = λ T. refl; begun = λ T. refl; by = λ c T. refl }

-- ---- what was sent

-- no operation
abbrev pub HasNoOp : Sent → Type 0
HasNoOp (to, messages.Op c request W number op) = ⊥
HasNoOp sent = Unit {0}

abbrev pub HaveNoOp : List Sent → Type 0
HaveNoOp [] = Unit {0}
HaveNoOp (x ∷ sent) = HasNoOp x × HaveNoOp sent

silent-no : (x : Sent) → IsSilent x → HasNoOp x
silent-no (to, messages.Op d request W number op) h = absurd h
silent-no (to, _) h = tt

pub silent-nos : (sent : List Sent) → AreSilent sent → HaveNoOp sent
silent-nos [] h = tt
silent-nos (x ∷ sent) h = (silent-no x h.0, silent-nos sent h.1)

pub every-op : (P : Sent → Type 0) (sent : List Sent) → HaveNoOp sent → ((x : Sent) → HasNoOp x → P x) → All P sent
every-op P [] h f = All-nil P
every-op P (x ∷ sent) h f = All-cons P x sent (f x h.0) (every-op P sent h.1 f)

pub every : (P : Sent → Type 0) (sent : List Sent) → AreSilent sent → ((x : Sent) → IsSilent x → P x) → All P sent
every P [] h f = All-nil P
every P (x ∷ sent) h f = All-cons P x sent (f x h.0) (every P sent h.1 f)

pub map-all : (P Q : Sent → Type 0) (sent : List Sent) → ((x : Sent) → P x → Q x) → All P sent → All Q sent
map-all P Q sent f h = λ i d l. f (get_or sent i d) (h i d l)

pub op_sent-more : (W : WorkId) (a b : List Sent) → op_sent W (a ++ b) ≡ (op_sent W a || op_sent W b)
op_sent-more W [] b = refl
op_sent-more W (x ∷ a) b = ap (λ z. is_op_of W x || z) (op_sent-more W a b) ∙ assoc (is_op_of W x) (op_sent W a) (op_sent W b)
  where
    assoc : (a b c : Bool) → (a || (b || c)) ≡ ((a || b) || c)
    assoc a b c = grind arith

silent-no-op : (W : WorkId) (x : Sent) → HasNoOp x → is_op_of W x ≡ false
silent-no-op W (to, messages.Op d request V number op) h = absurd h
silent-no-op W (to, _) h = refl

silent-none : (W : WorkId) (more : List Sent) → HaveNoOp more → op_sent W more ≡ false
silent-none W [] h = refl
silent-none W (x ∷ more) h = ap (λ (b : Bool). b || op_sent W more) (silent-no-op W x h.0) ∙ silent-none W more h.1

pub same-sent : (W : WorkId) (sent more : List Sent) → HaveNoOp more → op_sent W (sent ++ more) ≡ op_sent W sent
same-sent W sent more h = op_sent-more W sent more ∙ ap (λ z. op_sent W sent || z) (silent-none W more h) ∙ or-false (op_sent W sent)

silent-numbered : (v : OpenWork) (o : Option Outstanding) (x : Sent) → HasNoOp x → IsNumbered v o x
silent-numbered v o (to, messages.Op d request W number op) h = absurd h
silent-numbered v o (to, _) h = tt

silent-past : (W : WorkId) (a : ActiveWork) (x : Sent) → HasNoOp x → IsPast W a x
silent-past W a (to, messages.Op d request V number op) h = absurd h
silent-past W a (to, _) h = tt

pub silent-asks : (W : WorkId) (to : Party) (message : Message) → IsSilent (to, message) → op_in W message ≡ None
silent-asks W to (messages.Op d request V number op) h = absurd h
silent-asks W to _ h = refl

pub silent-drawn : (r : World) (x : Sent) → IsSilent x → IsDrawn r x
silent-drawn r (to, messages.Op d request W number op) h = absurd h
silent-drawn r (to, messages.Answer d request answer) h = absurd h
silent-drawn r (to, _) h = tt

pub numbered-more : (v : OpenWork) (o : Option Outstanding) (sent more : List Sent) → HaveNoOp more → All (IsNumbered v o) sent → All (IsNumbered v o) (sent ++ more)
numbered-more v o sent more h all = All-append (IsNumbered v o) sent more all (every-op (IsNumbered v o) more h (silent-numbered v o))

pub past-more : (W : WorkId) (a : ActiveWork) (sent more : List Sent) → HaveNoOp more → All (IsPast W a) sent → All (IsPast W a) (sent ++ more)
past-more W a sent more h all = All-append (IsPast W a) sent more all (every-op (IsPast W a) more h (silent-past W a))

-- a message that was sent for a work
pub none-of : (W : WorkId) (sent : List Sent) → op_sent W sent ≡ false → All (λ x. is_op_of W x ≡ false) sent
none-of W [] h = All-nil (λ x. is_op_of W x ≡ false)
none-of W (x ∷ sent) h = All-cons (λ x. is_op_of W x ≡ false) x sent (first-false (is_op_of W x) (op_sent W sent) h) (none-of W sent (second-false (is_op_of W x) (op_sent W sent) h))

pub sent-op : (W : WorkId) (sent : List Sent) (k : ℕ) (x : Sent) → slice_get sent k ≡ Some x → is_op_of W x ≡ true → op_sent W sent ≡ true
sent-op W sent k x e h = by (op_sent W sent) refl
  where
    by : (b : Bool) → op_sent W sent ≡ b → op_sent W sent ≡ true
    by true f = f
    by false f = absurd (not_both (is_op_of W x) h (holds-of (λ x. is_op_of W x ≡ false) sent k x (none-of W sent f) e))

-- ---- both worlds, before and after a step

pub record Moved (r r' : World) (w v : Machine) : Type 0 where
  pub before : Mirrors r w
  pub after : Mirrors r' v
  pub inv : Invariant w
  pub inv' : Invariant v
  pub grows : Grows w v
  pub still : (W : WorkId) → IsStill w W → (v.active W ≡ None) × (v.trace W ≡ w.trace W)
  pub extends : (W : WorkId) → Extends w v W
  pub present : (W : WorkId) → w.opened W ≡ true → IsPresent v W → IsPresent w W
  pub named : (T : Tid) → w.named T ≡ has_line T r.lines
  pub named' : (T : Tid) → v.named T ≡ has_line T r'.lines

pub moved : (r r' : World) (w : Machine) (atoms : List Atom) → MayRun atoms w → Mirrors r w → Mirrors r' (run_atoms atoms w) → Invariant w
    → ((T : Tid) → w.named T ≡ has_line T r.lines) → ((T : Tid) → (run_atoms atoms w).named T ≡ has_line T r'.lines) → Moved r r' w (run_atoms atoms w)
moved r r' w atoms may before now inv named named' = record {
  before = before;
  after = now;
  inv = inv;
  inv' = run_kept atoms w may inv;
  grows = run_grows atoms w may inv;
  still = λ W h. let k = still atoms w W may inv h in (k.0.none, k.1);
  extends = λ W. extends atoms w W;
  present = λ W opened h. present-back atoms w W may inv opened h;
  named = named;
  named' = named';
}

-- ---- the step

-- No client changes, works that take operations before and after have done the same, and neither an operation nor an answer is sent.
pub record IsQuiet (r r' : World) : Type 0 where
  pub clients : r'.clients ≡ r.clients
  pub more : List Sent
  pub sent : r'.sent ≡ r.sent ++ more
  pub silent : AreSilent more
  pub told : SameTold r.lines r'.lines
  pub same : (W : WorkId) (a b : ActiveWork) → acting r W ≡ Some a → acting r' W ≡ Some b → DidTheSame a b
  pub new : (W : WorkId) (b : ActiveWork) → acting r W ≡ None → acting r' W ≡ Some b → (b.last ≡ 0) × (b.list ≡ [])
  -- a work that is prepared is so with what it did
  pub found : (W : WorkId) (c : Pick) (p : Prepared) (a : ActiveWork) → acting r W ≡ Some a → (r'.found W.server c).works W ≡ Some p → a.list ≡ p.list
  -- no commit is named, or no work changes
  pub quiet : (commits_in r'.lines ≡ commits_in r.lines) ⊎ ((W : WorkId) → acting r' W ≡ acting r W)

-- A work has performed the operation of a message that was sent, which is the next one, and keeps its answer.
pub record Advances (r : World) (w v : Machine) (W : WorkId) (a b : ActiveWork) : Type 0 where
  pub to : Party
  pub client : ClientNo
  pub request : RequestNo
  pub number : OperationNo
  pub op : Op
  pub answer : Answer
  pub index : ℕ
  pub sent : slice_get r.sent index ≡ Some (to, messages.Op client request W number op)
  pub next : number.0 ≡ a.last + 1
  pub last : b.last ≡ number.0
  pub kept : b.kept ≡ Some answer
  pub says : (told : List Answered) → SaysAs told (w.trace W) → SaysAs (told ++ counts op answer) (v.trace W)

-- No client changes, and works that take operations before and after have done the same, or one operation more.
pub record IsServing (r r' : World) (w v : Machine) : Type 0 where
  pub clients : r'.clients ≡ r.clients
  pub more : List Sent
  pub sent : r'.sent ≡ r.sent ++ more
  pub no_op : HaveNoOp more
  pub replies : All (IsDrawn r') more
  pub told : SameTold r.lines r'.lines
  pub same : (W : WorkId) (a b : ActiveWork) → acting r W ≡ Some a → acting r' W ≡ Some b → DidTheSame a b ⊎ Advances r w v W a b
  pub new : (W : WorkId) (b : ActiveWork) → acting r W ≡ None → acting r' W ≡ Some b → (b.last ≡ 0) × (b.list ≡ [])
  pub found : (W : WorkId) (c : Pick) (p : Prepared) (a : ActiveWork) → acting r W ≡ Some a → (r'.found W.server c).works W ≡ Some p → a.list ≡ p.list
  pub quiet : (commits_in r'.lines ≡ commits_in r.lines) ⊎ ((W : WorkId) → acting r' W ≡ acting r W)

pub of-quiet : (r r' : World) (w v : Machine) → IsQuiet r r' → IsServing r r' w v
of-quiet r r' w v q = record {
  clients = q.clients;
  more = q.more;
  sent = q.sent;
  no_op = silent-nos q.more q.silent;
  replies = every (IsDrawn r') q.more q.silent (silent-drawn r');
  told = q.told;
  same = λ W a b e f. inl (q.same W a b e f);
  new = q.new;
  found = q.found;
  quiet = q.quiet;
}

module _ (r r' : World) (w v : Machine) (m : Moved r r' w v) where
  -- what a work that takes operations did is what its list does
  its-effects : (W : WorkId) (a : ActiveWork) → acting r W ≡ Some a → effects (w.trace W) ≡ list_change a.list
  its-effects W a h = fun_ext (λ u. sym ((m.inv.core.active W (working a) (m.before.active W ∙ active-of-acting (r.memory W.server) W a h)).list u))

  now-effects : (W : WorkId) (a : ActiveWork) → acting r' W ≡ Some a → effects (v.trace W) ≡ list_change a.list
  now-effects W a h = fun_ext (λ u. sym ((m.inv'.core.active W (working a) (m.after.active W ∙ active-of-acting (r'.memory W.server) W a h)).list u))

  pub says-on : (W : WorkId) (told : List Answered) → effects (v.trace W) ≡ effects (w.trace W) → SaysAs told (w.trace W) → SaysAs told (v.trace W)
  says-on W told same h = let x = m.extends W in subst (λ z. SaysAs told z) (sym x.is) (trace-more told (w.trace W) x.more (ap effects (sym x.is) ∙ same) h)

  -- a work that was opened and takes operations took them before
  pub acting-back : (W : WorkId) (b : ActiveWork) → w.opened W ≡ true → acting r' W ≡ Some b → (a : ActiveWork) × (acting r W ≡ Some a)
  acting-back W b opened h = by (w.active W) refl
    where
      by : (o : Option Working) → w.active W ≡ o → (a : ActiveWork) × (acting r W ≡ Some a)
      by None e = absurd (none_some (working b) (sym (m.still W (record { opened = opened; none = e })).0 ∙ m.after.active W ∙ active-of-acting (r'.memory W.server) W b h))
      by (Some A) e = let k = acting-of-active (r.memory W.server) W A (sym (m.before.active W) ∙ e) in (k.0, k.1.0)

  pub acting-says : (W : WorkId) (a b : ActiveWork) (told : List Answered) → acting r W ≡ Some a → acting r' W ≡ Some b → b.list ≡ a.list → SaysAs told (w.trace W) → SaysAs told (v.trace W)
  acting-says W a b told e f same h = says-on W told (now-effects W b f ∙ ap list_change same ∙ sym (its-effects W a e)) h

  pub hears-on : (W : WorkId) (op : Option Op) (x : OpenWork) (a b : ActiveWork) (told : List Answered) → acting r W ≡ Some a → acting r' W ≡ Some b → DidTheSame a b → Hears op x a told (w.trace W) → Hears op x b told (v.trace W)
  hears-on W None x a b told e f same h = (same.last ∙ h.0, acting-says W a b told e f same.list h.1)
  hears-on W (Some op) x a b told e f same (inl h) = inl (ap (λ n. n + 1) same.last ∙ h.0, acting-says W a b told e f same.list h.1)
  hears-on W (Some op) x a b told e f same (inr h) = inr (same.last ∙ h.0, (h.1.0, (same.kept ∙ h.1.1.0, acting-says W a b _ e f same.list h.1.1.1)))

  -- the outstanding operation is performed, or one that isn't outstanding can't be
  advance-hears : (W : WorkId) (o : Option Outstanding) (x : OpenWork) (a b : ActiveWork) (told : List Answered) → x.work ≡ W → Advances r w v W a b → All (IsNumbered x o) r.sent → Hears (op_asked o x.work) x a told (w.trace W) → Hears (op_asked o x.work) x b told (v.trace W)
  advance-hears W o x a b told e adv all h = by (op_asked o x.work) refl h
    where
      its : (adv.number.0 ≤ x.last) × (adv.number.0 ≡ x.last → (p : Op) → op_asked o x.work ≡ Some p → p ≡ adv.op)
      its = holds-of (IsNumbered x o) r.sent adv.index (adv.to, messages.Op adv.client adv.request W adv.number adv.op) all adv.sent (sym e)

      too-far : a.last ≡ x.last → ⊥
      too-far l = let n = adv.next in let le = its.0 in omega (arith, l, n, le)

      by : (asked : Option Op) → op_asked o x.work ≡ asked → Hears asked x a told (w.trace W) → Hears asked x b told (v.trace W)
      by None k g = absurd (too-far g.0)
      by (Some p) k (inr g) = absurd (too-far g.0)
      by (Some p) k (inl g) = let now : adv.number.0 ≡ x.last = adv.next ∙ g.0 in
          inr (adv.last ∙ now, (adv.answer, (adv.kept, subst (λ (z : Op). SaysAs (told ++ counts z adv.answer) (v.trace W)) (sym (its.1 now p k)) (adv.says told g.1))))

  -- nor can one of a work whose transaction was ended
  not-past : (W : WorkId) (a b : ActiveWork) → Advances r w v W a b → All (IsPast W a) r.sent → ⊥
  not-past W a b adv all = let le = holds-of (IsPast W a) r.sent adv.index (adv.to, messages.Op adv.client adv.request W adv.number adv.op) all adv.sent refl in let n = adv.next in omega (arith, le, n)

  module _ (events : List Event) (q : IsServing r r' w v) where
    -- a work of an end, present now and before
    module _ (T : Tid) (W : WorkId) (told : List Answered) (part : IsPart w T W.server W) (its : w.part T W.server ≡ Some W) (not-aborted : v.aborted T ≡ false) (was : SaysAs told (w.trace W)) (past : (a : ActiveWork) → acting r W ≡ Some a → All (IsPast W a) r.sent) where
      its-owner : v.owner W ≡ T
      its-owner = m.grows.owner W part.opened ∙ part.owner

      module _ (a : ActiveWork) (e : acting r W ≡ Some a) where
        was-active : w.active W ≡ Some (working a)
        was-active = m.before.active W ∙ active-of-acting (r.memory W.server) W a e

        stored-says : (pick : Pick) (p : Prepared) → (v.found W.server pick).works W ≡ Some p → SaysAs told (v.trace W)
        stored-says pick p is = says-on W told (now ∙ sym (ap list_change (q.found W pick p a e (ap (λ x. x.works W) (sym (m.after.found W.server pick)) ∙ is))) ∙ sym (its-effects W a e)) was
          where
            now : effects (v.trace W) ≡ list_change p.list
            now = fun_ext (λ u. sym (((m.inv'.core.states W.server pick).prepared W p is).list u))

        -- its transaction wasn't named, since it wasn't ready
        unnamed : w.named T ≡ false
        unnamed = false_unless (w.named T) (λ n. not_both (w.was_ready W) ((m.inv.core.named T n).ready W.server W its) (m.inv.core.active W (working a) was-active).not_ready)

        -- it is ready now, so it may be found
        ready-says : v.was_ready W ≡ true → SaysAs told (v.trace W)
        ready-says f = by q.quiet
          where
            by : (commits_in r'.lines ≡ commits_in r.lines) ⊎ ((U : WorkId) → acting r' U ≡ acting r U) → SaysAs told (v.trace W)
            by (inl same) =
                let free : v.named T ≡ false = m.named' T ∙ ap (λ l. list_any (λ (U : Tid). tid_eq U T) l) same ∙ sym (m.named T) ∙ unnamed in
                let there = (m.inv'.core.states W.server (λ n. false)).ready W refl f (subst (λ (U : Tid). v.aborted U ≡ false) (sym its-owner) not-aborted) (subst (λ (U : Tid). v.named U ≡ false) (sym its-owner) free) in
                let x = some_of ((v.found W.server (λ n. false)).works W) there in stored-says (λ n. false) x.0 x.1
            by (inr same) = absurd (not_both (v.was_ready W) f (m.inv'.core.active W (working a) (m.after.active W ∙ active-of-acting (r'.memory W.server) W a (same W ∙ e))).not_ready)

        active-says : (B : Working) → v.active W ≡ Some B → SaysAs told (v.trace W)
        active-says B f = let b = acting-of-active (r'.memory W.server) W B (sym (m.after.active W) ∙ f) in by b.0 b.1.0 (q.same W a b.0 e b.1.0)
          where
            by : (b : ActiveWork) → acting r' W ≡ Some b → DidTheSame a b ⊎ Advances r w v W a b → SaysAs told (v.trace W)
            by b g (inl same) = acting-says W a b told e g same.list was
            by b g (inr adv) = absurd (not-past W a b adv (past a e))

        present-says : IsPresent v W → SaysAs told (v.trace W)
        present-says (inl f) = active-says f.0 f.1
        present-says (inr (inl f)) = stored-says f.pick f.work f.is
        present-says (inr (inr f)) = ready-says f

      ended-says : IsPresent v W → SaysAs told (v.trace W)
      ended-says p = by (w.active W) refl
        where
          by : (o : Option Working) → w.active W ≡ o → SaysAs told (v.trace W)
          by None e = subst (λ z. SaysAs told z) (sym (m.still W (record { opened = part.opened; none = e })).1) was
          by (Some A) e = let k = acting-of-active (r.memory W.server) W A (sym (m.before.active W) ∙ e) in present-says k.0 k.1.0 p

    module _ (ended : v.ended ≡ w.ended) (talk : Talk events r w) where
      all-sent : (P : Sent → Type 0) → All P (r.sent ++ q.more) → All P r'.sent
      all-sent P h = subst (λ l. All P l) (sym q.sent) h

      module _ (c : ClientNo) where
        abbrev t : ClientTable
        t = r.clients c

        h : IsTalking events r w c t
        h = talk.clients c

        its-opened : (T : Tid) (s : ServerNo) (x : OpenWork) → t.transaction ≡ Some T → open_at s t.works ≡ Some x → w.opened x.work ≡ true
        its-opened T s x e k = (found-open w T s t.works x (subst (λ o. IsCurrent w o t.works) e (m.before.clients c).current).1 k).0.0

        running-on : (T : Tid) (s : ServerNo) (o : Option OpenWork) → ((x : OpenWork) → o ≡ Some x → w.opened x.work ≡ true) → IsRunningAt events r w T t.outstanding s o → IsRunningAt events r' v T t.outstanding s o
        running-on T s None opened k = q.told.said events T s ∙ k
        running-on T s (Some x) opened k = (
          all-sent (IsNumbered x t.outstanding) (numbered-more x t.outstanding r.sent q.more q.no_op k.0),
          λ b f. let a = acting-back x.work b (opened x refl) f in
              subst (λ z. Hears (op_asked t.outstanding x.work) x b z (v.trace x.work)) (sym (q.told.said events T s))
              (by a.0 b a.1 f (q.same x.work a.0 b a.1 f) (k.1 a.0 a.1)),
        )
          where
            by : (a b : ActiveWork) → acting r x.work ≡ Some a → acting r' x.work ≡ Some b → DidTheSame a b ⊎ Advances r w v x.work a b → Hears (op_asked t.outstanding x.work) x a (said events T s r.lines) (w.trace x.work)
                → Hears (op_asked t.outstanding x.work) x b (said events T s r.lines) (v.trace x.work)
            by a b e f (inl same) g = hears-on x.work (op_asked t.outstanding x.work) x a b (said events T s r.lines) e f same g
            by a b e f (inr adv) g = advance-hears x.work t.outstanding x a b (said events T s r.lines) refl adv k.0 g

        talking-on : IsTalking events r' v c t
        talking-on = record {
          asking = h.asking;
          owner = λ T e. q.told.owner T ∙ h.owner T e;
          running = λ T e k s. running-on T s (open_at s t.works) (λ x l. its-opened T s x e l) (h.running T e k s);
        }

      past-on : (W : WorkId) (a b : ActiveWork) → b.last ≡ a.last → (x : Sent) → IsPast W a x → IsPast W b x
      past-on W a b e (to, messages.Op d request V number op) h = λ k. subst (λ n. number.0 ≤ n) (sym e) (h k)
      past-on W a b e (to, _) h = tt

      ended-on : (T : Tid) (s : ServerNo) (o : Option WorkId) → w.part T s ≡ o → v.aborted T ≡ false → IsEndedAt events r w T s o → IsEndedAt events r' v T s o
      ended-on T s None e free k = q.told.said events T s ∙ k
      ended-on T s (Some W) e free k = let part = m.inv.core.parts T s W e in (
        λ p. subst (λ z. SaysAs z (v.trace W)) (sym (q.told.said events T s)) (ended-says T W (said events T s r.lines) (subst (λ (z : ServerNo). IsPart w T z W) (sym part.place) part) (ap (w.part T) part.place ∙ e) free (k.0 (m.present W part.opened p)) k.1 p),
        λ b f. let a = acting-back W b part.opened f in all-sent (IsPast W b) (past-more W b r.sent q.more q.no_op (map-all (IsPast W a.0) (IsPast W b) r.sent (past-on W a.0 b (last a.0 b (k.1 a.0 a.1) (q.same W a.0 b a.1 f))) (k.1 a.0 a.1))),
      )
        where
          last : (a b : ActiveWork) → All (IsPast W a) r.sent → DidTheSame a b ⊎ Advances r w v W a b → b.last ≡ a.last
          last a b past (inl same) = same.last
          last a b past (inr adv) = absurd (not-past W a b adv past)

      -- a work that has kept the answer to an outstanding operation performs no other
      not-outstanding : (d : ClientNo) (o : Outstanding) → (r.clients d).outstanding ≡ Some o → (W : WorkId) (number : OperationNo) (a b : ActiveWork) → ((c : ClientNo) (request : RequestNo) (op : Op) → o.message ≡ messages.Op c request W number op → a.last ≡ number.0 → Advances r w v W a b → ⊥)
      not-outstanding d o e W number a b c request op is l adv = by o.command refl ((talk.clients d).asking o e)
        where
          asked : op_in W o.message ≡ Some op
          asked = ap (op_in W) is ∙ ap (λ (z : Bool). if z then Some op else None) (work_same W)

          other : op_in W o.message ≡ None → ⊥
          other k = none_some op (sym k ∙ asked)

          none-closes : (s : ServerNo) (p : Op) → o.command ≡ Do s p → is_closing (r.clients d).outstanding ≡ false
          none-closes s p f = ap is_closing e ∙ ap is_end_or_abort f

          by : (command : Command) → o.command ≡ command → IsAsking events d (r.clients d) o command → ⊥
          by (Do s p) f k = far (number-of (sym is ∙ k.message))
            where
              number-of : messages.Op c request W number op ≡ messages.Op d o.request k.work.work (operation_of k.work.last) p → (W ≡ k.work.work) × (number.0 ≡ k.work.last)
              number-of g = (cc, cc)

              runs : IsRunningAt events r w k.tid (r.clients d).outstanding s (Some k.work)
              runs = subst (λ z. IsRunningAt events r w k.tid (r.clients d).outstanding s z) k.is ((talk.clients d).running k.tid k.current (none-closes s p f) s)

              far : (W ≡ k.work.work) × (number.0 ≡ k.work.last) → ⊥
              far g = let le = (holds-of (IsNumbered k.work (r.clients d).outstanding) r.sent adv.index (adv.to, messages.Op adv.client adv.request W adv.number adv.op) runs.0 adv.sent g.0).0 in
                  let n = adv.next in let at = g.1 in omega (arith, le, n, l, at)
          by (Begin s) f k = other (silent-asks W o.to o.message k)
          by (Open s) f k = other (silent-asks W o.to o.message k)
          by End f k = other (silent-asks W o.to o.message k)
          by Abort f k = other (silent-asks W o.to o.message k)

      kept-on : (d : ClientNo) (o : Outstanding) (answer : Answer) → (r.clients d).outstanding ≡ Some o → (message : Message) → o.message ≡ message → IsKept r answer message → IsKept r' answer message
      kept-on d o answer e (messages.Op c request W number op) is k = λ b f. let a = acting-back W b (subst (λ (z : Message). Says w z) is (subst (λ x. IsOutstanding w x) e (m.before.clients d).waits).0) f in
          by a.0 b (q.same W a.0 b a.1 f) (k a.0 a.1)
        where
          by : (a b : ActiveWork) → DidTheSame a b ⊎ Advances r w v W a b → (a.last ≡ number.0) × (a.kept ≡ Some answer) → (b.last ≡ number.0) × (b.kept ≡ Some answer)
          by a b (inl same) h = (same.last ∙ h.0, same.kept ∙ h.1)
          by a b (inr adv) h = absurd (not-outstanding d o e W number a b c request op is h.0 adv)
      kept-on d o answer e _ is k = tt

      drawn-on : (x : Sent) → IsDrawn r x → IsDrawn r' x
      drawn-on (to, messages.Op d request W number op) h = subst (λ f. (request.0 < (f d).next) × ((o : Outstanding) → (f d).outstanding ≡ Some o → o.request ≡ request → o.message ≡ messages.Op d request W number op)) (sym q.clients) h
      drawn-on (to, messages.Answer d request answer) h = subst (λ f. (request.0 < (f d).next) × ((o : Outstanding) → (f d).outstanding ≡ Some o → o.request ≡ request → IsKept r' answer o.message)) (sym q.clients)
          (h.0, λ o e k. kept-on d o answer e o.message refl (h.1 o e k))
      drawn-on (to, _) h = tt

      -- it has the same owner
      known-on : (W : WorkId) → IsKnown r w W → IsKnown r' v W
      known-on W k = let same = m.grows.owner W k.opened in record {
        opened = m.grows.opened W k.opened;
        begun = subst (λ (U : Tid). is_begun U r'.lines ≡ true) (sym same) (q.told.begun (w.owner W) ∙ k.begun);
        its = λ c e. subst (λ f. IsOpenAt W (open_at W.server (f c).works)) (sym q.clients) (k.its c (subst (λ f. (f c).transaction ≡ Some (w.owner W)) q.clients (e ∙ ap Some same)));
      }

      unasked-on : (W : WorkId) → op_sent W r.sent ≡ false → (b : ActiveWork) → acting r' W ≡ Some b → (b.last ≡ 0) × SaysAs [] (v.trace W)
      unasked-on W e b f = by (acting r W) refl
        where
          by : (o : Option ActiveWork) → acting r W ≡ o → (b.last ≡ 0) × SaysAs [] (v.trace W)
          by (Some a) k = on a k (q.same W a b k f) (talk.unasked W e a k)
            where
              on : (a : ActiveWork) → acting r W ≡ Some a → DidTheSame a b ⊎ Advances r w v W a b → (a.last ≡ 0) × SaysAs [] (w.trace W) → (b.last ≡ 0) × SaysAs [] (v.trace W)
              on a k (inl same) was = (same.last ∙ was.0, acting-says W a b [] k f same.list was.1)
              on a k (inr adv) was = absurd (not_both (op_sent W r.sent) (sent-op W r.sent adv.index _ adv.sent (work_same W)) e)
          by None k = let fresh = q.new W b k f in (fresh.0, record { effects = sym (now-effects W b f ∙ ap list_change fresh.1); agrees = λ files l. tt })

      started-on : (T : Tid) → IsStarted r T → IsStarted r' T
      started-on T k = record {
        client = k.client;
        request = k.request;
        has = subst (λ l. Has (opening k.client k.request T) (openings l)) (sym q.sent) (subst (λ l. Has (opening k.client k.request T) l) (sym (openings-more r.sent q.more)) (has-first (opening k.client k.request T) (openings r.sent) (openings q.more) k.has));
        drawn = subst (λ f. k.request.0 < (f k.client).next) (sym q.clients) k.drawn;
        before = λ o e. k.before o (subst (λ f. (f k.client).outstanding ≡ Some o) q.clients e);
        its = λ d e. k.its d (sym (q.told.by d T) ∙ e);
      }

      pub serving-talks : Talk events r' v
      serving-talks = record {
        clients = λ c. subst (λ f. IsTalking events r' v c (f c)) (sym q.clients) (talking-on c);
        ended = λ T e free s. let e' = subst (λ f. f T ≡ true) ended e in
            subst (λ o. IsEndedAt events r' v T s o) (sym (m.grows.part T e' s)) (ended-on T s (w.part T s) refl free (talk.ended T e' (false_unless (w.aborted T) (λ k. not_both (v.aborted T) (m.grows.aborted T k) free)) s));
        owners = λ T c e. subst (λ f. ((f c).transaction ≡ None) ⊎ ((f c).transaction ≡ Some T)) (sym q.clients) (talk.owners T c (sym (q.told.owner T) ∙ e));
        drawn = all-sent (IsDrawn r') (All-append (IsDrawn r') r.sent q.more (map-all (IsDrawn r) (IsDrawn r') r.sent drawn-on talk.drawn) q.replies);
        known = λ W e. known-on W (talk.known W (sym (same-sent W r.sent q.more q.no_op) ∙ ap (op_sent W) (sym q.sent) ∙ e));
        unasked = λ W e b f. unasked-on W (sym (same-sent W r.sent q.more q.no_op) ∙ ap (op_sent W) (sym q.sent) ∙ e) b f;
        started = λ T e. started-on T (talk.started T (sym (q.told.begun T) ∙ e));
      }
