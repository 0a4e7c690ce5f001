-- A client takes a message.
use Rattle.jn_system_reports.proofs.Common.{◌≡◌, ◌≢◌, ◌⊎◌, inl, inr, ◌<◌, ◌≤◌, ℕ, ◌+◌, Bool, true, false, List, [], ◌∷◌, ◌++◌, append-nil, Option, Some, None, refl, sym, ◌∙◌, ap, subst, arith, if◌then◌else◌, ◌||◌, ◌&&◌, All, slice_get, nat_tests, All-nil, ServerNo, ClientNo, Tid, WorkId, Client, Server, Op, Answer, Command, Begin, Open, Do, End, Abort, server_eq, client_eq, tid_eq, work_eq, server_tells, client_tells, tid_tells, Event, CommandOf, Message, Outcome, Text, ActiveWork, OpenWork, Outstanding, Taken, Sent, ClientTable, open_at, is_begin, is_operation, is_end_or_abort, opens, is_current, is_tid, if_waits, idle, over, begun_row, opened_row, answer_line, decided_row, outcome_row, take_row, event_at, performed_in, answered_by, begins_for, owner_after, is_its_client, work_same, Answered, Machine, Says, IsWorkOf, not_both, false_unless, some_is, none_some, World, at_client, took, taken_by, Mirrors, IsCurrent, found-open, holds-of, Opening, opening_in, openings, Has, is_closing, Facts, all-have-theirs, any-append, at_place, request_eq, RequestNo, one-client}
use Rattle.jn_system_reports.proofs.Telling.TransactionLines.{ops_in, owner_in, begins_it, is_begun, begun_by}
use Rattle.jn_base.specs.declared.op.Answer.TheVariants as answers
use Rattle.jn_msgs.specs.declared.message.Message.TheVariants as messages
use Rattle.jn_msgs.specs.declared.message.Outcome.TheVariants as outcomes
use Rattle.jn_report.specs.declared.line.Text.TheVariants as says
use Rattle.jn_rows.specs.declared.client.Taken.TheVariants as taken
use Rattle.jn_system_order.proofs.Ordering.Facts.{opening}
use Rattle.jn_system_reports.proofs.Telling.Tellings.{SaysAs, ops-more, owner-more, begun-more, by-begun, place-more, none-told}
use Rattle.jn_system_reports.proofs.Telling.Acting.{acting, AreSilent}
use Rattle.jn_system_reports.proofs.Telling.Facts.{said, counts, op_in, op_asked, IsOperation, IsAsking, IsNumbered, Hears, IsRunningAt, IsTalking, IsKept, IsDrawn, is_op_of, op_sent, IsOpenAt, IsKnown, IsStarted, Talk}
use Rattle.jn_system_reports.proofs.Telling.Quiet.{SameTold, IsDumb, same-told, map-all, none-of, silent-asks}
use Rattle.jn_system_reports.proofs.Telling.Clients.{at-own, at-other, now, client-talks, running-still, table-started, plain-talks, same-client-talks}
use Rattle.jn_system_reports.proofs.Telling.ClientTells.{its-begun, other-work}

-- ---- one line more

same-number : (a b : RequestNo) → request_eq a b ≡ true → a ≡ b
same-number a b e = grind (arith, nat_tests)

client-same : (c : ClientNo) → client_eq c c ≡ true
client-same c = grind (arith, client_tells c c)

client-other : (c d : ClientNo) → c ≢ d → client_eq c d ≡ false
client-other c d ne = grind (arith, client_tells c d, ne)

is-client : (c d : ClientNo) → client_eq c d ≡ true → c ≡ d
is-client c d h = grind (arith, client_tells c d, h)

said-more : (events : List Event) (T : Tid) (s : ServerNo) (lines : List Text) (line : Text) → said events T s (lines ++ line ∷ []) ≡ said events T s lines ++ at_place s (answered_by events (owner_in T None lines) line)
said-more events T s lines line = ap (λ z. at_place s z) (ops-more events T None lines (line ∷ [])) ∙ place-more s (ops_in events T None lines) (answered_by events (owner_in T None lines) line ++ [])
    ∙ ap (λ z. said events T s lines ++ at_place s z) (append-nil (answered_by events (owner_in T None lines) line))

-- the line of an answer reports its answer at the operation's server, where it counts
module _ (events : List Event) (c : ClientNo) (j : ℕ) (s : ServerNo) (op : Op) (told : event_at events j ≡ Some (CommandOf c (Do s op))) where
  its-answer : (answer : Answer) (x : Answer) (q : ServerNo) → counts op answer ≡ record { op = op; answer = x } ∷ []
      → at_place q (if client_eq c c then performed_in c x (event_at events j) else []) ≡ (if server_eq s q then counts op answer else [])
  its-answer answer x q e = ap (λ (b : Bool). at_place q (if b then performed_in c x (event_at events j) else [])) (client-same c) ∙ ap (λ o. at_place q (performed_in c x o)) told
      ∙ ap (λ (b : Bool). at_place q (if b then (record { server = s; op = op; answer = x }) ∷ [] else [])) (client-same c) ∙ ap (λ z. if server_eq s q then z else []) (sym e)

  nothing : (q : ServerNo) → at_place q [] ≡ (if server_eq s q then [] else [])
  nothing q = by (server_eq s q)
    where
      by : (b : Bool) → at_place q [] ≡ (if b then [] else [])
      by true = refl
      by false = refl

  pub answer-told : (answer : Answer) (q : ServerNo) → at_place q (answered_by events (Some c) (answer_line c j answer)) ≡ (if server_eq s q then counts op answer else [])
  answer-told answers.Did q = its-answer answers.Did answers.Did q refl
  answer-told (answers.Read bytes) q = its-answer (answers.Read bytes) (answers.Read bytes) q refl
  answer-told answers.NoFile q = its-answer answers.NoFile answers.NoFile q refl
  answer-told answers.Exists q = its-answer answers.Exists answers.Exists q refl
  answer-told (answers.Locked u T) q = nothing q
  answer-told answers.TooManyReads q = nothing q
  answer-told answers.TooManyWrites q = nothing q
  answer-told (answers.Broken u T) q = nothing q
  answer-told (answers.Lost was is) q = nothing q
  answer-told answers.Closing q = nothing q

  -- another client's line reports nothing
  pub other-told : (d : ClientNo) (answer : Answer) → c ≢ d → answered_by events (Some d) (answer_line c j answer) ≡ []
  other-told d answer ne = by answer (client-other d c (λ e. ne (sym e)))
    where
      by : (answer : Answer) → client_eq d c ≡ false → answered_by events (Some d) (answer_line c j answer) ≡ []
      by answers.Did e = ap (λ (b : Bool). if b then performed_in d answers.Did (event_at events j) else []) e
      by (answers.Read bytes) e = ap (λ (b : Bool). if b then performed_in d (answers.Read bytes) (event_at events j) else []) e
      by answers.NoFile e = ap (λ (b : Bool). if b then performed_in d answers.NoFile (event_at events j) else []) e
      by answers.Exists e = ap (λ (b : Bool). if b then performed_in d answers.Exists (event_at events j) else []) e
      by (answers.Locked u T) e = refl
      by answers.TooManyReads e = refl
      by answers.TooManyWrites e = refl
      by (answers.Broken u T) e = refl
      by (answers.Lost was is) e = refl
      by answers.Closing e = refl

  pub answer-owner : (T : Tid) (o : Option ClientNo) (answer : Answer) → (owner_after T o (answer_line c j answer) ≡ o) × (begins_it T (answer_line c j answer) ≡ false)
  answer-owner T o answers.Did = (refl, refl)
  answer-owner T o (answers.Read bytes) = (refl, refl)
  answer-owner T o answers.NoFile = (refl, refl)
  answer-owner T o answers.Exists = (refl, refl)
  answer-owner T o (answers.Locked u U) = (refl, refl)
  answer-owner T o answers.TooManyReads = (refl, refl)
  answer-owner T o answers.TooManyWrites = (refl, refl)
  answer-owner T o (answers.Broken u U) = (refl, refl)
  answer-owner T o (answers.Lost was is) = (refl, refl)
  answer-owner T o answers.Closing = (refl, refl)

answer-by : (d : ClientNo) (T : Tid) (c : ClientNo) (j : ℕ) (answer : Answer) → begins_for d T (answer_line c j answer) ≡ false
answer-by d T c j answers.Did = refl
answer-by d T c j (answers.Read bytes) = refl
answer-by d T c j answers.NoFile = refl
answer-by d T c j answers.Exists = refl
answer-by d T c j (answers.Locked u by) = refl
answer-by d T c j answers.TooManyReads = refl
answer-by d T c j answers.TooManyWrites = refl
answer-by d T c j (answers.Broken u by) = refl
answer-by d T c j (answers.Lost was is) = refl
answer-by d T c j answers.Closing = refl

or-false : (a b : Bool) → b ≡ false → (a || b) ≡ a
or-false a b h = grind arith

-- ---- one work more

more-there : (q : ServerNo) (works : List OpenWork) (x y : OpenWork) → open_at q works ≡ Some y → open_at q (works ++ x ∷ []) ≡ Some y
more-there q [] x y h = absurd (none_some y h)
more-there q (u ∷ us) x y h = by (server_eq u.work.server q) h (more-there q us x y)
  where
    by : (b : Bool) → (if b then Some u else open_at q us) ≡ Some y → (open_at q us ≡ Some y → open_at q (us ++ x ∷ []) ≡ Some y) → (if b then Some u else open_at q (us ++ x ∷ [])) ≡ Some y
    by true k on = k
    by false k on = on k

more-new : (q : ServerNo) (works : List OpenWork) (x : OpenWork) → open_at q works ≡ None → open_at q (works ++ x ∷ []) ≡ (if server_eq x.work.server q then Some x else None)
more-new q [] x h = refl
more-new q (u ∷ us) x h = by (server_eq u.work.server q) h (more-new q us x)
  where
    by : (b : Bool) → (if b then Some u else open_at q us) ≡ None → (open_at q us ≡ None → open_at q (us ++ x ∷ []) ≡ (if server_eq x.work.server q then Some x else None)) → (if b then Some u else open_at q (us ++ x ∷ [])) ≡ (if server_eq x.work.server q then Some x else None)
    by true k on = absurd (none_some u (sym k))
    by false k on = on k

-- ---- the client takes a message that was sent

module _ (events : List Event) (r : World) (w : Machine) (mirrors : Mirrors r w) (facts : Facts r w) (talk : Talk events r w) (c : ClientNo) (k : ℕ) where
  abbrev t : ClientTable
  t = r.clients c

  its-name : t.client ≡ c
  its-name = (facts.clients c).name

  le : (n : ℕ) → n ≤ n
  le n = omega arith

  -- no operation is outstanding where the command is none
  quiet-waits : (o : Outstanding) → t.outstanding ≡ Some o → is_operation o.command ≡ false → (W : WorkId) → op_asked t.outstanding W ≡ None
  quiet-waits o e none W = ap (λ z. op_asked z W) e ∙ by o.command none ((talk.clients c).asking o e)
    where
      by : (command : Command) → is_operation command ≡ false → IsAsking events c t o command → op_in W o.message ≡ None
      by (Begin s) n a = silent-asks W o.to o.message a
      by (Open s) n a = silent-asks W o.to o.message a
      by End n a = silent-asks W o.to o.message a
      by Abort n a = silent-asks W o.to o.message a
      by (Do s op) n a = absurd (not_both true refl n)

  -- ---- an answer

  module _ (o : Outstanding) (waits : t.outstanding ≡ Some o) (s : ServerNo) (op : Op) (command : o.command ≡ Do s op) (its : IsOperation events c t o s op) (answer : Answer) (kept : IsKept r answer o.message) where
    abbrev told : World
    told = now events r w c (idle t) [] (answer_line c o.event answer ∷ [])

    owner-still : (T : Tid) → owner_in T None (r.lines ++ answer_line c o.event answer ∷ []) ≡ owner_in T None r.lines
    owner-still T = owner-more T None r.lines (answer_line c o.event answer ∷ []) ∙ (answer-owner events c o.event s op its.told T (owner_in T None r.lines) answer).0

    begun-still : (T : Tid) → is_begun T (r.lines ++ answer_line c o.event answer ∷ []) ≡ is_begun T r.lines
    begun-still T = begun-more T r.lines (answer_line c o.event answer ∷ []) ∙ or-false (is_begun T r.lines) (begins_it T (answer_line c o.event answer) || false)
        (or-false (begins_it T (answer_line c o.event answer)) false refl ∙ (answer-owner events c o.event s op its.told T None answer).1)

    by-still : (d : ClientNo) (T : Tid) → begun_by d T (r.lines ++ answer_line c o.event answer ∷ []) ≡ begun_by d T r.lines
    by-still d T = any-append (begins_for d T) r.lines (answer_line c o.event answer ∷ []) ∙ or-false (begun_by d T r.lines) (begins_for d T (answer_line c o.event answer) || false)
        (or-false (begins_for d T (answer_line c o.event answer)) false refl ∙ answer-by d T c o.event answer)

    said-own : (T : Tid) (q : ServerNo) → owner_in T None r.lines ≡ Some c → said events T q (r.lines ++ answer_line c o.event answer ∷ []) ≡ said events T q r.lines ++ (if server_eq s q then counts op answer else [])
    said-own T q e = said-more events T q r.lines (answer_line c o.event answer) ∙ ap (λ z. said events T q r.lines ++ at_place q (answered_by events z (answer_line c o.event answer))) e
        ∙ ap (λ z. said events T q r.lines ++ z) (answer-told events c o.event s op its.told answer q)

    said-other : (T : Tid) (d : Option ClientNo) (q : ServerNo) → owner_in T None r.lines ≡ d → ((e : ClientNo) → d ≡ Some e → c ≢ e) → said events T q (r.lines ++ answer_line c o.event answer ∷ []) ≡ said events T q r.lines
    said-other T d q e ne = said-more events T q r.lines (answer_line c o.event answer) ∙ ap (λ z. said events T q r.lines ++ at_place q (answered_by events z (answer_line c o.event answer))) e ∙ by d ne
      where
        by : (d : Option ClientNo) → ((e : ClientNo) → d ≡ Some e → c ≢ e) → said events T q r.lines ++ at_place q (answered_by events d (answer_line c o.event answer)) ≡ said events T q r.lines
        by None ne = append-nil (said events T q r.lines)
        by (Some f) ne = ap (λ z. said events T q r.lines ++ at_place q z) (other-told events c o.event s op its.told f answer (ne f refl)) ∙ append-nil (said events T q r.lines)

    runs : is_closing t.outstanding ≡ false
    runs = ap is_closing waits ∙ ap is_end_or_abort command

    its-place : its.work.work.server ≡ s
    its-place = (found-open w its.tid s t.works its.work (subst (λ z. IsCurrent w z t.works) its.current (mirrors.clients c).current).1 its.is).1

    asked-here : op_asked t.outstanding its.work.work ≡ Some op
    asked-here = ap (λ z. op_asked z its.work.work) waits ∙ ap (λ z. op_in its.work.work z) its.message ∙ ap (λ (b : Bool). if b then Some op else None) (work_same its.work.work)

    its-kept : (a : ActiveWork) → acting r its.work.work ≡ Some a → (a.last ≡ its.work.last) × (a.kept ≡ Some answer)
    its-kept = subst (λ z. IsKept r answer z) its.message kept

    -- what the work has done is reported now
    hears-now : (a : ActiveWork) (before trace : List Answered) → (a.last ≡ its.work.last) × (a.kept ≡ Some answer) → Hears (Some op) its.work a before trace → Hears None its.work a (before ++ counts op answer) trace
    hears-now a before trace g (inl h) = absurd (off g.0 h.0)
      where
        off : a.last ≡ its.work.last → a.last + 1 ≡ its.work.last → ⊥
        off e f = omega (arith, e, f)
    hears-now a before trace g (inr h) = (h.0, subst (λ z. SaysAs (before ++ counts op z) trace) (some_is h.1.0 answer (sym h.1.1.0 ∙ g.1)) h.1.1.1)

    numbered-none : (y : OpenWork) (p : Option Outstanding) (z : Sent) → IsNumbered y p z → IsNumbered y None z
    numbered-none y p (to, messages.Op d request W number op) h = λ e. ((h e).0, λ g q l. absurd (none_some q l))
    numbered-none y p (to, _) h = tt

    running-now : (q : ServerNo) → IsRunningAt events r w its.tid t.outstanding q (open_at q t.works) → IsRunningAt events told w its.tid None q (open_at q t.works)
    running-now q h = by (server_tells s q)
      where
        owned : owner_in its.tid None r.lines ≡ Some c
        owned = (talk.clients c).owner its.tid its.current

        here : s ≡ q → server_eq s q ≡ true → IsRunningAt events r w its.tid t.outstanding q (Some its.work) → IsRunningAt events told w its.tid None q (Some its.work)
        here e b g = (
          subst (λ l. All (IsNumbered its.work None) l) (sym (append-nil r.sent)) (map-all (IsNumbered its.work t.outstanding) (IsNumbered its.work None) r.sent (numbered-none its.work t.outstanding) g.0),
          λ a f. subst (λ z. Hears None its.work a z (w.trace its.work.work)) (sym (said-own its.tid q owned ∙ ap (λ (b : Bool). said events its.tid q r.lines ++ (if b then counts op answer else [])) b))
              (hears-now a (said events its.tid q r.lines) (w.trace its.work.work) (its-kept a f) (subst (λ z. Hears z its.work a (said events its.tid q r.lines) (w.trace its.work.work)) asked-here (g.1 a f))),
        )

        apart : s ≢ q → (y : OpenWork) → open_at q t.works ≡ Some y → (op_asked t.outstanding y.work ≡ None) × (op_asked None y.work ≡ None)
        apart ne y l = (ap (λ z. op_asked z y.work) waits ∙ ap (λ z. op_in y.work z) its.message ∙ ap (λ (b : Bool). if b then Some op else None) (other-work its.work.work y.work (λ f. ne (sym its-place ∙ f ∙ place))), refl)
          where
            place : y.work.server ≡ q
            place = (found-open w its.tid q t.works y (subst (λ z. IsCurrent w z t.works) its.current (mirrors.clients c).current).1 l).1

        by : ((server_eq s q ≡ true) × (s ≡ q)) ⊎ ((server_eq s q ≡ false) × (s ≢ q)) → IsRunningAt events told w its.tid None q (open_at q t.works)
        by (inl p) = subst (λ z. IsRunningAt events told w its.tid None q z) (sym (ap (λ (z : ServerNo). open_at z t.works) (sym p.1) ∙ its.is))
            (here p.1 p.0 (subst (λ z. IsRunningAt events r w its.tid t.outstanding q z) (ap (λ (z : ServerNo). open_at z t.works) (sym p.1) ∙ its.is) h))
        by (inr p) = running-still events r w c (idle t) [] (answer_line c o.event answer ∷ []) its.tid q t.outstanding None (open_at q t.works) tt
            (said-own its.tid q owned ∙ ap (λ (b : Bool). said events its.tid q r.lines ++ (if b then counts op answer else [])) p.0 ∙ append-nil (said events its.tid q r.lines)) (apart p.1) h

    own : IsTalking events told w c (idle t)
    own = record {
      asking = λ p e. absurd (none_some p e);
      owner = λ T e. owner-still T ∙ (talk.clients c).owner T e;
      running = λ T e g q. subst (λ (z : Tid). IsRunningAt events told w z None q (open_at q t.works)) (some_is its.tid T (sym its.current ∙ e)) (running-now q ((talk.clients c).running its.tid its.current runs q));
    }

    ended-said : (T : Tid) → w.ended T ≡ true → (q : ServerNo) → said events T q (r.lines ++ answer_line c o.event answer ∷ []) ≡ said events T q r.lines
    ended-said T e q = said-other T (owner_in T None r.lines) q refl (λ d f g. other (talk.owners T c (f ∙ ap Some (sym g))))
      where
        other : (t.transaction ≡ None) ⊎ (t.transaction ≡ Some T) → ⊥
        other (inl h) = none_some its.tid (sym h ∙ its.current)
        other (inr h) = not_both (w.ended T) e ((facts.clients c).fresh T h runs)

    pub answer-talks : Talk events told w
    answer-talks = client-talks events r w c (idle t) [] (answer_line c o.event answer ∷ []) talk tt own
        (λ T d ne e. (owner-still T ∙ e, λ q. said-other T (Some d) q e (λ f g h. ne (h ∙ sym (some_is d f g)))))
        ended-said (λ T d e. one-client (λ d z. owner_in T None r.lines ≡ Some d → (z.transaction ≡ None) ⊎ (z.transaction ≡ Some T)) r.clients c (idle t) (talk.owners T c) (λ d ne. talk.owners T d) d (sym (owner-still T) ∙ e))
        draws (All-nil (IsDrawn told)) (λ W e g. record {
          opened = g.opened;
          begun = begun-still (w.owner W) ∙ g.begun;
          its = one-client (λ d z. z.transaction ≡ Some (w.owner W) → IsOpenAt W (open_at W.server z.works)) r.clients c (idle t) (g.its c) (λ d ne. g.its d);
        }) (λ T e. table-started events r w c (idle t) [] (answer_line c o.event answer ∷ []) draws T (λ d f. sym (by-still d T) ∙ f) (talk.started T (sym (begun-still T) ∙ e)))
      where
        draws : (t.next ≤ (idle t).next) × ((p : Outstanding) → (idle t).outstanding ≡ Some p → (t.outstanding ≡ Some p) ⊎ (t.next ≤ p.request.0))
        draws = (le t.next, λ p e. absurd (none_some p e))

  -- ---- its transaction begins

  module _ (o : Outstanding) (waits : t.outstanding ≡ Some o) (begins : is_begin o.command ≡ true) (T : Tid) (has : Has (opening c o.request T) (openings r.sent)) where
    abbrev in-it : ClientTable
    in-it = record (idle t) { transaction = Some T; works = [] }

    abbrev begun-world : World
    begun-world = now events r w c in-it [] (says.Begun c o.event T ∷ [])

    -- no client was told so before
    not-begun : is_begun T r.lines ≡ false
    not-begun = false_unless (is_begun T r.lines) (λ e. clash (talk.started T e))
      where
        clash : IsStarted r T → ⊥
        clash h = self o.request.0 (subst (λ (n : RequestNo). n.0 < o.request.0) request (h.before o (ap (λ (d : ClientNo). (r.clients d).outstanding) client ∙ waits) begins))
          where
            same : opening h.client h.request T ≡ opening c o.request T
            same = facts.unique (opening h.client h.request T) (opening c o.request T) h.has has refl

            client : h.client ≡ c
            client = ap (λ (a : Opening). a.client) same

            request : h.request ≡ o.request
            request = ap (λ (a : Opening). a.request) same

            self : (n : ℕ) → n < n → ⊥
            self n l = omega arith

    said-so : (U : Tid) (q : ServerNo) → said events U q (r.lines ++ says.Begun c o.event T ∷ []) ≡ said events U q r.lines
    said-so U q = said-more events U q r.lines (says.Begun c o.event T) ∙ by (owner_in U None r.lines)
      where
        by : (d : Option ClientNo) → said events U q r.lines ++ at_place q (answered_by events d (says.Begun c o.event T)) ≡ said events U q r.lines
        by None = append-nil (said events U q r.lines)
        by (Some d) = append-nil (said events U q r.lines)

    owner-now : (U : Tid) → owner_in U None (r.lines ++ says.Begun c o.event T ∷ []) ≡ owner_after U (owner_in U None r.lines) (says.Begun c o.event T)
    owner-now U = owner-more U None r.lines (says.Begun c o.event T ∷ [])

    begun-now : (U : Tid) → is_begun U (r.lines ++ says.Begun c o.event T ∷ []) ≡ (is_begun U r.lines || (tid_eq U T || false))
    begun-now U = begun-more U r.lines (says.Begun c o.event T ∷ [])

    abbrev IsTid : Tid → Type 0
    IsTid U = ((tid_eq U T ≡ true) × (U ≡ T)) ⊎ ((tid_eq U T ≡ false) × (U ≢ T))

    -- a transaction that is another client's isn't this one
    other-owner : (U : Tid) (d : ClientNo) → c ≢ d → owner_in U None r.lines ≡ Some d → owner_after U (Some d) (says.Begun c o.event T) ≡ Some d
    other-owner U d ne e = by (tid_tells U T)
      where
        by : IsTid U → (if tid_eq U T then Some c else (if client_eq d c then None else Some d)) ≡ Some d
        by (inl p) = absurd (not_both (is_begun U r.lines) (its-begun events U r.lines d e) (subst (λ (z : Tid). is_begun z r.lines ≡ false) (sym p.1) not-begun))
        by (inr p) = ap (λ (b : Bool). if b then Some c else (if client_eq d c then None else Some d)) p.0 ∙ ap (λ (b : Bool). if b then None else Some d) (client-other d c (λ f. ne (sym f)))

    own-owner : owner_in T None (r.lines ++ says.Begun c o.event T ∷ []) ≡ Some c
    own-owner = owner-now T ∙ by (tid_tells T T)
      where
        by : IsTid T → (if tid_eq T T then Some c else (if is_its_client (owner_in T None r.lines) c then None else owner_in T None r.lines)) ≡ Some c
        by (inl p) = ap (λ (b : Bool). if b then Some c else (if is_its_client (owner_in T None r.lines) c then None else owner_in T None r.lines)) p.0
        by (inr p) = absurd (p.1 refl)

    owners-now : (U : Tid) (d : ClientNo) → owner_in U None (r.lines ++ says.Begun c o.event T ∷ []) ≡ Some d → ((at_client r.clients c in-it d).transaction ≡ None) ⊎ ((at_client r.clients c in-it d).transaction ≡ Some U)
    owners-now U d e = by (tid_tells U T) (sym (owner-now U) ∙ e)
      where
        its : U ≡ T → c ≡ d → ((at_client r.clients c in-it d).transaction ≡ None) ⊎ ((at_client r.clients c in-it d).transaction ≡ Some U)
        its f g = inr (subst (λ (z : ClientNo). (at_client r.clients c in-it z).transaction ≡ Some U) g (ap (λ (z : ClientTable). z.transaction) (at-own r.clients c in-it) ∙ ap Some (sym f)))

        another : (x : Option ClientNo) → owner_in U None r.lines ≡ x → (if is_its_client x c then None else x) ≡ Some d → ((at_client r.clients c in-it d).transaction ≡ None) ⊎ ((at_client r.clients c in-it d).transaction ≡ Some U)
        another None f g = absurd (none_some d g)
        another (Some h) f g = on (client_tells h c)
          where
            on : ((client_eq h c ≡ true) × (h ≡ c)) ⊎ ((client_eq h c ≡ false) × (h ≢ c)) → ((at_client r.clients c in-it d).transaction ≡ None) ⊎ ((at_client r.clients c in-it d).transaction ≡ Some U)
            on (inl p) = absurd (none_some d (subst (λ (b : Bool). (if b then None else Some h) ≡ Some d) p.0 g))
            on (inr p) = let same = some_is h d (subst (λ (b : Bool). (if b then None else Some h) ≡ Some d) p.0 g) in
                subst (λ (z : ClientTable). (z.transaction ≡ None) ⊎ (z.transaction ≡ Some U)) (sym (at-other r.clients c d in-it (λ l. p.1 (same ∙ sym l)))) (talk.owners U d (f ∙ ap Some same))

        by : IsTid U → (if tid_eq U T then Some c else (if is_its_client (owner_in U None r.lines) c then None else owner_in U None r.lines)) ≡ Some d → ((at_client r.clients c in-it d).transaction ≡ None) ⊎ ((at_client r.clients c in-it d).transaction ≡ Some U)
        by (inl p) f = its p.1 (some_is c d (subst (λ (b : Bool). (if b then Some c else (if is_its_client (owner_in U None r.lines) c then None else owner_in U None r.lines)) ≡ Some d) p.0 f))
        by (inr p) f = another (owner_in U None r.lines) refl (subst (λ (b : Bool). (if b then Some c else (if is_its_client (owner_in U None r.lines) c then None else owner_in U None r.lines)) ≡ Some d) p.0 f)

    begun-own : IsTalking events begun-world w c in-it
    begun-own = record {
      asking = λ p e. absurd (none_some p e);
      owner = λ U e. subst (λ (z : Tid). owner_in z None (r.lines ++ says.Begun c o.event T ∷ []) ≡ Some c) (some_is T U e) own-owner;
      running = λ U e g q. subst (λ (z : Tid). said events z q (r.lines ++ says.Begun c o.event T ∷ []) ≡ []) (some_is T U e) (said-so T q ∙ ap (λ z. at_place q z) (none-told events T r.lines not-begun).0);
    }

    begun-draws : (t.next ≤ in-it.next) × ((p : Outstanding) → in-it.outstanding ≡ Some p → (t.outstanding ≡ Some p) ⊎ (t.next ≤ p.request.0))
    begun-draws = (le t.next, λ p e. absurd (none_some p e))

    begun-started : (U : Tid) → is_begun U (r.lines ++ says.Begun c o.event T ∷ []) ≡ true → IsStarted begun-world U
    begun-started U e = by (is_begun U r.lines) refl (tid_tells U T)
      where
        now-its : (d : ClientNo) (b : Bool) → begun_by d T r.lines ≡ b → (begun_by d T r.lines || ((client_eq d c && tid_eq T T) || false)) ≡ true → ((client_eq d c ≡ true) × (d ≡ c)) ⊎ ((client_eq d c ≡ false) × (d ≢ c)) → d ≡ c
        now-its d true f k tells = absurd (not_both (is_begun T r.lines) (by-begun d T r.lines f) not-begun)
        now-its d false f k (inl p) = p.1
        now-its d false f k (inr p) = absurd (not_both true refl (sym (sym (ap (λ (b : Bool). b || ((client_eq d c && tid_eq T T) || false)) f ∙ ap (λ (b : Bool). (b && tid_eq T T) || false) p.0) ∙ k)))

        before-it : (d : ClientNo) (U : Tid) → is_begun U r.lines ≡ true → begun_by d U (r.lines ++ says.Begun c o.event T ∷ []) ≡ (begun_by d U r.lines || ((client_eq d c && tid_eq U T) || false)) → IsTid U → begun_by d U (r.lines ++ says.Begun c o.event T ∷ []) ≡ true → begun_by d U r.lines ≡ true
        before-it d U f is (inl p) k = absurd (not_both (is_begun U r.lines) f (subst (λ (z : Tid). is_begun z r.lines ≡ false) (sym p.1) not-begun))
        before-it d U f is (inr p) k = sym (only (begun_by d U r.lines) (client_eq d c)) ∙ sym (ap (λ (b : Bool). begun_by d U r.lines || ((client_eq d c && b) || false)) p.0) ∙ sym is ∙ k
          where
            only : (a b : Bool) → (a || ((b && false) || false)) ≡ a
            only a b = grind arith

        its : IsStarted begun-world T
        its = record {
          client = c;
          request = o.request;
          has = subst (λ l. Has (opening c o.request T) (openings l)) (sym (append-nil r.sent)) has;
          drawn = subst (λ (z : ClientTable). o.request.0 < z.next) (sym (at-own r.clients c in-it)) ((facts.clients c).waits o waits).drawn;
          before = λ p f g. absurd (none_some p (ap (λ (z : ClientTable). z.outstanding) (sym (at-own r.clients c in-it)) ∙ f));
          its = λ d f. now-its d (begun_by d T r.lines) refl (sym (any-append (begins_for d T) r.lines (says.Begun c o.event T ∷ [])) ∙ f) (client_tells d c);
        }

        by : (b : Bool) → is_begun U r.lines ≡ b → IsTid U → IsStarted begun-world U
        by true f p = table-started events r w c in-it [] (says.Begun c o.event T ∷ []) begun-draws U (λ d k. before-it d U f (any-append (begins_for d U) r.lines (says.Begun c o.event T ∷ [])) p k) (talk.started U f)
        by false f (inl p) = subst (λ (z : Tid). IsStarted begun-world z) (sym p.1) its
        by false f (inr p) = absurd (not_both true refl (sym (sym (begun-now U ∙ ap (λ (b : Bool). b || (tid_eq U T || false)) f ∙ ap (λ (b : Bool). b || false) p.0) ∙ e)))

    begun-known : (W : WorkId) → IsKnown r w W → IsKnown begun-world w W
    begun-known W g = record {
      opened = g.opened;
      begun = begun-now (w.owner W) ∙ ap (λ (b : Bool). b || (tid_eq (w.owner W) T || false)) g.begun;
      its = one-client (λ d z. z.transaction ≡ Some (w.owner W) → IsOpenAt W (open_at W.server z.works)) r.clients c in-it
          (λ e. absurd (not_both (is_begun (w.owner W) r.lines) g.begun (subst (λ (z : Tid). is_begun z r.lines ≡ false) (some_is T (w.owner W) e) not-begun))) (λ d ne. g.its d);
    }

    pub begun-talks : Talk events begun-world w
    begun-talks = client-talks events r w c in-it [] (says.Begun c o.event T ∷ []) talk tt begun-own
        (λ U d ne e. (owner-now U ∙ ap (λ z. owner_after U z (says.Begun c o.event T)) e ∙ other-owner U d ne e, said-so U)) (λ U e. said-so U) owners-now begun-draws (All-nil (IsDrawn begun-world)) (λ W e g. begun-known W g) begun-started

  -- ---- a work is opened

  module _ (o : Outstanding) (waits : t.outstanding ≡ Some o) (T : Tid) (current : t.transaction ≡ Some T) (W : WorkId) (command : o.command ≡ Open W.server) (closed : open_at W.server t.works ≡ None) (work : IsWorkOf w T W) where
    abbrev new-work : OpenWork
    new-work = record { work = W; last = 0 }

    abbrev with-it : ClientTable
    with-it = record (idle t) { works = t.works ++ new-work ∷ [] }

    abbrev opened-world : World
    opened-world = now events r w c with-it [] (says.Opened c o.event W.server ∷ [])

    told-same-so : SameTold r.lines (r.lines ++ says.Opened c o.event W.server ∷ [])
    told-same-so = same-told r.lines (says.Opened c o.event W.server ∷ []) (tt, tt)

    -- no operation was sent for it
    none-sent : op_sent W r.sent ≡ false
    none-sent = false_unless (op_sent W r.sent) (λ e. subst (λ z. IsOpenAt W z) closed ((talk.known W e).its c (current ∙ ap Some (sym work.1))))

    none-numbered : (z : Sent) → is_op_of W z ≡ false → IsNumbered new-work None z
    none-numbered (to, messages.Op d request V number op) h = λ e. absurd (not_both (work_eq V W) (ap (λ (X : WorkId). work_eq X W) e ∙ work_same W) h)
    none-numbered (to, _) h = tt

    not-operation : is_operation o.command ≡ false
    not-operation = ap is_operation command

    its-open : IsRunningAt events opened-world w T None W.server (Some new-work)
    its-open = (
      subst (λ l. All (IsNumbered new-work None) l) (sym (append-nil r.sent)) (map-all (λ z. is_op_of W z ≡ false) (IsNumbered new-work None) r.sent none-numbered (none-of W r.sent none-sent)),
      λ a f. let fresh = talk.unasked W none-sent a f in (fresh.0, subst (λ z. SaysAs z (w.trace W)) (sym (told-same-so.said events T W.server ∙ before)) fresh.1),
    )
      where
        before : said events T W.server r.lines ≡ []
        before = subst (λ z. IsRunningAt events r w T t.outstanding W.server z) closed ((talk.clients c).running T current (ap is_closing waits ∙ ap is_end_or_abort command) W.server)

    open-running : (q : ServerNo) → IsRunningAt events r w T t.outstanding q (open_at q t.works) → IsRunningAt events opened-world w T None q (open_at q (t.works ++ new-work ∷ []))
    open-running q h = by (open_at q t.works) refl (server_tells W.server q) h
      where
        still : (z : Option OpenWork) → IsRunningAt events r w T t.outstanding q z → IsRunningAt events opened-world w T None q z
        still z g = running-still events r w c with-it [] (says.Opened c o.event W.server ∷ []) T q t.outstanding None z tt (told-same-so.said events T q) (λ y l. (quiet-waits o waits not-operation y.work, refl)) g

        by : (z : Option OpenWork) → open_at q t.works ≡ z → ((server_eq W.server q ≡ true) × (W.server ≡ q)) ⊎ ((server_eq W.server q ≡ false) × (W.server ≢ q)) → IsRunningAt events r w T t.outstanding q z → IsRunningAt events opened-world w T None q (open_at q (t.works ++ new-work ∷ []))
        by (Some y) e p g = subst (λ z. IsRunningAt events opened-world w T None q z) (sym (more-there q t.works new-work y e)) (still (Some y) g)
        by None e (inl p) g = subst (λ z. IsRunningAt events opened-world w T None q z) (sym (more-new q t.works new-work e ∙ ap (λ (b : Bool). if b then Some new-work else None) p.0))
            (subst (λ (z : ServerNo). IsRunningAt events opened-world w T None z (Some new-work)) p.1 its-open)
        by None e (inr p) g = subst (λ z. IsRunningAt events opened-world w T None q z) (sym (more-new q t.works new-work e ∙ ap (λ (b : Bool). if b then Some new-work else None) p.0)) (still None g)

    opened-own : IsTalking events opened-world w c with-it
    opened-own = record {
      asking = λ p e. absurd (none_some p e);
      owner = λ U e. told-same-so.owner U ∙ (talk.clients c).owner U e;
      running = λ U e g q. subst (λ (z : Tid). IsRunningAt events opened-world w z None q (open_at q (t.works ++ new-work ∷ []))) (some_is T U (sym current ∙ e))
          (open-running q ((talk.clients c).running T current (ap is_closing waits ∙ ap is_end_or_abort command) q));
    }

    open-more : (V : WorkId) (q : ServerNo) → IsOpenAt V (open_at q t.works) → IsOpenAt V (open_at q (t.works ++ new-work ∷ []))
    open-more V q h = by (open_at q t.works) refl h
      where
        by : (z : Option OpenWork) → open_at q t.works ≡ z → IsOpenAt V z → IsOpenAt V (open_at q (t.works ++ new-work ∷ []))
        by None e g = absurd g
        by (Some y) e g = subst (λ z. IsOpenAt V z) (sym (more-there q t.works new-work y e)) g

    opened-draws : (t.next ≤ with-it.next) × ((p : Outstanding) → with-it.outstanding ≡ Some p → (t.outstanding ≡ Some p) ⊎ (t.next ≤ p.request.0))
    opened-draws = (le t.next, λ p e. absurd (none_some p e))

    pub opened-talks : Talk events opened-world w
    opened-talks = client-talks events r w c with-it [] (says.Opened c o.event W.server ∷ []) talk tt opened-own
        (λ U d ne e. (told-same-so.owner U ∙ e, told-same-so.said events U)) (λ U e. told-same-so.said events U)
        (λ U d e. one-client (λ d z. owner_in U None r.lines ≡ Some d → (z.transaction ≡ None) ⊎ (z.transaction ≡ Some U)) r.clients c with-it (talk.owners U c) (λ d ne. talk.owners U d) d (sym (told-same-so.owner U) ∙ e))
        opened-draws (All-nil (IsDrawn opened-world)) (λ V e g. record {
          opened = g.opened;
          begun = told-same-so.begun (w.owner V) ∙ g.begun;
          its = one-client (λ d z. z.transaction ≡ Some (w.owner V) → IsOpenAt V (open_at V.server z.works)) r.clients c with-it (λ f. open-more V V.server (g.its c f)) (λ d ne. g.its d);
        }) (λ U e. table-started events r w c with-it [] (says.Opened c o.event W.server ∷ []) opened-draws U (λ d f. sym (told-same-so.by d U) ∙ f) (talk.started U (sym (told-same-so.begun U) ∙ e)))

  -- ---- lines that report nothing of a transaction

  one-line : (T : Tid) (text : Text) → answered_by events (owner_in T None r.lines) text ≡ [] → ops_in events T None (r.lines ++ text ∷ []) ≡ ops_in events T None r.lines
  one-line T text e = ops-more events T None r.lines (text ∷ []) ∙ ap (λ z. ops_in events T None r.lines ++ (z ++ [])) e ∙ append-nil (ops_in events T None r.lines)

  dumb-line : (text : Text) → IsDumb text → (T : Tid) → w.ended T ≡ true → ops_in events T None (r.lines ++ text ∷ []) ≡ ops_in events T None r.lines
  dumb-line text dumb T e = (same-told r.lines (text ∷ []) (dumb, tt)).ops events T

  begun-line : (c : ClientNo) (j : ℕ) (U T : Tid) → w.ended T ≡ true → ops_in events T None (r.lines ++ says.Begun c j U ∷ []) ≡ ops_in events T None r.lines
  begun-line c j U T e = one-line T (says.Begun c j U) (by (owner_in T None r.lines))
    where
      by : (o : Option ClientNo) → answered_by events o (says.Begun c j U) ≡ []
      by None = refl
      by (Some d) = refl

  -- the client isn't in it
  answer-line : (o : Outstanding) → t.outstanding ≡ Some o → (s : ServerNo) (op : Op) → o.command ≡ Do s op → IsOperation events c t o s op → (answer : Answer) (T : Tid) → w.ended T ≡ true
      → ops_in events T None (r.lines ++ answer_line c o.event answer ∷ []) ≡ ops_in events T None r.lines
  answer-line o e s op f its answer T ended = one-line T (answer_line c o.event answer) (on (owner_in T None r.lines) refl)
    where
      clash : (t.transaction ≡ None) ⊎ (t.transaction ≡ Some T) → ⊥
      clash (inl h) = none_some its.tid (sym h ∙ its.current)
      clash (inr h) = not_both (w.ended T) ended ((facts.clients c).fresh T h (ap is_closing e ∙ ap is_end_or_abort f))

      on : (d : Option ClientNo) → owner_in T None r.lines ≡ d → answered_by events d (answer_line c o.event answer) ≡ []
      on None g = refl
      on (Some d) g = other-told events c o.event s op its.told d answer (λ h. clash (talk.owners T c (g ∙ ap Some (sym h))))

  -- ---- every message

  -- the talk holds, and of a transaction that was ended nothing more is reported
  abbrev pub TakesWell : World → Type 0
  TakesWell r' = Talk events r' w × ((T : Tid) → w.ended T ≡ true → ops_in events T None r'.lines ≡ ops_in events T None r.lines)

  abbrev TakeTalks : ClientTable × Taken → Type 0
  TakeTalks row = TakesWell (took c k row.0 row.1 r)

  ignores : TakeTalks (t, taken.Ignored)
  ignores = (subst (λ l. Talk events (record r { clients = at_client r.clients c t; sent = l; lines = r.lines ++ says.Ignored k ∷ [] }) w) (append-nil r.sent) (same-client-talks events r w c [] (says.Ignored k ∷ []) talk tt (tt, tt)), dumb-line (says.Ignored k) tt)

  where-waits : (o : Option Outstanding) (test : Outstanding → Bool) (row : ℕ → ClientTable × Taken) → t.outstanding ≡ o → ((x : Outstanding) → t.outstanding ≡ Some x → test x ≡ true → TakeTalks (row x.event)) → TakeTalks (if_waits t o test row)
  where-waits None test row e h = ignores
  where-waits (Some o) test row e h = by (test o) refl
    where
      by : (b : Bool) → test o ≡ b → TakeTalks (if b then row o.event else (t, taken.Ignored))
      by true f = h o e f
      by false f = ignores

  either : (b : Bool) (p q : ClientTable × Taken) → (b ≡ true → TakeTalks p) → TakeTalks q → TakeTalks (if b then p else q)
  either true p q h l = h refl
  either false p q h l = l

  first-of : (a b : Bool) → (a && b) ≡ true → a ≡ true
  first-of a b h = grind arith

  second-of : (a b : Bool) → (a && b) ≡ true → b ≡ true
  second-of a b h = grind arith

  -- a refusal is reported
  refused-talks : (o : Outstanding) (text : Text) → t.outstanding ≡ Some o → is_operation o.command ≡ false → is_end_or_abort o.command ≡ false → IsDumb text → TakeTalks (idle t, taken.Told text None)
  refused-talks o text e none stays dumb = (
    plain-talks events r w c (idle t) [] (text ∷ []) talk tt (dumb, tt) (le t.next, λ p f. absurd (none_some p f)) (λ T f. (f, refl)) (λ p f. absurd (none_some p f))
        (λ T f g. (ap is_closing e ∙ stays, λ W. (quiet-waits o e none W, refl))),
    dumb-line text dumb,
  )

  -- its transaction is over
  over-talks : (text : Text) (more : List Sent) → IsDumb text → AreSilent more → TakesWell (now events r w c (over t) more (text ∷ []))
  over-talks text more dumb silent = (
    plain-talks events r w c (over t) more (text ∷ []) talk silent (dumb, tt) (le t.next, λ p f. absurd (none_some p f)) (λ T f. absurd (none_some T f)) (λ p f. absurd (none_some p f)) (λ T f. absurd (none_some T f)),
    dumb-line text dumb,
  )

  begin-command : (command : Command) → is_begin command ≡ true → (is_operation command ≡ false) × (is_end_or_abort command ≡ false)
  begin-command (Begin s) e = (refl, refl)
  begin-command (Open s) e = absurd (not_both true refl (sym e))
  begin-command (Do s op) e = absurd (not_both true refl (sym e))
  begin-command End e = absurd (not_both true refl (sym e))
  begin-command Abort e = absurd (not_both true refl (sym e))

  open-command : (answer : Option WorkId) (command : Command) → opens answer command ≡ true → (is_operation command ≡ false) × (is_end_or_abort command ≡ false)
  open-command (Some W) (Open s) e = (refl, refl)
  open-command None (Open s) e = (refl, refl)
  open-command (Some W) (Begin s) e = absurd (not_both true refl (sym e))
  open-command None (Begin s) e = absurd (not_both true refl (sym e))
  open-command (Some W) (Do s op) e = absurd (not_both true refl (sym e))
  open-command None (Do s op) e = absurd (not_both true refl (sym e))
  open-command (Some W) End e = absurd (not_both true refl (sym e))
  open-command None End e = absurd (not_both true refl (sym e))
  open-command (Some W) Abort e = absurd (not_both true refl (sym e))
  open-command None Abort e = absurd (not_both true refl (sym e))

  opens-at : (W : WorkId) (command : Command) → opens (Some W) command ≡ true → command ≡ Open W.server
  opens-at W (Open s) e = by (server_tells W.server s)
    where
      by : ((server_eq W.server s ≡ true) × (W.server ≡ s)) ⊎ ((server_eq W.server s ≡ false) × (W.server ≢ s)) → Open s ≡ Open W.server
      by (inl p) = ap Open (sym p.1)
      by (inr p) = absurd (not_both (server_eq W.server s) e p.0)
  opens-at W (Begin s) e = absurd (not_both true refl (sym e))
  opens-at W (Do s op) e = absurd (not_both true refl (sym e))
  opens-at W End e = absurd (not_both true refl (sym e))
  opens-at W Abort e = absurd (not_both true refl (sym e))

  its-tid : (T : Tid) (o : Option Tid) → is_tid T o ≡ true → o ≡ Some T
  its-tid T None e = absurd (not_both true refl (sym e))
  its-tid T (Some U) e = by (tid_tells T U)
    where
      by : ((tid_eq T U ≡ true) × (T ≡ U)) ⊎ ((tid_eq T U ≡ false) × (T ≢ U)) → Some U ≡ Some T
      by (inl p) = ap Some (sym p.1)
      by (inr p) = absurd (not_both (tid_eq T U) e p.0)

  module _ (message : Message) (sent : slice_get r.sent k ≡ Some (Client c, message)) where
    begun-takes : (d : ClientNo) (request : RequestNo) (answer : Option Tid) → message ≡ messages.Begun d request answer → (o : Outstanding) → t.outstanding ≡ Some o → client_eq d t.client ≡ true → request_eq o.request request ≡ true → is_begin o.command ≡ true → TakeTalks (begun_row t o.event answer)
    begun-takes d request None m o e f g b = refused-talks o _ e (begin-command o.command b).0 (begin-command o.command b).1 tt
    begun-takes d request (Some T) m o e f g b = subst (λ (z : ClientNo). TakesWell (now events r w c (record (idle t) { transaction = Some T; works = [] }) [] (says.Begun z o.event T ∷ []))) (sym its-name) (begun-talks o e b T has, begun-line c o.event T)
      where
        all : (a : Opening) → Has a (opening_in (Client c, messages.Begun d request (Some T))) → Has a (openings r.sent)
        all = holds-of (λ (x : Sent). (a : Opening) → Has a (opening_in x) → Has a (openings r.sent)) r.sent k (Client c, messages.Begun d request (Some T)) (all-have-theirs r.sent) (sent ∙ ap (λ z. Some (Client c, z)) m)

        has : Has (opening c o.request T) (openings r.sent)
        has = subst (λ (z : ClientNo). Has (opening z o.request T) (openings r.sent)) (is-client d t.client f ∙ its-name) (subst (λ n. Has (opening d n T) (openings r.sent)) (sym (same-number o.request request g)) (all (opening d request T) (inl refl)))

    opened-takes : (T : Tid) (answer : Option WorkId) (o : Outstanding) → t.outstanding ≡ Some o → is_current t T ≡ true → opens answer o.command ≡ true → Says w (messages.Opened c (record { 0 = 0 }) T answer) → TakeTalks (opened_row t o.event answer)
    opened-takes T None o e f g said = refused-talks o _ e (open-command None o.command g).0 (open-command None o.command g).1 tt
    opened-takes T (Some W) o e f g said = subst (λ (z : ClientNo). TakesWell (now events r w c (record (idle t) { works = t.works ++ (record { work = W; last = 0 }) ∷ [] }) [] (says.Opened z o.event W.server ∷ []))) (sym its-name)
        (opened-talks o e T (its-tid T t.transaction f) W (opens-at W o.command g) ((mirrors.clients c).opening o W.server e (opens-at W o.command g)) said, dumb-line (says.Opened c o.event W.server) tt)

    answer-takes : (d : ClientNo) (request : RequestNo) (answer : Answer) → message ≡ messages.Answer d request answer → (o : Outstanding) → t.outstanding ≡ Some o → client_eq d t.client ≡ true → request_eq o.request request ≡ true → is_operation o.command ≡ true
        → TakeTalks (idle t, taken.Told (answer_line t.client o.event answer) None)
    answer-takes d request answer m o e f g b = by o.command refl b ((talk.clients c).asking o e)
      where
        drawn : IsDrawn r (Client c, messages.Answer d request answer)
        drawn = holds-of (IsDrawn r) r.sent k (Client c, messages.Answer d request answer) talk.drawn (sent ∙ ap (λ z. Some (Client c, z)) m)

        kept : IsKept r answer o.message
        kept = drawn.1 o (ap (λ (z : ClientNo). (r.clients z).outstanding) (is-client d t.client f ∙ its-name) ∙ e) (same-number o.request request g)

        by : (command : Command) → o.command ≡ command → is_operation command ≡ true → IsAsking events c t o command → TakeTalks (idle t, taken.Told (answer_line t.client o.event answer) None)
        by (Do s op) h l its = subst (λ (z : ClientNo). TakesWell (now events r w c (idle t) [] (answer_line z o.event answer ∷ []))) (sym its-name) (answer-talks o e s op h its answer kept, answer-line o e s op h its answer)
        by (Begin s) h l its = absurd (not_both true refl (sym l))
        by (Open s) h l its = absurd (not_both true refl (sym l))
        by End h l its = absurd (not_both true refl (sym l))
        by Abort h l its = absurd (not_both true refl (sym l))

    decided-takes : (T : Tid) (line : ℕ → Text) → ((j : ℕ) → IsDumb (line j)) → TakeTalks (decided_row t T line)
    decided-takes T line dumb = either (is_current t T) _ _ (λ e. where-waits t.outstanding _ _ refl (λ o f g. over-talks (line o.event) _ (dumb o.event) (tt, tt))) (
      subst (λ l. Talk events (record r { clients = at_client r.clients c t; sent = r.sent ++ (Server T.server, messages.Thanks t.client T) ∷ []; lines = l }) w) (append-nil r.lines)
          (same-client-talks events r w c ((Server T.server, messages.Thanks t.client T) ∷ []) [] talk (tt, tt) tt),
      λ U e. refl,
    )

    outcome-takes : (T : Tid) (outcome : Outcome) → TakeTalks (outcome_row t T outcome)
    outcome-takes T outcomes.Committed = decided-takes T _ (λ j. tt)
    outcome-takes T (outcomes.Aborted cause) = decided-takes T _ (λ j. tt)
    outcome-takes T (outcomes.Waiting s u by) = either (is_current t T) _ _ (λ e. where-waits t.outstanding _ _ refl (λ o f g. (same-client-talks events r w c [] (says.Waiting t.client o.event s u by ∷ []) talk tt (tt, tt), dumb-line (says.Waiting t.client o.event s u by) tt))) ignores
    outcome-takes T (outcomes.NotKnown s epoch) = either (is_current t T) _ _ (λ e. where-waits t.outstanding _ _ refl (λ o f g. over-talks _ [] tt tt)) ignores

  pub take-talks : (message : Message) → slice_get r.sent k ≡ Some (Client c, message) → Says w message → TakesWell (taken_by c k (take_row t message) r)
  take-talks (messages.Begun d request answer) sent said = where-waits t.outstanding _ _ refl (λ o e f. let g = second-of (client_eq d t.client) _ f in
      begun-takes (messages.Begun d request answer) sent d request answer refl o e (first-of (client_eq d t.client) _ f) (first-of (request_eq o.request request) (is_begin o.command) g) (second-of (request_eq o.request request) (is_begin o.command) g))
  take-talks (messages.Opened d request T answer) sent said = where-waits t.outstanding _ _ refl (λ o e f. let g = second-of (request_eq o.request request) _ (second-of (client_eq d t.client) _ f) in
      opened-takes (messages.Opened d request T answer) sent T answer o e (first-of (is_current t T) (opens answer o.command) g) (second-of (is_current t T) (opens answer o.command) g) said)
  take-talks (messages.Answer d request answer) sent said = where-waits t.outstanding _ _ refl (λ o e f. let g = second-of (client_eq d t.client) _ f in
      answer-takes (messages.Answer d request answer) sent d request answer refl o e (first-of (client_eq d t.client) _ f) (first-of (request_eq o.request request) (is_operation o.command) g) (second-of (request_eq o.request request) (is_operation o.command) g))
  take-talks (messages.Outcome d T outcome) sent said = either (client_eq d t.client) _ _ (λ e. outcome-takes (messages.Outcome d T outcome) sent T outcome) ignores
  take-talks _ sent said = ignores
