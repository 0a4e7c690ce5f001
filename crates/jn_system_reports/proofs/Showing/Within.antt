-- No operation is reported at a server that there isn't.
use Rattle.jn_system_reports.proofs.Common.{◌≡◌, ◌≢◌, ◌⊎◌, inl, inr, ℕ, suc, ◌+◌, ◌≤◌, ◌<◌, Bool, true, false, List, [], ◌∷◌, ◌++◌, append_assoc, length, Option, Some, None, refl, sym, ◌∙◌, ap, subst, arith, ◌&&◌, if◌then◌else◌, nat_eq, nat_lt, nat_tests, ServerNo, ClientNo, Tid, WorkId, Op, Answer, Command, Begin, Open, Do, End, Abort, server_eq, client_eq, server_tells, AllFiles, files_after, all_files_after, Message, Outcome, Event, CommandOf, Text, Line, Outstanding, OpenWork, Taken, Sent, ClientTable, Commanded, Refuses, Sends, if_server, if_idle, if_transaction, if_no_transaction, if_open, if_not_open, command_row, is_current, is_end, is_end_or_abort, if_waits, begun_row, opened_row, decided_row, outcome_row, take_row, Performed, Waited, with_asked, answer_in, is_last, fits, fits_asked, after_answer, event_at, files_then, operations_of, replay_operations, performed_in, answered, answered_by, owner_after, event_at-next, World, at_client, opening, Step, NextEvent, Tell, Dismiss, after, run, IsRun, commanded, Act, Does, Refused, Tells, Shows, Item, events_of, steps_in, steps_of, after_item, IsUnder, AreUnder, one-client, ClientRow, by_command, by_ignoring, by_answering, by_telling, StepCase, client_row, row_done, row_stopped, gone_late, gone_down, come_up, found_anew, dismissed, quietly, step-case, CallOf, answers_order}
use Rattle.jn_system_reports.proofs.Telling.TransactionLines.{ops_in}
use Rattle.jn_serial.specs.declared.following.Asked.{Asked}
use Rattle.jn_msgs.specs.declared.message.Message.TheVariants as messages
use Rattle.jn_msgs.specs.declared.message.Outcome.TheVariants as outcomes
use Rattle.jn_report.specs.declared.line.Refusal.TheVariants as refusals
use Rattle.jn_report.specs.declared.line.Text.TheVariants as says
use Rattle.jn_rows.specs.declared.client.Taken.TheVariants as taken
use Rattle.jn_rows.specs.Client.{work_at}
use Rattle.jn_report.specs.declared.kinds.Addressed.{Addressed}
use Rattle.jn_system_reports.proofs.Reporting.Lists.{Each, each-append}
use Rattle.jn_system_reports.proofs.Reporting.Reached.{Reached, next-reached}
use Rattle.jn_system_reports.proofs.Reporting.Fitting.{asked_of, Fit, left}
use Rattle.jn_system_reports.proofs.Reporting.Hearing.{IsQuiet, step-hears, Commands, commands}
use Rattle.jn_system_reports.proofs.Reporting.Following.{IsQuietAct, under-quiet, event-follows, run-split}
use Rattle.jn_system_reports.proofs.Telling.Runs.{TellsAs}
use Rattle.jn_system_reports.proofs.Telling.Reports.{IsCalm}

some : {A : Type 0} {a b : A} → Some a ≡ Some b → a ≡ b
some e = cc

none : {A : Type 0} {a : A} → None ≡ Some a → ⊥
none e = cc

not-both : (b : Bool) → b ≡ true → b ≡ false → ⊥
not-both b e f = grind arith

-- ---- a client knows how many servers there are

module _ (t : ClientTable) where
  abbrev SameServers : ClientTable → Type 0
  SameServers u = u.servers ≡ t.servers

  waits : (o : Option Outstanding) (test : Outstanding → Bool) (row : ℕ → ClientTable × Taken) → ((j : ℕ) → SameServers (row j).0) → SameServers (if_waits t o test row).0
  waits None test row h = refl
  waits (Some o) test row h = by (test o)
    where
      by : (b : Bool) → SameServers (if b then row o.event else (t, taken.Ignored)).0
      by true = h o.event
      by false = refl

  begun : (j : ℕ) (o : Option Tid) → SameServers (begun_row t j o).0
  begun j None = refl
  begun j (Some T) = refl

  opened : (j : ℕ) (o : Option WorkId) → SameServers (opened_row t j o).0
  opened j None = refl
  opened j (Some W) = refl

  current : (b : Bool) (x y : ClientTable × Taken) → SameServers x.0 → SameServers y.0 → SameServers (if b then x else y).0
  current true x y h k = h
  current false x y h k = k

  decided : (T : Tid) (line : ℕ → Text) → SameServers (decided_row t T line).0
  decided T line = current (is_current t T) _ _ (waits t.outstanding (λ o. is_end_or_abort o.command) _ (λ j. refl)) refl

  outcome : (T : Tid) (x : Outcome) → SameServers (outcome_row t T x).0
  outcome T outcomes.Committed = decided T _
  outcome T (outcomes.Aborted cause) = decided T _
  outcome T (outcomes.Waiting s u by) = current (is_current t T) _ _ (waits t.outstanding (λ o. is_end o.command) _ (λ j. refl)) refl
  outcome T (outcomes.NotKnown s epoch) = current (is_current t T) _ _ (waits t.outstanding (λ o. is_end_or_abort o.command) _ (λ j. refl)) refl

  takes : (message : Message) → SameServers (take_row t message).0
  takes (messages.Begun c request answer) = waits t.outstanding _ _ (λ j. begun j answer)
  takes (messages.Opened c request T answer) = waits t.outstanding _ _ (λ j. opened j answer)
  takes (messages.Answer c request answer) = waits t.outstanding _ _ (λ j. refl)
  takes (messages.Outcome c T x) = current (client_eq c t.client) _ _ (outcome T x) refl
  takes _ = refl

  -- and sends an operation to one of them alone
  abbrev Sound : Command → Commanded → Type 0
  Sound command (Refuses refusal) = Unit {0}
  Sound command (Sends u to message) = (u.servers ≡ t.servers) × ((s : ServerNo) (op : Op) → command ≡ Do s op → s.0 < t.servers)

  module _ (command : Command) where
    server : (s : ServerNo) (row : Commanded) → (s.0 < t.servers → Sound command row) → Sound command (if_server t s row)
    server s row k = by (nat_lt s.0 t.servers) refl
      where
        below : nat_lt s.0 t.servers ≡ true → s.0 < t.servers
        below e = grind (arith, nat_tests)

        by : (b : Bool) → nat_lt s.0 t.servers ≡ b → Sound command (if b then row else Refuses refusals.NoSuchServer)
        by true e = k (below e)
        by false e = tt

    where-idle : (o : Option Outstanding) (row : Commanded) → Sound command row → Sound command (if_idle o row)
    where-idle None row k = k
    where-idle (Some o) row k = tt

    without : (o : Option Tid) (row : Commanded) → Sound command row → Sound command (if_no_transaction o row)
    without None row k = k
    without (Some T) row k = tt

    with-one : (o : Option Tid) (row : Tid → Commanded) → ((T : Tid) → Sound command (row T)) → Sound command (if_transaction o row)
    with-one None row k = tt
    with-one (Some T) row k = k T

    not-open : (o : Option OpenWork) (row : Commanded) → Sound command row → Sound command (if_not_open o row)
    not-open None row k = k
    not-open (Some v) row k = tt

    is-open : (o : Option OpenWork) (row : OpenWork → Commanded) → ((v : OpenWork) → Sound command (row v)) → Sound command (if_open o row)
    is-open None row k = tt
    is-open (Some v) row k = k v

  commands-sound : (j : ℕ) (command : Command) → Sound command (command_row t j command)
  commands-sound j (Begin s) = server (Begin s) s _ (λ l. where-idle (Begin s) t.outstanding _ (without (Begin s) t.transaction _ (refl, λ q op e. absurd (no-op s q op e))))
    where
      no-op : (s q : ServerNo) (op : Op) → Begin s ≡ Do q op → ⊥
      no-op s q op e = cc
  commands-sound j (Open s) = server (Open s) s _ (λ l. where-idle (Open s) t.outstanding _ (with-one (Open s) t.transaction _ (λ T. not-open (Open s) (work_at s t.works) _ (refl, λ q op e. absurd (no-op s q op e)))))
    where
      no-op : (s q : ServerNo) (op : Op) → Open s ≡ Do q op → ⊥
      no-op s q op e = cc
  commands-sound j (Do s op) = server (Do s op) s _ (λ l. where-idle (Do s op) t.outstanding _ (with-one (Do s op) t.transaction _ (λ T. is-open (Do s op) (work_at s t.works) _ (λ v. (refl, λ q o e. subst (λ (p : ServerNo). p.0 < t.servers) (its s q op o e) l)))))
    where
      its : (s q : ServerNo) (op o : Op) → Do s op ≡ Do q o → s ≡ q
      its s q op o e = cc
  commands-sound j End = where-idle End t.outstanding _ (with-one End t.transaction _ (λ T. (refl, λ q op e. absurd (no-op q op e))))
    where
      no-op : (q : ServerNo) (op : Op) → End ≡ Do q op → ⊥
      no-op q op e = cc
  commands-sound j Abort = with-one Abort t.transaction _ (λ T. (refl, λ q op e. absurd (no-op q op e)))
    where
      no-op : (q : ServerNo) (op : Op) → Abort ≡ Do q op → ⊥
      no-op q op e = cc

module _ (servers : ℕ) where
  abbrev Tables : (ClientNo → ClientTable) → Type 0
  Tables clients = (c : ClientNo) → (clients c).servers ≡ servers

  at-one : (clients : ClientNo → ClientTable) (c : ClientNo) (u : ClientTable) → u.servers ≡ (clients c).servers → Tables clients → Tables (at_client clients c u)
  at-one clients c u e h = one-client (λ d t. t.servers ≡ servers) clients c u (e ∙ h c) (λ d other. h d)

  module _ (r : World) where
    row-servers : (c : ClientNo) (step : Step) (t : ClientTable) (sent : List Sent) (lines : List Text) → ClientRow r c step t sent lines → t.servers ≡ (r.clients c).servers
    row-servers c _ _ _ _ (by_command command t to message e) = (subst (λ row. Sound (r.clients c) command row) e (commands-sound (r.clients c) r.event command)).0
    row-servers c _ _ _ _ (by_ignoring k room stop message t is e) = ap (λ x. x.0.servers) (sym e) ∙ takes (r.clients c) message
    row-servers c _ _ _ _ (by_answering k room stop message t to answer is e) = ap (λ x. x.0.servers) (sym e) ∙ takes (r.clients c) message
    row-servers c _ _ _ _ (by_telling k room stop message t line answer is e) = ap (λ x. x.0.servers) (sym e) ∙ takes (r.clients c) message

    by-case : (step : Step) (now : World) → StepCase r step now → Tables r.clients → Tables now.clients
    by-case step _ (client_row _ c t sent lines row) h = at-one r.clients c t (row-servers c step t sent lines row) h
    by-case _ _ (row_done step s m k row e is) h = h
    by-case _ _ (row_stopped step s m k row made e is) h = h
    by-case _ _ (gone_late s m T e) h = h
    by-case _ _ (gone_down s m e) h = h
    by-case _ _ (come_up s pick Ws Ts e) h = h
    by-case _ _ (found_anew step s found lines e is) h = h
    by-case _ _ dismissed h = h
    by-case _ _ (quietly step event sent lines is) h = h

    step-tables : (step : Step) → Tables r.clients → Tables (after step r).clients
    step-tables step h = by-case step (after step r) (step-case r step) h

  -- ---- what is answered is an operation at one of them

  module _ (events : List Event) where
    -- an operation that is reported under this event is at a server that there is
    abbrev IsFor : ℕ → Type 0
    IsFor j = (c : ClientNo) (s : ServerNo) (op : Op) → event_at events j ≡ Some (CommandOf c (Do s op)) → s.0 < servers

    abbrev Asks : Waited → Type 0
    Asks out = (c : ClientNo) (a : Asked) → out c ≡ Some a → IsFor a.number

    abbrev Answers : Text → Type 0
    Answers x = (a : Addressed) → answer_in x ≡ Some a → IsFor a.number

    fitting : (out : Waited) (x : Text) (o : Option Addressed) → fits out o x ≡ true → Asks out → (a : Addressed) → o ≡ Some a → IsFor a.number
    fitting out x None h k a e = absurd (none e)
    fitting out x (Some b) h k a e = subst (λ (d : Addressed). IsFor d.number) (some e) (by (out b.client) refl h)
      where
        first-of : (p q : Bool) → (p && q) ≡ true → p ≡ true
        first-of p q l = grind arith

        same : (m n : ℕ) → nat_eq m n ≡ true → m ≡ n
        same m n l = grind (arith, nat_tests)

        by : (o : Option Asked) → out b.client ≡ o → fits_asked o b.number x ≡ true → IsFor b.number
        by None l m = absurd (not-both true refl (sym m))
        by (Some d) l m = subst IsFor (same d.number b.number (first-of (nat_eq d.number b.number) (answers_order d.order x) m)) (k b.client d l)

    answer-left : (out : Waited) (x : Text) (o : Option Addressed) → Asks out → Asks (after_answer out o x)
    answer-left out x None k = k
    answer-left out x (Some b) k = last (is_last x)
      where
        last : (l : Bool) → Asks (if l then with_asked out b.client None else out)
        last true c a e = by (client_eq b.client c) e
          where
            by : (t : Bool) → (if t then None else out c) ≡ Some a → IsFor a.number
            by true m = absurd (none m)
            by false m = k c a m
        last false c a e = k c a e

    all-fit : (out : Waited) (texts : List Text) → Fit out texts → Asks out → Each Answers texts × Asks (left out texts)
    all-fit out [] h k = (tt, k)
    all-fit out (x ∷ texts) h k = let on = all-fit (after_answer out (answer_in x) x) texts h.1 (answer-left out x (answer_in x) k) in ((fitting out x (answer_in x) h.0 k, on.0), on.1)

    abbrev asked : (ClientNo → ClientTable) → Waited
    asked clients c = asked_of (clients c).outstanding

    pub record Within (r : World) : Type 0 where
      pub tables : Tables r.clients
      pub asks : Asks (asked r.clients)
      pub lines : Each Answers r.lines

    module _ (files : AllFiles) (epochs : ServerNo → ℕ) where
      quiet-within : (r : World) (step : Step) → Reached files epochs r → IsQuiet step → Within r → Within (after step r)
      quiet-within r step reached q w = let h = step-hears r _ reached.facts reached.talk step q in let k = h.heard (asked r.clients) (λ c. refl) in let f = all-fit (asked r.clients) h.texts k.fit w.asks in record {
        tables = step-tables r step w.tables;
        asks = λ c a e. f.1 c a (k.now c ∙ e);
        lines = subst (λ l. Each Answers l) (sym h.adds) (each-append Answers r.lines h.texts w.lines f.0);
      }

      row-within : (r : World) (c : ClientNo) (command : Command) (row : Commanded) → event_at events r.event ≡ Some (CommandOf c command) → Commands r.event command row → Sound (r.clients c) command row → Within r → Within (commanded c row r)
      row-within r c command (Refuses refusal) e own sound w = record {
        tables = w.tables;
        asks = w.asks;
        lines = each-append Answers r.lines (says.Refused c r.event refusal ∷ []) w.lines (λ a k. absurd (none (sym (ap (λ (b : Bool). if b then None else Some (record { client = c; number = r.event })) own) ∙ k)), tt);
      }
      row-within r c command (Sends u to message) e asks sound w = record { tables = at-one r.clients c u sound.0 w.tables; asks = λ d a k. by d (client_eq c d) a k; lines = w.lines }
        where
          its : {a b : Command} {c d : ClientNo} → Some (CommandOf c a) ≡ Some (CommandOf d b) → a ≡ b
          its q = cc

          here : IsFor r.event
          here d s op k = subst (λ n. s.0 < n) (w.tables c) (sound.1 s op (its (sym e ∙ k)))

          by : (d : ClientNo) (b : Bool) (a : Asked) → asked_of (if b then u else r.clients d).outstanding ≡ Some a → IsFor a.number
          by d true a k = subst (λ (z : Asked). IsFor z.number) (some (sym asks ∙ k)) here
          by d false a k = w.asks d a k

      step-within : (r : World) (step : Step) → Reached files epochs r → TellsAs events step r → Within r → Within (after step r)
      step-within r (Tell c command) reached e w = row-within r c command (command_row (r.clients c) r.event command) e (commands (r.clients c) r.event command) (commands-sound (r.clients c) r.event command) w
      step-within r NextEvent reached e w = record { tables = w.tables; asks = w.asks; lines = w.lines }
      step-within r Dismiss reached e w = record { tables = w.tables; asks = λ c a k. absurd (none k); lines = w.lines }
      step-within r step reached e w = quiet-within r step reached tt w

      abbrev pub AllTell : List Step → World → Type 0
      AllTell [] r = Unit {0}
      AllTell (step ∷ steps) r = TellsAs events step r × AllTell steps (after step r)

      pub run-within : (steps : List Step) (r : World) → Reached files epochs r → IsRun steps r → AllTell steps r → Within r → Within (run steps r)
      run-within [] r reached i t w = w
      run-within (step ∷ steps) r reached i t w = run-within steps (after step r) (next-reached files epochs r step i.0 reached) i.1 t.1 (step-within r step reached t.0 w)

      -- ---- what is under events

      tell-append : (a b : List Step) (r : World) → AllTell a r → AllTell b (run a r) → AllTell (a ++ b) r
      tell-append [] b r h k = k
      tell-append (step ∷ a) b r h k = (h.0, tell-append a b (after step r) h.1 k)

      calm-tells : (step : Step) (r : World) → IsCalm step → TellsAs events step r
      calm-tells (Tell c command) r h = absurd h
      calm-tells _ r h = tt

      pub calm-tell : (steps : List Step) (r : World) → Each IsCalm steps → AllTell steps r
      calm-tell [] r h = tt
      calm-tell (step ∷ steps) r h = (calm-tells step r h.0, calm-tell steps (after step r) h.1)

      quiet-tells : (step : Step) (r : World) → IsQuiet step → TellsAs events step r
      quiet-tells (Tell c command) r h = absurd h
      quiet-tells _ r h = tt

      quiet-tell : (acts : List Act) (r : World) → Each IsQuietAct acts → AllTell (steps_in acts) r
      quiet-tell [] r h = tt
      quiet-tell (Does step ∷ acts) r h = (quiet-tells step r h.0, quiet-tell acts (after step r) h.1)
      quiet-tell (Refused refusal ∷ acts) r h = quiet-tell acts r h.1
      quiet-tell (Tells s fault ∷ acts) r h = quiet-tell acts r h.1
      quiet-tell (Shows s prints ∷ acts) r h = quiet-tell acts r h.1

      event-tell : (e : Event) (acts : List Act) (r : World) → IsUnder e acts → event_at events r.event ≡ Some e → AllTell (steps_in acts) r
      event-tell (CommandOf c command) acts r under k = subst (λ l. AllTell (steps_in l) r) (sym under) (k, tt)
      event-tell (CallOf c s call) acts r under k = absurd under
      event-tell e acts r under k = quiet-tell acts r (under-quiet e acts tt under)

      length-more : (es : List Event) (e : Event) → length (es ++ e ∷ []) ≡ length es + 1
      length-more [] e = refl
      length-more (x ∷ es) e = ap (λ n. suc n) (length-more es e) ∙ move (length es)
        where
          move : (n : ℕ) → suc (n + 1) ≡ suc n + 1
          move n = omega arith

      next-number : (n : ℕ) → suc n ≡ n + 1
      next-number n = omega arith

      pub items-tell : (items : List Item) (r : World) (es later : List Event) → events ≡ es ++ (events_of items ++ later) → length es ≡ r.event → Reached files epochs r → IsRun (steps_of items) r → AreUnder items → AllTell (steps_of items) r
      items-tell [] r es later e n h i under = tt
      items-tell (item ∷ items) r es later e n h i under =
          let split = run-split (steps_in item.acts) (steps_of items) (after NextEvent r) i.1 in
          let next = event-follows files epochs (λ c. asked_of (r.clients c).outstanding) item.event item.acts (after NextEvent r) (next-reached files epochs r NextEvent tt h) split.0 (λ c. refl) under.0 in (
            tt,
            tell-append (steps_in item.acts) (steps_of items) (after NextEvent r)
                (event-tell item.event item.acts (after NextEvent r) under.0 (ap (λ m. event_at events m) (sym (next-number r.event) ∙ ap suc (sym n)) ∙ ap (λ l. event_at l (suc (length es))) e ∙ event_at-next es (events_of items ++ later) item.event))
                (items-tell items (after_item item r) (es ++ item.event ∷ []) later (e ∙ sym (append_assoc es (item.event ∷ []) (events_of items ++ later))) (length-more es item.event ∙ ap (λ m. m + 1) n ∙ sym next.same_event) next.reached split.1 under.1),
          )

      pub opening-within : Within (opening servers files epochs)
      opening-within = record { tables = λ c. refl; asks = λ c a e. absurd (none e); lines = tt }

    -- ---- the files of other servers

    abbrev pub IsAt : Performed → Type 0
    IsAt p = p.server.0 < servers

    performed-at : (c : ClientNo) (a : Answer) (o : Option Event) → ((d : ClientNo) (s : ServerNo) (op : Op) → o ≡ Some (CommandOf d (Do s op)) → s.0 < servers) → Each IsAt (performed_in c a o)
    performed-at c a (Some (CommandOf d (Do s op))) h = by (client_eq c d)
      where
        by : (t : Bool) → Each IsAt (if t then (record { server = s; op = op; answer = a }) ∷ [] else [])
        by true = (h d s op refl, tt)
        by false = tt
    performed-at c a _ h = tt

    -- an answer that some client is told, where the line is that client's
    at-client-alone : (t : Bool) (ps : List Performed) → Each IsAt ps → Each IsAt (if t then ps else [])
    at-client-alone true ps h = h
    at-client-alone false ps h = tt

    answered-at : (c : ClientNo) (x : Text) → Answers x → Each IsAt (answered events c x)
    answered-at c (says.Did d j) h = at-client-alone (client_eq c d) _ (performed-at c _ (event_at events j) (h (record { client = d; number = j }) refl))
    answered-at c (says.Read d j bytes) h = at-client-alone (client_eq c d) _ (performed-at c _ (event_at events j) (h (record { client = d; number = j }) refl))
    answered-at c (says.Refused d j refusals.NoFile) h = at-client-alone (client_eq c d) _ (performed-at c _ (event_at events j) (h (record { client = d; number = j }) refl))
    answered-at c (says.Refused d j refusals.Exists) h = at-client-alone (client_eq c d) _ (performed-at c _ (event_at events j) (h (record { client = d; number = j }) refl))
    answered-at c _ h = tt

    owned-at : (o : Option ClientNo) (x : Text) → Answers x → Each IsAt (answered_by events o x)
    owned-at None x h = tt
    owned-at (Some c) x h = answered-at c x h

    pub ops-at : (T : Tid) (owner : Option ClientNo) (texts : List Text) → Each Answers texts → Each IsAt (ops_in events T owner texts)
    ops-at T owner [] h = tt
    ops-at T owner (x ∷ texts) h = each-append IsAt (answered_by events owner x) (ops_in events T (owner_after T owner x) texts) (owned-at owner x h.0) (ops-at T (owner_after T owner x) texts h.1)

    files-same : (ps : List Performed) (files : AllFiles) (s : ServerNo) → servers ≤ s.0 → Each IsAt ps → files_then ps files s ≡ files s
    files-same [] files s out h = refl
    files-same (p ∷ ps) files s out h = files-same ps (all_files_after p.server p.op files) s out h.1 ∙ other (server_tells p.server s)
      where
        apart : (a b : ℕ) → a < servers → servers ≤ b → a ≡ b → ⊥
        apart a b k l e = omega (arith, k, l, e)

        other : ((server_eq p.server s ≡ true) × (p.server ≡ s)) ⊎ ((server_eq p.server s ≡ false) × (p.server ≢ s)) → all_files_after p.server p.op files s ≡ files s
        other (inl k) = absurd (apart p.server.0 s.0 h.0 out (ap (λ (z : ServerNo). z.0) k.1))
        other (inr k) = ap (λ (b : Bool). if b then files_after p.op (files s) else files s) k.0

    pub replay-same : (lines : List Line) (ts : List Tid) (files : AllFiles) (s : ServerNo) → servers ≤ s.0 → ((T : Tid) → Each IsAt (operations_of events lines T)) → replay_operations files events lines ts s ≡ files s
    replay-same lines [] files s out h = refl
    replay-same lines (T ∷ ts) files s out h = replay-same lines ts (files_then (operations_of events lines T) files) s out h ∙ files-same (operations_of events lines T) files s out (h T)
