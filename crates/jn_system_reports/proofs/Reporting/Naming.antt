-- The commits of a run's lines are those of its world's, each named once and before it is acknowledged.
use Rattle.jn_system_reports.proofs.Common.{◌≡◌, ℕ, ◌+◌, List, [], ◌∷◌, ◌++◌, append-nil, append_assoc, length, drop, refl, sym, ◌∙◌, ap, subst, drop-append_seam, map, ServerNo, ClientNo, Tid, AllFiles, AtEvent, Text, Line, Commanded, Refuses, Sends, command_row, commit_in, history_of, IsNamedWhere, NamesBefore, NamesOnce, Commit, CommitsOnce, in_order, commits_of, commits-more, committed-any, World, opening, committed_in, commits_in, Step, NextEvent, Tell, Dismiss, after, run, IsStep, IsRun, commanded, IsNamedBefore, AreNamed, Printed, FileThere, PageStored, UnitLocked, text_printed, Act, Does, Refused, Tells, Shows, Item, steps_in, steps_of, told_by, told_in, told_under, after_item, at_event, world_of}
use Rattle.jn_report.specs.declared.line.Text.TheVariants as says
use Rattle.jn_serial.proofs.Telling.{NamesOnce-more}
use Rattle.jn_system_reports.specs.Reporting.Reported.{lines_of}
use Rattle.jn_system_reports.proofs.Reporting.Reached.{Reached, next-reached}
use Rattle.jn_system_reports.proofs.Reporting.Hearing.{IsQuiet, step-hears, told-is}
use Rattle.jn_system_reports.proofs.Reporting.Following.{run-split}

-- ---- what a step adds

command-adds : (c : ClientNo) (r : World) (row : Commanded) → (commanded c row r).lines ≡ r.lines ++ drop (length r.lines) (commanded c row r).lines
command-adds c r (Refuses refusal) = ap (λ l. r.lines ++ l) (sym (drop-append_seam r.lines (says.Refused c r.event refusal ∷ [])))
command-adds c r (Sends u to message) = sym (append-nil r.lines) ∙ ap (λ l. r.lines ++ l) (sym (drop-append_seam r.lines [])) ∙ ap (λ l. r.lines ++ drop (length r.lines) l) (append-nil r.lines)

module _ (files : AllFiles) (epochs : ServerNo → ℕ) where
  quiet-adds : (r : World) → Reached files epochs r → (step : Step) → IsQuiet step → (after step r).lines ≡ r.lines ++ told_by (Does step) r
  quiet-adds r h step q = let x = step-hears r _ h.facts h.talk step q in x.adds ∙ ap (λ l. r.lines ++ l) (sym (told-is r step x.texts x.adds))

  pub adds : (r : World) → Reached files epochs r → (step : Step) → (after step r).lines ≡ r.lines ++ told_by (Does step) r
  adds r h (Tell c command) = command-adds c r (command_row (r.clients c) r.event command)
  adds r h NextEvent = sym (append-nil r.lines) ∙ ap (λ l. r.lines ++ l) (sym (drop-append_seam r.lines [])) ∙ ap (λ l. r.lines ++ drop (length r.lines) l) (append-nil r.lines)
  adds r h Dismiss = sym (append-nil r.lines) ∙ ap (λ l. r.lines ++ l) (sym (drop-append_seam r.lines [])) ∙ ap (λ l. r.lines ++ drop (length r.lines) l) (append-nil r.lines)
  adds r h step = quiet-adds r h step tt

-- ---- each commit once

pub once-more : (history : List Commit) → CommitsOnce history → NamesOnce (commits_of history)
once-more [] h = tt
once-more (c ∷ history) h = NamesOnce-more (commits_of history) c.tid (once-more history h.1) (sym (committed-any c.tid history) ∙ h.0)

-- ---- each acknowledged commit before

same-commit : (text : Text) → commit_in text ≡ committed_in text
same-commit (says.Commit T) = refl
same-commit _ = refl

pub same-history : (number : ℕ) (texts : List Text) → history_of (at_event number texts) ≡ commits_in texts
same-history number [] = refl
same-history number (x ∷ texts) = ap (λ l. l ++ history_of (at_event number texts)) (same-commit x) ∙ ap (λ l. committed_in x ++ l) (same-history number texts)

pub history-more : (xs ys : List Line) → history_of (xs ++ ys) ≡ history_of xs ++ history_of ys
history-more [] ys = refl
history-more (x ∷ xs) ys = ap (λ l. commit_in x.text ++ l) (history-more xs ys) ∙ sym (append_assoc (commit_in x.text) (history_of xs) (history_of ys))

pub before-more : (named : List Tid) (xs ys : List Line) → NamesBefore named xs → NamesBefore (named ++ history_of xs) ys → NamesBefore named (xs ++ ys)
before-more named [] ys h k = subst (λ l. NamesBefore l ys) (append-nil named) k
before-more named (x ∷ xs) ys h k = (h.0, before-more (named ++ commit_in x.text) xs ys h.1 (subst (λ l. NamesBefore l ys) (sym (append_assoc named (commit_in x.text) (history_of xs))) k))

-- the names of a longer list
names-split : (before a b : List Text) → AreNamed before (a ++ b) → AreNamed (before ++ a) b
names-split before [] b h = subst (λ l. AreNamed l b) (sym (append-nil before)) h
names-split before (x ∷ a) b h = subst (λ l. AreNamed l b) (append_assoc before (x ∷ []) a) (names-split (before ++ x ∷ []) a b h.1)

named-one : (before : List Text) (text : Text) → IsNamedBefore before text → IsNamedWhere (commits_in before) text
named-one before (says.Committed c j T) h = h
named-one before _ h = tt

names-before : (number : ℕ) (before texts : List Text) → AreNamed before texts → NamesBefore (commits_in before) (at_event number texts)
names-before number before [] h = tt
names-before number before (x ∷ texts) h = (named-one before x h.0, subst (λ l. NamesBefore l (at_event number texts)) (commits-more before (x ∷ []) ∙ ap (λ l. commits_in before ++ l) (append-nil (committed_in x) ∙ sym (same-commit x))) (names-before number (before ++ x ∷ []) texts h.1))

-- ---- runs

module _ (files : AllFiles) (epochs : ServerNo → ℕ) where
  -- acts, the world after them, and what they report
  pub record Told (r : World) (texts : List Text) (q : World) : Type 0 where
    pub reached : Reached files epochs q
    pub commits : commits_in q.lines ≡ commits_in r.lines ++ commits_in texts
    pub before : (number : ℕ) → NamesBefore (commits_in r.lines) (at_event number texts)

  told-more : (number : ℕ) (xs ys : List Text) → at_event number (xs ++ ys) ≡ at_event number xs ++ at_event number ys
  told-more number [] ys = refl
  told-more number (x ∷ xs) ys = ap (λ l. (record { when = AtEvent number; text = x }) ∷ l) (told-more number xs ys)

  told-then : (r between q : World) (xs ys : List Text) → Told r xs between → Told between ys q → Told r (xs ++ ys) q
  told-then r between q xs ys h k = record {
    reached = k.reached;
    commits = k.commits ∙ ap (λ l. l ++ commits_in ys) h.commits ∙ append_assoc (commits_in r.lines) (commits_in xs) (commits_in ys) ∙ ap (λ l. commits_in r.lines ++ l) (sym (commits-more xs ys));
    before = λ number. subst (λ l. NamesBefore (commits_in r.lines) l) (sym (told-more number xs ys)) (before-more (commits_in r.lines) (at_event number xs) (at_event number ys) (h.before number)
        (subst (λ l. NamesBefore l (at_event number ys)) (h.commits ∙ ap (λ l. commits_in r.lines ++ l) (sym (same-history number xs))) (k.before number)));
  }

  -- a text that names no commit
  told-plain : (r : World) → Reached files epochs r → (text : Text) → committed_in text ≡ [] → IsNamedWhere (commits_in r.lines) text → Told r (text ∷ []) r
  told-plain r h text e k = record { reached = h; commits = sym (ap (λ l. commits_in r.lines ++ (l ++ [])) e ∙ append-nil (commits_in r.lines)); before = λ number. (k, tt) }

  told-print : (r : World) → Reached files epochs r → (s : ServerNo) (x : Printed) → Told r (text_printed s x ∷ []) r
  told-print r h s (FileThere f) = told-plain r h (says.File s f) refl tt
  told-print r h s (PageStored f p bytes) = told-plain r h (says.Page s f p bytes) refl tt
  told-print r h s (UnitLocked u T) = told-plain r h (says.Locked s u T) refl tt

  told-prints : (r : World) → Reached files epochs r → (s : ServerNo) (prints : List Printed) → Told r (map (text_printed s) prints) r
  told-prints r h s [] = record { reached = h; commits = sym (append-nil (commits_in r.lines)); before = λ number. tt }
  told-prints r h s (x ∷ prints) = told-then r r r (text_printed s x ∷ []) (map (text_printed s) prints) (told-print r h s x) (told-prints r h s prints)

  told-step : (r : World) → Reached files epochs r → (step : Step) → IsStep step r → Told r (told_by (Does step) r) (after step r)
  told-step r h step i = record {
    reached = next;
    commits = ap commits_in add ∙ commits-more r.lines (told_by (Does step) r);
    before = λ number. names-before number r.lines (told_by (Does step) r) (names-split [] r.lines (told_by (Does step) r) (subst (λ l. AreNamed [] l) add next.names));
  }
    where
      next : Reached files epochs (after step r)
      next = next-reached files epochs r step i h

      add : (after step r).lines ≡ r.lines ++ told_by (Does step) r
      add = adds files epochs r h step

  pub acts-told : (acts : List Act) (r : World) → Reached files epochs r → IsRun (steps_in acts) r → Told r (told_in acts r) (run (steps_in acts) r)
  acts-told [] r h i = record { reached = h; commits = sym (append-nil (commits_in r.lines)); before = λ number. tt }
  acts-told (Does step ∷ acts) r h i = let first = told-step r h step i.0 in told-then r (after step r) (run (steps_in acts) (after step r)) (told_by (Does step) r) (told_in acts (after step r)) first (acts-told acts (after step r) first.reached i.1)
  acts-told (Refused refusal ∷ acts) r h i = told-then r r (run (steps_in acts) r) (says.RefusedEvent refusal ∷ []) (told_in acts r) (told-plain r h (says.RefusedEvent refusal) refl tt) (acts-told acts r h i)
  acts-told (Tells s fault ∷ acts) r h i = told-then r r (run (steps_in acts) r) (says.Outside s fault ∷ []) (told_in acts r) (told-plain r h (says.Outside s fault) refl tt) (acts-told acts r h i)
  acts-told (Shows s prints ∷ acts) r h i = told-then r r (run (steps_in acts) r) (map (text_printed s) prints) (told_in acts r) (told-prints r h s prints) (acts-told acts r h i)

  pub record RunTold (items : List Item) (r : World) : Type 0 where
    pub reached : Reached files epochs (world_of items r)
    pub commits : commits_in (world_of items r).lines ≡ commits_in r.lines ++ history_of (lines_of items r)
    pub before : NamesBefore (commits_in r.lines) (lines_of items r)

  run-append : (a b : List Step) (r : World) → run (a ++ b) r ≡ run b (run a r)
  run-append [] b r = refl
  run-append (step ∷ a) b r = run-append a b (after step r)

  item-told : (item : Item) (items : List Item) (r : World) → Told (after NextEvent r) (told_under item r) (after_item item r) → RunTold items (after_item item r) → RunTold (item ∷ items) r
  item-told item items r h k = record {
    reached = subst (λ (z : World). Reached files epochs z) (sym same) k.reached;
    commits = ap (λ (z : World). commits_in z.lines) same ∙ k.commits ∙ ap (λ l. l ++ history_of (lines_of items (after_item item r))) (h.commits ∙ ap (λ l. commits_in r.lines ++ l) (sym (same-history (r.event + 1) (told_under item r))))
        ∙ append_assoc (commits_in r.lines) (history_of here) (history_of (lines_of items (after_item item r))) ∙ ap (λ l. commits_in r.lines ++ l) (sym (history-more here (lines_of items (after_item item r))));
    before = before-more (commits_in r.lines) here (lines_of items (after_item item r)) (h.before (r.event + 1)) (subst (λ l. NamesBefore l (lines_of items (after_item item r))) (h.commits ∙ ap (λ l. commits_in r.lines ++ l) (sym (same-history (r.event + 1) (told_under item r)))) k.before);
  }
    where
      here : List Line
      here = at_event (r.event + 1) (told_under item r)

      same : world_of (item ∷ items) r ≡ world_of items (after_item item r)
      same = run-append (steps_in item.acts) (steps_of items) (after NextEvent r)

  pub run-told : (items : List Item) (r : World) → Reached files epochs r → IsRun (steps_of items) r → RunTold items r
  run-told [] r h i = record { reached = h; commits = sym (append-nil (commits_in r.lines)); before = tt }
  run-told (item ∷ items) r h i = let split = run-split (steps_in item.acts) (steps_of items) (after NextEvent r) i.1 in
      let first = acts-told item.acts (after NextEvent r) (next-reached files epochs r NextEvent tt h) split.0 in
      item-told item items r first (run-told items (after_item item r) first.reached split.1)

  -- its commits, each once
  pub named-once : (items : List Item) (servers : ℕ) → RunTold items (opening servers files epochs) → NamesOnce (history_of (lines_of items (opening servers files epochs)))
  named-once items servers h = subst NamesOnce (h.reached.mirrors.commits ∙ h.commits) (once-more _ (in_order files epochs h.reached.atoms h.reached.may).once)
