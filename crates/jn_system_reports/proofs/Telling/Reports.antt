-- What the lines of a run with its schedule report of a transaction is what the world's lines report.
use Rattle.jn_system_reports.proofs.Common.{Bool, true, false, ◌≡◌, ℕ, suc, ◌+◌, List, [], ◌∷◌, ◌++◌, append-nil, append_assoc, length, Option, Some, None, refl, sym, ◌∙◌, ap, subst, arith, map, ◌||◌, ServerNo, ClientNo, Tid, Command, AllFiles, Event, Text, Line, Commanded, Refuses, Sends, command_row, commit_in, history_of, event_at, says_of, begins_for, Follows, event_at-next, operations_of, any-append, AreInTurn, ops-in-turn, run_atoms, opening_world, commits-more, World, opening, committed_in, commits_in, Step, NextEvent, Tell, Dismiss, IsStep, IsRun, after, run, commanded, Printed, FileThere, PageStored, UnitLocked, text_printed, Act, Does, Refused, Tells, Shows, Item, events_of, steps_in, steps_of, world_of, told_by, told_in, told_under, after_item, at_event, IsUnder, AreUnder, IsReported, told_by_steps, AreAsTold}
use Rattle.jn_system_reports.proofs.Telling.TransactionLines.{ops_in, owner_in, is_begun, begun_by}
use Rattle.jn_schedule.specs.declared.Event.TheVariants as kinds
use Rattle.jn_report.specs.declared.line.Text.TheVariants as says
use Rattle.jn_serial.proofs.Beginners.{HasOneClient}
use Rattle.jn_system_reports.specs.Reporting.Reported.{lines_of}
use Rattle.jn_system_reports.proofs.Reporting.Lists.{Each}
use Rattle.jn_system_reports.proofs.Reporting.Hearing.{IsQuiet, step-hears}
use Rattle.jn_system_reports.proofs.Reporting.Following.{IsQuietAct, under-quiet, no-calls, run-split, run-in-turn, run-follows}
use Rattle.jn_system_reports.proofs.Reporting.Reached.{Reached, next-reached, opening-reached}
use Rattle.jn_system_reports.proofs.Reporting.Naming.{adds}
use Rattle.jn_system_reports.proofs.Telling.Tellings.{texts_of, ops-of-texts, ops-more, owner-more, by-begun, by-texts}
use Rattle.jn_system_reports.proofs.Telling.Quiet.{AreDumb, dumb-ops, dumb-owners, dumb-by}
use Rattle.jn_system_reports.proofs.Telling.Runs.{TellsAs}
use Rattle.jn_system_reports.proofs.Telling.Agreeing.{stands-from, Stands, step-stands, opening-stands, stands-told}

-- ---- lines

pub texts-more : (xs ys : List Line) → texts_of (xs ++ ys) ≡ texts_of xs ++ texts_of ys
texts-more [] ys = refl
texts-more (x ∷ xs) ys = ap (λ z. x.text ∷ z) (texts-more xs ys)

texts-at : (number : ℕ) (texts : List Text) → texts_of (at_event number texts) ≡ texts
texts-at number [] = refl
texts-at number (x ∷ texts) = ap (λ z. x ∷ z) (texts-at number texts)

commit-text : (text : Text) → commit_in text ≡ committed_in text
commit-text (says.Commit T) = refl
commit-text _ = refl

history-texts : (lines : List Line) → history_of lines ≡ commits_in (texts_of lines)
history-texts [] = refl
history-texts (l ∷ lines) = ap (λ z. z ++ history_of lines) (commit-text l.text) ∙ ap (λ z. committed_in l.text ++ z) (history-texts lines)

-- these lines report of each transaction what those do
pub record TellSame (events : List Event) (xs ys : List Text) : Type 0 where
  pub ops : (T : Tid) (o : Option ClientNo) → ops_in events T o xs ≡ ops_in events T o ys
  pub owner : (T : Tid) (o : Option ClientNo) → owner_in T o xs ≡ owner_in T o ys
  pub commits : commits_in xs ≡ commits_in ys
  pub by : (c : ClientNo) (T : Tid) → begun_by c T xs ≡ begun_by c T ys

tell-same : (events : List Event) (xs : List Text) → TellSame events xs xs
tell-same events xs = record { ops = λ T o. refl; owner = λ T o. refl; commits = refl; by = λ c T. refl }

tell-none : (events : List Event) (xs : List Text) → AreDumb xs → commits_in xs ≡ [] → TellSame events xs []
tell-none events xs h e = record { ops = λ T o. dumb-ops events T o xs h; owner = λ T o. dumb-owners T o xs h; commits = e; by = λ c T. dumb-by c T xs h }

tell-then : (events : List Event) (a b c d : List Text) → TellSame events a b → TellSame events c d → TellSame events (a ++ c) (b ++ d)
tell-then events a b c d h k = record {
  ops = λ T o. ops-more events T o a c ∙ ap (λ z. z ++ ops_in events T (owner_in T o a) c) (h.ops T o) ∙ ap (λ z. ops_in events T o b ++ ops_in events T z c) (h.owner T o) ∙ ap (λ z. ops_in events T o b ++ z) (k.ops T (owner_in T o b)) ∙ sym (ops-more events T o b d);
  owner = λ T o. owner-more T o a c ∙ ap (λ z. owner_in T z c) (h.owner T o) ∙ k.owner T (owner_in T o b) ∙ sym (owner-more T o b d);
  commits = commits-more a c ∙ ap (λ z. z ++ commits_in c) h.commits ∙ ap (λ z. commits_in b ++ z) k.commits ∙ sym (commits-more b d);
  by = λ e T. any-append (begins_for e T) a c ∙ ap (λ z. z || begun_by e T c) (h.by e T) ∙ ap (λ z. begun_by e T b || z) (k.by e T) ∙ sym (any-append (begins_for e T) b d);
}

pub steps-append : (a b : List Step) (r : World) → run (a ++ b) r ≡ run b (run a r)
steps-append [] b r = refl
steps-append (step ∷ a) b r = steps-append a b (after step r)

pub prints-dumb : (s : ServerNo) (prints : List Printed) → AreDumb (map (text_printed s) prints) × (commits_in (map (text_printed s) prints) ≡ [])
prints-dumb s [] = (tt, refl)
prints-dumb s (FileThere f ∷ prints) = let on = prints-dumb s prints in ((tt, on.0), on.1)
prints-dumb s (PageStored f p bytes ∷ prints) = let on = prints-dumb s prints in ((tt, on.0), on.1)
prints-dumb s (UnitLocked u T ∷ prints) = let on = prints-dumb s prints in ((tt, on.0), on.1)

-- neither a command nor the beginning of an event
abbrev pub IsCalm : Step → Type 0
IsCalm (Tell c command) = ⊥
IsCalm NextEvent = ⊥
IsCalm step = Unit {0}

-- ---- acts

module _ (events : List Event) (files : AllFiles) (epochs : ServerNo → ℕ) (ended : Tid → Bool) (before : List Text) where
  -- acts, the world after them, and what they report
  record Told (r q : World) (texts : List Text) : Type 0 where
    reached : Reached files epochs q
    stands : Stands events files epochs ended before q
    event : q.event ≡ r.event
    new : List Text
    lines : q.lines ≡ r.lines ++ new
    same : TellSame events texts new

  told-nothing : (r : World) (texts : List Text) → Reached files epochs r → Stands events files epochs ended before r → AreDumb texts → commits_in texts ≡ [] → Told r r texts
  told-nothing r texts h k dumb e = record { reached = h; stands = k; event = refl; new = []; lines = sym (append-nil r.lines); same = tell-none events texts dumb e }

  told-then : (r between q : World) (xs ys : List Text) → Told r between xs → Told between q ys → Told r q (xs ++ ys)
  told-then r between q xs ys h k = record {
    reached = k.reached;
    stands = k.stands;
    event = k.event ∙ h.event;
    new = h.new ++ k.new;
    lines = k.lines ∙ ap (λ z. z ++ k.new) h.lines ∙ append_assoc r.lines h.new k.new;
    same = tell-then events xs h.new ys k.new h.same k.same;
  }

  told-step : (r : World) (step : Step) → Reached files epochs r → Stands events files epochs ended before r → IsStep step r → TellsAs events step r → (after step r).event ≡ r.event → Told r (after step r) (told_by (Does step) r)
  told-step r step h k i e same = record {
    reached = next-reached files epochs r step i h;
    stands = step-stands events files epochs ended before step r i e k;
    event = same;
    new = told_by (Does step) r;
    lines = adds files epochs r h step;
    same = tell-same events (told_by (Does step) r);
  }

  quiet-tells : (step : Step) (r : World) → IsQuiet step → TellsAs events step r
  quiet-tells (Tell c command) r h = absurd h
  quiet-tells _ r h = tt

  told-prints : (r : World) (s : ServerNo) (prints : List Printed) → Reached files epochs r → Stands events files epochs ended before r → Told r r (map (text_printed s) prints)
  told-prints r s prints h k = let q = prints-dumb s prints in told-nothing r (map (text_printed s) prints) h k q.0 q.1

  quiet-acts : (acts : List Act) (r : World) → Reached files epochs r → Stands events files epochs ended before r → IsRun (steps_in acts) r → Each IsQuietAct acts → Told r (run (steps_in acts) r) (told_in acts r)
  quiet-acts [] r h k i q = told-nothing r [] h k tt refl
  quiet-acts (Does step ∷ acts) r h k i q = let first = told-step r step h k i.0 (quiet-tells step r q.0) (step-hears r _ h.facts h.talk step q.0).same_event in
      told-then r (after step r) (run (steps_in acts) (after step r)) (told_by (Does step) r) (told_in acts (after step r)) first (quiet-acts acts (after step r) first.reached first.stands i.1 q.1)
  quiet-acts (Refused refusal ∷ acts) r h k i q = told-then r r (run (steps_in acts) r) (says.RefusedEvent refusal ∷ []) (told_in acts r) (told-nothing r (says.RefusedEvent refusal ∷ []) h k (tt, tt) refl) (quiet-acts acts r h k i q.1)
  quiet-acts (Tells s fault ∷ acts) r h k i q = told-then r r (run (steps_in acts) r) (says.Outside s fault ∷ []) (told_in acts r) (told-nothing r (says.Outside s fault ∷ []) h k (tt, tt) refl) (quiet-acts acts r h k i q.1)
  quiet-acts (Shows s prints ∷ acts) r h k i q = told-then r r (run (steps_in acts) r) (map (text_printed s) prints) (told_in acts r) (told-prints r s prints h k) (quiet-acts acts r h k i q.1)

  calm-tells : (step : Step) (r : World) → IsCalm step → TellsAs events step r
  calm-tells (Tell c command) r h = absurd h
  calm-tells _ r h = tt

  calm-event : (step : Step) (r : World) → Reached files epochs r → IsCalm step → (after step r).event ≡ r.event
  calm-event (Tell c command) r h q = absurd q
  calm-event NextEvent r h q = absurd q
  calm-event Dismiss r h q = refl
  calm-event step r h q = (step-hears r _ h.facts h.talk step tt).same_event

  calm-steps : (steps : List Step) (r : World) → Reached files epochs r → Stands events files epochs ended before r → IsRun steps r → Each IsCalm steps → Told r (run steps r) (told_by_steps steps r)
  calm-steps [] r h k i q = told-nothing r [] h k tt refl
  calm-steps (step ∷ steps) r h k i q = let first = told-step r step h k i.0 (calm-tells step r q.0) (calm-event step r h q.0) in
      told-then r (after step r) (run steps (after step r)) (told_by (Does step) r) (told_by_steps steps (after step r)) first (calm-steps steps (after step r) first.reached first.stands i.1 q.1)

  command-event : (c : ClientNo) (row : Commanded) (r : World) → (commanded c row r).event ≡ r.event
  command-event c (Refuses refusal) r = refl
  command-event c (Sends t to message) r = refl

  command-acts : (c : ClientNo) (command : Command) (r : World) → Reached files epochs r → Stands events files epochs ended before r → event_at events r.event ≡ Some (kinds.Command c command)
      → Told r (run (steps_in (Does (Tell c command) ∷ [])) r) (told_in (Does (Tell c command) ∷ []) r)
  command-acts c command r h k e = subst (λ l. Told r (after (Tell c command) r) l) (sym (append-nil (told_by (Does (Tell c command)) r)))
      (told-step r (Tell c command) h k tt e (command-event c (command_row (r.clients c) r.event command) r))

  event-acts : (event : Event) (acts : List Act) (r : World) → Reached files epochs r → Stands events files epochs ended before r → IsRun (steps_in acts) r → IsUnder event acts → event_at events r.event ≡ Some event → Told r (run (steps_in acts) r) (told_in acts r)
  event-acts (kinds.Command c command) acts r h k i under e = subst (λ l. Told r (run (steps_in l) r) (told_in l r)) (sym under) (command-acts c command r h k e)
  event-acts (kinds.Show s) acts r h k i under e = quiet-acts acts r h k i (under-quiet (kinds.Show s) acts tt under)
  event-acts (kinds.Again c) acts r h k i under e = quiet-acts acts r h k i (under-quiet (kinds.Again c) acts tt under)
  event-acts (kinds.Call c s call) acts r h k i under e = absurd under
  event-acts (kinds.Deliver n) acts r h k i under e = quiet-acts acts r h k i (under-quiet (kinds.Deliver n) acts tt under)
  event-acts kinds.Settle acts r h k i under e = quiet-acts acts r h k i (under-quiet kinds.Settle acts tt under)
  event-acts (kinds.Step s) acts r h k i under e = quiet-acts acts r h k i (under-quiet (kinds.Step s) acts tt under)
  event-acts (kinds.Nudge s) acts r h k i under e = quiet-acts acts r h k i (under-quiet (kinds.Nudge s) acts tt under)
  event-acts (kinds.Timeout s T) acts r h k i under e = quiet-acts acts r h k i (under-quiet (kinds.Timeout s T) acts tt under)
  event-acts (kinds.Scrub s) acts r h k i under e = quiet-acts acts r h k i (under-quiet (kinds.Scrub s) acts tt under)
  event-acts (kinds.Decay s page) acts r h k i under e = quiet-acts acts r h k i (under-quiet (kinds.Decay s page) acts tt under)
  event-acts (kinds.Revive s page) acts r h k i under e = quiet-acts acts r h k i (under-quiet (kinds.Revive s page) acts tt under)
  event-acts (kinds.Arm s n kind) acts r h k i under e = quiet-acts acts r h k i (under-quiet (kinds.Arm s n kind) acts tt under)
  event-acts (kinds.Crash s) acts r h k i under e = quiet-acts acts r h k i (under-quiet (kinds.Crash s) acts tt under)
  event-acts (kinds.Restart s) acts r h k i under e = quiet-acts acts r h k i (under-quiet (kinds.Restart s) acts tt under)

  -- ---- items

  pub record ItemsTold (items : List Item) (r : World) : Type 0 where
    reached : Reached files epochs (world_of items r)
    event : (world_of items r).event ≡ r.event + length items
    stands : Stands events files epochs ended before (world_of items r)
    pub new : List Text
    pub lines : (world_of items r).lines ≡ r.lines ++ new
    pub same : TellSame events (texts_of (lines_of items r)) new

  one-item : (item : Item) (items : List Item) (r : World) → Told (after NextEvent r) (after_item item r) (told_under item r) → ItemsTold items (after_item item r) → ItemsTold (item ∷ items) r
  one-item item items r h k = record {
    reached = subst (λ (z : World). Reached files epochs z) (sym together) k.reached;
    event = ap (λ (z : World). z.event) together ∙ k.event ∙ ap (λ n. n + length items) h.event ∙ one-more r.event (length items);
    stands = subst (λ (z : World). Stands events files epochs ended before z) (sym together) k.stands;
    new = h.new ++ k.new;
    lines = ap (λ (z : World). z.lines) together ∙ k.lines ∙ ap (λ z. z ++ k.new) h.lines ∙ append_assoc r.lines h.new k.new;
    same = subst (λ l. TellSame events l (h.new ++ k.new)) (sym (texts-more (at_event (r.event + 1) (told_under item r)) (lines_of items (after_item item r)) ∙ ap (λ z. z ++ texts_of (lines_of items (after_item item r))) (texts-at (r.event + 1) (told_under item r))))
        (tell-then events (told_under item r) h.new (texts_of (lines_of items (after_item item r))) k.new h.same k.same);
  }
    where
      together : world_of (item ∷ items) r ≡ world_of items (after_item item r)
      together = steps-append (steps_in item.acts) (steps_of items) (after NextEvent r)

      one-more : (n m : ℕ) → n + 1 + m ≡ n + suc m
      one-more n m = omega arith

  length-more : (es : List Event) (e : Event) → length (es ++ e ∷ []) ≡ length es + 1
  length-more [] e = refl
  length-more (x ∷ es) e = ap (λ n. suc n) (length-more es e) ∙ move (length es)
    where
      move : (n : ℕ) → suc (n + 1) ≡ suc n + 1
      move n = omega arith

  next-number : (n : ℕ) → suc n ≡ n + 1
  next-number n = omega arith

  pub items-told : (items : List Item) (r : World) (es later : List Event) → events ≡ es ++ (events_of items ++ later) → length es ≡ r.event → Reached files epochs r → Stands events files epochs ended before r → IsRun (steps_of items) r → AreUnder items → ItemsTold items r
  items-told [] r es later e n h k i under = record { reached = h; event = none r.event; stands = k; new = []; lines = sym (append-nil r.lines); same = tell-same events [] }
    where
      none : (n : ℕ) → n ≡ n + 0
      none n = omega arith
  items-told (item ∷ items) r es later e n h k i under =
      let split = run-split (steps_in item.acts) (steps_of items) (after NextEvent r) i.1 in
      let first = event-acts item.event item.acts (after NextEvent r) (next-reached files epochs r NextEvent tt h) (step-stands events files epochs ended before NextEvent r tt tt k) split.0 under.0
      (ap (λ m. event_at events m) (sym (next-number r.event) ∙ ap suc (sym n)) ∙ ap (λ l. event_at l (suc (length es))) e ∙ event_at-next es (events_of items ++ later) item.event) in
      one-item item items r first (items-told items (after_item item r) (es ++ item.event ∷ []) later (e ∙ sym (append_assoc es (item.event ∷ []) (events_of items ++ later))) (length-more es item.event ∙ ap (λ m. m + 1) n ∙ sym first.event) first.reached first.stands split.1 under.1)

-- ---- a run and its beginning

pub steps-more : (items more : List Item) → steps_of (items ++ more) ≡ steps_of items ++ steps_of more
steps-more [] more = refl
steps-more (item ∷ items) more = ap (λ l. NextEvent ∷ steps_in item.acts ++ l) (steps-more items more) ∙ ap (λ l. NextEvent ∷ l) (sym (append_assoc (steps_in item.acts) (steps_of items) (steps_of more)))

events-more : (items more : List Item) → events_of (items ++ more) ≡ events_of items ++ events_of more
events-more [] more = refl
events-more (item ∷ items) more = ap (λ l. item.event ∷ l) (events-more items more)

pub under-split : (items more : List Item) → AreUnder (items ++ more) → AreUnder items × AreUnder more
under-split [] more h = (tt, h)
under-split (item ∷ items) more h = let k = under-split items more h.1 in ((h.0, k.0), k.1)

pub lines-more : (items more : List Item) (r : World) → lines_of (items ++ more) r ≡ lines_of items r ++ lines_of more (world_of items r)
lines-more [] more r = refl
lines-more (item ∷ items) more r = ap (λ l. at_event (r.event + 1) (told_under item r) ++ l)
    (lines-more items more (after_item item r) ∙ ap (λ (z : World). lines_of items (after_item item r) ++ lines_of more z) (sym (steps-append (steps_in item.acts) (steps_of items) (after NextEvent r))))
    ∙ sym (append_assoc (at_event (r.event + 1) (told_under item r)) (lines_of items (after_item item r)) (lines_of more (world_of (item ∷ items) r)))

length-events : (items : List Item) → length (events_of items) ≡ length items
length-events [] = refl
length-events (item ∷ items) = ap (λ n. suc n) (length-events items)

none-more : (n : ℕ) → n ≡ 0 + n
none-more n = omega arith

-- and steps after it that are under no event, with lines that report nothing of a transaction
module _ (servers : ℕ) (files : AllFiles) (epochs : ServerNo → ℕ) (items later : List Item) (h : IsReported (items ++ later) (opening servers files epochs))
    (steps : List Step) (i : IsRun steps (world_of (items ++ later) (opening servers files epochs))) (calm : Each IsCalm steps) (more : List Text) (dumb : AreDumb more) (none : commits_in more ≡ []) where
  abbrev start : World
  start = opening servers files epochs

  abbrev all : List Event
  all = events_of (items ++ later)

  -- after the beginning, after the last event, and at the end
  abbrev between : World
  between = world_of items start

  abbrev last : World
  last = world_of (items ++ later) start

  abbrev final : World
  final = run steps last

  split : IsRun (steps_of items) start × IsRun (steps_of later) between
  split = run-split (steps_of items) (steps_of later) start (subst (λ l. IsRun l start) (steps-more items later) h.steps)

  together : last ≡ world_of later between
  together = ap (λ l. run l start) (steps-more items later) ∙ steps-append (steps_of items) (steps_of later) start

  -- the beginning
  first : ItemsTold all files epochs (λ T. false) [] items start
  first = items-told all files epochs (λ T. false) [] items start [] (events_of later) (events-more items later) refl (opening-reached files epochs servers) (opening-stands all files epochs servers) split.0 (under-split items later h.under).0

  abbrev ended : Tid → Bool
  ended = (run_atoms first.stands.atoms (opening_world files epochs)).ended

  -- the other events
  rest : ItemsTold all files epochs ended between.lines later between
  rest = items-told all files epochs ended between.lines later between (events_of items) [] (events-more items later ∙ ap (λ l. events_of items ++ l) (sym (append-nil (events_of later)))) (length-events items ∙ none-more (length items) ∙ sym first.event) first.reached
      (stands-from all files epochs (λ T. false) [] between first.stands) split.1 (under-split items later h.under).1

  pub last-reached : Reached files epochs (world_of (items ++ later) start)
  last-reached = subst (λ (z : World). Reached files epochs z) (sym together) rest.reached

  -- and what is under none
  after-all : Told all files epochs ended between.lines last final (told_by_steps steps last)
  after-all = calm-steps all files epochs ended between.lines steps last last-reached (subst (λ (z : World). Stands all files epochs ended between.lines z) (sym together) rest.stands) i calm

  pub end-reached : Reached files epochs (run steps (world_of (items ++ later) start))
  end-reached = after-all.reached

  its-lines : final.lines ≡ (first.new ++ rest.new) ++ (after-all.new ++ [])
  its-lines = after-all.lines ∙ ap (λ z. z ++ after-all.new) (ap (λ (z : World). z.lines) together ∙ rest.lines ∙ ap (λ z. z ++ rest.new) first.lines) ∙ ap (λ z. (first.new ++ rest.new) ++ z) (sym (append-nil after-all.new))

  same : TellSame all (texts_of (lines_of (items ++ later) start) ++ (told_by_steps steps last ++ more)) ((first.new ++ rest.new) ++ (after-all.new ++ []))
  same = tell-then all (texts_of (lines_of (items ++ later) start)) (first.new ++ rest.new) (told_by_steps steps last ++ more) (after-all.new ++ [])
      (subst (λ l. TellSame all l (first.new ++ rest.new)) (sym (ap texts_of (lines-more items later start) ∙ texts-more (lines_of items start) (lines_of later between)))
      (tell-then all (texts_of (lines_of items start)) first.new (texts_of (lines_of later between)) rest.new first.same rest.same))
      (tell-then all (told_by_steps steps last) after-all.new more [] after-all.same (tell-none all more dumb none))

  -- the lines of the whole run, which stand at their events and answer what clients were told to do
  module _ (lines : List Line) (is : texts_of lines ≡ texts_of (lines_of (items ++ later) start) ++ (told_by_steps steps last ++ more)) (turn : AreInTurn 1 all lines) (follows : Follows all lines) where
    one-client : (T : Tid) → HasOneClient T lines
    one-client T c d h k = started (by-begun c T final.lines (its c h))
      where
        its : (e : ClientNo) → says_of (begins_for e T) lines ≡ true → begun_by e T final.lines ≡ true
        its e g = ap (λ l. begun_by e T l) its-lines ∙ sym (same.by e T) ∙ ap (λ l. begun_by e T l) (sym is) ∙ sym (by-texts e T lines) ∙ g

        started : is_begun T final.lines ≡ true → c ≡ d
        started g = let y = after-all.stands.talk.started T g in y.its c (its c h) ∙ sym (y.its d (its d k))

    pub end-ops : (T : Tid) → operations_of all lines T ≡ ops_in all T None final.lines
    end-ops T = ops-in-turn all lines T (no-calls (items ++ later) h.under) turn follows (one-client T) ∙ ops-of-texts all T None lines ∙ ap (λ l. ops_in all T None l) is ∙ same.ops T None ∙ ap (λ l. ops_in all T None l) (sym its-lines)

    pub end-as-told : AreAsTold files all lines lines (run steps (world_of (items ++ later) start))
    end-as-told = stands-told all files epochs ended between.lines final lines lines after-all.stands (record { ops = λ T e. end-ops T; commits = history-texts lines ∙ ap commits_in is ∙ same.commits ∙ ap commits_in (sym its-lines) })

    -- of the commits of the beginning the later lines report nothing more
    pub beginning-told : AreAsTold files all lines (lines_of items start) (world_of items start)
    beginning-told = stands-told all files epochs (λ T. false) [] between lines (lines_of items start) first.stands (record {
      ops = λ T e. end-ops T ∙ after-all.stands.kept T e;
      commits = history-texts (lines_of items start) ∙ first.same.commits ∙ ap commits_in (sym first.lines);
    })

-- ---- a run with nothing after it

module _ (servers : ℕ) (files : AllFiles) (epochs : ServerNo → ℕ) where
  pub beginning-as-told : (items more : List Item) → IsReported (items ++ more) (opening servers files epochs)
      → AreAsTold files (events_of (items ++ more)) (lines_of (items ++ more) (opening servers files epochs)) (lines_of items (opening servers files epochs)) (world_of items (opening servers files epochs))
  beginning-as-told items more h = beginning-told servers files epochs items more h [] tt tt [] tt refl (lines_of (items ++ more) (opening servers files epochs)) (sym (append-nil (texts_of (lines_of (items ++ more) (opening servers files epochs)))))
      (run-in-turn files epochs servers (items ++ more) h) (run-follows files epochs servers (items ++ more) h)

  pub run-as-told : (items : List Item) → IsReported items (opening servers files epochs)
      → AreAsTold files (events_of items) (lines_of items (opening servers files epochs)) (lines_of items (opening servers files epochs)) (world_of items (opening servers files epochs))
  run-as-told items h = end-as-told servers files epochs [] items h [] tt tt [] tt refl (lines_of items (opening servers files epochs)) (sym (append-nil (texts_of (lines_of items (opening servers files epochs)))))
      (run-in-turn files epochs servers items h) (run-follows files epochs servers items h)

  -- what a transaction did by its commands is what the world's lines report of it
  pub run-ops : (items : List Item) → IsReported items (opening servers files epochs) → (T : Tid) → operations_of (events_of items) (lines_of items (opening servers files epochs)) T ≡ ops_in (events_of items) T None (world_of items (opening servers files epochs)).lines
  run-ops items h = end-ops servers files epochs [] items h [] tt tt [] tt refl (lines_of items (opening servers files epochs)) (sym (append-nil (texts_of (lines_of items (opening servers files epochs)))))
      (run-in-turn files epochs servers items h) (run-follows files epochs servers items h)
