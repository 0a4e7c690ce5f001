-- Each show of a run prints what the commits before it leave.
use Rattle.jn_system_reports.proofs.Common.{◌≡◌, ℕ, zero, suc, ◌+◌, ◌≤◌, Bool, true, false, List, [], ◌∷◌, ◌++◌, append-nil, length, Some, None, refl, sym, ◌∙◌, ap, subst, arith, ◌&&◌, map, list_all, ServerNo, FileNo, server_eq, server_tells, AllFiles, Event, Show, AtEvent, Text, Line, lines_at, lines_before, says_it, event_at, history_of, replay_operations, IsAsIn, prints_file, is_no_show, ShowsFiles, OperationsShownSoFar, nothing_asked, AreWithin, AreWithin-wider, lines_at-append, lines_before-append, lines_before-later, lines_before-whole, World, opening, NextEvent, after, IsRun, Printed, text_printed, IsPrinted, Act, Does, Tells, Shows, Item, events_of, steps_in, steps_of, world_of, told_in, told_under, after_item, at_event, may_act, IsUnder, AreUnder, GoesOver, IsShow, IsShown, AreShown, IsReported, at_end, AreAsTold}
use Rattle.jn_system_reports.specs.Reporting.Reported.{Refuses, lines_of}
use Rattle.jn_system_reports.proofs.Reporting.Reached.{Reached, next-reached, opening-reached}
use Rattle.jn_system_reports.proofs.Reporting.Fitting.{asked_of}
use Rattle.jn_system_reports.proofs.Reporting.Following.{event-follows, items-follow, lines-here, run-split, texts-within}
use Rattle.jn_system_reports.proofs.Telling.Reports.{steps-append, steps-more, under-split, lines-more, beginning-as-told}
use Rattle.jn_system_reports.proofs.Reporting.Lists.{In}
use Rattle.jn_system_reports.proofs.Showing.Prints.{AreSame, says-it, said-it, all-as, in-texts, from-texts, is-there, shows-files}

not-both : (b : Bool) → b ≡ true → b ≡ false → ⊥
not-both b e f = grind arith

-- ---- the acts of a show

module _ (n : ℕ) (files : AllFiles) (s : ServerNo) (w : World) (same : AreSame files s w) where
  abbrev Shown : List Text → Type 0
  Shown texts = ShowsFiles files s (at_event n texts)

  module _ (prints : List Printed) (h : IsPrinted s w prints) where
    abbrev texts : List Text
    texts = map (text_printed s) prints

    there : (y : Text) → In y texts → IsAsIn files y
    there y k = let x = from-texts s prints y k in subst (IsAsIn files) x.text (is-there files s w same prints h x.print x.is_in)

    only : (f : FileNo) → says_it (prints_file s f) (at_event n texts) ≡ true → (x : Printed) × (In x prints × (prints_file s f (text_printed s x) ≡ true))
    only f e = let y = said-it (AtEvent n) (prints_file s f) texts e in let x = from-texts s prints y.text y.is_in in (x.print, (x.is_in, ap (prints_file s f) x.text ∙ y.passes))

    print-shown : Shown (map (text_printed s) prints)
    print-shown = shows-files files s w same prints h (at_event n texts) (all-as files (AtEvent n) texts there) (λ test x k e. says-it (AtEvent n) test texts (text_printed s x) (in-texts s prints x k) e) only

  first-of : (a b : Bool) → (a && b) ≡ true → a ≡ true
  first-of a b k = grind arith

  second-of : (a b : Bool) → (a && b) ≡ true → b ≡ true
  second-of a b k = grind arith

  same-server : (a b : ServerNo) → server_eq a b ≡ true → a ≡ b
  same-server a b h = grind (arith, server_tells a b)

  goes-over : (acts : List Act) → list_all (may_act (Show s)) acts ≡ true → GoesOver s w acts → says_it is_no_show (at_event n (told_in acts w)) ≡ false → Shown (told_in acts w)
  goes-over (Tells t fault ∷ acts) under h silent = let on = goes-over acts (second-of _ _ under) h silent in record { printed = (tt, on.printed); no_other_file = on.no_other_file; no_other_block = on.no_other_block }
  goes-over (Shows t prints ∷ []) under h silent = subst (λ (q : ServerNo). Shown (map (text_printed q) prints ++ [])) (same-server s t (first-of (server_eq s t) true under)) (subst Shown (sym (append-nil (map (text_printed s) prints))) (print-shown prints h))
  goes-over (Does step ∷ []) under h silent = absurd (not-both true refl (subst (λ (l : List Text). says_it is_no_show (at_event n (l ++ [])) ≡ false) h silent))
  goes-over (Does step ∷ act ∷ acts) under h silent = absurd h
  goes-over (Shows t prints ∷ act ∷ acts) under h silent = absurd h
  goes-over (Refuses refusal ∷ acts) under h silent = absurd h
  goes-over [] under h silent = absurd h

  show-shown : (acts : List Act) → list_all (may_act (Show s)) acts ≡ true → IsShow s w acts → says_it is_no_show (at_event n (told_in acts w)) ≡ false → Shown (told_in acts w)
  show-shown (Refuses refusal ∷ []) under h silent = absurd (not-both true refl silent)
  show-shown (Refuses refusal ∷ act ∷ acts) under h silent = absurd h
  show-shown (Tells t fault ∷ acts) under h silent = goes-over (Tells t fault ∷ acts) under h silent
  show-shown (Shows t prints ∷ acts) under h silent = goes-over (Shows t prints ∷ acts) under h silent
  show-shown (Does step ∷ acts) under h silent = goes-over (Does step ∷ acts) under h silent
  show-shown [] under h silent = absurd h

-- ---- the item of an event

record Found (items : List Item) (i : ℕ) (e : Event) : Type 0 where
  before : List Item
  item : Item
  rest : List Item
  is : items ≡ before ++ item ∷ rest
  event : item.event ≡ e
  place : i ≡ length before + 1

find : (items : List Item) (i : ℕ) (e : Event) → event_at (events_of items) i ≡ Some e → Found items i e
find [] i e h = absurd (none h)
  where
    none : None ≡ Some e → ⊥
    none q = cc
find (item ∷ items) zero e h = absurd (none h)
  where
    none : None ≡ Some e → ⊥
    none q = cc
find (item ∷ items) (suc zero) e h = record { before = []; item = item; rest = items; is = refl; event = some h; place = refl }
  where
    some : {a b : Event} → Some a ≡ Some b → a ≡ b
    some q = cc
find (item ∷ items) (suc (suc n)) e h = let k = find items (suc n) e h in record { before = item ∷ k.before; item = k.item; rest = k.rest; is = ap (λ l. item ∷ l) k.is; event = k.event; place = up n (length k.before) k.place }
  where
    up : (n m : ℕ) → suc n ≡ m + 1 → suc (suc n) ≡ suc m + 1
    up n m q = omega (arith, q)

-- ---- a run

shown-split : (before : List Item) (item : Item) (rest : List Item) (w : World) → AreShown (before ++ item ∷ rest) w → IsShown item.event (after NextEvent (world_of before w)) item.acts
shown-split [] item rest w h = h.0
shown-split (x ∷ before) item rest w h = subst (λ (z : World). IsShown item.event (after NextEvent z) item.acts) (sym (steps-append (steps_in x.acts) (steps_of before) (after NextEvent w))) (shown-split before item rest (after_item x w) h.1)

-- a show under this event prints what the commits before it leave
abbrev ShowsAt : AllFiles → List Event → List Line → ℕ → ServerNo → Type 0
ShowsAt files events lines i s = says_it is_no_show (lines_at (AtEvent i) lines) ≡ false → ShowsFiles (replay_operations files events lines (history_of (lines_before (AtEvent i) lines))) s (lines_at (AtEvent i) lines)

no-end-at : (n : ℕ) (texts : List Text) → lines_at (AtEvent n) (at_end texts) ≡ []
no-end-at n [] = refl
no-end-at n (x ∷ texts) = no-end-at n texts

no-end-before : (n : ℕ) (texts : List Text) → lines_before (AtEvent n) (at_end texts) ≡ []
no-end-before n [] = refl
no-end-before n (x ∷ texts) = no-end-before n texts

module _ (files : AllFiles) (epochs : ServerNo → ℕ) where
  -- after these items
  record Then (items : List Item) (r : World) : Type 0 where
    reached : Reached files epochs (world_of items r)
    event : (world_of items r).event ≡ r.event + length items

  goes-on : (items : List Item) (r : World) → Reached files epochs r → IsRun (steps_of items) r → AreUnder items → Then items r
  goes-on [] r h i under = record { reached = h; event = nothing r.event }
    where
      nothing : (n : ℕ) → n ≡ n + 0
      nothing n = omega arith
  goes-on (item ∷ items) r h i under = let split = run-split (steps_in item.acts) (steps_of items) (after NextEvent r) i.1 in
      let next = event-follows files epochs (λ c. asked_of (r.clients c).outstanding) item.event item.acts (after NextEvent r) (next-reached files epochs r NextEvent tt h) split.0 (λ c. refl) under.0 in
      let on = goes-on items (after_item item r) next.reached split.1 under.1 in let together = steps-append (steps_in item.acts) (steps_of items) (after NextEvent r) in
      record { reached = subst (λ (z : World). Reached files epochs z) (sym together) on.reached; event = ap (λ (z : World). z.event) together ∙ on.event ∙ ap (λ n. n + length items) next.same_event ∙ up r.event (length items) }
    where
      up : (n m : ℕ) → n + 1 + m ≡ n + suc m
      up n m = omega arith

  module _ (servers : ℕ) (before : List Item) (item : Item) (rest : List Item) (h : IsReported (before ++ item ∷ rest) (opening servers files epochs)) (s : ServerNo) (show : item.event ≡ Show s)
      (lines : List Line) (tail : List Text) (is : lines ≡ lines_of (before ++ item ∷ rest) (opening servers files epochs) ++ at_end tail)
      (as-told : AreAsTold files (events_of (before ++ item ∷ rest)) lines (lines_of before (opening servers files epochs)) (world_of before (opening servers files epochs))) where
    abbrev start : World
    start = opening servers files epochs

    abbrev r : World
    r = world_of before start

    abbrev events : List Event
    events = events_of (before ++ item ∷ rest)

    abbrev here : List Line
    here = at_event (r.event + 1) (told_under item r)

    split : IsRun (steps_of before) start × IsRun (steps_of (item ∷ rest)) r
    split = run-split (steps_of before) (steps_of (item ∷ rest)) start (subst (λ l. IsRun l start) (steps-more before (item ∷ rest)) h.steps)

    under : AreUnder before × AreUnder (item ∷ rest)
    under = under-split before (item ∷ rest) h.under

    reached : Then before start
    reached = goes-on before start (opening-reached files epochs servers) split.0 under.0

    old : AreWithin 0 (r.event + 1) (lines_of before start)
    old = AreWithin-wider 1 (1 + length before) 0 (r.event + 1) (lines_of before start) (least 1) (most r.event (length before) reached.event) (items-follow files epochs before start (opening-reached files epochs servers) split.0 under.0 nothing_asked (λ c. refl)).within
      where
        least : (n : ℕ) → 0 ≤ n
        least n = omega arith

        most : (n m : ℕ) → n ≡ 0 + m → 1 + m ≤ n + 1
        most n m e = omega (arith, e)

    later : AreWithin (r.event + 1) (r.event + 1 + length (item ∷ rest)) (lines_of (item ∷ rest) r)
    later = (items-follow files epochs (item ∷ rest) r reached.reached split.1 under.1 (λ c. asked_of (r.clients c).outstanding) (λ c. refl)).within

    -- those of the items after it
    latest : AreWithin (r.event + 1 + 1) (r.event + 1 + 1 + length rest) (lines_of rest (after_item item r))
    latest = let parts = run-split (steps_in item.acts) (steps_of rest) (after NextEvent r) split.1.1 in
        let next = event-follows files epochs (λ c. asked_of (r.clients c).outstanding) item.event item.acts (after NextEvent r) (next-reached files epochs r NextEvent tt reached.reached) parts.0 (λ c. refl) under.1.0 in
        subst (λ n. AreWithin (n + 1) (n + 1 + length rest) (lines_of rest (after_item item r))) next.same_event
        (items-follow files epochs rest (after_item item r) next.reached parts.1 under.1.1 (λ c. asked_of ((after_item item r).clients c).outstanding) (λ c. refl)).within

    is-here : lines_at (AtEvent (r.event + 1)) lines ≡ here
    is-here = ap (λ l. lines_at (AtEvent (r.event + 1)) l) is ∙ lines_at-append (AtEvent (r.event + 1)) (lines_of (before ++ item ∷ rest) start) (at_end tail)
        ∙ ap (λ l. lines_at (AtEvent (r.event + 1)) (lines_of (before ++ item ∷ rest) start) ++ l) (no-end-at (r.event + 1) tail) ∙ append-nil (lines_at (AtEvent (r.event + 1)) (lines_of (before ++ item ∷ rest) start))
        ∙ ap (λ l. lines_at (AtEvent (r.event + 1)) l) (lines-more before (item ∷ rest) start)
        ∙ lines-here (r.event + 1) (r.event + 1 + 1 + length rest) (lines_of before start) here (lines_of rest (after_item item r)) old (texts-within (r.event + 1) (told_under item r)) latest

    is-before : lines_before (AtEvent (r.event + 1)) lines ≡ lines_of before start
    is-before = ap (λ l. lines_before (AtEvent (r.event + 1)) l) is ∙ lines_before-append (AtEvent (r.event + 1)) (lines_of (before ++ item ∷ rest) start) (at_end tail)
        ∙ ap (λ l. lines_before (AtEvent (r.event + 1)) (lines_of (before ++ item ∷ rest) start) ++ l) (no-end-before (r.event + 1) tail) ∙ append-nil (lines_before (AtEvent (r.event + 1)) (lines_of (before ++ item ∷ rest) start))
        ∙ ap (λ l. lines_before (AtEvent (r.event + 1)) l) (lines-more before (item ∷ rest) start) ∙ lines_before-append (AtEvent (r.event + 1)) (lines_of before start) (lines_of (item ∷ rest) r)
        ∙ ap (λ l. lines_before (AtEvent (r.event + 1)) (lines_of before start) ++ l) (lines_before-later (r.event + 1) (r.event + 1 + length (item ∷ rest)) (r.event + 1) (lines_of (item ∷ rest) r) later (self (r.event + 1)))
        ∙ append-nil (lines_before (AtEvent (r.event + 1)) (lines_of before start)) ∙ lines_before-whole 0 (r.event + 1) (lines_of before start) old
      where
        self : (n : ℕ) → n ≤ n
        self n = omega arith

    shown-here : says_it is_no_show here ≡ false → ShowsFiles (replay_operations files events lines (history_of (lines_of before start))) s here
    shown-here silent = by item.event show under.1.0 (shown-split before item rest start h.shows)
      where
        by : (e : Event) → e ≡ Show s → IsUnder e item.acts → IsShown e (after NextEvent r) item.acts → ShowsFiles (replay_operations files events lines (history_of (lines_of before start))) s here
        by e is u k = show-shown (r.event + 1) (replay_operations files events lines (history_of (lines_of before start))) s (after NextEvent r) (as-told.unlocked s) item.acts (subst (λ (d : Event). IsUnder d item.acts) is u) (subst (λ (d : Event). IsShown d (after NextEvent r) item.acts) is k) silent

    shown-at : (i : ℕ) → i ≡ length before + 1 → ShowsAt files events lines i s
    shown-at i e = subst (λ j. ShowsAt files events lines j s) (ap (λ n. n + 1) reached.event ∙ nothing (length before) ∙ sym e)
        (λ silent. subst (λ l. ShowsFiles (replay_operations files events lines (history_of l)) s (lines_at (AtEvent (r.event + 1)) lines)) (sym is-before)
        (subst (λ l. ShowsFiles (replay_operations files events lines (history_of (lines_of before start))) s l) (sym is-here) (shown-here (subst (λ l. says_it is_no_show l ≡ false) is-here silent))))
      where
        nothing : (n : ℕ) → 0 + n + 1 ≡ n + 1
        nothing n = omega arith

  -- the shows of a run, by its lines with some that stand at its end
  pub shown-with : (servers : ℕ) (items : List Item) (h : IsReported items (opening servers files epochs)) (lines : List Line) (tail : List Text) → lines ≡ lines_of items (opening servers files epochs) ++ at_end tail
      → ((before later : List Item) → items ≡ before ++ later → AreAsTold files (events_of items) lines (lines_of before (opening servers files epochs)) (world_of before (opening servers files epochs))) → OperationsShownSoFar files (events_of items) lines
  shown-with servers items h lines tail is told i s e = let f = find items i (Show s) e in
      subst (λ l. IsReported l start → lines ≡ lines_of l start ++ at_end tail → AreAsTold files (events_of l) lines (lines_of f.before start) (world_of f.before start) → ShowsAt files (events_of l) lines i s) (sym f.is)
      (λ k q a. shown-at servers f.before f.item f.rest k s f.event lines tail q a i f.place) h is (told f.before (f.item ∷ f.rest) f.is)
    where
      start : World
      start = opening servers files epochs

pub run-shown : (servers : ℕ) (files : AllFiles) (epochs : ServerNo → ℕ) (items : List Item) → IsReported items (opening servers files epochs) → OperationsShownSoFar files (events_of items) (lines_of items (opening servers files epochs))
run-shown servers files epochs items h = shown-with files epochs servers items h (lines_of items start) [] (sym (append-nil (lines_of items start)))
    (λ before later e. subst (λ l. IsReported l start → AreAsTold files (events_of l) (lines_of l start) (lines_of before start) (world_of before start)) (sym e) (beginning-as-told servers files epochs before later) h)
  where
    start : World
    start = opening servers files epochs
