-- What the lines say up to where the end of a run is cut off.
use Rattle.jn_headline.proofs.Common.{◌≡◌, ℕ, ◌+◌, ◌≤◌, inr, length, Bool, true, false, List, [], ◌∷◌, ◌++◌, refl, sym, ◌∙◌, ap, subst, arith, length-map, ◌&&◌, list_all, ServerNo, AllFiles, Event, AtEvent, Text, Line, lines_at, nothing_asked, Follows, Caused-events, lines_at-outside, World, opening, commits_in, Step, NextEvent, Tell, StopDelivery, StopWork, StopRestart, Dismiss, run, IsRun, Item, events_of, lines_of, world_of, IsReported, told_by_steps, at_end, Each, each-append, items-follow, run-in-turn, run-follows, opening-reached, IsApart, run-outcomes, IsOfEnd, IsFinal, dismissed-told, with-end, IsCalm, texts-more, end-as-told, beginning-told, run-as-told, follows-to-end, is_show, silent-agrees, silent-shown, silent-follows, CutEnd, IsCutEnd, IsTrueSoFar, is_of_end, is_print, cut_lines, OperationsShownSoFar, agrees_as_operations, so_far_as_operations, no-calls}
use Rattle.jn_report.specs.declared.line.Text.TheVariants as says
use Rattle.jn_serial.proofs.InTurn.{AreAtEnd, AreInTurn, turn-to-end}
use Rattle.jn_system_reports.proofs.Causing.Causing.{run-causes}
use Rattle.jn_system_reports.specs.Telling.Agreement.{AreAsTold}
use Rattle.jn_system_reports.proofs.Telling.Tellings.{texts_of}
use Rattle.jn_system_reports.proofs.Telling.Quiet.{AreDumb}
use Rattle.jn_system_reports.proofs.Showing.Shows.{shown-with, run-shown}
use Rattle.jn_headline.proofs.WholeReports.Outcomes.{told-with}

first-of : (a b : Bool) → (a && b) ≡ true → a ≡ true
first-of a b k = grind arith

second-of : (a b : Bool) → (a && b) ≡ true → b ≡ true
second-of a b k = grind arith

-- ---- its steps

of-end : (step : Step) → is_of_end step ≡ true → IsFinal step × IsCalm step
of-end NextEvent h = absurd (cc h)
of-end (Tell c command) h = absurd (cc h)
of-end (StopDelivery k room made) h = absurd (cc h)
of-end (StopWork s room made) h = absurd (cc h)
of-end (StopRestart s raised) h = absurd (cc h)
of-end _ h = (tt, tt)

are-of-end : (steps : List Step) → list_all is_of_end steps ≡ true → Each IsFinal steps × Each IsCalm steps
are-of-end [] h = (tt, tt)
are-of-end (step ∷ steps) h = let one = of-end step (first-of (is_of_end step) (list_all is_of_end steps) h) in let more = are-of-end steps (second-of (is_of_end step) (list_all is_of_end steps) h) in
    ((one.0, more.0), (one.1, more.1))

-- ---- what is printed

pub record Prints (texts : List Text) : Type 0 where
  of_end : Each IsOfEnd texts
  apart : Each IsApart texts
  dumb : AreDumb texts
  names : commits_in texts ≡ []

prints-more : (text : Text) (texts : List Text) → is_print text ≡ true → Prints texts → Prints (text ∷ texts)
prints-more (says.File s f) texts e h = record { of_end = ((refl, refl), h.of_end); apart = (tt, h.apart); dumb = (tt, h.dumb); names = h.names }
prints-more (says.Page s f p bytes) texts e h = record { of_end = ((refl, refl), h.of_end); apart = (tt, h.apart); dumb = (tt, h.dumb); names = h.names }
prints-more (says.Locked s u t) texts e h = record { of_end = ((refl, refl), h.of_end); apart = (tt, h.apart); dumb = (tt, h.dumb); names = h.names }
prints-more _ texts e h = absurd (cc e)

are-prints : (texts : List Text) → list_all is_print texts ≡ true → Prints texts
are-prints [] h = record { of_end = tt; apart = tt; dumb = tt; names = refl }
are-prints (text ∷ texts) h = prints-more text texts (first-of (is_print text) (list_all is_print texts) h) (are-prints texts (second-of (is_print text) (list_all is_print texts) h))

-- ---- lines at the end

texts-at-end : (texts : List Text) → texts_of (at_end texts) ≡ texts
texts-at-end [] = refl
texts-at-end (x ∷ texts) = ap (λ l. x ∷ l) (texts-at-end texts)

are-at-end : (texts : List Text) → AreAtEnd (at_end texts)
are-at-end [] = tt
are-at-end (x ∷ texts) = (refl, are-at-end texts)

-- ---- a run that is cut off within its end

module _ (servers : ℕ) (files : AllFiles) (epochs : ServerNo → ℕ) (items : List Item) (e : CutEnd) (h : IsReported items (opening servers files epochs)) (k : IsCutEnd e (world_of items (opening servers files epochs))) where
  abbrev start : World
  start = opening servers files epochs

  abbrev w : World
  w = world_of items start

  abbrev steps : List Step
  steps = Dismiss ∷ e.steps

  abbrev texts : List Text
  texts = told_by_steps steps w ++ e.printed

  abbrev lines : List Line
  lines = cut_lines items e start

  of-steps : Each IsFinal e.steps × Each IsCalm e.steps
  of-steps = are-of-end e.steps k.of_end

  calm : Each IsCalm steps
  calm = (tt, of-steps.1)

  prints : Prints e.printed
  prints = are-prints e.printed k.printed

  ends : Each IsOfEnd (told_by_steps (Dismiss ∷ e.steps) (world_of items (opening servers files epochs)) ++ e.printed)
  ends = each-append IsOfEnd (told_by_steps steps w) e.printed (dismissed-told e.steps w of-steps.0) prints.of_end

  same-texts : texts_of lines ≡ texts_of (lines_of items start) ++ (told_by_steps steps w ++ e.printed)
  same-texts = texts-more (lines_of items start) (at_end texts) ∙ ap (λ l. texts_of (lines_of items start) ++ l) (texts-at-end texts)

  turn : AreInTurn 1 (events_of items) lines
  turn = turn-to-end 1 (events_of items) (lines_of items start) (at_end texts) (run-in-turn files epochs servers items h) (are-at-end texts)

  follows : Follows (events_of items) lines
  follows = follows-to-end (events_of items) (lines_of items start) texts ends (run-follows files epochs servers items h)

  as-told : AreAsTold files (events_of items) lines lines (run steps w)
  as-told = end-as-told servers files epochs [] items h steps k.steps calm e.printed prints.dumb prints.names lines same-texts turn follows

  shown : OperationsShownSoFar files (events_of items) (cut_lines items e (opening servers files epochs))
  shown = shown-with files epochs servers items h lines texts refl
      (λ before later q. subst (λ l. (g : IsReported l start) (j : IsRun steps (world_of l start)) → texts_of lines ≡ texts_of (lines_of l start) ++ (told_by_steps steps (world_of l start) ++ e.printed) → AreInTurn 1 (events_of l) lines → Follows (events_of l) lines → AreAsTold files (events_of l) lines (lines_of before start) (world_of before start)) (sym q)
      (λ g j x t f. beginning-told servers files epochs before later g steps j calm e.printed prints.dumb prints.names lines x t f) h k.steps same-texts turn follows)

  pub cut-true : IsTrueSoFar files (events_of items) (events_of items) (cut_lines items e (opening servers files epochs))
  cut-true = record {
    agrees = (agrees_as_operations files (events_of items) (cut_lines items e (opening servers files epochs)) _ (no-calls items h.under)).1 as-told.agrees;
    shown = (so_far_as_operations files (events_of items) (cut_lines items e (opening servers files epochs)) (no-calls items h.under)).1 shown;
    told = told-with files epochs servers items h steps k.steps e.printed prints.apart ends;
    caused = with-end files epochs servers items texts h ends;
    follows = follows;
  }

-- ---- and within its events

pub run-true : (servers : ℕ) (files : AllFiles) (epochs : ServerNo → ℕ) (items : List Item) → IsReported items (opening servers files epochs) → IsTrueSoFar files (events_of items) (events_of items) (lines_of items (opening servers files epochs))
run-true servers files epochs items h = record {
  agrees = (agrees_as_operations files (events_of items) (lines_of items (opening servers files epochs)) _ (no-calls items h.under)).1 (run-as-told servers files epochs items h).agrees;
  shown = (so_far_as_operations files (events_of items) (lines_of items (opening servers files epochs)) (no-calls items h.under)).1 (run-shown servers files epochs items h);
  told = run-outcomes files epochs items servers h;
  caused = run-causes files epochs servers items h;
  follows = run-follows files epochs servers items h;
}

module _ (servers : ℕ) (files : AllFiles) (epochs : ServerNo → ℕ) (items : List Item) (e : Event) (h : IsReported items (opening servers files epochs)) (other : is_show e ≡ false) where
  abbrev ls : List Line
  ls = lines_of items (opening servers files epochs)

  silent : lines_at (AtEvent (1 + length (events_of items))) (lines_of items (opening servers files epochs)) ≡ []
  silent = lines_at-outside 1 (1 + length items) (1 + length (events_of items)) ls (items-follow files epochs items (opening servers files epochs) (opening-reached files epochs servers) h.steps h.under nothing_asked (λ c. refl)).within (inr (past (length items) (length (events_of items)) (length-map items (λ (item : Item). item.event))))
    where
      past : (n m : ℕ) → m ≡ n → 1 + n ≤ 1 + m
      past n m q = omega (arith, q)

  -- where nothing is reported of the event that comes next
  pub next-true : IsTrueSoFar files (events_of items ++ e ∷ []) (events_of items ++ e ∷ []) (lines_of items (opening servers files epochs))
  next-true = let t = run-true servers files epochs items h in record {
    agrees = silent-agrees (events_of items) e ls t.follows files t.agrees;
    shown = silent-shown (events_of items) e ls t.follows files other t.shown;
    told = t.told;
    caused = Caused-events (events_of items) (e ∷ []) ls t.caused;
    follows = silent-follows (events_of items) e ls t.follows silent;
  }
