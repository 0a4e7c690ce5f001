-- No transaction that a run's lines report as aborted or broken is named in them.
use Rattle.jn_system_reports.proofs.Common.{◌≡◌, ◌⊎◌, inl, inr, ℕ, ◌+◌, false, List, [], ◌∷◌, ◌++◌, refl, sym, ◌∙◌, ap, subst, map, list_any, ServerNo, Tid, tid_eq, AllFiles, Text, Line, has_tid, history_of, IsNotNamedWhere, NamesNone, Told, run_atoms, opening_world, World, opening, Step, NextEvent, after, run, IsRun, Printed, FileThere, PageStored, UnitLocked, text_printed, Act, Does, Tells, Shows, Item, steps_in, steps_of, told_by, told_in, told_under, after_item, at_event, world_of, IsReported}
use Rattle.jn_report.specs.declared.line.Text.TheVariants as says
use Rattle.jn_system_reports.specs.Reporting.Reported.{Refuses, lines_of}
use Rattle.jn_system_reports.proofs.Reporting.Lists.{In, in-first, in-second, in-either, each-in}
use Rattle.jn_system_reports.proofs.Reporting.Prints.{each-print}
use Rattle.jn_system_reports.proofs.Reporting.Reached.{Reached, LineFact, named-is, invariant, next-reached, opening-reached}
use Rattle.jn_system_reports.proofs.Reporting.Outcomes.{NeverNamed, not-named}
use Rattle.jn_system_reports.proofs.Reporting.Following.{run-split}
use Rattle.jn_system_reports.proofs.Reporting.Naming.{RunTold, adds, run-told, named-once}

-- a text that no step reports
abbrev pub IsApart : Text → Type 0
IsApart (says.RefusedEvent refusal) = Unit {0}
IsApart (says.Outside s fault) = Unit {0}
IsApart (says.File s f) = Unit {0}
IsApart (says.Page s f p bytes) = Unit {0}
IsApart (says.Locked s u T) = Unit {0}
IsApart text = ⊥

print-apart : (s : ServerNo) (x : Printed) → IsApart (text_printed s x)
print-apart s (FileThere f) = tt
print-apart s (PageStored f p bytes) = tt
print-apart s (UnitLocked u T) = tt

module _ (files : AllFiles) (epochs : ServerNo → ℕ) where
  run-reached : (steps : List Step) (r : World) → Reached files epochs r → IsRun steps r → Reached files epochs (run steps r)
  run-reached [] r h i = h
  run-reached (step ∷ steps) r h i = run-reached steps (after step r) (next-reached files epochs r step i.0 h) i.1

  lines-stay : (steps : List Step) (r : World) → Reached files epochs r → IsRun steps r → (x : Text) → In x r.lines → In x (run steps r).lines
  lines-stay [] r h i x k = k
  lines-stay (step ∷ steps) r h i x k = lines-stay steps (after step r) (next-reached files epochs r step i.0 h) i.1 x (subst (λ l. In x l) (sym (adds files epochs r h step)) (in-first x r.lines (told_by (Does step) r) k))

  acts-in : (acts : List Act) (r : World) → Reached files epochs r → IsRun (steps_in acts) r → (x : Text) → In x (told_in acts r) → IsApart x ⊎ In x (run (steps_in acts) r).lines
  acts-in [] r h i x k = absurd k
  acts-in (Does step ∷ acts) r h i x k = let next = next-reached files epochs r step i.0 h in by next (in-either x (told_by (Does step) r) (told_in acts (after step r)) k) (acts-in acts (after step r) next i.1 x)
    where
      by : Reached files epochs (after step r) → In x (told_by (Does step) r) ⊎ In x (told_in acts (after step r)) → (In x (told_in acts (after step r)) → IsApart x ⊎ In x (run (steps_in acts) (after step r)).lines) → IsApart x ⊎ In x (run (steps_in acts) (after step r)).lines
      by next (inl j) on = inr (lines-stay (steps_in acts) (after step r) next i.1 x (subst (λ l. In x l) (sym (adds files epochs r h step)) (in-second x r.lines (told_by (Does step) r) j)))
      by next (inr j) on = on j
  acts-in (Refuses refusal ∷ acts) r h i x (inl e) = inl (subst IsApart e tt)
  acts-in (Refuses refusal ∷ acts) r h i x (inr k) = acts-in acts r h i x k
  acts-in (Tells s fault ∷ acts) r h i x (inl e) = inl (subst IsApart e tt)
  acts-in (Tells s fault ∷ acts) r h i x (inr k) = acts-in acts r h i x k
  acts-in (Shows s prints ∷ acts) r h i x k = by (in-either x (map (text_printed s) prints) (told_in acts r) k) (acts-in acts r h i x)
    where
      by : In x (map (text_printed s) prints) ⊎ In x (told_in acts r) → (In x (told_in acts r) → IsApart x ⊎ In x (run (steps_in acts) r).lines) → IsApart x ⊎ In x (run (steps_in acts) r).lines
      by (inl j) on = inl (each-in IsApart (map (text_printed s) prints) x (each-print IsApart s (print-apart s) prints) j)
      by (inr j) on = on j

  -- the text of a line
  text-in : (number : ℕ) (texts : List Text) (l : Line) → In l (at_event number texts) → In l.text texts
  text-in number [] l k = absurd k
  text-in number (x ∷ texts) l (inl e) = inl (ap (λ (z : Line). z.text) e)
  text-in number (x ∷ texts) l (inr k) = inr (text-in number texts l k)

  run-append : (a b : List Step) (r : World) → run (a ++ b) r ≡ run b (run a r)
  run-append [] b r = refl
  run-append (step ∷ a) b r = run-append a b (after step r)

  pub lines-in : (items : List Item) (r : World) → Reached files epochs r → IsRun (steps_of items) r → (l : Line) → In l (lines_of items r) → IsApart l.text ⊎ In l.text (world_of items r).lines
  lines-in [] r h i l k = absurd k
  lines-in (item ∷ items) r h i l k = let split = run-split (steps_in item.acts) (steps_of items) (after NextEvent r) i.1 in let next = next-reached files epochs r NextEvent tt h in let then-h = run-reached (steps_in item.acts) (after NextEvent r) next split.0 in
      subst (λ (q : World). IsApart l.text ⊎ In l.text q.lines) (sym (run-append (steps_in item.acts) (steps_of items) (after NextEvent r)))
      (by then-h split.1 (in-either l (at_event (r.event + 1) (told_under item r)) (lines_of items (after_item item r)) k) (acts-in item.acts (after NextEvent r) next split.0 l.text) (lines-in items (after_item item r) then-h split.1 l))
    where
      by : Reached files epochs (after_item item r) → IsRun (steps_of items) (after_item item r) → In l (at_event (r.event + 1) (told_under item r)) ⊎ In l (lines_of items (after_item item r)) → (In l.text (told_under item r) → IsApart l.text ⊎ In l.text (after_item item r).lines)
          → (In l (lines_of items (after_item item r)) → IsApart l.text ⊎ In l.text (world_of items (after_item item r)).lines) → IsApart l.text ⊎ In l.text (world_of items (after_item item r)).lines
      by then-h j (inl a) first on = at (first (text-in (r.event + 1) (told_under item r) l a))
        where
          at : IsApart l.text ⊎ In l.text (after_item item r).lines → IsApart l.text ⊎ In l.text (world_of items (after_item item r)).lines
          at (inl p) = inl p
          at (inr p) = inr (lines-stay (steps_of items) (after_item item r) then-h j l.text p)
      by then-h j (inr b) first on = on b

  names-none : (named : List Tid) (ls : List Line) → ((l : Line) → In l ls → IsNotNamedWhere named l.text) → NamesNone named ls
  names-none named [] h = tt
  names-none named (l ∷ ls) h = (h l (inl refl), names-none named ls (λ z k. h z (inr k)))

  pub run-none : (items : List Item) (servers : ℕ) → IsRun (steps_of items) (opening servers files epochs) → RunTold files epochs items (opening servers files epochs) → NamesNone (history_of (lines_of items (opening servers files epochs))) (lines_of items (opening servers files epochs))
  run-none items servers i t = names-none _ _ (λ l k. by l.text (lines-in items (opening servers files epochs) (opening-reached files epochs servers) i l k))
    where
      unnamed : (T : Tid) → NeverNamed (world_of items (opening servers files epochs)).sent (run_atoms t.reached.atoms (opening_world files epochs)) T → has_tid (history_of (lines_of items (opening servers files epochs))) T ≡ false
      unnamed T h = sym (named-is files epochs (world_of items (opening servers files epochs)) t.reached T ∙ ap (λ l. list_any (λ (U : Tid). tid_eq U T) l) t.commits) ∙ not-named (world_of items (opening servers files epochs)).sent (run_atoms t.reached.atoms (opening_world files epochs)) T (invariant files epochs (world_of items (opening servers files epochs)) t.reached) t.reached.ends h

      fact : (x : Text) → LineFact (world_of items (opening servers files epochs)).sent (run_atoms t.reached.atoms (opening_world files epochs)) x → IsNotNamedWhere (history_of (lines_of items (opening servers files epochs))) x
      fact (says.Aborted c j T cause) h = unnamed T (inl h)
      fact (says.Broke s T u by) h = unnamed T h
      fact _ h = tt

      apart : (x : Text) → IsApart x → IsNotNamedWhere (history_of (lines_of items (opening servers files epochs))) x
      apart (says.Aborted c j T cause) h = absurd h
      apart (says.Broke s T u by) h = absurd h
      apart _ h = tt

      by : (x : Text) → IsApart x ⊎ In x (world_of items (opening servers files epochs)).lines → IsNotNamedWhere (history_of (lines_of items (opening servers files epochs))) x
      by x (inl p) = apart x p
      by x (inr k) = fact x (each-in (LineFact (world_of items (opening servers files epochs)).sent (run_atoms t.reached.atoms (opening_world files epochs))) (world_of items (opening servers files epochs)).lines x t.reached.lines k)

  pub run-outcomes : (items : List Item) (servers : ℕ) → IsReported items (opening servers files epochs) → Told (lines_of items (opening servers files epochs))
  run-outcomes items servers h = let t = run-told files epochs items (opening servers files epochs) (opening-reached files epochs servers) h.steps in record {
    before = t.before;
    once = named-once files epochs items servers t;
    not_lost = run-none items servers h.steps t;
  }
