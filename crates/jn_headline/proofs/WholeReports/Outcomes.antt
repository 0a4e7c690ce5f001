-- What is reported of outcomes, by all lines of a run: its last world says what is named.
use Rattle.jn_headline.proofs.Common.{◌≡◌, ◌⊎◌, inl, inr, ℕ, ◌+◌, false, List, [], ◌∷◌, ◌++◌, append-nil, append_assoc, length, refl, sym, ◌∙◌, ap, subst, arith, map, ServerNo, Tid, AllFiles, Text, Line, commit_in, has_tid, history_of, is_answer, World, opening, committed_in, commits_in, Step, after, run, IsRun, Printed, FileThere, PageStored, UnitLocked, text_printed, Does, Item, told_by, at_event, lines_of, world_of, IsReported, Ending, IsEnding, steps_at_end, told_by_steps, texts_from, at_end, counted, lines_to_end, In, Each, in-first, in-second, in-either, each-in, each-append, Reached, LineFact, named-is, invariant, next-reached, opening-reached, IsApart, lines-in, IsOfEnd, end-told}
use Rattle.jn_report.specs.declared.line.Text.TheVariants as says
use Rattle.jn_serial.proofs.Orders.{NamesNone-append}
use Rattle.jn_serial.specs.Told.{IsNamedWhere, NamesBefore, NamesOnce, IsNotNamedWhere, NamesNone, Told}
use Rattle.jn_system.specs.SmallSteps.World.{World as Machine}
use Rattle.jn_system.specs.SmallSteps.Steps.{run as run_atoms, opening_world}
use Rattle.jn_system.proofs.SmallSteps.History.{in_order}
use Rattle.jn_system_order.proofs.Mirroring.Mirrored.{commits-more}
use Rattle.jn_system_reports.proofs.Reporting.Prints.{each-print}
use Rattle.jn_system_reports.proofs.Reporting.Outcomes.{NeverNamed, not-named}
use Rattle.jn_system_reports.proofs.Reporting.Naming.{RunTold, adds, once-more, same-history, history-more, before-more, run-told}

-- ---- lines at the end

history-at-end : (texts : List Text) → history_of (at_end texts) ≡ commits_in texts
history-at-end texts = by texts ∙ same-history 0 texts
  where
    by : (xs : List Text) → history_of (at_end xs) ≡ history_of (at_event 0 xs)
    by [] = refl
    by (x ∷ xs) = ap (λ l. commit_in x ++ l) (by xs)

text-in : (texts : List Text) (l : Line) → In l (at_end texts) → In l.text texts
text-in [] l k = absurd k
text-in (x ∷ texts) l (inl e) = inl (ap (λ (z : Line). z.text) e)
text-in (x ∷ texts) l (inr k) = inr (text-in texts l k)

-- none acknowledges a commit
before-end : (named : List Tid) (texts : List Text) → Each IsOfEnd texts → NamesBefore named (at_end texts)
before-end named [] h = tt
before-end named (x ∷ texts) h = (one x h.0.1, before-end (named ++ commit_in x) texts h.1)
  where
    one : (text : Text) → is_answer text ≡ false → IsNamedWhere named text
    one (says.Committed c j T) e = grind arith
    one _ e = tt

-- ---- what servers print

prints-apart : (first : ℕ) (prints : List (List Printed)) → Each IsApart (texts_from first prints)
prints-apart first [] = tt
prints-apart first (x ∷ prints) = let s : ServerNo = record { 0 = first } in each-append IsApart (map (text_printed s) x) (texts_from (first + 1) prints) (each-print IsApart s (one s) x) (prints-apart (first + 1) prints)
  where
    one : (s : ServerNo) (x : Printed) → IsApart (text_printed s x)
    one s (FileThere f) = tt
    one s (PageStored f p bytes) = tt
    one s (UnitLocked u T) = tt

apart-names : (texts : List Text) → Each IsApart texts → commits_in texts ≡ []
apart-names [] h = refl
apart-names (x ∷ texts) h = ap (λ l. l ++ commits_in texts) (one x h.0) ∙ apart-names texts h.1
  where
    one : (text : Text) → IsApart text → committed_in text ≡ []
    one (says.Commit T) k = absurd k
    one _ k = refl

-- ---- the count of commits

counted-told : (ls : List Line) → Told ls → Told (counted ls)
counted-told ls h = record {
  before = before-more [] ls last h.before (tt, tt);
  once = subst NamesOnce same h.once;
  not_lost = subst (λ named. NamesNone named (ls ++ last)) same (NamesNone-append (history_of ls) ls last h.not_lost (tt, tt));
}
  where
    last : List Line
    last = at_end (says.Commits (length (history_of ls)) ∷ [])

    same : history_of ls ≡ history_of (ls ++ last)
    same = sym (history-more ls last ∙ append-nil (history_of ls))

-- ---- the steps of the end

module _ (files : AllFiles) (epochs : ServerNo → ℕ) where
  record RunsTo (steps : List Step) (r : World) : Type 0 where
    reached : Reached files epochs (run steps r)
    then_lines : (run steps r).lines ≡ r.lines ++ told_by_steps steps r

  runs-to : (steps : List Step) (r : World) → Reached files epochs r → IsRun steps r → RunsTo steps r
  runs-to [] r h i = record { reached = h; then_lines = sym (append-nil r.lines) }
  runs-to (step ∷ steps) r h i = let k = runs-to steps (after step r) (next-reached files epochs r step i.0 h) i.1 in record {
    reached = k.reached;
    then_lines = k.then_lines ∙ ap (λ l. l ++ told_by_steps steps (after step r)) (adds files epochs r h step) ∙ append_assoc r.lines (told_by (Does step) r) (told_by_steps steps (after step r));
  }

  -- the lines of a run, with those of steps after it and more that no step reports
  module _ (servers : ℕ) (items : List Item) (h : IsReported items (opening servers files epochs)) (steps : List Step) (i : IsRun steps (world_of items (opening servers files epochs)))
      (more : List Text) (apart : Each IsApart more) (ends : Each IsOfEnd (told_by_steps steps (world_of items (opening servers files epochs)) ++ more)) where
    abbrev start : World
    start = opening servers files epochs

    abbrev w : World
    w = world_of items start

    abbrev q : World
    q = run steps w

    abbrev told : List Text
    told = told_by_steps steps w

    abbrev ls : List Line
    ls = lines_of items start

    abbrev named : List Tid
    named = history_of (ls ++ at_end (told ++ more))

    t : RunTold files epochs items start
    t = run-told files epochs items start (opening-reached files epochs servers) h.steps

    z : RunsTo steps w
    z = runs-to steps w t.reached i

    abbrev machine : Machine
    machine = run_atoms z.reached.atoms (opening_world files epochs)

    -- the lines name what the last world's lines name
    history : named ≡ commits_in q.lines
    history = history-more ls (at_end (told ++ more))
        ∙ ap (λ l. history_of ls ++ l) (history-at-end (told ++ more) ∙ commits-more told more ∙ ap (λ l. commits_in told ++ l) (apart-names more apart) ∙ append-nil (commits_in told))
        ∙ ap (λ l. l ++ commits_in told) (sym t.commits) ∙ sym (commits-more w.lines told) ∙ ap commits_in (sym z.then_lines)

    -- what is reported aborted or broken isn't among them
    unnamed : (T : Tid) → NeverNamed q.sent machine T → has_tid named T ≡ false
    unnamed T n = ap (λ l. has_tid l T) history ∙ sym (named-is files epochs q z.reached T) ∙ not-named q.sent machine T (invariant files epochs q z.reached) z.reached.ends n

    not-among : (x : Text) → IsApart x ⊎ In x q.lines → IsNotNamedWhere named x
    not-among x (inl p) = printed x p
      where
        printed : (x : Text) → IsApart x → IsNotNamedWhere named x
        printed (says.Aborted c j T cause) p = absurd p
        printed (says.Broke s T u by) p = absurd p
        printed _ p = tt
    not-among x (inr j) = fact x (each-in (LineFact q.sent machine) q.lines x z.reached.lines j)
      where
        fact : (x : Text) → LineFact q.sent machine x → IsNotNamedWhere named x
        fact (says.Aborted c j T cause) f = unnamed T (inl f)
        fact (says.Broke s T u by) f = unnamed T f
        fact _ f = tt

    in-last : (x : Text) → In x w.lines ⊎ In x told → In x q.lines
    in-last x (inl j) = subst (λ l. In x l) (sym z.then_lines) (in-first x w.lines told j)
    in-last x (inr j) = subst (λ l. In x l) (sym z.then_lines) (in-second x w.lines told j)

    of-run : (x : Text) → IsApart x ⊎ In x w.lines → IsApart x ⊎ In x q.lines
    of-run x (inl p) = inl p
    of-run x (inr j) = inr (in-last x (inl j))

    of-end : (x : Text) → In x told ⊎ In x more → IsApart x ⊎ In x q.lines
    of-end x (inl j) = inr (in-last x (inr j))
    of-end x (inr j) = inl (each-in IsApart more x apart j)

    names-none : (lines : List Line) → ((l : Line) → In l lines → IsNotNamedWhere named l.text) → NamesNone named lines
    names-none [] f = tt
    names-none (l ∷ lines) f = (f l (inl refl), names-none lines (λ m j. f m (inr j)))

    among : (l : Line) → In l ls ⊎ In l (at_end (told ++ more)) → IsNotNamedWhere named l.text
    among l (inl j) = not-among l.text (of-run l.text (lines-in files epochs items start (opening-reached files epochs servers) h.steps l j))
    among l (inr j) = not-among l.text (of-end l.text (in-either l.text told more (text-in (told ++ more) l j)))

    pub told-with : Told (lines_of items (opening servers files epochs) ++ at_end (told_by_steps steps (world_of items (opening servers files epochs)) ++ more))
    told-with = record {
      before = before-more [] ls (at_end (told ++ more)) t.before (before-end (history_of ls) (told ++ more) ends);
      once = subst NamesOnce (z.reached.mirrors.commits ∙ sym history) (once-more _ (in_order files epochs z.reached.atoms z.reached.may).once);
      not_lost = names-none (ls ++ at_end (told ++ more)) (λ l j. among l (in-either l ls (at_end (told ++ more)) j));
    }

  pub told-to-end : (servers : ℕ) (items : List Item) (e : Ending) → IsReported items (opening servers files epochs) → IsEnding servers e (world_of items (opening servers files epochs)) → Told (lines_to_end servers items e (opening servers files epochs))
  told-to-end servers items e h k = counted-told _ (told-with servers items h (steps_at_end servers e) k.steps (texts_from 0 e.prints) (prints-apart 0 e.prints) (end-told servers e (world_of items (opening servers files epochs)) k.settling))
