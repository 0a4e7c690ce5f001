-- The end of a run prints what all commits leave.
use Rattle.jn_system_reports.proofs.Common.{◌≡◌, ◌⊎◌, inl, inr, ℕ, suc, ◌+◌, ◌≤◌, ◌<◌, Bool, true, false, List, [], ◌∷◌, ◌++◌, append-nil, append_assoc, length, Some, None, refl, sym, ◌∙◌, ap, subst, arith, ◌&&◌, map, nat_lt, nat_tests, list_all, ServerNo, FileNo, LockUnit, File, Block, server_eq, file_eq, server_tells, AllFiles, AtEnd, Text, Line, lines_at, says_it, history_of, replay_operations, IsAsIn, AllAsIn, prints_file, is_locked, ShowsFiles, OperationsShownSoFar, OperationsShown, Follows, lines_at-append, AreAtEnd, AreInTurn, turn-to-end, run_atoms, opening_world, commits-more, commit_holder, World, Memory, opening, commits_in, servers_from, Step, NextEvent, Tell, CloseClients, after, run, IsRun, Printed, FileThere, PageStored, UnitLocked, text_printed, IsPrinted, Does, Item, events_of, steps_of, told_by, told_under, world_of, after_item, at_event, IsReported, Comeback, Ending, AreFilesOf, restarts_from, steps_at_end, world_at_end, settles, ArePrinted, IsEnding, told_by_steps, texts_from, at_end, lines_to_end, AreAsTold}
use Rattle.jn_system.specs.WholeSystem.Steps.{Crash}
use Rattle.jn_report.specs.declared.line.Text.TheVariants as says
use Rattle.jn_system_reports.specs.Reporting.Reported.{lines_of}
use Rattle.jn_system_reports.proofs.Reporting.Lists.{In, Each, in-first, in-second, in-either, each-in, each-append}
use Rattle.jn_system_reports.proofs.Reporting.Reached.{Reached, LineFact, next-reached, opening-reached}
use Rattle.jn_system_reports.proofs.Reporting.Naming.{adds}
use Rattle.jn_system_reports.proofs.Reporting.Following.{run-in-turn, run-follows}
use Rattle.jn_system_reports.proofs.Causing.Ends.{end-told}
use Rattle.jn_system_reports.proofs.Telling.Tellings.{texts_of}
use Rattle.jn_system_reports.proofs.Telling.Quiet.{AreDumb}
use Rattle.jn_system_reports.proofs.Telling.Reports.{IsCalm, prints-dumb, texts-more, last-reached, end-reached, end-ops, end-as-told, beginning-told}
use Rattle.jn_system_reports.proofs.Showing.Within.{AllTell, Within, IsAt, run-within, items-tell, calm-tell, opening-within, ops-at, replay-same}
use Rattle.jn_system_reports.proofs.Showing.Shows.{shown-with}
use Rattle.jn_system_reports.proofs.Showing.Follows.{follows-to-end, counted-follows}
use Rattle.jn_system_reports.proofs.Showing.Prints.{AreSame, says-it, said-it, all-as, in-texts, from-texts, is-there, none-locked, shows-files}

not-both : (b : Bool) → b ≡ true → b ≡ false → ⊥
not-both b e f = grind arith

-- ---- its steps

crashes-calm : (ss : List ServerNo) → Each IsCalm (map Crash ss)
crashes-calm [] = tt
crashes-calm (s ∷ ss) = (tt, crashes-calm ss)

closes-calm : (ss : List ServerNo) → Each IsCalm (map CloseClients ss)
closes-calm [] = tt
closes-calm (s ∷ ss) = (tt, closes-calm ss)

restarts-calm : (first : ℕ) (xs : List Comeback) → Each IsCalm (restarts_from first xs)
restarts-calm first [] = tt
restarts-calm first (x ∷ xs) = (tt, restarts-calm (first + 1) xs)

settle-calm : (step : Step) → settles step ≡ true → IsCalm step
settle-calm (Tell c command) h = absurd (not-both true refl (sym h))
settle-calm NextEvent h = absurd (not-both true refl (sym h))
settle-calm _ h = tt

settling-calm : (steps : List Step) → list_all settles steps ≡ true → Each IsCalm steps
settling-calm [] h = tt
settling-calm (step ∷ steps) h = (settle-calm step (first-of (settles step) (list_all settles steps) h), settling-calm steps (second-of (settles step) (list_all settles steps) h))
  where
    first-of : (a b : Bool) → (a && b) ≡ true → a ≡ true
    first-of a b k = grind arith

    second-of : (a b : Bool) → (a && b) ≡ true → b ≡ true
    second-of a b k = grind arith

end-calm : (servers : ℕ) (e : Ending) → list_all settles e.settling ≡ true → Each IsCalm (steps_at_end servers e)
end-calm servers e h = let ss = servers_from 0 servers in let rs = restarts_from 0 e.comebacks in (
  tt,
  each-append IsCalm (map Crash ss ++ rs ++ map CloseClients ss) e.settling
      (each-append IsCalm (map Crash ss ++ rs) (map CloseClients ss) (each-append IsCalm (map Crash ss) rs (crashes-calm ss) (restarts-calm 0 e.comebacks)) (closes-calm ss)) (settling-calm e.settling h),
)

-- a text that steps may report
abbrev IsOfStep : Text → Type 0
IsOfStep (says.File s f) = ⊥
IsOfStep (says.Page s f p bytes) = ⊥
IsOfStep (says.Locked s u T) = ⊥
IsOfStep text = Unit {0}

step-as-in : (files : AllFiles) (y : Text) → IsOfStep y → IsAsIn files y
step-as-in files (says.File s f) h = absurd h
step-as-in files (says.Page s f p bytes) h = absurd h
step-as-in files _ h = tt

step-free : (y : Text) → IsOfStep y → is_locked y ≡ false
step-free (says.Locked s u T) h = absurd h
step-free _ h = refl

step-no-file : (s : ServerNo) (f : FileNo) (y : Text) → IsOfStep y → prints_file s f y ≡ true → ⊥
step-no-file s f (says.File t g) h e = h
step-no-file s f _ h e = not-both true refl (sym e)

module _ (files : AllFiles) (epochs : ServerNo → ℕ) where
  lines-then : (steps : List Step) (r : World) → Reached files epochs r → IsRun steps r → (run steps r).lines ≡ r.lines ++ told_by_steps steps r
  lines-then [] r h i = sym (append-nil r.lines)
  lines-then (step ∷ steps) r h i = lines-then steps (after step r) (next-reached files epochs r step i.0 h) i.1 ∙ ap (λ l. l ++ told_by_steps steps (after step r)) (adds files epochs r h step)
      ∙ append_assoc r.lines (told_by (Does step) r) (told_by_steps steps (after step r))

  told-of-step : (r : World) → Reached files epochs r → (y : Text) → In y r.lines → IsOfStep y
  told-of-step r h y k = by y (each-in (LineFact r.sent (run_atoms h.atoms (opening_world files epochs))) r.lines y h.lines k)
    where
      by : (x : Text) → LineFact r.sent (run_atoms h.atoms (opening_world files epochs)) x → IsOfStep x
      by (says.File s f) l = l
      by (says.Page s f p bytes) l = l
      by (says.Locked s u T) l = l
      by _ l = tt

-- ---- the prints of all servers

-- the print of a server
abbrev IsPrintOf : ℕ → List (List Printed) → ServerNo → List Printed → Type 0
IsPrintOf first [] s p = ⊥
IsPrintOf first (x ∷ xs) s p = (((record { 0 = first }) ≡ s) × (x ≡ p)) ⊎ IsPrintOf (first + 1) xs s p

find-print : (first : ℕ) (xs : List (List Printed)) (s : ServerNo) → first ≤ s.0 → s.0 < first + length xs → (p : List Printed) × IsPrintOf first xs s p
find-print first [] s low high = absurd (none first s.0 low high)
  where
    none : (a b : ℕ) → a ≤ b → b < a + 0 → ⊥
    none a b h k = omega (arith, h, k)
find-print first (x ∷ xs) s low high = by (tell (record { 0 = first }) s) (λ l. find-print (first + 1) xs s l (shift s.0 first (length xs) high))
  where
    tell : (a b : ServerNo) → (a ≡ b) ⊎ (a.0 ≡ b.0 → ⊥)
    tell a b = of (server_tells a b)
      where
        of : ((server_eq a b ≡ true) × (a ≡ b)) ⊎ ((server_eq a b ≡ false) × (a ≡ b → ⊥)) → (a ≡ b) ⊎ (a.0 ≡ b.0 → ⊥)
        of (inl k) = inl k.1
        of (inr k) = inr (λ e. k.1 (ap (λ n. record { 0 = n }) e))

    shift : (a b c : ℕ) → a < b + suc c → a < b + 1 + c
    shift a b c h = omega (arith, h)

    next : (a b : ℕ) → a ≤ b → (a ≡ b → ⊥) → a + 1 ≤ b
    next a b h k = grind (arith)

    by : ((record { 0 = first }) ≡ s) ⊎ (first ≡ s.0 → ⊥) → (first + 1 ≤ s.0 → (p : List Printed) × IsPrintOf (first + 1) xs s p) → (p : List Printed) × IsPrintOf first (x ∷ xs) s p
    by (inl e) on = (x, inl (e, refl))
    by (inr ne) on = let k = on (next first s.0 low ne) in (k.0, inr k.1)

print-in : (first : ℕ) (xs : List (List Printed)) (s : ServerNo) (p : List Printed) (y : Text) → IsPrintOf first xs s p → In y (map (text_printed s) p) → In y (texts_from first xs)
print-in first [] s p y h k = absurd h
print-in first (x ∷ xs) s p y (inl h) k = in-first y (map (text_printed (record { 0 = first })) x) (texts_from (first + 1) xs) (subst (λ (t : ServerNo). In y (map (text_printed t) x)) (sym h.0) (subst (λ (l : List Printed). In y (map (text_printed s) l)) (sym h.1) k))
print-in first (x ∷ xs) s p y (inr h) k = in-second y (map (text_printed (record { 0 = first })) x) (texts_from (first + 1) xs) (print-in (first + 1) xs s p y h k)

-- where a printed text comes from
record FromPrint (first : ℕ) (xs : List (List Printed)) (y : Text) : Type 0 where
  server : ServerNo
  prints : List Printed
  is : IsPrintOf first xs server prints
  is_in : In y (map (text_printed server) prints)

from-prints : (first : ℕ) (xs : List (List Printed)) (y : Text) → In y (texts_from first xs) → FromPrint first xs y
from-prints first [] y k = absurd k
from-prints first (x ∷ xs) y k = by (in-either y (map (text_printed (record { 0 = first })) x) (texts_from (first + 1) xs) k) (from-prints (first + 1) xs y)
  where
    by : In y (map (text_printed (record { 0 = first })) x) ⊎ In y (texts_from (first + 1) xs) → (In y (texts_from (first + 1) xs) → FromPrint (first + 1) xs y) → FromPrint first (x ∷ xs) y
    by (inl j) on = record { server = record { 0 = first }; prints = x; is = inl (refl, refl); is_in = j }
    by (inr j) on = let q = on j in record { server = q.server; prints = q.prints; is = inr q.is; is_in = q.is_in }

printed-of : (first : ℕ) (w : World) (xs : List (List Printed)) (s : ServerNo) (p : List Printed) → ArePrinted first w xs → IsPrintOf first xs s p → IsPrinted s w p
printed-of first w [] s p h k = absurd k
printed-of first w (x ∷ xs) s p h (inl k) = subst (λ (t : ServerNo). IsPrinted t w p) k.0 (subst (λ (l : List Printed). IsPrinted (record { 0 = first }) w l) k.1 h.0)
printed-of first w (x ∷ xs) s p h (inr k) = printed-of (first + 1) w xs s p h.1 k

at-least : (first : ℕ) (xs : List (List Printed)) (s : ServerNo) (p : List Printed) → IsPrintOf first xs s p → first ≤ s.0
at-least first [] s p k = absurd k
at-least first (x ∷ xs) s p (inl k) = subst (λ (t : ServerNo). first ≤ t.0) k.0 (self first)
  where
    self : (n : ℕ) → n ≤ n
    self n = omega arith
at-least first (x ∷ xs) s p (inr k) = below first s.0 (at-least (first + 1) xs s p k)
  where
    below : (a b : ℕ) → a + 1 ≤ b → a ≤ b
    below a b h = omega (arith, h)

-- a server prints once
same-print : (first : ℕ) (xs : List (List Printed)) (s : ServerNo) (p q : List Printed) → IsPrintOf first xs s p → IsPrintOf first xs s q → p ≡ q
same-print first [] s p q h k = absurd h
same-print first (x ∷ xs) s p q (inl h) (inl k) = sym h.1 ∙ k.1
same-print first (x ∷ xs) s p q (inl h) (inr k) = absurd (apart first (subst (λ (t : ServerNo). first + 1 ≤ t.0) (sym h.0) (at-least (first + 1) xs s q k)))
  where
    apart : (n : ℕ) → n + 1 ≤ n → ⊥
    apart n e = omega (arith, e)
same-print first (x ∷ xs) s p q (inr h) (inl k) = absurd (apart first (subst (λ (t : ServerNo). first + 1 ≤ t.0) (sym k.0) (at-least (first + 1) xs s p h)))
  where
    apart : (n : ℕ) → n + 1 ≤ n → ⊥
    apart n e = omega (arith, e)
same-print first (x ∷ xs) s p q (inr h) (inr k) = same-print (first + 1) xs s p q h k

dumb-append : (a b : List Text) → AreDumb a → AreDumb b → AreDumb (a ++ b)
dumb-append [] b h k = k
dumb-append (x ∷ a) b h k = (h.0, dumb-append a b h.1 k)

-- ---- its lines

module _ (files : AllFiles) (w : World) (same : (s : ServerNo) → AreSame files s w) (told : List Text) (of_steps : (y : Text) → In y told → IsOfStep y) (xs : List (List Printed)) (h : ArePrinted 0 w xs) (count : ℕ) where
  abbrev all : List Text
  all = told ++ (texts_from 0 xs ++ says.Commits count ∷ [])

  abbrev ls : List Line
  ls = at_end all

  -- a text of a step or the count, or one that a server prints
  abbrev Origin : Text → Type 0
  Origin y = IsOfStep y ⊎ FromPrint 0 xs y

  origin : (y : Text) → In y all → Origin y
  origin y k = by (in-either y told (texts_from 0 xs ++ says.Commits count ∷ []) k)
    where
      last : In y (texts_from 0 xs) ⊎ In y (says.Commits count ∷ []) → Origin y
      last (inl j) = inr (from-prints 0 xs y j)
      last (inr (inl e)) = inl (subst IsOfStep e tt)
      last (inr (inr j)) = absurd j

      by : In y told ⊎ In y (texts_from 0 xs ++ says.Commits count ∷ []) → Origin y
      by (inl j) = inl (of_steps y j)
      by (inr j) = last (in-either y (texts_from 0 xs) (says.Commits count ∷ []) j)

  as-files : (y : Text) → Origin y → IsAsIn files y
  as-files y (inl k) = step-as-in files y k
  as-files y (inr q) = let x = from-texts q.server q.prints y q.is_in in subst (IsAsIn files) x.text (is-there files q.server w (same q.server) q.prints (printed-of 0 w xs q.server q.prints h q.is) x.print x.is_in)

  all-files : AllAsIn files (at_end (told ++ (texts_from 0 xs ++ says.Commits count ∷ [])))
  all-files = all-as files AtEnd all (λ y k. as-files y (origin y k))

  module _ (s : ServerNo) (p : List Printed) (is : IsPrintOf 0 xs s p) where
    abbrev Prints : FileNo → Type 0
    Prints f = (x : Printed) × (In x p × (prints_file s f (text_printed s x) ≡ true))

    its-server : (f : FileNo) (t : ServerNo) (x : Printed) → prints_file s f (text_printed t x) ≡ true → t ≡ s
    its-server f t (FileThere g) e = same-server t s (first-of (server_eq t s) (file_eq g f) e)
      where
        first-of : (a b : Bool) → (a && b) ≡ true → a ≡ true
        first-of a b k = grind arith

        same-server : (a b : ServerNo) → server_eq a b ≡ true → a ≡ b
        same-server a b k = grind (arith, server_tells a b)
    its-server f t (PageStored g q bytes) e = absurd (not-both true refl (sym e))
    its-server f t (UnitLocked u T) e = absurd (not-both true refl (sym e))

    by-origin : (f : FileNo) (y : Text) → prints_file s f y ≡ true → Origin y → Prints f
    by-origin f y e (inl k) = absurd (step-no-file s f y k e)
    by-origin f y e (inr q) = let x = from-texts q.server q.prints y q.is_in in let told_by = ap (prints_file s f) x.text ∙ e in let t = its-server f q.server x.print told_by in
        (x.print, (subst (λ (l : List Printed). In x.print l) (same-print 0 xs s q.prints p (subst (λ (r : ServerNo). IsPrintOf 0 xs r q.prints) t q.is) is) x.is_in, subst (λ (r : ServerNo). prints_file s f (text_printed r x.print) ≡ true) t told_by))

    only : (f : FileNo) → says_it (prints_file s f) (at_end (told ++ (texts_from 0 xs ++ says.Commits count ∷ []))) ≡ true → Prints f
    only f e = let y = said-it AtEnd (prints_file s f) all e in by-origin f y.text y.passes (origin y.text y.is_in)

    server-shown : ShowsFiles files s (at_end (told ++ (texts_from 0 xs ++ says.Commits count ∷ [])))
    server-shown = shows-files files s w (same s) p (printed-of 0 w xs s p h is) ls all-files
        (λ test x k e. says-it AtEnd test all (text_printed s x) (in-second (text_printed s x) told (texts_from 0 xs ++ says.Commits count ∷ []) (in-first (text_printed s x) (texts_from 0 xs) (says.Commits count ∷ []) (print-in 0 xs s p (text_printed s x) is (in-texts s p x k)))) e) only

  all-shown : (s : ServerNo) → s.0 < length xs → ShowsFiles files s (at_end (told ++ (texts_from 0 xs ++ says.Commits count ∷ [])))
  all-shown s up = let p = find-print 0 xs s (least s.0) (none-more s.0 (length xs) up) in server-shown s p.0 p.1
    where
      least : (n : ℕ) → 0 ≤ n
      least n = omega arith

      none-more : (a b : ℕ) → a < b → a < 0 + b
      none-more a b k = omega (arith, k)

-- ---- lines at the end

at-end-more : (a b : List Text) → at_end (a ++ b) ≡ at_end a ++ at_end b
at-end-more [] b = refl
at-end-more (x ∷ a) b = ap (λ l. (record { when = AtEnd; text = x }) ∷ l) (at-end-more a b)

texts-at-end : (a : List Text) → texts_of (at_end a) ≡ a
texts-at-end [] = refl
texts-at-end (x ∷ a) = ap (λ l. x ∷ l) (texts-at-end a)

are-at-end : (a : List Text) → AreAtEnd (at_end a)
are-at-end [] = tt
are-at-end (x ∷ a) = (refl, are-at-end a)

whole-at-end : (a : List Text) → lines_at AtEnd (at_end a) ≡ at_end a
whole-at-end [] = refl
whole-at-end (x ∷ a) = ap (λ l. (record { when = AtEnd; text = x }) ∷ l) (whole-at-end a)

event-at-end : (n : ℕ) (a : List Text) → lines_at AtEnd (at_event n a) ≡ []
event-at-end n [] = refl
event-at-end n (x ∷ a) = event-at-end n a

none-at-end : (items : List Item) (w : World) → lines_at AtEnd (lines_of items w) ≡ []
none-at-end [] w = refl
none-at-end (item ∷ items) w = lines_at-append AtEnd (at_event (w.event + 1) (told_under item w)) (lines_of items (after_item item w)) ∙ ap (λ l. l ++ lines_at AtEnd (lines_of items (after_item item w))) (event-at-end (w.event + 1) (told_under item w)) ∙ none-at-end items (after_item item w)

prints-silent : (first : ℕ) (xs : List (List Printed)) → AreDumb (texts_from first xs) × (commits_in (texts_from first xs) ≡ [])
prints-silent first [] = (tt, refl)
prints-silent first (x ∷ xs) = let one = prints-dumb (record { 0 = first }) x in let on = prints-silent (first + 1) xs in (
  dumb-append (map (text_printed (record { 0 = first })) x) (texts_from (first + 1) xs) one.0 on.0,
  commits-more (map (text_printed (record { 0 = first })) x) (texts_from (first + 1) xs) ∙ ap (λ l. l ++ commits_in (texts_from (first + 1) xs)) one.1 ∙ on.1,
)

-- ---- a run with its end

module _ (servers : ℕ) (files : AllFiles) (epochs : ServerNo → ℕ) (items : List Item) (e : Ending) (h : IsReported items (opening servers files epochs)) (k : IsEnding servers e (world_of items (opening servers files epochs))) where
  abbrev start : World
  start = opening servers files epochs

  abbrev w : World
  w = world_of items start

  abbrev steps : List Step
  steps = steps_at_end servers e

  abbrev told_then : List Text
  told_then = told_by_steps steps w

  abbrev printed : List Text
  printed = texts_from 0 e.prints

  abbrev count : List Text
  count = says.Commits (length (history_of (lines_of items start ++ at_end (told_then ++ printed)))) ∷ []

  abbrev lines : List Line
  lines = lines_to_end servers items e start

  calm : Each IsCalm (steps_at_end servers e)
  calm = end-calm servers e k.settling

  silent : AreDumb (printed ++ count) × (commits_in (printed ++ count) ≡ [])
  silent = let s = prints-silent 0 e.prints in (dumb-append printed count s.0 (tt, tt), commits-more printed count ∙ ap (λ l. l ++ []) s.1)

  same-texts : texts_of lines ≡ texts_of (lines_of items start) ++ (told_then ++ (printed ++ count))
  same-texts = texts-more (lines_of items start ++ at_end (told_then ++ printed)) (at_end count) ∙ ap (λ l. texts_of (lines_of items start ++ at_end (told_then ++ printed)) ++ l) (texts-at-end count)
      ∙ ap (λ l. l ++ count) (texts-more (lines_of items start) (at_end (told_then ++ printed)) ∙ ap (λ l. texts_of (lines_of items start) ++ l) (texts-at-end (told_then ++ printed)))
      ∙ append_assoc (texts_of (lines_of items start)) (told_then ++ printed) count ∙ ap (λ l. texts_of (lines_of items start) ++ l) (append_assoc told_then printed count)

  lines-then-end : lines_at AtEnd lines ≡ at_end (told_then ++ (printed ++ count))
  lines-then-end = lines_at-append AtEnd (lines_of items start ++ at_end (told_then ++ printed)) (at_end count)
      ∙ ap (λ l. l ++ at_end count) (lines_at-append AtEnd (lines_of items start) (at_end (told_then ++ printed)) ∙ ap (λ l. l ++ lines_at AtEnd (at_end (told_then ++ printed))) (none-at-end items start) ∙ whole-at-end (told_then ++ printed))
      ∙ sym (at-end-more (told_then ++ printed) count) ∙ ap at_end (append_assoc told_then printed count)

  turn : AreInTurn 1 (events_of items) lines
  turn = turn-to-end 1 (events_of items) (lines_of items start ++ at_end (told_then ++ printed)) (at_end count)
      (turn-to-end 1 (events_of items) (lines_of items start) (at_end (told_then ++ printed)) (run-in-turn files epochs servers items h) (are-at-end (told_then ++ printed))) (are-at-end count)

  follows : Follows (events_of items) lines
  follows = counted-follows (events_of items) (lines_of items start ++ at_end (told_then ++ printed)) (follows-to-end (events_of items) (lines_of items start) (told_then ++ printed) (end-told servers e w k.settling) (run-follows files epochs servers items h))

  reached : Reached files epochs (world_at_end servers e w)
  reached = end-reached servers files epochs [] items h steps k.steps calm (printed ++ count) silent.0 silent.1

  as-told : AreAsTold files (events_of items) lines lines (world_at_end servers e w)
  as-told = end-as-told servers files epochs [] items h steps k.steps calm (printed ++ count) silent.0 silent.1 lines same-texts turn follows

  of-steps : (y : Text) → In y told_then → IsOfStep y
  of-steps y j = told-of-step files epochs (world_at_end servers e w) reached y
      (subst (λ l. In y l) (sym (lines-then files epochs steps w (last-reached servers files epochs [] items h steps k.steps calm (printed ++ count) silent.0 silent.1) k.steps)) (in-second y w.lines told_then j))

  pub end-shown : (s : ServerNo) → s.0 < servers → ShowsFiles (replay_operations files (events_of items) lines (history_of lines)) s (lines_at AtEnd lines)
  end-shown s up = subst (λ l. ShowsFiles (replay_operations files (events_of items) lines (history_of lines)) s l) (sym lines-then-end)
      (all-shown (replay_operations files (events_of items) lines (history_of lines)) (world_at_end servers e w) (λ t. as-told.unlocked t) told_then of-steps e.prints k.prints _ s (subst (λ n. s.0 < n) (sym k.all_print) up))

  pub end-agrees : AreAsTold files (events_of items) lines lines (world_at_end servers e w)
  end-agrees = as-told

  -- a server that there isn't has no files
  beyond : AreFilesOf servers files → (s : ServerNo) → servers ≤ s.0 → (u : LockUnit) → replay_operations files (events_of items) lines (history_of lines) s u ≡ None
  beyond few s out u = ap (λ f. f u) (replay-same servers (events_of items) lines (history_of lines) files s out
      (λ T. subst (λ l. Each (IsAt servers (events_of items)) l) (sym (end-ops servers files epochs [] items h steps k.steps calm (printed ++ count) silent.0 silent.1 lines same-texts turn follows T)) (ops-at servers (events_of items) T None (world_at_end servers e w).lines within.lines))) ∙ few s u out
    where
      then-tell : AllTell servers (events_of items) files epochs (steps_of items) start
      then-tell = items-tell servers (events_of items) files epochs items start [] [] (sym (append-nil (events_of items))) refl (opening-reached files epochs servers) h.steps h.under

      before : Within servers (events_of items) (world_of items start)
      before = run-within servers (events_of items) files epochs (steps_of items) start (opening-reached files epochs servers) h.steps then-tell (opening-within servers (events_of items) files epochs)

      within : Within servers (events_of items) (world_at_end servers e (world_of items start))
      within = run-within servers (events_of items) files epochs (steps_at_end servers e) (world_of items start) (last-reached servers files epochs [] items h steps k.steps calm (printed ++ count) silent.0 silent.1) k.steps
          (calm-tell servers (events_of items) files epochs (steps_at_end servers e) (world_of items start) calm) before

  pub end-all : AreFilesOf servers files → (s : ServerNo) → ShowsFiles (replay_operations files (events_of items) lines (history_of lines)) s (lines_at AtEnd lines)
  end-all few s = by (nat_lt s.0 servers) refl
    where
      below : nat_lt s.0 servers ≡ true → s.0 < servers
      below q = grind (arith, nat_tests)

      not-below : nat_lt s.0 servers ≡ false → servers ≤ s.0
      not-below q = grind (arith, nat_tests)

      by : (b : Bool) → nat_lt s.0 servers ≡ b → ShowsFiles (replay_operations files (events_of items) lines (history_of lines)) s (lines_at AtEnd lines)
      by true q = end-shown s (below q)
      by false q = record {
        printed = subst (λ l. AllAsIn (replay_operations files (events_of items) lines (history_of lines)) l) (sym lines-then-end) (all-files (replay_operations files (events_of items) lines (history_of lines)) (world_at_end servers e w) (λ t. as-told.unlocked t) told_then of-steps e.prints k.prints _);
        no_other_file = λ f z. beyond few s (not-below q) (File f);
        no_other_block = λ f p y z. beyond few s (not-below q) (Block f p);
      }

  -- the shows before it, by all lines
  pub so-far : OperationsShownSoFar files (events_of items) (lines_to_end servers items e start)
  so-far = shown-with files epochs servers items h lines (told_then ++ printed ++ count) (append_assoc (lines_of items start) (at_end (told_then ++ printed)) (at_end count) ∙ ap (λ l. lines_of items start ++ l) (sym (at-end-more (told_then ++ printed) count)))
      (λ before later q. subst (λ l. (g : IsReported l start) (j : IsRun steps (world_of l start)) → texts_of lines ≡ texts_of (lines_of l start) ++ (told_by_steps steps (world_of l start) ++ (printed ++ count)) → AreInTurn 1 (events_of l) lines → Follows (events_of l) lines → AreAsTold files (events_of l) lines (lines_of before start) (world_of before start)) (sym q)
      (λ g j x t f. beginning-told servers files epochs before later g steps j calm (printed ++ count) silent.0 silent.1 lines x t f) h k.steps same-texts turn follows)

  pub end-whole : AreFilesOf servers files → says_it is_locked (lines_at AtEnd (lines_to_end servers items e start)) ≡ false → OperationsShown files (events_of items) (lines_to_end servers items e start)
  end-whole few free = record { so_far = so-far; at_end = record { all = end-all few; unlocked = free } }

  -- where nothing is held for commit, nothing is locked
  pub end-free : ((s : ServerNo) (m : Memory) (u : LockUnit) → (world_at_end servers e (world_of items (opening servers files epochs))).memory s ≡ Some m → commit_holder u m.worker ≡ None) → says_it is_locked (lines_at AtEnd (lines_to_end servers items e start)) ≡ false
  end-free free = ap (says_it is_locked) lines-then-end ∙ by (says_it is_locked (at_end (told_then ++ (printed ++ count)))) refl
    where
      one : (y : Text) → IsOfStep y ⊎ FromPrint 0 e.prints y → is_locked y ≡ false
      one y (inl j) = step-free y j
      one y (inr q) = let x = from-texts q.server q.prints y q.is_in in let p = printed-of 0 (world_at_end servers e w) e.prints q.server q.prints k.prints q.is in
          subst (λ (z : Text). is_locked z ≡ false) x.text (none-locked (replay_operations files (events_of items) lines (history_of lines)) q.server (world_at_end servers e w) (as-told.unlocked q.server) q.prints p (λ u. free q.server p.memory u p.up) x.print x.is_in)

      by : (b : Bool) → says_it is_locked (at_end (told_then ++ (printed ++ count))) ≡ b → b ≡ false
      by false q = refl
      by true q = let y = said-it AtEnd is_locked (told_then ++ (printed ++ count)) q in
          absurd (not-both (is_locked y.text) y.passes (one y.text (origin (replay_operations files (events_of items) lines (history_of lines)) (world_at_end servers e w) (λ t. as-told.unlocked t) told_then of-steps e.prints k.prints _ y.text y.is_in)))
